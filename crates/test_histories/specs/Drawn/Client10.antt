-- A drawn session of a client, written by tools/second_reading.
use Rattle.ssh_model.specs.Protocol.Sessions.Parties.{Parties}
use Rattle.std.specs.Prelude.{List, ℕ, codes, ◌∷◌, [], false, replicate, None, true, Some, ◌++◌}
use Rattle.test_histories.specs.Words.{ends_of, with_cookie, proposing, guessing, says, hears, hears_on, says_on}
use Rattle.ssh_model.specs.declared.side.Side.TheVariants.{Client}
use Rattle.ssh_model.specs.declared.strictness.Strictness.TheVariants.{Require}
use Rattle.ssh_model.specs.Protocol.Sessions.Items.{Item, Item.Fed, Item.SentLine, Item.Sent, Item.TookLine, Item.Took}
use Rattle.ssh_model.specs.Protocol.Sessions.Items.{Item.Asked, Ask.AskProbe, Item.AskRefused, Item.Told, Fact.Completed}
use Rattle.ssh_model.specs.Protocol.Sessions.Items.{Ask.AskService, Ask.AskPassword, Fact.Debugged, Fact.NotImplemented}
use Rattle.ssh_model.specs.Protocol.Sessions.Items.{Fact.Ignored, Fact.Service, Ask.AskConfirm, Fact.Authenticated}
use Rattle.ssh_model.specs.Protocol.Sessions.Items.{Fact.Opened, Ask.AskGlobal, Ask.AskData, Fact.Global, Ask.AskRekey}
use Rattle.ssh_model.specs.Protocol.Sessions.Items.{Ask.AskEof, Ask.AskGlobalReply, Fact.GotData, Fact.Closed, Ask.AskAdjust}
use Rattle.ssh_model.specs.Protocol.Sessions.Items.{Ask, Ask.AskClose, Ask.AskNone, Ask.AskRefuse}
use Rattle.ssh_model.specs.Protocol.Wire.Message.{Msg.KexInit, Msg.KexEcdhInit, Msg.KexEcdhReply, Msg.NewKeys, Msg.Debug}
use Rattle.ssh_model.specs.Protocol.Wire.Message.{Msg.Unimplemented, Msg.ServiceRequest, Msg.Ignore, Msg.ServiceAccept}
use Rattle.ssh_model.specs.Protocol.Wire.Message.{Msg.UserauthRequest, Method.Password, Msg.UserauthSuccess, Msg.Unknown}
use Rattle.ssh_model.specs.Protocol.Wire.Message.{Msg.ChannelOpen, Msg.GlobalRequest, Msg.RequestFailure}
use Rattle.ssh_model.specs.Protocol.Wire.Message.{Msg.ChannelOpenConfirmation, Msg.ChannelData, Msg.ChannelClose, Msg}
use Rattle.ssh_model.specs.Protocol.Wire.Message.{Msg.ChannelWindowAdjust, Msg.UserauthFailure}
use Rattle.ssh_model.specs.declared.ask_refusal.AskRefusal.{AskRefusal}
use Rattle.ssh_model.specs.declared.request_kind.RequestKind.TheVariants as kind
use Rattle.ssh_model.specs.Protocol.KeyExchange.Exchange.{mpint_of}

-- the ends, of which the client has drawn settings
abbrev pub ends : Parties (List ℕ)
ends = ends_of Client (record {
  line = codes "SSH-2.0-c";
  kex = codes "k2" ∷ [];
  host = codes "h1" ∷ [];
  encryption = codes "e2" ∷ codes "e1" ∷ [];
  mac = codes "m2" ∷ codes "m1" ∷ codes "m3" ∷ [];
  epoch_limit = 9;
  tries = 1;
  methods = codes "publickey" ∷ codes "password" ∷ [];
  strictness = Require;
  takes_extensions = false;
  extensions = [];
})

-- the turns
abbrev pub turns : List (List Item)
turns =
    (Fed (replicate 16 191) (replicate 32 229) ∷ SentLine (codes "SSH-2.0-c")
    ∷ (Sent None (KexInit (with_cookie (replicate 16 191) (proposing (codes "k2" ∷ codes "kex-strict-c-v00@openssh.com" ∷ []) (codes "h1"
    ∷ []) (codes "e2" ∷ codes "e1" ∷ []) (codes "e2" ∷ codes "e1" ∷ []) (codes "m2" ∷ codes "m1" ∷ codes "m3" ∷ []) (codes "m2" ∷ codes "m1"
    ∷ codes "m3" ∷ [])))) (codes "offer 1")) ∷ [])
    ∷ (TookLine (codes "SSH-2.0-peer") ∷ [])
    ∷ ((Took None (KexInit (guessing (codes "kex-strict-s-v00@openssh.com" ∷ codes "k2" ∷ []) (codes "h1" ∷ []) (codes "e2" ∷ codes "e1"
    ∷ []) (codes "e2" ∷ codes "e1" ∷ []) (codes "m2" ∷ codes "m1" ∷ []) (codes "m1" ∷ codes "m2" ∷ codes "m3" ∷ []))) (codes "offer 2"))
    ∷ says (KexEcdhInit (replicate 32 229)) ∷ [])
    ∷ (Asked (AskProbe (codes "u") (codes "alg") (codes "k")) ∷ AskRefused AskRefusal.NotYet ∷ [])
    ∷ ((hears (KexEcdhReply (codes "key of h1") (229 ∷ 229 ∷ 229 ∷ replicate 29 158) (codes "right"))) ∷ says NewKeys ∷ Told (Completed 1)
    ∷ [])
    ∷ (Asked AskService ∷ AskRefused AskRefusal.NotYet ∷ [])
    ∷ (Asked (AskPassword (codes "u") (codes "q")) ∷ AskRefused AskRefusal.NotYet ∷ [])
    ∷ (hears NewKeys ∷ [])
    ∷ (hears (Debug true (codes "abc") []) ∷ Told (Debugged true (codes "abc")) ∷ [])
    ∷ (hears (Unimplemented 9) ∷ Told (NotImplemented 9) ∷ [])
    ∷ (Asked AskService ∷ says (ServiceRequest (codes "ssh-userauth")) ∷ [])
    ∷ (hears (Unimplemented 8) ∷ Told (NotImplemented 8) ∷ [])
    ∷ (hears (Unimplemented 9) ∷ Told (NotImplemented 9) ∷ [])
    ∷ (Asked AskService ∷ AskRefused AskRefusal.Busy ∷ [])
    ∷ (hears (Ignore (codes "abc")) ∷ Told Ignored ∷ [])
    ∷ (hears (ServiceAccept (codes "ssh-userauth")) ∷ Told Service ∷ [])
    ∷ (Asked AskService ∷ AskRefused AskRefusal.Busy ∷ [])
    ∷ (Asked (AskConfirm 1 9 32768 []) ∷ AskRefused AskRefusal.NotYet ∷ [])
    ∷ (hears (Ignore (codes "abc")) ∷ Told Ignored ∷ [])
    ∷ (Asked AskService ∷ AskRefused AskRefusal.Busy ∷ [])
    ∷ (Asked (AskPassword (codes "u") (codes "q")) ∷ says (UserauthRequest (codes "u") (codes "ssh-connection") (Password (codes "q") None))
    ∷ [])
    ∷ (hears UserauthSuccess ∷ Told (Authenticated kind.Password) ∷ [])
    ∷ (hears (Debug true (codes "a") []) ∷ Told (Debugged true (codes "a")) ∷ [])
    ∷ (hears (Unknown 54) ∷ says (Unimplemented 9) ∷ [])
    ∷ (hears_on 1 (ChannelOpen (codes "session") 5 12 6 []) ∷ Told (Opened 1 (codes "session") 12 6 []) ∷ [])
    ∷ (Asked (AskGlobal (codes "g") true []) ∷ says (GlobalRequest (codes "g") true []) ∷ [])
    ∷ (Fed (replicate 16 162) (replicate 32 50) ∷ [])
    ∷ (Asked (AskData 1 (Some 1) (codes "bbbb")) ∷ AskRefused AskRefusal.NoChannel ∷ [])
    ∷ (hears (GlobalRequest (codes "g") true (codes "abc")) ∷ Told (Global (codes "g") true (codes "abc")) ∷ [])
    ∷ (Asked AskRekey ∷ (Sent None (KexInit (with_cookie (replicate 16 162) (proposing (codes "k2" ∷ []) (codes "h1" ∷ []) (codes "e2"
    ∷ codes "e1" ∷ []) (codes "e2" ∷ codes "e1" ∷ []) (codes "m2" ∷ codes "m1" ∷ codes "m3" ∷ []) (codes "m2" ∷ codes "m1" ∷ codes "m3"
    ∷ [])))) (codes "offer 3")) ∷ [])
    ∷ (hears_on 2 (ChannelOpen (codes "session") 2 5 5 []) ∷ Told (Opened 2 (codes "session") 5 5 []) ∷ [])
    ∷ (hears_on 3 (ChannelOpen (codes "session") 5 11 8 []) ∷ Told (Opened 3 (codes "session") 11 8 []) ∷ [])
    ∷ (Fed (replicate 16 1) (replicate 32 41) ∷ [])
    ∷ ((Took None (KexInit (guessing (codes "k2" ∷ []) (codes "h1" ∷ []) (codes "e1" ∷ codes "e2" ∷ []) (codes "e1" ∷ codes "e2"
    ∷ []) (codes "m2" ∷ codes "m1" ∷ codes "m3" ∷ []) (codes "m1" ∷ codes "m2" ∷ []))) (codes "offer 4"))
    ∷ says (KexEcdhInit (replicate 32 50)) ∷ [])
    ∷ (hears (Unknown 8) ∷ says (Unimplemented 15) ∷ [])
    ∷ (hears (Unimplemented 5) ∷ Told (NotImplemented 5) ∷ [])
    ∷ (hears (Unimplemented 9) ∷ Told (NotImplemented 9) ∷ [])
    ∷ (Asked (AskData 2 None []) ∷ AskRefused AskRefusal.Busy ∷ [])
    ∷ (Asked (AskEof 2) ∷ AskRefused AskRefusal.Busy ∷ [])
    ∷ (hears (KexEcdhReply (codes "key of h1") (codes "222ggggggggggggggggggggggggggggg") (codes "right")) ∷ says NewKeys
    ∷ Told (Completed 2) ∷ [])
    ∷ (Asked (AskGlobal (codes "g") true []) ∷ says (GlobalRequest (codes "g") true []) ∷ [])
    ∷ (hears (Debug true (codes "a") []) ∷ Told (Debugged true (codes "a")) ∷ [])
    ∷ (hears NewKeys ∷ [])
    ∷ (hears (Debug true (codes "a") []) ∷ Told (Debugged true (codes "a")) ∷ [])
    ∷ ((Took None (KexInit (guessing (codes "k2" ∷ []) (codes "h1" ∷ []) (codes "e2" ∷ codes "e1" ∷ []) (codes "e2" ∷ codes "e1"
    ∷ []) (codes "m1" ∷ codes "m2" ∷ []) (codes "m2" ∷ codes "m1" ∷ codes "m3" ∷ []))) (codes "offer 5"))
    ∷ (Sent None (KexInit (with_cookie (replicate 16 1) (proposing (codes "k2" ∷ []) (codes "h1" ∷ []) (codes "e2" ∷ codes "e1"
    ∷ []) (codes "e2" ∷ codes "e1" ∷ []) (codes "m2" ∷ codes "m1" ∷ codes "m3" ∷ []) (codes "m2" ∷ codes "m1" ∷ codes "m3"
    ∷ [])))) (codes "offer 6")) ∷ says (KexEcdhInit (replicate 32 41)) ∷ [])
    ∷ (hears (Unimplemented 8) ∷ Told (NotImplemented 8) ∷ [])
    ∷ ((hears (KexEcdhReply (codes "key of h1") (41 ∷ replicate 31 32) (codes "right"))) ∷ says NewKeys ∷ Told (Completed 3) ∷ [])
    ∷ (Asked (AskGlobalReply false []) ∷ says RequestFailure ∷ [])
    ∷ (Asked (AskConfirm 3 12 6 []) ∷ says_on 3 (ChannelOpenConfirmation 5 3 12 6 []) ∷ [])
    ∷ (Asked (AskConfirm 2 7 32768 []) ∷ says_on 2 (ChannelOpenConfirmation 2 2 7 32768 []) ∷ [])
    ∷ (hears NewKeys ∷ [])
    ∷ (hears_on 3 (ChannelData 3 (codes "aaaa")) ∷ Told (GotData 3 None (codes "aaaa")) ∷ [])
    ∷ (hears_on 2 (ChannelClose 2) ∷ says_on 2 (ChannelClose 2) ∷ Told (Closed 2) ∷ [])
    ∷ (hears (Debug true (codes "a") []) ∷ Told (Debugged true (codes "a")) ∷ [])
    ∷ (hears_on 3 (ChannelData 3 (codes "aaaaaa")) ∷ Told (GotData 3 None (codes "aaaaaa")) ∷ [])
    ∷ (Asked (AskAdjust 0 4294967288) ∷ AskRefused AskRefusal.NoChannel ∷ []) ∷ []

-- messages that might come at any moment
abbrev pub messages : List Msg
messages =
    (KexInit (proposing (codes "k2" ∷ []) (codes "h1" ∷ []) (codes "e2" ∷ codes "e1" ∷ []) (codes "e1" ∷ codes "e2" ∷ []) (codes "m3"
    ∷ codes "m2" ∷ codes "m1" ∷ []) (codes "m1" ∷ codes "m2" ∷ [])))
    ∷ (KexInit (guessing (codes "k2" ∷ codes "k1" ∷ []) (codes "h1" ∷ []) (codes "e1" ∷ codes "e2" ∷ []) (codes "e1" ∷ codes "e2"
    ∷ []) (codes "m3" ∷ codes "m1" ∷ codes "m2" ∷ []) (codes "m3" ∷ codes "m2" ∷ [])))
    ∷ (ChannelData 3 (codes "aaaaaa"))
    ∷ (ChannelData 1 (codes "a"))
    ∷ (ChannelWindowAdjust 0 0)
    ∷ (KexEcdhReply (codes "key of h1") (0 ∷ 0 ∷ 0 ∷ replicate 29 147) (codes "right"))
    ∷ (KexEcdhReply (codes "key of h") (229 ∷ replicate 31 123) (codes "right"))
    ∷ (KexEcdhReply (codes "key of h1") (0 ∷ 0 ∷ 0 ∷ replicate 29 97) (codes "right"))
    ∷ (ChannelOpenConfirmation 1 8 8 8 [])
    ∷ (KexEcdhInit (50 ∷ replicate 31 142))
    ∷ (ServiceRequest (codes "ssh-connection"))
    ∷ (Unknown 32)
    ∷ (Debug true (codes "a") [])
    ∷ (UserauthFailure (codes "password" ∷ []) false) ∷ []

-- asks that might come at any moment
abbrev pub asks : List Ask
asks =
    (AskData 0 (Some 1) (codes "bbbb"))
    ∷ (AskData 0 (Some 1) (replicate 9 98))
    ∷ (AskProbe (codes "u") (codes "alg") (codes "k"))
    ∷ (AskConfirm 1 4 8 [])
    ∷ (AskPassword (codes "u") (codes "p"))
    ∷ (AskService)
    ∷ (AskClose 1)
    ∷ (AskNone (codes "guest"))
    ∷ (AskRefuse 1 1) ∷ []

-- numbers that might come at any moment
abbrev pub numbers : List ℕ
numbers =
    1 ∷ 4 ∷ 6 ∷ 19 ∷ 21 ∷ 22 ∷ 29 ∷ 30 ∷ 31 ∷ 53 ∷ 89 ∷ 101 ∷ []

-- the text that is hashed in this exchange
abbrev pub text_0 : List ℕ
text_0 =
    0 ∷ 0 ∷ 0 ∷ 9 ∷ codes "SSH-2.0-c" ++ 0 ∷ 0 ∷ 0 ∷ 12 ∷ codes "SSH-2.0-peer" ++ 0 ∷ 0 ∷ 0 ∷ 7 ∷ codes "offer 1" ++ 0 ∷ 0 ∷ 0 ∷ 7
    ∷ codes "offer 2" ++ 0 ∷ 0 ∷ 0 ∷ 9 ∷ codes "key of h1" ++ 0 ∷ 0 ∷ 0 ∷ 32 ∷ replicate 32 229 ++ 0 ∷ 0 ∷ 0 ∷ 32 ∷ 229 ∷ 229 ∷ 229
    ∷ replicate 29 158 ++ mpint_of 0x7b7b7b7b7b7b7b7b7b7b7b7b7b7b7b7b7b7b7b7b7b7b7b7b7b7b7b7b7b

-- the text that is hashed in this exchange
abbrev pub text_1 : List ℕ
text_1 =
    0 ∷ 0 ∷ 0 ∷ 9 ∷ codes "SSH-2.0-c" ++ 0 ∷ 0 ∷ 0 ∷ 12 ∷ codes "SSH-2.0-peer" ++ 0 ∷ 0 ∷ 0 ∷ 7 ∷ codes "offer 3" ++ 0 ∷ 0 ∷ 0 ∷ 7
    ∷ codes "offer 4" ++ 0 ∷ 0 ∷ 0 ∷ 9 ∷ codes "key of h1" ++ 0 ∷ 0 ∷ 0 ∷ codes " 22222222222222222222222222222222" ++ 0 ∷ 0 ∷ 0
    ∷ codes " 222ggggggggggggggggggggggggggggg" ++ mpint_of 0x5555555555555555555555555555555555555555555555555555555555

-- the text that is hashed in this exchange
abbrev pub text_2 : List ℕ
text_2 =
    0 ∷ 0 ∷ 0 ∷ 9 ∷ codes "SSH-2.0-c" ++ 0 ∷ 0 ∷ 0 ∷ 12 ∷ codes "SSH-2.0-peer" ++ 0 ∷ 0 ∷ 0 ∷ 7 ∷ codes "offer 6" ++ 0 ∷ 0 ∷ 0 ∷ 7
    ∷ codes "offer 5" ++ 0 ∷ 0 ∷ 0 ∷ 9 ∷ codes "key of h1" ++ 0 ∷ 0 ∷ 0 ∷ 32 ∷ replicate 32 41 ++ 0 ∷ 0 ∷ 0 ∷ 32 ∷ 41 ∷ replicate 31 32
    ++ mpint_of 0x9090909090909090909090909090909090909090909090909090909090909
