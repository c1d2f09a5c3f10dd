-- A drawn session of a client, written by tools/second_reading.
use Rattle.ssh_model.specs.Protocol.Sessions.Parties.{Parties}
use Rattle.std.specs.Prelude.{List, ℕ, codes, ◌∷◌, [], true, replicate, None, ◌++◌, false, Some}
use Rattle.test_histories.specs.Words.{ends_of, with_cookie, proposing, says, hears, hears_on, says_on}
use Rattle.ssh_model.specs.declared.side.Side.TheVariants.{Client}
use Rattle.ssh_model.specs.declared.strictness.Strictness.TheVariants.{Off}
use Rattle.ssh_model.specs.Protocol.Sessions.Items.{Item, Item.Fed, Item.SentLine, Item.Sent, Item.TookLine, Item.Asked}
use Rattle.ssh_model.specs.Protocol.Sessions.Items.{Ask.AskProbe, Item.AskRefused, Item.Took, Ask.AskPassword, Item.Told}
use Rattle.ssh_model.specs.Protocol.Sessions.Items.{Fact.Completed, Ask.AskService, Fact.Service, Fact.NotImplemented}
use Rattle.ssh_model.specs.Protocol.Sessions.Items.{Fact.Ignored, Fact.Banner, Fact.Authenticated, Fact.Opened, Fact.Global}
use Rattle.ssh_model.specs.Protocol.Sessions.Items.{Ask.AskGlobal, Fact.GlobalDone, Ask.AskGlobalReply, Fact.Debugged}
use Rattle.ssh_model.specs.Protocol.Sessions.Items.{Ask.AskEof, Ask.AskData, Ask.AskConfirm, Ask.AskDisconnect, Item.Died}
use Rattle.ssh_model.specs.Protocol.Sessions.Items.{Ask, Ask.AskRekey, Ask.AskClose, Ask.AskNone, Ask.AskRequest}
use Rattle.ssh_model.specs.Protocol.Wire.Message.{Msg.KexInit, Msg.KexEcdhInit, Msg.KexEcdhReply, Msg.NewKeys}
use Rattle.ssh_model.specs.Protocol.Wire.Message.{Msg.ServiceRequest, Msg.ServiceAccept, Msg.Unknown, Msg.Unimplemented}
use Rattle.ssh_model.specs.Protocol.Wire.Message.{Msg.Ignore, Msg.UserauthBanner, Msg.UserauthRequest, Method.Publickey}
use Rattle.ssh_model.specs.Protocol.Wire.Message.{Msg.UserauthSuccess, Msg.ChannelOpen, Msg.GlobalRequest}
use Rattle.ssh_model.specs.Protocol.Wire.Message.{Msg.RequestFailure, Msg.Debug, Msg.ChannelOpenConfirmation, Msg.Disconnect}
use Rattle.ssh_model.specs.Protocol.Wire.Message.{Msg, Msg.ChannelData, Msg.ChannelWindowAdjust, Msg.ChannelEof}
use Rattle.ssh_model.specs.Protocol.Wire.Message.{Method.Password}
use Rattle.ssh_model.specs.declared.ask_refusal.AskRefusal.{AskRefusal}
use Rattle.ssh_model.specs.declared.request_kind.RequestKind.TheVariants as kind
use Rattle.ssh_model.specs.Protocol.KeyExchange.Exchange.{mpint_of}

-- the ends, of which the client has drawn settings
abbrev pub ends : Parties (List ℕ)
ends = ends_of Client (record {
  line = codes "SSH-2.0-c";
  kex = codes "k3" ∷ codes "k2" ∷ [];
  host = codes "h2" ∷ codes "h1" ∷ codes "h3" ∷ [];
  encryption = codes "e1" ∷ [];
  mac = codes "m1" ∷ codes "m3" ∷ [];
  epoch_limit = 6;
  tries = 2;
  methods = codes "publickey" ∷ codes "password" ∷ [];
  strictness = Off;
  takes_extensions = true;
  extensions = [];
})

-- the turns
abbrev pub turns : List (List Item)
turns =
    (Fed (replicate 16 238) (replicate 32 105) ∷ SentLine (codes "SSH-2.0-c")
    ∷ (Sent None (KexInit (with_cookie (replicate 16 238) (proposing (codes "k3" ∷ codes "k2" ∷ codes "ext-info-c" ∷ []) (codes "h2"
    ∷ codes "h1" ∷ codes "h3" ∷ []) (codes "e1" ∷ []) (codes "e1" ∷ []) (codes "m1" ∷ codes "m3" ∷ []) (codes "m1" ∷ codes "m3"
    ∷ [])))) (codes "offer 1")) ∷ [])
    ∷ (TookLine (codes "SSH-2.0-peer") ∷ [])
    ∷ (Asked (AskProbe (codes "u") (codes "alg") (codes "k")) ∷ AskRefused AskRefusal.NotYet ∷ [])
    ∷ ((Took None (KexInit (proposing (codes "k3" ∷ codes "k2" ∷ []) (codes "h2" ∷ codes "h1" ∷ codes "h3" ∷ []) (codes "e2" ∷ codes "e1"
    ∷ []) (codes "e1" ∷ codes "e2" ∷ []) (codes "m3" ∷ codes "m1" ∷ []) (codes "m1" ∷ codes "m3" ∷ codes "m2" ∷ []))) (codes "offer 2"))
    ∷ says (KexEcdhInit (replicate 32 105)) ∷ [])
    ∷ (Asked (AskPassword (codes "u") (codes "p")) ∷ AskRefused AskRefusal.NotYet ∷ [])
    ∷ ((hears (KexEcdhReply (codes "key of h2") (codes "iii" ++ replicate 29 217) (codes "right"))) ∷ says NewKeys ∷ Told (Completed 1)
    ∷ [])
    ∷ (hears NewKeys ∷ [])
    ∷ (Asked AskService ∷ says (ServiceRequest (codes "ssh-userauth")) ∷ [])
    ∷ (hears (ServiceAccept (codes "ssh-userauth")) ∷ Told Service ∷ [])
    ∷ (hears (Unknown 32) ∷ says (Unimplemented 4) ∷ [])
    ∷ (Asked AskService ∷ AskRefused AskRefusal.Busy ∷ [])
    ∷ (hears (Unimplemented 3) ∷ Told (NotImplemented 3) ∷ [])
    ∷ (hears (Ignore (codes "abc")) ∷ Told Ignored ∷ [])
    ∷ (hears (UserauthBanner [] []) ∷ Told (Banner []) ∷ [])
    ∷ (hears (Ignore (codes "abc")) ∷ Told Ignored ∷ [])
    ∷ (hears (Unimplemented 7) ∷ Told (NotImplemented 7) ∷ [])
    ∷ (Asked (AskProbe (codes "u") (codes "alg") (codes "k"))
    ∷ says (UserauthRequest (codes "u") (codes "ssh-connection") (Publickey (codes "alg") (codes "k") None)) ∷ [])
    ∷ (hears UserauthSuccess ∷ Told (Authenticated kind.Probe) ∷ [])
    ∷ (hears_on 1 (ChannelOpen (codes "session") 2 4 5 []) ∷ Told (Opened 1 (codes "session") 4 5 []) ∷ [])
    ∷ (hears (GlobalRequest (codes "g") true (codes "a")) ∷ Told (Global (codes "g") true (codes "a")) ∷ [])
    ∷ (Asked (AskGlobal (codes "g") true []) ∷ says (GlobalRequest (codes "g") true []) ∷ [])
    ∷ (hears (GlobalRequest (codes "g") true []) ∷ Told (Global (codes "g") true []) ∷ [])
    ∷ (hears RequestFailure ∷ Told (GlobalDone false []) ∷ [])
    ∷ (Asked (AskGlobal (codes "g") true []) ∷ says (GlobalRequest (codes "g") true []) ∷ [])
    ∷ (Asked (AskGlobalReply false []) ∷ says RequestFailure ∷ [])
    ∷ (hears (Unimplemented 3) ∷ Told (NotImplemented 3) ∷ [])
    ∷ (hears_on 0 (ChannelOpen (codes "session") 9 12 5 []) ∷ Told (Opened 0 (codes "session") 12 5 []) ∷ [])
    ∷ (hears_on 3 (ChannelOpen (codes "session") 3 7 5 []) ∷ Told (Opened 3 (codes "session") 7 5 []) ∷ [])
    ∷ (hears RequestFailure ∷ Told (GlobalDone false []) ∷ [])
    ∷ (Fed (replicate 16 39) (replicate 32 142) ∷ [])
    ∷ ((Took None (KexInit (proposing (codes "k2" ∷ codes "k3" ∷ []) (codes "h1" ∷ codes "h2" ∷ codes "h3" ∷ []) (codes "e2" ∷ codes "e1"
    ∷ []) (codes "e2" ∷ codes "e1" ∷ []) (codes "m2" ∷ codes "m1" ∷ codes "m3" ∷ []) (codes "m3" ∷ codes "m1" ∷ codes "m2"
    ∷ []))) (codes "offer 3")) ∷ (Sent None (KexInit (with_cookie (replicate 16 39) (proposing (codes "k3" ∷ codes "k2" ∷ []) (codes "h2"
    ∷ codes "h1" ∷ codes "h3" ∷ []) (codes "e1" ∷ []) (codes "e1" ∷ []) (codes "m1" ∷ codes "m3" ∷ []) (codes "m1" ∷ codes "m3"
    ∷ [])))) (codes "offer 4")) ∷ says (KexEcdhInit (replicate 32 142)) ∷ [])
    ∷ (hears (Debug true (codes "abc") []) ∷ Told (Debugged true (codes "abc")) ∷ [])
    ∷ (hears (Unimplemented 6) ∷ Told (NotImplemented 6) ∷ [])
    ∷ ((hears (KexEcdhReply (codes "key of h2") (142 ∷ replicate 31 182) (codes "right"))) ∷ says NewKeys ∷ Told (Completed 2) ∷ [])
    ∷ (Fed (replicate 16 71) (replicate 32 168) ∷ [])
    ∷ (Asked (AskGlobal (codes "g") true []) ∷ says (GlobalRequest (codes "g") true []) ∷ [])
    ∷ (Asked (AskGlobalReply false []) ∷ says RequestFailure ∷ [])
    ∷ (Asked (AskEof 3) ∷ AskRefused AskRefusal.NoChannel ∷ [])
    ∷ (Asked (AskData 3 None []) ∷ AskRefused AskRefusal.NoChannel ∷ [])
    ∷ (hears NewKeys ∷ [])
    ∷ ((Took None (KexInit (proposing (codes "k3" ∷ codes "k2" ∷ []) (codes "h1" ∷ codes "h2" ∷ codes "h3" ∷ []) (codes "e1" ∷ codes "e2"
    ∷ []) (codes "e1" ∷ codes "e2" ∷ []) (codes "m2" ∷ codes "m3" ∷ []) (codes "m3" ∷ codes "m2" ∷ []))) (codes "offer 5"))
    ∷ (Sent None (KexInit (with_cookie (replicate 16 71) (proposing (codes "k3" ∷ codes "k2" ∷ []) (codes "h2" ∷ codes "h1" ∷ codes "h3"
    ∷ []) (codes "e1" ∷ []) (codes "e1" ∷ []) (codes "m1" ∷ codes "m3" ∷ []) (codes "m1" ∷ codes "m3" ∷ [])))) (codes "offer 6"))
    ∷ says (KexEcdhInit (replicate 32 168)) ∷ [])
    ∷ (hears (Unimplemented 9) ∷ Told (NotImplemented 9) ∷ [])
    ∷ ((hears (KexEcdhReply (codes "key of h2") (168 ∷ replicate 31 64) (codes "right"))) ∷ says NewKeys ∷ Told (Completed 3) ∷ [])
    ∷ (Fed (replicate 16 26) (replicate 32 221) ∷ [])
    ∷ (hears NewKeys ∷ [])
    ∷ ((Took None (KexInit (proposing (codes "k2" ∷ codes "k3" ∷ []) (codes "h2" ∷ codes "h3" ∷ codes "h1" ∷ []) (codes "e1" ∷ codes "e2"
    ∷ []) (codes "e1" ∷ codes "e2" ∷ []) (codes "m3" ∷ codes "m1" ∷ []) (codes "m3" ∷ codes "m2" ∷ codes "m1" ∷ []))) (codes "offer 7"))
    ∷ (Sent None (KexInit (with_cookie (replicate 16 26) (proposing (codes "k3" ∷ codes "k2" ∷ []) (codes "h2" ∷ codes "h1" ∷ codes "h3"
    ∷ []) (codes "e1" ∷ []) (codes "e1" ∷ []) (codes "m1" ∷ codes "m3" ∷ []) (codes "m1" ∷ codes "m3" ∷ [])))) (codes "offer 8"))
    ∷ says (KexEcdhInit (replicate 32 221)) ∷ [])
    ∷ ((hears (KexEcdhReply (codes "key of h2") (221 ∷ 221 ∷ 221 ∷ replicate 29 49) (codes "right"))) ∷ says NewKeys ∷ Told (Completed 4)
    ∷ [])
    ∷ (Asked (AskGlobal (codes "g") true []) ∷ says (GlobalRequest (codes "g") true []) ∷ [])
    ∷ (Fed (replicate 16 48) (replicate 32 138) ∷ [])
    ∷ (hears NewKeys ∷ [])
    ∷ (hears (Unknown 22) ∷ says (Unimplemented 31) ∷ [])
    ∷ (Asked (AskConfirm 1 5 6 []) ∷ says_on 1 (ChannelOpenConfirmation 2 1 5 6 []) ∷ [])
    ∷ (hears (Debug true [] []) ∷ Told (Debugged true []) ∷ [])
    ∷ (Asked (AskDisconnect (codes "bye")) ∷ says (Disconnect 11 (codes "bye") []) ∷ Died ∷ []) ∷ []

-- messages that might come at any moment
abbrev pub messages : List Msg
messages =
    (KexInit (proposing (codes "k3" ∷ codes "k2" ∷ []) (codes "h2" ∷ codes "h1" ∷ codes "h3" ∷ []) (codes "e1" ∷ codes "e2"
    ∷ []) (codes "e2" ∷ codes "e1" ∷ []) (codes "m3" ∷ codes "m2" ∷ codes "m1" ∷ []) (codes "m2" ∷ codes "m3" ∷ [])))
    ∷ (KexInit (proposing (codes "k3" ∷ codes "k2" ∷ []) (codes "h1" ∷ codes "h2" ∷ codes "h3" ∷ []) (codes "e1" ∷ codes "e2"
    ∷ []) (codes "e1" ∷ codes "e2" ∷ []) (codes "m2" ∷ codes "m3" ∷ []) (codes "m3" ∷ codes "m2" ∷ [])))
    ∷ (ChannelData 1 (codes "a"))
    ∷ (ChannelData 1 [])
    ∷ (ChannelWindowAdjust 1 0)
    ∷ (KexEcdhReply (codes "key of h2") (138 ∷ replicate 31 179) (codes "right"))
    ∷ (KexEcdhReply (codes "key of h2") (replicate 32 124) (codes "right"))
    ∷ (KexEcdhReply (codes "key of h2") (0 ∷ 0 ∷ 0 ∷ replicate 29 242) (codes "right"))
    ∷ (ServiceRequest (codes "ssh-userauth"))
    ∷ (UserauthSuccess)
    ∷ (KexEcdhInit (replicate 31 183))
    ∷ (ChannelEof 0)
    ∷ (ChannelOpenConfirmation 1 3 9 8 [])
    ∷ (UserauthRequest (codes "u") (codes "ssh-connection") (Password (codes "p") None)) ∷ []

-- asks that might come at any moment
abbrev pub asks : List Ask
asks =
    (AskData 1 (Some 1) (codes "bbbbbb"))
    ∷ (AskData 2 None (codes "bbbbbb"))
    ∷ (AskGlobalReply false [])
    ∷ (AskRekey)
    ∷ (AskProbe (codes "u") (codes "alg") (codes "k"))
    ∷ (AskConfirm 0 6 0 [])
    ∷ (AskClose 0)
    ∷ (AskNone (codes "guest"))
    ∷ (AskRequest 0 (codes "r") false []) ∷ []

-- numbers that might come at any moment
abbrev pub numbers : List ℕ
numbers =
    5 ∷ 22 ∷ 50 ∷ 53 ∷ 54 ∷ 61 ∷ 79 ∷ 83 ∷ 90 ∷ 100 ∷ 101 ∷ 191 ∷ []

-- the text that is hashed in this exchange
abbrev pub text_0 : List ℕ
text_0 =
    0 ∷ 0 ∷ 0 ∷ 9 ∷ codes "SSH-2.0-c" ++ 0 ∷ 0 ∷ 0 ∷ 12 ∷ codes "SSH-2.0-peer" ++ 0 ∷ 0 ∷ 0 ∷ 7 ∷ codes "offer 1" ++ 0 ∷ 0 ∷ 0 ∷ 7
    ∷ codes "offer 2" ++ 0 ∷ 0 ∷ 0 ∷ 9 ∷ codes "key of h2" ++ 0 ∷ 0 ∷ 0 ∷ codes " iiiiiiiiiiiiiiiiiiiiiiiiiiiiiiii" ++ 0 ∷ 0 ∷ 0
    ∷ codes " iii" ++ replicate 29 217 ++ mpint_of 0xb0b0b0b0b0b0b0b0b0b0b0b0b0b0b0b0b0b0b0b0b0b0b0b0b0b0b0b0b0

-- the text that is hashed in this exchange
abbrev pub text_1 : List ℕ
text_1 =
    0 ∷ 0 ∷ 0 ∷ 9 ∷ codes "SSH-2.0-c" ++ 0 ∷ 0 ∷ 0 ∷ 12 ∷ codes "SSH-2.0-peer" ++ 0 ∷ 0 ∷ 0 ∷ 7 ∷ codes "offer 4" ++ 0 ∷ 0 ∷ 0 ∷ 7
    ∷ codes "offer 3" ++ 0 ∷ 0 ∷ 0 ∷ 9 ∷ codes "key of h2" ++ 0 ∷ 0 ∷ 0 ∷ 32 ∷ replicate 32 142 ++ 0 ∷ 0 ∷ 0 ∷ 32 ∷ 142 ∷ replicate 31 182
    ++ mpint_of 0x38383838383838383838383838383838383838383838383838383838383838

-- the text that is hashed in this exchange
abbrev pub text_2 : List ℕ
text_2 =
    0 ∷ 0 ∷ 0 ∷ 9 ∷ codes "SSH-2.0-c" ++ 0 ∷ 0 ∷ 0 ∷ 12 ∷ codes "SSH-2.0-peer" ++ 0 ∷ 0 ∷ 0 ∷ 7 ∷ codes "offer 6" ++ 0 ∷ 0 ∷ 0 ∷ 7
    ∷ codes "offer 5" ++ 0 ∷ 0 ∷ 0 ∷ 9 ∷ codes "key of h2" ++ 0 ∷ 0 ∷ 0 ∷ 32 ∷ replicate 32 168 ++ 0 ∷ 0 ∷ 0 ∷ 32 ∷ 168 ∷ replicate 31 64
    ++ mpint_of 0xe8e8e8e8e8e8e8e8e8e8e8e8e8e8e8e8e8e8e8e8e8e8e8e8e8e8e8e8e8e8e8

-- the text that is hashed in this exchange
abbrev pub text_3 : List ℕ
text_3 =
    0 ∷ 0 ∷ 0 ∷ 9 ∷ codes "SSH-2.0-c" ++ 0 ∷ 0 ∷ 0 ∷ 12 ∷ codes "SSH-2.0-peer" ++ 0 ∷ 0 ∷ 0 ∷ 7 ∷ codes "offer 8" ++ 0 ∷ 0 ∷ 0 ∷ 7
    ∷ codes "offer 7" ++ 0 ∷ 0 ∷ 0 ∷ 9 ∷ codes "key of h2" ++ 0 ∷ 0 ∷ 0 ∷ 32 ∷ replicate 32 221 ++ 0 ∷ 0 ∷ 0 ∷ 32 ∷ 221 ∷ 221 ∷ 221
    ∷ replicate 29 49 ++ mpint_of 0xececececececececececececececececececececececececececececec
