-- A drawn session of a server, written by tools/second_reading.
use Rattle.ssh_model.specs.Protocol.Sessions.Parties.{Parties}
use Rattle.std.specs.Prelude.{List, ℕ, codes, ◌∷◌, [], true, replicate, None, false, Some, ◌++◌}
use Rattle.test_histories.specs.Words.{ends_of, with_cookie, proposing, hears, says, guessing, says_on, hears_on}
use Rattle.ssh_model.specs.declared.side.Side.TheVariants.{Server}
use Rattle.ssh_model.specs.declared.strictness.Strictness.TheVariants.{Require}
use Rattle.ssh_model.specs.Protocol.Sessions.Items.{Item, Item.Fed, Item.SentLine, Item.Sent, Item.TookLine, Item.Took}
use Rattle.ssh_model.specs.Protocol.Sessions.Items.{Item.Told, Fact.Completed, Fact.GotExtensions, Fact.Accepted}
use Rattle.ssh_model.specs.Protocol.Sessions.Items.{Credential.ByPassword, Fact.Global, Fact.Debugged, Fact.NotImplemented}
use Rattle.ssh_model.specs.Protocol.Sessions.Items.{Fact.Ignored, Item.Asked, Ask.AskOpen, Fact.Opening, Ask.AskGlobal}
use Rattle.ssh_model.specs.Protocol.Sessions.Items.{Ask.AskRekey, Fact.Confirmed, Fact.Ended, Ask.AskData, Fact.GlobalDone}
use Rattle.ssh_model.specs.Protocol.Sessions.Items.{Fact.Requested, Ask.AskEof, Fact.Closed, Ask.AskGlobalReply}
use Rattle.ssh_model.specs.Protocol.Sessions.Items.{Fact.Adjusted, Fact.GotData, Ask, Ask.AskReply, Ask.AskSign}
use Rattle.ssh_model.specs.Protocol.Sessions.Items.{Ask.AskClose, Ask.AskConfirm, Ask.AskRefuse}
use Rattle.ssh_model.specs.Protocol.Wire.Message.{Msg.KexInit, Msg.KexEcdhInit, Msg.KexEcdhReply, Msg.NewKeys, Msg.ExtInfo}
use Rattle.ssh_model.specs.Protocol.Wire.Message.{Msg.ServiceRequest, Msg.ServiceAccept, Msg.UserauthRequest}
use Rattle.ssh_model.specs.Protocol.Wire.Message.{Method.Password, Msg.UserauthSuccess, Msg.GlobalRequest, Msg.Debug}
use Rattle.ssh_model.specs.Protocol.Wire.Message.{Msg.Unimplemented, Msg.Ignore, Msg.ChannelOpen}
use Rattle.ssh_model.specs.Protocol.Wire.Message.{Msg.ChannelOpenConfirmation, Msg.ChannelEof, Msg.ChannelData}
use Rattle.ssh_model.specs.Protocol.Wire.Message.{Msg.RequestFailure, Msg.ChannelRequest, Msg.ChannelClose}
use Rattle.ssh_model.specs.Protocol.Wire.Message.{Msg.ChannelWindowAdjust, Msg.Unknown, Msg, Method.Publickey}
use Rattle.ssh_model.specs.Protocol.Wire.Message.{Msg.Disconnect, Msg.UserauthFailure}
use Rattle.ssh_model.specs.Protocol.KeyExchange.Exchange.{mpint_of}

-- the ends, of which the server has drawn settings
abbrev pub ends : Parties (List ℕ)
ends = ends_of Server (record {
  line = codes "SSH-2.0-s";
  kex = codes "k3" ∷ [];
  host = codes "h1" ∷ [];
  encryption = codes "e2" ∷ codes "e1" ∷ [];
  mac = codes "m3" ∷ [];
  epoch_limit = 9;
  tries = 2;
  methods = codes "publickey" ∷ codes "password" ∷ [];
  strictness = Require;
  takes_extensions = true;
  extensions = [];
})

-- the turns
abbrev pub turns : List (List Item)
turns =
    (Fed (replicate 16 151) (replicate 32 61) ∷ SentLine (codes "SSH-2.0-s")
    ∷ (Sent None (KexInit (with_cookie (replicate 16 151) (proposing (codes "k3" ∷ codes "ext-info-s" ∷ codes "kex-strict-s-v00@openssh.com"
    ∷ []) (codes "h1" ∷ []) (codes "e2" ∷ codes "e1" ∷ []) (codes "e2" ∷ codes "e1" ∷ []) (codes "m3" ∷ []) (codes "m3"
    ∷ [])))) (codes "offer 1")) ∷ [])
    ∷ (TookLine (codes "SSH-2.0-peer") ∷ [])
    ∷ ((Took None (KexInit (proposing (codes "kex-strict-c-v00@openssh.com" ∷ codes "k3" ∷ []) (codes "h1" ∷ []) (codes "e2" ∷ codes "e1"
    ∷ []) (codes "e1" ∷ codes "e2" ∷ []) (codes "m1" ∷ codes "m2" ∷ codes "m3" ∷ []) (codes "m2" ∷ codes "m3" ∷ codes "m1"
    ∷ []))) (codes "offer 2")) ∷ [])
    ∷ (hears (KexEcdhInit (replicate 32 139)) ∷ says (KexEcdhReply (codes "key of h1") (replicate 32 61) (codes "right")) ∷ says NewKeys
    ∷ Told (Completed 1) ∷ [])
    ∷ (hears NewKeys ∷ [])
    ∷ ((hears (ExtInfo (record { name = codes "x"; value = [] } ∷ []))) ∷ (Told (GotExtensions (record { name = codes "x"; value = [] }
    ∷ []))) ∷ [])
    ∷ (hears (ServiceRequest (codes "ssh-userauth")) ∷ says (ServiceAccept (codes "ssh-userauth")) ∷ [])
    ∷ (hears (UserauthRequest (codes "u") (codes "ssh-connection") (Password (codes "p") None)) ∷ says UserauthSuccess
    ∷ Told (Accepted (codes "u") ByPassword) ∷ [])
    ∷ (Fed (replicate 16 77) (replicate 32 49) ∷ [])
    ∷ (hears (GlobalRequest (codes "g") true []) ∷ Told (Global (codes "g") true []) ∷ [])
    ∷ ((Took None (KexInit (guessing (codes "k3" ∷ []) (codes "h1" ∷ []) (codes "e1" ∷ codes "e2" ∷ []) (codes "e2" ∷ codes "e1"
    ∷ []) (codes "m3" ∷ codes "m2" ∷ codes "m1" ∷ []) (codes "m2" ∷ codes "m3" ∷ codes "m1" ∷ []))) (codes "offer 3"))
    ∷ (Sent None (KexInit (with_cookie (replicate 16 77) (proposing (codes "k3" ∷ []) (codes "h1" ∷ []) (codes "e2" ∷ codes "e1"
    ∷ []) (codes "e2" ∷ codes "e1" ∷ []) (codes "m3" ∷ []) (codes "m3" ∷ [])))) (codes "offer 4")) ∷ [])
    ∷ (hears (Debug true (codes "abc") []) ∷ Told (Debugged true (codes "abc")) ∷ [])
    ∷ (hears (Unimplemented 1) ∷ Told (NotImplemented 1) ∷ [])
    ∷ (hears (Debug true [] []) ∷ Told (Debugged true []) ∷ [])
    ∷ (hears (Ignore []) ∷ Told Ignored ∷ [])
    ∷ ((hears (KexEcdhInit (49 ∷ replicate 31 94))) ∷ says (KexEcdhReply (codes "key of h1") (replicate 32 49) (codes "right"))
    ∷ says NewKeys ∷ Told (Completed 2) ∷ [])
    ∷ (Asked (AskOpen (codes "session") 5 6 []) ∷ says_on 0 (ChannelOpen (codes "session") 0 5 6 []) ∷ Told (Opening 0) ∷ [])
    ∷ (Fed (replicate 16 69) (replicate 32 96) ∷ [])
    ∷ (Asked (AskGlobal (codes "g") false []) ∷ says (GlobalRequest (codes "g") false []) ∷ [])
    ∷ (Asked (AskGlobal (codes "g") true []) ∷ says (GlobalRequest (codes "g") true []) ∷ [])
    ∷ (hears NewKeys ∷ [])
    ∷ (Asked (AskOpen (codes "session") 7 8 []) ∷ says_on 2 (ChannelOpen (codes "session") 2 7 8 []) ∷ Told (Opening 2) ∷ [])
    ∷ (Asked AskRekey ∷ (Sent None (KexInit (with_cookie (replicate 16 69) (proposing (codes "k3" ∷ []) (codes "h1" ∷ []) (codes "e2"
    ∷ codes "e1" ∷ []) (codes "e2" ∷ codes "e1" ∷ []) (codes "m3" ∷ []) (codes "m3" ∷ [])))) (codes "offer 5")) ∷ [])
    ∷ (hears_on 0 (ChannelOpenConfirmation 0 5 8 6 []) ∷ Told (Confirmed 0 8 6 []) ∷ [])
    ∷ (hears_on 0 (ChannelEof 0) ∷ Told (Ended 0) ∷ [])
    ∷ ((Took None (KexInit (guessing (codes "k3" ∷ []) (codes "h1" ∷ []) (codes "e2" ∷ codes "e1" ∷ []) (codes "e1" ∷ codes "e2"
    ∷ []) (codes "m1" ∷ codes "m3" ∷ codes "m2" ∷ []) (codes "m3" ∷ codes "m2" ∷ codes "m1" ∷ []))) (codes "offer 6")) ∷ [])
    ∷ ((hears (KexEcdhInit (96 ∷ replicate 31 122))) ∷ says (KexEcdhReply (codes "key of h1") (replicate 32 96) (codes "right"))
    ∷ says NewKeys ∷ Told (Completed 3) ∷ [])
    ∷ (Asked (AskData 0 None (codes "b")) ∷ says_on 0 (ChannelData 5 (codes "b")) ∷ [])
    ∷ (hears NewKeys ∷ [])
    ∷ (hears RequestFailure ∷ Told (GlobalDone false []) ∷ [])
    ∷ (Fed (replicate 16 17) (replicate 32 62) ∷ [])
    ∷ (hears (Ignore (codes "a")) ∷ Told Ignored ∷ [])
    ∷ (hears_on 0 (ChannelRequest 0 (codes "r") false (codes "abc")) ∷ Told (Requested 0 (codes "r") false (codes "abc")) ∷ [])
    ∷ (Asked (AskEof 0) ∷ says_on 0 (ChannelEof 5) ∷ [])
    ∷ (hears_on 0 (ChannelClose 0) ∷ says_on 0 (ChannelClose 5) ∷ Told (Closed 0) ∷ [])
    ∷ (Asked (AskOpen (codes "session") 4 4 []) ∷ says_on 0 (ChannelOpen (codes "session") 0 4 4 []) ∷ Told (Opening 0) ∷ [])
    ∷ ((Took None (KexInit (guessing (codes "k3" ∷ []) (codes "h1" ∷ []) (codes "e2" ∷ codes "e1" ∷ []) (codes "e2" ∷ codes "e1"
    ∷ []) (codes "m2" ∷ codes "m3" ∷ []) (codes "m1" ∷ codes "m3" ∷ []))) (codes "offer 7"))
    ∷ (Sent None (KexInit (with_cookie (replicate 16 17) (proposing (codes "k3" ∷ []) (codes "h1" ∷ []) (codes "e2" ∷ codes "e1"
    ∷ []) (codes "e2" ∷ codes "e1" ∷ []) (codes "m3" ∷ []) (codes "m3" ∷ [])))) (codes "offer 8")) ∷ [])
    ∷ ((hears (KexEcdhInit (62 ∷ 62 ∷ 62 ∷ replicate 29 11))) ∷ says (KexEcdhReply (codes "key of h1") (replicate 32 62) (codes "right"))
    ∷ says NewKeys ∷ Told (Completed 4) ∷ [])
    ∷ (Asked (AskGlobalReply false []) ∷ says RequestFailure ∷ [])
    ∷ (Asked (AskGlobal (codes "g") true []) ∷ says (GlobalRequest (codes "g") true []) ∷ [])
    ∷ (hears NewKeys ∷ [])
    ∷ (hears_on 0 (ChannelOpenConfirmation 0 4 6 8 []) ∷ Told (Confirmed 0 6 8 []) ∷ [])
    ∷ (hears_on 2 (ChannelOpenConfirmation 2 8 5 4 []) ∷ Told (Confirmed 2 5 4 []) ∷ [])
    ∷ (hears_on 0 (ChannelRequest 0 (codes "r") true (codes "abc")) ∷ Told (Requested 0 (codes "r") true (codes "abc")) ∷ [])
    ∷ (hears RequestFailure ∷ Told (GlobalDone false []) ∷ [])
    ∷ (Asked (AskData 0 None (codes "bbbb")) ∷ says_on 0 (ChannelData 4 (codes "bbbb")) ∷ [])
    ∷ (hears_on 0 (ChannelWindowAdjust 0 7) ∷ Told (Adjusted 0 7) ∷ [])
    ∷ (hears_on 2 (ChannelRequest 2 (codes "r") false (codes "a")) ∷ Told (Requested 2 (codes "r") false (codes "a")) ∷ [])
    ∷ (hears_on 0 (ChannelData 0 (codes "aaaa")) ∷ Told (GotData 0 None (codes "aaaa")) ∷ [])
    ∷ (hears_on 0 (ChannelData 0 []) ∷ Told (GotData 0 None []) ∷ [])
    ∷ (hears_on 0 (ChannelEof 0) ∷ Told (Ended 0) ∷ [])
    ∷ (hears_on 0 (ChannelWindowAdjust 0 0) ∷ Told (Adjusted 0 0) ∷ [])
    ∷ (hears (Unimplemented 3) ∷ Told (NotImplemented 3) ∷ [])
    ∷ (Fed (replicate 16 122) (replicate 32 50) ∷ [])
    ∷ (hears (Unknown 8) ∷ says (Unimplemented 11) ∷ [])
    ∷ (hears_on 2 (ChannelRequest 2 (codes "r") true []) ∷ Told (Requested 2 (codes "r") true []) ∷ []) ∷ []

-- messages that might come at any moment
abbrev pub messages : List Msg
messages =
    (KexInit (proposing (codes "k3" ∷ []) (codes "h2" ∷ codes "h1" ∷ codes "h3" ∷ []) (codes "e1" ∷ codes "e2" ∷ []) (codes "e1"
    ∷ codes "e2" ∷ []) (codes "m1" ∷ codes "m3" ∷ []) (codes "m1" ∷ codes "m2" ∷ codes "m3" ∷ [])))
    ∷ (KexInit (proposing (codes "k3" ∷ []) (codes "h1" ∷ []) (codes "e1" ∷ codes "e2" ∷ []) (codes "e1" ∷ codes "e2" ∷ []) (codes "m2"
    ∷ codes "m3" ∷ []) (codes "m1" ∷ codes "m3" ∷ [])))
    ∷ (ChannelData 0 [])
    ∷ (ChannelData 0 (codes "aaaaaa"))
    ∷ (ChannelWindowAdjust 2 0)
    ∷ (KexEcdhInit (replicate 31 45))
    ∷ (KexEcdhInit (replicate 31 36))
    ∷ (KexEcdhInit (replicate 32 175))
    ∷ (UserauthRequest (codes "u") (codes "ssh-connection") (Password (codes "p") (Some (codes "q"))))
    ∷ (UserauthRequest (codes "u") (codes "ssh-connection") (Password (codes "p") None))
    ∷ (UserauthRequest (codes "u") (codes "ssh-connection") (Publickey (codes "alg") (codes "k") (Some (codes "right"))))
    ∷ (Disconnect 11 [] [])
    ∷ (Unimplemented 2)
    ∷ (UserauthSuccess)
    ∷ (ChannelOpenConfirmation 0 1 6 8 [])
    ∷ (UserauthFailure (codes "password" ∷ []) false)
    ∷ (Debug true (codes "a") []) ∷ []

-- asks that might come at any moment
abbrev pub asks : List Ask
asks =
    (AskData 2 None (codes "bbbbbb"))
    ∷ (AskData 0 (Some 1) (codes "b"))
    ∷ (AskReply 0 true)
    ∷ (AskSign (codes "u") (codes "alg") (codes "k"))
    ∷ (AskGlobalReply false [])
    ∷ (AskClose 0)
    ∷ (AskConfirm 0 5 8 [])
    ∷ (AskRefuse 0 1)
    ∷ (AskEof 0) ∷ []

-- numbers that might come at any moment
abbrev pub numbers : List ℕ
numbers =
    2 ∷ 6 ∷ 8 ∷ 49 ∷ 51 ∷ 54 ∷ 60 ∷ 79 ∷ 82 ∷ 89 ∷ 192 ∷ 255 ∷ []

-- the text that is hashed in this exchange
abbrev pub text_0 : List ℕ
text_0 =
    0 ∷ 0 ∷ 0 ∷ 12 ∷ codes "SSH-2.0-peer" ++ 0 ∷ 0 ∷ 0 ∷ 9 ∷ codes "SSH-2.0-s" ++ 0 ∷ 0 ∷ 0 ∷ 7 ∷ codes "offer 2" ++ 0 ∷ 0 ∷ 0 ∷ 7
    ∷ codes "offer 1" ++ 0 ∷ 0 ∷ 0 ∷ 9 ∷ codes "key of h1" ++ 0 ∷ 0 ∷ 0 ∷ 32 ∷ replicate 32 139 ++ 0 ∷ 0 ∷ 0 ∷ 32 ∷ replicate 32 61
    ++ mpint_of 0xb6b6b6b6b6b6b6b6b6b6b6b6b6b6b6b6b6b6b6b6b6b6b6b6b6b6b6b6b6b6b6b6

-- the text that is hashed in this exchange
abbrev pub text_1 : List ℕ
text_1 =
    0 ∷ 0 ∷ 0 ∷ 12 ∷ codes "SSH-2.0-peer" ++ 0 ∷ 0 ∷ 0 ∷ 9 ∷ codes "SSH-2.0-s" ++ 0 ∷ 0 ∷ 0 ∷ 7 ∷ codes "offer 3" ++ 0 ∷ 0 ∷ 0 ∷ 7
    ∷ codes "offer 4" ++ 0 ∷ 0 ∷ 0 ∷ 9 ∷ codes "key of h1" ++ 0 ∷ 0 ∷ 0 ∷ 32 ∷ 49 ∷ replicate 31 94 ++ 0 ∷ 0 ∷ 0
    ∷ codes " 11111111111111111111111111111111" ++ mpint_of 0x6f6f6f6f6f6f6f6f6f6f6f6f6f6f6f6f6f6f6f6f6f6f6f6f6f6f6f6f6f6f6f

-- the text that is hashed in this exchange
abbrev pub text_2 : List ℕ
text_2 =
    0 ∷ 0 ∷ 0 ∷ 12 ∷ codes "SSH-2.0-peer" ++ 0 ∷ 0 ∷ 0 ∷ 9 ∷ codes "SSH-2.0-s" ++ 0 ∷ 0 ∷ 0 ∷ 7 ∷ codes "offer 6" ++ 0 ∷ 0 ∷ 0 ∷ 7
    ∷ codes "offer 5" ++ 0 ∷ 0 ∷ 0 ∷ 9 ∷ codes "key of h1" ++ 0 ∷ 0 ∷ 0 ∷ 32 ∷ 96 ∷ replicate 31 122 ++ 0 ∷ 0 ∷ 0 ∷ 32 ∷ replicate 32 96
    ++ mpint_of 0x1a1a1a1a1a1a1a1a1a1a1a1a1a1a1a1a1a1a1a1a1a1a1a1a1a1a1a1a1a1a1a

-- the text that is hashed in this exchange
abbrev pub text_3 : List ℕ
text_3 =
    0 ∷ 0 ∷ 0 ∷ 12 ∷ codes "SSH-2.0-peer" ++ 0 ∷ 0 ∷ 0 ∷ 9 ∷ codes "SSH-2.0-s" ++ 0 ∷ 0 ∷ 0 ∷ 7 ∷ codes "offer 7" ++ 0 ∷ 0 ∷ 0 ∷ 7
    ∷ codes "offer 8" ++ 0 ∷ 0 ∷ 0 ∷ 9 ∷ codes "key of h1" ++ 0 ∷ 0 ∷ 0 ∷ 32 ∷ 62 ∷ 62 ∷ 62 ∷ replicate 29 11 ++ 0 ∷ 0 ∷ 0 ∷ 32
    ∷ replicate 32 62 ++ mpint_of 0x3535353535353535353535353535353535353535353535353535353535
