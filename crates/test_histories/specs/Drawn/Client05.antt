-- A drawn session of a client, written by tools/second_reading.
use Rattle.ssh_model.specs.Protocol.Sessions.Parties.{Parties}
use Rattle.std.specs.Prelude.{List, ℕ, codes, ◌∷◌, [], false, replicate, None, true, Some, ◌++◌}
use Rattle.test_histories.specs.Words.{ends_of, with_cookie, proposing, says, hears, hears_on, says_on}
use Rattle.ssh_model.specs.declared.side.Side.TheVariants.{Client}
use Rattle.ssh_model.specs.declared.strictness.Strictness.TheVariants.{Require}
use Rattle.ssh_model.specs.Protocol.Sessions.Items.{Item, Item.Fed, Item.SentLine, Item.Sent, Item.TookLine, Item.Took}
use Rattle.ssh_model.specs.Protocol.Sessions.Items.{Item.Told, Fact.Completed, Item.Asked, Ask.AskService, Item.AskRefused}
use Rattle.ssh_model.specs.Protocol.Sessions.Items.{Fact.Service, Ask.AskPassword, Fact.Failed, Fact.Ignored, Ask.AskNone}
use Rattle.ssh_model.specs.Protocol.Sessions.Items.{Ask.AskProbe, Ask.AskSign, Fact.Authenticated, Fact.Opened}
use Rattle.ssh_model.specs.Protocol.Sessions.Items.{Fact.NotImplemented, Ask.AskConfirm, Fact.Debugged, Ask.AskRequest}
use Rattle.ssh_model.specs.Protocol.Sessions.Items.{Fact.GotData, Ask.AskData, Ask.AskGlobal, Fact.Adjusted, Fact.Closed}
use Rattle.ssh_model.specs.Protocol.Sessions.Items.{Ask.AskEof, Ask.AskReply, Fact.Ended, Fact.RequestDone, Item.Refused}
use Rattle.ssh_model.specs.Protocol.Sessions.Items.{Item.Died, Ask, Ask.AskGlobalReply, Ask.AskRekey, Ask.AskClose}
use Rattle.ssh_model.specs.Protocol.Sessions.Items.{Ask.AskAdjust}
use Rattle.ssh_model.specs.Protocol.Wire.Message.{Msg.KexInit, Msg.KexEcdhInit, Msg.KexEcdhReply, Msg.NewKeys}
use Rattle.ssh_model.specs.Protocol.Wire.Message.{Msg.ServiceRequest, Msg.ServiceAccept, Msg.UserauthRequest}
use Rattle.ssh_model.specs.Protocol.Wire.Message.{Method.Password, Msg.UserauthFailure, Msg.Ignore, Method.NoMethod}
use Rattle.ssh_model.specs.Protocol.Wire.Message.{Method.Publickey, Msg.UserauthSuccess, Msg.ChannelOpen, Msg.Unimplemented}
use Rattle.ssh_model.specs.Protocol.Wire.Message.{Msg.ChannelOpenConfirmation, Msg.Debug, Msg.Unknown, Msg.ChannelRequest}
use Rattle.ssh_model.specs.Protocol.Wire.Message.{Msg.ChannelData, Msg.ChannelExtendedData, Msg.GlobalRequest}
use Rattle.ssh_model.specs.Protocol.Wire.Message.{Msg.ChannelWindowAdjust, Msg.ChannelClose, Msg.ChannelEof}
use Rattle.ssh_model.specs.Protocol.Wire.Message.{Msg.ChannelFailure, Msg.ChannelSuccess, Msg.Disconnect, Msg, Msg.ExtInfo}
use Rattle.ssh_model.specs.Protocol.Wire.Message.{Msg.RequestFailure}
use Rattle.ssh_model.specs.declared.ask_refusal.AskRefusal.{AskRefusal}
use Rattle.ssh_model.specs.declared.request_kind.RequestKind.TheVariants as kind
use Rattle.ssh_model.specs.declared.refusal.Refusal.{Refusal}
use Rattle.ssh_model.specs.Protocol.KeyExchange.Exchange.{mpint_of}

-- the ends, of which the client has drawn settings
abbrev pub ends : Parties (List ℕ)
ends = ends_of Client (record {
  line = codes "SSH-2.0-c";
  kex = codes "k1" ∷ codes "k2" ∷ [];
  host = codes "h1" ∷ [];
  encryption = codes "e2" ∷ codes "e1" ∷ [];
  mac = codes "m3" ∷ codes "m2" ∷ codes "m1" ∷ [];
  epoch_limit = 11;
  tries = 2;
  methods = codes "publickey" ∷ [];
  strictness = Require;
  takes_extensions = false;
  extensions = record { name = codes "x"; value = codes "y" } ∷ [];
})

-- the turns
abbrev pub turns : List (List Item)
turns =
    (Fed (replicate 16 206) (replicate 32 220) ∷ SentLine (codes "SSH-2.0-c")
    ∷ (Sent None (KexInit (with_cookie (replicate 16 206) (proposing (codes "k1" ∷ codes "k2" ∷ codes "kex-strict-c-v00@openssh.com"
    ∷ []) (codes "h1" ∷ []) (codes "e2" ∷ codes "e1" ∷ []) (codes "e2" ∷ codes "e1" ∷ []) (codes "m3" ∷ codes "m2" ∷ codes "m1"
    ∷ []) (codes "m3" ∷ codes "m2" ∷ codes "m1" ∷ [])))) (codes "offer 1")) ∷ [])
    ∷ (TookLine (codes "SSH-2.0-peer") ∷ [])
    ∷ ((Took None (KexInit (proposing (codes "kex-strict-s-v00@openssh.com" ∷ codes "k1" ∷ codes "k2" ∷ []) (codes "h1" ∷ []) (codes "e2"
    ∷ codes "e1" ∷ []) (codes "e1" ∷ codes "e2" ∷ []) (codes "m1" ∷ codes "m2" ∷ codes "m3" ∷ []) (codes "m3" ∷ codes "m2" ∷ codes "m1"
    ∷ []))) (codes "offer 2")) ∷ says (KexEcdhInit (replicate 32 220)) ∷ [])
    ∷ ((hears (KexEcdhReply (codes "key of h1") (220 ∷ replicate 31 175) (codes "right"))) ∷ says NewKeys ∷ Told (Completed 1) ∷ [])
    ∷ (Asked AskService ∷ AskRefused AskRefusal.NotYet ∷ [])
    ∷ (hears NewKeys ∷ [])
    ∷ (Asked AskService ∷ says (ServiceRequest (codes "ssh-userauth")) ∷ [])
    ∷ (Asked AskService ∷ AskRefused AskRefusal.Busy ∷ [])
    ∷ (hears (ServiceAccept (codes "ssh-userauth")) ∷ Told Service ∷ [])
    ∷ (Asked (AskPassword (codes "u") (codes "p")) ∷ says (UserauthRequest (codes "u") (codes "ssh-connection") (Password (codes "p") None))
    ∷ [])
    ∷ ((hears (UserauthFailure (codes "password" ∷ []) true)) ∷ (Told (Failed (codes "password" ∷ []) true)) ∷ [])
    ∷ (hears (Ignore (codes "a")) ∷ Told Ignored ∷ [])
    ∷ (Asked (AskNone (codes "guest")) ∷ says (UserauthRequest (codes "guest") (codes "ssh-connection") NoMethod) ∷ [])
    ∷ ((hears (UserauthFailure (codes "password" ∷ []) true)) ∷ (Told (Failed (codes "password" ∷ []) true)) ∷ [])
    ∷ (Asked (AskProbe (codes "u") (codes "alg") (codes "k"))
    ∷ says (UserauthRequest (codes "u") (codes "ssh-connection") (Publickey (codes "alg") (codes "k") None)) ∷ [])
    ∷ ((hears (UserauthFailure (codes "password" ∷ []) true)) ∷ (Told (Failed (codes "password" ∷ []) true)) ∷ [])
    ∷ (Asked (AskProbe (codes "u") (codes "alg") (codes "k"))
    ∷ says (UserauthRequest (codes "u") (codes "ssh-connection") (Publickey (codes "alg") (codes "k") None)) ∷ [])
    ∷ (Asked (AskSign (codes "u") (codes "alg") (codes "k")) ∷ AskRefused AskRefusal.Busy ∷ [])
    ∷ (hears UserauthSuccess ∷ Told (Authenticated kind.Probe) ∷ [])
    ∷ (hears_on 0 (ChannelOpen (codes "session") 9 4 5 []) ∷ Told (Opened 0 (codes "session") 4 5 []) ∷ [])
    ∷ (hears_on 1 (ChannelOpen (codes "session") 1 8 4 []) ∷ Told (Opened 1 (codes "session") 8 4 []) ∷ [])
    ∷ (hears (Unimplemented 4) ∷ Told (NotImplemented 4) ∷ [])
    ∷ (hears (Ignore []) ∷ Told Ignored ∷ [])
    ∷ (Asked (AskConfirm 0 5 8 []) ∷ says_on 0 (ChannelOpenConfirmation 9 0 5 8 []) ∷ [])
    ∷ (Fed (replicate 16 93) (replicate 32 128) ∷ [])
    ∷ (hears_on 3 (ChannelOpen (codes "session") 4 10 6 []) ∷ Told (Opened 3 (codes "session") 10 6 []) ∷ [])
    ∷ ((Took None (KexInit (proposing (codes "k2" ∷ codes "k1" ∷ []) (codes "h1" ∷ []) (codes "e1" ∷ codes "e2" ∷ []) (codes "e1"
    ∷ codes "e2" ∷ []) (codes "m2" ∷ codes "m1" ∷ []) (codes "m3" ∷ codes "m2" ∷ []))) (codes "offer 3"))
    ∷ (Sent None (KexInit (with_cookie (replicate 16 93) (proposing (codes "k1" ∷ codes "k2" ∷ []) (codes "h1" ∷ []) (codes "e2"
    ∷ codes "e1" ∷ []) (codes "e2" ∷ codes "e1" ∷ []) (codes "m3" ∷ codes "m2" ∷ codes "m1" ∷ []) (codes "m3" ∷ codes "m2" ∷ codes "m1"
    ∷ [])))) (codes "offer 4")) ∷ says (KexEcdhInit (replicate 32 128)) ∷ [])
    ∷ (hears (Unimplemented 1) ∷ Told (NotImplemented 1) ∷ [])
    ∷ (hears (Debug true [] []) ∷ Told (Debugged true []) ∷ [])
    ∷ (hears (Unknown 8) ∷ says (Unimplemented 14) ∷ [])
    ∷ (hears (Unknown 8) ∷ says (Unimplemented 15) ∷ [])
    ∷ ((hears (KexEcdhReply (codes "key of h1") (128 ∷ replicate 31 113) (codes "right"))) ∷ says NewKeys ∷ Told (Completed 2) ∷ [])
    ∷ (hears NewKeys ∷ [])
    ∷ (Asked (AskConfirm 1 9 8 []) ∷ says_on 1 (ChannelOpenConfirmation 1 1 9 8 []) ∷ [])
    ∷ (Asked (AskRequest 0 (codes "r") true []) ∷ says_on 0 (ChannelRequest 9 (codes "r") true []) ∷ [])
    ∷ (hears_on 1 (ChannelData 1 (codes "a")) ∷ Told (GotData 1 None (codes "a")) ∷ [])
    ∷ (Asked (AskData 1 (Some 1) (codes "b")) ∷ says_on 1 (ChannelExtendedData 1 1 (codes "b")) ∷ [])
    ∷ (Asked (AskGlobal (codes "g") true []) ∷ says (GlobalRequest (codes "g") true []) ∷ [])
    ∷ (hears_on 1 (ChannelWindowAdjust 1 1) ∷ Told (Adjusted 1 1) ∷ [])
    ∷ (hears_on 1 (ChannelClose 1) ∷ says_on 1 (ChannelClose 1) ∷ Told (Closed 1) ∷ [])
    ∷ (Asked (AskRequest 0 (codes "r") true []) ∷ says_on 0 (ChannelRequest 9 (codes "r") true []) ∷ [])
    ∷ (Asked (AskEof 0) ∷ says_on 0 (ChannelEof 9) ∷ [])
    ∷ (hears_on 0 (ChannelData 0 (codes "a")) ∷ Told (GotData 0 None (codes "a")) ∷ [])
    ∷ (Asked (AskReply 3 true) ∷ AskRefused AskRefusal.NoChannel ∷ [])
    ∷ (hears_on 0 (ChannelEof 0) ∷ Told (Ended 0) ∷ [])
    ∷ (Asked (AskRequest 0 (codes "r") false []) ∷ says_on 0 (ChannelRequest 9 (codes "r") false []) ∷ [])
    ∷ (hears_on 0 (ChannelFailure 0) ∷ Told (RequestDone 0 false) ∷ [])
    ∷ (hears_on 0 (ChannelSuccess 0) ∷ Told (RequestDone 0 true) ∷ [])
    ∷ (hears_on 0 (ChannelWindowAdjust 0 4294967288) ∷ Told (Adjusted 0 4294967288) ∷ [])
    ∷ (Asked (AskRequest 0 (codes "r") true []) ∷ says_on 0 (ChannelRequest 9 (codes "r") true []) ∷ [])
    ∷ (hears_on 0 (ChannelFailure 0) ∷ Told (RequestDone 0 false) ∷ [])
    ∷ (hears_on 0 (ChannelClose 0) ∷ says_on 0 (ChannelClose 9) ∷ Told (Closed 0) ∷ [])
    ∷ (Fed (replicate 16 222) (replicate 32 240) ∷ [])
    ∷ (Refused Refusal.UnknownChannel (Some []) ∷ says (Disconnect 2 (codes "UnknownChannel") []) ∷ Died ∷ []) ∷ []

-- messages that might come at any moment
abbrev pub messages : List Msg
messages =
    (KexInit (proposing (codes "k1" ∷ []) (codes "h1" ∷ []) (codes "e2" ∷ codes "e1" ∷ []) (codes "e2" ∷ codes "e1" ∷ []) (codes "m3"
    ∷ codes "m2" ∷ codes "m1" ∷ []) (codes "m1" ∷ codes "m3" ∷ codes "m2" ∷ [])))
    ∷ (KexInit (proposing (codes "k3" ∷ []) (codes "h1" ∷ []) (codes "e2" ∷ codes "e1" ∷ []) (codes "e2" ∷ codes "e1" ∷ []) (codes "m3"
    ∷ codes "m2" ∷ []) (codes "m2" ∷ codes "m1" ∷ [])))
    ∷ (ChannelData 3 (codes "a"))
    ∷ (ChannelData 0 (codes "a"))
    ∷ (ChannelWindowAdjust 1 4294967288)
    ∷ (KexEcdhReply (codes "key of h1") (replicate 33 130) (codes "wrong"))
    ∷ (KexEcdhReply (codes "key of h1") (0 ∷ replicate 31 138) (codes "right"))
    ∷ (KexEcdhReply (codes "key of h1") (replicate 33 27) (codes "wrong"))
    ∷ (Unimplemented 9)
    ∷ (ChannelSuccess 0)
    ∷ (Disconnect 11 (codes "a") [])
    ∷ (ExtInfo (record { name = codes "x"; value = [] } ∷ []))
    ∷ (UserauthRequest (codes "u") (codes "ssh-userauth") (Publickey (codes "alg") (codes "k") (Some (codes "wrong"))))
    ∷ (RequestFailure) ∷ []

-- asks that might come at any moment
abbrev pub asks : List Ask
asks =
    (AskData 0 (Some 1) (codes "b"))
    ∷ (AskData 1 (Some 1) (codes "bbbb"))
    ∷ (AskGlobalReply false [])
    ∷ (AskRekey)
    ∷ (AskEof 0)
    ∷ (AskClose 0)
    ∷ (AskAdjust 0 0)
    ∷ (AskService)
    ∷ (AskConfirm 0 8 6 []) ∷ []

-- numbers that might come at any moment
abbrev pub numbers : List ℕ
numbers =
    0 ∷ 5 ∷ 7 ∷ 20 ∷ 29 ∷ 31 ∷ 32 ∷ 54 ∷ 79 ∷ 90 ∷ 191 ∷ 255 ∷ []

-- the text that is hashed in this exchange
abbrev pub text_0 : List ℕ
text_0 =
    0 ∷ 0 ∷ 0 ∷ 9 ∷ codes "SSH-2.0-c" ++ 0 ∷ 0 ∷ 0 ∷ 12 ∷ codes "SSH-2.0-peer" ++ 0 ∷ 0 ∷ 0 ∷ 7 ∷ codes "offer 1" ++ 0 ∷ 0 ∷ 0 ∷ 7
    ∷ codes "offer 2" ++ 0 ∷ 0 ∷ 0 ∷ 9 ∷ codes "key of h1" ++ 0 ∷ 0 ∷ 0 ∷ 32 ∷ replicate 32 220 ++ 0 ∷ 0 ∷ 0 ∷ 32 ∷ 220 ∷ replicate 31 175
    ++ mpint_of 0x73737373737373737373737373737373737373737373737373737373737373

-- the text that is hashed in this exchange
abbrev pub text_1 : List ℕ
text_1 =
    0 ∷ 0 ∷ 0 ∷ 9 ∷ codes "SSH-2.0-c" ++ 0 ∷ 0 ∷ 0 ∷ 12 ∷ codes "SSH-2.0-peer" ++ 0 ∷ 0 ∷ 0 ∷ 7 ∷ codes "offer 4" ++ 0 ∷ 0 ∷ 0 ∷ 7
    ∷ codes "offer 3" ++ 0 ∷ 0 ∷ 0 ∷ 9 ∷ codes "key of h1" ++ 0 ∷ 0 ∷ 0 ∷ 32 ∷ replicate 32 128 ++ 0 ∷ 0 ∷ 0 ∷ 32 ∷ 128 ∷ replicate 31 113
    ++ mpint_of 0xf1f1f1f1f1f1f1f1f1f1f1f1f1f1f1f1f1f1f1f1f1f1f1f1f1f1f1f1f1f1f1
