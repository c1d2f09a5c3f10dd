-- A drawn session of a client, written by tools/second_reading.
use Rattle.ssh_model.specs.Protocol.Sessions.Parties.{Parties}
use Rattle.std.specs.Prelude.{List, ℕ, codes, ◌∷◌, [], false, replicate, None, true, Some, ◌++◌}
use Rattle.test_histories.specs.Words.{ends_of, with_cookie, proposing, says, hears, says_on, hears_on}
use Rattle.ssh_model.specs.declared.side.Side.TheVariants.{Client}
use Rattle.ssh_model.specs.declared.strictness.Strictness.TheVariants.{Offer}
use Rattle.ssh_model.specs.Protocol.Sessions.Items.{Item, Item.Fed, Item.SentLine, Item.Sent, Item.TookOtherLine}
use Rattle.ssh_model.specs.Protocol.Sessions.Items.{Item.TookLine, Item.Took, Item.Asked, Ask.AskService, Item.AskRefused}
use Rattle.ssh_model.specs.Protocol.Sessions.Items.{Item.Told, Fact.Completed, Ask.AskSign, Fact.Ignored, Fact.Debugged}
use Rattle.ssh_model.specs.Protocol.Sessions.Items.{Fact.Service, Fact.Banner, Ask.AskProbe, Fact.Failed, Fact.Authenticated}
use Rattle.ssh_model.specs.Protocol.Sessions.Items.{Ask.AskOpen, Fact.Opening, Fact.OpenFailed, Fact.Opened, Ask.AskGlobal}
use Rattle.ssh_model.specs.Protocol.Sessions.Items.{Ask.AskRekey, Fact.Global, Fact.NotImplemented, Ask.AskData}
use Rattle.ssh_model.specs.Protocol.Sessions.Items.{Ask.AskReply, Item.Refused, Item.Died, Ask, Ask.AskPassword}
use Rattle.ssh_model.specs.Protocol.Sessions.Items.{Ask.AskAdjust, Ask.AskRefuse}
use Rattle.ssh_model.specs.Protocol.Wire.Message.{Msg.KexInit, Msg.KexEcdhInit, Msg.KexEcdhReply, Msg.NewKeys, Msg.ExtInfo}
use Rattle.ssh_model.specs.Protocol.Wire.Message.{Msg.Unknown, Msg.Unimplemented, Msg.ServiceRequest, Msg.Ignore, Msg.Debug}
use Rattle.ssh_model.specs.Protocol.Wire.Message.{Msg.ServiceAccept, Msg.UserauthBanner, Msg.UserauthRequest}
use Rattle.ssh_model.specs.Protocol.Wire.Message.{Method.Publickey, Msg.UserauthFailure, Msg.UserauthSuccess}
use Rattle.ssh_model.specs.Protocol.Wire.Message.{Msg.ChannelOpen, Msg.ChannelOpenFailure, Msg.GlobalRequest, Msg.Disconnect}
use Rattle.ssh_model.specs.Protocol.Wire.Message.{Msg, Msg.ChannelData, Msg.ChannelWindowAdjust, Msg.ChannelSuccess}
use Rattle.ssh_model.specs.Protocol.Wire.Message.{Msg.RequestFailure, Msg.ChannelEof, Msg.ChannelOpenConfirmation}
use Rattle.ssh_model.specs.declared.ask_refusal.AskRefusal.{AskRefusal}
use Rattle.ssh_model.specs.declared.request_kind.RequestKind.TheVariants as kind
use Rattle.ssh_model.specs.declared.refusal.Refusal.{Refusal}
use Rattle.ssh_model.specs.Protocol.KeyExchange.Exchange.{mpint_of}

-- the ends, of which the client has drawn settings
abbrev pub ends : Parties (List ℕ)
ends = ends_of Client (record {
  line = codes "SSH-2.0-c";
  kex = codes "k3" ∷ codes "k2" ∷ [];
  host = codes "h3" ∷ codes "h1" ∷ [];
  encryption = codes "e2" ∷ codes "e1" ∷ [];
  mac = codes "m3" ∷ codes "m2" ∷ codes "m1" ∷ [];
  epoch_limit = 8;
  tries = 0;
  methods = codes "publickey" ∷ codes "password" ∷ [];
  strictness = Offer;
  takes_extensions = false;
  extensions = record { name = codes "x"; value = codes "y" } ∷ [];
})

-- the turns
abbrev pub turns : List (List Item)
turns =
    (Fed (replicate 16 190) (replicate 32 14) ∷ SentLine (codes "SSH-2.0-c")
    ∷ (Sent None (KexInit (with_cookie (replicate 16 190) (proposing (codes "k3" ∷ codes "k2" ∷ codes "kex-strict-c-v00@openssh.com"
    ∷ []) (codes "h3" ∷ codes "h1" ∷ []) (codes "e2" ∷ codes "e1" ∷ []) (codes "e2" ∷ codes "e1" ∷ []) (codes "m3" ∷ codes "m2" ∷ codes "m1"
    ∷ []) (codes "m3" ∷ codes "m2" ∷ codes "m1" ∷ [])))) (codes "offer 1")) ∷ [])
    ∷ (TookOtherLine (codes "hello") ∷ [])
    ∷ (TookLine (codes "SSH-2.0-peer") ∷ [])
    ∷ ((Took None (KexInit (proposing (codes "k3" ∷ codes "k2" ∷ codes "kex-strict-s-v00@openssh.com" ∷ codes "ext-info-s" ∷ []) (codes "h3"
    ∷ codes "h1" ∷ []) (codes "e1" ∷ codes "e2" ∷ []) (codes "e2" ∷ codes "e1" ∷ []) (codes "m2" ∷ codes "m3" ∷ codes "m1" ∷ []) (codes "m3"
    ∷ codes "m2" ∷ []))) (codes "offer 2")) ∷ says (KexEcdhInit (replicate 32 14)) ∷ [])
    ∷ (Asked AskService ∷ AskRefused AskRefusal.NotYet ∷ [])
    ∷ ((hears (KexEcdhReply (codes "key of h3") (14 ∷ 14 ∷ 14 ∷ replicate 29 184) (codes "right"))) ∷ says NewKeys
    ∷ (says (ExtInfo (record { name = codes "x"; value = codes "y" } ∷ []))) ∷ Told (Completed 1) ∷ [])
    ∷ (hears NewKeys ∷ [])
    ∷ (Asked (AskSign (codes "u") (codes "alg") (codes "k")) ∷ AskRefused AskRefusal.NotYet ∷ [])
    ∷ (hears (Unknown 49) ∷ says (Unimplemented 0) ∷ [])
    ∷ (Asked AskService ∷ says (ServiceRequest (codes "ssh-userauth")) ∷ [])
    ∷ (hears (Ignore []) ∷ Told Ignored ∷ [])
    ∷ (hears (Debug true (codes "abc") []) ∷ Told (Debugged true (codes "abc")) ∷ [])
    ∷ (hears (ServiceAccept (codes "ssh-userauth")) ∷ Told Service ∷ [])
    ∷ (hears (UserauthBanner (codes "a") []) ∷ Told (Banner (codes "a")) ∷ [])
    ∷ (hears (Debug true (codes "abc") []) ∷ Told (Debugged true (codes "abc")) ∷ [])
    ∷ (Asked (AskProbe (codes "u") (codes "alg") (codes "k"))
    ∷ says (UserauthRequest (codes "u") (codes "ssh-connection") (Publickey (codes "alg") (codes "k") None)) ∷ [])
    ∷ ((hears (UserauthFailure (codes "password" ∷ []) true)) ∷ (Told (Failed (codes "password" ∷ []) true)) ∷ [])
    ∷ (Asked (AskSign (codes "u") (codes "alg") (codes "k"))
    ∷ says (UserauthRequest (codes "u") (codes "ssh-connection") (Publickey (codes "alg") (codes "k") (Some (codes "right")))) ∷ [])
    ∷ ((hears (UserauthFailure (codes "password" ∷ []) true)) ∷ (Told (Failed (codes "password" ∷ []) true)) ∷ [])
    ∷ (Asked (AskProbe (codes "u") (codes "alg") (codes "k"))
    ∷ says (UserauthRequest (codes "u") (codes "ssh-connection") (Publickey (codes "alg") (codes "k") None)) ∷ [])
    ∷ (hears UserauthSuccess ∷ Told (Authenticated kind.Probe) ∷ [])
    ∷ (Asked (AskOpen (codes "session") 11 6 []) ∷ says_on 0 (ChannelOpen (codes "session") 0 11 6 []) ∷ Told (Opening 0) ∷ [])
    ∷ (hears_on 0 (ChannelOpenFailure 0 1 [] []) ∷ Told (OpenFailed 0 1 []) ∷ [])
    ∷ (hears_on 0 (ChannelOpen (codes "session") 5 11 6 []) ∷ Told (Opened 0 (codes "session") 11 6 []) ∷ [])
    ∷ (hears_on 2 (ChannelOpen (codes "session") 1 7 6 []) ∷ Told (Opened 2 (codes "session") 7 6 []) ∷ [])
    ∷ (hears (Ignore (codes "abc")) ∷ Told Ignored ∷ [])
    ∷ (hears (Debug true [] []) ∷ Told (Debugged true []) ∷ [])
    ∷ (hears_on 3 (ChannelOpen (codes "session") 7 7 7 []) ∷ Told (Opened 3 (codes "session") 7 7 []) ∷ [])
    ∷ (Asked (AskGlobal (codes "g") false []) ∷ says (GlobalRequest (codes "g") false []) ∷ [])
    ∷ (hears (Unknown 61) ∷ says (Unimplemented 15) ∷ [])
    ∷ (Fed (replicate 16 188) (replicate 32 177) ∷ [])
    ∷ ((Took None (KexInit (proposing (codes "k3" ∷ codes "k2" ∷ []) (codes "h3" ∷ codes "h1" ∷ []) (codes "e2" ∷ codes "e1"
    ∷ []) (codes "e1" ∷ codes "e2" ∷ []) (codes "m1" ∷ codes "m2" ∷ []) (codes "m1" ∷ codes "m3" ∷ codes "m2" ∷ []))) (codes "offer 3"))
    ∷ (Sent None (KexInit (with_cookie (replicate 16 188) (proposing (codes "k3" ∷ codes "k2" ∷ []) (codes "h3" ∷ codes "h1"
    ∷ []) (codes "e2" ∷ codes "e1" ∷ []) (codes "e2" ∷ codes "e1" ∷ []) (codes "m3" ∷ codes "m2" ∷ codes "m1" ∷ []) (codes "m3" ∷ codes "m2"
    ∷ codes "m1" ∷ [])))) (codes "offer 4")) ∷ says (KexEcdhInit (replicate 32 177)) ∷ [])
    ∷ ((hears (KexEcdhReply (codes "key of h3") (177 ∷ replicate 31 234) (codes "right"))) ∷ says NewKeys ∷ Told (Completed 2) ∷ [])
    ∷ (Asked (AskGlobal (codes "g") true []) ∷ says (GlobalRequest (codes "g") true []) ∷ [])
    ∷ (Asked AskRekey ∷ AskRefused AskRefusal.Busy ∷ [])
    ∷ (Fed (replicate 16 194) (replicate 32 152) ∷ [])
    ∷ (hears NewKeys ∷ [])
    ∷ (Asked AskRekey ∷ (Sent None (KexInit (with_cookie (replicate 16 194) (proposing (codes "k3" ∷ codes "k2" ∷ []) (codes "h3"
    ∷ codes "h1" ∷ []) (codes "e2" ∷ codes "e1" ∷ []) (codes "e2" ∷ codes "e1" ∷ []) (codes "m3" ∷ codes "m2" ∷ codes "m1" ∷ []) (codes "m3"
    ∷ codes "m2" ∷ codes "m1" ∷ [])))) (codes "offer 5")) ∷ [])
    ∷ (Fed (replicate 16 159) (replicate 32 46) ∷ [])
    ∷ (hears (GlobalRequest (codes "g") true (codes "a")) ∷ Told (Global (codes "g") true (codes "a")) ∷ [])
    ∷ ((Took None (KexInit (proposing (codes "k2" ∷ codes "k3" ∷ codes "k1" ∷ []) (codes "h1" ∷ codes "h3" ∷ []) (codes "e2" ∷ codes "e1"
    ∷ []) (codes "e1" ∷ codes "e2" ∷ []) (codes "m2" ∷ codes "m3" ∷ codes "m1" ∷ []) (codes "m3" ∷ codes "m1" ∷ codes "m2"
    ∷ []))) (codes "offer 6")) ∷ says (KexEcdhInit (replicate 32 152)) ∷ [])
    ∷ (hears (Unimplemented 0) ∷ Told (NotImplemented 0) ∷ [])
    ∷ (hears (Debug true [] []) ∷ Told (Debugged true []) ∷ [])
    ∷ (hears (Unimplemented 8) ∷ Told (NotImplemented 8) ∷ [])
    ∷ (Asked (AskData 3 (Some 1) (replicate 9 98)) ∷ AskRefused AskRefusal.Busy ∷ [])
    ∷ (Asked (AskReply 0 false) ∷ AskRefused AskRefusal.Busy ∷ [])
    ∷ (hears (Debug true (codes "a") []) ∷ Told (Debugged true (codes "a")) ∷ [])
    ∷ (Refused Refusal.Unexpected (Some []) ∷ says (Disconnect 2 (codes "Unexpected") []) ∷ Died ∷ []) ∷ []

-- messages that might come at any moment
abbrev pub messages : List Msg
messages =
    (KexInit (proposing (codes "k3" ∷ codes "k2" ∷ []) (codes "h3" ∷ codes "h1" ∷ []) (codes "e1" ∷ codes "e2" ∷ []) (codes "e2"
    ∷ codes "e1" ∷ []) (codes "m1" ∷ codes "m3" ∷ codes "m2" ∷ []) (codes "m2" ∷ codes "m3" ∷ codes "m1" ∷ [])))
    ∷ (KexInit (proposing (codes "k2" ∷ codes "k1" ∷ []) (codes "h1" ∷ codes "h3" ∷ []) (codes "e2" ∷ codes "e1" ∷ []) (codes "e1"
    ∷ codes "e2" ∷ []) (codes "m3" ∷ codes "m1" ∷ []) (codes "m2" ∷ codes "m3" ∷ [])))
    ∷ (ChannelData 1 (codes "a"))
    ∷ (ChannelData 0 (codes "aaaa"))
    ∷ (ChannelWindowAdjust 2 4294967288)
    ∷ (KexEcdhReply (codes "key of h3") (14 ∷ 14 ∷ 14 ∷ replicate 29 184) (codes "right"))
    ∷ (KexEcdhReply (codes "key of h3") (177 ∷ replicate 31 234) (codes "right"))
    ∷ (KexEcdhReply (codes "key of h1") (14 ∷ 14 ∷ 14 ∷ replicate 29 183) (codes "right"))
    ∷ (ChannelSuccess 0)
    ∷ (RequestFailure)
    ∷ (ChannelEof 1)
    ∷ (Debug true (codes "abc") [])
    ∷ (Disconnect 11 [] [])
    ∷ (ChannelOpenConfirmation 1 5 6 6 []) ∷ []

-- asks that might come at any moment
abbrev pub asks : List Ask
asks =
    (AskData 1 None [])
    ∷ (AskData 0 (Some 1) [])
    ∷ (AskPassword (codes "u") (codes "p"))
    ∷ (AskAdjust 2 1)
    ∷ (AskGlobal (codes "g") true [])
    ∷ (AskSign (codes "u") (codes "alg") (codes "k"))
    ∷ (AskRekey)
    ∷ (AskService)
    ∷ (AskRefuse 1 1) ∷ []

-- numbers that might come at any moment
abbrev pub numbers : List ℕ
numbers =
    0 ∷ 5 ∷ 7 ∷ 19 ∷ 29 ∷ 30 ∷ 32 ∷ 54 ∷ 61 ∷ 82 ∷ 100 ∷ 255 ∷ []

-- the text that is hashed in this exchange
abbrev pub text_0 : List ℕ
text_0 =
    0 ∷ 0 ∷ 0 ∷ 9 ∷ codes "SSH-2.0-c" ++ 0 ∷ 0 ∷ 0 ∷ 12 ∷ codes "SSH-2.0-peer" ++ 0 ∷ 0 ∷ 0 ∷ 7 ∷ codes "offer 1" ++ 0 ∷ 0 ∷ 0 ∷ 7
    ∷ codes "offer 2" ++ 0 ∷ 0 ∷ 0 ∷ 9 ∷ codes "key of h3" ++ 0 ∷ 0 ∷ 0 ∷ 32 ∷ replicate 32 14 ++ 0 ∷ 0 ∷ 0 ∷ 32 ∷ 14 ∷ 14 ∷ 14
    ∷ replicate 29 184 ++ mpint_of 0xb6b6b6b6b6b6b6b6b6b6b6b6b6b6b6b6b6b6b6b6b6b6b6b6b6b6b6b6b6

-- the text that is hashed in this exchange
abbrev pub text_1 : List ℕ
text_1 =
    0 ∷ 0 ∷ 0 ∷ 9 ∷ codes "SSH-2.0-c" ++ 0 ∷ 0 ∷ 0 ∷ 12 ∷ codes "SSH-2.0-peer" ++ 0 ∷ 0 ∷ 0 ∷ 7 ∷ codes "offer 4" ++ 0 ∷ 0 ∷ 0 ∷ 7
    ∷ codes "offer 3" ++ 0 ∷ 0 ∷ 0 ∷ 9 ∷ codes "key of h3" ++ 0 ∷ 0 ∷ 0 ∷ 32 ∷ replicate 32 177 ++ 0 ∷ 0 ∷ 0 ∷ 32 ∷ 177 ∷ replicate 31 234
    ++ mpint_of 0x5b5b5b5b5b5b5b5b5b5b5b5b5b5b5b5b5b5b5b5b5b5b5b5b5b5b5b5b5b5b5b
