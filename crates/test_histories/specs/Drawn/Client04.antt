-- A drawn session of a client, written by tools/second_reading.
use Rattle.ssh_model.specs.Protocol.Sessions.Parties.{Parties}
use Rattle.std.specs.Prelude.{List, ℕ, codes, ◌∷◌, [], true, replicate, None, Some, false, ◌++◌}
use Rattle.test_histories.specs.Words.{ends_of, with_cookie, proposing, says, hears, says_on, hears_on, guessing}
use Rattle.ssh_model.specs.declared.side.Side.TheVariants.{Client}
use Rattle.ssh_model.specs.declared.strictness.Strictness.TheVariants.{Offer}
use Rattle.ssh_model.specs.Protocol.Sessions.Items.{Item, Item.Fed, Item.SentLine, Item.Sent, Item.TookOtherLine}
use Rattle.ssh_model.specs.Protocol.Sessions.Items.{Item.TookLine, Item.Took, Item.Told, Fact.Completed, Fact.GotExtensions}
use Rattle.ssh_model.specs.Protocol.Sessions.Items.{Item.Asked, Ask.AskPassword, Item.AskRefused, Ask.AskService}
use Rattle.ssh_model.specs.Protocol.Sessions.Items.{Fact.Ignored, Fact.Service, Ask.AskSign, Fact.Authenticated}
use Rattle.ssh_model.specs.Protocol.Sessions.Items.{Ask.AskRekey, Ask.AskOpen, Fact.Opening, Ask.AskGlobal, Fact.GlobalDone}
use Rattle.ssh_model.specs.Protocol.Sessions.Items.{Fact.Confirmed, Ask.AskData, Fact.GotData, Ask.AskRequest, Fact.Adjusted}
use Rattle.ssh_model.specs.Protocol.Sessions.Items.{Fact.RequestDone, Ask.AskClose, Item.Refused, Item.Died, Ask}
use Rattle.ssh_model.specs.Protocol.Sessions.Items.{Ask.AskNone, Ask.AskEof, Ask.AskConfirm, Ask.AskGlobalReply}
use Rattle.ssh_model.specs.Protocol.Sessions.Items.{Ask.AskRefuse}
use Rattle.ssh_model.specs.Protocol.Wire.Message.{Msg.KexInit, Msg.KexEcdhInit, Msg.KexEcdhReply, Msg.NewKeys, Msg.ExtInfo}
use Rattle.ssh_model.specs.Protocol.Wire.Message.{Msg.ServiceRequest, Msg.Ignore, Msg.ServiceAccept, Msg.UserauthRequest}
use Rattle.ssh_model.specs.Protocol.Wire.Message.{Method.Publickey, Msg.UserauthSuccess, Msg.ChannelOpen, Msg.GlobalRequest}
use Rattle.ssh_model.specs.Protocol.Wire.Message.{Msg.RequestFailure, Msg.ChannelOpenConfirmation, Msg.ChannelData}
use Rattle.ssh_model.specs.Protocol.Wire.Message.{Msg.ChannelExtendedData, Msg.ChannelRequest, Msg.ChannelWindowAdjust}
use Rattle.ssh_model.specs.Protocol.Wire.Message.{Msg.ChannelSuccess, Msg.ChannelClose, Msg.Disconnect, Msg}
use Rattle.ssh_model.specs.Protocol.Wire.Message.{Msg.UserauthBanner, Msg.RequestSuccess, Msg.Unknown}
use Rattle.ssh_model.specs.declared.ask_refusal.AskRefusal.{AskRefusal}
use Rattle.ssh_model.specs.declared.request_kind.RequestKind.TheVariants as kind
use Rattle.ssh_model.specs.declared.refusal.Refusal.{Refusal}
use Rattle.ssh_model.specs.Protocol.KeyExchange.Exchange.{mpint_of}

-- the ends, of which the client has drawn settings
abbrev pub ends : Parties (List ℕ)
ends = ends_of Client (record {
  line = codes "SSH-2.0-c";
  kex = codes "k1" ∷ codes "k2" ∷ [];
  host = codes "h1" ∷ codes "h2" ∷ [];
  encryption = codes "e1" ∷ codes "e2" ∷ [];
  mac = codes "m1" ∷ [];
  epoch_limit = 9;
  tries = 0;
  methods = codes "publickey" ∷ codes "password" ∷ [];
  strictness = Offer;
  takes_extensions = true;
  extensions = [];
})

-- the turns
abbrev pub turns : List (List Item)
turns =
    (Fed (replicate 16 104) (replicate 32 59) ∷ SentLine (codes "SSH-2.0-c")
    ∷ (Sent None (KexInit (with_cookie (replicate 16 104) (proposing (codes "k1" ∷ codes "k2" ∷ codes "ext-info-c"
    ∷ codes "kex-strict-c-v00@openssh.com" ∷ []) (codes "h1" ∷ codes "h2" ∷ []) (codes "e1" ∷ codes "e2" ∷ []) (codes "e1" ∷ codes "e2"
    ∷ []) (codes "m1" ∷ []) (codes "m1" ∷ [])))) (codes "offer 1")) ∷ [])
    ∷ (TookOtherLine (codes "hello") ∷ [])
    ∷ (TookLine (codes "SSH-2.0-peer") ∷ [])
    ∷ ((Took None (KexInit (proposing (codes "kex-strict-s-v00@openssh.com" ∷ codes "ext-info-s" ∷ codes "k2" ∷ codes "k1" ∷ []) (codes "h1"
    ∷ codes "h2" ∷ codes "h3" ∷ []) (codes "e1" ∷ codes "e2" ∷ []) (codes "e1" ∷ codes "e2" ∷ []) (codes "m3" ∷ codes "m1" ∷ []) (codes "m2"
    ∷ codes "m1" ∷ []))) (codes "offer 2")) ∷ says (KexEcdhInit (replicate 32 59)) ∷ [])
    ∷ ((hears (KexEcdhReply (codes "key of h1") (59 ∷ 59 ∷ 59 ∷ replicate 29 93) (codes "right"))) ∷ says NewKeys ∷ Told (Completed 1) ∷ [])
    ∷ (hears NewKeys ∷ [])
    ∷ ((hears (ExtInfo (record { name = codes "x"; value = [] } ∷ []))) ∷ (Told (GotExtensions (record { name = codes "x"; value = [] }
    ∷ []))) ∷ [])
    ∷ (Asked (AskPassword (codes "u") (codes "p")) ∷ AskRefused AskRefusal.NotYet ∷ [])
    ∷ (Asked AskService ∷ says (ServiceRequest (codes "ssh-userauth")) ∷ [])
    ∷ (hears (Ignore (codes "a")) ∷ Told Ignored ∷ [])
    ∷ (hears (ServiceAccept (codes "ssh-userauth")) ∷ Told Service ∷ [])
    ∷ (Asked (AskSign (codes "u") (codes "alg") (codes "k"))
    ∷ says (UserauthRequest (codes "u") (codes "ssh-connection") (Publickey (codes "alg") (codes "k") (Some (codes "right")))) ∷ [])
    ∷ (hears UserauthSuccess ∷ Told (Authenticated kind.Signature) ∷ [])
    ∷ (Asked AskRekey ∷ AskRefused AskRefusal.NoMaterial ∷ [])
    ∷ (Asked (AskOpen (codes "session") 12 32768 []) ∷ says_on 0 (ChannelOpen (codes "session") 0 12 32768 []) ∷ Told (Opening 0) ∷ [])
    ∷ (Asked (AskGlobal (codes "g") true []) ∷ says (GlobalRequest (codes "g") true []) ∷ [])
    ∷ (Fed (replicate 16 130) (replicate 32 131) ∷ [])
    ∷ (hears RequestFailure ∷ Told (GlobalDone false []) ∷ [])
    ∷ (hears_on 0 (ChannelOpenConfirmation 0 4 11 7 []) ∷ Told (Confirmed 0 11 7 []) ∷ [])
    ∷ (Asked (AskData 0 None (codes "b")) ∷ says_on 0 (ChannelData 4 (codes "b")) ∷ [])
    ∷ (Asked (AskData 0 (Some 1) []) ∷ says_on 0 (ChannelExtendedData 4 1 []) ∷ [])
    ∷ (hears_on 0 (ChannelExtendedData 0 1 (codes "aaaa")) ∷ Told (GotData 0 (Some 1) (codes "aaaa")) ∷ [])
    ∷ (Asked (AskRequest 0 (codes "r") true []) ∷ says_on 0 (ChannelRequest 4 (codes "r") true []) ∷ [])
    ∷ (hears_on 0 (ChannelWindowAdjust 0 0) ∷ Told (Adjusted 0 0) ∷ [])
    ∷ (hears_on 0 (ChannelSuccess 0) ∷ Told (RequestDone 0 true) ∷ [])
    ∷ (Asked (AskClose 0) ∷ says_on 0 (ChannelClose 4) ∷ [])
    ∷ (Asked (AskOpen (codes "session") 10 6 []) ∷ says_on 1 (ChannelOpen (codes "session") 1 10 6 []) ∷ Told (Opening 1) ∷ [])
    ∷ (hears_on 0 (ChannelData 0 (codes "aaaa")) ∷ Told (GotData 0 None (codes "aaaa")) ∷ [])
    ∷ (Asked AskRekey ∷ (Sent None (KexInit (with_cookie (replicate 16 130) (proposing (codes "k1" ∷ codes "k2" ∷ []) (codes "h1"
    ∷ codes "h2" ∷ []) (codes "e1" ∷ codes "e2" ∷ []) (codes "e1" ∷ codes "e2" ∷ []) (codes "m1" ∷ []) (codes "m1"
    ∷ [])))) (codes "offer 3")) ∷ [])
    ∷ (Asked (AskRequest 1 (codes "r") true []) ∷ AskRefused AskRefusal.Busy ∷ [])
    ∷ (Refused Refusal.NoCommon (Some []) ∷ says (Disconnect 3 (codes "NoCommon") []) ∷ Died ∷ []) ∷ []

-- messages that might come at any moment
abbrev pub messages : List Msg
messages =
    (KexInit (proposing (codes "k2" ∷ codes "k1" ∷ []) (codes "h1" ∷ codes "h2" ∷ []) (codes "e2" ∷ codes "e1" ∷ []) (codes "e1"
    ∷ codes "e2" ∷ []) (codes "m1" ∷ codes "m2" ∷ codes "m3" ∷ []) (codes "m1" ∷ codes "m2" ∷ [])))
    ∷ (KexInit (guessing (codes "k1" ∷ codes "k2" ∷ []) (codes "h2" ∷ codes "h1" ∷ []) (codes "e1" ∷ codes "e2" ∷ []) (codes "e2"
    ∷ codes "e1" ∷ []) (codes "m3" ∷ codes "m2" ∷ codes "m1" ∷ []) (codes "m1" ∷ codes "m2" ∷ codes "m3" ∷ [])))
    ∷ (ChannelData 0 (codes "a"))
    ∷ (ChannelData 1 [])
    ∷ (ChannelWindowAdjust 1 1)
    ∷ (KexEcdhReply (codes "key of h") (131 ∷ 131 ∷ 131 ∷ replicate 29 46) (codes "right"))
    ∷ (KexEcdhReply (codes "key of h1") (replicate 31 76) (codes "right"))
    ∷ (KexEcdhReply (codes "key of h") (replicate 33 64) (codes "wrong"))
    ∷ (UserauthBanner (codes "a") [])
    ∷ (Ignore (codes "abc"))
    ∷ (RequestSuccess (codes "a"))
    ∷ (NewKeys)
    ∷ (Unknown 192)
    ∷ (RequestFailure) ∷ []

-- asks that might come at any moment
abbrev pub asks : List Ask
asks =
    (AskData 1 (Some 1) [])
    ∷ (AskData 2 (Some 1) (codes "b"))
    ∷ (AskOpen (codes "session") 7 32769 [])
    ∷ (AskNone (codes "u"))
    ∷ (AskEof 0)
    ∷ (AskConfirm 0 10 32768 [])
    ∷ (AskGlobalReply true (codes "x"))
    ∷ (AskRefuse 0 1)
    ∷ (AskSign (codes "u") (codes "alg") (codes "k")) ∷ []

-- numbers that might come at any moment
abbrev pub numbers : List ℕ
numbers =
    0 ∷ 2 ∷ 4 ∷ 19 ∷ 50 ∷ 52 ∷ 79 ∷ 80 ∷ 82 ∷ 89 ∷ 101 ∷ 192 ∷ []

-- the text that is hashed in this exchange
abbrev pub text_0 : List ℕ
text_0 =
    0 ∷ 0 ∷ 0 ∷ 9 ∷ codes "SSH-2.0-c" ++ 0 ∷ 0 ∷ 0 ∷ 12 ∷ codes "SSH-2.0-peer" ++ 0 ∷ 0 ∷ 0 ∷ 7 ∷ codes "offer 1" ++ 0 ∷ 0 ∷ 0 ∷ 7
    ∷ codes "offer 2" ++ 0 ∷ 0 ∷ 0 ∷ 9 ∷ codes "key of h1" ++ 0 ∷ 0 ∷ 0 ∷ 32 ∷ replicate 32 59 ++ 0 ∷ 0 ∷ 0 ∷ 32 ∷ 59 ∷ 59 ∷ 59
    ∷ replicate 29 93 ++ mpint_of 0x6666666666666666666666666666666666666666666666666666666666
