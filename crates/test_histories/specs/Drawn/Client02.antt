-- A drawn session of a client, written by tools/second_reading.
use Rattle.ssh_model.specs.Protocol.Sessions.Parties.{Parties}
use Rattle.std.specs.Prelude.{List, ℕ, codes, ◌∷◌, [], true, replicate, None, false, Some, ◌++◌}
use Rattle.test_histories.specs.Words.{ends_of, with_cookie, proposing, says, hears, hears_on, says_on, guessing}
use Rattle.ssh_model.specs.declared.side.Side.TheVariants.{Client}
use Rattle.ssh_model.specs.declared.strictness.Strictness.TheVariants.{Offer}
use Rattle.ssh_model.specs.Protocol.Sessions.Items.{Item, Item.Fed, Item.SentLine, Item.Sent, Item.TookOtherLine}
use Rattle.ssh_model.specs.Protocol.Sessions.Items.{Item.TookLine, Item.Took, Item.Told, Fact.Completed, Fact.GotExtensions}
use Rattle.ssh_model.specs.Protocol.Sessions.Items.{Item.Asked, Ask.AskService, Fact.Service, Fact.Banner, Ask.AskProbe}
use Rattle.ssh_model.specs.Protocol.Sessions.Items.{Fact.Authenticated, Ask.AskGlobal, Fact.Opened, Fact.GlobalDone}
use Rattle.ssh_model.specs.Protocol.Sessions.Items.{Fact.Global, Ask.AskConfirm, Fact.GotData, Fact.Closed, Ask.AskData}
use Rattle.ssh_model.specs.Protocol.Sessions.Items.{Item.AskRefused, Ask.AskRekey, Fact.Requested, Item.TookGuess}
use Rattle.ssh_model.specs.Protocol.Sessions.Items.{Fact.Ignored, Fact.NotImplemented, Ask.AskReply, Ask.AskClose}
use Rattle.ssh_model.specs.Protocol.Sessions.Items.{Fact.Debugged, Ask.AskOpen, Fact.Opening, Item.Refused, Item.Died, Ask}
use Rattle.ssh_model.specs.Protocol.Sessions.Items.{Ask.AskNone, Ask.AskSign, Ask.AskDisconnect}
use Rattle.ssh_model.specs.Protocol.Wire.Message.{Msg.KexInit, Msg.KexEcdhInit, Msg.KexEcdhReply, Msg.NewKeys, Msg.ExtInfo}
use Rattle.ssh_model.specs.Protocol.Wire.Message.{Msg.ServiceRequest, Msg.ServiceAccept, Msg.UserauthBanner}
use Rattle.ssh_model.specs.Protocol.Wire.Message.{Msg.UserauthRequest, Method.Publickey, Msg.UserauthSuccess}
use Rattle.ssh_model.specs.Protocol.Wire.Message.{Msg.GlobalRequest, Msg.ChannelOpen, Msg.RequestFailure, Msg.Unknown}
use Rattle.ssh_model.specs.Protocol.Wire.Message.{Msg.Unimplemented, Msg.ChannelOpenConfirmation, Msg.ChannelData}
use Rattle.ssh_model.specs.Protocol.Wire.Message.{Msg.ChannelClose, Msg.ChannelRequest, Msg.Ignore, Msg.ChannelFailure}
use Rattle.ssh_model.specs.Protocol.Wire.Message.{Msg.Debug, Msg.Disconnect, Msg, Msg.ChannelWindowAdjust}
use Rattle.ssh_model.specs.Protocol.Wire.Message.{Msg.ChannelOpenFailure, Msg.ChannelEof, Msg.RequestSuccess}
use Rattle.ssh_model.specs.declared.request_kind.RequestKind.TheVariants as kind
use Rattle.ssh_model.specs.declared.ask_refusal.AskRefusal.{AskRefusal}
use Rattle.ssh_model.specs.declared.refusal.Refusal.{Refusal}
use Rattle.ssh_model.specs.Protocol.KeyExchange.Exchange.{mpint_of}

-- the ends, of which the client has drawn settings
abbrev pub ends : Parties (List ℕ)
ends = ends_of Client (record {
  line = codes "SSH-2.0-c";
  kex = codes "k1" ∷ [];
  host = codes "h1" ∷ codes "h3" ∷ [];
  encryption = codes "e2" ∷ codes "e1" ∷ [];
  mac = codes "m2" ∷ codes "m1" ∷ codes "m3" ∷ [];
  epoch_limit = 6;
  tries = 0;
  methods = codes "publickey" ∷ codes "password" ∷ [];
  strictness = Offer;
  takes_extensions = true;
  extensions = record { name = codes "x"; value = codes "y" } ∷ [];
})

-- the turns
abbrev pub turns : List (List Item)
turns =
    (Fed (replicate 16 45) (replicate 32 88) ∷ SentLine (codes "SSH-2.0-c")
    ∷ (Sent None (KexInit (with_cookie (replicate 16 45) (proposing (codes "k1" ∷ codes "ext-info-c" ∷ codes "kex-strict-c-v00@openssh.com"
    ∷ []) (codes "h1" ∷ codes "h3" ∷ []) (codes "e2" ∷ codes "e1" ∷ []) (codes "e2" ∷ codes "e1" ∷ []) (codes "m2" ∷ codes "m1" ∷ codes "m3"
    ∷ []) (codes "m2" ∷ codes "m1" ∷ codes "m3" ∷ [])))) (codes "offer 1")) ∷ [])
    ∷ (TookOtherLine (codes "hello") ∷ [])
    ∷ (TookOtherLine (codes "hello") ∷ [])
    ∷ (TookLine (codes "SSH-2.0-peer") ∷ [])
    ∷ ((Took None (KexInit (proposing (codes "kex-strict-s-v00@openssh.com" ∷ codes "k2" ∷ codes "k1" ∷ codes "k3" ∷ []) (codes "h1"
    ∷ codes "h3" ∷ []) (codes "e1" ∷ codes "e2" ∷ []) (codes "e2" ∷ codes "e1" ∷ []) (codes "m2" ∷ codes "m1" ∷ codes "m3" ∷ []) (codes "m1"
    ∷ codes "m3" ∷ codes "m2" ∷ []))) (codes "offer 2")) ∷ says (KexEcdhInit (replicate 32 88)) ∷ [])
    ∷ (hears (KexEcdhReply (codes "key of h1") (replicate 32 91) (codes "right")) ∷ says NewKeys ∷ Told (Completed 1) ∷ [])
    ∷ (hears NewKeys ∷ [])
    ∷ ((hears (ExtInfo (record { name = codes "x"; value = [] } ∷ []))) ∷ (Told (GotExtensions (record { name = codes "x"; value = [] }
    ∷ []))) ∷ [])
    ∷ (Asked AskService ∷ says (ServiceRequest (codes "ssh-userauth")) ∷ [])
    ∷ (hears (ServiceAccept (codes "ssh-userauth")) ∷ Told Service ∷ [])
    ∷ (hears (UserauthBanner (codes "abc") []) ∷ Told (Banner (codes "abc")) ∷ [])
    ∷ (Asked (AskProbe (codes "u") (codes "alg") (codes "k"))
    ∷ says (UserauthRequest (codes "u") (codes "ssh-connection") (Publickey (codes "alg") (codes "k") None)) ∷ [])
    ∷ (hears UserauthSuccess ∷ Told (Authenticated kind.Probe) ∷ [])
    ∷ (Asked (AskGlobal (codes "g") true []) ∷ says (GlobalRequest (codes "g") true []) ∷ [])
    ∷ (hears_on 1 (ChannelOpen (codes "session") 8 6 7 []) ∷ Told (Opened 1 (codes "session") 6 7 []) ∷ [])
    ∷ (hears RequestFailure ∷ Told (GlobalDone false []) ∷ [])
    ∷ (hears (Unknown 29) ∷ says (Unimplemented 6) ∷ [])
    ∷ (hears (GlobalRequest (codes "g") false []) ∷ Told (Global (codes "g") false []) ∷ [])
    ∷ (hears_on 2 (ChannelOpen (codes "session") 4 5 8 []) ∷ Told (Opened 2 (codes "session") 5 8 []) ∷ [])
    ∷ (Asked (AskConfirm 2 10 8 []) ∷ says_on 2 (ChannelOpenConfirmation 4 2 10 8 []) ∷ [])
    ∷ (hears_on 2 (ChannelData 2 (codes "a")) ∷ Told (GotData 2 None (codes "a")) ∷ [])
    ∷ (Fed (replicate 16 36) (replicate 32 248) ∷ [])
    ∷ (hears_on 2 (ChannelClose 2) ∷ says_on 2 (ChannelClose 4) ∷ Told (Closed 2) ∷ [])
    ∷ ((Took None (KexInit (guessing (codes "k1" ∷ []) (codes "h1" ∷ codes "h3" ∷ []) (codes "e2" ∷ codes "e1" ∷ []) (codes "e2"
    ∷ codes "e1" ∷ []) (codes "m2" ∷ codes "m3" ∷ codes "m1" ∷ []) (codes "m1" ∷ codes "m3" ∷ codes "m2" ∷ []))) (codes "offer 3"))
    ∷ (Sent None (KexInit (with_cookie (replicate 16 36) (proposing (codes "k1" ∷ []) (codes "h1" ∷ codes "h3" ∷ []) (codes "e2"
    ∷ codes "e1" ∷ []) (codes "e2" ∷ codes "e1" ∷ []) (codes "m2" ∷ codes "m1" ∷ codes "m3" ∷ []) (codes "m2" ∷ codes "m1" ∷ codes "m3"
    ∷ [])))) (codes "offer 4")) ∷ says (KexEcdhInit (replicate 32 248)) ∷ [])
    ∷ (Fed (replicate 16 189) (replicate 32 67) ∷ [])
    ∷ ((hears (KexEcdhReply (codes "key of h1") (248 ∷ 248 ∷ 248 ∷ replicate 29 94) (codes "right"))) ∷ says NewKeys ∷ Told (Completed 2)
    ∷ [])
    ∷ (Asked (AskConfirm 1 6 8 []) ∷ says_on 1 (ChannelOpenConfirmation 8 1 6 8 []) ∷ [])
    ∷ (hears NewKeys ∷ [])
    ∷ (Asked (AskData 0 None (codes "b")) ∷ AskRefused AskRefusal.NoChannel ∷ [])
    ∷ (Asked AskRekey ∷ (Sent None (KexInit (with_cookie (replicate 16 189) (proposing (codes "k1" ∷ []) (codes "h1" ∷ codes "h3"
    ∷ []) (codes "e2" ∷ codes "e1" ∷ []) (codes "e2" ∷ codes "e1" ∷ []) (codes "m2" ∷ codes "m1" ∷ codes "m3" ∷ []) (codes "m2" ∷ codes "m1"
    ∷ codes "m3" ∷ [])))) (codes "offer 5")) ∷ [])
    ∷ (hears_on 1 (ChannelRequest 1 (codes "r") true (codes "a")) ∷ Told (Requested 1 (codes "r") true (codes "a")) ∷ [])
    ∷ ((Took None (KexInit (guessing (codes "k1" ∷ []) (codes "h2" ∷ codes "h1" ∷ codes "h3" ∷ []) (codes "e1" ∷ codes "e2"
    ∷ []) (codes "e1" ∷ codes "e2" ∷ []) (codes "m3" ∷ codes "m1" ∷ []) (codes "m1" ∷ codes "m2" ∷ []))) (codes "offer 6"))
    ∷ says (KexEcdhInit (replicate 32 67)) ∷ [])
    ∷ (TookGuess [] ∷ Told Ignored ∷ [])
    ∷ (hears (Ignore []) ∷ Told Ignored ∷ [])
    ∷ (Fed (replicate 16 43) (replicate 32 100) ∷ [])
    ∷ (hears (Unimplemented 5) ∷ Told (NotImplemented 5) ∷ [])
    ∷ (hears (KexEcdhReply (codes "key of h1") (replicate 32 204) (codes "right")) ∷ says NewKeys ∷ Told (Completed 3) ∷ [])
    ∷ (Asked (AskReply 1 false) ∷ says_on 1 (ChannelFailure 8) ∷ [])
    ∷ (Asked (AskClose 1) ∷ says_on 1 (ChannelClose 8) ∷ [])
    ∷ (hears NewKeys ∷ [])
    ∷ ((Took None (KexInit (guessing (codes "k1" ∷ []) (codes "h3" ∷ codes "h1" ∷ []) (codes "e2" ∷ codes "e1" ∷ []) (codes "e1"
    ∷ codes "e2" ∷ []) (codes "m3" ∷ codes "m2" ∷ codes "m1" ∷ []) (codes "m2" ∷ codes "m1" ∷ codes "m3" ∷ []))) (codes "offer 7"))
    ∷ (Sent None (KexInit (with_cookie (replicate 16 43) (proposing (codes "k1" ∷ []) (codes "h1" ∷ codes "h3" ∷ []) (codes "e2"
    ∷ codes "e1" ∷ []) (codes "e2" ∷ codes "e1" ∷ []) (codes "m2" ∷ codes "m1" ∷ codes "m3" ∷ []) (codes "m2" ∷ codes "m1" ∷ codes "m3"
    ∷ [])))) (codes "offer 8")) ∷ says (KexEcdhInit (replicate 32 100)) ∷ [])
    ∷ (Fed (replicate 16 42) (replicate 32 170) ∷ [])
    ∷ (TookGuess [] ∷ Told Ignored ∷ [])
    ∷ (hears (Unimplemented 2) ∷ Told (NotImplemented 2) ∷ [])
    ∷ (hears (Debug true [] []) ∷ Told (Debugged true []) ∷ [])
    ∷ (hears (Debug true [] []) ∷ Told (Debugged true []) ∷ [])
    ∷ (Asked AskRekey ∷ AskRefused AskRefusal.Busy ∷ [])
    ∷ (hears (Ignore []) ∷ Told Ignored ∷ [])
    ∷ (hears (Ignore (codes "a")) ∷ Told Ignored ∷ [])
    ∷ (hears (Unimplemented 5) ∷ Told (NotImplemented 5) ∷ [])
    ∷ (hears (Unimplemented 4) ∷ Told (NotImplemented 4) ∷ [])
    ∷ (hears (KexEcdhReply (codes "key of h1") (replicate 32 247) (codes "right")) ∷ says NewKeys ∷ Told (Completed 4) ∷ [])
    ∷ (Asked (AskOpen (codes "session") 11 6 []) ∷ says_on 0 (ChannelOpen (codes "session") 0 11 6 []) ∷ Told (Opening 0) ∷ [])
    ∷ (Refused Refusal.Unexpected (Some []) ∷ says (Disconnect 2 (codes "Unexpected") []) ∷ Died ∷ []) ∷ []

-- messages that might come at any moment
abbrev pub messages : List Msg
messages =
    (KexInit (guessing (codes "k1" ∷ []) (codes "h1" ∷ codes "h3" ∷ []) (codes "e2" ∷ codes "e1" ∷ []) (codes "e1" ∷ codes "e2"
    ∷ []) (codes "m3" ∷ codes "m1" ∷ []) (codes "m1" ∷ codes "m3" ∷ [])))
    ∷ (KexInit (guessing (codes "k1" ∷ []) (codes "h2" ∷ codes "h1" ∷ codes "h3" ∷ []) (codes "e1" ∷ codes "e2" ∷ []) (codes "e1"
    ∷ codes "e2" ∷ []) (codes "m1" ∷ codes "m2" ∷ codes "m3" ∷ []) (codes "m2" ∷ codes "m3" ∷ [])))
    ∷ (ChannelData 1 [])
    ∷ (ChannelData 2 (codes "aaaa"))
    ∷ (ChannelWindowAdjust 1 1)
    ∷ (KexEcdhReply (codes "key of h1") (0 ∷ replicate 31 3) (codes "right"))
    ∷ (KexEcdhReply (codes "key of h") (replicate 32 67) (codes "wrong"))
    ∷ (KexEcdhReply (codes "key of h1") (replicate 32 205) (codes "right"))
    ∷ (ChannelOpenFailure 2 1 [] [])
    ∷ (Unknown 29)
    ∷ (ChannelEof 0)
    ∷ (RequestFailure)
    ∷ (RequestSuccess [])
    ∷ (UserauthSuccess) ∷ []

-- asks that might come at any moment
abbrev pub asks : List Ask
asks =
    (AskData 0 (Some 1) (codes "bbbb"))
    ∷ (AskData 0 None (codes "bbbbbb"))
    ∷ (AskNone (codes "u"))
    ∷ (AskProbe (codes "u") (codes "alg") (codes "k"))
    ∷ (AskSign (codes "u") (codes "alg") (codes "k"))
    ∷ (AskClose 0)
    ∷ (AskDisconnect (codes "bye"))
    ∷ (AskService)
    ∷ (AskConfirm 2 11 32769 []) ∷ []

-- numbers that might come at any moment
abbrev pub numbers : List ℕ
numbers =
    2 ∷ 4 ∷ 7 ∷ 22 ∷ 30 ∷ 53 ∷ 61 ∷ 82 ∷ 83 ∷ 97 ∷ 100 ∷ 191 ∷ []

-- the text that is hashed in this exchange
abbrev pub text_0 : List ℕ
text_0 =
    0 ∷ 0 ∷ 0 ∷ 9 ∷ codes "SSH-2.0-c" ++ 0 ∷ 0 ∷ 0 ∷ 12 ∷ codes "SSH-2.0-peer" ++ 0 ∷ 0 ∷ 0 ∷ 7 ∷ codes "offer 1" ++ 0 ∷ 0 ∷ 0 ∷ 7
    ∷ codes "offer 2" ++ 0 ∷ 0 ∷ 0 ∷ 9 ∷ codes "key of h1" ++ 0 ∷ 0 ∷ 0 ∷ codes " XXXXXXXXXXXXXXXXXXXXXXXXXXXXXXXX" ++ 0 ∷ 0 ∷ 0 ∷ 32
    ∷ replicate 32 91 ++ mpint_of 0x303030303030303030303030303030303030303030303030303030303030303

-- the text that is hashed in this exchange
abbrev pub text_1 : List ℕ
text_1 =
    0 ∷ 0 ∷ 0 ∷ 9 ∷ codes "SSH-2.0-c" ++ 0 ∷ 0 ∷ 0 ∷ 12 ∷ codes "SSH-2.0-peer" ++ 0 ∷ 0 ∷ 0 ∷ 7 ∷ codes "offer 4" ++ 0 ∷ 0 ∷ 0 ∷ 7
    ∷ codes "offer 3" ++ 0 ∷ 0 ∷ 0 ∷ 9 ∷ codes "key of h1" ++ 0 ∷ 0 ∷ 0 ∷ 32 ∷ replicate 32 248 ++ 0 ∷ 0 ∷ 0 ∷ 32 ∷ 248 ∷ 248 ∷ 248
    ∷ replicate 29 94 ++ mpint_of 0xa6a6a6a6a6a6a6a6a6a6a6a6a6a6a6a6a6a6a6a6a6a6a6a6a6a6a6a6a6

-- the text that is hashed in this exchange
abbrev pub text_2 : List ℕ
text_2 =
    0 ∷ 0 ∷ 0 ∷ 9 ∷ codes "SSH-2.0-c" ++ 0 ∷ 0 ∷ 0 ∷ 12 ∷ codes "SSH-2.0-peer" ++ 0 ∷ 0 ∷ 0 ∷ 7 ∷ codes "offer 5" ++ 0 ∷ 0 ∷ 0 ∷ 7
    ∷ codes "offer 6" ++ 0 ∷ 0 ∷ 0 ∷ 9 ∷ codes "key of h1" ++ 0 ∷ 0 ∷ 0 ∷ codes " CCCCCCCCCCCCCCCCCCCCCCCCCCCCCCCC" ++ 0 ∷ 0 ∷ 0 ∷ 32
    ∷ replicate 32 204 ++ mpint_of 0x8f8f8f8f8f8f8f8f8f8f8f8f8f8f8f8f8f8f8f8f8f8f8f8f8f8f8f8f8f8f8f8f

-- the text that is hashed in this exchange
abbrev pub text_3 : List ℕ
text_3 =
    0 ∷ 0 ∷ 0 ∷ 9 ∷ codes "SSH-2.0-c" ++ 0 ∷ 0 ∷ 0 ∷ 12 ∷ codes "SSH-2.0-peer" ++ 0 ∷ 0 ∷ 0 ∷ 7 ∷ codes "offer 8" ++ 0 ∷ 0 ∷ 0 ∷ 7
    ∷ codes "offer 7" ++ 0 ∷ 0 ∷ 0 ∷ 9 ∷ codes "key of h1" ++ 0 ∷ 0 ∷ 0 ∷ codes " dddddddddddddddddddddddddddddddd" ++ 0 ∷ 0 ∷ 0 ∷ 32
    ∷ replicate 32 247 ++ mpint_of 0x9393939393939393939393939393939393939393939393939393939393939393
