-- A drawn session of a client, written by tools/second_reading.
use Rattle.ssh_model.specs.Protocol.Sessions.Parties.{Parties}
use Rattle.std.specs.Prelude.{List, ℕ, codes, ◌∷◌, [], true, replicate, None, ◌++◌, Some, false}
use Rattle.test_histories.specs.Words.{ends_of, with_cookie, proposing, says, hears, says_on, hears_on, guessing}
use Rattle.ssh_model.specs.declared.side.Side.TheVariants.{Client}
use Rattle.ssh_model.specs.declared.strictness.Strictness.TheVariants.{Off}
use Rattle.ssh_model.specs.Protocol.Sessions.Items.{Item, Item.Fed, Item.SentLine, Item.Sent, Item.TookOtherLine}
use Rattle.ssh_model.specs.Protocol.Sessions.Items.{Item.TookLine, Item.Took, Item.Told, Fact.Debugged, Fact.Completed}
use Rattle.ssh_model.specs.Protocol.Sessions.Items.{Fact.GotExtensions, Item.Asked, Ask.AskService, Fact.Service}
use Rattle.ssh_model.specs.Protocol.Sessions.Items.{Fact.Banner, Ask.AskSign, Fact.Failed, Ask.AskProbe, Fact.Authenticated}
use Rattle.ssh_model.specs.Protocol.Sessions.Items.{Ask.AskOpen, Fact.Opening, Ask.AskRekey, Fact.NotImplemented}
use Rattle.ssh_model.specs.Protocol.Sessions.Items.{Fact.Confirmed, Ask.AskAdjust, Item.AskRefused, Ask.AskData, Ask.AskEof}
use Rattle.ssh_model.specs.Protocol.Sessions.Items.{Fact.Opened, Ask.AskRequest, Fact.Ended, Fact.GotData, Ask.AskConfirm}
use Rattle.ssh_model.specs.Protocol.Sessions.Items.{Fact.Requested, Fact.Adjusted, Fact.Ignored, Ask.AskGlobal, Fact.Closed}
use Rattle.ssh_model.specs.Protocol.Sessions.Items.{Item.TookGuess, Ask, Ask.AskPassword, Ask.AskRefuse}
use Rattle.ssh_model.specs.Protocol.Wire.Message.{Msg.KexInit, Msg.KexEcdhInit, Msg.Debug, Msg.KexEcdhReply, Msg.NewKeys}
use Rattle.ssh_model.specs.Protocol.Wire.Message.{Msg.ExtInfo, Msg.ServiceRequest, Msg.ServiceAccept, Msg.UserauthBanner}
use Rattle.ssh_model.specs.Protocol.Wire.Message.{Msg.UserauthRequest, Method.Publickey, Msg.UserauthFailure}
use Rattle.ssh_model.specs.Protocol.Wire.Message.{Msg.UserauthSuccess, Msg.ChannelOpen, Msg.Unknown, Msg.Unimplemented}
use Rattle.ssh_model.specs.Protocol.Wire.Message.{Msg.ChannelOpenConfirmation, Msg.ChannelExtendedData, Msg.ChannelEof}
use Rattle.ssh_model.specs.Protocol.Wire.Message.{Msg.ChannelRequest, Msg.ChannelWindowAdjust, Msg.Ignore, Msg.GlobalRequest}
use Rattle.ssh_model.specs.Protocol.Wire.Message.{Msg.ChannelClose, Msg, Msg.ChannelData, Msg.RequestFailure}
use Rattle.ssh_model.specs.Protocol.Wire.Message.{Msg.UserauthPkOk}
use Rattle.ssh_model.specs.declared.request_kind.RequestKind.TheVariants as kind
use Rattle.ssh_model.specs.declared.ask_refusal.AskRefusal.{AskRefusal}
use Rattle.ssh_model.specs.Protocol.KeyExchange.Exchange.{mpint_of}

-- the ends, of which the client has drawn settings
abbrev pub ends : Parties (List ℕ)
ends = ends_of Client (record {
  line = codes "SSH-2.0-c";
  kex = codes "k2" ∷ codes "k3" ∷ codes "k1" ∷ [];
  host = codes "h1" ∷ codes "h3" ∷ [];
  encryption = codes "e1" ∷ [];
  mac = codes "m1" ∷ codes "m2" ∷ [];
  epoch_limit = 10;
  tries = 0;
  methods = codes "publickey" ∷ codes "password" ∷ [];
  strictness = Off;
  takes_extensions = true;
  extensions = record { name = codes "x"; value = codes "y" } ∷ [];
})

-- the turns
abbrev pub turns : List (List Item)
turns =
    (Fed (replicate 16 83) (replicate 32 109) ∷ SentLine (codes "SSH-2.0-c")
    ∷ (Sent None (KexInit (with_cookie (replicate 16 83) (proposing (codes "k2" ∷ codes "k3" ∷ codes "k1" ∷ codes "ext-info-c"
    ∷ []) (codes "h1" ∷ codes "h3" ∷ []) (codes "e1" ∷ []) (codes "e1" ∷ []) (codes "m1" ∷ codes "m2" ∷ []) (codes "m1" ∷ codes "m2"
    ∷ [])))) (codes "offer 1")) ∷ [])
    ∷ (TookOtherLine (codes "hello") ∷ [])
    ∷ (TookOtherLine (codes "hello") ∷ [])
    ∷ (TookLine (codes "SSH-2.0-peer") ∷ [])
    ∷ ((Took None (KexInit (proposing (codes "k1" ∷ codes "k2" ∷ codes "k3" ∷ codes "kex-strict-s-v00@openssh.com" ∷ []) (codes "h2"
    ∷ codes "h3" ∷ []) (codes "e1" ∷ codes "e2" ∷ []) (codes "e2" ∷ codes "e1" ∷ []) (codes "m2" ∷ codes "m3" ∷ []) (codes "m2" ∷ codes "m3"
    ∷ []))) (codes "offer 2")) ∷ says (KexEcdhInit (replicate 32 109)) ∷ [])
    ∷ (hears (Debug true [] []) ∷ Told (Debugged true []) ∷ [])
    ∷ ((hears (KexEcdhReply (codes "key of h3") (codes "mmm" ++ replicate 29 60) (codes "right"))) ∷ says NewKeys ∷ Told (Completed 1) ∷ [])
    ∷ (hears NewKeys ∷ [])
    ∷ ((hears (ExtInfo (record { name = codes "x"; value = [] } ∷ []))) ∷ (Told (GotExtensions (record { name = codes "x"; value = [] }
    ∷ []))) ∷ [])
    ∷ (Asked AskService ∷ says (ServiceRequest (codes "ssh-userauth")) ∷ [])
    ∷ (hears (ServiceAccept (codes "ssh-userauth")) ∷ Told Service ∷ [])
    ∷ (hears (UserauthBanner (codes "a") []) ∷ Told (Banner (codes "a")) ∷ [])
    ∷ (hears (Debug true (codes "abc") []) ∷ Told (Debugged true (codes "abc")) ∷ [])
    ∷ (Asked (AskSign (codes "u") (codes "alg") (codes "k"))
    ∷ says (UserauthRequest (codes "u") (codes "ssh-connection") (Publickey (codes "alg") (codes "k") (Some (codes "right")))) ∷ [])
    ∷ ((hears (UserauthFailure (codes "password" ∷ []) true)) ∷ (Told (Failed (codes "password" ∷ []) true)) ∷ [])
    ∷ (Asked (AskProbe (codes "u") (codes "alg") (codes "k"))
    ∷ says (UserauthRequest (codes "u") (codes "ssh-connection") (Publickey (codes "alg") (codes "k") None)) ∷ [])
    ∷ (hears UserauthSuccess ∷ Told (Authenticated kind.Probe) ∷ [])
    ∷ (Asked (AskOpen (codes "session") 5 6 []) ∷ says_on 1 (ChannelOpen (codes "session") 1 5 6 []) ∷ Told (Opening 1) ∷ [])
    ∷ (Fed (replicate 16 96) (replicate 32 38) ∷ [])
    ∷ (Asked AskRekey ∷ (Sent None (KexInit (with_cookie (replicate 16 96) (proposing (codes "k2" ∷ codes "k3" ∷ codes "k1"
    ∷ []) (codes "h1" ∷ codes "h3" ∷ []) (codes "e1" ∷ []) (codes "e1" ∷ []) (codes "m1" ∷ codes "m2" ∷ []) (codes "m1" ∷ codes "m2"
    ∷ [])))) (codes "offer 3")) ∷ [])
    ∷ ((Took None (KexInit (proposing (codes "k1" ∷ codes "k2" ∷ codes "k3" ∷ []) (codes "h1" ∷ codes "h3" ∷ []) (codes "e2" ∷ codes "e1"
    ∷ []) (codes "e2" ∷ codes "e1" ∷ []) (codes "m1" ∷ codes "m2" ∷ []) (codes "m3" ∷ codes "m2" ∷ codes "m1" ∷ []))) (codes "offer 4"))
    ∷ says (KexEcdhInit (replicate 32 38)) ∷ [])
    ∷ (hears (Unknown 8) ∷ says (Unimplemented 11) ∷ [])
    ∷ (hears (KexEcdhReply (codes "key of h1") (replicate 32 181) (codes "right")) ∷ says NewKeys ∷ Told (Completed 2) ∷ [])
    ∷ (hears NewKeys ∷ [])
    ∷ (hears (Unimplemented 7) ∷ Told (NotImplemented 7) ∷ [])
    ∷ (Asked (AskOpen (codes "session") 12 6 []) ∷ says_on 0 (ChannelOpen (codes "session") 0 12 6 []) ∷ Told (Opening 0) ∷ [])
    ∷ (hears_on 0 (ChannelOpenConfirmation 0 3 6 7 []) ∷ Told (Confirmed 0 6 7 []) ∷ [])
    ∷ (Asked (AskAdjust 0 4294967288) ∷ AskRefused AskRefusal.TooMuch ∷ [])
    ∷ (Asked (AskData 0 (Some 1) []) ∷ says_on 0 (ChannelExtendedData 3 1 []) ∷ [])
    ∷ (Asked (AskEof 0) ∷ says_on 0 (ChannelEof 3) ∷ [])
    ∷ (hears_on 3 (ChannelOpen (codes "session") 0 7 4 []) ∷ Told (Opened 3 (codes "session") 7 4 []) ∷ [])
    ∷ (hears_on 1 (ChannelOpenConfirmation 1 8 8 5 []) ∷ Told (Confirmed 1 8 5 []) ∷ [])
    ∷ (Asked (AskRequest 1 (codes "r") true []) ∷ says_on 1 (ChannelRequest 8 (codes "r") true []) ∷ [])
    ∷ (hears_on 1 (ChannelEof 1) ∷ Told (Ended 1) ∷ [])
    ∷ (hears_on 0 (ChannelExtendedData 0 1 []) ∷ Told (GotData 0 (Some 1) []) ∷ [])
    ∷ (Fed (replicate 16 183) (replicate 32 148) ∷ [])
    ∷ (Asked (AskConfirm 3 8 8 []) ∷ says_on 3 (ChannelOpenConfirmation 0 3 8 8 []) ∷ [])
    ∷ (Asked AskRekey ∷ (Sent None (KexInit (with_cookie (replicate 16 183) (proposing (codes "k2" ∷ codes "k3" ∷ codes "k1"
    ∷ []) (codes "h1" ∷ codes "h3" ∷ []) (codes "e1" ∷ []) (codes "e1" ∷ []) (codes "m1" ∷ codes "m2" ∷ []) (codes "m1" ∷ codes "m2"
    ∷ [])))) (codes "offer 5")) ∷ [])
    ∷ (Fed (replicate 16 223) (replicate 32 154) ∷ [])
    ∷ (hears_on 1 (ChannelRequest 1 (codes "r") true []) ∷ Told (Requested 1 (codes "r") true []) ∷ [])
    ∷ (hears_on 0 (ChannelWindowAdjust 0 1) ∷ Told (Adjusted 0 1) ∷ [])
    ∷ ((Took None (KexInit (proposing (codes "k2" ∷ codes "k3" ∷ codes "k1" ∷ []) (codes "h3" ∷ codes "h1" ∷ []) (codes "e1" ∷ codes "e2"
    ∷ []) (codes "e2" ∷ codes "e1" ∷ []) (codes "m2" ∷ codes "m1" ∷ []) (codes "m2" ∷ codes "m3" ∷ codes "m1" ∷ []))) (codes "offer 6"))
    ∷ says (KexEcdhInit (replicate 32 148)) ∷ [])
    ∷ (hears (Ignore []) ∷ Told Ignored ∷ [])
    ∷ (hears (KexEcdhReply (codes "key of h1") (replicate 32 152) (codes "right")) ∷ says NewKeys ∷ Told (Completed 3) ∷ [])
    ∷ (Asked (AskEof 1) ∷ says_on 1 (ChannelEof 8) ∷ [])
    ∷ (Asked (AskGlobal (codes "g") true []) ∷ says (GlobalRequest (codes "g") true []) ∷ [])
    ∷ (hears (Unimplemented 5) ∷ Told (NotImplemented 5) ∷ [])
    ∷ (hears NewKeys ∷ [])
    ∷ (hears_on 0 (ChannelEof 0) ∷ Told (Ended 0) ∷ [])
    ∷ (Asked (AskRequest 3 (codes "r") false []) ∷ says_on 3 (ChannelRequest 0 (codes "r") false []) ∷ [])
    ∷ (hears_on 0 (ChannelClose 0) ∷ says_on 0 (ChannelClose 3) ∷ Told (Closed 0) ∷ [])
    ∷ (Asked (AskRequest 1 (codes "r") true []) ∷ says_on 1 (ChannelRequest 8 (codes "r") true []) ∷ [])
    ∷ (hears_on 3 (ChannelWindowAdjust 3 1) ∷ Told (Adjusted 3 1) ∷ [])
    ∷ ((Took None (KexInit (guessing (codes "k1" ∷ codes "k3" ∷ codes "k2" ∷ []) (codes "h2" ∷ codes "h1" ∷ []) (codes "e1" ∷ codes "e2"
    ∷ []) (codes "e2" ∷ codes "e1" ∷ []) (codes "m1" ∷ codes "m3" ∷ codes "m2" ∷ []) (codes "m3" ∷ codes "m2" ∷ []))) (codes "offer 7"))
    ∷ (Sent None (KexInit (with_cookie (replicate 16 223) (proposing (codes "k2" ∷ codes "k3" ∷ codes "k1" ∷ []) (codes "h1" ∷ codes "h3"
    ∷ []) (codes "e1" ∷ []) (codes "e1" ∷ []) (codes "m1" ∷ codes "m2" ∷ []) (codes "m1" ∷ codes "m2" ∷ [])))) (codes "offer 8"))
    ∷ says (KexEcdhInit (replicate 32 154)) ∷ [])
    ∷ (TookGuess [] ∷ Told Ignored ∷ [])
    ∷ (hears (KexEcdhReply (codes "key of h1") (replicate 32 59) (codes "right")) ∷ says NewKeys ∷ Told (Completed 4) ∷ []) ∷ []

-- messages that might come at any moment
abbrev pub messages : List Msg
messages =
    (KexInit (guessing (codes "k1" ∷ codes "k3" ∷ codes "k2" ∷ []) (codes "h2" ∷ codes "h1" ∷ []) (codes "e1" ∷ codes "e2" ∷ []) (codes "e2"
    ∷ codes "e1" ∷ []) (codes "m1" ∷ codes "m3" ∷ codes "m2" ∷ []) (codes "m3" ∷ codes "m2" ∷ [])))
    ∷ (KexInit (proposing (codes "k1" ∷ codes "k2" ∷ codes "k3" ∷ []) (codes "h1" ∷ codes "h3" ∷ []) (codes "e2" ∷ codes "e1"
    ∷ []) (codes "e2" ∷ codes "e1" ∷ []) (codes "m1" ∷ codes "m2" ∷ []) (codes "m3" ∷ codes "m2" ∷ codes "m1" ∷ [])))
    ∷ (ChannelData 1 (codes "a"))
    ∷ (ChannelData 0 (codes "a"))
    ∷ (ChannelWindowAdjust 1 20)
    ∷ (KexEcdhReply (codes "key of h3") (0 ∷ replicate 31 52) (codes "right"))
    ∷ (KexEcdhReply (codes "key of h3") (replicate 32 153) (codes "right"))
    ∷ (KexEcdhReply (codes "key of h1") (replicate 32 154) (codes "right"))
    ∷ (ChannelOpenConfirmation 3 3 5 8 [])
    ∷ (Unimplemented 5)
    ∷ (RequestFailure)
    ∷ (UserauthBanner (codes "a") [])
    ∷ (NewKeys)
    ∷ (UserauthPkOk (codes "alg") (codes "k")) ∷ []

-- asks that might come at any moment
abbrev pub asks : List Ask
asks =
    (AskData 0 (Some 1) [])
    ∷ (AskData 3 (Some 1) [])
    ∷ (AskOpen (codes "session") 9 8 [])
    ∷ (AskSign (codes "u") (codes "alg") (codes "k"))
    ∷ (AskEof 1)
    ∷ (AskConfirm 3 10 32768 [])
    ∷ (AskPassword (codes "u") (codes "q"))
    ∷ (AskAdjust 1 20)
    ∷ (AskRefuse 3 1) ∷ []

-- numbers that might come at any moment
abbrev pub numbers : List ℕ
numbers =
    1 ∷ 4 ∷ 19 ∷ 32 ∷ 49 ∷ 52 ∷ 60 ∷ 61 ∷ 83 ∷ 97 ∷ 100 ∷ 192 ∷ []

-- the text that is hashed in this exchange
abbrev pub text_0 : List ℕ
text_0 =
    0 ∷ 0 ∷ 0 ∷ 9 ∷ codes "SSH-2.0-c" ++ 0 ∷ 0 ∷ 0 ∷ 12 ∷ codes "SSH-2.0-peer" ++ 0 ∷ 0 ∷ 0 ∷ 7 ∷ codes "offer 1" ++ 0 ∷ 0 ∷ 0 ∷ 7
    ∷ codes "offer 2" ++ 0 ∷ 0 ∷ 0 ∷ 9 ∷ codes "key of h3" ++ 0 ∷ 0 ∷ 0 ∷ codes " mmmmmmmmmmmmmmmmmmmmmmmmmmmmmmmm" ++ 0 ∷ 0 ∷ 0
    ∷ codes " mmm" ++ replicate 29 60 ++ mpint_of 0x5151515151515151515151515151515151515151515151515151515151

-- the text that is hashed in this exchange
abbrev pub text_1 : List ℕ
text_1 =
    0 ∷ 0 ∷ 0 ∷ 9 ∷ codes "SSH-2.0-c" ++ 0 ∷ 0 ∷ 0 ∷ 12 ∷ codes "SSH-2.0-peer" ++ 0 ∷ 0 ∷ 0 ∷ 7 ∷ codes "offer 3" ++ 0 ∷ 0 ∷ 0 ∷ 7
    ∷ codes "offer 4" ++ 0 ∷ 0 ∷ 0 ∷ 9 ∷ codes "key of h1" ++ 0 ∷ 0 ∷ 0 ∷ 32 ∷ replicate 32 38 ++ 0 ∷ 0 ∷ 0 ∷ 32 ∷ replicate 32 181
    ++ mpint_of 0x9393939393939393939393939393939393939393939393939393939393939393

-- the text that is hashed in this exchange
abbrev pub text_2 : List ℕ
text_2 =
    0 ∷ 0 ∷ 0 ∷ 9 ∷ codes "SSH-2.0-c" ++ 0 ∷ 0 ∷ 0 ∷ 12 ∷ codes "SSH-2.0-peer" ++ 0 ∷ 0 ∷ 0 ∷ 7 ∷ codes "offer 5" ++ 0 ∷ 0 ∷ 0 ∷ 7
    ∷ codes "offer 6" ++ 0 ∷ 0 ∷ 0 ∷ 9 ∷ codes "key of h1" ++ 0 ∷ 0 ∷ 0 ∷ 32 ∷ replicate 32 148 ++ 0 ∷ 0 ∷ 0 ∷ 32 ∷ replicate 32 152
    ++ mpint_of 0xc0c0c0c0c0c0c0c0c0c0c0c0c0c0c0c0c0c0c0c0c0c0c0c0c0c0c0c0c0c0c0c

-- the text that is hashed in this exchange
abbrev pub text_3 : List ℕ
text_3 =
    0 ∷ 0 ∷ 0 ∷ 9 ∷ codes "SSH-2.0-c" ++ 0 ∷ 0 ∷ 0 ∷ 12 ∷ codes "SSH-2.0-peer" ++ 0 ∷ 0 ∷ 0 ∷ 7 ∷ codes "offer 8" ++ 0 ∷ 0 ∷ 0 ∷ 7
    ∷ codes "offer 7" ++ 0 ∷ 0 ∷ 0 ∷ 9 ∷ codes "key of h1" ++ 0 ∷ 0 ∷ 0 ∷ 32 ∷ replicate 32 154 ++ 0 ∷ 0 ∷ 0 ∷ 32 ∷ replicate 32 59
    ++ mpint_of 0xa1a1a1a1a1a1a1a1a1a1a1a1a1a1a1a1a1a1a1a1a1a1a1a1a1a1a1a1a1a1a1a1
