-- A drawn session of a server, written by tools/second_reading.
use Rattle.ssh_model.specs.Protocol.Sessions.Parties.{Parties}
use Rattle.std.specs.Prelude.{List, ℕ, codes, ◌∷◌, [], true, replicate, None, Some, false, ◌++◌}
use Rattle.test_histories.specs.Words.{ends_of, with_cookie, proposing, hears, says, hears_on, says_on}
use Rattle.ssh_model.specs.declared.side.Side.TheVariants.{Server}
use Rattle.ssh_model.specs.declared.strictness.Strictness.TheVariants.{Offer}
use Rattle.ssh_model.specs.Protocol.Sessions.Items.{Item, Item.Fed, Item.SentLine, Item.Sent, Item.TookLine, Item.Told}
use Rattle.ssh_model.specs.Protocol.Sessions.Items.{Fact.NotImplemented, Item.Took, Fact.Ignored, Fact.Completed}
use Rattle.ssh_model.specs.Protocol.Sessions.Items.{Fact.GotExtensions, Fact.Debugged, Fact.Accepted, Credential.ByPassword}
use Rattle.ssh_model.specs.Protocol.Sessions.Items.{Fact.Opened, Item.Asked, Ask.AskGlobal, Fact.GlobalDone, Ask.AskConfirm}
use Rattle.ssh_model.specs.Protocol.Sessions.Items.{Ask.AskClose, Item.AskRefused, Ask.AskRekey, Fact.GotData, Fact.Ended}
use Rattle.ssh_model.specs.Protocol.Sessions.Items.{Ask.AskRequest, Ask.AskData, Fact.Adjusted, Fact.Requested}
use Rattle.ssh_model.specs.Protocol.Sessions.Items.{Ask.AskAdjust, Ask, Ask.AskEof, Ask.AskGlobalReply, Ask.AskOpen}
use Rattle.ssh_model.specs.Protocol.Sessions.Items.{Ask.AskReply}
use Rattle.ssh_model.specs.Protocol.Wire.Message.{Msg.KexInit, Msg.Unimplemented, Msg.Ignore, Msg.KexEcdhInit}
use Rattle.ssh_model.specs.Protocol.Wire.Message.{Msg.KexEcdhReply, Msg.NewKeys, Msg.ExtInfo, Msg.Debug, Msg.ServiceRequest}
use Rattle.ssh_model.specs.Protocol.Wire.Message.{Msg.ServiceAccept, Msg.UserauthRequest, Method.Publickey}
use Rattle.ssh_model.specs.Protocol.Wire.Message.{Msg.UserauthFailure, Method.Password, Msg.UserauthSuccess, Msg.Unknown}
use Rattle.ssh_model.specs.Protocol.Wire.Message.{Msg.ChannelOpen, Msg.GlobalRequest, Msg.RequestSuccess}
use Rattle.ssh_model.specs.Protocol.Wire.Message.{Msg.ChannelOpenConfirmation, Msg.ChannelData, Msg.ChannelEof}
use Rattle.ssh_model.specs.Protocol.Wire.Message.{Msg.ChannelExtendedData, Msg.ChannelWindowAdjust, Msg.ChannelRequest}
use Rattle.ssh_model.specs.Protocol.Wire.Message.{Msg.ChannelClose, Msg, Msg.ChannelFailure, Msg.ChannelOpenFailure}
use Rattle.ssh_model.specs.Protocol.Wire.Message.{Msg.UserauthBanner}
use Rattle.ssh_model.specs.declared.ask_refusal.AskRefusal.{AskRefusal}
use Rattle.ssh_model.specs.Protocol.KeyExchange.Exchange.{mpint_of}

-- the ends, of which the server has drawn settings
abbrev pub ends : Parties (List ℕ)
ends = ends_of Server (record {
  line = codes "SSH-2.0-s";
  kex = codes "k2" ∷ codes "k3" ∷ codes "k1" ∷ [];
  host = codes "h1" ∷ codes "h2" ∷ [];
  encryption = codes "e1" ∷ [];
  mac = codes "m1" ∷ codes "m3" ∷ [];
  epoch_limit = 6;
  tries = 1;
  methods = codes "publickey" ∷ codes "password" ∷ [];
  strictness = Offer;
  takes_extensions = true;
  extensions = record { name = codes "x"; value = codes "y" } ∷ [];
})

-- the turns
abbrev pub turns : List (List Item)
turns =
    (Fed (replicate 16 200) (replicate 32 147) ∷ SentLine (codes "SSH-2.0-s")
    ∷ (Sent None (KexInit (with_cookie (replicate 16 200) (proposing (codes "k2" ∷ codes "k3" ∷ codes "k1" ∷ codes "ext-info-s"
    ∷ codes "kex-strict-s-v00@openssh.com" ∷ []) (codes "h1" ∷ codes "h2" ∷ []) (codes "e1" ∷ []) (codes "e1" ∷ []) (codes "m1" ∷ codes "m3"
    ∷ []) (codes "m1" ∷ codes "m3" ∷ [])))) (codes "offer 1")) ∷ [])
    ∷ (TookLine (codes "SSH-2.0-peer") ∷ [])
    ∷ (hears (Unimplemented 0) ∷ Told (NotImplemented 0) ∷ [])
    ∷ ((Took None (KexInit (proposing (codes "ext-info-c" ∷ codes "k2" ∷ codes "k3" ∷ codes "k1" ∷ []) (codes "h1" ∷ codes "h2"
    ∷ []) (codes "e1" ∷ codes "e2" ∷ []) (codes "e1" ∷ codes "e2" ∷ []) (codes "m2" ∷ codes "m3" ∷ []) (codes "m3" ∷ codes "m1" ∷ codes "m2"
    ∷ []))) (codes "offer 2")) ∷ [])
    ∷ (hears (Ignore (codes "a")) ∷ Told Ignored ∷ [])
    ∷ (hears (KexEcdhInit (replicate 32 165)) ∷ says (KexEcdhReply (codes "key of h1") (replicate 32 147) (codes "right")) ∷ says NewKeys
    ∷ (says (ExtInfo (record { name = codes "x"; value = codes "y" } ∷ []))) ∷ Told (Completed 1) ∷ [])
    ∷ (hears NewKeys ∷ [])
    ∷ ((hears (ExtInfo (record { name = codes "x"; value = [] } ∷ []))) ∷ (Told (GotExtensions (record { name = codes "x"; value = [] }
    ∷ []))) ∷ [])
    ∷ (hears (Debug true [] []) ∷ Told (Debugged true []) ∷ [])
    ∷ (hears (Unimplemented 2) ∷ Told (NotImplemented 2) ∷ [])
    ∷ (hears (Ignore []) ∷ Told Ignored ∷ [])
    ∷ (hears (ServiceRequest (codes "ssh-userauth")) ∷ says (ServiceAccept (codes "ssh-userauth")) ∷ [])
    ∷ (hears (UserauthRequest (codes "u") (codes "ssh-connection") (Publickey (codes "alg") (codes "k") (Some (codes "wrong"))))
    ∷ (says (UserauthFailure (codes "publickey" ∷ codes "password" ∷ []) false)) ∷ [])
    ∷ (hears (Debug true [] []) ∷ Told (Debugged true []) ∷ [])
    ∷ (hears (UserauthRequest (codes "u") (codes "ssh-connection") (Password (codes "p") None)) ∷ says UserauthSuccess
    ∷ Told (Accepted (codes "u") ByPassword) ∷ [])
    ∷ (hears (Unknown 101) ∷ says (Unimplemented 13) ∷ [])
    ∷ (hears_on 1 (ChannelOpen (codes "session") 7 9 5 []) ∷ Told (Opened 1 (codes "session") 9 5 []) ∷ [])
    ∷ (hears (Unimplemented 5) ∷ Told (NotImplemented 5) ∷ [])
    ∷ (Asked (AskGlobal (codes "g") true []) ∷ says (GlobalRequest (codes "g") true []) ∷ [])
    ∷ (hears (RequestSuccess []) ∷ Told (GlobalDone true []) ∷ [])
    ∷ (hears_on 0 (ChannelOpen (codes "session") 5 4 6 []) ∷ Told (Opened 0 (codes "session") 4 6 []) ∷ [])
    ∷ (hears_on 2 (ChannelOpen (codes "session") 1 9 6 []) ∷ Told (Opened 2 (codes "session") 9 6 []) ∷ [])
    ∷ (Fed (replicate 16 185) (replicate 32 183) ∷ [])
    ∷ ((Took None (KexInit (proposing (codes "k2" ∷ []) (codes "h1" ∷ []) (codes "e2" ∷ codes "e1" ∷ []) (codes "e2" ∷ codes "e1"
    ∷ []) (codes "m2" ∷ codes "m1" ∷ codes "m3" ∷ []) (codes "m2" ∷ codes "m1" ∷ codes "m3" ∷ []))) (codes "offer 3"))
    ∷ (Sent None (KexInit (with_cookie (replicate 16 185) (proposing (codes "k2" ∷ codes "k3" ∷ codes "k1" ∷ []) (codes "h1" ∷ codes "h2"
    ∷ []) (codes "e1" ∷ []) (codes "e1" ∷ []) (codes "m1" ∷ codes "m3" ∷ []) (codes "m1" ∷ codes "m3" ∷ [])))) (codes "offer 4")) ∷ [])
    ∷ ((hears (KexEcdhInit (183 ∷ replicate 31 95))) ∷ says (KexEcdhReply (codes "key of h1") (replicate 32 183) (codes "right"))
    ∷ says NewKeys ∷ Told (Completed 2) ∷ [])
    ∷ (Asked (AskConfirm 0 5 32768 []) ∷ says_on 0 (ChannelOpenConfirmation 5 0 5 32768 []) ∷ [])
    ∷ (Asked (AskClose 1) ∷ AskRefused AskRefusal.NoChannel ∷ [])
    ∷ (Fed (replicate 16 235) (replicate 32 193) ∷ [])
    ∷ (hears (Unimplemented 1) ∷ Told (NotImplemented 1) ∷ [])
    ∷ (hears (Debug true [] []) ∷ Told (Debugged true []) ∷ [])
    ∷ (hears NewKeys ∷ [])
    ∷ (Asked AskRekey ∷ (Sent None (KexInit (with_cookie (replicate 16 235) (proposing (codes "k2" ∷ codes "k3" ∷ codes "k1"
    ∷ []) (codes "h1" ∷ codes "h2" ∷ []) (codes "e1" ∷ []) (codes "e1" ∷ []) (codes "m1" ∷ codes "m3" ∷ []) (codes "m1" ∷ codes "m3"
    ∷ [])))) (codes "offer 5")) ∷ [])
    ∷ (hears_on 0 (ChannelData 0 (codes "a")) ∷ Told (GotData 0 None (codes "a")) ∷ [])
    ∷ (hears_on 0 (ChannelEof 0) ∷ Told (Ended 0) ∷ [])
    ∷ (Asked (AskRequest 0 (codes "r") true []) ∷ AskRefused AskRefusal.Busy ∷ [])
    ∷ ((Took None (KexInit (proposing (codes "k1" ∷ codes "k2" ∷ codes "k3" ∷ []) (codes "h2" ∷ codes "h1" ∷ []) (codes "e1" ∷ codes "e2"
    ∷ []) (codes "e1" ∷ codes "e2" ∷ []) (codes "m1" ∷ codes "m2" ∷ []) (codes "m3" ∷ codes "m1" ∷ codes "m2" ∷ []))) (codes "offer 6"))
    ∷ [])
    ∷ (hears (Unimplemented 7) ∷ Told (NotImplemented 7) ∷ [])
    ∷ (hears (Unimplemented 9) ∷ Told (NotImplemented 9) ∷ [])
    ∷ (hears (KexEcdhInit (replicate 32 12)) ∷ says (KexEcdhReply (codes "key of h2") (replicate 32 193) (codes "right")) ∷ says NewKeys
    ∷ Told (Completed 3) ∷ [])
    ∷ (Asked (AskData 0 (Some 1) (codes "b")) ∷ says_on 0 (ChannelExtendedData 5 1 (codes "b")) ∷ [])
    ∷ (hears NewKeys ∷ [])
    ∷ (hears_on 0 (ChannelWindowAdjust 0 1) ∷ Told (Adjusted 0 1) ∷ [])
    ∷ (hears_on 0 (ChannelRequest 0 (codes "r") true (codes "abc")) ∷ Told (Requested 0 (codes "r") true (codes "abc")) ∷ [])
    ∷ (hears (Debug true [] []) ∷ Told (Debugged true []) ∷ [])
    ∷ (Asked AskRekey ∷ AskRefused AskRefusal.NoMaterial ∷ [])
    ∷ (Fed (replicate 16 31) (replicate 32 213) ∷ [])
    ∷ ((Took None (KexInit (proposing (codes "k1" ∷ []) (codes "h1" ∷ codes "h2" ∷ []) (codes "e2" ∷ codes "e1" ∷ []) (codes "e1"
    ∷ codes "e2" ∷ []) (codes "m3" ∷ codes "m2" ∷ codes "m1" ∷ []) (codes "m2" ∷ codes "m3" ∷ []))) (codes "offer 7"))
    ∷ (Sent None (KexInit (with_cookie (replicate 16 31) (proposing (codes "k2" ∷ codes "k3" ∷ codes "k1" ∷ []) (codes "h1" ∷ codes "h2"
    ∷ []) (codes "e1" ∷ []) (codes "e1" ∷ []) (codes "m1" ∷ codes "m3" ∷ []) (codes "m1" ∷ codes "m3" ∷ [])))) (codes "offer 8")) ∷ [])
    ∷ (hears (Debug true (codes "abc") []) ∷ Told (Debugged true (codes "abc")) ∷ [])
    ∷ (Fed (replicate 16 5) (replicate 32 106) ∷ [])
    ∷ (hears (KexEcdhInit (replicate 32 246)) ∷ says (KexEcdhReply (codes "key of h1") (replicate 32 213) (codes "right")) ∷ says NewKeys
    ∷ Told (Completed 4) ∷ [])
    ∷ (Asked (AskAdjust 0 4294967288) ∷ says_on 0 (ChannelWindowAdjust 5 4294967288) ∷ [])
    ∷ (Asked (AskClose 0) ∷ says_on 0 (ChannelClose 5) ∷ [])
    ∷ (Asked (AskConfirm 2 6 4 []) ∷ says_on 2 (ChannelOpenConfirmation 1 2 6 4 []) ∷ [])
    ∷ (hears (Ignore (codes "abc")) ∷ Told Ignored ∷ [])
    ∷ (hears NewKeys ∷ [])
    ∷ (Asked (AskAdjust 2 4294967288) ∷ says_on 2 (ChannelWindowAdjust 1 4294967288) ∷ []) ∷ []

-- messages that might come at any moment
abbrev pub messages : List Msg
messages =
    (KexInit (proposing (codes "k3" ∷ codes "k2" ∷ codes "k1" ∷ []) (codes "h2" ∷ codes "h1" ∷ []) (codes "e1" ∷ codes "e2"
    ∷ []) (codes "e2" ∷ codes "e1" ∷ []) (codes "m2" ∷ codes "m3" ∷ []) (codes "m3" ∷ codes "m1" ∷ [])))
    ∷ (KexInit (proposing (codes "k2" ∷ codes "k1" ∷ codes "k3" ∷ []) (codes "h1" ∷ codes "h2" ∷ []) (codes "e2" ∷ codes "e1"
    ∷ []) (codes "e2" ∷ codes "e1" ∷ []) (codes "m1" ∷ codes "m3" ∷ []) (codes "m2" ∷ codes "m1" ∷ [])))
    ∷ (ChannelData 2 (codes "a"))
    ∷ (ChannelData 1 (codes "aaaa"))
    ∷ (ChannelWindowAdjust 0 0)
    ∷ (KexEcdhInit (replicate 32 0))
    ∷ (KexEcdhInit (183 ∷ replicate 31 95))
    ∷ (KexEcdhInit (0 ∷ 0 ∷ 0 ∷ replicate 29 141))
    ∷ (UserauthRequest (codes "u") (codes "ssh-connection") (Publickey (codes "alg") (codes "k") (Some (codes "wrong"))))
    ∷ (UserauthRequest (codes "u") (codes "ssh-userauth") (Publickey (codes "alg") (codes "l") None))
    ∷ (UserauthRequest (codes "u") (codes "ssh-connection") (Password (codes "p") (Some (codes "q"))))
    ∷ (Ignore (codes "a"))
    ∷ (ChannelFailure 0)
    ∷ (UserauthSuccess)
    ∷ (ChannelOpenFailure 0 1 [] [])
    ∷ (ChannelClose 1)
    ∷ (UserauthBanner [] []) ∷ []

-- asks that might come at any moment
abbrev pub asks : List Ask
asks =
    (AskData 2 None [])
    ∷ (AskData 1 None (codes "b"))
    ∷ (AskEof 2)
    ∷ (AskGlobalReply true (codes "x"))
    ∷ (AskAdjust 0 4294967295)
    ∷ (AskRekey)
    ∷ (AskOpen (codes "session") 9 6 [])
    ∷ (AskRequest 1 (codes "r") false [])
    ∷ (AskReply 0 false) ∷ []

-- numbers that might come at any moment
abbrev pub numbers : List ℕ
numbers =
    2 ∷ 8 ∷ 19 ∷ 20 ∷ 49 ∷ 50 ∷ 52 ∷ 53 ∷ 54 ∷ 79 ∷ 97 ∷ 192 ∷ []

-- the text that is hashed in this exchange
abbrev pub text_0 : List ℕ
text_0 =
    0 ∷ 0 ∷ 0 ∷ 12 ∷ codes "SSH-2.0-peer" ++ 0 ∷ 0 ∷ 0 ∷ 9 ∷ codes "SSH-2.0-s" ++ 0 ∷ 0 ∷ 0 ∷ 7 ∷ codes "offer 2" ++ 0 ∷ 0 ∷ 0 ∷ 7
    ∷ codes "offer 1" ++ 0 ∷ 0 ∷ 0 ∷ 9 ∷ codes "key of h1" ++ 0 ∷ 0 ∷ 0 ∷ 32 ∷ replicate 32 165 ++ 0 ∷ 0 ∷ 0 ∷ 32 ∷ replicate 32 147
    ++ mpint_of 0x3636363636363636363636363636363636363636363636363636363636363636

-- the text that is hashed in this exchange
abbrev pub text_1 : List ℕ
text_1 =
    0 ∷ 0 ∷ 0 ∷ 12 ∷ codes "SSH-2.0-peer" ++ 0 ∷ 0 ∷ 0 ∷ 9 ∷ codes "SSH-2.0-s" ++ 0 ∷ 0 ∷ 0 ∷ 7 ∷ codes "offer 3" ++ 0 ∷ 0 ∷ 0 ∷ 7
    ∷ codes "offer 4" ++ 0 ∷ 0 ∷ 0 ∷ 9 ∷ codes "key of h1" ++ 0 ∷ 0 ∷ 0 ∷ 32 ∷ 183 ∷ replicate 31 95 ++ 0 ∷ 0 ∷ 0 ∷ 32 ∷ replicate 32 183
    ++ mpint_of 0xe8e8e8e8e8e8e8e8e8e8e8e8e8e8e8e8e8e8e8e8e8e8e8e8e8e8e8e8e8e8e8

-- the text that is hashed in this exchange
abbrev pub text_2 : List ℕ
text_2 =
    0 ∷ 0 ∷ 0 ∷ 12 ∷ codes "SSH-2.0-peer" ++ 0 ∷ 0 ∷ 0 ∷ 9 ∷ codes "SSH-2.0-s" ++ 0 ∷ 0 ∷ 0 ∷ 7 ∷ codes "offer 6" ++ 0 ∷ 0 ∷ 0 ∷ 7
    ∷ codes "offer 5" ++ 0 ∷ 0 ∷ 0 ∷ 9 ∷ codes "key of h2" ++ 0 ∷ 0 ∷ 0 ∷ 32 ∷ replicate 32 12 ++ 0 ∷ 0 ∷ 0 ∷ 32 ∷ replicate 32 193
    ++ mpint_of 0xcdcdcdcdcdcdcdcdcdcdcdcdcdcdcdcdcdcdcdcdcdcdcdcdcdcdcdcdcdcdcdcd

-- the text that is hashed in this exchange
abbrev pub text_3 : List ℕ
text_3 =
    0 ∷ 0 ∷ 0 ∷ 12 ∷ codes "SSH-2.0-peer" ++ 0 ∷ 0 ∷ 0 ∷ 9 ∷ codes "SSH-2.0-s" ++ 0 ∷ 0 ∷ 0 ∷ 7 ∷ codes "offer 7" ++ 0 ∷ 0 ∷ 0 ∷ 7
    ∷ codes "offer 8" ++ 0 ∷ 0 ∷ 0 ∷ 9 ∷ codes "key of h1" ++ 0 ∷ 0 ∷ 0 ∷ 32 ∷ replicate 32 246 ++ 0 ∷ 0 ∷ 0 ∷ 32 ∷ replicate 32 213
    ++ mpint_of 0x2323232323232323232323232323232323232323232323232323232323232323
