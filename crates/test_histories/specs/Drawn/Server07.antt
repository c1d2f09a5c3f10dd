-- A drawn session of a server, written by tools/second_reading.
use Rattle.ssh_model.specs.Protocol.Sessions.Parties.{Parties}
use Rattle.std.specs.Prelude.{List, ℕ, codes, ◌∷◌, [], true, replicate, None, Some, false, ◌++◌}
use Rattle.test_histories.specs.Words.{ends_of, with_cookie, proposing, guessing, hears, says, hears_on, says_on}
use Rattle.ssh_model.specs.declared.side.Side.TheVariants.{Server}
use Rattle.ssh_model.specs.declared.strictness.Strictness.TheVariants.{Require}
use Rattle.ssh_model.specs.Protocol.Sessions.Items.{Item, Item.Fed, Item.SentLine, Item.Sent, Item.TookLine, Item.Took}
use Rattle.ssh_model.specs.Protocol.Sessions.Items.{Item.TookGuess, Item.Told, Fact.Ignored, Fact.Completed}
use Rattle.ssh_model.specs.Protocol.Sessions.Items.{Fact.NotImplemented, Fact.Accepted, Credential.NoCredential, Fact.Opened}
use Rattle.ssh_model.specs.Protocol.Sessions.Items.{Item.Asked, Ask.AskRefuse, Ask.AskOpen, Fact.Opening, Ask.AskGlobal}
use Rattle.ssh_model.specs.Protocol.Sessions.Items.{Ask.AskClose, Item.AskRefused, Ask.AskRekey, Ask.AskData, Ask.AskAdjust}
use Rattle.ssh_model.specs.Protocol.Sessions.Items.{Fact.GlobalDone, Fact.Confirmed, Ask.AskEof, Ask.AskConfirm}
use Rattle.ssh_model.specs.Protocol.Sessions.Items.{Ask.AskRequest, Fact.GotData, Fact.Closed, Fact.Debugged, Item.Refused}
use Rattle.ssh_model.specs.Protocol.Sessions.Items.{Item.Died, Ask, Ask.AskDisconnect, Ask.AskSign, Ask.AskReply}
use Rattle.ssh_model.specs.Protocol.Wire.Message.{Msg.KexInit, Msg.KexEcdhInit, Msg.KexEcdhReply, Msg.NewKeys}
use Rattle.ssh_model.specs.Protocol.Wire.Message.{Msg.ServiceRequest, Msg.ServiceAccept, Msg.Unimplemented}
use Rattle.ssh_model.specs.Protocol.Wire.Message.{Msg.UserauthRequest, Method.NoMethod, Msg.UserauthSuccess, Msg.ChannelOpen}
use Rattle.ssh_model.specs.Protocol.Wire.Message.{Msg.ChannelOpenFailure, Msg.Ignore, Msg.GlobalRequest, Msg.RequestSuccess}
use Rattle.ssh_model.specs.Protocol.Wire.Message.{Msg.ChannelOpenConfirmation, Msg.ChannelEof, Msg.ChannelRequest}
use Rattle.ssh_model.specs.Protocol.Wire.Message.{Msg.ChannelData, Msg.ChannelClose, Msg.Debug, Msg.Disconnect, Msg}
use Rattle.ssh_model.specs.Protocol.Wire.Message.{Msg.ChannelWindowAdjust, Method.Other, Method.Publickey, Msg.UserauthPkOk}
use Rattle.ssh_model.specs.Protocol.Wire.Message.{Msg.Unknown, Msg.ChannelExtendedData, Msg.ChannelFailure}
use Rattle.ssh_model.specs.declared.ask_refusal.AskRefusal.{AskRefusal}
use Rattle.ssh_model.specs.declared.refusal.Refusal.{Refusal}
use Rattle.ssh_model.specs.Protocol.KeyExchange.Exchange.{mpint_of}

-- the ends, of which the server has drawn settings
abbrev pub ends : Parties (List ℕ)
ends = ends_of Server (record {
  line = codes "SSH-2.0-s";
  kex = codes "k3" ∷ codes "k1" ∷ codes "k2" ∷ [];
  host = codes "h3" ∷ codes "h1" ∷ [];
  encryption = codes "e1" ∷ [];
  mac = codes "m2" ∷ [];
  epoch_limit = 9;
  tries = 0;
  methods = codes "publickey" ∷ codes "password" ∷ [];
  strictness = Require;
  takes_extensions = true;
  extensions = [];
})

-- the turns
abbrev pub turns : List (List Item)
turns =
    (Fed (replicate 16 105) (replicate 32 228) ∷ SentLine (codes "SSH-2.0-s")
    ∷ (Sent None (KexInit (with_cookie (replicate 16 105) (proposing (codes "k3" ∷ codes "k1" ∷ codes "k2" ∷ codes "ext-info-s"
    ∷ codes "kex-strict-s-v00@openssh.com" ∷ []) (codes "h3" ∷ codes "h1" ∷ []) (codes "e1" ∷ []) (codes "e1" ∷ []) (codes "m2"
    ∷ []) (codes "m2" ∷ [])))) (codes "offer 1")) ∷ [])
    ∷ (TookLine (codes "SSH-2.0-peer") ∷ [])
    ∷ ((Took None (KexInit (guessing (codes "kex-strict-c-v00@openssh.com" ∷ codes "ext-info-c" ∷ codes "k3" ∷ codes "k1" ∷ []) (codes "h1"
    ∷ codes "h3" ∷ []) (codes "e2" ∷ codes "e1" ∷ []) (codes "e1" ∷ codes "e2" ∷ []) (codes "m1" ∷ codes "m2" ∷ codes "m3" ∷ []) (codes "m1"
    ∷ codes "m2" ∷ []))) (codes "offer 2")) ∷ [])
    ∷ (TookGuess [] ∷ Told Ignored ∷ [])
    ∷ ((hears (KexEcdhInit (228 ∷ 228 ∷ 228 ∷ replicate 29 232)))
    ∷ says (KexEcdhReply (codes "key of h1") (replicate 32 228) (codes "right")) ∷ says NewKeys ∷ Told (Completed 1) ∷ [])
    ∷ (hears NewKeys ∷ [])
    ∷ (hears (ServiceRequest (codes "ssh-userauth")) ∷ says (ServiceAccept (codes "ssh-userauth")) ∷ [])
    ∷ (hears (Unimplemented 6) ∷ Told (NotImplemented 6) ∷ [])
    ∷ (hears (UserauthRequest (codes "guest") (codes "ssh-connection") NoMethod) ∷ says UserauthSuccess
    ∷ Told (Accepted (codes "guest") NoCredential) ∷ [])
    ∷ (hears_on 0 (ChannelOpen (codes "session") 2 9 5 []) ∷ Told (Opened 0 (codes "session") 9 5 []) ∷ [])
    ∷ (Asked (AskRefuse 0 1) ∷ says_on 0 (ChannelOpenFailure 2 1 [] []) ∷ [])
    ∷ (hears_on 1 (ChannelOpen (codes "session") 4 10 5 []) ∷ Told (Opened 1 (codes "session") 10 5 []) ∷ [])
    ∷ (Asked (AskOpen (codes "session") 5 6 []) ∷ says_on 0 (ChannelOpen (codes "session") 0 5 6 []) ∷ Told (Opening 0) ∷ [])
    ∷ (hears_on 2 (ChannelOpen (codes "session") 8 9 5 []) ∷ Told (Opened 2 (codes "session") 9 5 []) ∷ [])
    ∷ (Fed (replicate 16 23) (replicate 32 167) ∷ [])
    ∷ (hears (Ignore (codes "abc")) ∷ Told Ignored ∷ [])
    ∷ ((Took None (KexInit (proposing (codes "k1" ∷ codes "k3" ∷ codes "k2" ∷ []) (codes "h1" ∷ codes "h3" ∷ []) (codes "e1" ∷ codes "e2"
    ∷ []) (codes "e2" ∷ codes "e1" ∷ []) (codes "m2" ∷ codes "m1" ∷ codes "m3" ∷ []) (codes "m2" ∷ codes "m3" ∷ codes "m1"
    ∷ []))) (codes "offer 3")) ∷ (Sent None (KexInit (with_cookie (replicate 16 23) (proposing (codes "k3" ∷ codes "k1" ∷ codes "k2"
    ∷ []) (codes "h3" ∷ codes "h1" ∷ []) (codes "e1" ∷ []) (codes "e1" ∷ []) (codes "m2" ∷ []) (codes "m2" ∷ [])))) (codes "offer 4")) ∷ [])
    ∷ (hears (Unimplemented 1) ∷ Told (NotImplemented 1) ∷ [])
    ∷ (hears (Ignore (codes "a")) ∷ Told Ignored ∷ [])
    ∷ ((hears (KexEcdhInit (167 ∷ replicate 31 60))) ∷ says (KexEcdhReply (codes "key of h1") (replicate 32 167) (codes "right"))
    ∷ says NewKeys ∷ Told (Completed 2) ∷ [])
    ∷ (Fed (replicate 16 143) (replicate 32 179) ∷ [])
    ∷ (Asked (AskGlobal (codes "g") true []) ∷ says (GlobalRequest (codes "g") true []) ∷ [])
    ∷ (hears NewKeys ∷ [])
    ∷ (Asked (AskClose 1) ∷ AskRefused AskRefusal.NoChannel ∷ [])
    ∷ (Asked AskRekey ∷ (Sent None (KexInit (with_cookie (replicate 16 143) (proposing (codes "k3" ∷ codes "k1" ∷ codes "k2"
    ∷ []) (codes "h3" ∷ codes "h1" ∷ []) (codes "e1" ∷ []) (codes "e1" ∷ []) (codes "m2" ∷ []) (codes "m2" ∷ [])))) (codes "offer 5")) ∷ [])
    ∷ ((Took None (KexInit (guessing (codes "k3" ∷ codes "k2" ∷ codes "k1" ∷ []) (codes "h1" ∷ []) (codes "e2" ∷ codes "e1"
    ∷ []) (codes "e2" ∷ codes "e1" ∷ []) (codes "m2" ∷ codes "m1" ∷ []) (codes "m2" ∷ codes "m3" ∷ codes "m1" ∷ []))) (codes "offer 6"))
    ∷ [])
    ∷ (TookGuess [] ∷ Told Ignored ∷ [])
    ∷ (Asked (AskData 2 (Some 1) (codes "b")) ∷ AskRefused AskRefusal.Busy ∷ [])
    ∷ (hears (Unimplemented 1) ∷ Told (NotImplemented 1) ∷ [])
    ∷ (hears (KexEcdhInit (replicate 32 42)) ∷ says (KexEcdhReply (codes "key of h1") (replicate 32 179) (codes "right")) ∷ says NewKeys
    ∷ Told (Completed 3) ∷ [])
    ∷ (Asked (AskAdjust 2 20) ∷ AskRefused AskRefusal.NoChannel ∷ [])
    ∷ (hears NewKeys ∷ [])
    ∷ (hears (RequestSuccess (codes "abc")) ∷ Told (GlobalDone true (codes "abc")) ∷ [])
    ∷ (Asked (AskGlobal (codes "g") false []) ∷ says (GlobalRequest (codes "g") false []) ∷ [])
    ∷ (hears (Unimplemented 1) ∷ Told (NotImplemented 1) ∷ [])
    ∷ (hears_on 0 (ChannelOpenConfirmation 0 9 6 7 []) ∷ Told (Confirmed 0 6 7 []) ∷ [])
    ∷ (Asked (AskEof 0) ∷ says_on 0 (ChannelEof 9) ∷ [])
    ∷ (Asked (AskConfirm 2 7 6 []) ∷ says_on 2 (ChannelOpenConfirmation 8 2 7 6 []) ∷ [])
    ∷ (Asked (AskEof 2) ∷ says_on 2 (ChannelEof 8) ∷ [])
    ∷ (Asked AskRekey ∷ AskRefused AskRefusal.NoMaterial ∷ [])
    ∷ (Asked (AskRequest 0 (codes "r") false []) ∷ says_on 0 (ChannelRequest 9 (codes "r") false []) ∷ [])
    ∷ (hears_on 2 (ChannelData 2 (codes "aaaa")) ∷ Told (GotData 2 None (codes "aaaa")) ∷ [])
    ∷ (hears_on 0 (ChannelClose 0) ∷ says_on 0 (ChannelClose 9) ∷ Told (Closed 0) ∷ [])
    ∷ (hears_on 2 (ChannelData 2 []) ∷ Told (GotData 2 None []) ∷ [])
    ∷ (hears_on 2 (ChannelClose 2) ∷ says_on 2 (ChannelClose 8) ∷ Told (Closed 2) ∷ [])
    ∷ (hears (Unimplemented 5) ∷ Told (NotImplemented 5) ∷ [])
    ∷ (hears_on 0 (ChannelOpen (codes "session") 0 8 8 []) ∷ Told (Opened 0 (codes "session") 8 8 []) ∷ [])
    ∷ (hears (Debug true (codes "a") []) ∷ Told (Debugged true (codes "a")) ∷ [])
    ∷ (Fed (replicate 16 76) (replicate 32 196) ∷ [])
    ∷ ((Took None (KexInit (proposing (codes "k1" ∷ codes "k2" ∷ codes "k3" ∷ []) (codes "h3" ∷ codes "h2" ∷ codes "h1" ∷ []) (codes "e1"
    ∷ codes "e2" ∷ []) (codes "e2" ∷ codes "e1" ∷ []) (codes "m2" ∷ codes "m3" ∷ []) (codes "m2" ∷ codes "m3" ∷ codes "m1"
    ∷ []))) (codes "offer 7")) ∷ (Sent None (KexInit (with_cookie (replicate 16 76) (proposing (codes "k3" ∷ codes "k1" ∷ codes "k2"
    ∷ []) (codes "h3" ∷ codes "h1" ∷ []) (codes "e1" ∷ []) (codes "e1" ∷ []) (codes "m2" ∷ []) (codes "m2" ∷ [])))) (codes "offer 8")) ∷ [])
    ∷ (hears (Unimplemented 3) ∷ Told (NotImplemented 3) ∷ [])
    ∷ ((hears (KexEcdhInit (196 ∷ replicate 31 23))) ∷ says (KexEcdhReply (codes "key of h3") (replicate 32 196) (codes "right"))
    ∷ says NewKeys ∷ Told (Completed 4) ∷ [])
    ∷ (hears NewKeys ∷ [])
    ∷ (Asked (AskData 0 (Some 1) (replicate 9 98)) ∷ AskRefused AskRefusal.NoChannel ∷ [])
    ∷ (Refused Refusal.UnknownChannel (Some []) ∷ says (Disconnect 2 (codes "UnknownChannel") []) ∷ Died ∷ []) ∷ []

-- messages that might come at any moment
abbrev pub messages : List Msg
messages =
    (KexInit (guessing (codes "k1" ∷ codes "k3" ∷ codes "k2" ∷ []) (codes "h1" ∷ codes "h2" ∷ codes "h3" ∷ []) (codes "e2" ∷ codes "e1"
    ∷ []) (codes "e1" ∷ codes "e2" ∷ []) (codes "m2" ∷ codes "m1" ∷ []) (codes "m1" ∷ codes "m2" ∷ codes "m3" ∷ [])))
    ∷ (KexInit (guessing (codes "k1" ∷ codes "k3" ∷ []) (codes "h1" ∷ codes "h3" ∷ []) (codes "e1" ∷ codes "e2" ∷ []) (codes "e2"
    ∷ codes "e1" ∷ []) (codes "m1" ∷ codes "m2" ∷ codes "m3" ∷ []) (codes "m3" ∷ codes "m2" ∷ codes "m1" ∷ [])))
    ∷ (ChannelData 1 (codes "a"))
    ∷ (ChannelData 0 (codes "a"))
    ∷ (ChannelWindowAdjust 2 20)
    ∷ (KexEcdhInit (179 ∷ 179 ∷ 179 ∷ replicate 29 120))
    ∷ (KexEcdhInit (0 ∷ 0 ∷ 0 ∷ replicate 29 17))
    ∷ (KexEcdhInit (replicate 32 186))
    ∷ (UserauthRequest (codes "u") (codes "ssh-connection") (Other (codes "hostbased") []))
    ∷ (UserauthRequest (codes "u") (codes "ssh-connection") (Publickey (codes "alg") (codes "k") (Some (codes "right"))))
    ∷ (UserauthRequest (codes "guest") (codes "ssh-connection") (Publickey (codes "alg") (codes "k") (Some (codes "right"))))
    ∷ (UserauthPkOk (codes "alg") (codes "k"))
    ∷ (RequestSuccess [])
    ∷ (Unknown 101)
    ∷ (Debug true [] [])
    ∷ (ChannelExtendedData 1 1 (replicate 9 97))
    ∷ (ChannelFailure 1) ∷ []

-- asks that might come at any moment
abbrev pub asks : List Ask
asks =
    (AskData 1 None [])
    ∷ (AskData 0 None (codes "b"))
    ∷ (AskAdjust 0 4294967288)
    ∷ (AskDisconnect (codes "bye"))
    ∷ (AskSign (codes "u") (codes "alg") (codes "k"))
    ∷ (AskClose 1)
    ∷ (AskRefuse 2 1)
    ∷ (AskRekey)
    ∷ (AskReply 2 true) ∷ []

-- numbers that might come at any moment
abbrev pub numbers : List ℕ
numbers =
    5 ∷ 6 ∷ 20 ∷ 21 ∷ 32 ∷ 50 ∷ 52 ∷ 60 ∷ 79 ∷ 82 ∷ 90 ∷ 192 ∷ []

-- the text that is hashed in this exchange
abbrev pub text_0 : List ℕ
text_0 =
    0 ∷ 0 ∷ 0 ∷ 12 ∷ codes "SSH-2.0-peer" ++ 0 ∷ 0 ∷ 0 ∷ 9 ∷ codes "SSH-2.0-s" ++ 0 ∷ 0 ∷ 0 ∷ 7 ∷ codes "offer 2" ++ 0 ∷ 0 ∷ 0 ∷ 7
    ∷ codes "offer 1" ++ 0 ∷ 0 ∷ 0 ∷ 9 ∷ codes "key of h1" ++ 0 ∷ 0 ∷ 0 ∷ 32 ∷ 228 ∷ 228 ∷ 228 ∷ replicate 29 232 ++ 0 ∷ 0 ∷ 0 ∷ 32
    ∷ replicate 32 228 ++ mpint_of 0xc0c0c0c0c0c0c0c0c0c0c0c0c0c0c0c0c0c0c0c0c0c0c0c0c0c0c0c0c

-- the text that is hashed in this exchange
abbrev pub text_1 : List ℕ
text_1 =
    0 ∷ 0 ∷ 0 ∷ 12 ∷ codes "SSH-2.0-peer" ++ 0 ∷ 0 ∷ 0 ∷ 9 ∷ codes "SSH-2.0-s" ++ 0 ∷ 0 ∷ 0 ∷ 7 ∷ codes "offer 3" ++ 0 ∷ 0 ∷ 0 ∷ 7
    ∷ codes "offer 4" ++ 0 ∷ 0 ∷ 0 ∷ 9 ∷ codes "key of h1" ++ 0 ∷ 0 ∷ 0 ∷ 32 ∷ 167 ∷ replicate 31 60 ++ 0 ∷ 0 ∷ 0 ∷ 32 ∷ replicate 32 167
    ++ mpint_of 0x9b9b9b9b9b9b9b9b9b9b9b9b9b9b9b9b9b9b9b9b9b9b9b9b9b9b9b9b9b9b9b

-- the text that is hashed in this exchange
abbrev pub text_2 : List ℕ
text_2 =
    0 ∷ 0 ∷ 0 ∷ 12 ∷ codes "SSH-2.0-peer" ++ 0 ∷ 0 ∷ 0 ∷ 9 ∷ codes "SSH-2.0-s" ++ 0 ∷ 0 ∷ 0 ∷ 7 ∷ codes "offer 6" ++ 0 ∷ 0 ∷ 0 ∷ 7
    ∷ codes "offer 5" ++ 0 ∷ 0 ∷ 0 ∷ 9 ∷ codes "key of h1" ++ 0 ∷ 0 ∷ 0 ∷ 32 ∷ replicate 32 42 ++ 0 ∷ 0 ∷ 0 ∷ 32 ∷ replicate 32 179
    ++ mpint_of 0x9999999999999999999999999999999999999999999999999999999999999999

-- the text that is hashed in this exchange
abbrev pub text_3 : List ℕ
text_3 =
    0 ∷ 0 ∷ 0 ∷ 12 ∷ codes "SSH-2.0-peer" ++ 0 ∷ 0 ∷ 0 ∷ 9 ∷ codes "SSH-2.0-s" ++ 0 ∷ 0 ∷ 0 ∷ 7 ∷ codes "offer 7" ++ 0 ∷ 0 ∷ 0 ∷ 7
    ∷ codes "offer 8" ++ 0 ∷ 0 ∷ 0 ∷ 9 ∷ codes "key of h3" ++ 0 ∷ 0 ∷ 0 ∷ 32 ∷ 196 ∷ replicate 31 23 ++ 0 ∷ 0 ∷ 0 ∷ 32 ∷ replicate 32 196
    ++ mpint_of 0xd3d3d3d3d3d3d3d3d3d3d3d3d3d3d3d3d3d3d3d3d3d3d3d3d3d3d3d3d3d3d3
