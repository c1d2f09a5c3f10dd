-- A drawn session of a server, written by tools/second_reading.
use Rattle.ssh_model.specs.Protocol.Sessions.Parties.{Parties}
use Rattle.std.specs.Prelude.{List, ℕ, codes, ◌∷◌, [], false, replicate, None, true, Some, ◌++◌}
use Rattle.test_histories.specs.Words.{ends_of, with_cookie, proposing, hears, guessing, says, hears_on, says_on}
use Rattle.ssh_model.specs.declared.side.Side.TheVariants.{Server}
use Rattle.ssh_model.specs.declared.strictness.Strictness.TheVariants.{Offer}
use Rattle.ssh_model.specs.Protocol.Sessions.Items.{Item, Item.Fed, Item.SentLine, Item.Sent, Item.TookLine, Item.Told}
use Rattle.ssh_model.specs.Protocol.Sessions.Items.{Fact.NotImplemented, Fact.Ignored, Fact.Debugged, Item.Took}
use Rattle.ssh_model.specs.Protocol.Sessions.Items.{Fact.Completed, Fact.Accepted, Credential.ByKey, Fact.Opened, Item.Asked}
use Rattle.ssh_model.specs.Protocol.Sessions.Items.{Ask.AskConfirm, Ask.AskAdjust, Fact.Requested, Ask.AskClose}
use Rattle.ssh_model.specs.Protocol.Sessions.Items.{Ask.AskGlobal, Fact.GotData, Ask.AskReply, Item.AskRefused, Ask.AskRekey}
use Rattle.ssh_model.specs.Protocol.Sessions.Items.{Item.TookGuess, Ask.AskOpen, Fact.Opening, Ask.AskDisconnect, Item.Died}
use Rattle.ssh_model.specs.Protocol.Sessions.Items.{Ask, Ask.AskData, Ask.AskGlobalReply, Ask.AskPassword, Ask.AskSign}
use Rattle.ssh_model.specs.Protocol.Wire.Message.{Msg.KexInit, Msg.Unimplemented, Msg.Ignore, Msg.Debug, Msg.KexEcdhInit}
use Rattle.ssh_model.specs.Protocol.Wire.Message.{Msg.KexEcdhReply, Msg.NewKeys, Msg.ExtInfo, Msg.ServiceRequest}
use Rattle.ssh_model.specs.Protocol.Wire.Message.{Msg.ServiceAccept, Msg.UserauthRequest, Method.NoMethod}
use Rattle.ssh_model.specs.Protocol.Wire.Message.{Msg.UserauthFailure, Method.Publickey, Msg.UserauthSuccess}
use Rattle.ssh_model.specs.Protocol.Wire.Message.{Msg.ChannelOpen, Msg.ChannelOpenConfirmation, Msg.ChannelWindowAdjust}
use Rattle.ssh_model.specs.Protocol.Wire.Message.{Msg.ChannelRequest, Msg.ChannelClose, Msg.GlobalRequest, Msg.ChannelData}
use Rattle.ssh_model.specs.Protocol.Wire.Message.{Msg.ChannelExtendedData, Msg.Disconnect, Msg, Msg.Unknown}
use Rattle.ssh_model.specs.Protocol.Wire.Message.{Msg.ChannelOpenFailure, Msg.ChannelEof, Msg.ChannelFailure}
use Rattle.ssh_model.specs.declared.ask_refusal.AskRefusal.{AskRefusal}
use Rattle.ssh_model.specs.Protocol.KeyExchange.Exchange.{mpint_of}

-- the ends, of which the server has drawn settings
abbrev pub ends : Parties (List ℕ)
ends = ends_of Server (record {
  line = codes "SSH-2.0-s";
  kex = codes "k2" ∷ codes "k1" ∷ [];
  host = codes "h1" ∷ [];
  encryption = codes "e2" ∷ [];
  mac = codes "m3" ∷ codes "m2" ∷ [];
  epoch_limit = 10;
  tries = 1;
  methods = codes "publickey" ∷ codes "password" ∷ [];
  strictness = Offer;
  takes_extensions = false;
  extensions = record { name = codes "x"; value = codes "y" } ∷ [];
})

-- the turns
abbrev pub turns : List (List Item)
turns =
    (Fed (replicate 16 249) (replicate 32 93) ∷ SentLine (codes "SSH-2.0-s")
    ∷ (Sent None (KexInit (with_cookie (replicate 16 249) (proposing (codes "k2" ∷ codes "k1" ∷ codes "kex-strict-s-v00@openssh.com"
    ∷ []) (codes "h1" ∷ []) (codes "e2" ∷ []) (codes "e2" ∷ []) (codes "m3" ∷ codes "m2" ∷ []) (codes "m3" ∷ codes "m2"
    ∷ [])))) (codes "offer 1")) ∷ [])
    ∷ (TookLine (codes "SSH-2.0-peer") ∷ [])
    ∷ (hears (Unimplemented 1) ∷ Told (NotImplemented 1) ∷ [])
    ∷ (hears (Unimplemented 0) ∷ Told (NotImplemented 0) ∷ [])
    ∷ (hears (Ignore (codes "a")) ∷ Told Ignored ∷ [])
    ∷ (hears (Ignore []) ∷ Told Ignored ∷ [])
    ∷ (hears (Unimplemented 4) ∷ Told (NotImplemented 4) ∷ [])
    ∷ (hears (Unimplemented 4) ∷ Told (NotImplemented 4) ∷ [])
    ∷ (hears (Ignore (codes "a")) ∷ Told Ignored ∷ [])
    ∷ (hears (Debug true [] []) ∷ Told (Debugged true []) ∷ [])
    ∷ (hears (Ignore (codes "a")) ∷ Told Ignored ∷ [])
    ∷ (hears (Unimplemented 2) ∷ Told (NotImplemented 2) ∷ [])
    ∷ (hears (Debug true (codes "a") []) ∷ Told (Debugged true (codes "a")) ∷ [])
    ∷ (hears (Unimplemented 6) ∷ Told (NotImplemented 6) ∷ [])
    ∷ (hears (Debug true (codes "abc") []) ∷ Told (Debugged true (codes "abc")) ∷ [])
    ∷ (hears (Debug true (codes "abc") []) ∷ Told (Debugged true (codes "abc")) ∷ [])
    ∷ (hears (Ignore (codes "a")) ∷ Told Ignored ∷ [])
    ∷ (hears (Unimplemented 7) ∷ Told (NotImplemented 7) ∷ [])
    ∷ ((Took None (KexInit (guessing (codes "k2" ∷ codes "k1" ∷ codes "ext-info-c" ∷ []) (codes "h1" ∷ []) (codes "e1" ∷ codes "e2"
    ∷ []) (codes "e2" ∷ codes "e1" ∷ []) (codes "m2" ∷ codes "m3" ∷ []) (codes "m1" ∷ codes "m3" ∷ codes "m2" ∷ []))) (codes "offer 2"))
    ∷ [])
    ∷ ((hears (KexEcdhInit (93 ∷ 93 ∷ 93 ∷ replicate 29 86))) ∷ says (KexEcdhReply (codes "key of h1") (replicate 32 93) (codes "right"))
    ∷ says NewKeys ∷ (says (ExtInfo (record { name = codes "x"; value = codes "y" } ∷ []))) ∷ Told (Completed 1) ∷ [])
    ∷ (hears NewKeys ∷ [])
    ∷ (hears (ServiceRequest (codes "ssh-userauth")) ∷ says (ServiceAccept (codes "ssh-userauth")) ∷ [])
    ∷ (hears (UserauthRequest (codes "u") (codes "ssh-connection") NoMethod) ∷ (says (UserauthFailure (codes "publickey" ∷ codes "password"
    ∷ []) false)) ∷ [])
    ∷ (hears (UserauthRequest (codes "u") (codes "ssh-connection") (Publickey (codes "alg") (codes "k") (Some (codes "right"))))
    ∷ says UserauthSuccess ∷ Told (Accepted (codes "u") (ByKey (codes "alg") (codes "k"))) ∷ [])
    ∷ (hears_on 1 (ChannelOpen (codes "session") 5 6 4 []) ∷ Told (Opened 1 (codes "session") 6 4 []) ∷ [])
    ∷ (Asked (AskConfirm 1 8 32768 []) ∷ says_on 1 (ChannelOpenConfirmation 5 1 8 32768 []) ∷ [])
    ∷ (Asked (AskAdjust 1 20) ∷ says_on 1 (ChannelWindowAdjust 5 20) ∷ [])
    ∷ (hears_on 1 (ChannelRequest 1 (codes "r") false (codes "abc")) ∷ Told (Requested 1 (codes "r") false (codes "abc")) ∷ [])
    ∷ (Asked (AskClose 1) ∷ says_on 1 (ChannelClose 5) ∷ [])
    ∷ (Asked (AskGlobal (codes "g") false []) ∷ says (GlobalRequest (codes "g") false []) ∷ [])
    ∷ (Asked (AskGlobal (codes "g") true []) ∷ says (GlobalRequest (codes "g") true []) ∷ [])
    ∷ (hears_on 1 (ChannelData 1 (codes "a")) ∷ Told (GotData 1 None (codes "a")) ∷ [])
    ∷ (Fed (replicate 16 141) (replicate 32 235) ∷ [])
    ∷ (hears_on 1 (ChannelRequest 1 (codes "r") true []) ∷ Told (Requested 1 (codes "r") true []) ∷ [])
    ∷ (Asked (AskReply 1 false) ∷ AskRefused AskRefusal.Ended ∷ [])
    ∷ (hears (Debug true (codes "abc") []) ∷ Told (Debugged true (codes "abc")) ∷ [])
    ∷ (Asked AskRekey ∷ (Sent None (KexInit (with_cookie (replicate 16 141) (proposing (codes "k2" ∷ codes "k1" ∷ []) (codes "h1"
    ∷ []) (codes "e2" ∷ []) (codes "e2" ∷ []) (codes "m3" ∷ codes "m2" ∷ []) (codes "m3" ∷ codes "m2" ∷ [])))) (codes "offer 3")) ∷ [])
    ∷ (Asked (AskConfirm 1 4 4 []) ∷ AskRefused AskRefusal.Busy ∷ [])
    ∷ (hears_on 2 (ChannelOpen (codes "session") 0 9 4 []) ∷ Told (Opened 2 (codes "session") 9 4 []) ∷ [])
    ∷ (hears_on 1 (ChannelData 1 (codes "aaaaaa")) ∷ Told (GotData 1 None (codes "aaaaaa")) ∷ [])
    ∷ (Fed (replicate 16 27) (replicate 32 249) ∷ [])
    ∷ (hears_on 1 (ChannelExtendedData 1 1 (codes "aaaaaa")) ∷ Told (GotData 1 (Some 1) (codes "aaaaaa")) ∷ [])
    ∷ (hears_on 1 (ChannelData 1 []) ∷ Told (GotData 1 None []) ∷ [])
    ∷ ((Took None (KexInit (guessing (codes "k1" ∷ codes "k3" ∷ codes "k2" ∷ []) (codes "h1" ∷ []) (codes "e2" ∷ codes "e1"
    ∷ []) (codes "e1" ∷ codes "e2" ∷ []) (codes "m3" ∷ codes "m1" ∷ []) (codes "m1" ∷ codes "m3" ∷ codes "m2" ∷ []))) (codes "offer 4"))
    ∷ [])
    ∷ (TookGuess [] ∷ Told Ignored ∷ [])
    ∷ ((hears (KexEcdhInit (235 ∷ replicate 31 88))) ∷ says (KexEcdhReply (codes "key of h1") (replicate 32 235) (codes "right"))
    ∷ says NewKeys ∷ Told (Completed 2) ∷ [])
    ∷ (hears NewKeys ∷ [])
    ∷ (Asked (AskOpen (codes "session") 8 6 []) ∷ says_on 0 (ChannelOpen (codes "session") 0 8 6 []) ∷ Told (Opening 0) ∷ [])
    ∷ (hears_on 1 (ChannelData 1 []) ∷ Told (GotData 1 None []) ∷ [])
    ∷ (Asked AskRekey ∷ (Sent None (KexInit (with_cookie (replicate 16 27) (proposing (codes "k2" ∷ codes "k1" ∷ []) (codes "h1"
    ∷ []) (codes "e2" ∷ []) (codes "e2" ∷ []) (codes "m3" ∷ codes "m2" ∷ []) (codes "m3" ∷ codes "m2" ∷ [])))) (codes "offer 5")) ∷ [])
    ∷ (hears_on 1 (ChannelData 1 (codes "a")) ∷ Told (GotData 1 None (codes "a")) ∷ [])
    ∷ (Fed (replicate 16 52) (replicate 32 223) ∷ [])
    ∷ (Asked (AskDisconnect (codes "bye")) ∷ says (Disconnect 11 (codes "bye") []) ∷ Died ∷ []) ∷ []

-- messages that might come at any moment
abbrev pub messages : List Msg
messages =
    (KexInit (guessing (codes "k2" ∷ codes "k1" ∷ []) (codes "h1" ∷ codes "h3" ∷ []) (codes "e2" ∷ codes "e1" ∷ []) (codes "e2" ∷ codes "e1"
    ∷ []) (codes "m1" ∷ codes "m2" ∷ codes "m3" ∷ []) (codes "m2" ∷ codes "m3" ∷ [])))
    ∷ (KexInit (guessing (codes "k1" ∷ codes "k2" ∷ []) (codes "h1" ∷ []) (codes "e2" ∷ codes "e1" ∷ []) (codes "e1" ∷ codes "e2"
    ∷ []) (codes "m1" ∷ codes "m2" ∷ []) (codes "m1" ∷ codes "m3" ∷ [])))
    ∷ (ChannelData 0 (codes "aaaaaa"))
    ∷ (ChannelData 0 [])
    ∷ (ChannelWindowAdjust 0 7)
    ∷ (KexEcdhInit (replicate 32 55))
    ∷ (KexEcdhInit (replicate 33 200))
    ∷ (KexEcdhInit (0 ∷ replicate 31 135))
    ∷ (UserauthRequest (codes "u") (codes "ssh-connection") (Publickey (codes "alg") (codes "k") None))
    ∷ (UserauthRequest (codes "guest") (codes "ssh-userauth") (Publickey (codes "alg") (codes "k") (Some (codes "right"))))
    ∷ (UserauthRequest (codes "u") (codes "ssh-connection") (Publickey (codes "alg") (codes "k") (Some (codes "right"))))
    ∷ (ChannelExtendedData 1 1 [])
    ∷ (Unknown 29)
    ∷ (ChannelOpenFailure 1 1 [] [])
    ∷ (Debug true (codes "a") [])
    ∷ (ChannelEof 2)
    ∷ (ChannelFailure 2) ∷ []

-- asks that might come at any moment
abbrev pub asks : List Ask
asks =
    (AskData 2 None (codes "b"))
    ∷ (AskData 2 None (codes "b"))
    ∷ (AskGlobalReply true (codes "x"))
    ∷ (AskPassword (codes "u") (codes "q"))
    ∷ (AskDisconnect (codes "bye"))
    ∷ (AskSign (codes "u") (codes "alg") (codes "k"))
    ∷ (AskOpen (codes "session") 9 6 [])
    ∷ (AskRekey)
    ∷ (AskConfirm 1 10 8 []) ∷ []

-- numbers that might come at any moment
abbrev pub numbers : List ℕ
numbers =
    0 ∷ 4 ∷ 8 ∷ 20 ∷ 22 ∷ 29 ∷ 30 ∷ 31 ∷ 32 ∷ 53 ∷ 60 ∷ 90 ∷ []

-- the text that is hashed in this exchange
abbrev pub text_0 : List ℕ
text_0 =
    0 ∷ 0 ∷ 0 ∷ 12 ∷ codes "SSH-2.0-peer" ++ 0 ∷ 0 ∷ 0 ∷ 9 ∷ codes "SSH-2.0-s" ++ 0 ∷ 0 ∷ 0 ∷ 7 ∷ codes "offer 2" ++ 0 ∷ 0 ∷ 0 ∷ 7
    ∷ codes "offer 1" ++ 0 ∷ 0 ∷ 0 ∷ 9 ∷ codes "key of h1" ++ 0 ∷ 0 ∷ 0 ∷ 32 ∷ 93 ∷ 93 ∷ 93 ∷ replicate 29 86 ++ 0 ∷ 0 ∷ 0 ∷ 32
    ∷ replicate 32 93 ++ mpint_of 0xb0b0b0b0b0b0b0b0b0b0b0b0b0b0b0b0b0b0b0b0b0b0b0b0b0b0b0b0b

-- the text that is hashed in this exchange
abbrev pub text_1 : List ℕ
text_1 =
    0 ∷ 0 ∷ 0 ∷ 12 ∷ codes "SSH-2.0-peer" ++ 0 ∷ 0 ∷ 0 ∷ 9 ∷ codes "SSH-2.0-s" ++ 0 ∷ 0 ∷ 0 ∷ 7 ∷ codes "offer 4" ++ 0 ∷ 0 ∷ 0 ∷ 7
    ∷ codes "offer 3" ++ 0 ∷ 0 ∷ 0 ∷ 9 ∷ codes "key of h1" ++ 0 ∷ 0 ∷ 0 ∷ 32 ∷ 235 ∷ replicate 31 88 ++ 0 ∷ 0 ∷ 0 ∷ 32 ∷ replicate 32 235
    ++ mpint_of 0xb3b3b3b3b3b3b3b3b3b3b3b3b3b3b3b3b3b3b3b3b3b3b3b3b3b3b3b3b3b3b3
