-- A drawn session of a server, written by tools/second_reading.
use Rattle.ssh_model.specs.Protocol.Sessions.Parties.{Parties}
use Rattle.std.specs.Prelude.{List, ℕ, codes, ◌∷◌, [], false, replicate, None, true, Some, ◌++◌}
use Rattle.test_histories.specs.Words.{ends_of, with_cookie, proposing, guessing, hears, says, says_on, hears_on}
use Rattle.ssh_model.specs.declared.side.Side.TheVariants.{Server}
use Rattle.ssh_model.specs.declared.strictness.Strictness.TheVariants.{Require}
use Rattle.ssh_model.specs.Protocol.Sessions.Items.{Item, Item.Fed, Item.SentLine, Item.Sent, Item.TookLine, Item.Took}
use Rattle.ssh_model.specs.Protocol.Sessions.Items.{Item.TookGuess, Item.Told, Fact.Ignored, Fact.Completed}
use Rattle.ssh_model.specs.Protocol.Sessions.Items.{Fact.NotImplemented, Fact.Debugged, Fact.Accepted, Credential.ByKey}
use Rattle.ssh_model.specs.Protocol.Sessions.Items.{Item.Asked, Ask.AskOpen, Fact.Opening, Fact.Confirmed, Fact.Requested}
use Rattle.ssh_model.specs.Protocol.Sessions.Items.{Fact.Adjusted, Ask.AskReply, Item.AskRefused, Fact.GotData}
use Rattle.ssh_model.specs.Protocol.Sessions.Items.{Ask.AskAdjust, Fact.Closed, Fact.Opened, Ask.AskRekey, Ask.AskData}
use Rattle.ssh_model.specs.Protocol.Sessions.Items.{Ask.AskEof, Fact.Ended, Fact.Global, Ask.AskRequest, Ask.AskConfirm, Ask}
use Rattle.ssh_model.specs.Protocol.Sessions.Items.{Ask.AskDisconnect, Ask.AskSign}
use Rattle.ssh_model.specs.Protocol.Wire.Message.{Msg.KexInit, Msg.KexEcdhInit, Msg.KexEcdhReply, Msg.NewKeys, Msg.ExtInfo}
use Rattle.ssh_model.specs.Protocol.Wire.Message.{Msg.Unimplemented, Msg.Unknown, Msg.ServiceRequest, Msg.ServiceAccept}
use Rattle.ssh_model.specs.Protocol.Wire.Message.{Msg.Debug, Msg.UserauthRequest, Method.Publickey, Msg.UserauthSuccess}
use Rattle.ssh_model.specs.Protocol.Wire.Message.{Msg.ChannelOpen, Msg.ChannelOpenConfirmation, Msg.ChannelRequest}
use Rattle.ssh_model.specs.Protocol.Wire.Message.{Msg.ChannelWindowAdjust, Msg.ChannelData, Msg.ChannelClose, Msg.ChannelEof}
use Rattle.ssh_model.specs.Protocol.Wire.Message.{Msg.GlobalRequest, Msg, Method.Password, Method.NoMethod}
use Rattle.ssh_model.specs.Protocol.Wire.Message.{Msg.UserauthFailure, Msg.Ignore}
use Rattle.ssh_model.specs.declared.ask_refusal.AskRefusal.{AskRefusal}
use Rattle.ssh_model.specs.Protocol.KeyExchange.Exchange.{mpint_of}

-- the ends, of which the server has drawn settings
abbrev pub ends : Parties (List ℕ)
ends = ends_of Server (record {
  line = codes "SSH-2.0-s";
  kex = codes "k1" ∷ codes "k2" ∷ codes "k3" ∷ [];
  host = codes "h3" ∷ codes "h2" ∷ codes "h1" ∷ [];
  encryption = codes "e2" ∷ codes "e1" ∷ [];
  mac = codes "m3" ∷ codes "m2" ∷ [];
  epoch_limit = 9;
  tries = 0;
  methods = codes "publickey" ∷ [];
  strictness = Require;
  takes_extensions = false;
  extensions = record { name = codes "x"; value = codes "y" } ∷ [];
})

-- the turns
abbrev pub turns : List (List Item)
turns =
    (Fed (replicate 16 41) (replicate 32 134) ∷ SentLine (codes "SSH-2.0-s")
    ∷ (Sent None (KexInit (with_cookie (replicate 16 41) (proposing (codes "k1" ∷ codes "k2" ∷ codes "k3"
    ∷ codes "kex-strict-s-v00@openssh.com" ∷ []) (codes "h3" ∷ codes "h2" ∷ codes "h1" ∷ []) (codes "e2" ∷ codes "e1" ∷ []) (codes "e2"
    ∷ codes "e1" ∷ []) (codes "m3" ∷ codes "m2" ∷ []) (codes "m3" ∷ codes "m2" ∷ [])))) (codes "offer 1")) ∷ [])
    ∷ (TookLine (codes "SSH-2.0-peer") ∷ [])
    ∷ ((Took None (KexInit (guessing (codes "kex-strict-c-v00@openssh.com" ∷ codes "ext-info-c" ∷ codes "k3" ∷ []) (codes "h2" ∷ codes "h3"
    ∷ codes "h1" ∷ []) (codes "e2" ∷ codes "e1" ∷ []) (codes "e2" ∷ codes "e1" ∷ []) (codes "m3" ∷ codes "m1" ∷ []) (codes "m2" ∷ codes "m3"
    ∷ codes "m1" ∷ []))) (codes "offer 2")) ∷ [])
    ∷ (TookGuess [] ∷ Told Ignored ∷ [])
    ∷ (hears (KexEcdhInit (replicate 32 23)) ∷ says (KexEcdhReply (codes "key of h2") (replicate 32 134) (codes "right")) ∷ says NewKeys
    ∷ (says (ExtInfo (record { name = codes "x"; value = codes "y" } ∷ []))) ∷ Told (Completed 1) ∷ [])
    ∷ (hears NewKeys ∷ [])
    ∷ (hears (Unimplemented 4) ∷ Told (NotImplemented 4) ∷ [])
    ∷ (hears (Unknown 0) ∷ says (Unimplemented 1) ∷ [])
    ∷ (hears (ServiceRequest (codes "ssh-userauth")) ∷ says (ServiceAccept (codes "ssh-userauth")) ∷ [])
    ∷ (hears (Debug true [] []) ∷ Told (Debugged true []) ∷ [])
    ∷ (hears (UserauthRequest (codes "u") (codes "ssh-connection") (Publickey (codes "alg") (codes "k") (Some (codes "right"))))
    ∷ says UserauthSuccess ∷ Told (Accepted (codes "u") (ByKey (codes "alg") (codes "k"))) ∷ [])
    ∷ (Asked (AskOpen (codes "session") 5 8 []) ∷ says_on 0 (ChannelOpen (codes "session") 0 5 8 []) ∷ Told (Opening 0) ∷ [])
    ∷ (Asked (AskOpen (codes "session") 9 6 []) ∷ says_on 2 (ChannelOpen (codes "session") 2 9 6 []) ∷ Told (Opening 2) ∷ [])
    ∷ (Asked (AskOpen (codes "session") 11 6 []) ∷ says_on 1 (ChannelOpen (codes "session") 1 11 6 []) ∷ Told (Opening 1) ∷ [])
    ∷ (hears_on 2 (ChannelOpenConfirmation 2 2 10 7 []) ∷ Told (Confirmed 2 10 7 []) ∷ [])
    ∷ (hears_on 2 (ChannelRequest 2 (codes "r") false (codes "a")) ∷ Told (Requested 2 (codes "r") false (codes "a")) ∷ [])
    ∷ (hears_on 0 (ChannelOpenConfirmation 0 7 7 7 []) ∷ Told (Confirmed 0 7 7 []) ∷ [])
    ∷ (hears_on 0 (ChannelWindowAdjust 0 7) ∷ Told (Adjusted 0 7) ∷ [])
    ∷ (Asked (AskReply 1 true) ∷ AskRefused AskRefusal.NoChannel ∷ [])
    ∷ (hears_on 2 (ChannelData 2 (codes "a")) ∷ Told (GotData 2 None (codes "a")) ∷ [])
    ∷ (Asked (AskAdjust 0 1) ∷ says_on 0 (ChannelWindowAdjust 7 1) ∷ [])
    ∷ (hears_on 2 (ChannelClose 2) ∷ says_on 2 (ChannelClose 2) ∷ Told (Closed 2) ∷ [])
    ∷ (hears_on 0 (ChannelRequest 0 (codes "r") false (codes "a")) ∷ Told (Requested 0 (codes "r") false (codes "a")) ∷ [])
    ∷ (hears_on 0 (ChannelClose 0) ∷ says_on 0 (ChannelClose 7) ∷ Told (Closed 0) ∷ [])
    ∷ (hears_on 1 (ChannelOpenConfirmation 1 8 8 5 []) ∷ Told (Confirmed 1 8 5 []) ∷ [])
    ∷ (Fed (replicate 16 217) (replicate 32 165) ∷ [])
    ∷ (hears_on 2 (ChannelOpen (codes "session") 5 4 8 []) ∷ Told (Opened 2 (codes "session") 4 8 []) ∷ [])
    ∷ (Asked AskRekey ∷ (Sent None (KexInit (with_cookie (replicate 16 217) (proposing (codes "k1" ∷ codes "k2" ∷ codes "k3"
    ∷ []) (codes "h3" ∷ codes "h2" ∷ codes "h1" ∷ []) (codes "e2" ∷ codes "e1" ∷ []) (codes "e2" ∷ codes "e1" ∷ []) (codes "m3" ∷ codes "m2"
    ∷ []) (codes "m3" ∷ codes "m2" ∷ [])))) (codes "offer 3")) ∷ [])
    ∷ (hears (Debug true (codes "abc") []) ∷ Told (Debugged true (codes "abc")) ∷ [])
    ∷ (Asked (AskData 1 (Some 1) (codes "b")) ∷ AskRefused AskRefusal.Busy ∷ [])
    ∷ (hears_on 1 (ChannelWindowAdjust 1 0) ∷ Told (Adjusted 1 0) ∷ [])
    ∷ (Asked (AskReply 2 false) ∷ AskRefused AskRefusal.Busy ∷ [])
    ∷ ((Took None (KexInit (proposing (codes "k3" ∷ codes "k1" ∷ codes "k2" ∷ []) (codes "h2" ∷ codes "h1" ∷ codes "h3" ∷ []) (codes "e2"
    ∷ codes "e1" ∷ []) (codes "e2" ∷ codes "e1" ∷ []) (codes "m1" ∷ codes "m3" ∷ codes "m2" ∷ []) (codes "m3" ∷ codes "m1"
    ∷ []))) (codes "offer 4")) ∷ [])
    ∷ (hears (Unimplemented 2) ∷ Told (NotImplemented 2) ∷ [])
    ∷ (hears (KexEcdhInit (replicate 32 93)) ∷ says (KexEcdhReply (codes "key of h2") (replicate 32 165) (codes "right")) ∷ says NewKeys
    ∷ Told (Completed 2) ∷ [])
    ∷ (Asked (AskEof 1) ∷ says_on 1 (ChannelEof 8) ∷ [])
    ∷ (Fed (replicate 16 123) (replicate 32 204) ∷ [])
    ∷ (hears NewKeys ∷ [])
    ∷ (hears_on 1 (ChannelData 1 (codes "a")) ∷ Told (GotData 1 None (codes "a")) ∷ [])
    ∷ (hears_on 1 (ChannelEof 1) ∷ Told (Ended 1) ∷ [])
    ∷ (hears (GlobalRequest (codes "g") false []) ∷ Told (Global (codes "g") false []) ∷ [])
    ∷ (Asked AskRekey ∷ (Sent None (KexInit (with_cookie (replicate 16 123) (proposing (codes "k1" ∷ codes "k2" ∷ codes "k3"
    ∷ []) (codes "h3" ∷ codes "h2" ∷ codes "h1" ∷ []) (codes "e2" ∷ codes "e1" ∷ []) (codes "e2" ∷ codes "e1" ∷ []) (codes "m3" ∷ codes "m2"
    ∷ []) (codes "m3" ∷ codes "m2" ∷ [])))) (codes "offer 5")) ∷ [])
    ∷ ((Took None (KexInit (proposing (codes "k2" ∷ codes "k3" ∷ codes "k1" ∷ []) (codes "h1" ∷ codes "h3" ∷ codes "h2" ∷ []) (codes "e2"
    ∷ codes "e1" ∷ []) (codes "e2" ∷ codes "e1" ∷ []) (codes "m1" ∷ codes "m3" ∷ codes "m2" ∷ []) (codes "m3" ∷ codes "m2"
    ∷ []))) (codes "offer 6")) ∷ [])
    ∷ (hears (Debug true [] []) ∷ Told (Debugged true []) ∷ [])
    ∷ (Fed (replicate 16 125) (replicate 32 144) ∷ [])
    ∷ (hears (KexEcdhInit (replicate 32 68)) ∷ says (KexEcdhReply (codes "key of h1") (replicate 32 204) (codes "right")) ∷ says NewKeys
    ∷ Told (Completed 3) ∷ [])
    ∷ (Asked (AskRequest 1 (codes "r") true []) ∷ says_on 1 (ChannelRequest 8 (codes "r") true []) ∷ [])
    ∷ (hears NewKeys ∷ [])
    ∷ (Asked (AskConfirm 2 10 6 []) ∷ says_on 2 (ChannelOpenConfirmation 5 2 10 6 []) ∷ [])
    ∷ (hears_on 2 (ChannelData 2 (codes "aaaa")) ∷ Told (GotData 2 None (codes "aaaa")) ∷ [])
    ∷ ((Took None (KexInit (guessing (codes "k1" ∷ codes "k2" ∷ codes "k3" ∷ []) (codes "h3" ∷ codes "h1" ∷ codes "h2" ∷ []) (codes "e1"
    ∷ codes "e2" ∷ []) (codes "e2" ∷ codes "e1" ∷ []) (codes "m2" ∷ codes "m1" ∷ codes "m3" ∷ []) (codes "m2" ∷ codes "m3" ∷ codes "m1"
    ∷ []))) (codes "offer 7")) ∷ (Sent None (KexInit (with_cookie (replicate 16 125) (proposing (codes "k1" ∷ codes "k2" ∷ codes "k3"
    ∷ []) (codes "h3" ∷ codes "h2" ∷ codes "h1" ∷ []) (codes "e2" ∷ codes "e1" ∷ []) (codes "e2" ∷ codes "e1" ∷ []) (codes "m3" ∷ codes "m2"
    ∷ []) (codes "m3" ∷ codes "m2" ∷ [])))) (codes "offer 8")) ∷ [])
    ∷ ((hears (KexEcdhInit (144 ∷ replicate 31 171))) ∷ says (KexEcdhReply (codes "key of h3") (replicate 32 144) (codes "right"))
    ∷ says NewKeys ∷ Told (Completed 4) ∷ [])
    ∷ (Asked (AskAdjust 1 20) ∷ says_on 1 (ChannelWindowAdjust 8 20) ∷ [])
    ∷ (hears NewKeys ∷ [])
    ∷ (hears_on 2 (ChannelEof 2) ∷ Told (Ended 2) ∷ [])
    ∷ (Asked (AskEof 1) ∷ AskRefused AskRefusal.Ended ∷ []) ∷ []

-- messages that might come at any moment
abbrev pub messages : List Msg
messages =
    (KexInit (proposing (codes "k3" ∷ codes "k1" ∷ codes "k2" ∷ []) (codes "h3" ∷ codes "h2" ∷ codes "h1" ∷ []) (codes "e2" ∷ codes "e1"
    ∷ []) (codes "e2" ∷ codes "e1" ∷ []) (codes "m2" ∷ codes "m1" ∷ codes "m3" ∷ []) (codes "m3" ∷ codes "m1" ∷ codes "m2" ∷ [])))
    ∷ (KexInit (guessing (codes "k1" ∷ []) (codes "h2" ∷ codes "h1" ∷ []) (codes "e1" ∷ codes "e2" ∷ []) (codes "e2" ∷ codes "e1"
    ∷ []) (codes "m3" ∷ codes "m1" ∷ []) (codes "m3" ∷ codes "m1" ∷ codes "m2" ∷ [])))
    ∷ (ChannelData 0 (codes "aaaa"))
    ∷ (ChannelData 2 (codes "aaaa"))
    ∷ (ChannelWindowAdjust 0 1)
    ∷ (KexEcdhInit (0 ∷ 0 ∷ 0 ∷ replicate 29 143))
    ∷ (KexEcdhInit (replicate 32 16))
    ∷ (KexEcdhInit (replicate 32 204))
    ∷ (UserauthRequest (codes "u") (codes "ssh-userauth") (Password (codes "p") None))
    ∷ (UserauthRequest (codes "u") (codes "ssh-connection") (Password (codes "p") None))
    ∷ (UserauthRequest (codes "guest") (codes "ssh-connection") NoMethod)
    ∷ (ChannelRequest 2 (codes "r") false (codes "a"))
    ∷ (Unimplemented 5)
    ∷ (ServiceAccept (codes "ssh-userauth"))
    ∷ (UserauthFailure (codes "password" ∷ []) true)
    ∷ (Ignore (codes "a"))
    ∷ (ServiceRequest (codes "ssh-connection")) ∷ []

-- asks that might come at any moment
abbrev pub asks : List Ask
asks =
    (AskData 2 None (codes "bbbbbb"))
    ∷ (AskData 1 (Some 1) (codes "bbbbbb"))
    ∷ (AskOpen (codes "session") 9 6 [])
    ∷ (AskDisconnect (codes "bye"))
    ∷ (AskRekey)
    ∷ (AskConfirm 2 11 6 [])
    ∷ (AskSign (codes "u") (codes "alg") (codes "k"))
    ∷ (AskAdjust 2 1)
    ∷ (AskReply 0 true) ∷ []

-- numbers that might come at any moment
abbrev pub numbers : List ℕ
numbers =
    1 ∷ 8 ∷ 49 ∷ 50 ∷ 51 ∷ 61 ∷ 79 ∷ 82 ∷ 90 ∷ 97 ∷ 100 ∷ 192 ∷ []

-- the text that is hashed in this exchange
abbrev pub text_0 : List ℕ
text_0 =
    0 ∷ 0 ∷ 0 ∷ 12 ∷ codes "SSH-2.0-peer" ++ 0 ∷ 0 ∷ 0 ∷ 9 ∷ codes "SSH-2.0-s" ++ 0 ∷ 0 ∷ 0 ∷ 7 ∷ codes "offer 2" ++ 0 ∷ 0 ∷ 0 ∷ 7
    ∷ codes "offer 1" ++ 0 ∷ 0 ∷ 0 ∷ 9 ∷ codes "key of h2" ++ 0 ∷ 0 ∷ 0 ∷ 32 ∷ replicate 32 23 ++ 0 ∷ 0 ∷ 0 ∷ 32 ∷ replicate 32 134
    ++ mpint_of 0x9191919191919191919191919191919191919191919191919191919191919191

-- the text that is hashed in this exchange
abbrev pub text_1 : List ℕ
text_1 =
    0 ∷ 0 ∷ 0 ∷ 12 ∷ codes "SSH-2.0-peer" ++ 0 ∷ 0 ∷ 0 ∷ 9 ∷ codes "SSH-2.0-s" ++ 0 ∷ 0 ∷ 0 ∷ 7 ∷ codes "offer 4" ++ 0 ∷ 0 ∷ 0 ∷ 7
    ∷ codes "offer 3" ++ 0 ∷ 0 ∷ 0 ∷ 9 ∷ codes "key of h2" ++ 0 ∷ 0 ∷ 0 ∷ 32 ∷ replicate 32 93 ++ 0 ∷ 0 ∷ 0 ∷ 32 ∷ replicate 32 165
    ++ mpint_of 0xf8f8f8f8f8f8f8f8f8f8f8f8f8f8f8f8f8f8f8f8f8f8f8f8f8f8f8f8f8f8f8f8

-- the text that is hashed in this exchange
abbrev pub text_2 : List ℕ
text_2 =
    0 ∷ 0 ∷ 0 ∷ 12 ∷ codes "SSH-2.0-peer" ++ 0 ∷ 0 ∷ 0 ∷ 9 ∷ codes "SSH-2.0-s" ++ 0 ∷ 0 ∷ 0 ∷ 7 ∷ codes "offer 6" ++ 0 ∷ 0 ∷ 0 ∷ 7
    ∷ codes "offer 5" ++ 0 ∷ 0 ∷ 0 ∷ 9 ∷ codes "key of h1" ++ 0 ∷ 0 ∷ 0 ∷ codes " DDDDDDDDDDDDDDDDDDDDDDDDDDDDDDDD" ++ 0 ∷ 0 ∷ 0 ∷ 32
    ∷ replicate 32 204 ++ mpint_of 0x8888888888888888888888888888888888888888888888888888888888888888

-- the text that is hashed in this exchange
abbrev pub text_3 : List ℕ
text_3 =
    0 ∷ 0 ∷ 0 ∷ 12 ∷ codes "SSH-2.0-peer" ++ 0 ∷ 0 ∷ 0 ∷ 9 ∷ codes "SSH-2.0-s" ++ 0 ∷ 0 ∷ 0 ∷ 7 ∷ codes "offer 7" ++ 0 ∷ 0 ∷ 0 ∷ 7
    ∷ codes "offer 8" ++ 0 ∷ 0 ∷ 0 ∷ 9 ∷ codes "key of h3" ++ 0 ∷ 0 ∷ 0 ∷ 32 ∷ 144 ∷ replicate 31 171 ++ 0 ∷ 0 ∷ 0 ∷ 32 ∷ replicate 32 144
    ++ mpint_of 0x3b3b3b3b3b3b3b3b3b3b3b3b3b3b3b3b3b3b3b3b3b3b3b3b3b3b3b3b3b3b3b
