-- A drawn session of a server, written by tools/second_reading.
use Rattle.ssh_model.specs.Protocol.Sessions.Parties.{Parties}
use Rattle.std.specs.Prelude.{List, ℕ, codes, ◌∷◌, [], false, replicate, None, Some, true, ◌++◌}
use Rattle.test_histories.specs.Words.{ends_of, with_cookie, proposing, guessing, hears, says, hears_on, says_on}
use Rattle.ssh_model.specs.declared.side.Side.TheVariants.{Server}
use Rattle.ssh_model.specs.declared.strictness.Strictness.TheVariants.{Require}
use Rattle.ssh_model.specs.Protocol.Sessions.Items.{Item, Item.Fed, Item.SentLine, Item.Sent, Item.TookLine, Item.Took}
use Rattle.ssh_model.specs.Protocol.Sessions.Items.{Item.TookGuess, Item.Told, Fact.Ignored, Fact.Completed}
use Rattle.ssh_model.specs.Protocol.Sessions.Items.{Fact.NotImplemented, Fact.Accepted, Credential.NoCredential, Fact.Global}
use Rattle.ssh_model.specs.Protocol.Sessions.Items.{Fact.Opened, Item.Asked, Ask.AskConfirm, Fact.Requested, Ask.AskData}
use Rattle.ssh_model.specs.Protocol.Sessions.Items.{Fact.Adjusted, Ask.AskEof, Ask.AskReply, Ask.AskRekey, Fact.Ended}
use Rattle.ssh_model.specs.Protocol.Sessions.Items.{Item.AskRefused, Fact.Closed, Ask.AskRefuse, Ask.AskOpen, Fact.Opening}
use Rattle.ssh_model.specs.Protocol.Sessions.Items.{Fact.Confirmed, Fact.GotData, Ask.AskDisconnect, Item.Died, Ask}
use Rattle.ssh_model.specs.Protocol.Sessions.Items.{Ask.AskAdjust, Ask.AskClose, Ask.AskRequest}
use Rattle.ssh_model.specs.Protocol.Wire.Message.{Msg.KexInit, Msg.KexEcdhInit, Msg.KexEcdhReply, Msg.NewKeys}
use Rattle.ssh_model.specs.Protocol.Wire.Message.{Msg.ServiceRequest, Msg.ServiceAccept, Msg.UserauthRequest, Method.Other}
use Rattle.ssh_model.specs.Protocol.Wire.Message.{Msg.UserauthFailure, Method.Publickey, Msg.Unimplemented, Method.NoMethod}
use Rattle.ssh_model.specs.Protocol.Wire.Message.{Msg.UserauthSuccess, Msg.GlobalRequest, Msg.ChannelOpen}
use Rattle.ssh_model.specs.Protocol.Wire.Message.{Msg.ChannelOpenConfirmation, Msg.ChannelRequest, Msg.ChannelData}
use Rattle.ssh_model.specs.Protocol.Wire.Message.{Msg.ChannelWindowAdjust, Msg.ChannelEof, Msg.ChannelSuccess}
use Rattle.ssh_model.specs.Protocol.Wire.Message.{Msg.ChannelClose, Msg.ChannelOpenFailure, Msg.Ignore, Msg.Unknown}
use Rattle.ssh_model.specs.Protocol.Wire.Message.{Msg.Disconnect, Msg, Method.Password, Msg.RequestSuccess, Msg.Debug}
use Rattle.ssh_model.specs.declared.ask_refusal.AskRefusal.{AskRefusal}
use Rattle.ssh_model.specs.Protocol.KeyExchange.Exchange.{mpint_of}

-- the ends, of which the server has drawn settings
abbrev pub ends : Parties (List ℕ)
ends = ends_of Server (record {
  line = codes "SSH-2.0-s";
  kex = codes "k1" ∷ codes "k2" ∷ codes "k3" ∷ [];
  host = codes "h1" ∷ codes "h3" ∷ codes "h2" ∷ [];
  encryption = codes "e2" ∷ codes "e1" ∷ [];
  mac = codes "m1" ∷ codes "m3" ∷ codes "m2" ∷ [];
  epoch_limit = 8;
  tries = 2;
  methods = codes "publickey" ∷ codes "password" ∷ [];
  strictness = Require;
  takes_extensions = false;
  extensions = [];
})

-- the turns
abbrev pub turns : List (List Item)
turns =
    (Fed (replicate 16 78) (replicate 32 184) ∷ SentLine (codes "SSH-2.0-s")
    ∷ (Sent None (KexInit (with_cookie (replicate 16 78) (proposing (codes "k1" ∷ codes "k2" ∷ codes "k3"
    ∷ codes "kex-strict-s-v00@openssh.com" ∷ []) (codes "h1" ∷ codes "h3" ∷ codes "h2" ∷ []) (codes "e2" ∷ codes "e1" ∷ []) (codes "e2"
    ∷ codes "e1" ∷ []) (codes "m1" ∷ codes "m3" ∷ codes "m2" ∷ []) (codes "m1" ∷ codes "m3" ∷ codes "m2" ∷ [])))) (codes "offer 1")) ∷ [])
    ∷ (TookLine (codes "SSH-2.0-peer") ∷ [])
    ∷ ((Took None (KexInit (guessing (codes "kex-strict-c-v00@openssh.com" ∷ codes "ext-info-c" ∷ codes "k2" ∷ codes "k1" ∷ codes "k3"
    ∷ []) (codes "h3" ∷ codes "h2" ∷ codes "h1" ∷ []) (codes "e1" ∷ codes "e2" ∷ []) (codes "e2" ∷ codes "e1" ∷ []) (codes "m1" ∷ codes "m3"
    ∷ []) (codes "m2" ∷ codes "m3" ∷ []))) (codes "offer 2")) ∷ [])
    ∷ (TookGuess [] ∷ Told Ignored ∷ [])
    ∷ ((hears (KexEcdhInit (184 ∷ 184 ∷ 184 ∷ replicate 29 144)))
    ∷ says (KexEcdhReply (codes "key of h3") (replicate 32 184) (codes "right")) ∷ says NewKeys ∷ Told (Completed 1) ∷ [])
    ∷ (hears NewKeys ∷ [])
    ∷ (hears (ServiceRequest (codes "ssh-userauth")) ∷ says (ServiceAccept (codes "ssh-userauth")) ∷ [])
    ∷ (hears (UserauthRequest (codes "u") (codes "ssh-connection") (Other (codes "hostbased") []))
    ∷ (says (UserauthFailure (codes "publickey" ∷ codes "password" ∷ []) false)) ∷ [])
    ∷ (hears (UserauthRequest (codes "guest") (codes "ssh-connection") (Publickey (codes "alg") (codes "k") (Some (codes "right"))))
    ∷ (says (UserauthFailure (codes "publickey" ∷ codes "password" ∷ []) false)) ∷ [])
    ∷ (hears (Unimplemented 9) ∷ Told (NotImplemented 9) ∷ [])
    ∷ (hears (UserauthRequest (codes "guest") (codes "ssh-connection") NoMethod) ∷ says UserauthSuccess
    ∷ Told (Accepted (codes "guest") NoCredential) ∷ [])
    ∷ (hears (GlobalRequest (codes "g") false (codes "abc")) ∷ Told (Global (codes "g") false (codes "abc")) ∷ [])
    ∷ (hears_on 0 (ChannelOpen (codes "session") 5 8 8 []) ∷ Told (Opened 0 (codes "session") 8 8 []) ∷ [])
    ∷ (Fed (replicate 16 181) (replicate 32 70) ∷ [])
    ∷ (Asked (AskConfirm 0 5 4 []) ∷ says_on 0 (ChannelOpenConfirmation 5 0 5 4 []) ∷ [])
    ∷ (hears_on 0 (ChannelRequest 0 (codes "r") true (codes "abc")) ∷ Told (Requested 0 (codes "r") true (codes "abc")) ∷ [])
    ∷ (Asked (AskData 0 None (codes "b")) ∷ says_on 0 (ChannelData 5 (codes "b")) ∷ [])
    ∷ (hears_on 0 (ChannelWindowAdjust 0 20) ∷ Told (Adjusted 0 20) ∷ [])
    ∷ (Asked (AskEof 0) ∷ says_on 0 (ChannelEof 5) ∷ [])
    ∷ (Asked (AskReply 0 true) ∷ says_on 0 (ChannelSuccess 5) ∷ [])
    ∷ (Asked AskRekey ∷ (Sent None (KexInit (with_cookie (replicate 16 181) (proposing (codes "k1" ∷ codes "k2" ∷ codes "k3"
    ∷ []) (codes "h1" ∷ codes "h3" ∷ codes "h2" ∷ []) (codes "e2" ∷ codes "e1" ∷ []) (codes "e2" ∷ codes "e1" ∷ []) (codes "m1" ∷ codes "m3"
    ∷ codes "m2" ∷ []) (codes "m1" ∷ codes "m3" ∷ codes "m2" ∷ [])))) (codes "offer 3")) ∷ [])
    ∷ (Fed (replicate 16 219) (replicate 32 42) ∷ [])
    ∷ (hears_on 0 (ChannelEof 0) ∷ Told (Ended 0) ∷ [])
    ∷ (hears_on 2 (ChannelOpen (codes "session") 4 12 7 []) ∷ Told (Opened 2 (codes "session") 12 7 []) ∷ [])
    ∷ (hears_on 0 (ChannelRequest 0 (codes "r") true []) ∷ Told (Requested 0 (codes "r") true []) ∷ [])
    ∷ (Asked (AskReply 0 true) ∷ AskRefused AskRefusal.Busy ∷ [])
    ∷ (hears_on 0 (ChannelWindowAdjust 0 7) ∷ Told (Adjusted 0 7) ∷ [])
    ∷ (hears_on 0 (ChannelClose 0) ∷ Told (Closed 0) ∷ [])
    ∷ ((Took None (KexInit (proposing (codes "k3" ∷ codes "k1" ∷ codes "k2" ∷ []) (codes "h2" ∷ codes "h3" ∷ codes "h1" ∷ []) (codes "e2"
    ∷ codes "e1" ∷ []) (codes "e1" ∷ codes "e2" ∷ []) (codes "m3" ∷ codes "m2" ∷ codes "m1" ∷ []) (codes "m2" ∷ codes "m3"
    ∷ []))) (codes "offer 4")) ∷ [])
    ∷ (hears (KexEcdhInit (replicate 32 37)) ∷ says (KexEcdhReply (codes "key of h2") (replicate 32 70) (codes "right")) ∷ says NewKeys
    ∷ says_on 0 (ChannelClose 5) ∷ Told (Completed 2) ∷ [])
    ∷ (hears NewKeys ∷ [])
    ∷ (Asked (AskEof 2) ∷ AskRefused AskRefusal.NoChannel ∷ [])
    ∷ ((Took None (KexInit (guessing (codes "k1" ∷ []) (codes "h3" ∷ codes "h1" ∷ codes "h2" ∷ []) (codes "e2" ∷ codes "e1"
    ∷ []) (codes "e2" ∷ codes "e1" ∷ []) (codes "m3" ∷ codes "m2" ∷ codes "m1" ∷ []) (codes "m2" ∷ codes "m3" ∷ []))) (codes "offer 5"))
    ∷ (Sent None (KexInit (with_cookie (replicate 16 219) (proposing (codes "k1" ∷ codes "k2" ∷ codes "k3" ∷ []) (codes "h1" ∷ codes "h3"
    ∷ codes "h2" ∷ []) (codes "e2" ∷ codes "e1" ∷ []) (codes "e2" ∷ codes "e1" ∷ []) (codes "m1" ∷ codes "m3" ∷ codes "m2" ∷ []) (codes "m1"
    ∷ codes "m3" ∷ codes "m2" ∷ [])))) (codes "offer 6")) ∷ [])
    ∷ (TookGuess [] ∷ Told Ignored ∷ [])
    ∷ (Fed (replicate 16 135) (replicate 32 157) ∷ [])
    ∷ (hears (Unimplemented 0) ∷ Told (NotImplemented 0) ∷ [])
    ∷ ((hears (KexEcdhInit (42 ∷ 42 ∷ 42 ∷ replicate 29 154))) ∷ says (KexEcdhReply (codes "key of h3") (replicate 32 42) (codes "right"))
    ∷ says NewKeys ∷ Told (Completed 3) ∷ [])
    ∷ (Asked (AskRefuse 2 1) ∷ says_on 2 (ChannelOpenFailure 4 1 [] []) ∷ [])
    ∷ (Asked (AskOpen (codes "session") 7 32768 []) ∷ says_on 0 (ChannelOpen (codes "session") 0 7 32768 []) ∷ Told (Opening 0) ∷ [])
    ∷ (Asked (AskOpen (codes "session") 11 4 []) ∷ says_on 1 (ChannelOpen (codes "session") 1 11 4 []) ∷ Told (Opening 1) ∷ [])
    ∷ (hears (Ignore (codes "abc")) ∷ Told Ignored ∷ [])
    ∷ (hears NewKeys ∷ [])
    ∷ (Asked (AskOpen (codes "session") 4 6 []) ∷ says_on 3 (ChannelOpen (codes "session") 3 4 6 []) ∷ Told (Opening 3) ∷ [])
    ∷ (Asked AskRekey ∷ (Sent None (KexInit (with_cookie (replicate 16 135) (proposing (codes "k1" ∷ codes "k2" ∷ codes "k3"
    ∷ []) (codes "h1" ∷ codes "h3" ∷ codes "h2" ∷ []) (codes "e2" ∷ codes "e1" ∷ []) (codes "e2" ∷ codes "e1" ∷ []) (codes "m1" ∷ codes "m3"
    ∷ codes "m2" ∷ []) (codes "m1" ∷ codes "m3" ∷ codes "m2" ∷ [])))) (codes "offer 7")) ∷ [])
    ∷ (hears_on 1 (ChannelOpenConfirmation 1 4 7 7 []) ∷ Told (Confirmed 1 7 7 []) ∷ [])
    ∷ (hears_on 1 (ChannelData 1 (codes "a")) ∷ Told (GotData 1 None (codes "a")) ∷ [])
    ∷ (hears (Unknown 192) ∷ says (Unimplemented 2) ∷ [])
    ∷ (hears_on 1 (ChannelClose 1) ∷ Told (Closed 1) ∷ [])
    ∷ (hears (Unknown 255) ∷ says (Unimplemented 4) ∷ [])
    ∷ (hears (Unknown 83) ∷ says (Unimplemented 5) ∷ [])
    ∷ ((Took None (KexInit (guessing (codes "k1" ∷ codes "k2" ∷ codes "k3" ∷ []) (codes "h3" ∷ codes "h1" ∷ codes "h2" ∷ []) (codes "e2"
    ∷ codes "e1" ∷ []) (codes "e2" ∷ codes "e1" ∷ []) (codes "m3" ∷ codes "m2" ∷ codes "m1" ∷ []) (codes "m3" ∷ codes "m2"
    ∷ []))) (codes "offer 8")) ∷ [])
    ∷ (TookGuess [] ∷ Told Ignored ∷ [])
    ∷ (Asked (AskDisconnect (codes "bye")) ∷ says (Disconnect 11 (codes "bye") []) ∷ Died ∷ []) ∷ []

-- messages that might come at any moment
abbrev pub messages : List Msg
messages =
    (KexInit (guessing (codes "k2" ∷ codes "k3" ∷ codes "k1" ∷ []) (codes "h2" ∷ codes "h3" ∷ codes "h1" ∷ []) (codes "e1" ∷ codes "e2"
    ∷ []) (codes "e1" ∷ codes "e2" ∷ []) (codes "m2" ∷ codes "m3" ∷ codes "m1" ∷ []) (codes "m2" ∷ codes "m3" ∷ [])))
    ∷ (KexInit (guessing (codes "k1" ∷ codes "k2" ∷ codes "k3" ∷ []) (codes "h1" ∷ codes "h3" ∷ codes "h2" ∷ []) (codes "e1" ∷ codes "e2"
    ∷ []) (codes "e1" ∷ codes "e2" ∷ []) (codes "m3" ∷ codes "m1" ∷ []) (codes "m3" ∷ codes "m1" ∷ [])))
    ∷ (ChannelData 3 (codes "aaaa"))
    ∷ (ChannelData 2 [])
    ∷ (ChannelWindowAdjust 0 4294967295)
    ∷ (KexEcdhInit (replicate 32 70))
    ∷ (KexEcdhInit (replicate 32 87))
    ∷ (KexEcdhInit (replicate 33 161))
    ∷ (UserauthRequest (codes "guest") (codes "ssh-connection") (Password (codes "p") None))
    ∷ (UserauthRequest (codes "guest") (codes "ssh-connection") NoMethod)
    ∷ (UserauthRequest (codes "guest") (codes "ssh-connection") (Publickey (codes "alg") (codes "k") (Some (codes "right"))))
    ∷ (ChannelSuccess 3)
    ∷ (Ignore (codes "abc"))
    ∷ (GlobalRequest (codes "g") true (codes "a"))
    ∷ (RequestSuccess (codes "a"))
    ∷ (ChannelEof 2)
    ∷ (Debug true (codes "abc") []) ∷ []

-- asks that might come at any moment
abbrev pub asks : List Ask
asks =
    (AskData 2 (Some 1) [])
    ∷ (AskData 0 None (codes "b"))
    ∷ (AskConfirm 2 7 6 [])
    ∷ (AskAdjust 2 4294967288)
    ∷ (AskClose 1)
    ∷ (AskReply 1 false)
    ∷ (AskRekey)
    ∷ (AskRequest 2 (codes "r") true [])
    ∷ (AskEof 0) ∷ []

-- numbers that might come at any moment
abbrev pub numbers : List ℕ
numbers =
    5 ∷ 19 ∷ 31 ∷ 32 ∷ 49 ∷ 50 ∷ 54 ∷ 61 ∷ 80 ∷ 82 ∷ 89 ∷ 192 ∷ []

-- the text that is hashed in this exchange
abbrev pub text_0 : List ℕ
text_0 =
    0 ∷ 0 ∷ 0 ∷ 12 ∷ codes "SSH-2.0-peer" ++ 0 ∷ 0 ∷ 0 ∷ 9 ∷ codes "SSH-2.0-s" ++ 0 ∷ 0 ∷ 0 ∷ 7 ∷ codes "offer 2" ++ 0 ∷ 0 ∷ 0 ∷ 7
    ∷ codes "offer 1" ++ 0 ∷ 0 ∷ 0 ∷ 9 ∷ codes "key of h3" ++ 0 ∷ 0 ∷ 0 ∷ 32 ∷ 184 ∷ 184 ∷ 184 ∷ replicate 29 144 ++ 0 ∷ 0 ∷ 0 ∷ 32
    ∷ replicate 32 184 ++ mpint_of 0x2828282828282828282828282828282828282828282828282828282828

-- the text that is hashed in this exchange
abbrev pub text_1 : List ℕ
text_1 =
    0 ∷ 0 ∷ 0 ∷ 12 ∷ codes "SSH-2.0-peer" ++ 0 ∷ 0 ∷ 0 ∷ 9 ∷ codes "SSH-2.0-s" ++ 0 ∷ 0 ∷ 0 ∷ 7 ∷ codes "offer 4" ++ 0 ∷ 0 ∷ 0 ∷ 7
    ∷ codes "offer 3" ++ 0 ∷ 0 ∷ 0 ∷ 9 ∷ codes "key of h2" ++ 0 ∷ 0 ∷ 0 ∷ 32 ∷ replicate 32 37 ++ 0 ∷ 0 ∷ 0
    ∷ codes " FFFFFFFFFFFFFFFFFFFFFFFFFFFFFFFF" ++ mpint_of 0x6363636363636363636363636363636363636363636363636363636363636363

-- the text that is hashed in this exchange
abbrev pub text_2 : List ℕ
text_2 =
    0 ∷ 0 ∷ 0 ∷ 12 ∷ codes "SSH-2.0-peer" ++ 0 ∷ 0 ∷ 0 ∷ 9 ∷ codes "SSH-2.0-s" ++ 0 ∷ 0 ∷ 0 ∷ 7 ∷ codes "offer 5" ++ 0 ∷ 0 ∷ 0 ∷ 7
    ∷ codes "offer 6" ++ 0 ∷ 0 ∷ 0 ∷ 9 ∷ codes "key of h3" ++ 0 ∷ 0 ∷ 0 ∷ 32 ∷ 42 ∷ 42 ∷ 42 ∷ replicate 29 154 ++ 0 ∷ 0 ∷ 0 ∷ 32
    ∷ replicate 32 42 ++ mpint_of 0xb0b0b0b0b0b0b0b0b0b0b0b0b0b0b0b0b0b0b0b0b0b0b0b0b0b0b0b0b0
