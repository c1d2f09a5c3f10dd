-- A drawn session of a server, written by tools/second_reading.
use Rattle.ssh_model.specs.Protocol.Sessions.Parties.{Parties}
use Rattle.std.specs.Prelude.{List, ℕ, codes, ◌∷◌, [], false, replicate, None, ◌++◌, Some, true}
use Rattle.test_histories.specs.Words.{ends_of, with_cookie, proposing, hears, says, hears_on, says_on}
use Rattle.ssh_model.specs.declared.side.Side.TheVariants.{Server}
use Rattle.ssh_model.specs.declared.strictness.Strictness.TheVariants.{Require}
use Rattle.ssh_model.specs.Protocol.Sessions.Items.{Item, Item.Fed, Item.SentLine, Item.Sent, Item.TookLine, Item.Took}
use Rattle.ssh_model.specs.Protocol.Sessions.Items.{Item.Told, Fact.Completed, Fact.Accepted, Credential.ByKey, Fact.Opened}
use Rattle.ssh_model.specs.Protocol.Sessions.Items.{Fact.Ignored, Item.Asked, Ask.AskConfirm, Ask.AskData, Fact.Requested}
use Rattle.ssh_model.specs.Protocol.Sessions.Items.{Fact.GotData, Fact.Adjusted, Fact.Closed, Ask.AskOpen, Fact.Opening}
use Rattle.ssh_model.specs.Protocol.Sessions.Items.{Ask.AskGlobal, Ask.AskRekey, Fact.Confirmed, Ask.AskClose}
use Rattle.ssh_model.specs.Protocol.Sessions.Items.{Fact.GlobalDone, Ask.AskEof, Item.AskRefused, Fact.Disconnected}
use Rattle.ssh_model.specs.Protocol.Sessions.Items.{Item.Died, Ask, Ask.AskRequest, Ask.AskPassword, Ask.AskGlobalReply}
use Rattle.ssh_model.specs.Protocol.Wire.Message.{Msg.KexInit, Msg.KexEcdhInit, Msg.KexEcdhReply, Msg.NewKeys, Msg.ExtInfo}
use Rattle.ssh_model.specs.Protocol.Wire.Message.{Msg.Unknown, Msg.Unimplemented, Msg.ServiceRequest, Msg.ServiceAccept}
use Rattle.ssh_model.specs.Protocol.Wire.Message.{Msg.UserauthRequest, Method.Publickey, Msg.UserauthSuccess}
use Rattle.ssh_model.specs.Protocol.Wire.Message.{Msg.ChannelOpen, Method.Password, Msg.ChannelOpenConfirmation}
use Rattle.ssh_model.specs.Protocol.Wire.Message.{Msg.ChannelExtendedData, Msg.ChannelRequest, Msg.ChannelData}
use Rattle.ssh_model.specs.Protocol.Wire.Message.{Msg.ChannelWindowAdjust, Msg.ChannelClose, Msg.GlobalRequest}
use Rattle.ssh_model.specs.Protocol.Wire.Message.{Msg.RequestSuccess, Msg.Disconnect, Msg, Msg.Ignore, Msg.RequestFailure}
use Rattle.ssh_model.specs.declared.ask_refusal.AskRefusal.{AskRefusal}
use Rattle.ssh_model.specs.Protocol.KeyExchange.Exchange.{mpint_of}

-- the ends, of which the server has drawn settings
abbrev pub ends : Parties (List ℕ)
ends = ends_of Server (record {
  line = codes "SSH-2.0-s";
  kex = codes "k3" ∷ codes "k1" ∷ codes "k2" ∷ [];
  host = codes "h3" ∷ codes "h2" ∷ codes "h1" ∷ [];
  encryption = codes "e2" ∷ codes "e1" ∷ [];
  mac = codes "m2" ∷ codes "m1" ∷ codes "m3" ∷ [];
  epoch_limit = 9;
  tries = 0;
  methods = codes "publickey" ∷ codes "password" ∷ [];
  strictness = Require;
  takes_extensions = false;
  extensions = record { name = codes "x"; value = codes "y" } ∷ [];
})

-- the turns
abbrev pub turns : List (List Item)
turns =
    (Fed (replicate 16 68) (replicate 32 110) ∷ SentLine (codes "SSH-2.0-s")
    ∷ (Sent None (KexInit (with_cookie (replicate 16 68) (proposing (codes "k3" ∷ codes "k1" ∷ codes "k2"
    ∷ codes "kex-strict-s-v00@openssh.com" ∷ []) (codes "h3" ∷ codes "h2" ∷ codes "h1" ∷ []) (codes "e2" ∷ codes "e1" ∷ []) (codes "e2"
    ∷ codes "e1" ∷ []) (codes "m2" ∷ codes "m1" ∷ codes "m3" ∷ []) (codes "m2" ∷ codes "m1" ∷ codes "m3" ∷ [])))) (codes "offer 1")) ∷ [])
    ∷ (TookLine (codes "SSH-2.0-peer") ∷ [])
    ∷ ((Took None (KexInit (proposing (codes "k1" ∷ codes "k2" ∷ codes "k3" ∷ codes "kex-strict-c-v00@openssh.com" ∷ codes "ext-info-c"
    ∷ []) (codes "h2" ∷ codes "h3" ∷ codes "h1" ∷ []) (codes "e1" ∷ codes "e2" ∷ []) (codes "e1" ∷ codes "e2" ∷ []) (codes "m2" ∷ codes "m3"
    ∷ codes "m1" ∷ []) (codes "m1" ∷ codes "m3" ∷ []))) (codes "offer 2")) ∷ [])
    ∷ ((hears (KexEcdhInit (codes "nnn" ++ replicate 29 226))) ∷ says (KexEcdhReply (codes "key of h2") (replicate 32 110) (codes "right"))
    ∷ says NewKeys ∷ (says (ExtInfo (record { name = codes "x"; value = codes "y" } ∷ []))) ∷ Told (Completed 1) ∷ [])
    ∷ (hears NewKeys ∷ [])
    ∷ (hears (Unknown 22) ∷ says (Unimplemented 0) ∷ [])
    ∷ (hears (ServiceRequest (codes "ssh-userauth")) ∷ says (ServiceAccept (codes "ssh-userauth")) ∷ [])
    ∷ (hears (UserauthRequest (codes "u") (codes "ssh-connection") (Publickey (codes "alg") (codes "k") (Some (codes "right"))))
    ∷ says UserauthSuccess ∷ Told (Accepted (codes "u") (ByKey (codes "alg") (codes "k"))) ∷ [])
    ∷ (hears (Unknown 49) ∷ says (Unimplemented 3) ∷ [])
    ∷ (hears_on 0 (ChannelOpen (codes "session") 7 5 6 []) ∷ Told (Opened 0 (codes "session") 5 6 []) ∷ [])
    ∷ (hears (UserauthRequest (codes "u") (codes "ssh-connection") (Password (codes "p") (Some (codes "q")))) ∷ Told Ignored ∷ [])
    ∷ (Asked (AskConfirm 0 10 8 []) ∷ says_on 0 (ChannelOpenConfirmation 7 0 10 8 []) ∷ [])
    ∷ (Asked (AskData 0 (Some 1) (codes "b")) ∷ says_on 0 (ChannelExtendedData 7 1 (codes "b")) ∷ [])
    ∷ (hears_on 0 (ChannelRequest 0 (codes "r") true (codes "a")) ∷ Told (Requested 0 (codes "r") true (codes "a")) ∷ [])
    ∷ (hears_on 0 (ChannelData 0 (codes "aaaaaa")) ∷ Told (GotData 0 None (codes "aaaaaa")) ∷ [])
    ∷ (hears_on 0 (ChannelWindowAdjust 0 1) ∷ Told (Adjusted 0 1) ∷ [])
    ∷ (hears_on 0 (ChannelClose 0) ∷ says_on 0 (ChannelClose 7) ∷ Told (Closed 0) ∷ [])
    ∷ (Fed (replicate 16 206) (replicate 32 144) ∷ [])
    ∷ (hears (Unknown 255) ∷ says (Unimplemented 10) ∷ [])
    ∷ ((Took None (KexInit (proposing (codes "k2" ∷ codes "k1" ∷ codes "k3" ∷ []) (codes "h3" ∷ []) (codes "e2" ∷ codes "e1"
    ∷ []) (codes "e2" ∷ codes "e1" ∷ []) (codes "m1" ∷ codes "m3" ∷ []) (codes "m2" ∷ codes "m1" ∷ codes "m3" ∷ []))) (codes "offer 3"))
    ∷ (Sent None (KexInit (with_cookie (replicate 16 206) (proposing (codes "k3" ∷ codes "k1" ∷ codes "k2" ∷ []) (codes "h3" ∷ codes "h2"
    ∷ codes "h1" ∷ []) (codes "e2" ∷ codes "e1" ∷ []) (codes "e2" ∷ codes "e1" ∷ []) (codes "m2" ∷ codes "m1" ∷ codes "m3" ∷ []) (codes "m2"
    ∷ codes "m1" ∷ codes "m3" ∷ [])))) (codes "offer 4")) ∷ [])
    ∷ (Fed (replicate 16 186) (replicate 32 235) ∷ [])
    ∷ ((hears (KexEcdhInit (144 ∷ 144 ∷ 144 ∷ replicate 29 49)))
    ∷ says (KexEcdhReply (codes "key of h3") (replicate 32 144) (codes "right")) ∷ says NewKeys ∷ Told (Completed 2) ∷ [])
    ∷ (Asked (AskOpen (codes "session") 8 32768 []) ∷ says_on 1 (ChannelOpen (codes "session") 1 8 32768 []) ∷ Told (Opening 1) ∷ [])
    ∷ (Asked (AskGlobal (codes "g") true []) ∷ says (GlobalRequest (codes "g") true []) ∷ [])
    ∷ (Asked (AskGlobal (codes "g") false []) ∷ says (GlobalRequest (codes "g") false []) ∷ [])
    ∷ (hears NewKeys ∷ [])
    ∷ ((Took None (KexInit (proposing (codes "k2" ∷ codes "k3" ∷ codes "k1" ∷ []) (codes "h3" ∷ codes "h1" ∷ codes "h2" ∷ []) (codes "e1"
    ∷ codes "e2" ∷ []) (codes "e1" ∷ codes "e2" ∷ []) (codes "m3" ∷ codes "m1" ∷ []) (codes "m1" ∷ codes "m2" ∷ []))) (codes "offer 5"))
    ∷ (Sent None (KexInit (with_cookie (replicate 16 186) (proposing (codes "k3" ∷ codes "k1" ∷ codes "k2" ∷ []) (codes "h3" ∷ codes "h2"
    ∷ codes "h1" ∷ []) (codes "e2" ∷ codes "e1" ∷ []) (codes "e2" ∷ codes "e1" ∷ []) (codes "m2" ∷ codes "m1" ∷ codes "m3" ∷ []) (codes "m2"
    ∷ codes "m1" ∷ codes "m3" ∷ [])))) (codes "offer 6")) ∷ [])
    ∷ ((hears (KexEcdhInit (235 ∷ 235 ∷ 235 ∷ replicate 29 8))) ∷ says (KexEcdhReply (codes "key of h3") (replicate 32 235) (codes "right"))
    ∷ says NewKeys ∷ Told (Completed 3) ∷ [])
    ∷ (Fed (replicate 16 153) (replicate 32 174) ∷ [])
    ∷ (hears NewKeys ∷ [])
    ∷ (Asked (AskOpen (codes "session") 7 4 []) ∷ says_on 0 (ChannelOpen (codes "session") 0 7 4 []) ∷ Told (Opening 0) ∷ [])
    ∷ (Asked AskRekey ∷ (Sent None (KexInit (with_cookie (replicate 16 153) (proposing (codes "k3" ∷ codes "k1" ∷ codes "k2"
    ∷ []) (codes "h3" ∷ codes "h2" ∷ codes "h1" ∷ []) (codes "e2" ∷ codes "e1" ∷ []) (codes "e2" ∷ codes "e1" ∷ []) (codes "m2" ∷ codes "m1"
    ∷ codes "m3" ∷ []) (codes "m2" ∷ codes "m1" ∷ codes "m3" ∷ [])))) (codes "offer 7")) ∷ [])
    ∷ (hears_on 3 (ChannelOpen (codes "session") 1 10 4 []) ∷ Told (Opened 3 (codes "session") 10 4 []) ∷ [])
    ∷ (hears_on 1 (ChannelOpenConfirmation 1 6 7 6 []) ∷ Told (Confirmed 1 7 6 []) ∷ [])
    ∷ (hears_on 1 (ChannelClose 1) ∷ Told (Closed 1) ∷ [])
    ∷ (hears_on 0 (ChannelOpenConfirmation 0 8 8 8 []) ∷ Told (Confirmed 0 8 8 []) ∷ [])
    ∷ (hears_on 0 (ChannelClose 0) ∷ Told (Closed 0) ∷ [])
    ∷ ((Took None (KexInit (proposing (codes "k3" ∷ codes "k2" ∷ codes "k1" ∷ []) (codes "h1" ∷ codes "h2" ∷ codes "h3" ∷ []) (codes "e2"
    ∷ codes "e1" ∷ []) (codes "e2" ∷ codes "e1" ∷ []) (codes "m1" ∷ codes "m3" ∷ []) (codes "m2" ∷ codes "m1" ∷ codes "m3"
    ∷ []))) (codes "offer 8")) ∷ [])
    ∷ ((hears (KexEcdhInit (174 ∷ 174 ∷ 174 ∷ replicate 29 95)))
    ∷ says (KexEcdhReply (codes "key of h1") (replicate 32 174) (codes "right")) ∷ says NewKeys ∷ says_on 1 (ChannelClose 6)
    ∷ says_on 0 (ChannelClose 8) ∷ Told (Completed 4) ∷ [])
    ∷ (Asked (AskConfirm 3 8 32768 []) ∷ says_on 3 (ChannelOpenConfirmation 1 3 8 32768 []) ∷ [])
    ∷ (Asked (AskData 3 None (codes "b")) ∷ says_on 3 (ChannelData 1 (codes "b")) ∷ [])
    ∷ (hears NewKeys ∷ [])
    ∷ (Asked (AskOpen (codes "session") 10 8 []) ∷ says_on 0 (ChannelOpen (codes "session") 0 10 8 []) ∷ Told (Opening 0) ∷ [])
    ∷ (hears_on 1 (ChannelOpen (codes "session") 0 9 7 []) ∷ Told (Opened 1 (codes "session") 9 7 []) ∷ [])
    ∷ (Asked (AskClose 3) ∷ says_on 3 (ChannelClose 1) ∷ [])
    ∷ (Asked (AskGlobal (codes "g") true []) ∷ says (GlobalRequest (codes "g") true []) ∷ [])
    ∷ (Asked (AskGlobal (codes "g") false []) ∷ says (GlobalRequest (codes "g") false []) ∷ [])
    ∷ (hears_on 0 (ChannelOpenConfirmation 0 0 10 8 []) ∷ Told (Confirmed 0 10 8 []) ∷ [])
    ∷ (Fed (replicate 16 200) (replicate 32 116) ∷ [])
    ∷ (hears_on 3 (ChannelWindowAdjust 3 1) ∷ Told (Adjusted 3 1) ∷ [])
    ∷ (hears (RequestSuccess (codes "a")) ∷ Told (GlobalDone true (codes "a")) ∷ [])
    ∷ (Asked (AskEof 1) ∷ AskRefused AskRefusal.NoChannel ∷ [])
    ∷ (hears_on 3 (ChannelClose 3) ∷ Told (Closed 3) ∷ [])
    ∷ (Asked (AskClose 0) ∷ says_on 0 (ChannelClose 0) ∷ [])
    ∷ ((Took None (KexInit (proposing (codes "k3" ∷ codes "k1" ∷ codes "k2" ∷ []) (codes "h1" ∷ codes "h2" ∷ codes "h3" ∷ []) (codes "e1"
    ∷ codes "e2" ∷ []) (codes "e2" ∷ codes "e1" ∷ []) (codes "m2" ∷ codes "m1" ∷ codes "m3" ∷ []) (codes "m1" ∷ codes "m2" ∷ codes "m3"
    ∷ []))) (codes "offer 9")) ∷ (Sent None (KexInit (with_cookie (replicate 16 200) (proposing (codes "k3" ∷ codes "k1" ∷ codes "k2"
    ∷ []) (codes "h3" ∷ codes "h2" ∷ codes "h1" ∷ []) (codes "e2" ∷ codes "e1" ∷ []) (codes "e2" ∷ codes "e1" ∷ []) (codes "m2" ∷ codes "m1"
    ∷ codes "m3" ∷ []) (codes "m2" ∷ codes "m1" ∷ codes "m3" ∷ [])))) (codes "offer 10")) ∷ [])
    ∷ (hears (Disconnect 11 (codes "a") []) ∷ Told (Disconnected 11 (codes "a")) ∷ Died ∷ []) ∷ []

-- messages that might come at any moment
abbrev pub messages : List Msg
messages =
    (KexInit (proposing (codes "k1" ∷ codes "k2" ∷ codes "k3" ∷ []) (codes "h3" ∷ codes "h2" ∷ codes "h1" ∷ []) (codes "e1" ∷ codes "e2"
    ∷ []) (codes "e2" ∷ codes "e1" ∷ []) (codes "m3" ∷ codes "m1" ∷ []) (codes "m1" ∷ codes "m2" ∷ codes "m3" ∷ [])))
    ∷ (KexInit (proposing (codes "k3" ∷ codes "k1" ∷ codes "k2" ∷ []) (codes "h1" ∷ codes "h3" ∷ codes "h2" ∷ []) (codes "e2" ∷ codes "e1"
    ∷ []) (codes "e1" ∷ codes "e2" ∷ []) (codes "m1" ∷ codes "m2" ∷ codes "m3" ∷ []) (codes "m3" ∷ codes "m2" ∷ [])))
    ∷ (ChannelData 0 (codes "a"))
    ∷ (ChannelData 0 (codes "a"))
    ∷ (ChannelWindowAdjust 0 20)
    ∷ (KexEcdhInit (replicate 32 235))
    ∷ (KexEcdhInit (replicate 32 101))
    ∷ (KexEcdhInit (replicate 33 19))
    ∷ (UserauthRequest (codes "u") (codes "ssh-connection") (Password (codes "p") None))
    ∷ (UserauthRequest (codes "u") (codes "ssh-connection") (Publickey (codes "alg") (codes "k") None))
    ∷ (UserauthRequest (codes "guest") (codes "ssh-userauth") (Password (codes "p") None))
    ∷ (ChannelOpen (codes "session") 0 7 5 [])
    ∷ (ExtInfo (record { name = codes "x"; value = [] } ∷ []))
    ∷ (Ignore [])
    ∷ (RequestSuccess (codes "abc"))
    ∷ (RequestFailure)
    ∷ (ChannelExtendedData 0 1 (codes "a")) ∷ []

-- asks that might come at any moment
abbrev pub asks : List Ask
asks =
    (AskData 1 None (codes "bbbb"))
    ∷ (AskData 0 (Some 1) (codes "b"))
    ∷ (AskEof 2)
    ∷ (AskRequest 0 (codes "r") true [])
    ∷ (AskOpen (codes "session") 7 4 [])
    ∷ (AskConfirm 3 12 4 [])
    ∷ (AskClose 0)
    ∷ (AskPassword (codes "u") (codes "q"))
    ∷ (AskGlobalReply false []) ∷ []

-- numbers that might come at any moment
abbrev pub numbers : List ℕ
numbers =
    2 ∷ 4 ∷ 6 ∷ 31 ∷ 50 ∷ 51 ∷ 53 ∷ 61 ∷ 82 ∷ 90 ∷ 100 ∷ 101 ∷ []

-- the text that is hashed in this exchange
abbrev pub text_0 : List ℕ
text_0 =
    0 ∷ 0 ∷ 0 ∷ 12 ∷ codes "SSH-2.0-peer" ++ 0 ∷ 0 ∷ 0 ∷ 9 ∷ codes "SSH-2.0-s" ++ 0 ∷ 0 ∷ 0 ∷ 7 ∷ codes "offer 2" ++ 0 ∷ 0 ∷ 0 ∷ 7
    ∷ codes "offer 1" ++ 0 ∷ 0 ∷ 0 ∷ 9 ∷ codes "key of h2" ++ 0 ∷ 0 ∷ 0 ∷ codes " nnn" ++ replicate 29 226 ++ 0 ∷ 0 ∷ 0
    ∷ codes " nnnnnnnnnnnnnnnnnnnnnnnnnnnnnnnn" ++ mpint_of 0x8c8c8c8c8c8c8c8c8c8c8c8c8c8c8c8c8c8c8c8c8c8c8c8c8c8c8c8c8c

-- the text that is hashed in this exchange
abbrev pub text_1 : List ℕ
text_1 =
    0 ∷ 0 ∷ 0 ∷ 12 ∷ codes "SSH-2.0-peer" ++ 0 ∷ 0 ∷ 0 ∷ 9 ∷ codes "SSH-2.0-s" ++ 0 ∷ 0 ∷ 0 ∷ 7 ∷ codes "offer 3" ++ 0 ∷ 0 ∷ 0 ∷ 7
    ∷ codes "offer 4" ++ 0 ∷ 0 ∷ 0 ∷ 9 ∷ codes "key of h3" ++ 0 ∷ 0 ∷ 0 ∷ 32 ∷ 144 ∷ 144 ∷ 144 ∷ replicate 29 49 ++ 0 ∷ 0 ∷ 0 ∷ 32
    ∷ replicate 32 144 ++ mpint_of 0xa1a1a1a1a1a1a1a1a1a1a1a1a1a1a1a1a1a1a1a1a1a1a1a1a1a1a1a1a1

-- the text that is hashed in this exchange
abbrev pub text_2 : List ℕ
text_2 =
    0 ∷ 0 ∷ 0 ∷ 12 ∷ codes "SSH-2.0-peer" ++ 0 ∷ 0 ∷ 0 ∷ 9 ∷ codes "SSH-2.0-s" ++ 0 ∷ 0 ∷ 0 ∷ 7 ∷ codes "offer 5" ++ 0 ∷ 0 ∷ 0 ∷ 7
    ∷ codes "offer 6" ++ 0 ∷ 0 ∷ 0 ∷ 9 ∷ codes "key of h3" ++ 0 ∷ 0 ∷ 0 ∷ 32 ∷ 235 ∷ 235 ∷ 235 ∷ replicate 29 8 ++ 0 ∷ 0 ∷ 0 ∷ 32
    ∷ replicate 32 235 ++ mpint_of 0xe3e3e3e3e3e3e3e3e3e3e3e3e3e3e3e3e3e3e3e3e3e3e3e3e3e3e3e3e3

-- the text that is hashed in this exchange
abbrev pub text_3 : List ℕ
text_3 =
    0 ∷ 0 ∷ 0 ∷ 12 ∷ codes "SSH-2.0-peer" ++ 0 ∷ 0 ∷ 0 ∷ 9 ∷ codes "SSH-2.0-s" ++ 0 ∷ 0 ∷ 0 ∷ 7 ∷ codes "offer 8" ++ 0 ∷ 0 ∷ 0 ∷ 7
    ∷ codes "offer 7" ++ 0 ∷ 0 ∷ 0 ∷ 9 ∷ codes "key of h1" ++ 0 ∷ 0 ∷ 0 ∷ 32 ∷ 174 ∷ 174 ∷ 174 ∷ replicate 29 95 ++ 0 ∷ 0 ∷ 0 ∷ 32
    ∷ replicate 32 174 ++ mpint_of 0xf1f1f1f1f1f1f1f1f1f1f1f1f1f1f1f1f1f1f1f1f1f1f1f1f1f1f1f1f1
