-- A drawn session of a client, written by tools/second_reading.
use Rattle.ssh_model.specs.Protocol.Sessions.Parties.{Parties}
use Rattle.std.specs.Prelude.{List, ℕ, codes, ◌∷◌, [], false, replicate, None, Some, true, ◌++◌}
use Rattle.test_histories.specs.Words.{ends_of, with_cookie, proposing, says, hears, hears_on, says_on}
use Rattle.ssh_model.specs.declared.side.Side.TheVariants.{Client}
use Rattle.ssh_model.specs.declared.strictness.Strictness.TheVariants.{Require}
use Rattle.ssh_model.specs.Protocol.Sessions.Items.{Item, Item.Fed, Item.SentLine, Item.Sent, Item.TookLine, Item.Took}
use Rattle.ssh_model.specs.Protocol.Sessions.Items.{Item.Asked, Ask.AskSign, Item.AskRefused, Item.Told, Fact.Completed}
use Rattle.ssh_model.specs.Protocol.Sessions.Items.{Ask.AskService, Fact.Service, Fact.Failed, Ask.AskPassword}
use Rattle.ssh_model.specs.Protocol.Sessions.Items.{Fact.Authenticated, Fact.Opened, Ask.AskGlobal, Fact.Ignored}
use Rattle.ssh_model.specs.Protocol.Sessions.Items.{Fact.GlobalDone, Fact.Global, Ask.AskConfirm, Fact.GotData, Ask.AskRekey}
use Rattle.ssh_model.specs.Protocol.Sessions.Items.{Ask.AskAdjust, Ask.AskData, Fact.Adjusted, Fact.Requested}
use Rattle.ssh_model.specs.Protocol.Sessions.Items.{Fact.NotImplemented, Ask.AskRequest, Ask, Ask.AskGlobalReply}
use Rattle.ssh_model.specs.Protocol.Sessions.Items.{Ask.AskRefuse, Ask.AskProbe, Ask.AskOpen}
use Rattle.ssh_model.specs.Protocol.Wire.Message.{Msg.KexInit, Msg.KexEcdhInit, Msg.KexEcdhReply, Msg.NewKeys, Msg.ExtInfo}
use Rattle.ssh_model.specs.Protocol.Wire.Message.{Msg.ServiceRequest, Msg.ServiceAccept, Msg.UserauthRequest}
use Rattle.ssh_model.specs.Protocol.Wire.Message.{Method.Publickey, Msg.UserauthFailure, Method.Password}
use Rattle.ssh_model.specs.Protocol.Wire.Message.{Msg.UserauthSuccess, Msg.ChannelOpen, Msg.GlobalRequest, Msg.Ignore}
use Rattle.ssh_model.specs.Protocol.Wire.Message.{Msg.RequestFailure, Msg.ChannelOpenConfirmation, Msg.ChannelData}
use Rattle.ssh_model.specs.Protocol.Wire.Message.{Msg.RequestSuccess, Msg.ChannelWindowAdjust, Msg.ChannelRequest}
use Rattle.ssh_model.specs.Protocol.Wire.Message.{Msg.Unimplemented, Msg, Msg.ChannelOpenFailure, Msg.ChannelExtendedData}
use Rattle.ssh_model.specs.declared.ask_refusal.AskRefusal.{AskRefusal}
use Rattle.ssh_model.specs.declared.request_kind.RequestKind.TheVariants as kind
use Rattle.ssh_model.specs.Protocol.KeyExchange.Exchange.{mpint_of}

-- the ends, of which the client has drawn settings
abbrev pub ends : Parties (List ℕ)
ends = ends_of Client (record {
  line = codes "SSH-2.0-c";
  kex = codes "k3" ∷ codes "k2" ∷ codes "k1" ∷ [];
  host = codes "h1" ∷ [];
  encryption = codes "e2" ∷ [];
  mac = codes "m3" ∷ codes "m1" ∷ [];
  epoch_limit = 11;
  tries = 0;
  methods = codes "publickey" ∷ codes "password" ∷ [];
  strictness = Require;
  takes_extensions = false;
  extensions = record { name = codes "x"; value = codes "y" } ∷ [];
})

-- the turns
abbrev pub turns : List (List Item)
turns =
    (Fed (replicate 16 161) (replicate 32 27) ∷ SentLine (codes "SSH-2.0-c")
    ∷ (Sent None (KexInit (with_cookie (replicate 16 161) (proposing (codes "k3" ∷ codes "k2" ∷ codes "k1"
    ∷ codes "kex-strict-c-v00@openssh.com" ∷ []) (codes "h1" ∷ []) (codes "e2" ∷ []) (codes "e2" ∷ []) (codes "m3" ∷ codes "m1"
    ∷ []) (codes "m3" ∷ codes "m1" ∷ [])))) (codes "offer 1")) ∷ [])
    ∷ (TookLine (codes "SSH-2.0-peer") ∷ [])
    ∷ ((Took None (KexInit (proposing (codes "kex-strict-s-v00@openssh.com" ∷ codes "ext-info-s" ∷ codes "k2" ∷ codes "k3" ∷ codes "k1"
    ∷ []) (codes "h1" ∷ []) (codes "e2" ∷ codes "e1" ∷ []) (codes "e2" ∷ codes "e1" ∷ []) (codes "m1" ∷ codes "m3" ∷ []) (codes "m1"
    ∷ codes "m3" ∷ []))) (codes "offer 2")) ∷ says (KexEcdhInit (replicate 32 27)) ∷ [])
    ∷ (Asked (AskSign (codes "u") (codes "alg") (codes "k")) ∷ AskRefused AskRefusal.NotYet ∷ [])
    ∷ ((hears (KexEcdhReply (codes "key of h1") (27 ∷ 27 ∷ 27 ∷ replicate 29 133) (codes "right"))) ∷ says NewKeys
    ∷ (says (ExtInfo (record { name = codes "x"; value = codes "y" } ∷ []))) ∷ Told (Completed 1) ∷ [])
    ∷ (hears NewKeys ∷ [])
    ∷ (Asked AskService ∷ says (ServiceRequest (codes "ssh-userauth")) ∷ [])
    ∷ (hears (ServiceAccept (codes "ssh-userauth")) ∷ Told Service ∷ [])
    ∷ (Asked (AskSign (codes "u") (codes "alg") (codes "k"))
    ∷ says (UserauthRequest (codes "u") (codes "ssh-connection") (Publickey (codes "alg") (codes "k") (Some (codes "right")))) ∷ [])
    ∷ ((hears (UserauthFailure (codes "password" ∷ []) false)) ∷ (Told (Failed (codes "password" ∷ []) false)) ∷ [])
    ∷ (Asked (AskPassword (codes "u") (codes "p")) ∷ says (UserauthRequest (codes "u") (codes "ssh-connection") (Password (codes "p") None))
    ∷ [])
    ∷ (Asked AskService ∷ AskRefused AskRefusal.Busy ∷ [])
    ∷ (hears UserauthSuccess ∷ Told (Authenticated kind.Password) ∷ [])
    ∷ (hears_on 0 (ChannelOpen (codes "session") 3 8 5 []) ∷ Told (Opened 0 (codes "session") 8 5 []) ∷ [])
    ∷ (Asked (AskGlobal (codes "g") true []) ∷ says (GlobalRequest (codes "g") true []) ∷ [])
    ∷ (hears (Ignore (codes "abc")) ∷ Told Ignored ∷ [])
    ∷ (hears_on 1 (ChannelOpen (codes "session") 7 8 7 []) ∷ Told (Opened 1 (codes "session") 8 7 []) ∷ [])
    ∷ (hears_on 2 (ChannelOpen (codes "session") 9 7 5 []) ∷ Told (Opened 2 (codes "session") 7 5 []) ∷ [])
    ∷ (hears RequestFailure ∷ Told (GlobalDone false []) ∷ [])
    ∷ (hears (GlobalRequest (codes "g") false (codes "a")) ∷ Told (Global (codes "g") false (codes "a")) ∷ [])
    ∷ (Asked (AskGlobal (codes "g") true []) ∷ says (GlobalRequest (codes "g") true []) ∷ [])
    ∷ (Fed (replicate 16 38) (replicate 32 179) ∷ [])
    ∷ ((Took None (KexInit (proposing (codes "k3" ∷ codes "k2" ∷ codes "k1" ∷ []) (codes "h1" ∷ []) (codes "e2" ∷ codes "e1"
    ∷ []) (codes "e2" ∷ codes "e1" ∷ []) (codes "m2" ∷ codes "m3" ∷ codes "m1" ∷ []) (codes "m3" ∷ codes "m1" ∷ []))) (codes "offer 3"))
    ∷ (Sent None (KexInit (with_cookie (replicate 16 38) (proposing (codes "k3" ∷ codes "k2" ∷ codes "k1" ∷ []) (codes "h1"
    ∷ []) (codes "e2" ∷ []) (codes "e2" ∷ []) (codes "m3" ∷ codes "m1" ∷ []) (codes "m3" ∷ codes "m1" ∷ [])))) (codes "offer 4"))
    ∷ says (KexEcdhInit (replicate 32 179)) ∷ [])
    ∷ (hears (KexEcdhReply (codes "key of h1") (replicate 32 53) (codes "right")) ∷ says NewKeys ∷ Told (Completed 2) ∷ [])
    ∷ (Asked (AskConfirm 2 4 4 []) ∷ says_on 2 (ChannelOpenConfirmation 9 2 4 4 []) ∷ [])
    ∷ (hears NewKeys ∷ [])
    ∷ (hears_on 2 (ChannelData 2 []) ∷ Told (GotData 2 None []) ∷ [])
    ∷ (Asked (AskConfirm 2 4 0 []) ∷ AskRefused AskRefusal.NoChannel ∷ [])
    ∷ (hears (RequestSuccess (codes "a")) ∷ Told (GlobalDone true (codes "a")) ∷ [])
    ∷ (Fed (replicate 16 221) (replicate 32 129) ∷ [])
    ∷ (Asked AskRekey ∷ (Sent None (KexInit (with_cookie (replicate 16 221) (proposing (codes "k3" ∷ codes "k2" ∷ codes "k1"
    ∷ []) (codes "h1" ∷ []) (codes "e2" ∷ []) (codes "e2" ∷ []) (codes "m3" ∷ codes "m1" ∷ []) (codes "m3" ∷ codes "m1"
    ∷ [])))) (codes "offer 5")) ∷ [])
    ∷ (Fed (replicate 16 156) (replicate 32 138) ∷ [])
    ∷ ((Took None (KexInit (proposing (codes "k2" ∷ codes "k3" ∷ codes "k1" ∷ []) (codes "h1" ∷ []) (codes "e2" ∷ codes "e1"
    ∷ []) (codes "e1" ∷ codes "e2" ∷ []) (codes "m3" ∷ codes "m1" ∷ []) (codes "m2" ∷ codes "m1" ∷ codes "m3" ∷ []))) (codes "offer 6"))
    ∷ says (KexEcdhInit (replicate 32 129)) ∷ [])
    ∷ ((hears (KexEcdhReply (codes "key of h1") (129 ∷ replicate 31 142) (codes "right"))) ∷ says NewKeys ∷ Told (Completed 3) ∷ [])
    ∷ (Asked (AskGlobal (codes "g") true []) ∷ says (GlobalRequest (codes "g") true []) ∷ [])
    ∷ (hears NewKeys ∷ [])
    ∷ (Asked (AskAdjust 0 0) ∷ AskRefused AskRefusal.NoChannel ∷ [])
    ∷ (Asked (AskData 1 (Some 1) (codes "b")) ∷ AskRefused AskRefusal.NoChannel ∷ [])
    ∷ (Asked (AskData 2 None (codes "bbbb")) ∷ says_on 2 (ChannelData 9 (codes "bbbb")) ∷ [])
    ∷ (hears_on 2 (ChannelWindowAdjust 2 4294967288) ∷ Told (Adjusted 2 4294967288) ∷ [])
    ∷ (hears (GlobalRequest (codes "g") true (codes "abc")) ∷ Told (Global (codes "g") true (codes "abc")) ∷ [])
    ∷ (Asked (AskConfirm 1 7 8 []) ∷ says_on 1 (ChannelOpenConfirmation 7 1 7 8 []) ∷ [])
    ∷ (Asked (AskData 1 None (codes "bbbb")) ∷ says_on 1 (ChannelData 7 (codes "bbbb")) ∷ [])
    ∷ (Asked AskRekey ∷ (Sent None (KexInit (with_cookie (replicate 16 156) (proposing (codes "k3" ∷ codes "k2" ∷ codes "k1"
    ∷ []) (codes "h1" ∷ []) (codes "e2" ∷ []) (codes "e2" ∷ []) (codes "m3" ∷ codes "m1" ∷ []) (codes "m3" ∷ codes "m1"
    ∷ [])))) (codes "offer 7")) ∷ [])
    ∷ (hears_on 1 (ChannelData 1 []) ∷ Told (GotData 1 None []) ∷ [])
    ∷ (hears_on 1 (ChannelData 1 (codes "a")) ∷ Told (GotData 1 None (codes "a")) ∷ [])
    ∷ (hears_on 2 (ChannelRequest 2 (codes "r") true []) ∷ Told (Requested 2 (codes "r") true []) ∷ [])
    ∷ (hears_on 1 (ChannelRequest 1 (codes "r") false (codes "a")) ∷ Told (Requested 1 (codes "r") false (codes "a")) ∷ [])
    ∷ (hears (GlobalRequest (codes "g") false []) ∷ Told (Global (codes "g") false []) ∷ [])
    ∷ ((Took None (KexInit (proposing (codes "k1" ∷ codes "k3" ∷ []) (codes "h1" ∷ []) (codes "e2" ∷ codes "e1" ∷ []) (codes "e1"
    ∷ codes "e2" ∷ []) (codes "m2" ∷ codes "m1" ∷ codes "m3" ∷ []) (codes "m3" ∷ codes "m1" ∷ codes "m2" ∷ []))) (codes "offer 8"))
    ∷ says (KexEcdhInit (replicate 32 138)) ∷ [])
    ∷ (hears (Unimplemented 4) ∷ Told (NotImplemented 4) ∷ [])
    ∷ (Fed (replicate 16 87) (replicate 32 48) ∷ [])
    ∷ ((hears (KexEcdhReply (codes "key of h1") (138 ∷ 138 ∷ 138 ∷ replicate 29 44) (codes "right"))) ∷ says NewKeys ∷ Told (Completed 4)
    ∷ [])
    ∷ (Asked (AskRequest 1 (codes "r") true []) ∷ says_on 1 (ChannelRequest 7 (codes "r") true []) ∷ [])
    ∷ (Asked (AskRequest 2 (codes "r") false []) ∷ says_on 2 (ChannelRequest 9 (codes "r") false []) ∷ [])
    ∷ (Asked (AskData 1 None (codes "bbbbbb")) ∷ AskRefused AskRefusal.NoRoom ∷ []) ∷ []

-- messages that might come at any moment
abbrev pub messages : List Msg
messages =
    (KexInit (proposing (codes "k3" ∷ codes "k1" ∷ codes "k2" ∷ []) (codes "h1" ∷ []) (codes "e1" ∷ codes "e2" ∷ []) (codes "e1"
    ∷ codes "e2" ∷ []) (codes "m1" ∷ codes "m2" ∷ []) (codes "m3" ∷ codes "m1" ∷ codes "m2" ∷ [])))
    ∷ (KexInit (proposing (codes "k2" ∷ []) (codes "h1" ∷ codes "h2" ∷ codes "h3" ∷ []) (codes "e1" ∷ codes "e2" ∷ []) (codes "e2"
    ∷ codes "e1" ∷ []) (codes "m1" ∷ codes "m3" ∷ codes "m2" ∷ []) (codes "m1" ∷ codes "m3" ∷ codes "m2" ∷ [])))
    ∷ (ChannelData 1 [])
    ∷ (ChannelData 1 [])
    ∷ (ChannelWindowAdjust 2 20)
    ∷ (KexEcdhReply (codes "key of h1") (replicate 32 10) (codes "right"))
    ∷ (KexEcdhReply (codes "key of h1") (0 ∷ 0 ∷ 0 ∷ replicate 29 97) (codes "right"))
    ∷ (KexEcdhReply (codes "key of h") (replicate 32 0) (codes "right"))
    ∷ (ExtInfo (record { name = codes "x"; value = [] } ∷ []))
    ∷ (UserauthRequest (codes "u") (codes "ssh-connection") (Publickey (codes "alg") (codes "k") (Some (codes "right"))))
    ∷ (ChannelRequest 0 (codes "r") false (codes "abc"))
    ∷ (RequestFailure)
    ∷ (ChannelOpenFailure 0 1 [] [])
    ∷ (ChannelExtendedData 0 1 []) ∷ []

-- asks that might come at any moment
abbrev pub asks : List Ask
asks =
    (AskData 0 (Some 1) (codes "bbbb"))
    ∷ (AskData 2 None (codes "b"))
    ∷ (AskGlobalReply false [])
    ∷ (AskRefuse 2 1)
    ∷ (AskConfirm 0 6 0 [])
    ∷ (AskSign (codes "u") (codes "alg") (codes "k"))
    ∷ (AskProbe (codes "u") (codes "alg") (codes "k"))
    ∷ (AskService)
    ∷ (AskOpen (codes "session") 7 4 []) ∷ []

-- numbers that might come at any moment
abbrev pub numbers : List ℕ
numbers =
    5 ∷ 7 ∷ 20 ∷ 22 ∷ 32 ∷ 52 ∷ 53 ∷ 60 ∷ 61 ∷ 82 ∷ 101 ∷ 255 ∷ []

-- the text that is hashed in this exchange
abbrev pub text_0 : List ℕ
text_0 =
    0 ∷ 0 ∷ 0 ∷ 9 ∷ codes "SSH-2.0-c" ++ 0 ∷ 0 ∷ 0 ∷ 12 ∷ codes "SSH-2.0-peer" ++ 0 ∷ 0 ∷ 0 ∷ 7 ∷ codes "offer 1" ++ 0 ∷ 0 ∷ 0 ∷ 7
    ∷ codes "offer 2" ++ 0 ∷ 0 ∷ 0 ∷ 9 ∷ codes "key of h1" ++ 0 ∷ 0 ∷ 0 ∷ 32 ∷ replicate 32 27 ++ 0 ∷ 0 ∷ 0 ∷ 32 ∷ 27 ∷ 27 ∷ 27
    ∷ replicate 29 133 ++ mpint_of 0x9e9e9e9e9e9e9e9e9e9e9e9e9e9e9e9e9e9e9e9e9e9e9e9e9e9e9e9e9e

-- the text that is hashed in this exchange
abbrev pub text_1 : List ℕ
text_1 =
    0 ∷ 0 ∷ 0 ∷ 9 ∷ codes "SSH-2.0-c" ++ 0 ∷ 0 ∷ 0 ∷ 12 ∷ codes "SSH-2.0-peer" ++ 0 ∷ 0 ∷ 0 ∷ 7 ∷ codes "offer 4" ++ 0 ∷ 0 ∷ 0 ∷ 7
    ∷ codes "offer 3" ++ 0 ∷ 0 ∷ 0 ∷ 9 ∷ codes "key of h1" ++ 0 ∷ 0 ∷ 0 ∷ 32 ∷ replicate 32 179 ++ 0 ∷ 0 ∷ 0
    ∷ codes " 55555555555555555555555555555555" ++ mpint_of 0x8686868686868686868686868686868686868686868686868686868686868686

-- the text that is hashed in this exchange
abbrev pub text_2 : List ℕ
text_2 =
    0 ∷ 0 ∷ 0 ∷ 9 ∷ codes "SSH-2.0-c" ++ 0 ∷ 0 ∷ 0 ∷ 12 ∷ codes "SSH-2.0-peer" ++ 0 ∷ 0 ∷ 0 ∷ 7 ∷ codes "offer 5" ++ 0 ∷ 0 ∷ 0 ∷ 7
    ∷ codes "offer 6" ++ 0 ∷ 0 ∷ 0 ∷ 9 ∷ codes "key of h1" ++ 0 ∷ 0 ∷ 0 ∷ 32 ∷ replicate 32 129 ++ 0 ∷ 0 ∷ 0 ∷ 32 ∷ 129 ∷ replicate 31 142
    ++ mpint_of 0xf0f0f0f0f0f0f0f0f0f0f0f0f0f0f0f0f0f0f0f0f0f0f0f0f0f0f0f0f0f0f

-- the text that is hashed in this exchange
abbrev pub text_3 : List ℕ
text_3 =
    0 ∷ 0 ∷ 0 ∷ 9 ∷ codes "SSH-2.0-c" ++ 0 ∷ 0 ∷ 0 ∷ 12 ∷ codes "SSH-2.0-peer" ++ 0 ∷ 0 ∷ 0 ∷ 7 ∷ codes "offer 7" ++ 0 ∷ 0 ∷ 0 ∷ 7
    ∷ codes "offer 8" ++ 0 ∷ 0 ∷ 0 ∷ 9 ∷ codes "key of h1" ++ 0 ∷ 0 ∷ 0 ∷ 32 ∷ replicate 32 138 ++ 0 ∷ 0 ∷ 0 ∷ 32 ∷ 138 ∷ 138 ∷ 138
    ∷ replicate 29 44 ++ mpint_of 0xa6a6a6a6a6a6a6a6a6a6a6a6a6a6a6a6a6a6a6a6a6a6a6a6a6a6a6a6a6
