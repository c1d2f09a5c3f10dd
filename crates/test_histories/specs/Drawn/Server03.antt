-- A drawn session of a server, written by tools/second_reading.
use Rattle.ssh_model.specs.Protocol.Sessions.Parties.{Parties}
use Rattle.std.specs.Prelude.{List, ℕ, codes, ◌∷◌, [], false, replicate, None, true, Some, ◌++◌}
use Rattle.test_histories.specs.Words.{ends_of, with_cookie, proposing, hears, says, hears_on, says_on}
use Rattle.ssh_model.specs.declared.side.Side.TheVariants.{Server}
use Rattle.ssh_model.specs.declared.strictness.Strictness.TheVariants.{Offer}
use Rattle.ssh_model.specs.Protocol.Sessions.Items.{Item, Item.Fed, Item.SentLine, Item.Sent, Item.TookLine, Item.Told}
use Rattle.ssh_model.specs.Protocol.Sessions.Items.{Fact.Ignored, Item.Took, Fact.Completed, Fact.Debugged, Fact.Accepted}
use Rattle.ssh_model.specs.Protocol.Sessions.Items.{Credential.ByKey, Fact.Opened, Item.Asked, Ask.AskAdjust}
use Rattle.ssh_model.specs.Protocol.Sessions.Items.{Item.AskRefused, Fact.Global, Ask.AskData, Ask.AskRekey, Ask.AskConfirm}
use Rattle.ssh_model.specs.Protocol.Sessions.Items.{Ask.AskRequest, Ask.AskGlobal, Fact.NotImplemented, Fact.GotData}
use Rattle.ssh_model.specs.Protocol.Sessions.Items.{Ask.AskEof, Ask, Ask.AskReply, Ask.AskClose, Ask.AskPassword}
use Rattle.ssh_model.specs.Protocol.Sessions.Items.{Ask.AskGlobalReply}
use Rattle.ssh_model.specs.Protocol.Wire.Message.{Msg.KexInit, Msg.Ignore, Msg.KexEcdhInit, Msg.KexEcdhReply, Msg.NewKeys}
use Rattle.ssh_model.specs.Protocol.Wire.Message.{Msg.ExtInfo, Msg.Debug, Msg.Unknown, Msg.Unimplemented, Msg.ServiceRequest}
use Rattle.ssh_model.specs.Protocol.Wire.Message.{Msg.ServiceAccept, Msg.UserauthRequest, Method.Publickey}
use Rattle.ssh_model.specs.Protocol.Wire.Message.{Msg.UserauthFailure, Msg.UserauthPkOk, Msg.UserauthSuccess}
use Rattle.ssh_model.specs.Protocol.Wire.Message.{Msg.ChannelOpen, Msg.GlobalRequest, Msg.ChannelOpenConfirmation}
use Rattle.ssh_model.specs.Protocol.Wire.Message.{Msg.ChannelRequest, Msg.ChannelData, Msg.ChannelExtendedData, Msg}
use Rattle.ssh_model.specs.Protocol.Wire.Message.{Msg.ChannelWindowAdjust, Msg.UserauthBanner, Msg.ChannelFailure}
use Rattle.ssh_model.specs.Protocol.Wire.Message.{Msg.Disconnect}
use Rattle.ssh_model.specs.declared.ask_refusal.AskRefusal.{AskRefusal}
use Rattle.ssh_model.specs.Protocol.KeyExchange.Exchange.{mpint_of}

-- the ends, of which the server has drawn settings
abbrev pub ends : Parties (List ℕ)
ends = ends_of Server (record {
  line = codes "SSH-2.0-s";
  kex = codes "k3" ∷ [];
  host = codes "h1" ∷ [];
  encryption = codes "e2" ∷ [];
  mac = codes "m1" ∷ [];
  epoch_limit = 6;
  tries = 2;
  methods = codes "publickey" ∷ [];
  strictness = Offer;
  takes_extensions = false;
  extensions = record { name = codes "x"; value = codes "y" } ∷ [];
})

-- the turns
abbrev pub turns : List (List Item)
turns =
    (Fed (replicate 16 51) (replicate 32 105) ∷ SentLine (codes "SSH-2.0-s")
    ∷ (Sent None (KexInit (with_cookie (replicate 16 51) (proposing (codes "k3" ∷ codes "kex-strict-s-v00@openssh.com" ∷ []) (codes "h1"
    ∷ []) (codes "e2" ∷ []) (codes "e2" ∷ []) (codes "m1" ∷ []) (codes "m1" ∷ [])))) (codes "offer 1")) ∷ [])
    ∷ (TookLine (codes "SSH-2.0-peer") ∷ [])
    ∷ (hears (Ignore (codes "a")) ∷ Told Ignored ∷ [])
    ∷ (hears (Ignore (codes "a")) ∷ Told Ignored ∷ [])
    ∷ ((Took None (KexInit (proposing (codes "k1" ∷ codes "k2" ∷ codes "k3" ∷ codes "ext-info-c" ∷ []) (codes "h1" ∷ []) (codes "e1"
    ∷ codes "e2" ∷ []) (codes "e2" ∷ codes "e1" ∷ []) (codes "m1" ∷ codes "m3" ∷ codes "m2" ∷ []) (codes "m2" ∷ codes "m1" ∷ codes "m3"
    ∷ []))) (codes "offer 2")) ∷ [])
    ∷ ((hears (KexEcdhInit (105 ∷ replicate 31 187))) ∷ says (KexEcdhReply (codes "key of h1") (replicate 32 105) (codes "right"))
    ∷ says NewKeys ∷ (says (ExtInfo (record { name = codes "x"; value = codes "y" } ∷ []))) ∷ Told (Completed 1) ∷ [])
    ∷ (hears (Debug true (codes "a") []) ∷ Told (Debugged true (codes "a")) ∷ [])
    ∷ (hears NewKeys ∷ [])
    ∷ (hears (Ignore []) ∷ Told Ignored ∷ [])
    ∷ (hears (Unknown 19) ∷ says (Unimplemented 7) ∷ [])
    ∷ (hears (Debug true (codes "a") []) ∷ Told (Debugged true (codes "a")) ∷ [])
    ∷ (hears (ServiceRequest (codes "ssh-userauth")) ∷ says (ServiceAccept (codes "ssh-userauth")) ∷ [])
    ∷ (hears (UserauthRequest (codes "u") (codes "ssh-connection") (Publickey (codes "alg") (codes "k") (Some (codes "wrong"))))
    ∷ (says (UserauthFailure (codes "publickey" ∷ []) false)) ∷ [])
    ∷ (hears (UserauthRequest (codes "u") (codes "ssh-userauth") (Publickey (codes "alg") (codes "k") (Some (codes "wrong"))))
    ∷ (says (UserauthFailure (codes "publickey" ∷ []) false)) ∷ [])
    ∷ (hears (UserauthRequest (codes "u") (codes "ssh-connection") (Publickey (codes "alg") (codes "k") None))
    ∷ says (UserauthPkOk (codes "alg") (codes "k")) ∷ [])
    ∷ (hears (Ignore (codes "abc")) ∷ Told Ignored ∷ [])
    ∷ (hears (Ignore (codes "abc")) ∷ Told Ignored ∷ [])
    ∷ (hears (UserauthRequest (codes "u") (codes "ssh-connection") (Publickey (codes "alg") (codes "k") (Some (codes "right"))))
    ∷ says UserauthSuccess ∷ Told (Accepted (codes "u") (ByKey (codes "alg") (codes "k"))) ∷ [])
    ∷ (hears_on 1 (ChannelOpen (codes "session") 6 12 6 []) ∷ Told (Opened 1 (codes "session") 12 6 []) ∷ [])
    ∷ (Asked (AskAdjust 1 20) ∷ AskRefused AskRefusal.RekeyDue ∷ [])
    ∷ (hears_on 0 (ChannelOpen (codes "session") 8 10 8 []) ∷ Told (Opened 0 (codes "session") 10 8 []) ∷ [])
    ∷ (hears (UserauthRequest (codes "u") (codes "ssh-userauth") (Publickey (codes "alg") (codes "k") None)) ∷ Told Ignored ∷ [])
    ∷ (hears (Unknown 19) ∷ says (Unimplemented 19) ∷ [])
    ∷ (hears_on 2 (ChannelOpen (codes "session") 2 8 4 []) ∷ Told (Opened 2 (codes "session") 8 4 []) ∷ [])
    ∷ (hears (GlobalRequest (codes "g") false []) ∷ Told (Global (codes "g") false []) ∷ [])
    ∷ (Fed (replicate 16 55) (replicate 32 132) ∷ [])
    ∷ (Asked (AskData 1 (Some 1) (codes "bbbbbb")) ∷ AskRefused AskRefusal.RekeyDue ∷ [])
    ∷ (hears (Unknown 192) ∷ says (Unimplemented 22) ∷ [])
    ∷ (Asked AskRekey ∷ (Sent None (KexInit (with_cookie (replicate 16 55) (proposing (codes "k3" ∷ []) (codes "h1" ∷ []) (codes "e2"
    ∷ []) (codes "e2" ∷ []) (codes "m1" ∷ []) (codes "m1" ∷ [])))) (codes "offer 3")) ∷ [])
    ∷ (Fed (replicate 16 150) (replicate 32 163) ∷ [])
    ∷ ((Took None (KexInit (proposing (codes "k3" ∷ []) (codes "h1" ∷ []) (codes "e2" ∷ codes "e1" ∷ []) (codes "e2" ∷ codes "e1"
    ∷ []) (codes "m1" ∷ codes "m2" ∷ []) (codes "m1" ∷ codes "m3" ∷ []))) (codes "offer 4")) ∷ [])
    ∷ (hears (KexEcdhInit (replicate 32 179)) ∷ says (KexEcdhReply (codes "key of h1") (replicate 32 132) (codes "right")) ∷ says NewKeys
    ∷ Told (Completed 2) ∷ [])
    ∷ (Asked (AskConfirm 1 9 8 []) ∷ says_on 1 (ChannelOpenConfirmation 6 1 9 8 []) ∷ [])
    ∷ (Asked (AskRequest 1 (codes "r") false []) ∷ says_on 1 (ChannelRequest 6 (codes "r") false []) ∷ [])
    ∷ (hears (Ignore (codes "a")) ∷ Told Ignored ∷ [])
    ∷ (Asked (AskGlobal (codes "g") false []) ∷ says (GlobalRequest (codes "g") false []) ∷ [])
    ∷ (Asked (AskData 1 None (codes "bbbb")) ∷ says_on 1 (ChannelData 6 (codes "bbbb")) ∷ [])
    ∷ (hears NewKeys ∷ [])
    ∷ (hears (Unimplemented 2) ∷ Told (NotImplemented 2) ∷ [])
    ∷ (Asked (AskAdjust 0 1) ∷ AskRefused AskRefusal.NoChannel ∷ [])
    ∷ (hears (Debug true (codes "abc") []) ∷ Told (Debugged true (codes "abc")) ∷ [])
    ∷ (Asked (AskData 1 (Some 1) (codes "b")) ∷ says_on 1 (ChannelExtendedData 6 1 (codes "b")) ∷ [])
    ∷ ((Took None (KexInit (proposing (codes "k3" ∷ []) (codes "h1" ∷ []) (codes "e2" ∷ codes "e1" ∷ []) (codes "e2" ∷ codes "e1"
    ∷ []) (codes "m3" ∷ codes "m2" ∷ codes "m1" ∷ []) (codes "m3" ∷ codes "m1" ∷ []))) (codes "offer 5"))
    ∷ (Sent None (KexInit (with_cookie (replicate 16 150) (proposing (codes "k3" ∷ []) (codes "h1" ∷ []) (codes "e2" ∷ []) (codes "e2"
    ∷ []) (codes "m1" ∷ []) (codes "m1" ∷ [])))) (codes "offer 6")) ∷ [])
    ∷ (hears (Unimplemented 9) ∷ Told (NotImplemented 9) ∷ [])
    ∷ (Fed (replicate 16 158) (replicate 32 1) ∷ [])
    ∷ (hears (Unimplemented 2) ∷ Told (NotImplemented 2) ∷ [])
    ∷ (Asked (AskConfirm 0 12 8 []) ∷ AskRefused AskRefusal.Busy ∷ [])
    ∷ (hears (Debug true [] []) ∷ Told (Debugged true []) ∷ [])
    ∷ (hears (KexEcdhInit (replicate 32 158)) ∷ says (KexEcdhReply (codes "key of h1") (replicate 32 163) (codes "right")) ∷ says NewKeys
    ∷ Told (Completed 3) ∷ [])
    ∷ (Asked (AskConfirm 0 9 6 []) ∷ says_on 0 (ChannelOpenConfirmation 8 0 9 6 []) ∷ [])
    ∷ (hears NewKeys ∷ [])
    ∷ (hears_on 0 (ChannelExtendedData 0 1 (codes "aaaaaa")) ∷ Told (GotData 0 (Some 1) (codes "aaaaaa")) ∷ [])
    ∷ (Asked (AskEof 2) ∷ AskRefused AskRefusal.NoChannel ∷ [])
    ∷ (hears_on 1 (ChannelData 1 (codes "a")) ∷ Told (GotData 1 None (codes "a")) ∷ [])
    ∷ (Asked (AskData 2 None (codes "b")) ∷ AskRefused AskRefusal.NoChannel ∷ [])
    ∷ (hears_on 1 (ChannelData 1 (codes "aaaa")) ∷ Told (GotData 1 None (codes "aaaa")) ∷ []) ∷ []

-- messages that might come at any moment
abbrev pub messages : List Msg
messages =
    (KexInit (proposing (codes "k3" ∷ []) (codes "h1" ∷ []) (codes "e1" ∷ codes "e2" ∷ []) (codes "e2" ∷ codes "e1" ∷ []) (codes "m3"
    ∷ codes "m2" ∷ []) (codes "m2" ∷ codes "m1" ∷ codes "m3" ∷ [])))
    ∷ (KexInit (proposing (codes "k3" ∷ []) (codes "h1" ∷ []) (codes "e2" ∷ codes "e1" ∷ []) (codes "e1" ∷ codes "e2" ∷ []) (codes "m1"
    ∷ codes "m3" ∷ codes "m2" ∷ []) (codes "m1" ∷ codes "m3" ∷ [])))
    ∷ (ChannelData 1 [])
    ∷ (ChannelData 1 (codes "a"))
    ∷ (ChannelWindowAdjust 0 7)
    ∷ (KexEcdhInit (132 ∷ replicate 31 231))
    ∷ (KexEcdhInit (replicate 33 158))
    ∷ (KexEcdhInit (replicate 32 163))
    ∷ (UserauthRequest (codes "guest") (codes "ssh-connection") (Publickey (codes "alg") (codes "k") None))
    ∷ (UserauthRequest (codes "u") (codes "ssh-connection") (Publickey (codes "alg") (codes "k") (Some (codes "wrong"))))
    ∷ (UserauthRequest (codes "u") (codes "ssh-userauth") (Publickey (codes "alg") (codes "k") (Some (codes "wrong"))))
    ∷ (UserauthFailure (codes "password" ∷ []) false)
    ∷ (Unimplemented 4)
    ∷ (UserauthBanner (codes "a") [])
    ∷ (ChannelFailure 0)
    ∷ (Disconnect 11 [] [])
    ∷ (ServiceRequest (codes "ssh-userauth")) ∷ []

-- asks that might come at any moment
abbrev pub asks : List Ask
asks =
    (AskData 0 (Some 1) (codes "b"))
    ∷ (AskData 2 (Some 1) (codes "bbbb"))
    ∷ (AskConfirm 0 8 6 [])
    ∷ (AskRekey)
    ∷ (AskReply 2 true)
    ∷ (AskEof 2)
    ∷ (AskClose 0)
    ∷ (AskPassword (codes "u") (codes "q"))
    ∷ (AskGlobalReply true (codes "x")) ∷ []

-- numbers that might come at any moment
abbrev pub numbers : List ℕ
numbers =
    1 ∷ 2 ∷ 50 ∷ 60 ∷ 61 ∷ 80 ∷ 83 ∷ 89 ∷ 100 ∷ 101 ∷ 192 ∷ 255 ∷ []

-- the text that is hashed in this exchange
abbrev pub text_0 : List ℕ
text_0 =
    0 ∷ 0 ∷ 0 ∷ 12 ∷ codes "SSH-2.0-peer" ++ 0 ∷ 0 ∷ 0 ∷ 9 ∷ codes "SSH-2.0-s" ++ 0 ∷ 0 ∷ 0 ∷ 7 ∷ codes "offer 2" ++ 0 ∷ 0 ∷ 0 ∷ 7
    ∷ codes "offer 1" ++ 0 ∷ 0 ∷ 0 ∷ 9 ∷ codes "key of h1" ++ 0 ∷ 0 ∷ 0 ∷ 32 ∷ 105 ∷ replicate 31 187 ++ 0 ∷ 0 ∷ 0
    ∷ codes " iiiiiiiiiiiiiiiiiiiiiiiiiiiiiiii" ++ mpint_of 0xd2d2d2d2d2d2d2d2d2d2d2d2d2d2d2d2d2d2d2d2d2d2d2d2d2d2d2d2d2d2d2

-- the text that is hashed in this exchange
abbrev pub text_1 : List ℕ
text_1 =
    0 ∷ 0 ∷ 0 ∷ 12 ∷ codes "SSH-2.0-peer" ++ 0 ∷ 0 ∷ 0 ∷ 9 ∷ codes "SSH-2.0-s" ++ 0 ∷ 0 ∷ 0 ∷ 7 ∷ codes "offer 4" ++ 0 ∷ 0 ∷ 0 ∷ 7
    ∷ codes "offer 3" ++ 0 ∷ 0 ∷ 0 ∷ 9 ∷ codes "key of h1" ++ 0 ∷ 0 ∷ 0 ∷ 32 ∷ replicate 32 179 ++ 0 ∷ 0 ∷ 0 ∷ 32 ∷ replicate 32 132
    ++ mpint_of 0x3737373737373737373737373737373737373737373737373737373737373737

-- the text that is hashed in this exchange
abbrev pub text_2 : List ℕ
text_2 =
    0 ∷ 0 ∷ 0 ∷ 12 ∷ codes "SSH-2.0-peer" ++ 0 ∷ 0 ∷ 0 ∷ 9 ∷ codes "SSH-2.0-s" ++ 0 ∷ 0 ∷ 0 ∷ 7 ∷ codes "offer 5" ++ 0 ∷ 0 ∷ 0 ∷ 7
    ∷ codes "offer 6" ++ 0 ∷ 0 ∷ 0 ∷ 9 ∷ codes "key of h1" ++ 0 ∷ 0 ∷ 0 ∷ 32 ∷ replicate 32 158 ++ 0 ∷ 0 ∷ 0 ∷ 32 ∷ replicate 32 163
    ++ mpint_of 0x3d3d3d3d3d3d3d3d3d3d3d3d3d3d3d3d3d3d3d3d3d3d3d3d3d3d3d3d3d3d3d3d
