-- A drawn session of a client, written by tools/second_reading.
use Rattle.ssh_model.specs.Protocol.Sessions.Parties.{Parties}
use Rattle.std.specs.Prelude.{List, ℕ, codes, ◌∷◌, [], true, replicate, None, false, Some, ◌++◌}
use Rattle.test_histories.specs.Words.{ends_of, with_cookie, proposing, says, hears, hears_on, says_on}
use Rattle.ssh_model.specs.declared.side.Side.TheVariants.{Client}
use Rattle.ssh_model.specs.declared.strictness.Strictness.TheVariants.{Off}
use Rattle.ssh_model.specs.Protocol.Sessions.Items.{Item, Item.Fed, Item.SentLine, Item.Sent, Item.TookOtherLine}
use Rattle.ssh_model.specs.Protocol.Sessions.Items.{Item.TookLine, Item.Took, Item.Told, Fact.Debugged, Fact.Completed}
use Rattle.ssh_model.specs.Protocol.Sessions.Items.{Fact.Ignored, Fact.GotExtensions, Item.Asked, Ask.AskService}
use Rattle.ssh_model.specs.Protocol.Sessions.Items.{Fact.Service, Ask.AskProbe, Ask.AskSign, Item.AskRefused, Fact.Failed}
use Rattle.ssh_model.specs.Protocol.Sessions.Items.{Ask.AskPassword, Fact.Banner, Fact.NotImplemented, Fact.Authenticated}
use Rattle.ssh_model.specs.Protocol.Sessions.Items.{Fact.Opened, Ask.AskRequest, Ask.AskGlobal, Ask.AskOpen, Fact.Opening}
use Rattle.ssh_model.specs.Protocol.Sessions.Items.{Ask.AskConfirm, Fact.Confirmed, Ask.AskData, Ask.AskReply, Ask.AskAdjust}
use Rattle.ssh_model.specs.Protocol.Sessions.Items.{Fact.Requested, Fact.GotData, Ask.AskEof, Fact.Ended, Fact.Adjusted}
use Rattle.ssh_model.specs.Protocol.Sessions.Items.{Ask.AskRekey, Ask, Ask.AskGlobalReply}
use Rattle.ssh_model.specs.Protocol.Wire.Message.{Msg.KexInit, Msg.KexEcdhInit, Msg.Debug, Msg.KexEcdhReply, Msg.NewKeys}
use Rattle.ssh_model.specs.Protocol.Wire.Message.{Msg.Ignore, Msg.ExtInfo, Msg.Unknown, Msg.Unimplemented}
use Rattle.ssh_model.specs.Protocol.Wire.Message.{Msg.ServiceRequest, Msg.ServiceAccept, Msg.UserauthRequest}
use Rattle.ssh_model.specs.Protocol.Wire.Message.{Method.Publickey, Msg.UserauthFailure, Method.Password, Msg.UserauthBanner}
use Rattle.ssh_model.specs.Protocol.Wire.Message.{Msg.UserauthSuccess, Msg.ChannelOpen, Msg.GlobalRequest}
use Rattle.ssh_model.specs.Protocol.Wire.Message.{Msg.ChannelOpenConfirmation, Msg.ChannelData, Msg.ChannelWindowAdjust}
use Rattle.ssh_model.specs.Protocol.Wire.Message.{Msg.ChannelRequest, Msg.ChannelEof, Msg, Msg.ChannelClose}
use Rattle.ssh_model.specs.declared.ask_refusal.AskRefusal.{AskRefusal}
use Rattle.ssh_model.specs.declared.request_kind.RequestKind.TheVariants as kind
use Rattle.ssh_model.specs.Protocol.KeyExchange.Exchange.{mpint_of}

-- the ends, of which the client has drawn settings
abbrev pub ends : Parties (List ℕ)
ends = ends_of Client (record {
  line = codes "SSH-2.0-c";
  kex = codes "k2" ∷ codes "k3" ∷ [];
  host = codes "h2" ∷ [];
  encryption = codes "e2" ∷ [];
  mac = codes "m3" ∷ codes "m1" ∷ [];
  epoch_limit = 10;
  tries = 1;
  methods = codes "publickey" ∷ [];
  strictness = Off;
  takes_extensions = true;
  extensions = record { name = codes "x"; value = codes "y" } ∷ [];
})

-- the turns
abbrev pub turns : List (List Item)
turns =
    (Fed (replicate 16 37) (replicate 32 200) ∷ SentLine (codes "SSH-2.0-c")
    ∷ (Sent None (KexInit (with_cookie (replicate 16 37) (proposing (codes "k2" ∷ codes "k3" ∷ codes "ext-info-c" ∷ []) (codes "h2"
    ∷ []) (codes "e2" ∷ []) (codes "e2" ∷ []) (codes "m3" ∷ codes "m1" ∷ []) (codes "m3" ∷ codes "m1" ∷ [])))) (codes "offer 1")) ∷ [])
    ∷ (TookOtherLine (codes "hello") ∷ [])
    ∷ (TookOtherLine (codes "hello") ∷ [])
    ∷ (TookLine (codes "SSH-2.0-peer") ∷ [])
    ∷ ((Took None (KexInit (proposing (codes "k2" ∷ codes "k1" ∷ codes "kex-strict-s-v00@openssh.com" ∷ []) (codes "h2" ∷ []) (codes "e2"
    ∷ codes "e1" ∷ []) (codes "e1" ∷ codes "e2" ∷ []) (codes "m2" ∷ codes "m1" ∷ []) (codes "m2" ∷ codes "m3" ∷ codes "m1"
    ∷ []))) (codes "offer 2")) ∷ says (KexEcdhInit (replicate 32 200)) ∷ [])
    ∷ (hears (Debug true (codes "abc") []) ∷ Told (Debugged true (codes "abc")) ∷ [])
    ∷ (hears (Debug true [] []) ∷ Told (Debugged true []) ∷ [])
    ∷ ((hears (KexEcdhReply (codes "key of h2") (200 ∷ 200 ∷ 200 ∷ replicate 29 159) (codes "right"))) ∷ says NewKeys ∷ Told (Completed 1)
    ∷ [])
    ∷ (hears (Ignore []) ∷ Told Ignored ∷ [])
    ∷ (hears NewKeys ∷ [])
    ∷ ((hears (ExtInfo (record { name = codes "x"; value = [] } ∷ []))) ∷ (Told (GotExtensions (record { name = codes "x"; value = [] }
    ∷ []))) ∷ [])
    ∷ (hears (Debug true [] []) ∷ Told (Debugged true []) ∷ [])
    ∷ (hears (Unknown 29) ∷ says (Unimplemented 8) ∷ [])
    ∷ (Asked AskService ∷ says (ServiceRequest (codes "ssh-userauth")) ∷ [])
    ∷ (hears (ServiceAccept (codes "ssh-userauth")) ∷ Told Service ∷ [])
    ∷ (hears (Debug true (codes "abc") []) ∷ Told (Debugged true (codes "abc")) ∷ [])
    ∷ (Asked (AskProbe (codes "u") (codes "alg") (codes "k"))
    ∷ says (UserauthRequest (codes "u") (codes "ssh-connection") (Publickey (codes "alg") (codes "k") None)) ∷ [])
    ∷ (Asked (AskSign (codes "u") (codes "alg") (codes "k")) ∷ AskRefused AskRefusal.Busy ∷ [])
    ∷ ((hears (UserauthFailure (codes "password" ∷ []) false)) ∷ (Told (Failed (codes "password" ∷ []) false)) ∷ [])
    ∷ (hears (Ignore (codes "a")) ∷ Told Ignored ∷ [])
    ∷ (Asked (AskPassword (codes "u") (codes "q")) ∷ says (UserauthRequest (codes "u") (codes "ssh-connection") (Password (codes "q") None))
    ∷ [])
    ∷ ((hears (UserauthFailure (codes "password" ∷ []) false)) ∷ (Told (Failed (codes "password" ∷ []) false)) ∷ [])
    ∷ (hears (UserauthBanner (codes "abc") []) ∷ Told (Banner (codes "abc")) ∷ [])
    ∷ (hears (Unimplemented 8) ∷ Told (NotImplemented 8) ∷ [])
    ∷ (Asked (AskSign (codes "u") (codes "alg") (codes "k"))
    ∷ says (UserauthRequest (codes "u") (codes "ssh-connection") (Publickey (codes "alg") (codes "k") (Some (codes "right")))) ∷ [])
    ∷ (hears UserauthSuccess ∷ Told (Authenticated kind.Signature) ∷ [])
    ∷ (hears_on 0 (ChannelOpen (codes "session") 7 4 4 []) ∷ Told (Opened 0 (codes "session") 4 4 []) ∷ [])
    ∷ (hears_on 1 (ChannelOpen (codes "session") 1 5 4 []) ∷ Told (Opened 1 (codes "session") 5 4 []) ∷ [])
    ∷ (Asked (AskRequest 1 (codes "r") true []) ∷ AskRefused AskRefusal.NoChannel ∷ [])
    ∷ (Fed (replicate 16 212) (replicate 32 194) ∷ [])
    ∷ ((Took None (KexInit (proposing (codes "k1" ∷ codes "k3" ∷ codes "k2" ∷ []) (codes "h2" ∷ []) (codes "e1" ∷ codes "e2"
    ∷ []) (codes "e1" ∷ codes "e2" ∷ []) (codes "m3" ∷ codes "m2" ∷ []) (codes "m1" ∷ codes "m3" ∷ []))) (codes "offer 3"))
    ∷ (Sent None (KexInit (with_cookie (replicate 16 212) (proposing (codes "k2" ∷ codes "k3" ∷ []) (codes "h2" ∷ []) (codes "e2"
    ∷ []) (codes "e2" ∷ []) (codes "m3" ∷ codes "m1" ∷ []) (codes "m3" ∷ codes "m1" ∷ [])))) (codes "offer 4"))
    ∷ says (KexEcdhInit (replicate 32 194)) ∷ [])
    ∷ (hears (Debug true [] []) ∷ Told (Debugged true []) ∷ [])
    ∷ (Fed (replicate 16 31) (replicate 32 123) ∷ [])
    ∷ (hears (Debug true (codes "a") []) ∷ Told (Debugged true (codes "a")) ∷ [])
    ∷ ((hears (KexEcdhReply (codes "key of h2") (194 ∷ replicate 31 4) (codes "right"))) ∷ says NewKeys ∷ Told (Completed 2) ∷ [])
    ∷ (Asked (AskGlobal (codes "g") true []) ∷ says (GlobalRequest (codes "g") true []) ∷ [])
    ∷ (hears NewKeys ∷ [])
    ∷ (Asked (AskOpen (codes "session") 5 4 []) ∷ says_on 3 (ChannelOpen (codes "session") 3 5 4 []) ∷ Told (Opening 3) ∷ [])
    ∷ (Asked (AskConfirm 0 5 6 []) ∷ says_on 0 (ChannelOpenConfirmation 7 0 5 6 []) ∷ [])
    ∷ (Asked (AskConfirm 1 5 4 []) ∷ says_on 1 (ChannelOpenConfirmation 1 1 5 4 []) ∷ [])
    ∷ (hears_on 3 (ChannelOpenConfirmation 3 5 12 5 []) ∷ Told (Confirmed 3 12 5 []) ∷ [])
    ∷ (Asked (AskData 1 None (codes "b")) ∷ says_on 1 (ChannelData 1 (codes "b")) ∷ [])
    ∷ (Asked (AskData 2 None (replicate 9 98)) ∷ AskRefused AskRefusal.NoChannel ∷ [])
    ∷ (Asked (AskConfirm 0 5 4 []) ∷ AskRefused AskRefusal.NoChannel ∷ [])
    ∷ (Asked (AskReply 0 true) ∷ AskRefused AskRefusal.NothingOwed ∷ [])
    ∷ (Asked (AskData 3 None []) ∷ says_on 3 (ChannelData 5 []) ∷ [])
    ∷ (Asked (AskAdjust 0 7) ∷ says_on 0 (ChannelWindowAdjust 7 7) ∷ [])
    ∷ (hears_on 1 (ChannelRequest 1 (codes "r") true (codes "abc")) ∷ Told (Requested 1 (codes "r") true (codes "abc")) ∷ [])
    ∷ (hears_on 1 (ChannelData 1 (codes "a")) ∷ Told (GotData 1 None (codes "a")) ∷ [])
    ∷ (Asked (AskEof 0) ∷ says_on 0 (ChannelEof 7) ∷ [])
    ∷ (hears_on 1 (ChannelEof 1) ∷ Told (Ended 1) ∷ [])
    ∷ (Asked (AskRequest 3 (codes "r") false []) ∷ says_on 3 (ChannelRequest 5 (codes "r") false []) ∷ [])
    ∷ (hears_on 3 (ChannelWindowAdjust 3 1) ∷ Told (Adjusted 3 1) ∷ [])
    ∷ (Asked AskRekey ∷ (Sent None (KexInit (with_cookie (replicate 16 31) (proposing (codes "k2" ∷ codes "k3" ∷ []) (codes "h2"
    ∷ []) (codes "e2" ∷ []) (codes "e2" ∷ []) (codes "m3" ∷ codes "m1" ∷ []) (codes "m3" ∷ codes "m1" ∷ [])))) (codes "offer 5")) ∷ [])
    ∷ (Fed (replicate 16 3) (replicate 32 126) ∷ [])
    ∷ (hears_on 0 (ChannelData 0 (codes "a")) ∷ Told (GotData 0 None (codes "a")) ∷ []) ∷ []

-- messages that might come at any moment
abbrev pub messages : List Msg
messages =
    (KexInit (proposing (codes "k2" ∷ codes "k3" ∷ []) (codes "h2" ∷ codes "h3" ∷ codes "h1" ∷ []) (codes "e2" ∷ codes "e1"
    ∷ []) (codes "e2" ∷ codes "e1" ∷ []) (codes "m3" ∷ codes "m1" ∷ []) (codes "m1" ∷ codes "m3" ∷ [])))
    ∷ (KexInit (proposing (codes "k2" ∷ codes "k3" ∷ []) (codes "h2" ∷ []) (codes "e2" ∷ codes "e1" ∷ []) (codes "e1" ∷ codes "e2"
    ∷ []) (codes "m3" ∷ codes "m2" ∷ codes "m1" ∷ []) (codes "m2" ∷ codes "m1" ∷ codes "m3" ∷ [])))
    ∷ (ChannelData 2 (codes "a"))
    ∷ (ChannelData 2 (codes "a"))
    ∷ (ChannelWindowAdjust 0 7)
    ∷ (KexEcdhReply (codes "key of h2") (replicate 32 194) (codes "right"))
    ∷ (KexEcdhReply (codes "key of h2") (0 ∷ 0 ∷ 0 ∷ replicate 29 106) (codes "right"))
    ∷ (KexEcdhReply (codes "key of h2") (0 ∷ 0 ∷ 0 ∷ replicate 29 140) (codes "right"))
    ∷ (ChannelClose 0)
    ∷ (KexEcdhInit (0 ∷ 0 ∷ 0 ∷ replicate 29 2))
    ∷ (ServiceRequest (codes "ssh-userauth"))
    ∷ (ChannelOpen (codes "session") 6 7 5 [])
    ∷ (Debug true (codes "abc") [])
    ∷ (UserauthSuccess) ∷ []

-- asks that might come at any moment
abbrev pub asks : List Ask
asks =
    (AskData 1 (Some 1) (codes "bbbb"))
    ∷ (AskData 2 (Some 1) [])
    ∷ (AskReply 0 false)
    ∷ (AskPassword (codes "u") (codes "q"))
    ∷ (AskRequest 0 (codes "r") true [])
    ∷ (AskEof 2)
    ∷ (AskOpen (codes "session") 11 8 [])
    ∷ (AskGlobal (codes "g") false [])
    ∷ (AskGlobalReply true (codes "x")) ∷ []

-- numbers that might come at any moment
abbrev pub numbers : List ℕ
numbers =
    5 ∷ 6 ∷ 31 ∷ 50 ∷ 51 ∷ 53 ∷ 54 ∷ 61 ∷ 79 ∷ 80 ∷ 82 ∷ 255 ∷ []

-- the text that is hashed in this exchange
abbrev pub text_0 : List ℕ
text_0 =
    0 ∷ 0 ∷ 0 ∷ 9 ∷ codes "SSH-2.0-c" ++ 0 ∷ 0 ∷ 0 ∷ 12 ∷ codes "SSH-2.0-peer" ++ 0 ∷ 0 ∷ 0 ∷ 7 ∷ codes "offer 1" ++ 0 ∷ 0 ∷ 0 ∷ 7
    ∷ codes "offer 2" ++ 0 ∷ 0 ∷ 0 ∷ 9 ∷ codes "key of h2" ++ 0 ∷ 0 ∷ 0 ∷ 32 ∷ replicate 32 200 ++ 0 ∷ 0 ∷ 0 ∷ 32 ∷ 200 ∷ 200 ∷ 200
    ∷ replicate 29 159 ++ mpint_of 0x5757575757575757575757575757575757575757575757575757575757

-- the text that is hashed in this exchange
abbrev pub text_1 : List ℕ
text_1 =
    0 ∷ 0 ∷ 0 ∷ 9 ∷ codes "SSH-2.0-c" ++ 0 ∷ 0 ∷ 0 ∷ 12 ∷ codes "SSH-2.0-peer" ++ 0 ∷ 0 ∷ 0 ∷ 7 ∷ codes "offer 4" ++ 0 ∷ 0 ∷ 0 ∷ 7
    ∷ codes "offer 3" ++ 0 ∷ 0 ∷ 0 ∷ 9 ∷ codes "key of h2" ++ 0 ∷ 0 ∷ 0 ∷ 32 ∷ replicate 32 194 ++ 0 ∷ 0 ∷ 0 ∷ 32 ∷ 194 ∷ replicate 31 4
    ++ mpint_of 0xc6c6c6c6c6c6c6c6c6c6c6c6c6c6c6c6c6c6c6c6c6c6c6c6c6c6c6c6c6c6c6
