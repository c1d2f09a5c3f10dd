-- A drawn session of a client, written by tools/second_reading.
use Rattle.ssh_model.specs.Protocol.Sessions.Parties.{Parties}
use Rattle.std.specs.Prelude.{List, ℕ, codes, ◌∷◌, [], false, replicate, None, true, Some, ◌++◌}
use Rattle.test_histories.specs.Words.{ends_of, with_cookie, proposing, says, hears, says_on, hears_on}
use Rattle.ssh_model.specs.declared.side.Side.TheVariants.{Client}
use Rattle.ssh_model.specs.declared.strictness.Strictness.TheVariants.{Off}
use Rattle.ssh_model.specs.Protocol.Sessions.Items.{Item, Item.Fed, Item.SentLine, Item.Sent, Item.TookOtherLine}
use Rattle.ssh_model.specs.Protocol.Sessions.Items.{Item.TookLine, Item.Took, Item.Told, Fact.NotImplemented, Item.Asked}
use Rattle.ssh_model.specs.Protocol.Sessions.Items.{Ask.AskPassword, Item.AskRefused, Fact.Completed, Ask.AskService}
use Rattle.ssh_model.specs.Protocol.Sessions.Items.{Fact.Service, Fact.Ignored, Fact.Banner, Fact.Debugged, Ask.AskProbe}
use Rattle.ssh_model.specs.Protocol.Sessions.Items.{Fact.Authenticated, Ask.AskOpen, Fact.Opening, Fact.Confirmed}
use Rattle.ssh_model.specs.Protocol.Sessions.Items.{Fact.Requested, Fact.Ended, Fact.Closed, Fact.GotData, Ask.AskRequest}
use Rattle.ssh_model.specs.Protocol.Sessions.Items.{Fact.Adjusted, Ask.AskGlobal, Ask.AskData, Ask.AskSign, Ask.AskRekey}
use Rattle.ssh_model.specs.Protocol.Sessions.Items.{Fact.GlobalDone, Ask.AskDisconnect, Item.Died, Ask, Ask.AskConfirm}
use Rattle.ssh_model.specs.Protocol.Sessions.Items.{Ask.AskNone}
use Rattle.ssh_model.specs.Protocol.Wire.Message.{Msg.KexInit, Msg.KexEcdhInit, Msg.Unimplemented, Msg.KexEcdhReply}
use Rattle.ssh_model.specs.Protocol.Wire.Message.{Msg.NewKeys, Msg.ServiceRequest, Msg.ServiceAccept, Msg.Ignore}
use Rattle.ssh_model.specs.Protocol.Wire.Message.{Msg.UserauthBanner, Msg.Debug, Msg.Unknown, Msg.UserauthRequest}
use Rattle.ssh_model.specs.Protocol.Wire.Message.{Method.Publickey, Msg.UserauthSuccess, Msg.ChannelOpen}
use Rattle.ssh_model.specs.Protocol.Wire.Message.{Msg.ChannelOpenConfirmation, Msg.ChannelRequest, Msg.ChannelEof}
use Rattle.ssh_model.specs.Protocol.Wire.Message.{Msg.ChannelClose, Msg.ChannelData, Msg.ChannelWindowAdjust}
use Rattle.ssh_model.specs.Protocol.Wire.Message.{Msg.GlobalRequest, Msg.ChannelExtendedData, Msg.RequestFailure}
use Rattle.ssh_model.specs.Protocol.Wire.Message.{Msg.Disconnect, Msg, Msg.UserauthPkOk}
use Rattle.ssh_model.specs.declared.ask_refusal.AskRefusal.{AskRefusal}
use Rattle.ssh_model.specs.declared.request_kind.RequestKind.TheVariants as kind
use Rattle.ssh_model.specs.Protocol.KeyExchange.Exchange.{mpint_of}

-- the ends, of which the client has drawn settings
abbrev pub ends : Parties (List ℕ)
ends = ends_of Client (record {
  line = codes "SSH-2.0-c";
  kex = codes "k2" ∷ codes "k1" ∷ [];
  host = codes "h2" ∷ [];
  encryption = codes "e2" ∷ [];
  mac = codes "m3" ∷ codes "m1" ∷ [];
  epoch_limit = 10;
  tries = 1;
  methods = codes "publickey" ∷ codes "password" ∷ [];
  strictness = Off;
  takes_extensions = false;
  extensions = [];
})

-- the turns
abbrev pub turns : List (List Item)
turns =
    (Fed (replicate 16 132) (replicate 32 111) ∷ SentLine (codes "SSH-2.0-c")
    ∷ (Sent None (KexInit (with_cookie (replicate 16 132) (proposing (codes "k2" ∷ codes "k1" ∷ []) (codes "h2" ∷ []) (codes "e2"
    ∷ []) (codes "e2" ∷ []) (codes "m3" ∷ codes "m1" ∷ []) (codes "m3" ∷ codes "m1" ∷ [])))) (codes "offer 1")) ∷ [])
    ∷ (TookOtherLine (codes "hello") ∷ [])
    ∷ (TookLine (codes "SSH-2.0-peer") ∷ [])
    ∷ ((Took None (KexInit (proposing (codes "kex-strict-s-v00@openssh.com" ∷ codes "k2" ∷ codes "k1" ∷ []) (codes "h2" ∷ []) (codes "e1"
    ∷ codes "e2" ∷ []) (codes "e2" ∷ codes "e1" ∷ []) (codes "m1" ∷ codes "m3" ∷ []) (codes "m2" ∷ codes "m1" ∷ codes "m3"
    ∷ []))) (codes "offer 2")) ∷ says (KexEcdhInit (replicate 32 111)) ∷ [])
    ∷ (hears (Unimplemented 9) ∷ Told (NotImplemented 9) ∷ [])
    ∷ (Asked (AskPassword (codes "u") (codes "p")) ∷ AskRefused AskRefusal.NotYet ∷ [])
    ∷ (hears (Unimplemented 1) ∷ Told (NotImplemented 1) ∷ [])
    ∷ ((hears (KexEcdhReply (codes "key of h2") (111 ∷ replicate 31 132) (codes "right"))) ∷ says NewKeys ∷ Told (Completed 1) ∷ [])
    ∷ (hears NewKeys ∷ [])
    ∷ (Asked AskService ∷ says (ServiceRequest (codes "ssh-userauth")) ∷ [])
    ∷ (hears (Unimplemented 8) ∷ Told (NotImplemented 8) ∷ [])
    ∷ (hears (ServiceAccept (codes "ssh-userauth")) ∷ Told Service ∷ [])
    ∷ (hears (Ignore (codes "a")) ∷ Told Ignored ∷ [])
    ∷ (hears (Unimplemented 2) ∷ Told (NotImplemented 2) ∷ [])
    ∷ (hears (UserauthBanner (codes "abc") []) ∷ Told (Banner (codes "abc")) ∷ [])
    ∷ (Asked AskService ∷ AskRefused AskRefusal.Busy ∷ [])
    ∷ (hears (Debug true (codes "abc") []) ∷ Told (Debugged true (codes "abc")) ∷ [])
    ∷ (hears (Unknown 32) ∷ says (Unimplemented 11) ∷ [])
    ∷ (hears (UserauthBanner [] []) ∷ Told (Banner []) ∷ [])
    ∷ (Asked AskService ∷ AskRefused AskRefusal.Busy ∷ [])
    ∷ (Asked (AskProbe (codes "u") (codes "alg") (codes "k"))
    ∷ says (UserauthRequest (codes "u") (codes "ssh-connection") (Publickey (codes "alg") (codes "k") None)) ∷ [])
    ∷ (hears UserauthSuccess ∷ Told (Authenticated kind.Probe) ∷ [])
    ∷ (Asked (AskOpen (codes "session") 6 4 []) ∷ says_on 1 (ChannelOpen (codes "session") 1 6 4 []) ∷ Told (Opening 1) ∷ [])
    ∷ (Asked (AskOpen (codes "session") 4 6 []) ∷ says_on 0 (ChannelOpen (codes "session") 0 4 6 []) ∷ Told (Opening 0) ∷ [])
    ∷ (hears_on 1 (ChannelOpenConfirmation 1 8 7 7 []) ∷ Told (Confirmed 1 7 7 []) ∷ [])
    ∷ (hears_on 1 (ChannelRequest 1 (codes "r") true (codes "abc")) ∷ Told (Requested 1 (codes "r") true (codes "abc")) ∷ [])
    ∷ (hears_on 1 (ChannelEof 1) ∷ Told (Ended 1) ∷ [])
    ∷ (hears_on 1 (ChannelClose 1) ∷ says_on 1 (ChannelClose 8) ∷ Told (Closed 1) ∷ [])
    ∷ (hears_on 0 (ChannelOpenConfirmation 0 5 5 7 []) ∷ Told (Confirmed 0 5 7 []) ∷ [])
    ∷ (Asked (AskOpen (codes "session") 7 6 []) ∷ says_on 2 (ChannelOpen (codes "session") 2 7 6 []) ∷ Told (Opening 2) ∷ [])
    ∷ (hears_on 0 (ChannelRequest 0 (codes "r") true []) ∷ Told (Requested 0 (codes "r") true []) ∷ [])
    ∷ (Fed (replicate 16 198) (replicate 32 197) ∷ [])
    ∷ (hears_on 0 (ChannelData 0 (codes "a")) ∷ Told (GotData 0 None (codes "a")) ∷ [])
    ∷ (Asked (AskRequest 0 (codes "r") true []) ∷ says_on 0 (ChannelRequest 5 (codes "r") true []) ∷ [])
    ∷ (hears_on 0 (ChannelWindowAdjust 0 7) ∷ Told (Adjusted 0 7) ∷ [])
    ∷ (hears_on 2 (ChannelOpenConfirmation 2 4 9 4 []) ∷ Told (Confirmed 2 9 4 []) ∷ [])
    ∷ ((Took None (KexInit (proposing (codes "k2" ∷ codes "k1" ∷ []) (codes "h1" ∷ codes "h2" ∷ codes "h3" ∷ []) (codes "e1" ∷ codes "e2"
    ∷ []) (codes "e1" ∷ codes "e2" ∷ []) (codes "m1" ∷ codes "m3" ∷ []) (codes "m1" ∷ codes "m3" ∷ []))) (codes "offer 3"))
    ∷ (Sent None (KexInit (with_cookie (replicate 16 198) (proposing (codes "k2" ∷ codes "k1" ∷ []) (codes "h2" ∷ []) (codes "e2"
    ∷ []) (codes "e2" ∷ []) (codes "m3" ∷ codes "m1" ∷ []) (codes "m3" ∷ codes "m1" ∷ [])))) (codes "offer 4"))
    ∷ says (KexEcdhInit (replicate 32 197)) ∷ [])
    ∷ ((hears (KexEcdhReply (codes "key of h2") (197 ∷ 197 ∷ 197 ∷ replicate 29 146) (codes "right"))) ∷ says NewKeys ∷ Told (Completed 2)
    ∷ [])
    ∷ (Asked (AskGlobal (codes "g") true []) ∷ says (GlobalRequest (codes "g") true []) ∷ [])
    ∷ (Asked (AskData 0 (Some 1) (codes "b")) ∷ says_on 0 (ChannelExtendedData 5 1 (codes "b")) ∷ [])
    ∷ (Fed (replicate 16 113) (replicate 32 179) ∷ [])
    ∷ (hears NewKeys ∷ [])
    ∷ (Asked (AskData 0 (Some 1) (codes "bbbb")) ∷ says_on 0 (ChannelExtendedData 5 1 (codes "bbbb")) ∷ [])
    ∷ (hears (Ignore (codes "a")) ∷ Told Ignored ∷ [])
    ∷ (hears (Unknown 89) ∷ says (Unimplemented 27) ∷ [])
    ∷ (hears_on 2 (ChannelData 2 (codes "aaaa")) ∷ Told (GotData 2 None (codes "aaaa")) ∷ [])
    ∷ (Asked (AskData 2 (Some 1) (codes "bbbb")) ∷ says_on 2 (ChannelExtendedData 4 1 (codes "bbbb")) ∷ [])
    ∷ (Asked (AskSign (codes "u") (codes "alg") (codes "k")) ∷ AskRefused AskRefusal.Ended ∷ [])
    ∷ (hears_on 2 (ChannelData 2 []) ∷ Told (GotData 2 None []) ∷ [])
    ∷ (hears_on 2 (ChannelData 2 (codes "a")) ∷ Told (GotData 2 None (codes "a")) ∷ [])
    ∷ (hears_on 0 (ChannelClose 0) ∷ says_on 0 (ChannelClose 5) ∷ Told (Closed 0) ∷ [])
    ∷ (hears_on 2 (ChannelClose 2) ∷ says_on 2 (ChannelClose 4) ∷ Told (Closed 2) ∷ [])
    ∷ (Asked (AskOpen (codes "session") 10 8 []) ∷ says_on 0 (ChannelOpen (codes "session") 0 10 8 []) ∷ Told (Opening 0) ∷ [])
    ∷ (Asked AskRekey ∷ (Sent None (KexInit (with_cookie (replicate 16 113) (proposing (codes "k2" ∷ codes "k1" ∷ []) (codes "h2"
    ∷ []) (codes "e2" ∷ []) (codes "e2" ∷ []) (codes "m3" ∷ codes "m1" ∷ []) (codes "m3" ∷ codes "m1" ∷ [])))) (codes "offer 5")) ∷ [])
    ∷ (hears RequestFailure ∷ Told (GlobalDone false []) ∷ [])
    ∷ (Asked (AskDisconnect (codes "bye")) ∷ says (Disconnect 11 (codes "bye") []) ∷ Died ∷ []) ∷ []

-- messages that might come at any moment
abbrev pub messages : List Msg
messages =
    (KexInit (proposing (codes "k1" ∷ codes "k2" ∷ []) (codes "h2" ∷ []) (codes "e2" ∷ codes "e1" ∷ []) (codes "e1" ∷ codes "e2"
    ∷ []) (codes "m2" ∷ codes "m3" ∷ codes "m1" ∷ []) (codes "m3" ∷ codes "m2" ∷ [])))
    ∷ (KexInit (proposing (codes "k1" ∷ codes "k2" ∷ []) (codes "h2" ∷ codes "h3" ∷ []) (codes "e1" ∷ codes "e2" ∷ []) (codes "e2"
    ∷ codes "e1" ∷ []) (codes "m2" ∷ codes "m1" ∷ []) (codes "m1" ∷ codes "m2" ∷ [])))
    ∷ (ChannelData 2 [])
    ∷ (ChannelData 1 [])
    ∷ (ChannelWindowAdjust 1 0)
    ∷ (KexEcdhReply (codes "key of h2") (replicate 31 57) (codes "right"))
    ∷ (KexEcdhReply (codes "key of h2") (replicate 32 78) (codes "right"))
    ∷ (KexEcdhReply (codes "key of h") (replicate 31 29) (codes "right"))
    ∷ (UserauthPkOk (codes "alg") (codes "k"))
    ∷ (NewKeys)
    ∷ (UserauthBanner (codes "a") [])
    ∷ (Unknown 32)
    ∷ (Ignore [])
    ∷ (ChannelOpen (codes "session") 8 5 7 []) ∷ []

-- asks that might come at any moment
abbrev pub asks : List Ask
asks =
    (AskData 1 (Some 1) (codes "bbbbbb"))
    ∷ (AskData 2 (Some 1) (codes "bbbb"))
    ∷ (AskConfirm 0 11 0 [])
    ∷ (AskNone (codes "guest"))
    ∷ (AskDisconnect (codes "bye"))
    ∷ (AskRequest 2 (codes "r") true [])
    ∷ (AskOpen (codes "session") 10 32769 [])
    ∷ (AskPassword (codes "u") (codes "q"))
    ∷ (AskProbe (codes "u") (codes "alg") (codes "k")) ∷ []

-- numbers that might come at any moment
abbrev pub numbers : List ℕ
numbers =
    5 ∷ 21 ∷ 31 ∷ 32 ∷ 52 ∷ 61 ∷ 79 ∷ 80 ∷ 82 ∷ 83 ∷ 90 ∷ 192 ∷ []

-- the text that is hashed in this exchange
abbrev pub text_0 : List ℕ
text_0 =
    0 ∷ 0 ∷ 0 ∷ 9 ∷ codes "SSH-2.0-c" ++ 0 ∷ 0 ∷ 0 ∷ 12 ∷ codes "SSH-2.0-peer" ++ 0 ∷ 0 ∷ 0 ∷ 7 ∷ codes "offer 1" ++ 0 ∷ 0 ∷ 0 ∷ 7
    ∷ codes "offer 2" ++ 0 ∷ 0 ∷ 0 ∷ 9 ∷ codes "key of h2" ++ 0 ∷ 0 ∷ 0 ∷ codes " oooooooooooooooooooooooooooooooo" ++ 0 ∷ 0 ∷ 0 ∷ 32 ∷ 111
    ∷ replicate 31 132 ++ mpint_of 0xebebebebebebebebebebebebebebebebebebebebebebebebebebebebebebeb

-- the text that is hashed in this exchange
abbrev pub text_1 : List ℕ
text_1 =
    0 ∷ 0 ∷ 0 ∷ 9 ∷ codes "SSH-2.0-c" ++ 0 ∷ 0 ∷ 0 ∷ 12 ∷ codes "SSH-2.0-peer" ++ 0 ∷ 0 ∷ 0 ∷ 7 ∷ codes "offer 4" ++ 0 ∷ 0 ∷ 0 ∷ 7
    ∷ codes "offer 3" ++ 0 ∷ 0 ∷ 0 ∷ 9 ∷ codes "key of h2" ++ 0 ∷ 0 ∷ 0 ∷ 32 ∷ replicate 32 197 ++ 0 ∷ 0 ∷ 0 ∷ 32 ∷ 197 ∷ 197 ∷ 197
    ∷ replicate 29 146 ++ mpint_of 0x5757575757575757575757575757575757575757575757575757575757
