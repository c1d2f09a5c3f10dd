-- A drawn session of a server, written by tools/second_reading.
use Rattle.ssh_model.specs.Protocol.Sessions.Parties.{Parties}
use Rattle.std.specs.Prelude.{List, ℕ, codes, ◌∷◌, [], true, replicate, None, Some, false, ◌++◌}
use Rattle.test_histories.specs.Words.{ends_of, with_cookie, proposing, guessing, hears, says, hears_on, says_on}
use Rattle.ssh_model.specs.declared.side.Side.TheVariants.{Server}
use Rattle.ssh_model.specs.declared.strictness.Strictness.TheVariants.{Require}
use Rattle.ssh_model.specs.Protocol.Sessions.Items.{Item, Item.Fed, Item.SentLine, Item.Sent, Item.TookLine, Item.Took}
use Rattle.ssh_model.specs.Protocol.Sessions.Items.{Item.TookGuess, Item.Told, Fact.Ignored, Fact.Completed, Fact.Debugged}
use Rattle.ssh_model.specs.Protocol.Sessions.Items.{Fact.Accepted, Credential.ByKey, Fact.Opened, Item.Asked, Ask.AskRekey}
use Rattle.ssh_model.specs.Protocol.Sessions.Items.{Ask.AskConfirm, Ask.AskData, Fact.Requested, Fact.Closed}
use Rattle.ssh_model.specs.Protocol.Sessions.Items.{Fact.NotImplemented, Ask.AskAdjust, Item.AskRefused, Ask.AskRequest}
use Rattle.ssh_model.specs.Protocol.Sessions.Items.{Fact.GotData, Ask.AskEof, Ask.AskClose, Fact.Adjusted}
use Rattle.ssh_model.specs.Protocol.Sessions.Items.{Ask.AskGlobalReply, Ask.AskOpen, Fact.Opening, Ask.AskGlobal, Ask}
use Rattle.ssh_model.specs.Protocol.Sessions.Items.{Ask.AskRefuse, Ask.AskPassword}
use Rattle.ssh_model.specs.Protocol.Wire.Message.{Msg.KexInit, Msg.KexEcdhInit, Msg.KexEcdhReply, Msg.NewKeys}
use Rattle.ssh_model.specs.Protocol.Wire.Message.{Msg.ServiceRequest, Msg.ServiceAccept, Msg.UserauthRequest}
use Rattle.ssh_model.specs.Protocol.Wire.Message.{Method.Password, Msg.UserauthFailure, Msg.Debug, Method.Publickey}
use Rattle.ssh_model.specs.Protocol.Wire.Message.{Msg.UserauthSuccess, Msg.ChannelOpen, Msg.Ignore}
use Rattle.ssh_model.specs.Protocol.Wire.Message.{Msg.ChannelOpenConfirmation, Msg.ChannelData, Msg.ChannelExtendedData}
use Rattle.ssh_model.specs.Protocol.Wire.Message.{Msg.ChannelRequest, Msg.ChannelClose, Msg.Unimplemented, Msg.ChannelEof}
use Rattle.ssh_model.specs.Protocol.Wire.Message.{Msg.ChannelWindowAdjust, Msg.GlobalRequest, Msg, Msg.Disconnect}
use Rattle.ssh_model.specs.Protocol.Wire.Message.{Msg.RequestSuccess}
use Rattle.ssh_model.specs.declared.ask_refusal.AskRefusal.{AskRefusal}
use Rattle.ssh_model.specs.Protocol.KeyExchange.Exchange.{mpint_of}

-- the ends, of which the server has drawn settings
abbrev pub ends : Parties (List ℕ)
ends = ends_of Server (record {
  line = codes "SSH-2.0-s";
  kex = codes "k2" ∷ [];
  host = codes "h2" ∷ codes "h3" ∷ [];
  encryption = codes "e1" ∷ codes "e2" ∷ [];
  mac = codes "m3" ∷ codes "m2" ∷ [];
  epoch_limit = 10;
  tries = 1;
  methods = codes "publickey" ∷ [];
  strictness = Require;
  takes_extensions = true;
  extensions = [];
})

-- the turns
abbrev pub turns : List (List Item)
turns =
    (Fed (replicate 16 31) (replicate 32 234) ∷ SentLine (codes "SSH-2.0-s")
    ∷ (Sent None (KexInit (with_cookie (replicate 16 31) (proposing (codes "k2" ∷ codes "ext-info-s" ∷ codes "kex-strict-s-v00@openssh.com"
    ∷ []) (codes "h2" ∷ codes "h3" ∷ []) (codes "e1" ∷ codes "e2" ∷ []) (codes "e1" ∷ codes "e2" ∷ []) (codes "m3" ∷ codes "m2"
    ∷ []) (codes "m3" ∷ codes "m2" ∷ [])))) (codes "offer 1")) ∷ [])
    ∷ (TookLine (codes "SSH-2.0-peer") ∷ [])
    ∷ ((Took None (KexInit (guessing (codes "k2" ∷ codes "k3" ∷ codes "kex-strict-c-v00@openssh.com" ∷ []) (codes "h3" ∷ []) (codes "e2"
    ∷ codes "e1" ∷ []) (codes "e1" ∷ codes "e2" ∷ []) (codes "m1" ∷ codes "m2" ∷ []) (codes "m2" ∷ codes "m1" ∷ codes "m3"
    ∷ []))) (codes "offer 2")) ∷ [])
    ∷ (TookGuess [] ∷ Told Ignored ∷ [])
    ∷ ((hears (KexEcdhInit (234 ∷ 234 ∷ 234 ∷ replicate 29 31)))
    ∷ says (KexEcdhReply (codes "key of h3") (replicate 32 234) (codes "right")) ∷ says NewKeys ∷ Told (Completed 1) ∷ [])
    ∷ (hears NewKeys ∷ [])
    ∷ (hears (ServiceRequest (codes "ssh-userauth")) ∷ says (ServiceAccept (codes "ssh-userauth")) ∷ [])
    ∷ (hears (UserauthRequest (codes "u") (codes "ssh-connection") (Password (codes "p") (Some (codes "q"))))
    ∷ (says (UserauthFailure (codes "publickey" ∷ []) false)) ∷ [])
    ∷ (hears (Debug true (codes "a") []) ∷ Told (Debugged true (codes "a")) ∷ [])
    ∷ (hears (Debug true [] []) ∷ Told (Debugged true []) ∷ [])
    ∷ (hears (UserauthRequest (codes "u") (codes "ssh-connection") (Publickey (codes "alg") (codes "k") (Some (codes "right"))))
    ∷ says UserauthSuccess ∷ Told (Accepted (codes "u") (ByKey (codes "alg") (codes "k"))) ∷ [])
    ∷ (hears_on 0 (ChannelOpen (codes "session") 1 5 5 []) ∷ Told (Opened 0 (codes "session") 5 5 []) ∷ [])
    ∷ (hears_on 1 (ChannelOpen (codes "session") 5 5 6 []) ∷ Told (Opened 1 (codes "session") 5 6 []) ∷ [])
    ∷ (Fed (replicate 16 104) (replicate 32 156) ∷ [])
    ∷ (hears (Ignore (codes "a")) ∷ Told Ignored ∷ [])
    ∷ (Asked AskRekey ∷ (Sent None (KexInit (with_cookie (replicate 16 104) (proposing (codes "k2" ∷ []) (codes "h2" ∷ codes "h3"
    ∷ []) (codes "e1" ∷ codes "e2" ∷ []) (codes "e1" ∷ codes "e2" ∷ []) (codes "m3" ∷ codes "m2" ∷ []) (codes "m3" ∷ codes "m2"
    ∷ [])))) (codes "offer 3")) ∷ [])
    ∷ (hears (Ignore (codes "abc")) ∷ Told Ignored ∷ [])
    ∷ ((Took None (KexInit (proposing (codes "k2" ∷ []) (codes "h2" ∷ []) (codes "e1" ∷ codes "e2" ∷ []) (codes "e2" ∷ codes "e1"
    ∷ []) (codes "m2" ∷ codes "m1" ∷ []) (codes "m3" ∷ codes "m1" ∷ codes "m2" ∷ []))) (codes "offer 4")) ∷ [])
    ∷ ((hears (KexEcdhInit (156 ∷ replicate 31 151))) ∷ says (KexEcdhReply (codes "key of h2") (replicate 32 156) (codes "right"))
    ∷ says NewKeys ∷ Told (Completed 2) ∷ [])
    ∷ (Asked (AskConfirm 1 10 6 []) ∷ says_on 1 (ChannelOpenConfirmation 5 1 10 6 []) ∷ [])
    ∷ (Asked (AskData 1 None (codes "bbbb")) ∷ says_on 1 (ChannelData 5 (codes "bbbb")) ∷ [])
    ∷ (Asked (AskData 1 (Some 1) (codes "b")) ∷ says_on 1 (ChannelExtendedData 5 1 (codes "b")) ∷ [])
    ∷ (hears NewKeys ∷ [])
    ∷ (hears_on 1 (ChannelRequest 1 (codes "r") true (codes "a")) ∷ Told (Requested 1 (codes "r") true (codes "a")) ∷ [])
    ∷ (hears_on 1 (ChannelClose 1) ∷ says_on 1 (ChannelClose 5) ∷ Told (Closed 1) ∷ [])
    ∷ (hears (Unimplemented 8) ∷ Told (NotImplemented 8) ∷ [])
    ∷ (hears_on 2 (ChannelOpen (codes "session") 9 4 4 []) ∷ Told (Opened 2 (codes "session") 4 4 []) ∷ [])
    ∷ (Fed (replicate 16 242) (replicate 32 145) ∷ [])
    ∷ (Asked (AskConfirm 2 8 4 []) ∷ says_on 2 (ChannelOpenConfirmation 9 2 8 4 []) ∷ [])
    ∷ (Asked (AskAdjust 0 4294967288) ∷ AskRefused AskRefusal.NoChannel ∷ [])
    ∷ (Asked (AskData 0 (Some 1) (codes "bbbb")) ∷ AskRefused AskRefusal.NoChannel ∷ [])
    ∷ (Asked (AskRequest 2 (codes "r") true []) ∷ says_on 2 (ChannelRequest 9 (codes "r") true []) ∷ [])
    ∷ (hears_on 2 (ChannelExtendedData 2 1 (codes "aaaa")) ∷ Told (GotData 2 (Some 1) (codes "aaaa")) ∷ [])
    ∷ (Asked (AskEof 2) ∷ says_on 2 (ChannelEof 9) ∷ [])
    ∷ (hears_on 2 (ChannelExtendedData 2 1 (codes "a")) ∷ Told (GotData 2 (Some 1) (codes "a")) ∷ [])
    ∷ ((Took None (KexInit (guessing (codes "k2" ∷ []) (codes "h3" ∷ codes "h1" ∷ codes "h2" ∷ []) (codes "e2" ∷ codes "e1"
    ∷ []) (codes "e1" ∷ codes "e2" ∷ []) (codes "m2" ∷ codes "m3" ∷ codes "m1" ∷ []) (codes "m2" ∷ codes "m1" ∷ []))) (codes "offer 5"))
    ∷ (Sent None (KexInit (with_cookie (replicate 16 242) (proposing (codes "k2" ∷ []) (codes "h2" ∷ codes "h3" ∷ []) (codes "e1"
    ∷ codes "e2" ∷ []) (codes "e1" ∷ codes "e2" ∷ []) (codes "m3" ∷ codes "m2" ∷ []) (codes "m3" ∷ codes "m2" ∷ [])))) (codes "offer 6"))
    ∷ [])
    ∷ (TookGuess [] ∷ Told Ignored ∷ [])
    ∷ ((hears (KexEcdhInit (145 ∷ replicate 31 4))) ∷ says (KexEcdhReply (codes "key of h3") (replicate 32 145) (codes "right"))
    ∷ says NewKeys ∷ Told (Completed 3) ∷ [])
    ∷ (hears NewKeys ∷ [])
    ∷ (Asked (AskClose 2) ∷ says_on 2 (ChannelClose 9) ∷ [])
    ∷ (Asked (AskConfirm 0 4 4 []) ∷ says_on 0 (ChannelOpenConfirmation 1 0 4 4 []) ∷ [])
    ∷ (Asked (AskRequest 0 (codes "r") true []) ∷ says_on 0 (ChannelRequest 1 (codes "r") true []) ∷ [])
    ∷ (hears_on 2 (ChannelData 2 []) ∷ Told (GotData 2 None []) ∷ [])
    ∷ (Asked (AskData 0 None (codes "b")) ∷ says_on 0 (ChannelData 1 (codes "b")) ∷ [])
    ∷ (hears_on 2 (ChannelClose 2) ∷ Told (Closed 2) ∷ [])
    ∷ (hears_on 0 (ChannelExtendedData 0 1 (codes "a")) ∷ Told (GotData 0 (Some 1) (codes "a")) ∷ [])
    ∷ (Asked (AskData 0 None (codes "bbbb")) ∷ says_on 0 (ChannelData 1 (codes "bbbb")) ∷ [])
    ∷ (hears_on 0 (ChannelWindowAdjust 0 7) ∷ Told (Adjusted 0 7) ∷ [])
    ∷ (hears_on 0 (ChannelClose 0) ∷ says_on 0 (ChannelClose 1) ∷ Told (Closed 0) ∷ [])
    ∷ (Asked (AskGlobalReply false []) ∷ AskRefused AskRefusal.NothingOwed ∷ [])
    ∷ (hears_on 0 (ChannelOpen (codes "session") 1 6 4 []) ∷ Told (Opened 0 (codes "session") 6 4 []) ∷ [])
    ∷ (Asked (AskOpen (codes "session") 10 6 []) ∷ says_on 2 (ChannelOpen (codes "session") 2 10 6 []) ∷ Told (Opening 2) ∷ [])
    ∷ (Asked (AskOpen (codes "session") 8 32768 []) ∷ says_on 3 (ChannelOpen (codes "session") 3 8 32768 []) ∷ Told (Opening 3) ∷ [])
    ∷ (Asked (AskGlobal (codes "g") true []) ∷ says (GlobalRequest (codes "g") true []) ∷ [])
    ∷ (Fed (replicate 16 26) (replicate 32 56) ∷ [])
    ∷ (Asked (AskEof 0) ∷ AskRefused AskRefusal.NoChannel ∷ []) ∷ []

-- messages that might come at any moment
abbrev pub messages : List Msg
messages =
    (KexInit (proposing (codes "k2" ∷ []) (codes "h3" ∷ codes "h2" ∷ []) (codes "e1" ∷ codes "e2" ∷ []) (codes "e1" ∷ codes "e2"
    ∷ []) (codes "m1" ∷ codes "m2" ∷ []) (codes "m1" ∷ codes "m2" ∷ [])))
    ∷ (KexInit (guessing (codes "k2" ∷ []) (codes "h2" ∷ codes "h3" ∷ []) (codes "e1" ∷ codes "e2" ∷ []) (codes "e1" ∷ codes "e2"
    ∷ []) (codes "m1" ∷ codes "m3" ∷ []) (codes "m1" ∷ codes "m2" ∷ codes "m3" ∷ [])))
    ∷ (ChannelData 0 (replicate 9 97))
    ∷ (ChannelData 0 [])
    ∷ (ChannelWindowAdjust 1 20)
    ∷ (KexEcdhInit (156 ∷ replicate 31 173))
    ∷ (KexEcdhInit (replicate 33 208))
    ∷ (KexEcdhInit (234 ∷ replicate 31 98))
    ∷ (UserauthRequest (codes "u") (codes "ssh-connection") (Publickey (codes "alg") (codes "k") (Some (codes "right"))))
    ∷ (UserauthRequest (codes "guest") (codes "ssh-userauth") (Publickey (codes "alg") (codes "k") (Some (codes "right"))))
    ∷ (UserauthRequest (codes "u") (codes "ssh-connection") (Password (codes "p") None))
    ∷ (Disconnect 11 (codes "a") [])
    ∷ (GlobalRequest (codes "g") true (codes "a"))
    ∷ (RequestSuccess [])
    ∷ (Unimplemented 9)
    ∷ (ChannelOpenConfirmation 1 0 11 6 [])
    ∷ (ServiceAccept (codes "ssh-userauth")) ∷ []

-- asks that might come at any moment
abbrev pub asks : List Ask
asks =
    (AskData 0 None (codes "b"))
    ∷ (AskData 2 None (codes "b"))
    ∷ (AskRefuse 0 1)
    ∷ (AskGlobal (codes "g") true [])
    ∷ (AskAdjust 0 4294967295)
    ∷ (AskOpen (codes "session") 4 4 [])
    ∷ (AskEof 0)
    ∷ (AskPassword (codes "u") (codes "p"))
    ∷ (AskRekey) ∷ []

-- numbers that might come at any moment
abbrev pub numbers : List ℕ
numbers =
    0 ∷ 1 ∷ 2 ∷ 7 ∷ 20 ∷ 22 ∷ 29 ∷ 50 ∷ 61 ∷ 80 ∷ 83 ∷ 90 ∷ []

-- the text that is hashed in this exchange
abbrev pub text_0 : List ℕ
text_0 =
    0 ∷ 0 ∷ 0 ∷ 12 ∷ codes "SSH-2.0-peer" ++ 0 ∷ 0 ∷ 0 ∷ 9 ∷ codes "SSH-2.0-s" ++ 0 ∷ 0 ∷ 0 ∷ 7 ∷ codes "offer 2" ++ 0 ∷ 0 ∷ 0 ∷ 7
    ∷ codes "offer 1" ++ 0 ∷ 0 ∷ 0 ∷ 9 ∷ codes "key of h3" ++ 0 ∷ 0 ∷ 0 ∷ 32 ∷ 234 ∷ 234 ∷ 234 ∷ replicate 29 31 ++ 0 ∷ 0 ∷ 0 ∷ 32
    ∷ replicate 32 234 ++ mpint_of 0xf5f5f5f5f5f5f5f5f5f5f5f5f5f5f5f5f5f5f5f5f5f5f5f5f5f5f5f5f5

-- the text that is hashed in this exchange
abbrev pub text_1 : List ℕ
text_1 =
    0 ∷ 0 ∷ 0 ∷ 12 ∷ codes "SSH-2.0-peer" ++ 0 ∷ 0 ∷ 0 ∷ 9 ∷ codes "SSH-2.0-s" ++ 0 ∷ 0 ∷ 0 ∷ 7 ∷ codes "offer 4" ++ 0 ∷ 0 ∷ 0 ∷ 7
    ∷ codes "offer 3" ++ 0 ∷ 0 ∷ 0 ∷ 9 ∷ codes "key of h2" ++ 0 ∷ 0 ∷ 0 ∷ 32 ∷ 156 ∷ replicate 31 151 ++ 0 ∷ 0 ∷ 0 ∷ 32 ∷ replicate 32 156
    ++ mpint_of 0xb0b0b0b0b0b0b0b0b0b0b0b0b0b0b0b0b0b0b0b0b0b0b0b0b0b0b0b0b0b0b

-- the text that is hashed in this exchange
abbrev pub text_2 : List ℕ
text_2 =
    0 ∷ 0 ∷ 0 ∷ 12 ∷ codes "SSH-2.0-peer" ++ 0 ∷ 0 ∷ 0 ∷ 9 ∷ codes "SSH-2.0-s" ++ 0 ∷ 0 ∷ 0 ∷ 7 ∷ codes "offer 5" ++ 0 ∷ 0 ∷ 0 ∷ 7
    ∷ codes "offer 6" ++ 0 ∷ 0 ∷ 0 ∷ 9 ∷ codes "key of h3" ++ 0 ∷ 0 ∷ 0 ∷ 32 ∷ 145 ∷ replicate 31 4 ++ 0 ∷ 0 ∷ 0 ∷ 32 ∷ replicate 32 145
    ++ mpint_of 0x95959595959595959595959595959595959595959595959595959595959595
