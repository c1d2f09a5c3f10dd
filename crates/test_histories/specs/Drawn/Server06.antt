-- A drawn session of a server, written by tools/second_reading.
use Rattle.ssh_model.specs.Protocol.Sessions.Parties.{Parties}
use Rattle.std.specs.Prelude.{List, ℕ, codes, ◌∷◌, [], false, replicate, None, Some, true, ◌++◌}
use Rattle.test_histories.specs.Words.{ends_of, with_cookie, proposing, guessing, hears, says, hears_on, says_on}
use Rattle.ssh_model.specs.declared.side.Side.TheVariants.{Server}
use Rattle.ssh_model.specs.declared.strictness.Strictness.TheVariants.{Require}
use Rattle.ssh_model.specs.Protocol.Sessions.Items.{Item, Item.Fed, Item.SentLine, Item.Sent, Item.TookLine, Item.Took}
use Rattle.ssh_model.specs.Protocol.Sessions.Items.{Item.TookGuess, Item.Told, Fact.Ignored, Fact.Completed, Fact.Accepted}
use Rattle.ssh_model.specs.Protocol.Sessions.Items.{Credential.ByKey, Fact.Opened, Item.Asked, Ask.AskGlobal}
use Rattle.ssh_model.specs.Protocol.Sessions.Items.{Fact.GlobalDone, Ask.AskConfirm, Ask.AskData, Fact.GotData, Ask.AskClose}
use Rattle.ssh_model.specs.Protocol.Sessions.Items.{Ask.AskOpen, Fact.Opening, Ask.AskRekey, Fact.Confirmed, Fact.Closed}
use Rattle.ssh_model.specs.Protocol.Sessions.Items.{Item.Refused, Item.Died, Ask, Ask.AskSign, Ask.AskAdjust}
use Rattle.ssh_model.specs.Protocol.Sessions.Items.{Ask.AskPassword, Ask.AskRefuse, Ask.AskEof}
use Rattle.ssh_model.specs.Protocol.Wire.Message.{Msg.KexInit, Msg.KexEcdhInit, Msg.KexEcdhReply, Msg.NewKeys, Msg.Ignore}
use Rattle.ssh_model.specs.Protocol.Wire.Message.{Msg.ServiceRequest, Msg.ServiceAccept, Msg.UserauthRequest}
use Rattle.ssh_model.specs.Protocol.Wire.Message.{Method.Publickey, Msg.UserauthSuccess, Msg.ChannelOpen, Msg.GlobalRequest}
use Rattle.ssh_model.specs.Protocol.Wire.Message.{Msg.RequestSuccess, Msg.ChannelOpenConfirmation, Msg.ChannelExtendedData}
use Rattle.ssh_model.specs.Protocol.Wire.Message.{Msg.ChannelData, Msg.ChannelClose, Msg.Disconnect, Msg}
use Rattle.ssh_model.specs.Protocol.Wire.Message.{Msg.ChannelWindowAdjust, Method.Password, Msg.ChannelRequest, Msg.Unknown}
use Rattle.ssh_model.specs.Protocol.Wire.Message.{Msg.ExtInfo}
use Rattle.ssh_model.specs.declared.refusal.Refusal.{Refusal}
use Rattle.ssh_model.specs.Protocol.KeyExchange.Exchange.{mpint_of}

-- the ends, of which the server has drawn settings
abbrev pub ends : Parties (List ℕ)
ends = ends_of Server (record {
  line = codes "SSH-2.0-s";
  kex = codes "k3" ∷ [];
  host = codes "h3" ∷ codes "h1" ∷ codes "h2" ∷ [];
  encryption = codes "e1" ∷ [];
  mac = codes "m1" ∷ [];
  epoch_limit = 11;
  tries = 2;
  methods = codes "publickey" ∷ codes "password" ∷ [];
  strictness = Require;
  takes_extensions = false;
  extensions = [];
})

-- the turns
abbrev pub turns : List (List Item)
turns =
    (Fed (replicate 16 163) (replicate 32 134) ∷ SentLine (codes "SSH-2.0-s")
    ∷ (Sent None (KexInit (with_cookie (replicate 16 163) (proposing (codes "k3" ∷ codes "kex-strict-s-v00@openssh.com" ∷ []) (codes "h3"
    ∷ codes "h1" ∷ codes "h2" ∷ []) (codes "e1" ∷ []) (codes "e1" ∷ []) (codes "m1" ∷ []) (codes "m1" ∷ [])))) (codes "offer 1")) ∷ [])
    ∷ (TookLine (codes "SSH-2.0-peer") ∷ [])
    ∷ ((Took None (KexInit (guessing (codes "k3" ∷ codes "kex-strict-c-v00@openssh.com" ∷ []) (codes "h1" ∷ codes "h3" ∷ []) (codes "e1"
    ∷ codes "e2" ∷ []) (codes "e2" ∷ codes "e1" ∷ []) (codes "m2" ∷ codes "m3" ∷ codes "m1" ∷ []) (codes "m3" ∷ codes "m2" ∷ codes "m1"
    ∷ []))) (codes "offer 2")) ∷ [])
    ∷ (TookGuess [] ∷ Told Ignored ∷ [])
    ∷ (hears (KexEcdhInit (replicate 32 168)) ∷ says (KexEcdhReply (codes "key of h1") (replicate 32 134) (codes "right")) ∷ says NewKeys
    ∷ Told (Completed 1) ∷ [])
    ∷ (hears NewKeys ∷ [])
    ∷ (hears (Ignore (codes "a")) ∷ Told Ignored ∷ [])
    ∷ (hears (ServiceRequest (codes "ssh-userauth")) ∷ says (ServiceAccept (codes "ssh-userauth")) ∷ [])
    ∷ (hears (UserauthRequest (codes "u") (codes "ssh-connection") (Publickey (codes "alg") (codes "k") (Some (codes "right"))))
    ∷ says UserauthSuccess ∷ Told (Accepted (codes "u") (ByKey (codes "alg") (codes "k"))) ∷ [])
    ∷ (hears_on 1 (ChannelOpen (codes "session") 7 7 6 []) ∷ Told (Opened 1 (codes "session") 7 6 []) ∷ [])
    ∷ (Asked (AskGlobal (codes "g") true []) ∷ says (GlobalRequest (codes "g") true []) ∷ [])
    ∷ (hears (RequestSuccess (codes "a")) ∷ Told (GlobalDone true (codes "a")) ∷ [])
    ∷ (Asked (AskConfirm 1 8 4 []) ∷ says_on 1 (ChannelOpenConfirmation 7 1 8 4 []) ∷ [])
    ∷ (Fed (replicate 16 43) (replicate 32 6) ∷ [])
    ∷ (Asked (AskData 1 (Some 1) (codes "b")) ∷ says_on 1 (ChannelExtendedData 7 1 (codes "b")) ∷ [])
    ∷ (hears_on 1 (ChannelData 1 []) ∷ Told (GotData 1 None []) ∷ [])
    ∷ (Asked (AskClose 1) ∷ says_on 1 (ChannelClose 7) ∷ [])
    ∷ (Asked (AskOpen (codes "session") 11 4 []) ∷ says_on 0 (ChannelOpen (codes "session") 0 11 4 []) ∷ Told (Opening 0) ∷ [])
    ∷ (Asked AskRekey ∷ (Sent None (KexInit (with_cookie (replicate 16 43) (proposing (codes "k3" ∷ []) (codes "h3" ∷ codes "h1"
    ∷ codes "h2" ∷ []) (codes "e1" ∷ []) (codes "e1" ∷ []) (codes "m1" ∷ []) (codes "m1" ∷ [])))) (codes "offer 3")) ∷ [])
    ∷ (hears_on 0 (ChannelOpenConfirmation 0 3 5 8 []) ∷ Told (Confirmed 0 5 8 []) ∷ [])
    ∷ (hears_on 0 (ChannelClose 0) ∷ Told (Closed 0) ∷ [])
    ∷ (Refused Refusal.Unexpected (Some []) ∷ says (Disconnect 2 (codes "Unexpected") []) ∷ Died ∷ []) ∷ []

-- messages that might come at any moment
abbrev pub messages : List Msg
messages =
    (KexInit (guessing (codes "k3" ∷ []) (codes "h2" ∷ codes "h1" ∷ codes "h3" ∷ []) (codes "e1" ∷ codes "e2" ∷ []) (codes "e2" ∷ codes "e1"
    ∷ []) (codes "m3" ∷ codes "m1" ∷ []) (codes "m2" ∷ codes "m3" ∷ codes "m1" ∷ [])))
    ∷ (KexInit (guessing (codes "k3" ∷ []) (codes "h3" ∷ codes "h1" ∷ codes "h2" ∷ []) (codes "e2" ∷ codes "e1" ∷ []) (codes "e1"
    ∷ codes "e2" ∷ []) (codes "m2" ∷ codes "m3" ∷ codes "m1" ∷ []) (codes "m3" ∷ codes "m1" ∷ codes "m2" ∷ [])))
    ∷ (ChannelData 0 [])
    ∷ (ChannelData 2 (codes "aaaa"))
    ∷ (ChannelWindowAdjust 2 7)
    ∷ (KexEcdhInit (replicate 33 219))
    ∷ (KexEcdhInit (replicate 31 208))
    ∷ (KexEcdhInit (replicate 31 83))
    ∷ (UserauthRequest (codes "u") (codes "ssh-userauth") (Publickey (codes "alg") (codes "k") (Some (codes "right"))))
    ∷ (UserauthRequest (codes "u") (codes "ssh-connection") (Password (codes "p") None))
    ∷ (UserauthRequest (codes "u") (codes "ssh-connection") (Password (codes "p") None))
    ∷ (UserauthSuccess)
    ∷ (ChannelRequest 1 (codes "r") true (codes "abc"))
    ∷ (Unknown 49)
    ∷ (ChannelOpen (codes "session") 6 4 8 [])
    ∷ (ExtInfo (record { name = codes "x"; value = [] } ∷ []))
    ∷ (Ignore []) ∷ []

-- asks that might come at any moment
abbrev pub asks : List Ask
asks =
    (AskData 0 None (codes "b"))
    ∷ (AskData 0 None [])
    ∷ (AskSign (codes "u") (codes "alg") (codes "k"))
    ∷ (AskClose 2)
    ∷ (AskAdjust 0 1)
    ∷ (AskPassword (codes "u") (codes "q"))
    ∷ (AskRekey)
    ∷ (AskRefuse 0 1)
    ∷ (AskEof 1) ∷ []

-- numbers that might come at any moment
abbrev pub numbers : List ℕ
numbers =
    1 ∷ 2 ∷ 5 ∷ 7 ∷ 19 ∷ 22 ∷ 32 ∷ 54 ∷ 60 ∷ 97 ∷ 100 ∷ 192 ∷ []

-- the text that is hashed in this exchange
abbrev pub text_0 : List ℕ
text_0 =
    0 ∷ 0 ∷ 0 ∷ 12 ∷ codes "SSH-2.0-peer" ++ 0 ∷ 0 ∷ 0 ∷ 9 ∷ codes "SSH-2.0-s" ++ 0 ∷ 0 ∷ 0 ∷ 7 ∷ codes "offer 2" ++ 0 ∷ 0 ∷ 0 ∷ 7
    ∷ codes "offer 1" ++ 0 ∷ 0 ∷ 0 ∷ 9 ∷ codes "key of h1" ++ 0 ∷ 0 ∷ 0 ∷ 32 ∷ replicate 32 168 ++ 0 ∷ 0 ∷ 0 ∷ 32 ∷ replicate 32 134
    ++ mpint_of 0x2e2e2e2e2e2e2e2e2e2e2e2e2e2e2e2e2e2e2e2e2e2e2e2e2e2e2e2e2e2e2e2e
