-- A drawn session of a client, written by tools/second_reading.
use Rattle.ssh_model.specs.Protocol.Sessions.Parties.{Parties}
use Rattle.std.specs.Prelude.{List, ℕ, codes, ◌∷◌, [], false, replicate, None, Some, true}
use Rattle.test_histories.specs.Words.{ends_of, with_cookie, proposing, says}
use Rattle.ssh_model.specs.declared.side.Side.TheVariants.{Client}
use Rattle.ssh_model.specs.declared.strictness.Strictness.TheVariants.{Require}
use Rattle.ssh_model.specs.Protocol.Sessions.Items.{Item, Item.Fed, Item.SentLine, Item.Sent, Item.TookLine, Item.Took}
use Rattle.ssh_model.specs.Protocol.Sessions.Items.{Item.Asked, Ask.AskPassword, Item.AskRefused, Item.Refused, Item.Died}
use Rattle.ssh_model.specs.Protocol.Sessions.Items.{Ask, Ask.AskData, Ask.AskSign, Ask.AskReply, Ask.AskOpen, Ask.AskRefuse}
use Rattle.ssh_model.specs.Protocol.Sessions.Items.{Ask.AskRequest, Ask.AskClose}
use Rattle.ssh_model.specs.Protocol.Wire.Message.{Msg.KexInit, Msg.KexEcdhInit, Msg.Disconnect, Msg, Msg.ChannelData}
use Rattle.ssh_model.specs.Protocol.Wire.Message.{Msg.ChannelWindowAdjust, Msg.KexEcdhReply, Msg.Unknown, Msg.Unimplemented}
use Rattle.ssh_model.specs.Protocol.Wire.Message.{Msg.ChannelClose, Msg.ChannelEof, Msg.ChannelSuccess, Msg.UserauthSuccess}
use Rattle.ssh_model.specs.declared.ask_refusal.AskRefusal.{AskRefusal}
use Rattle.ssh_model.specs.declared.refusal.Refusal.{Refusal}

-- the ends, of which the client has drawn settings
abbrev pub ends : Parties (List ℕ)
ends = ends_of Client (record {
  line = codes "SSH-2.0-c";
  kex = codes "k3" ∷ codes "k2" ∷ [];
  host = codes "h2" ∷ codes "h1" ∷ [];
  encryption = codes "e2" ∷ [];
  mac = codes "m1" ∷ codes "m2" ∷ [];
  epoch_limit = 7;
  tries = 1;
  methods = codes "publickey" ∷ codes "password" ∷ [];
  strictness = Require;
  takes_extensions = false;
  extensions = record { name = codes "x"; value = codes "y" } ∷ [];
})

-- the turns
abbrev pub turns : List (List Item)
turns =
    (Fed (replicate 16 231) (replicate 32 166) ∷ SentLine (codes "SSH-2.0-c")
    ∷ (Sent None (KexInit (with_cookie (replicate 16 231) (proposing (codes "k3" ∷ codes "k2" ∷ codes "kex-strict-c-v00@openssh.com"
    ∷ []) (codes "h2" ∷ codes "h1" ∷ []) (codes "e2" ∷ []) (codes "e2" ∷ []) (codes "m1" ∷ codes "m2" ∷ []) (codes "m1" ∷ codes "m2"
    ∷ [])))) (codes "offer 1")) ∷ [])
    ∷ (TookLine (codes "SSH-2.0-peer") ∷ [])
    ∷ ((Took None (KexInit (proposing (codes "k3" ∷ codes "k2" ∷ codes "kex-strict-s-v00@openssh.com" ∷ []) (codes "h2" ∷ codes "h1"
    ∷ []) (codes "e1" ∷ codes "e2" ∷ []) (codes "e1" ∷ codes "e2" ∷ []) (codes "m3" ∷ codes "m2" ∷ codes "m1" ∷ []) (codes "m1" ∷ codes "m2"
    ∷ codes "m3" ∷ []))) (codes "offer 2")) ∷ says (KexEcdhInit (replicate 32 166)) ∷ [])
    ∷ (Asked (AskPassword (codes "u") (codes "p")) ∷ AskRefused AskRefusal.NotYet ∷ [])
    ∷ (Refused Refusal.Unexpected (Some []) ∷ says (Disconnect 2 (codes "Unexpected") []) ∷ Died ∷ []) ∷ []

-- messages that might come at any moment
abbrev pub messages : List Msg
messages =
    (KexInit (proposing (codes "k3" ∷ codes "k2" ∷ []) (codes "h2" ∷ codes "h1" ∷ []) (codes "e2" ∷ codes "e1" ∷ []) (codes "e2"
    ∷ codes "e1" ∷ []) (codes "m1" ∷ codes "m3" ∷ []) (codes "m1" ∷ codes "m3" ∷ [])))
    ∷ (KexInit (proposing (codes "k3" ∷ codes "k2" ∷ []) (codes "h1" ∷ codes "h2" ∷ []) (codes "e1" ∷ codes "e2" ∷ []) (codes "e2"
    ∷ codes "e1" ∷ []) (codes "m2" ∷ codes "m1" ∷ []) (codes "m2" ∷ codes "m3" ∷ [])))
    ∷ (ChannelData 1 (codes "aaaa"))
    ∷ (ChannelData 1 (codes "a"))
    ∷ (ChannelWindowAdjust 0 1)
    ∷ (KexEcdhReply (codes "key of h") (replicate 31 91) (codes "right"))
    ∷ (KexEcdhReply (codes "key of h") (replicate 32 23) (codes "right"))
    ∷ (KexEcdhReply (codes "key of h1") (166 ∷ replicate 31 3) (codes "right"))
    ∷ (Unknown 29)
    ∷ (Unimplemented 6)
    ∷ (ChannelClose 0)
    ∷ (ChannelEof 0)
    ∷ (ChannelSuccess 1)
    ∷ (UserauthSuccess) ∷ []

-- asks that might come at any moment
abbrev pub asks : List Ask
asks =
    (AskData 0 (Some 1) (codes "b"))
    ∷ (AskData 0 None (codes "bbbb"))
    ∷ (AskSign (codes "u") (codes "alg") (codes "k"))
    ∷ (AskReply 0 true)
    ∷ (AskOpen (codes "session") 8 4 [])
    ∷ (AskRefuse 0 1)
    ∷ (AskPassword (codes "u") (codes "q"))
    ∷ (AskRequest 1 (codes "r") true [])
    ∷ (AskClose 2) ∷ []

-- numbers that might come at any moment
abbrev pub numbers : List ℕ
numbers =
    0 ∷ 7 ∷ 8 ∷ 20 ∷ 29 ∷ 30 ∷ 31 ∷ 50 ∷ 53 ∷ 191 ∷ 192 ∷ 255 ∷ []
