-- A drawn session of a server, written by tools/second_reading.
use Rattle.ssh_model.specs.Protocol.Sessions.Parties.{Parties}
use Rattle.std.specs.Prelude.{List, ℕ, codes, ◌∷◌, [], false, replicate, true}
use Rattle.test_histories.specs.Words.{ends_of, hears, says, hears_on, says_on}
use Rattle.ssh_model.specs.declared.side.Side.TheVariants.{Server}
use Rattle.ssh_model.specs.declared.strictness.Strictness.TheVariants.{Off}
use Rattle.ssh_model.specs.Protocol.Sessions.Items.{Item, Ask, Ask.AskGlobal, Ask.AskRequest, Ask.AskReply}
use Rattle.ssh_model.specs.Protocol.Sessions.Items.{Ask.AskGlobalReply, Ask.AskDisconnect, Ask.AskOpen}
use Rattle.ssh_model.specs.Protocol.Wire.Message.{Msg.NewKeys, Msg.UserauthSuccess, Msg.ChannelOpen}
use Rattle.ssh_model.specs.Protocol.Wire.Message.{Msg.ChannelOpenConfirmation, Msg.GlobalRequest, Msg.RequestFailure}
use Rattle.ssh_model.specs.Protocol.Wire.Message.{Msg.RequestSuccess, Msg.ChannelRequest, Msg.ChannelFailure}
use Rattle.ssh_model.specs.Protocol.Wire.Message.{Msg.ChannelSuccess, Msg.ChannelClose, Msg.ChannelData, Msg.ChannelEof, Msg}

-- the ends, of which the server has drawn settings
abbrev pub ends : Parties (List ℕ)
ends = ends_of Server (record {
  line = codes "SSH-2.0-s";
  kex = codes "k2" ∷ codes "k1" ∷ [];
  host = codes "h2" ∷ codes "h1" ∷ codes "h3" ∷ [];
  encryption = codes "e1" ∷ [];
  mac = codes "m3" ∷ codes "m1" ∷ [];
  epoch_limit = 1000000;
  tries = 0;
  methods = codes "password" ∷ [];
  strictness = Off;
  takes_extensions = false;
  extensions = record { name = codes "x"; value = codes "y" } ∷ [];
})

-- the turns
abbrev pub turns : List (List Item)
turns =
    (hears NewKeys ∷ says UserauthSuccess ∷ hears_on 0 (ChannelOpen (codes "s") 5 9 9 []) ∷ says_on 0 (ChannelOpenConfirmation 5 0 9 9 [])
    ∷ [])
    ∷ (replicate 255 (hears (GlobalRequest (codes "g") true [])))
    ∷ (hears (GlobalRequest (codes "g") true []) ∷ [])
    ∷ (says RequestFailure ∷ [])
    ∷ (hears (GlobalRequest (codes "g") true []) ∷ [])
    ∷ (replicate 255 (says (GlobalRequest (codes "g") true [])))
    ∷ (says (GlobalRequest (codes "g") true []) ∷ [])
    ∷ (hears (RequestSuccess []) ∷ [])
    ∷ (says (GlobalRequest (codes "g") true []) ∷ [])
    ∷ (replicate 255 (hears_on 0 (ChannelRequest 0 (codes "r") true [])))
    ∷ (hears_on 0 (ChannelRequest 0 (codes "r") true []) ∷ [])
    ∷ (says_on 0 (ChannelFailure 5) ∷ [])
    ∷ (hears_on 0 (ChannelRequest 0 (codes "r") true []) ∷ [])
    ∷ (replicate 255 (says_on 0 (ChannelRequest 5 (codes "r") true [])))
    ∷ (says_on 0 (ChannelRequest 5 (codes "r") true []) ∷ [])
    ∷ (hears_on 0 (ChannelSuccess 0) ∷ [])
    ∷ (says_on 0 (ChannelRequest 5 (codes "r") true []) ∷ [])
    ∷ (says_on 0 (ChannelClose 5) ∷ [])
    ∷ (hears_on 0 (ChannelRequest 0 (codes "r") true []) ∷ [])
    ∷ (hears_on 0 (ChannelData 0 (codes "abc")) ∷ [])
    ∷ (hears_on 0 (ChannelSuccess 0) ∷ [])
    ∷ (hears_on 0 (ChannelEof 0) ∷ [])
    ∷ (hears_on 0 (ChannelClose 0) ∷ []) ∷ []

-- messages that might come at any moment
abbrev pub messages : List Msg
messages =
    (GlobalRequest (codes "g") true [])
    ∷ (GlobalRequest (codes "g") false [])
    ∷ (ChannelRequest 0 (codes "r") true [])
    ∷ (ChannelRequest 0 (codes "r") false [])
    ∷ (ChannelSuccess 0)
    ∷ (RequestFailure) ∷ []

-- asks that might come at any moment
abbrev pub asks : List Ask
asks =
    (AskGlobal (codes "g") true [])
    ∷ (AskGlobal (codes "g") false [])
    ∷ (AskRequest 0 (codes "r") true [])
    ∷ (AskRequest 0 (codes "r") false [])
    ∷ (AskRequest 7 (codes "r") true [])
    ∷ (AskReply 0 true)
    ∷ (AskGlobalReply false [])
    ∷ (AskDisconnect (replicate 1024 120))
    ∷ (AskDisconnect (replicate 1025 120))
    ∷ (AskGlobal (codes "g") false (replicate 33993 0))
    ∷ (AskGlobal (codes "g") false (replicate 33994 0))
    ∷ (AskOpen (codes "s") 9 9 (replicate 33982 0))
    ∷ (AskOpen (codes "s") 9 9 (replicate 33983 0)) ∷ []

-- numbers that might come at any moment
abbrev pub numbers : List ℕ
numbers =
    80 ∷ 98 ∷ []
