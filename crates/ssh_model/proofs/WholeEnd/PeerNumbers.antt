-- The number that the peer gave a channel, as an end keeps it, is a uint32.
use Rattle.std.proofs.Common.{ℕ, ◌<◌, ◌^◌, Bool, true, false, cond, List, arith, sym, subst, Option, Some, None}
use Rattle.ssh_model.specs.declared.side.Side.{Side}
use Rattle.ssh_model.specs.Protocol.Sessions.Items.{Item}
use Rattle.ssh_model.specs.Protocol.Sessions.Parties.{AreLawful, Parties}
use Rattle.ssh_model.specs.Protocol.Sessions.Turns.{EndRun}
use Rattle.ssh_model.specs.Protocol.Channels.Connection.{notes, owed_replies}
use Rattle.ssh_model.specs.Protocol.Channels.History as channel
use Rattle.ssh_model.specs.Protocol.Channels.History.{is_owed}
use Rattle.ssh_model.specs.State.Channels.Kept.{Channels, peer_of}
use Rattle.ssh_model.specs.Protocol.Channels.Notes.{Note}
use Rattle.ssh_model.specs.Protocol.Channels.Numbers.{is_held, peer_number}
use Rattle.ssh_model.specs.State.Channels.Places.{Place, at, place, place_at, place_of}
use Rattle.ssh_model.specs.State.Channels.Summary.{SumsUp}
use Rattle.ssh_model.proofs.Sessions.PeerNumbers.{peer_number_below}
use Rattle.ssh_model.proofs.Sessions.SoundTurns.{end_sound}

either_named : (held waits : Bool) (one other : Place) → one.peer_number < 2 ^ 32 → other.peer_number < 2 ^ 32 → peer_of (cond held (Some one) (cond waits (Some other) None)) < 2 ^ 32
either_named true waits one other a b = a
either_named false true one other a b = b
either_named false false one other a b = omega arith

place_named : (side : Side) (n : List Note) (owed : List channel.Item) (x : ℕ) → peer_number x n < 2 ^ 32 → peer_of (place side n owed x) < 2 ^ 32
unfolding place place_at place_of
place_named side n owed x small = either_named (is_held x n) (is_owed x owed) _ _ small small

pub peer_named : {K : Type 0} (p : Parties K) → AreLawful p → (side : Side) (h : List Item) → EndRun p side h → (c : Channels) → SumsUp side h (owed_replies side h) c → (x : ℕ) → peer_of (at c.places x) < 2 ^ 32
peer_named p laws side h run c has x =
    subst (λ (o : Option Place). peer_of o < 2 ^ 32) (sym (has.places x))
    (place_named side (notes side h) (owed_replies side h) x (peer_number_below p side h x (end_sound p laws side h run).formed))
