-- The turns of a run of a transport, whatever the layers above it do, that its calls make.
use Rattle.std.proofs.Common.{◌≡◌, ℕ, ◌≤◌, ◌<◌, true, false, List, sym, ◌∙◌, subst}
use Rattle.ssh_model.specs.Protocol.Bounds.{numbers_of_epoch}
use Rattle.ssh_model.specs.Protocol.Sessions.AnyLayers.{SentAbove, TookAbove, TransportTurn, is_own_number}
use Rattle.ssh_model.specs.Protocol.Sessions.Phases.{Phase.Normal}
use Rattle.ssh_model.specs.Protocol.Wire.Message.{Msg}
use Rattle.ssh_model.specs.State.TransportLayer.Kept.{Transport, after_taken}
use Rattle.ssh_model.specs.State.TransportLayer.Summary.{Live}
use Rattle.ssh_model.specs.State.TransportLayer.View.{view}
use Rattle.ssh_transport.proofs.PutsOn.{keyed}
use Rattle.ssh_model.specs.Protocol.Sessions.Items.{Ask, Item, has_died}
use Rattle.ssh_model.specs.Protocol.Sessions.Parties.{Parties}
use Rattle.ssh_model.specs.Protocol.Sessions.Turns.{AsksTurn, FeedsTurn, Turn, number_of}
use Rattle.ssh_model.specs.declared.side.Side.{Side}
use Rattle.ssh_transport.specs.Places.{MaySend, MayTake, OnBytes}

module _ {K : Type 0} (p : Parties K) (side : Side) (h : List Item) where
  -- bytes of one line or one packet
  pub by_bytes : {items : List Item} (unit : List ℕ) → has_died h ≡ false → OnBytes p side h unit items → TransportTurn p side h items
  by_bytes unit alive (OnBytes.as_an_end on) = TransportTurn.of_end (Turn.reads unit alive on)
  by_bytes unit alive (OnBytes.completes message payload is welcomes answer encoded numbered) = TransportTurn.completes message payload alive welcomes answer encoded numbered
  by_bytes unit alive (OnBytes.spends payload is spent) = TransportTurn.dies alive

  -- an ask of its own
  pub by_ask : {items : List Item} (ask : Ask) → AsksTurn p side h ask items → TransportTurn p side h items
  by_ask ask turn = TransportTurn.of_end (Turn.asks ask turn)

  -- a pair of cookie and secret
  pub by_pair : {items : List Item} (cookie secret : List ℕ) → FeedsTurn side h cookie secret items → TransportTurn p side h items
  by_pair cookie secret turn = TransportTurn.of_end (Turn.feeds cookie secret turn)

  module _ (s : Transport K) (live : Live p side (view p side h) s) (alive : has_died h ≡ false) (message : Msg) (payload : List ℕ) where
    -- a payload that the layers above take
    pub took_above : MayTake side (after_taken s) message payload → 50 ≤ number_of payload → s.phase ≡ Normal → TookAbove p side h message payload
    took_above may above normal = record { alive = alive; number = may.number; above = above; normal = sym live.phase_is ∙ normal; success = may.success; service = λ e. sym live.requested_is ∙ may.service e }

    -- a payload that they send
    pub sent_above : MaySend side s message payload → is_own_number (number_of payload) ≡ false → (s.blocked ≡ true → number_of payload ≡ 3) → s.sending.count < numbers_of_epoch → SentAbove side h message payload
    sent_above may theirs unblocked room = record {
      alive = alive;
      number = may.number;
      theirs = theirs;
      success = may.success;
      service = λ e. sym live.requested_is ∙ may.service e;
      keyed = keyed p side h s live may.keyed;
      unblocked = λ e. unblocked (live.blocked_is ∙ e);
      room = subst (λ (n : ℕ). n < numbers_of_epoch) live.sending.count_is room;
    }
