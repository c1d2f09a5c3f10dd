-- The secret of an exchange that is over matters no more.
use Rattle.std.proofs.Common.{◌≡◌, ℕ, List, true, false}
use Rattle.ssh_model.specs.declared.side.Side.{Side}
use Rattle.ssh_model.specs.declared.side.Side.TheVariants.{Client, Server}
use Rattle.ssh_model.specs.Protocol.KeyExchange.Exchanges.{Reply}
use Rattle.ssh_model.specs.Protocol.Sessions.Parties.{Parties}
use Rattle.ssh_model.specs.Protocol.Sessions.Items.{Item}
use Rattle.ssh_model.specs.Protocol.Sessions.Phases.{Phase}
use Rattle.ssh_model.specs.State.TransportLayer.Kept.{Transport, after_wiping}
use Rattle.ssh_model.specs.State.TransportLayer.Summary.{Live, SumsUp, PointsSumUp, is_agreeing}
use Rattle.ssh_model.specs.State.TransportLayer.View.{View, view}

module _ {K : Type 0} (p : Parties K) where
  points_same : (side : Side) (gone : ℕ) (phase : Phase) (own theirs : List (List ℕ)) (ours replies : List Reply) (one other : List ℕ) → (is_agreeing phase ≡ true → ⊥) → PointsSumUp p side gone phase own theirs ours replies one → PointsSumUp p side gone phase own theirs ours replies other
  points_same Client gone phase own theirs ours replies one other none a = record { point_count = a.point_count; reply_count = a.reply_count; point_is = λ z. absurd (none z) }
  points_same Server gone phase own theirs ours replies one other none a = a

  live_wiped : (side : Side) (v : View) (s : Transport K) (bytes : List ℕ) → s.blocked ≡ false → Live p side v s → Live p side v (after_wiping bytes s)
  live_wiped side v s bytes free a = record {
    side_is = a.side_is;
    settings_are = a.settings_are;
    own_line = a.own_line;
    lines = a.lines;
    sending = a.sending;
    taking = a.taking;
    keys = a.keys;
    phase_is = a.phase_is;
    blocked_is = a.blocked_is;
    firsts = a.firsts;
    session_is = a.session_is;
    requested_is = a.requested_is;
    accepted_is = a.accepted_is;
    authenticated_is = a.authenticated_is;
    material = a.material;
    counts = a.counts;
    underway = record {
      own_is = a.underway.own_is;
      own_offer_is = a.underway.own_offer_is;
      secret_is = λ z. absurd (blocked z);
      theirs_is = a.underway.theirs_is;
      read = a.underway.read;
    };
    points = points_same side _ v.phase v.own_points v.their_points v.own_replies v.their_replies s.underway.secret bytes (λ z. blocked (a.counts.blocked_then z)) a.points;
  }
    where
      blocked : v.blocked ≡ true → ⊥
      blocked z = cc (z, free, a.blocked_is)

  pub wiped : (side : Side) (history : List Item) (s : Transport K) (bytes : List ℕ) → s.blocked ≡ false → SumsUp p side history s → SumsUp p side history (after_wiping bytes s)
  wiped side history s bytes free a = record { dead_is = a.dead_is; live = λ z. live_wiped side (view p side history) s bytes free (a.live z) }
