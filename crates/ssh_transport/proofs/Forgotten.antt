-- A secret counts no more once its exchange is over.
use Rattle.std.proofs.Common.{◌≡◌, ℕ, List, ◌∙◌, Bool, true, false}
use Rattle.ssh_model.specs.declared.side.Side.{Side}
use Rattle.ssh_model.specs.declared.side.Side.TheVariants.{Client, Server}
use Rattle.ssh_model.specs.Protocol.Sessions.Parties.{Parties}
use Rattle.ssh_model.specs.Protocol.Sessions.Phases.{Phase}
use Rattle.ssh_model.specs.Protocol.Sessions.Items.{Item}
use Rattle.ssh_model.specs.Protocol.KeyExchange.Exchanges.{Reply}
use Rattle.ssh_model.specs.State.TransportLayer.Kept.{Transport}
use Rattle.ssh_model.specs.State.TransportLayer.Summary.{Live, PointsSumUp, SumsUp, is_agreeing}
use Rattle.ssh_model.specs.State.TransportLayer.View.{View, view}
use Rattle.ssh_transport_machine.specs.Finishing.{forgotten}

points_go_on : {K : Type 0} (p : Parties K) (side : Side) (gone : ℕ) (phase : Phase) (own_points their_points : List (List ℕ)) (own_replies their_replies : List Reply) (secret other : List ℕ) →
    (is_agreeing phase ≡ true → ⊥) → PointsSumUp p side gone phase own_points their_points own_replies their_replies secret → PointsSumUp p side gone phase own_points their_points own_replies their_replies other
points_go_on p Client gone phase own_points their_points own_replies their_replies secret other none x = record {
  point_count = x.point_count;
  reply_count = x.reply_count;
  point_is = λ a. absurd (none a);
}
points_go_on p Server gone phase own_points their_points own_replies their_replies secret other none x = x

unblocked : (b : Bool) → b ≡ false → b ≡ true → ⊥
unblocked b e f = cc (e, f)

live_on : {K : Type 0} (p : Parties K) (side : Side) (v : View) (s : Transport K) → s.blocked ≡ false → Live p side v s → Live p side v (forgotten s)
live_on p side v s free x =
    let off : v.blocked ≡ true → ⊥ = λ b. unblocked s.blocked free (x.blocked_is ∙ b) in
    record {
      side_is = x.side_is;
      settings_are = x.settings_are;
      own_line = x.own_line;
      lines = x.lines;
      sending = x.sending;
      taking = x.taking;
      keys = x.keys;
      phase_is = x.phase_is;
      blocked_is = x.blocked_is;
      firsts = x.firsts;
      session_is = x.session_is;
      requested_is = x.requested_is;
      accepted_is = x.accepted_is;
      authenticated_is = x.authenticated_is;
      material = x.material;
      counts = x.counts;
      underway = record {
        own_is = x.underway.own_is;
        own_offer_is = x.underway.own_offer_is;
        secret_is = λ b. absurd (off b);
        theirs_is = x.underway.theirs_is;
        read = x.underway.read;
      };
      points = points_go_on p side _ v.phase v.own_points v.their_points v.own_replies v.their_replies s.underway.secret _ (λ a. off (x.counts.blocked_then a)) x.points;
    }

pub goes_on : {K : Type 0} (p : Parties K) (side : Side) (history : List Item) (s : Transport K) → s.blocked ≡ false → SumsUp p side history s → SumsUp p side history (forgotten s)
goes_on p side history s free x = record { dead_is = x.dead_is; live = λ alive. live_on p side (view p side history) s free (x.live alive) }
