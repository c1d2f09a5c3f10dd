use Rattle.std.proofs.Common.{refl}
use Rattle.divrelca_c.proofs.OfEmbedded.Asked.{nobody_asked, nothing_told, turn_heard}
use Rattle.divrelca_c.proofs.embedded.state.Embedded.take_step.Goals as goal

pub returns : goal.returns
returns g c =
    let old = c.args.self.now in let step = c.in_ok-used.ensures in let turn = c.last_turn-turn.result in let shown = c.last_turn-turn.ensures in
    record {
      took = record {
        most = step.used;
        progress = step.progress;
        all = step.more;
        shown = step.shown;
        advances = step.advances;
        padded = step.padded;
        role_is = step.role;
      };
      hears = λ items is. turn_heard _ _ items is turn (shown.shows items is) old.noted c.hear.new.self old.flows c.hear-2.new.self
          c.hear.ensures.notes c.hear-2.ensures.heard;
      unnoted = λ more. c.hear.ensures.nobody (nobody_asked turn.took (shown.more more).took);
      unheard = λ more. c.hear-2.ensures.nothing (nothing_told turn.told (shown.more more).told);
      same = refl;
    }
