use Rattle.std.proofs.Common.{refl, ap, sym, ◌∙◌}
use Rattle.ssh_end_machine.specs.Ends.{EndValue}
use Rattle.ssh_end_machine.proofs.Turns.{decoded_shows_at, refused_shows_at, skipped_shows_at, undecoded_shows_at}
use Rattle.ssh_end_machine.proofs.end.End.last_turn.Goals as goal

pub returns-in-Skipped-clause-shows : goal.returns-in-Skipped-clause-shows
returns-in-Skipped-clause-shows g c = skipped_shows_at _ _ c.args.self.now.step (sym (ap (λ (v : EndValue _ _ _). v.step) c.self.view_is) ∙ c.in-Skipped.is) _ c.shown-shown.ensures refl refl c.quiet_turn-quiet.ensures.refused

pub returns-in-Ok-clause-shows : goal.returns-in-Ok-clause-shows
returns-in-Ok-clause-shows g c =
    decoded_shows_at _ _ c.quiet_turn-quiet.ensures.refused c.args.self.now.step c.in-Took.taken (sym (ap (λ (v : EndValue _ _ _). v.step) c.self.view_is) ∙ c.in-Took.is) _ c.shown-shown.ensures c.in-Ok.message c.in-Ok.ensures.only refl c.told_in.ensures

pub returns-in-Err-clause-shows : goal.returns-in-Err-clause-shows
returns-in-Err-clause-shows g c =
    undecoded_shows_at _ _ c.quiet_turn-quiet.ensures.refused c.args.self.now.step c.in-Took.taken (sym (ap (λ (v : EndValue _ _ _). v.step) c.self.view_is) ∙ c.in-Took.is) _ c.shown-shown.ensures c.in-Err.ensures.refused.none

pub returns-in-Refused-clause-shows : goal.returns-in-Refused-clause-shows
returns-in-Refused-clause-shows g c = refused_shows_at _ _ c.args.self.now.step c.in-Refused.why (sym (ap (λ (v : EndValue _ _ _). v.step) c.self.view_is) ∙ c.in-Refused.is) c.quiet_turn-quiet.ensures.took c.quiet_turn-quiet.ensures.told refl
