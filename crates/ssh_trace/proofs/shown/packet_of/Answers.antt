use Rattle.std.proofs.Common.{List, ℕ, subst}
use Rattle.ssh_trace.specs.Shown.{ShowsBytes}
use Rattle.ssh_trace.proofs.Showing.{map_if_ok, text_shows}
use Rattle.ssh_trace.proofs.shown.packet_of.Goals as goal

pub returns-clause-shows : goal.returns-clause-shows
returns-clause-shows c = map_if_ok c.packet_in.result (λ s h. text_shows c.args.text.now c.in-Ok.bytes.items s c.in-Ok.ensures.ok (subst (λ (x : List ℕ). ShowsBytes x s) c.as_slice.ensures.value h)) c.packet_in.ensures
