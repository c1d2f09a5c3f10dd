use Rattle.std.proofs.Common.{◌∙◌, sym}
use Rattle.ssh_types.specs.WholeNumbers.{shortest_parts, spare_parts}
use Rattle.ssh_types.proofs.mpint.MpInt.from_shortest.Goals as goal

pub returns-then-not-is_canonical-clause-none : goal.returns-then-not-is_canonical-clause-none
returns-then-not-is_canonical-clause-none c =
    spare_parts c.split_mark-marked.result.0 c.split_mark-marked.result.1.now c.args.bytes.now (sym c.is_canonical.ensures ∙ c.if-not-is_canonical.true) c.split_mark-marked.ensures.whole c.split_mark-marked.ensures.marked

pub returns-clause-found : goal.returns-clause-found
returns-clause-found c =
    shortest_parts c.split_mark-marked.result.0 c.split_mark-marked.result.1.now c.args.bytes.now c.are_bytes.ensures (sym c.is_canonical.ensures ∙ c.if-not-is_canonical.false) c.split_mark-marked.ensures.whole
