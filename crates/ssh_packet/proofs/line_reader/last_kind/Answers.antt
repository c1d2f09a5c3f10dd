use Rattle.std.proofs.Common.{ℕ, [], ◌∷◌, ◌++◌, sym, subst, refl}
use Rattle.ssh_model.specs.Protocol.Wire.Line.{LineUnit.cr_without_lf}
use Rattle.ssh_packet.specs.LineSteps.{EndsSo}
use Rattle.ssh_packet.proofs.LineUnits.{complete_kind}
use Rattle.ssh_packet.proofs.line_reader.last_kind.Goals as goal

pub returns-then-byte-eq10 : goal.returns-then-byte-eq10
returns-then-byte-eq10 c =
    subst (λ (b : ℕ). EndsSo c.args.from_server c.args.others c.args.text.now (c.args.text.now ++ 13 ∷ b ∷ []) c.judge.result) (sym c.if-byte-eq10.true)
    (complete_kind c.args.from_server c.args.others c.args.text.now c.judge.result c.requires.is_text c.requires.room c.judge.ensures)

pub returns-else-byte-eq10 : goal.returns-else-byte-eq10
returns-else-byte-eq10 c = cr_without_lf c.args.text.now c.args.byte c.requires.is_text c.requires.room c.if-byte-eq10.false refl
