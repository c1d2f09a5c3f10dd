use Rattle.std.proofs.Common.{List, ℕ, ap, subst, take, ◌∙◌}
use Rattle.ssh_model.specs.Protocol.Wire.DataTypes.{AreBytes, IsUint32}
use Rattle.ssh_model.specs.Laws.Reading.{NoFront}
use Rattle.ssh_packet.proofs.Fields.{some_field}
use Rattle.ssh_packet.specs.Reading.{Reading}
use Rattle.ssh_packet.proofs.reader.PacketReader.size.Goals as goal

pub returns-in_default-clause-none : goal.returns-in_default-clause-none
returns-in_default-clause-none c =
    let same = ap (take c.self.inside.filled) c.deref.ensures.value ∙ ap (λ (r : Reading). r.rest) c.self.view_is in
    λ _. absurd (some_field c.args.self.now.rest (subst AreBytes same c.are_bytes.ensures) c.requires.field (subst (λ (x : List ℕ). NoFront IsUint32 x) same (subst (λ (x : List ℕ). NoFront IsUint32 x) c.new-reader.ensures c.in_default.ensures.refused.2)))
