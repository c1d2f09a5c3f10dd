-- A new end, with equal settings and an equal filler in place of its own.
use Rattle.std.proofs.Common.{◌≡◌, None, [], false, replicate, subst}
use Rattle.ssh_end_machine.specs.Ends.{IsNew, IsOf, sending_from_line, sending_to}
use Rattle.ssh_end_machine.specs.Sessions.{AreOf}
use Rattle.ssh_end_machine.specs.Stands.{MadeOf, state_of}
use Rattle.ssh_end_machine.specs.declared.role.EndRole as role
use Rattle.ssh_end_machine.specs.declared.step.Step.TheVariants as step
use Rattle.ssh_model.specs.Protocol.Sessions.Parties.{Settings}
use Rattle.ssh_model.specs.declared.side.Side.{Side}
use Rattle.divrelca.specs.Parts.AesGcm.{aes_gcm}
use Rattle.divrelca.specs.declared.parts.packet_key.PacketKey.{PacketKey}
use Rattle.ssh_transport_machine.specs.Padding.{PadsTo}
use Rattle.divrelca.specs.Supplies.{next_bytes, padding_under}
use Rattle.divrelca.specs.declared.keys.PaddingSource.{PaddingSource}
use Rattle.ssh_types.specs.declared.bounds.TheConstants.{MOST_CHANNELS}
use Rattle.divrelca_c.specs.Embedded.Flows.{flows_of, no_flow}
use Rattle.divrelca_c.specs.Embedded.Making.{IsMade}
use Rattle.divrelca_c.specs.declared.embedded.state.Embedded.{Embedded}
use Rattle.divrelca_c.specs.declared.embedded.making.Material.{Material}

-- what a maker says of the end that it made, of these settings and with this filler, is so of equal ones
pub is_made : {R X S : Type 0} {ends : role.Ghosts R X S PaddingSource PacketKey} {side : Side} {given named : Settings}
    {filler : PaddingSource} {material : Material} {made : Embedded R X S PaddingSource PacketKey} →
    IsNew aes_gcm side given material.cookie material.secret made.end.machine made.end.layers [] made.out.items made.end.sent →
    PadsTo aes_gcm next_bytes (sending_from_line given filler []) (sending_to made.end made.out.items) →
    MadeOf side given (λ p. IsOf ends made.end.role p) (λ p. AreOf p made.end.layers)
    (record { cookie = material.cookie; secret = material.secret }) made.end.machine (state_of made.end) [] made.out.items made.end.sent →
    made.end.step ≡ step.More → made.end.used ≡ 0 → made.gone ≡ 0 → made.waiting.items ≡ [] → made.noted.names.items ≡ [] → made.noted.all ≡ false →
    flows_of made.flows ≡ replicate MOST_CHANNELS no_flow → made.ahead ≡ None → given ≡ named → filler ≡ padding_under material.padding →
    IsMade ends side named material made
is_made {ends = ends} {side = side} {given = given} {filler = filler} {material = material} {made = made} opened padded placed step unused unwritten waiting nobody not_all flows_are looks_not settings filler_is =
    subst (λ it. IsMade ends side it material made) settings (record {
      opened = opened;
      padded = subst (λ it. PadsTo aes_gcm next_bytes (sending_from_line given it []) (sending_to made.end made.out.items)) filler_is padded;
      placed = placed;
      step = step;
      unused = unused;
      unwritten = unwritten;
      waiting = waiting;
      nobody = nobody;
      not_all = not_all;
      flows_are = flows_are;
      looks_not = looks_not;
    })
