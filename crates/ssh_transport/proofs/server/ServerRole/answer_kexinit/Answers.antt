use Rattle.std.proofs.Common.{ap, arith, refl, sym, ◌∙◌}
use Rattle.ssh_model.specs.Protocol.Wire.Sealing.{Crypto}
use Rattle.ssh_transport_machine.specs.Padding.{sending_by}
use Rattle.ssh_transport_machine.specs.PaddingLaws.{pads_none}
use Rattle.ssh_transport_machine.specs.Puts.{Outs}
use Rattle.ssh_transport_machine.specs.State.{State, material_of}
use Rattle.ssh_transport_machine.specs.declared.machine.kexinit.KexinitFacts.{KexinitFacts}
use Rattle.ssh_transport_machine.specs.declared.machine.sending.SendOutcome.{SendOutcome}
use Rattle.ssh_transport_machine.specs.declared.machine.sending.SendOutcome.TheVariants.{Done, Spent}
use Rattle.ssh_transport.proofs.OfServer.Answering.{kexinit_answered, kexinit_kept, kexinit_spent, own_answer}
use Rattle.ssh_transport.proofs.Replying.{on_err}
use Rattle.ssh_transport.proofs.server.ServerRole.answer_kexinit.Goals as goal
use Rattle.ssh_model.specs.Protocol.Sessions.Parties.{Agreement}
use Rattle.ssh_model.specs.declared.side.Side.TheVariants.{Server}
use Rattle.ssh_transport.specs.Kexinits.{KexinitDone}
use Rattle.ssh_transport.specs.Outcomes.{IsAnswered, answer_outcome}
use Rattle.ssh_transport.specs.declared.outcome.Handled.TheVariants as handled

shown : {K : Type 0} {c : Crypto K} {agreement : Agreement} {old : State K} {facts : KexinitFacts} {new : State K} {o : Outs} → (answer : SendOutcome) → KexinitDone c agreement Server old facts answer new o → IsAnswered handled.Kexinit (KexinitDone c agreement Server old facts) (answer_outcome answer handled.Kexinit) new o
shown answer done = record { answer = answer; given_is = refl; does = done }

pub returns-then-is_blocked-clause-does : goal.returns-then-is_blocked-clause-does
returns-then-is_blocked-clause-does g c = shown Done (kexinit_kept _ _ _ _ _ _ _ (sym c.is_blocked.ensures ∙ c.if-is_blocked.true) c.record_kexinit.ensures)

pub returns-then-is_spent-clause-does : goal.returns-then-is_spent-clause-does
returns-then-is_spent-clause-does g c =
    shown Spent (kexinit_spent _ _ _ _ _ _ (sym c.is_blocked.ensures ∙ c.if-is_blocked.false) (sym c.material.ensures ∙ ap material_of c.in-Some.is) c.offer_fits.ensures (c.is_spent.ensures.spent c.if-is_spent.true) c.die.ensures)

pub returns-clause-does : goal.returns-clause-does
returns-clause-does g c =
    shown Done (kexinit_answered _ _ _ _ _ _ _ (sym c.is_blocked.ensures ∙ c.if-is_blocked.false) (sym c.material.ensures ∙ ap material_of c.in-Some.is) c.in_ok-reply_with_kexinit.ensures.sends)

pub returns-in_err-reply_with_kexinit-clause-needs_memory : goal.returns-in_err-reply_with_kexinit-clause-needs_memory
returns-in_err-reply_with_kexinit-clause-needs_memory g c = on_err c.from_residual.result (record {
  answer = own_answer _ c.args.machine.now.kept _ (sym c.is_blocked.ensures ∙ c.if-is_blocked.false) (sym c.material.ensures ∙ ap material_of c.in-Some.is) c.offer_fits.ensures;
  room = omega (arith, c.is_spent.ensures.left c.if-is_spent.false);
})

pub returns-then-is_blocked-clause-padded : goal.returns-then-is_blocked-clause-padded
returns-then-is_blocked-clause-padded g c = pads_none (sym (ap (λ t. sending_by t c.args.sent.now c.args.out.now) c.record_kexinit.ensures))

pub returns-then-is_spent-clause-padded : goal.returns-then-is_spent-clause-padded
returns-then-is_spent-clause-padded g c = pads_none (sym (ap (λ t. sending_by t c.args.sent.now c.args.out.now) c.die.ensures))
