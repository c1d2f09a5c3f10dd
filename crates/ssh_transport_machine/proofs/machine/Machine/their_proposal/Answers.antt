use Rattle.std.proofs.Common.{ap, sym, ◌∙◌, subst, List, ℕ, false}
use Rattle.ssh_model.specs.Protocol.Wire.Message.{IsPayload, Msg.KexInit}
use Rattle.ssh_message.specs.Meaning.{NoMessage, proposal_meaning}
use Rattle.ssh_transport_machine.proofs.Choosing.{choice_of}
use Rattle.ssh_transport_machine.proofs.machine.Machine.their_proposal.Goals as goal

pub unreachable-requires : goal.unreachable-requires
unreachable-requires g c =
    let kept = c.as_slice.ensures.payload ∙ ap (λ s. s.kept.underway.theirs) c.self.view_is in
    let none = subst (λ (l : List ℕ). NoMessage false l) kept c.in-Err.ensures.refused in
    none.none (KexInit c.requires.theirs) c.requires.read

pub returns : goal.returns
returns g c =
    let kept = c.as_slice.ensures.payload ∙ ap (λ s. s.kept.underway.theirs) c.self.view_is in
    let same = c.in-Ok.ensures.only (KexInit c.requires.theirs) (subst (λ (l : List ℕ). IsPayload false (KexInit c.requires.theirs) l) (sym kept) c.requires.read) in
    choice_of c.args.self.now.kept c.requires (proposal_meaning c.proposal_in.result) (c.proposal_in.ensures ∙ same)
