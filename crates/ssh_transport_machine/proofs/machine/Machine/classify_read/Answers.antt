use Rattle.std.proofs.Common.{ap, ◌∙◌, subst, List, ℕ, false}
use Rattle.ssh_model.specs.Protocol.Wire.Message.{IsPayload}
use Rattle.ssh_message.specs.Meaning.{NoMessage, meaning}
use Rattle.ssh_transport_machine.specs.Classifying.{PayloadIs.bad_message, PayloadIs.read}
use Rattle.ssh_transport_machine.proofs.machine.Machine.classify_read.Goals as goal

pub returns-in-Ok : goal.returns-in-Ok
returns-in-Ok g c =
    let shown = c.payload.ensures.payload ∙ ap (λ s. s.receiver.payload) c.self.view_is in
    read (meaning c.in-Ok.message) c.requires.below c.requires.taken c.requires.read (subst (λ (l : List ℕ). IsPayload false (meaning c.in-Ok.message) l) shown c.in-Ok.ensures.found) c.classify_message.ensures

pub returns-in-Err : goal.returns-in-Err
returns-in-Err g c =
    let shown = c.payload.ensures.payload ∙ ap (λ s. s.receiver.payload) c.self.view_is in
    let none = subst (λ (l : List ℕ). NoMessage false l) shown c.in-Err.ensures.refused in
    bad_message c.requires.below c.requires.other c.requires.taken c.requires.read none.none
