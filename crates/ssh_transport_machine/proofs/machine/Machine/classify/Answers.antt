use Rattle.std.proofs.Common.{◌≡◌, ◌<◌, ◌≤◌, ℕ, true, false, ap, sym, ◌∙◌, subst}
use Rattle.ssh_model.specs.Protocol.Sessions.Turns.{number_of}
use Rattle.ssh_model.specs.State.TransportLayer.Kept.{takes}
use Rattle.ssh_transport_machine.specs.Classifying.{PayloadIs.above, PayloadIs.ecdh_init, PayloadIs.out_of_place, PayloadIs.reply, PayloadIs.skipped, PayloadIs.unexpected}
use Rattle.ssh_transport_machine.specs.State.{before_taken}
use Rattle.ssh_transport_machine.proofs.machine.Machine.classify.Goals as goal

pub returns-then-is_normal : goal.returns-then-is_normal
returns-then-is_normal g c =
    let n = c.number_in-number.ensures ∙ ap number_of (c.payload.ensures.payload ∙ ap (λ s. s.receiver.payload) c.self.view_is) in
    above (subst (λ (m : ℕ). 50 ≤ m) n c.if-number-ge50.true) (sym c.is_normal.ensures ∙ c.if-is_normal.true)

pub returns-then-number-ge50 : goal.returns-then-number-ge50
returns-then-number-ge50 g c =
    let n = c.number_in-number.ensures ∙ ap number_of (c.payload.ensures.payload ∙ ap (λ s. s.receiver.payload) c.self.view_is) in
    out_of_place (subst (λ (m : ℕ). 50 ≤ m) n c.if-number-ge50.true) (sym c.is_normal.ensures ∙ c.if-is_normal.false)

pub returns-then-not-takes : goal.returns-then-not-takes
returns-then-not-takes g c =
    let n = c.number_in-number.ensures ∙ ap number_of (c.payload.ensures.payload ∙ ap (λ s. s.receiver.payload) c.self.view_is) in
    unexpected (subst (λ (m : ℕ). m < 50) n c.if-number-ge50.false)
    (subst (λ (m : ℕ). takes (before_taken c.args.self.now.kept) m ≡ false) n (sym c.takes.ensures ∙ c.if-not-takes.true))

pub returns-then-is_guessed : goal.returns-then-is_guessed
returns-then-is_guessed g c =
    let n = c.number_in-number.ensures ∙ ap number_of (c.payload.ensures.payload ∙ ap (λ s. s.receiver.payload) c.self.view_is) in
    skipped (subst (λ (m : ℕ). m < 50) n c.if-number-ge50.false)
    (subst (λ (m : ℕ). takes (before_taken c.args.self.now.kept) m ≡ true) n (sym c.takes.ensures ∙ c.if-not-takes.false))
    (c.is_guessed.ensures.guessed c.if-is_guessed.true)

pub returns-in-30 : goal.returns-in-30
returns-in-30 g c =
    let n = c.number_in-number.ensures ∙ ap number_of (c.payload.ensures.payload ∙ ap (λ s. s.receiver.payload) c.self.view_is) in
    ecdh_init (sym n ∙ c.in-30.is) (subst (λ (m : ℕ). takes (before_taken c.args.self.now.kept) m ≡ true) n (sym c.takes.ensures ∙ c.if-not-takes.false)) (c.is_guessed.ensures.other c.if-is_guessed.false)

pub returns-in-31 : goal.returns-in-31
returns-in-31 g c =
    let n = c.number_in-number.ensures ∙ ap number_of (c.payload.ensures.payload ∙ ap (λ s. s.receiver.payload) c.self.view_is) in
    reply (sym n ∙ c.in-31.is) (subst (λ (m : ℕ). takes (before_taken c.args.self.now.kept) m ≡ true) n (sym c.takes.ensures ∙ c.if-not-takes.false)) (c.is_guessed.ensures.other c.if-is_guessed.false)
