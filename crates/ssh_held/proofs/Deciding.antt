-- Each request that asks a program is settled, turn after turn.
use Rattle.std.proofs.Common.{◌≡◌, ℕ, Bool, true, List, [], ◌∷◌, ◌++◌, subst, sym}
use Rattle.ssh_model.specs.Laws.Supplied.{TakesNone}
use Rattle.ssh_model.specs.Protocol.Sessions.Items.{Item, Item.Took, Item.TookGuess, Item.TookLine, Item.TookOtherLine}
use Rattle.ssh_model.specs.Protocol.Wire.Message.{IsPayload, Method, Msg.UserauthRequest}
use Rattle.ssh_model.specs.Protocol.Sessions.Parties.{Parties}
use Rattle.ssh_model.specs.Protocol.Sessions.Turns.{IsOpening}
use Rattle.ssh_model.specs.declared.side.Side.TheVariants.{Server}
use Rattle.ssh_end_machine.specs.Peeking.{TakesOnly}
use Rattle.ssh_held.specs.Book.{AllSettled, asks}

pub seen_settled : (settled : List ℕ → Method → Bool) (payload : List ℕ) (items history : List Item) → TakesOnly payload items →
    ((probing : Bool) (user service : List ℕ) (method : Method) → IsPayload probing (UserauthRequest user service method) payload →
    asks service method ≡ true → settled user method ≡ true) → AllSettled settled history → AllSettled settled (items ++ history)
seen_settled settled payload [] history t asked d = d
seen_settled settled payload (Took c (UserauthRequest u s how) b ∷ items) history t asked d =
    (λ e. asked t.0.1.probing u s how t.0.1.is e, seen_settled settled payload items history t.1 asked d)
seen_settled settled payload (Took c m b ∷ items) history t asked d = seen_settled settled payload items history t.1 asked d
seen_settled settled payload (TookGuess b ∷ items) history t asked d = seen_settled settled payload items history t.1 asked d
seen_settled settled payload (TookLine b ∷ items) history t asked d = absurd t
seen_settled settled payload (TookOtherLine b ∷ items) history t asked d = absurd t
seen_settled settled payload (i ∷ items) history t asked d = seen_settled settled payload items history t asked d

pub unseen_settled : (settled : List ℕ → Method → Bool) (items history : List Item) → TakesNone items → AllSettled settled history →
    AllSettled settled (items ++ history)
unseen_settled settled [] history t d = d
unseen_settled settled (Took c m b ∷ items) history t d = absurd t
unseen_settled settled (TookGuess b ∷ items) history t d = absurd t
unseen_settled settled (i ∷ items) history t d = unseen_settled settled items history t d

pub opened_settled : {K : Type 0} (p : Parties K) (settled : List ℕ → Method → Bool) (items : List Item) → IsOpening p Server items →
    AllSettled settled items
opened_settled p settled items o = subst (λ (x : List Item). AllSettled settled x) (sym o.items_are) tt
