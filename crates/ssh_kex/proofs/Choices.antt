-- What is chosen is what is computed.
use Rattle.std.proofs.Common.{◌≡◌, Bool, true, false, Result, Ok, Err, refl, sym}
use Rattle.std.specs.Prelude.{IfOk, IfErr, is_ok}
use Rattle.ssh_model.specs.Protocol.KeyExchange.Choice.{Chosen, Kind, Lists}
use Rattle.ssh_model.specs.Laws.KeyExchange.{IsChoice, IsFirstWithout}
use Rattle.ssh_model.specs.Protocol.KeyExchange.Exchanges.{chosen, has_choice}

pub there_is : {C E : Type 0} → ((client server : Lists) (choice : Chosen) → IsChoice client server choice → has_choice client server ≡ true)
    → ((client server : Lists) (kind : Kind) → IsFirstWithout client server kind → has_choice client server ≡ false)
    → (r : Result C E) (client server : Lists) (meant : C → Chosen) (kind : E → Kind)
    → IfOk r (λ c. IsChoice client server (meant c)) → IfErr r (λ e. IsFirstWithout client server (kind e)) → is_ok r ≡ has_choice client server
there_is there none (Ok c) client server meant kind f g = sym (there client server (meant c) f)
there_is there none (Err e) client server meant kind f g = sym (none client server (kind e) g)

pub these_are : {C E : Type 0} → ((client server : Lists) (choice : Chosen) → IsChoice client server choice → chosen client server ≡ choice)
    → (r : Result C E) (client server : Lists) (meant : C → Chosen)
    → IfOk r (λ c. IsChoice client server (meant c)) → IfOk r (λ c. chosen client server ≡ meant c)
these_are is (Ok c) client server meant f = is client server (meant c) f
these_are is (Err e) client server meant f = tt
