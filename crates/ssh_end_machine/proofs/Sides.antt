-- What an end keeps of its user stays that of its side.
use Rattle.std.proofs.Common.{◌≡◌, ℕ, List, refl, ap}
use Rattle.ssh_model.specs.Protocol.Authentication.Requests.{Judge}
use Rattle.ssh_model.specs.Protocol.Wire.Message.{Msg}
use Rattle.ssh_end_machine.specs.Asking.{KeepsSettings}
use Rattle.ssh_end_machine.specs.Layer.{Beneath}
use Rattle.ssh_end_machine.specs.Layers.{LayerRow, Layers}
use Rattle.ssh_end_machine.specs.Login.{LoginRow, opened, side_of}
use Rattle.ssh_end_machine.specs.declared.layers.answer.LayerAnswer.{LayerAnswer}
use Rattle.ssh_end_machine.specs.declared.layers.answer.LayerAnswer.TheVariants as answer
use Rattle.ssh_end_machine.specs.declared.layers.login.Login.{Login}
use Rattle.ssh_end_machine.specs.declared.layers.login.Login.TheVariants as login

pub opened_side : (kept : Login) → side_of (opened kept) ≡ side_of kept
opened_side (login.Server server) = refl
opened_side (login.Client client) = refl

-- ---- with a message that is taken

row_side : (judge : Judge) (session : List ℕ) (old : Login) (m : Msg) (given : LayerAnswer) (new : Login) → LoginRow judge session old m given new → side_of new ≡ side_of old
row_side judge session (login.Server old) m (answer.Server given) (login.Server new) x = refl
row_side judge session (login.Client old) m (answer.Client given) (login.Client new) x = refl
row_side judge session (login.Server old) m (answer.Server given) (login.Client new) x = absurd x
row_side judge session (login.Server old) m (answer.Client given) new x = absurd x
row_side judge session (login.Server old) m (answer.Channels given) new x = absurd x
row_side judge session (login.Server old) m answer.Unknown new x = absurd x
row_side judge session (login.Client old) m (answer.Client given) (login.Server new) x = absurd x
row_side judge session (login.Client old) m (answer.Server given) new x = absurd x
row_side judge session (login.Client old) m (answer.Channels given) new x = absurd x
row_side judge session (login.Client old) m answer.Unknown new x = absurd x

pub taken_side : (judge : Judge) (below : Beneath) (old : Layers) (m : Msg) (given : LayerAnswer) (new : Layers) → LayerRow judge below old m given new → side_of new.authentication ≡ side_of old.authentication
taken_side judge below old m (answer.Server given) new x = row_side judge below.session old.authentication m (answer.Server given) new.authentication x.row
taken_side judge below old m (answer.Client given) new x = row_side judge below.session old.authentication m (answer.Client given) new.authentication x.row
taken_side judge below old m (answer.Channels given) new x = ap side_of x.authentication
taken_side judge below old m answer.Unknown new x = ap (λ (l : Layers). side_of l.authentication) x.same

-- ---- with an ask

pub asked_side : (old new : Login) → KeepsSettings old new → side_of new ≡ side_of old
asked_side (login.Server old) new x = ap side_of x
asked_side (login.Client old) (login.Client new) x = refl
asked_side (login.Client old) (login.Server new) x = absurd x
