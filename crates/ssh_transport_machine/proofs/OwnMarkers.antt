-- Which markers the first KEXINIT of an end has.
use Rattle.std.proofs.Common.{◌≡◌, ℕ, suc, List, [], ◌∷◌, ◌++◌, inl, inr, refl, sym, ◌∙◌, subst, arith, Bool, true, false, cond, Some, is_some}
use Rattle.std.specs.Prelude.{codes}
use Rattle.std.specs.List.{Contains, find}
use Rattle.ssh_model.specs.declared.side.Side.{Side}
use Rattle.ssh_model.specs.declared.side.Side.TheVariants.{Client, Server}
use Rattle.ssh_model.specs.Protocol.Wire.DataTypes.{is_text}
use Rattle.ssh_model.specs.Protocol.KeyExchange.Exchanges.{has_marker}
use Rattle.ssh_model.specs.declared.strictness.Strictness.{Strictness}
use Rattle.ssh_model.specs.declared.strictness.Strictness.TheVariants.{Require, Offer, Off}
use Rattle.ssh_model.specs.Protocol.Sessions.Parties.{Settings, extension_marker_of, first_markers, is_offered, marker_of}
use Rattle.ssh_model.specs.State.TransportLayer.Kept.{first_kex}
use Rattle.ssh_config.specs.Config.{IsKexMethod}

AreMethods : List (List ℕ) → Type 0
AreMethods names = (name : List ℕ) → Contains names name → IsKexMethod name

no_text : (marker name : List ℕ) → is_text (codes "curve25519-sha256") marker ≡ false → is_text (codes "curve25519-sha256@libssh.org") marker ≡ false → IsKexMethod name → is_text name marker ≡ false
no_text marker name one other (inl e) = subst (λ (t : List ℕ). is_text t marker ≡ false) (sym e) one
no_text marker name one other (inr e) = subst (λ (t : List ℕ). is_text t marker ≡ false) (sym e) other

-- after names of methods, a marker is there where it is among those that follow
following : (marker : List ℕ) → is_text (codes "curve25519-sha256") marker ≡ false → is_text (codes "curve25519-sha256@libssh.org") marker ≡ false → (names more : List (List ℕ)) → AreMethods names → has_marker marker (names ++ more) ≡ has_marker marker more
unfolding AreMethods
following marker one other [] more methods = refl
following marker one other (name ∷ names) more methods =
    let off = no_text marker name one other (methods name (0, omega arith, refl)) in
    let rest = following marker one other names more (λ n c. methods n (suc c.0, omega (arith, c.1), c.2)) in
    subst (λ (t : Bool). is_some (cond t (Some name) (find (λ n. is_text n marker) (names ++ more))) ≡ has_marker marker more) (sym off) rest

strict_in : (settings : Settings) (side : Side) (e : Bool) (t : Strictness) → settings.takes_extensions ≡ e → settings.strictness ≡ t → has_marker (marker_of side) (first_markers settings side) ≡ is_offered t
strict_in settings Client true Require x y = rw (x, y) refl
strict_in settings Client true Offer x y = rw (x, y) refl
strict_in settings Client true Off x y = rw (x, y) refl
strict_in settings Client false Require x y = rw (x, y) refl
strict_in settings Client false Offer x y = rw (x, y) refl
strict_in settings Client false Off x y = rw (x, y) refl
strict_in settings Server true Require x y = rw (x, y) refl
strict_in settings Server true Offer x y = rw (x, y) refl
strict_in settings Server true Off x y = rw (x, y) refl
strict_in settings Server false Require x y = rw (x, y) refl
strict_in settings Server false Offer x y = rw (x, y) refl
strict_in settings Server false Off x y = rw (x, y) refl

extensions_in : (settings : Settings) (side : Side) (e : Bool) (t : Strictness) → settings.takes_extensions ≡ e → settings.strictness ≡ t → has_marker (extension_marker_of side) (first_markers settings side) ≡ e
extensions_in settings Client true Require x y = rw x refl
extensions_in settings Client true Offer x y = rw x refl
extensions_in settings Client true Off x y = rw x refl
extensions_in settings Client false Require x y = rw (x, y) refl
extensions_in settings Client false Offer x y = rw (x, y) refl
extensions_in settings Client false Off x y = rw (x, y) refl
extensions_in settings Server true Require x y = rw x refl
extensions_in settings Server true Offer x y = rw x refl
extensions_in settings Server true Off x y = rw x refl
extensions_in settings Server false Require x y = rw (x, y) refl
extensions_in settings Server false Offer x y = rw (x, y) refl
extensions_in settings Server false Off x y = rw (x, y) refl

pub own_strict : (settings : Settings) (side : Side) → ((name : List ℕ) → Contains settings.kex name → IsKexMethod name) → has_marker (marker_of side) (first_kex settings side) ≡ is_offered settings.strictness
unfolding AreMethods
own_strict settings Client methods = following (marker_of Client) refl refl settings.kex (first_markers settings Client) methods ∙ strict_in settings Client settings.takes_extensions settings.strictness refl refl
own_strict settings Server methods = following (marker_of Server) refl refl settings.kex (first_markers settings Server) methods ∙ strict_in settings Server settings.takes_extensions settings.strictness refl refl

pub own_extensions : (settings : Settings) (side : Side) → ((name : List ℕ) → Contains settings.kex name → IsKexMethod name) → has_marker (extension_marker_of side) (first_kex settings side) ≡ settings.takes_extensions
unfolding AreMethods
own_extensions settings Client methods = following (extension_marker_of Client) refl refl settings.kex (first_markers settings Client) methods ∙ extensions_in settings Client settings.takes_extensions settings.strictness refl refl
own_extensions settings Server methods = following (extension_marker_of Server) refl refl settings.kex (first_markers settings Server) methods ∙ extensions_in settings Server settings.takes_extensions settings.strictness refl refl
