-- What a KEXINIT is refused for, by four tests.
use Rattle.std.proofs.Common.{◌≡◌, [], ◌∷◌, refl, sym, ◌∙◌, Bool, true, false, not, ◌&&◌, ◌==◌, is_some, Some, None, Option}
use Rattle.std.specs.Prelude.{nat_lt}
use Rattle.ssh_model.specs.Protocol.Wire.Message.{Proposal}
use Rattle.ssh_model.specs.declared.refusal.Refusal.{Refusal}
use Rattle.ssh_model.specs.declared.refusal.Refusal.TheVariants.{NotStrict, Unexpected, NoCommon}
use Rattle.ssh_model.specs.Protocol.Sessions.Refusals.{Check.RefusedWhere, first_refusal}
use Rattle.ssh_model.specs.Protocol.Sessions.Parties.{is_required, lists_of}
use Rattle.ssh_model.specs.Protocol.Sessions.Transport.{is_marked}
use Rattle.ssh_model.specs.State.TransportLayer.Kept.{Transport, becomes_strict, has_choice_with, offer_checks, own_offer}

of_four : (needs_memory late can wants : Bool) → Option Refusal
of_four needs_memory late can wants = first_refusal (RefusedWhere needs_memory NotStrict ∷ RefusedWhere late Unexpected ∷ RefusedWhere (not can) NoCommon ∷ RefusedWhere wants Refusal.NoMaterial ∷ [])

module _ {K : Type 0} (s : Transport K) (theirs : Proposal) (needs_memory : Bool) (l : needs_memory ≡ (s.taking.epoch == 0 && is_required s.settings.strictness && not (is_marked s.side theirs))) where
  module _ (late : Bool) (t : late ≡ (s.taking.epoch == 0 && (becomes_strict s theirs && nat_lt 0 s.taking.count))) where
    module _ (can : Bool) (h : can ≡ has_choice_with s.side (lists_of (own_offer s.settings s.side)) (lists_of theirs)) where
      module _ (wants : Bool) (w : wants ≡ (not s.blocked && not (is_some s.material))) where
        checks_are : first_refusal (offer_checks s theirs) ≡ of_four needs_memory late can wants
        unfolding of_four
        checks_are = λ i. first_refusal (RefusedWhere (sym l i) NotStrict ∷ RefusedWhere (sym t i) Unexpected ∷ RefusedWhere (not (sym h i)) NoCommon ∷ RefusedWhere (sym w i) Refusal.NoMaterial ∷ [])

        pub none_holds : needs_memory ≡ false → late ≡ false → can ≡ true → wants ≡ false → first_refusal (offer_checks s theirs) ≡ None
        unfolding of_four
        none_holds a b c d = checks_are ∙ (λ i. of_four (a i) (b i) (c i) (d i))

        pub lacks_pair : needs_memory ≡ false → late ≡ false → can ≡ true → wants ≡ true → first_refusal (offer_checks s theirs) ≡ Some Refusal.NoMaterial
        unfolding of_four
        lacks_pair a b c d = checks_are ∙ (λ i. of_four (a i) (b i) (c i) (d i))

      pub no_choice : needs_memory ≡ false → late ≡ false → can ≡ false → first_refusal (offer_checks s theirs) ≡ Some NoCommon
      unfolding of_four
      no_choice a b c = checks_are (not s.blocked && not (is_some s.material)) refl ∙ (λ i. of_four (a i) (b i) (c i) (not s.blocked && not (is_some s.material)))

    pub too_late : needs_memory ≡ false → late ≡ true → first_refusal (offer_checks s theirs) ≡ Some Unexpected
    unfolding of_four
    too_late a b =
        let can = has_choice_with s.side (lists_of (own_offer s.settings s.side)) (lists_of theirs) in
        let wants = not s.blocked && not (is_some s.material) in
        checks_are can refl wants refl ∙ (λ i. of_four (a i) (b i) can wants)
