-- A list of payloads that is cut back to the length that it had.
use Rattle.std.proofs.Common.{◌≡◌, ◌∙◌, ℕ, List, ◌++◌, ap, length, map, take}
use Rattle.std.specs.Global.{Vec}
use Rattle.ssh_transport_machine.proofs.Sending.{mapped_front}

pub roll_back : {old slice new : List (Vec ℕ)} (between amid : List (Vec ℕ)) (more : List (List ℕ)) → new ≡ take (length slice) between → slice ≡ old →
    map (λ v. v.items) between ≡ map (λ v. v.items) amid → map (λ v. v.items) amid ≡ map (λ v. v.items) old ++ more → map (λ v. v.items) new ≡ map (λ v. v.items) old
roll_back {old} between amid more cut shown same longer =
    ap (map (λ v. v.items)) (cut ∙ ap (λ l. take (length l) between) shown) ∙ mapped_front (λ v. v.items) old between more (same ∙ longer)
