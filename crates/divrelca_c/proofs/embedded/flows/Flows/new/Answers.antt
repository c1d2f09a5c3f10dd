use Rattle.std.proofs.Common.{◌≡◌, ◌∙◌, ℕ, ◌∷◌, ap, map, refl, replicate, suc, zero}
use Rattle.divrelca.specs.Windows.{Counts}
use Rattle.divrelca_c.specs.Embedded.Flows.{FlowCounts, flow_of, no_flow}
use Rattle.divrelca_c.specs.declared.embedded.flows.Flow.{Flow}
use Rattle.divrelca_c.proofs.embedded.flows.Flows.new.Goals as goal

map-replicate : {X Y : Type 0} (f : X → Y) (x : X) (n : ℕ) → map f (replicate n x) ≡ replicate n (f x)
map-replicate f x zero = refl
map-replicate f x (suc n) = ap (λ ys. f x ∷ ys) (map-replicate f x n)

pub returns : goal.returns
returns c =
    let first : Flow = record { max_packet = 0; window = c.new.result; begun = 0 } in
    let counts : Counts → FlowCounts = λ window. record { max_packet = 0; window = window; begun = 0 } in
    let made : flow_of first ≡ no_flow = ap counts c.new.ensures in
    ap (map flow_of) (c.in_ok-from_elem.ensures.items_if_clones_equal (λ y same. same)) ∙
    (map-replicate flow_of first 1024 ∙ ap (replicate 1024) made)
