-- The payloads of one end, item by item.
use Rattle.std.proofs.Common.{◌≡◌, ℕ, suc, zero, ◌+◌, ◌<◌, List, [], ◌∷◌, ◌++◌, length, drop, get_or, cond, Bor, true, sym, ◌∙◌, ap, refl, arith, append_assoc, add-one}
use Rattle.ssh_model.specs.declared.side.Side.{Side}
use Rattle.ssh_end.specs.declared.item.Done.{Done}
use Rattle.ssh_play.specs.declared.safety.Way.{Way}
use Rattle.ssh_play.specs.Prefixes.{payloads_in}
use Rattle.ssh_play.specs.Runs.{is_side, payload_in, went}

-- those of two lists
pub payloads_in-append : (xs ys : List (Bor (List ℕ))) → payloads_in (xs ++ ys) ≡ payloads_in xs ++ payloads_in ys
payloads_in-append [] ys = refl
payloads_in-append (x ∷ xs) ys = ap (λ l. x.now ∷ l) (payloads_in-append xs ys)

-- those of an item and of what is after it
pub went-drop : (side : Side) (way : Way) (run : List Done) (i : ℕ) (done : Done) → done ≡ get_or run i done → i < length run → went side way (drop i run) ≡ cond (is_side done.side side) (payload_in way done.item) [] ++ went side way (drop (suc i) run)
went-drop side way [] i done e h = absurd (omega arith)
went-drop side way (other ∷ run) zero done e h = ap (λ d. cond (is_side d.side side) (payload_in way d.item) [] ++ went side way run) (sym e)
went-drop side way (other ∷ run) (suc i) done e h = went-drop side way run i done e (omega arith)

-- An item of the end with a payload: it goes with those so far.
pub went_more : (side : Side) (way : Way) (run : List Done) (i : ℕ) (done : Done) (payload : Bor (List ℕ)) (kept : List (Bor (List ℕ))) → done ≡ get_or run i done → i < length run → is_side done.side side ≡ true → payload_in way done.item ≡ payload.now ∷ [] → payloads_in kept ++ went side way (drop i run) ≡ went side way run → payloads_in (kept ++ (payload ∷ [])) ++ went side way (drop (i + 1) run) ≡ went side way run
went_more side way run i done payload kept e h here there so_far =
    let rest : List (List ℕ) = went side way (drop (suc i) run) in
    let next : went side way (drop i run) ≡ payload.now ∷ rest =
    went-drop side way run i done e h ∙ ap (λ b. cond b (payload_in way done.item) [] ++ rest) here ∙ ap (λ l. l ++ rest) there in
    rw (add-one, payloads_in-append, append_assoc) (ap (λ l. payloads_in kept ++ l) (sym next) ∙ so_far)

-- One without: those so far are as before.
pub went_on : (side : Side) (way : Way) (run : List Done) (i : ℕ) (done : Done) (kept : List (Bor (List ℕ))) → done ≡ get_or run i done → i < length run → is_side done.side side ≡ true → payload_in way done.item ≡ [] → payloads_in kept ++ went side way (drop i run) ≡ went side way run → payloads_in kept ++ went side way (drop (i + 1) run) ≡ went side way run
went_on side way run i done kept e h here there so_far =
    let rest : List (List ℕ) = went side way (drop (suc i) run) in
    let next : went side way (drop i run) ≡ rest =
    went-drop side way run i done e h ∙ ap (λ b. cond b (payload_in way done.item) [] ++ rest) here ∙ ap (λ l. l ++ rest) there in
    rw (add-one) (ap (λ l. payloads_in kept ++ l) (sym next) ∙ so_far)
