-- `Box::from_raw` at a call, for any value.
--     Boxes                     its contract
--     boxes_takes               what the value and its allocator own is what the call wants
--     boxes_gives               what it leaves is the box, in one machine value
use mathlib.Core.Path.{◌≡◌, refl, ap, sym, subst}
use mathlib.Core.List.{List, [], ◌∷◌, ◌++◌}
use Prim.Native.Nat.{ℕ}
use lib.Dec.{T}
use seplogic.Ra.Ura.{Ura}
use base.Fml.{ftrue, fsep, flft}
use base.Fraction.{full_share}
use base.Logic.{SProp, emp, ent, ex, ex_e, ex_i, fst∗, guard, id⊢, mono_r, never, sep, via}
use contract.BorrowLft.{◌⊑◌}
use contract.Lifetimes.{toks}
use contract.Monad.{Fun, fact, fact_i, fm→mono}
use contract.Running.{Running}
use mir.Raw.{raw as bare}
use mir.Syntax.{Args, Dict, Symbol, a_type, dcons, dnil, fn₀, impl, method, no_args, tnil}
use mir.Val.{Val, WT, has_ty, of_list, vptr, vstruct}
use prog.Memory.{Memory}
use prog.Model.{Model}
use prog.Routine.{Env, Routine, ◌≼⁺◌}
use types.Kit.{Item, ‵, raw, ◌⊛◌, some, later, now as at_once, ◌$◌, ◌∵◌, !, await, check, done, drop, feq_i, feq_l, fjoin, fpick, fsplit, join, keep, move, pick, qed, rewrite, show, split, split3, updating, use0, use1}
use types.Logic.{Logic, sem}
use denote.Builtin.{unit}
use denote.Exit.{no, yes}
use denote.Param.{arg, bounded, layout}
use denote.Param.Glue.{Met, signature, spent}
use denote.RawPtr.{Ptr, RawPtr, block_ptr, in_a_block, null_ptr, ptr_val}
use denote.RattleType.{RattleType}
use denote.Signature.{plain}
use denote.Steps.{heard, nothing, only}
use denote.Struct.Tuple.{Tuple}
use denote.Triple.Carry.{grown, spared}
use denote.Triple.Clauses.{Ended, Lasts, closing, lasts}
use denote.Triple.Spec.{Meets, Spec, triple_of}
use denote.Triple.Statement.{Contract, FmF}
use denote.Triple.Table.{run_framed, widened}
use Rattle.core.proofs.alloc.Calls.{Fits, handle_tells, token}
use Rattle.std_alloc.specs.Box.Ownership.{box_owns}
use Rattle.std_alloc.specs.contracts.boxed.Box.from_raw as from_raw
use Rattle.std_alloc.specs.contracts.boxed.Box.into_raw_with_allocator as into_raw
use Rattle.std_alloc.proofs.BoxSteps.Form.{B, Bx, D, P, R, X, box_ty, box_typed, handle, word, τ}
use Rattle.std_alloc.proofs.BoxSteps.Steps.{box_in, box_out}

-- a machine value of a box's type
abbrev pub IsBoxed : Bx → Val → Type 0
IsBoxed E v = T (has_ty (box_ty E) v) × WT v

module _ (E : Bx) {M : Type 1} {𝓤 : Ura M} (𝓛 : Logic 𝓤) (at_mem : Memory → SProp 𝓤) (run : Routine → Fun 𝓤) where
  open 𝓛 use {H}

  abbrev pub Boxes : Contract 𝓤
  Boxes = triple_of 𝓛 (from_raw.signature E.row E.al.row E.al.g E.al.d E.al.drops) (from_raw.spec E.row E.al.row E.al.g E.al.d E.al.drops 𝓛 at_mem run)

  module _ (a : E.al.row.Denot) (b o : ℕ) (x : X E) (hv : Val) where
    abbrev pub at_boxes : Boxes.Ghost
    at_boxes = ((([], ([], tt)), (full_share, (full_share, tt)), tt, (a, (block_ptr b o, tt)), (hv ∷ [], (vptr b o ∷ [], tt))), x)

    pub boxes_takes : [] ⊑ E.row.lives → [] ⊑ E.al.row.lives →
        ent 𝓤 (sep 𝓤 (sem 𝓛 (box_owns (token E.al a) (R E) (block_ptr b o) x)) (sem 𝓛 ((P E).own_val a (hv ∷ [])))) (Boxes.pre at_boxes)
    boxes_takes value_lives handle_lives =
        qed 𝓛 (‵ (box_owns (token E.al a) (R E) (block_ptr b o) x) ∷ ‵ ((P E).own_val a (hv ∷ [])) ∷ []) ∵
        use0 𝓛 (raw (fact 𝓤 ([] ⊑ E.al.row.lives))) (fact_i 𝓤 ([] ⊑ E.al.row.lives) (emp 𝓤) handle_lives) $ join ! $
        use0 𝓛 (raw (fact 𝓤 ([] ⊑ E.row.lives))) (fact_i 𝓤 ([] ⊑ E.row.lives) (emp 𝓤) value_lives) $ join ! $
        -- [what it requires; the allocator]
        nothing ! $ feq_i ! (List Val) (vptr b o ∷ []) (vptr b o ∷ []) refl $ fjoin ! $ move ! (2 ∷ 0 ∷ []) $ fjoin ! $
        -- [both arguments; what it requires]
        nothing ! $ use0 𝓛 (‵ (flft [] full_share)) (𝓛.lfts.lft-nil full_share) $ join ! $
        use0 𝓛 (‵ (flft [] full_share)) (𝓛.lfts.lft-nil full_share) $ join ! $ join ! $ join ! $ done !

    pub boxes_gives : (u : Val) → ent 𝓤 (Boxes.post at_boxes u)
        (H.⇛ (ex 𝓤 (λ (r : D E). guard 𝓤 ((r.value ≡ x) × IsBoxed E u) (sem 𝓛 ((B E).own_val r (u ∷ []))))))
    boxes_gives u =
        let tokens : Item 𝓤 = ‵ (flft [] full_share) ⊛ ‵ (flft [] full_share) ⊛ ‵ ftrue in
        qed 𝓛 (raw (Boxes.post at_boxes u) ∷ []) ∵ updating ! $
        use1 𝓛 (later (some (λ (r : D E). (tokens ⊛ ‵ ((B E).own_val r (u ∷ []))) ⊛
        some (λ (_ : Unit {0} × (Unit {0} × Unit {0})). ‵ (fsep ftrue (fsep ftrue ftrue)) ⊛ (raw (fact 𝓤 (r.value ≡ x)) ⊛ raw (fact 𝓤 (r.alloc ≡ a)))))))
        (id⊢ 𝓤 _) $ await ! tt $ pick ! (λ r. split ! $ move ! (1 ∷ []) $ pick ! (λ _. split3 ! $ drop ! $ heard ! (r.value ≡ x) (λ same.
        drop ! $ split ! $ drop ! $ box_out E ! r (u ∷ []) (λ b' o' hw e' is fits.
        box_in E ! r b' o' r.value e' refl $ rewrite ! 0 (λ (us : List Val). ‵ ((B E).own_val r us)) (sym is) refl $ at_once ! $
        show ! (λ (s : D E). guard 𝓤 ((s.value ≡ x) × IsBoxed E u) (sem 𝓛 ((B E).own_val s (u ∷ [])))) r $
        check ! (same, subst (IsBoxed E) (sym (ap only is)) (box_typed E hw b' o' fits)) $ done !))))

-- `Box::into_raw_with_allocator` at a call, for any value that is dropped by `glue`.
--     Opens                     its contract
--     opens_takes               the box, in one machine value, is what the call wants
--     opens_gives               what it leaves is what the value and its allocator own, and a pair of the pointer and the allocator
abbrev pub opening : Bx → Dict → Args
opening E glue = bounded (a_type ∷ a_type ∷ []) (E.row, (E.al.row, tt)) (dcons E.al.d (dcons E.al.drops (dcons glue dnil)))

-- where the value stands, with the machine value of its allocator
abbrev pub Place : Type 0
Place = ℕ × (ℕ × Val)

abbrev pub IsOpened : Bx → Val → Place → Type 0
IsOpened E v p = (v ≡ word E p.1.1 p.0 p.1.0) × Fits E.al p.1.1

module _ (E : Bx) (glue : Dict) {M : Type 1} {𝓤 : Ura M} (𝓛 : Logic 𝓤) (at_mem : Memory → SProp 𝓤) (run : Routine → Fun 𝓤) where
  open 𝓛 use {H}

  abbrev pub Opens : Contract 𝓤
  Opens = triple_of 𝓛 (into_raw.signature E.row E.al.row E.al.g E.al.d E.al.drops glue) (into_raw.spec E.row E.al.row E.al.g E.al.d E.al.drops glue 𝓛 at_mem run)

  module _ (box : D E) (w : Val) where
    abbrev pub at_opens : Opens.Ghost
    at_opens = ((([], ([], tt)), (full_share, (full_share, tt)), tt, (box, tt), (w ∷ [], tt)), tt)

    pub opens_takes : [] ⊑ E.row.lives → [] ⊑ E.al.row.lives → ent 𝓤 (sem 𝓛 ((B E).own_val box (w ∷ []))) (Opens.pre at_opens)
    opens_takes value_lives handle_lives =
        qed 𝓛 (‵ ((B E).own_val box (w ∷ [])) ∷ []) ∵
        nothing ! $ use0 𝓛 (raw (fact 𝓤 ([] ⊑ E.al.row.lives))) (fact_i 𝓤 ([] ⊑ E.al.row.lives) (emp 𝓤) handle_lives) $ join ! $
        use0 𝓛 (raw (fact 𝓤 ([] ⊑ E.row.lives))) (fact_i 𝓤 ([] ⊑ E.row.lives) (emp 𝓤) value_lives) $ join ! $
        -- [what it requires; the box]
        nothing ! $ move ! (2 ∷ 0 ∷ []) $ fjoin ! $
        -- [the argument; what it requires]
        nothing ! $ use0 𝓛 (‵ (flft [] full_share)) (𝓛.lfts.lft-nil full_share) $ join ! $
        use0 𝓛 (‵ (flft [] full_share)) (𝓛.lfts.lft-nil full_share) $ join ! $ join ! $ join ! $ done !

    pub opens_gives : (u : Val) → ent 𝓤 (Opens.post at_opens u)
        (H.⇛ (ex 𝓤 (λ (p : Place). guard 𝓤 (IsOpened E u p) (sep 𝓤 (sem 𝓛 (box_owns (token E.al box.alloc) (R E) (block_ptr p.0 p.1.0) box.value)) (sem 𝓛 (handle E box.alloc p.1.1))))))
    opens_gives u =
        let a = box.alloc in let x = box.value in let Owned = λ (p : Ptr). box_owns (token E.al a) (R E) p x in
        let tokens : Item 𝓤 = ‵ (flft [] full_share) ⊛ ‵ (flft [] full_share) ⊛ ‵ ftrue in
        qed 𝓛 (raw (Opens.post at_opens u) ∷ []) ∵ updating ! $
        use1 𝓛 (later (some (λ (r : Ptr × E.al.row.Denot). (tokens ⊛ ‵ ((Tuple (RawPtr ∷ P E ∷ [])).own_val r (u ∷ []))) ⊛
        some (λ (_ : (Unit {0} × (Unit {0} × Unit {0})) × Unit {0}). ‵ (fsep (fsep ftrue (fsep ftrue ftrue)) ftrue) ⊛ (raw (fact 𝓤 (r.1 ≡ a)) ⊛ ‵ (Owned r.0))))))
        (id⊢ 𝓤 _) $ await ! tt $ pick ! (λ r. split ! $ move ! (1 ∷ []) $ pick ! (λ _. split3 ! $ drop ! $ heard ! (r.1 ≡ a) (λ same.
        in_a_block ! r.0 Owned (fst∗ 𝓤 (never 𝓤) (sem 𝓛 (token E.al a (bare (τ E)) null_ptr))) (λ b o stands.
        -- [what is owned at the block; the pair with its tokens]
        move ! (1 ∷ []) $ split ! $ drop ! $ fpick ! (λ parts. fsplit ! $ feq_l ! (λ pair. fsplit ! $ feq_l ! (λ points. fsplit ! $
        rewrite ! 0 (λ (s : E.al.row.Denot). ‵ ((P E).own_val s parts.1.0)) same refl $ handle_tells E.al ! a parts.1.0 (λ hv handles fits.
        let word_is = subst (λ (p : Ptr). u ∷ [] ≡ vstruct (of_list (ptr_val p ∷ hv ∷ [])) ∷ []) stands
        (subst (λ (hs : List Val). u ∷ [] ≡ vstruct (of_list (ptr_val r.0 ∷ (hs ++ []))) ∷ []) handles
        (subst (λ (ps : List Val). u ∷ [] ≡ vstruct (of_list (ps ++ (parts.1.0 ++ []))) ∷ []) points pair)) in
        move ! (2 ∷ 0 ∷ []) $ join ! $ at_once ! $
        show ! (λ (p : Place). guard 𝓤 (IsOpened E u p) (sep 𝓤 (sem 𝓛 (Owned (block_ptr p.0 p.1.0))) (sem 𝓛 (handle E a p.1.1)))) (b, (o, hv)) $
        check ! (ap only word_is, fits) $ keep ! (0 ∷ []) $ done !))))))))

-- A type that is not generic has a `drop` of its own. It is what a call passes for the type's bound.
--     glue_of                   what is passed, by the symbol of that `drop`
--     let_go, silent            the contract of such a `drop`, which says nothing
--     glued                     what meets it is what the bound wants
abbrev pub glue_of : Symbol → Dict
glue_of s = impl (s ∷ []) tnil dnil

module _ (X : RattleType) where
  abbrev let_go : Ended
  let_go = record { signature = record { lifetimes = 0; outlives = []; params = plain (λ _. X) ∷ []; result = plain (λ _. unit) }; kept = (yes, tt) }

  abbrev silent : {M : Type 1} {𝓤 : Ura M} → Logic 𝓤 → Spec 𝓤 let_go.signature
  silent {𝓤 = 𝓤} 𝓛 = closing 𝓛 let_go (λ κs a. record { ghost = Unit {0}; requires = λ _. emp 𝓤; ensures = λ _ r end. emp 𝓤 })

  module _ {M : Type 1} {𝓤 : Ura M} (𝓛 : Logic 𝓤) (𝓜 : Model 𝓤 𝓛.H) (𝓡 : Running 𝓤 𝓛.H 𝓜) (γ : Env) (s : Symbol) where
    abbrev passed : Routine
    passed = γ (method (glue_of s) 0 no_args)

    abbrev called : Fun 𝓤
    called = 𝓡.run passed

    pub glued : γ (fn₀ s) ≼⁺ passed → Meets 𝓛 let_go.signature (𝓡.run (γ (fn₀ s))) (silent 𝓛) → Met 𝓛 𝓜 𝓡 γ (arg (bare (layout X)) no X) (glue_of s)
    glued wider drops y =
        let met = widened 𝓤 𝓛.H (triple_of 𝓛 let_go.signature (silent 𝓛)) 𝓜 𝓡 γ (γ (fn₀ s)) passed wider drops in
        let fm : FmF 𝓤 called = run_framed 𝓤 𝓛.H 𝓜 𝓡 passed in
        let row = arg (bare (layout X)) no X in
        let longer = grown 𝓛 let_go.signature 1 (X.lives, tt) (silent 𝓛) in
        let wanted = triple_of 𝓛 (signature row) (spent 𝓛 row) in
        let back : Val → Unit {0} → SProp 𝓤 = λ v r. sep 𝓤 (toks 𝓛 1 y.0.0 y.0.1) (sem 𝓛 (unit.own_val r (v ∷ []))) in
        let Last = Lasts let_go tt (y.0.3.0, tt) in
        let gone : SProp 𝓤 = ex 𝓤 (λ (ws : Last). sep 𝓤 (sem 𝓛 (lasts let_go tt (y.0.3.0, tt) ws)) (emp 𝓤)) in
        let unseen : SProp 𝓤 = ex 𝓤 (λ (ws : Unit {0} × Unit {0}). sep 𝓤 (sem 𝓛 (fsep ftrue ftrue)) (emp 𝓤)) in
        let forgets : ent 𝓤 gone unseen =
        qed 𝓛 (raw gone ∷ []) ∵ drop ! $ show ! (λ (ws : Unit {0} × Unit {0}). sep 𝓤 (sem 𝓛 (fsep ftrue ftrue)) (emp 𝓤)) (tt, tt) $
        nothing ! $ nothing ! $ nothing ! $ fjoin ! $ move ! (1 ∷ 0 ∷ []) $ move ! (1 ∷ 0 ∷ []) $ join ! $ done ! in
        via 𝓤 (called (longer.args y) (longer.post y)) (spared 𝓛 let_go.signature called fm 1 (X.lives, tt) (silent 𝓛) met y)
        (fm→mono 𝓤 (called (longer.args y)) (fm (longer.args y)) (longer.post y) (wanted.post y) (λ v.
        𝓛.laws.⇛_mono (ex 𝓤 (λ (r : Unit {0}). sep 𝓤 (back v r) gone)) (ex 𝓤 (λ (r : Unit {0}). sep 𝓤 (back v r) unseen)) (
        ex_e 𝓤 (λ (r : Unit {0}). sep 𝓤 (back v r) gone) (λ r. via 𝓤 (sep 𝓤 (back v r) unseen) (mono_r 𝓤 (back v r) forgets)
        (ex_i 𝓤 (λ (s : Unit {0}). sep 𝓤 (back v s) unseen) r)))))
