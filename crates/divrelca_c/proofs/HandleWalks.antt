-- The functions of a handle meet their contracts, for any end.
--     unboxes     `into_box` takes the handle apart, and makes the box of its pointer
--     lends       `state` reads the pointer and lends the end that stands there. The handle is then one of whatever end is left there
--     leaves      `of` takes the box apart, and the place owns what the box owned
use mathlib.Core.List.{[], ◌++◌, ◌∷◌, List}
use mathlib.Core.Path.{◌≡◌, refl, subst, sym}
use Prim.Native.Nat.{ℕ}
use seplogic.Ra.Ura.{Ura}
use base.Fml.{Fml, GName, flft, fsep, ftrue}
use base.Fraction.{full_share}
use base.Logic.{SProp, emp, ent, id⊢, sep}
use contract.BorrowLft.{⊑_refl}
use contract.Lifetimes.{Lfts}
use contract.Monad.{fact}
use contract.Running.{MachineTables, Running, tables}
use mir.Raw.{raw as bare}
use mir.Syntax.{Callee, Fn, Symbol, Ty, addr_of, aggregate, assign, block, call, copy, deref, erased, field, named, place, return, seq}
use mir.Syntax.{ty_ptr}
use mir.Val.{Val, vptr}
use prog.Model.{Model}
use prog.Wired.{Wired}
use prog.Wp.{Closed, WpFn}
use types.ByLocal.{alloc_all, env, free_all, get, get_in, lands_as, lands_last, look_at, pass_all, sets, sets_last, through}
use types.Kit.{‵, ◌$◌, ◌∵◌, ◌⊛◌, !, Item, at_ret, await, by, done, drop, fjoin, fpack, frame, fsplit, fsplit3, given, group, join, keep}
use types.Kit.{later, learn, move, pick, qed, raw, rewrite, some, split, split3, suffices, use1, use2}
use types.Logic.{Logic, sem}
use types.Part.{agg, look_in, sub, whole}
use types.Run.{addr, and_then, blocks, enter, exec, first, fld, load, no_more, of_opd, returns, stop}
use denote.Builtin.{RawPtr}
use denote.Exit.{Kept, no, yes}
use denote.Follow.{Part, follows, lends_Part}
use denote.Memory.{cell_at, mem, part_at, part_of}
use denote.Param.{layout}
use denote.Param.Glue.{Met}
use denote.RattleType.{RattleType}
use denote.RawPtr.{block_ptr}
use denote.Ref.{MutBor, MutRef, mut_Tells, mut_vals}
use denote.Signature.{Slot, mut_ref_to, plain}
use denote.Steps.{nothing, opens}
use denote.Struct.Tuple.{Tuple}
use denote.Triple.Call.{calls_at, calls_at_last}
use denote.Triple.Clauses.{Clauses, Ended, closing}
use denote.Triple.Entry.{Args, Res}
use denote.Triple.Spec.{Meets}
use denote.Triple.Table.{framed}
use denote.Triple.Walked.{Goes-dropped, Goes-spent_ref, Stays, ends_at, says, stay_dropped, walk_of}
use Rattle.core.proofs.alloc.Calls.{token}
use Rattle.std.proofs.VecSteps.Shapes.{after}
use Rattle.std.proofs.raw_atomic.Walks.{proved, proved_at}
use Rattle.std.specs.Borrow.{Lends}
use Rattle.std.specs.Prelude.{Some}
use Rattle.std_alloc.proofs.BoxSteps.Form.{τ, B, Bx, D, P, R, args, box_typed, handle, word}
use Rattle.std_alloc.proofs.BoxSteps.Steps.{box_in, box_out}
use Rattle.std_alloc.proofs.boxed.Box.from_raw.Met as from_raw_met
use Rattle.std_alloc.proofs.boxed.Box.from_raw.Symbol as from_raw
use Rattle.std_alloc.proofs.boxed.Box.into_raw_with_allocator.Met as into_raw_met
use Rattle.std_alloc.proofs.boxed.Box.into_raw_with_allocator.Symbol as into_raw
use Rattle.std_alloc.specs.Box.Ownership.{box_owns}
use Rattle.std_alloc.specs.contracts.boxed.Box.{the_row as Box}
use Rattle.std_heap.proofs.GlobalAllocator.TheImpl.Met as heap
use Rattle.std_heap.proofs.GlobalAllocator.allocate.Symbol as allocate
use Rattle.std_heap.proofs.GlobalAllocator.deallocate.Symbol as deallocate
use Rattle.std_heap.proofs.GlobalAllocator.grow.Symbol as grow
use Rattle.std_heap.proofs.GlobalAllocator.shrink.Symbol as shrink
use Rattle.std_heap.specs.contracts.Global as Heap
use Rattle.std_heap.specs.contracts.GlobalAllocator.TheImpl.{ghosts}
use Rattle.divrelca_c.proofs.Boxing.{Boxes, IsBoxed, IsOpened, Opens, Place, at_boxes, at_opens, boxes_gives, boxes_takes, glue_of, opening}
use Rattle.divrelca_c.proofs.Boxing.{opens_gives, opens_takes}
use Rattle.divrelca_c.proofs.Destruct++none.drop.Symbol as no_drop
use Rattle.divrelca_c.proofs.Handling.{Handle, alloc_ty, at_heap, box_ty, compiled, copies, owner_ty}

-- a function of one parameter, which it uses up, under one clause
module _ {n : ℕ} (given made : Slot n) (k : Kept) where
  abbrev one : Ended
  one = record { signature = record { lifetimes = n; outlives = []; params = given ∷ []; result = made }; kept = (k, tt) }

  abbrev stayed : Stays one.signature.params one.kept
  stayed = (stay_dropped given k, tt)

  abbrev under : {M : Type 1} {𝓤 : Ura M} → ((κs : Lfts n) → Args one.signature κs → Res one.signature κs → SProp 𝓤) → Clauses 𝓤 one
  under {𝓤 = 𝓤} clause κs a = record { ghost = Unit {0}; requires = λ _. emp 𝓤; ensures = λ _ r _. clause κs a r }

module _ (K : Handle) where
  abbrev E : Bx
  E = at_heap K.end K.laws

  abbrev boxed : Slot 0
  boxed = plain (λ _. Box K.end Heap.the_row ghosts)

  abbrev held : Slot 0
  held = plain (λ _. K.row)

  abbrev placed : Slot 0
  placed = plain (λ _. K.new_row)

  abbrev lent : RattleType → Slot 1
  lent R = mut_ref_to (0 ∷ []) tt (plain (λ _. R))

  -- `into_box`, as compiled
  abbrev pub unboxing : Fn
  unboxing = compiled 0 (box_ty ∷ owner_ty K.name ∷ ty_ptr ∷ alloc_ty ∷ box_ty ∷ ty_ptr ∷ [])
      (seq (copies 2 1 (field 0 ∷ [])) (seq (copies 3 1 (field 1 ∷ []))
      (seq (block (seq (copies 5 2 []) (call (from_raw.name (args E)) (copy (place 3 []) ∷ copy (place 5 []) ∷ []) (place 4 []))))
      (seq (copies 0 4 []) return))))

  -- `of`, as compiled, where an end is dropped by this symbol
  abbrev pub leaving : Symbol → Fn
  leaving s = compiled 0
      (owner_ty K.new_name ∷ box_ty ∷ ty_ptr ∷ alloc_ty ∷ layout (Tuple (RawPtr ∷ Heap.the_row ∷ [])) ∷ box_ty ∷ ty_ptr ∷ [])
      (seq (copies 5 1 []) (seq (call (into_raw.name (opening E (glue_of s))) (copy (place 5 []) ∷ []) (place 4 []))
      (seq (copies 2 4 (field 0 ∷ [])) (seq (copies 3 4 (field 1 ∷ []))
      (seq (copies 6 2 []) (seq (assign (place 0 []) (aggregate (copy (place 6 []) ∷ copy (place 3 []) ∷ []))) return))))))

  -- `state`, as compiled
  abbrev pub lending : Fn
  lending =
      let end_ref = layout (MutRef (named 0) [] K.end) in let row_ref = layout (MutRef (named 0) [] K.row) in
      compiled 1 (end_ref ∷ row_ref ∷ layout (MutRef erased [] K.end) ∷ ty_ptr ∷ ty_ptr ∷ [])
      (seq (block (seq (copies 3 1 (deref (owner_ty K.name) ∷ field 0 ∷ [])) (seq (copies 4 3 [])
      (assign (place 2 []) (addr_of (place 4 (deref (layout K.end) ∷ [])))))))
      (seq (copies 0 2 []) return))

  -- what is left of a handle without its end
  abbrev Rest : K.row.Denot → (pb po : ℕ) → Val → (b o : ℕ) → Fml
  Rest h pb po hv b o =
      let a = (K.box_of h).alloc in
      fsep (fsep (token E.al a (bare (τ E)) (block_ptr pb po)) (handle E a hv))
      (cell_at full_share (owner_ty K.name ∷ []) (word E hv pb po ∷ []) b o)

  module _ {M : Type 1} {𝓤 : Ura M} (𝓛 : Logic 𝓤) where
    -- with any end there it is a handle again
    back : (h : K.row.Denot) (pb po : ℕ) (hv : Val) (b o : ℕ) → (K.box_of h).ptr ≡ block_ptr pb po → (s : K.end.Denot) →
        ent 𝓤 (sep 𝓤 (sem 𝓛 ((mem K.end).own_at s pb po)) (sem 𝓛 (Rest h pb po hv b o))) (sem 𝓛 ((mem K.row).own_at (K.put h s) b o))
    unfolding part_of
    back h pb po hv b o is s =
        let w = word E hv pb po ∷ [] in
        qed 𝓛 (‵ (part_at K.end full_share s pb po) ∷ ‵ (Rest h pb po hv b o) ∷ []) ∵
        rewrite ! 0 (λ (F : Fml). ‵ F) (sym (K.lies s pb po)) refl $ move ! (1 ∷ []) $ fsplit ! $ fsplit ! $ move ! (3 ∷ []) $
        box_in E ! (record (K.box_of h) { value = s }) pb po s is refl $
        rewrite ! 0 (λ (F : Fml). ‵ F) (sym (K.owns_put h s w)) refl $
        rewrite ! 1 (λ (ts : List Ty). ‵ (cell_at full_share ts w b o)) (sym K.mir) refl $ move ! (1 ∷ 0 ∷ []) $ fjoin ! $
        fpack ! (List Val) (λ us. fsep (cell_at full_share K.row.mir us b o) (K.row.own_val (K.put h s) us)) w $ done !

    module _ (𝓜 : Model 𝓤 𝓛.H) (𝓡 : Running 𝓤 𝓛.H 𝓜) where
      open 𝓛 use {H}

      abbrev 𝓣 : MachineTables 𝓤 H 𝓜
      𝓣 = tables 𝓤 H 𝓜 𝓡 𝓡.env

      abbrev lends_end : Clauses 𝓤 (one (lent K.row) (lent K.end) no)
      lends_end = under (lent K.row) (lent K.end) no (λ κs a r.
          sep 𝓤 (sem 𝓛 (Lends K.row K.end a.0 r (K.put a.0.now))) (fact 𝓤 (r.now ≡ (K.box_of a.0.now).value)))

      pub lends : (name : Callee) → Closed 𝓤 H 𝓣.C 𝓣.Λ name lending →
          Meets 𝓛 (one (lent K.row) (lent K.end) no).signature (𝓣.C name) (closing 𝓛 (one (lent K.row) (lent K.end) no) lends_end)
      lends name closed =
          let it = one (lent K.row) (lent K.end) no in let kept = stayed (lent K.row) (lent K.end) no in
          let W = walk_of 𝓛 it kept lends_end in
          proved 𝓛 it kept lends_end 𝓜 𝓡 (Goes-spent_ref 𝓛 1 (0 ∷ []) tt (plain (λ _. K.row)), tt) name lending closed
          (λ κs. (mut_vals, tt)) (λ κs. (mut_Tells (named 0) κs.0 K.row, tt)) (λ κs qs bounds a _ are.
          let κ = κs.0 in let q = qs.0 in let b = a.0.ref_ptr.0 in let o = a.0.ref_ptr.1 in let γ = a.0.ghost_name in let h = a.0.now in
          let vs = mut_vals a.0 in let y : W.Ghost = ((κs, qs, bounds, a, (vs, tt)), tt) in let d = K.box_of h in
          qed 𝓛 (((‵ (flft κ q) ⊛ ‵ ftrue) ⊛ ‵ ((MutRef (named 0) κ K.row).own_val a.0 vs) ⊛ ‵ ftrue) ∷ ‵ ftrue ∷ []) ∵
          split ! $ split ! $ move ! (2 ∷ []) $ split ! $ keep ! (0 ∷ 2 ∷ []) $
          enter ! _ _ _ _ _ $ alloc_all ! (λ l. pass_all ! refl ((tt, tt), tt) $
          fsplit3 ! $ move ! (1 ∷ 2 ∷ 3 ∷ []) $ opens ! tt K.row b o (λ us.
          move ! (1 ∷ []) $ rewrite ! 0 (λ (F : Fml). ‵ F) (K.owns h us) refl $ box_out E ! d us (λ pb po hv is ws fa.
          rewrite ! 0 (λ (F : Fml). ‵ F) (K.lies d.value pb po) refl $
          rewrite ! 3 (λ (vs' : List Val). ‵ (cell_at full_share K.row.mir vs' b o)) ws refl $
          rewrite ! 3 (λ (ts : List Ty). ‵ (cell_at full_share ts (word E hv pb po ∷ []) b o)) K.mir refl $
          -- [the end; the right to free it; the allocator; the handle's cell; the open borrow, in three entries]
          first ! $ blocks ! $
          sets ! (of_opd ! (load ! (through ! refl (fld ! refl (stop !))) (look_in ! 3 (sub ! 0 refl (whole !))))) refl (tt, tt) $
          sets ! (of_opd ! (get ! refl)) refl (tt, tt) $ sets_last ! (addr ! (through ! refl (stop !))) refl (tt, tt) $
          exec ! 𝓣.C 𝓣.Λ (env lending.locals l) (after 1 lending.body) (at_ret _ (W.post y)) $
          sets ! (of_opd ! (get ! refl)) refl (tt, tt) $
          move ! (1 ∷ 2 ∷ []) $ fjoin ! $ move ! (0 ∷ 2 ∷ []) $ fjoin ! $ move ! (2 ∷ 3 ∷ 4 ∷ 1 ∷ 0 ∷ []) $ group ! 5 $
          let rest = sem 𝓛 (Rest h pb po hv b o) in let again = back h pb po hv b o is in let code = K.row.coded.code h in
          use1 𝓛 (later (some (λ (γ' : GName). raw (Part 𝓛 K.row K.end (K.put h) (named 0) κ q b o pb po γ rest again d.value γ'))))
          (lends_Part 𝓛 K.row K.end (K.put h) (named 0) κ q b o pb po γ rest again code code d.value) $
          await ! tt $ pick ! (λ γ'. returns ! (look_at ! 0 refl) $ free_all ! refl $ keep ! (0 ∷ []) $
          let r : MutBor K.end.Denot = record { ref_ptr = (pb, po); ghost_name = γ'; now = d.value } in
          let Ref = (MutRef (named 0) κ K.end).own_val r (vptr pb po ∷ []) in
          use1 𝓛 (‵ Ref ⊛ ‵ (flft κ q) ⊛ ‵ (follows K.row K.end γ γ' (K.put h))) (id⊢ 𝓤 _) $ split3 ! $
          suffices ! _ (ends_at 𝓛 it kept lends_end y (vptr pb po) r (tt, tt) (tt, tt)) $
          nothing ! $ nothing ! $ fjoin ! $ join ! $ nothing ! $ move ! (2 ∷ 0 ∷ []) $ join ! $ join ! $ frame ! $ says ! refl $ done !)))))

      -- what a call passes for the allocator of a box
      module _ (allocates : Wired 𝓡.env allocate.code) (frees : Wired 𝓡.env deallocate.code) (grows : Wired 𝓡.env grow.code)
          (shrinks : Wired 𝓡.env shrink.code) (drops : Wired 𝓡.env no_drop.code) where
        abbrev makes_box : Clauses 𝓤 (one held boxed yes)
        makes_box = under held boxed yes (λ κs a r. fact 𝓤 (r.value ≡ (K.box_of a.0).value))

        pub unboxes : (name : Callee) → Closed 𝓤 H 𝓣.C 𝓣.Λ name unboxing → Wired 𝓡.env from_raw.code →
            Meets 𝓛 (one held boxed yes).signature (𝓣.C name) (closing 𝓛 (one held boxed yes) makes_box)
        unboxes name closed makes =
            let it = one held boxed yes in let kept = stayed held boxed yes in
            let Boxed = Boxes E 𝓛 𝓜.mem 𝓡.returns in
            let met = from_raw_met.met 𝓤 𝓛 𝓜 𝓡 makes E.row E.al.row E.laws E.al.laws E.al.g E.al.d E.al.drops
            (heap.passed 𝓡.env allocates frees grows shrinks M 𝓤 𝓛 𝓜 𝓡) (no_drop.glues 𝓡.env drops E.al.row E.al.laws M 𝓤 𝓛 𝓜 𝓡) in
            proved_at 𝓛 it kept makes_box 𝓜 𝓡 (Goes-dropped 𝓛 0 held yes (λ κs x w. K.silent yes x w), tt) name unboxing closed (λ z _.
            let Post = (walk_of 𝓛 it kept makes_box).post z in let from = K.box_of z.0.3.0 in let x = from.value in let a = from.alloc in
            qed 𝓛 ((‵ ftrue ⊛ ‵ (fsep (K.row.own_val z.0.3.0 z.0.4.0) ftrue)) ∷ raw (emp 𝓤) ∷ []) ∵ split ! $ drop ! $ fsplit ! $
            rewrite ! 0 (λ (F : Fml). ‵ F) (K.owns z.0.3.0 z.0.4.0) refl $
            box_out E ! from z.0.4.0 (λ b o hv is_at is fits. fjoin ! $ move ! (2 ∷ 3 ∷ []) $ drop ! $ drop ! $
            let Γ : List (Item 𝓤) = ‵ (box_owns (token E.al a) (R E) (block_ptr b o) x) ∷ ‵ ((P E).own_val a (hv ∷ [])) ∷ [] in
            let y = at_boxes E 𝓛 𝓜.mem 𝓡.returns a b o x hv in
            by ! (subst (λ (us : List Val). ent 𝓤 (types.Kit.⋆ 𝓛 Γ) (WpFn 𝓤 H 𝓣.C 𝓣.Λ unboxing (us ++ []) Post)) (sym is) (qed 𝓛 Γ ∵
            enter ! 𝓣.C 𝓣.Λ unboxing (word E hv b o ∷ []) _ $ alloc_all ! (λ l. pass_all ! refl (box_typed E hv b o fits, tt) $
            -- [the value with its block; the allocator; the locals]
            sets ! (of_opd ! (get_in ! (fld ! refl (stop !)) (sub ! 0 refl (whole !)))) refl (tt, tt) $
            sets ! (of_opd ! (get_in ! (fld ! refl (stop !)) (sub ! 1 refl (whole !)))) refl fits $
            first ! $ blocks ! $ sets ! (of_opd ! (get ! refl)) refl (tt, tt) $
            use2 𝓛 (raw (Boxed.pre y)) (boxes_takes E 𝓛 𝓜.mem 𝓡.returns a b o x hv K.lives (⊑_refl [])) $
            calls_at_last ! (framed 𝓤 H 𝓜 𝓣) Boxed met y (and_then ! (get ! refl) (and_then ! (get ! refl) (no_more !))) (λ u.
            use1 𝓛 (later (some (λ (r : D E). given ((r.value ≡ x) × IsBoxed E u) (‵ ((B E).own_val r (u ∷ []))))))
            (boxes_gives E 𝓛 𝓜.mem 𝓡.returns a b o x hv u) $ await ! tt $ pick ! (λ r. learn ! (λ told.
            rewrite ! 0 (λ (F : Fml). ‵ F) (K.boxes r (u ∷ [])) refl $
            lands_last ! refl told.1 $ exec ! 𝓣.C 𝓣.Λ (env unboxing.locals l) (after 3 unboxing.body) (at_ret _ Post) $
            sets ! (of_opd ! (get ! refl)) refl told.1 $ returns ! (look_at ! 0 refl) $ free_all ! refl $
            suffices ! _ (ends_at 𝓛 it kept makes_box z u r (K.last z.0.3.0, tt) (tt, tt)) $ says ! told.0 $
            nothing ! $ nothing ! $ fjoin ! $ join ! $ nothing ! $ join ! $ done !))))))))

        abbrev leaves_end : Clauses 𝓤 (one boxed placed yes)
        leaves_end = under boxed placed yes (λ κs a r. fact 𝓤 (K.there r ≡ Some a.0.value))

        pub leaves : (s : Symbol) (name : Callee) → Closed 𝓤 H 𝓣.C 𝓣.Λ name (leaving s) → Wired 𝓡.env into_raw.code →
            Met 𝓛 𝓜 𝓡 𝓡.env E.row (glue_of s) →
            Meets 𝓛 (one boxed placed yes).signature (𝓣.C name) (closing 𝓛 (one boxed placed yes) leaves_end)
        leaves s name closed parts dropped =
            let it = one boxed placed yes in let kept = stayed boxed placed yes in let glue = glue_of s in
            let Opened = Opens E glue 𝓛 𝓜.mem 𝓡.returns in
            let met = into_raw_met.met 𝓤 𝓛 𝓜 𝓡 parts E.row E.al.row E.laws E.al.laws E.al.g E.al.d E.al.drops glue
            (heap.passed 𝓡.env allocates frees grows shrinks M 𝓤 𝓛 𝓜 𝓡) (no_drop.glues 𝓡.env drops E.al.row E.al.laws M 𝓤 𝓛 𝓜 𝓡) dropped in
            proved_at 𝓛 it kept leaves_end 𝓜 𝓡 (Goes-dropped 𝓛 0 boxed yes (λ κs x w. refl), tt) name (leaving s) closed (λ z _.
            let Post = (walk_of 𝓛 it kept leaves_end).post z in let box : D E = z.0.3.0 in let x = box.value in let a = box.alloc in
            qed 𝓛 ((‵ ftrue ⊛ ‵ (fsep ((Box K.end Heap.the_row ghosts).own_val box z.0.4.0) ftrue)) ∷ raw (emp 𝓤) ∷ []) ∵
            split ! $ drop ! $ fsplit ! $ rewrite ! 0 (λ (F : Fml). ‵ F) (sym (K.boxes box z.0.4.0)) refl $
            box_out E ! box z.0.4.0 (λ b o hv is_at is fits. box_in E ! box b o x is_at refl $ keep ! (0 ∷ []) $
            let w = word E hv b o in let y = at_opens E glue 𝓛 𝓜.mem 𝓡.returns box w in
            let Γ : List (Item 𝓤) = ‵ ((B E).own_val box (w ∷ [])) ∷ [] in
            by ! (subst (λ (us : List Val). ent 𝓤 (types.Kit.⋆ 𝓛 Γ) (WpFn 𝓤 H 𝓣.C 𝓣.Λ (leaving s) (us ++ []) Post)) (sym is) (qed 𝓛 Γ ∵
            enter ! 𝓣.C 𝓣.Λ (leaving s) (w ∷ []) _ $ alloc_all ! (λ l. pass_all ! refl (box_typed E hv b o fits, tt) $
            sets ! (of_opd ! (get ! refl)) refl (box_typed E hv b o fits) $
            use1 𝓛 (raw (Opened.pre y)) (opens_takes E glue 𝓛 𝓜.mem 𝓡.returns box w K.lives (⊑_refl [])) $
            calls_at ! (framed 𝓤 H 𝓜 𝓣) Opened met y (and_then ! (get ! refl) (no_more !)) (λ u.
            use1 𝓛 (later (some (λ (p : Place). given (IsOpened E u p)
            (‵ (box_owns (token E.al a) (R E) (block_ptr p.0 p.1.0) x) ⊛ ‵ (handle E a p.1.1)))))
            (opens_gives E glue 𝓛 𝓜.mem 𝓡.returns box w u) $ await ! tt $ pick ! (λ p. learn ! (λ told. split ! $
            let typed = box_typed E p.1.1 p.0 p.1.0 told.1 in let pair = word E p.1.1 p.0 p.1.0 in
            let there : D E = record { ptr = block_ptr p.0 p.1.0; alloc = a; value = x } in
            -- [what is owned at the block; the allocator; the locals]
            lands_as ! told.0 refl typed $
            sets ! (of_opd ! (get_in ! (fld ! refl (stop !)) (sub ! 0 refl (whole !)))) refl (tt, tt) $
            sets ! (of_opd ! (get_in ! (fld ! refl (stop !)) (sub ! 1 refl (whole !)))) refl told.1 $
            sets ! (of_opd ! (get ! refl)) refl (tt, tt) $
            sets ! (agg ! (and_then ! (get ! refl) (and_then ! (get ! refl) (no_more !)))) refl typed $
            returns ! (look_at ! 0 refl) $ free_all ! refl $
            fsplit ! $ box_in E ! there p.0 p.1.0 x refl refl $ rewrite ! 0 (λ (F : Fml). ‵ F) (K.owns_made there (pair ∷ [])) refl $
            suffices ! _ (ends_at 𝓛 it kept leaves_end z pair (K.made there) (tt, tt) (tt, tt)) $ says ! (K.made_is there) $
            nothing ! $ nothing ! $ fjoin ! $ join ! $ nothing ! $ join ! $ done !))))))))
