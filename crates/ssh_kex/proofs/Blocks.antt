-- A key is filled block by block.
use Rattle.std.proofs.Common.{◌≡◌, ℕ, zero, suc, ◌+◌, ◌-◌, ◌*◌, ◌≤◌, List, [], ◌++◌, length, take, drop, refl, sym, ap, subst, ◌∙◌, arith, length-append, append_assoc, inl, inr}
use Rattle.std.proofs.Math.Seq.{take-append-add, take-append_seam}
use Rattle.std.proofs.lemmas.List.{append-nil, drop_all, take-append-le, length-take-le}
use Rattle.std.proofs.lemmas.Bool.{cases_lt}
use Rattle.sha2.specs.declared.Sha256.{Sha256}
use Rattle.sha2.specs.Hashers.{Holds256}
use Rattle.sha2.specs.Sha256.{sha256}
use Rattle.sha2.proofs.Facts256.{length-sha256}
use Rattle.ssh_model.specs.Protocol.KeyExchange.Exchange.{blocks}

-- So many bytes of out are filled, all of them whole blocks; the chain holds the front and these, and block is next.
pub record Filled (front begin out block : List ℕ) (chain : Sha256) (filled : ℕ) : Type 0 where
  pub count : ℕ
  pub place : filled ≡ 32 * count
  pub done : take filled out ≡ blocks front begin count
  pub held : Holds256 chain (front ++ blocks front begin count)
  pub next : blocks front begin (suc count) ≡ blocks front begin count ++ block

no_blocks : (front begin : List ℕ) → blocks front begin 0 ≡ []
unfolding blocks
no_blocks front begin = refl

one_block : (front begin : List ℕ) → blocks front begin 1 ≡ sha256 (front ++ begin)
unfolding blocks
one_block front begin = refl

more_blocks : (front begin : List ℕ) (n : ℕ) → blocks front begin (suc (suc n)) ≡ blocks front begin (suc n) ++ sha256 (front ++ blocks front begin (suc n))
unfolding blocks
more_blocks front begin n = refl

length_blocks : (front begin : List ℕ) (n : ℕ) → length (blocks front begin n) ≡ 32 * n
length_blocks front begin zero = ap length (no_blocks front begin) ∙ omega arith
length_blocks front begin (suc zero) = ap length (one_block front begin) ∙ length-sha256 _
length_blocks front begin (suc (suc n)) =
    let rest = length_blocks front begin (suc n) in
    let one = length-sha256 (front ++ blocks front begin (suc n)) in
    let both = length-append (blocks front begin (suc n)) (sha256 (front ++ blocks front begin (suc n))) in
    ap length (more_blocks front begin n) ∙ omega (arith, rest, one, both)

pub begun : (front begin out block : List ℕ) (chain : Sha256) → Holds256 chain front → block ≡ sha256 (front ++ begin) → Filled front begin out block chain 0
begun front begin out block chain held next = record {
  count = 0;
  place = omega arith;
  done = sym (no_blocks front begin);
  held = subst (λ (l : List ℕ). Holds256 chain l) (sym (ap (λ (l : List ℕ). front ++ l) (no_blocks front begin) ∙ append-nil front)) held;
  next = one_block front begin ∙ sym next ∙ ap (λ (l : List ℕ). l ++ block) (sym (no_blocks front begin));
}

-- bytes put in the place of others are the last of those up to their end
up_to_end : (out block : List ℕ) (filled : ℕ) → filled ≤ length out → length block ≡ 32 → (after : List ℕ) → take (filled + 32) (take filled out ++ block ++ after) ≡ take filled out ++ block
up_to_end out block filled room len after =
    let front : length (take filled out) ≡ filled = length-take-le filled out room in
    let whole : length (take filled out ++ block) ≡ filled + 32 = omega (arith, length-append (take filled out) block, front) in
    ap (λ (n : ℕ). take n (take filled out ++ block ++ after)) (sym whole) ∙ take-append_seam (take filled out ++ block) after

pub goes_on : (front begin out block new_out new_block : List ℕ) (chain new_chain : Sha256) (filled : ℕ) → Filled front begin out block chain filled → filled ≤ length out → length block ≡ 32 → new_out ≡ take filled out ++ block ++ drop (filled + length block) out → ((m : List ℕ) → Holds256 chain m → Holds256 new_chain (m ++ block)) → ((m : List ℕ) → Holds256 new_chain m → new_block ≡ sha256 m) → Filled front begin new_out new_block new_chain (filled + 32)
goes_on front begin out block new_out new_block chain new_chain filled f room len put updated digest =
    let whole = ap (λ (l : List ℕ). l ++ block) f.done ∙ sym f.next in
    let again : front ++ blocks front begin f.count ++ block ≡ front ++ blocks front begin (suc f.count) = append_assoc front (blocks front begin f.count) block ∙ ap (λ (l : List ℕ). front ++ l) (sym f.next) in
    let held = subst (λ (l : List ℕ). Holds256 new_chain l) again (updated _ f.held) in
    record {
      count = suc f.count;
      place = omega (arith, f.place);
      done = ap (λ (l : List ℕ). take (filled + 32) l) put ∙ up_to_end out block filled room len (drop (filled + length block) out) ∙ whole;
      held = held;
      next = more_blocks front begin f.count ∙ ap (λ (l : List ℕ). blocks front begin (suc f.count) ++ l) (sym (digest _ held));
    }

-- what the next block puts after
next_block : (front begin : List ℕ) (n : ℕ) → (block : List ℕ) × (blocks front begin (suc n) ≡ blocks front begin n ++ block)
next_block front begin zero = (sha256 (front ++ begin), one_block front begin ∙ ap (λ (l : List ℕ). l ++ sha256 (front ++ begin)) (sym (no_blocks front begin)))
next_block front begin (suc n) = (sha256 (front ++ blocks front begin (suc n)), more_blocks front begin n)

-- fewer blocks are the beginning of more
begins : (front begin : List ℕ) (n more size : ℕ) → size ≤ 32 * n → n ≤ more → take size (blocks front begin more) ≡ take size (blocks front begin n)
begins front begin n zero size room le = let e : 0 ≡ n = omega arith in ap (λ (k : ℕ). take size (blocks front begin k)) e
begins front begin n (suc more) size room le =
    elim (cases_lt more n) [
      | inl lt ↦ let e : suc more ≡ n = omega arith in ap (λ (k : ℕ). take size (blocks front begin k)) e
      | inr kept ↦
          let next = next_block front begin more in
          let len = length_blocks front begin more in
          ap (λ (l : List ℕ). take size l) next.1 ∙ take-append-le size (blocks front begin more) next.0 (omega (arith, len)) ∙ begins front begin n more size room kept
    ]

pub filled_up : (front begin out block new_out : List ℕ) (chain : Sha256) (filled size : ℕ) → Filled front begin out block chain filled → filled ≤ size → size ≤ filled + 32 → size ≡ length out → length block ≡ 32 → new_out ≡ take filled out ++ take (size - filled) block ++ drop (filled + length (take (size - filled) block)) out → new_out ≡ take size (blocks front begin size)
filled_up front begin out block new_out chain filled size f low high all long put =
    let part : length (take (size - filled) block) ≡ size - filled = length-take-le (size - filled) block (omega (arith, long)) in
    let end : drop (filled + length (take (size - filled) block)) out ≡ [] = drop_all (filled + length (take (size - filled) block)) out (omega (arith, part)) in
    let ends : new_out ≡ take filled out ++ take (size - filled) block = put ∙ ap (λ (l : List ℕ). take filled out ++ take (size - filled) block ++ l) end ∙ append-nil (take filled out ++ take (size - filled) block) in
    let len = length_blocks front begin f.count in
    let count : size ≡ length (blocks front begin f.count) + (size - filled) = omega (arith, len, f.place) in
    let whole = ap (λ (l : List ℕ). l ++ take (size - filled) block) f.done ∙ sym (take-append-add (blocks front begin f.count) block (size - filled)) in
    let now : new_out ≡ take size (blocks front begin (suc f.count)) =
    ends ∙ whole ∙ ap (λ (n : ℕ). take n (blocks front begin f.count ++ block)) (sym count) ∙ ap (λ (l : List ℕ). take size l) (sym f.next) in
    elim (cases_lt 0 size) [
      | inl some ↦ now ∙ sym (begins front begin (suc f.count) size size (omega (arith, f.place)) (omega (arith, f.place)))
      | inr none ↦
          let e : size ≡ 0 = omega arith in
          now ∙ ap (λ (n : ℕ). take n (blocks front begin (suc f.count))) e ∙ ap (λ (n : ℕ). take n (blocks front begin size)) (sym e)
    ]
