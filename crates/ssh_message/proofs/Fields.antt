-- Fields that follow one another, read from left to right.
use Rattle.std.proofs.Common.{◌≡◌, ℕ, Bool, ◌<◌, ◌+◌, ◌≢◌, List, [], ◌∷◌, ◌++◌, length, take, drop, refl, sym, ap, subst, ◌∙◌, arith}
use Rattle.std.proofs.lemmas.List.{take-append-drop, length-append, length-take}
use Rattle.ssh_model.specs.Protocol.Wire.DataTypes.{IsByte, IsBoolean, IsUint32, IsNameList}
use Rattle.ssh_model.specs.Laws.Reading.{Reads, NoFront, OneForm}
use Rattle.ssh_model.specs.Protocol.Wire.Message.{Then, IsCookie, Proposal, Msg, IsRow, IsPayload, FitsContext}
use Rattle.ssh_types.specs.Values.{ReadsOther}
use Rattle.ssh_message.specs.Meaning.{IsZero}
use Rattle.ssh_message.specs.Parts.{Both, IsNothing, NoWhole}
use Rattle.ssh_model.specs.Laws.Encodings.{one_uint32}

-- ---- what was read, and what follows

pub then_reads : (P Q : List ℕ → Type 0) (before after : List ℕ) → Reads P before after → Q after → Then P Q before
then_reads P Q before after r q = record { front = r.bytes; back = after; first = r.meets; second = q; parts = r.parts }

pub then_byte : (n : ℕ) (Q : List ℕ → Type 0) (after : List ℕ) → Q after → Then (IsByte n) Q (n ∷ after)
then_byte n Q after q = record { front = n ∷ []; back = after; first = refl; second = q; parts = refl }

pub is_payload : (probing : Bool) (m : Msg) (payload : List ℕ) → FitsContext probing m → IsRow IsBoolean m payload → IsPayload probing m payload
is_payload probing m payload suits row = record { context = suits; row = row }

-- ---- where a field isn't there, nothing is read

pub none_front : {V W : Type 0} {A : V → List ℕ → Type 0} (B : W → List ℕ → Type 0) {bytes : List ℕ} → NoFront A bytes → NoWhole (Both A B) bytes
none_front B h = record { none = λ v t. h.none v.0 t.front t.back t.first t.parts }

pub none_after : {V W : Type 0} {A : V → List ℕ → Type 0} {B : W → List ℕ → Type 0} (one : OneForm A) (v : V) {bytes after : List ℕ} → Reads (A v) bytes after → NoWhole B after → NoWhole (Both A B) bytes
none_after {A = A} {B = B} one v {bytes = bytes} {after = after} r h =
    record {
      none = λ w t.
          let same = one v w.0 r.bytes t.front after t.back r.meets t.first (sym r.parts ∙ t.parts) in
          h.none w.1 (subst (B w.1) (sym same.2) t.second);
    }

pub none_end : {bytes : List ℕ} → 0 < length bytes → NoWhole IsNothing bytes
none_end h = record { none = λ v e. omega (arith, ap length e, h) }

-- for a value and then what follows, and for a message from its values
pub ruleset pairs = (then_reads, none_front, none_after)

pub ruleset fields = (then_byte, is_payload)

-- ---- an offer

pub reads_cookie : (bytes cookie rest : List ℕ) → cookie ≡ take 16 bytes → rest ≡ drop 16 bytes → length rest + 16 ≡ length bytes → Reads (IsCookie cookie) bytes rest
reads_cookie bytes cookie rest c r e =
    let count : length cookie ≡ 16 = ap length c ∙ omega (arith, length-take 16 bytes) in
    record { bytes = cookie; meets = record { same = refl; count = count }; parts = sym (take-append-drop 16 bytes) ∙ (ap (λ (t : List ℕ). t ++ drop 16 bytes) (sym c) ∙ ap (λ (t : List ℕ). cookie ++ t) (sym r)) }

pub no_cookie : (bytes : List ℕ) → length bytes < 16 → NoFront IsCookie bytes
no_cookie bytes short = record { none = λ cookie front after p parts. omega (arith, p.count, ap length parts, length-append front after) }

pub no_zero : {bytes : List ℕ} → NoFront IsUint32 bytes → NoFront IsZero bytes
no_zero h = record { none = λ v front after p parts. h.none 0 front after p parts }

pub other_zero : {bytes after : List ℕ} → ReadsOther bytes after → NoFront IsZero bytes
other_zero {after = after} r =
    record { none = λ v front rest p parts. r.other (one_uint32 r.number 0 r.read.bytes front after rest r.read.meets p (sym r.read.parts ∙ parts)).0 }

abbrev pub Lists : Type 0
Lists = List (List ℕ)

abbrev pub ProposalFields : List ℕ × (Lists × (Lists × (Lists × (Lists × (Lists × (Lists × (Lists × (Lists × (Lists × (Lists × (Bool × (Unit {0} × Unit {0})))))))))))) → List ℕ → Type 0
ProposalFields =
    Both IsCookie (Both IsNameList (Both IsNameList (Both IsNameList (Both IsNameList (Both IsNameList (Both IsNameList
    (Both IsNameList (Both IsNameList (Both IsNameList (Both IsNameList (Both IsBoolean (Both IsZero IsNothing))))))))))))

abbrev pub proposal_of : List ℕ × (Lists × (Lists × (Lists × (Lists × (Lists × (Lists × (Lists × (Lists × (Lists × (Lists × (Bool × (Unit {0} × Unit {0})))))))))))) → Proposal
proposal_of v = record {
  cookie = v.0;
  kex = v.1.0;
  host = v.1.1.0;
  enc_cs = v.1.1.1.0;
  enc_sc = v.1.1.1.1.0;
  mac_cs = v.1.1.1.1.1.0;
  mac_sc = v.1.1.1.1.1.1.0;
  comp_cs = v.1.1.1.1.1.1.1.0;
  comp_sc = v.1.1.1.1.1.1.1.1.0;
  lang_cs = v.1.1.1.1.1.1.1.1.1.0;
  lang_sc = v.1.1.1.1.1.1.1.1.1.1.0;
  follows = v.1.1.1.1.1.1.1.1.1.1.1.0;
}

abbrev pub values_of : Proposal → List ℕ × (Lists × (Lists × (Lists × (Lists × (Lists × (Lists × (Lists × (Lists × (Lists × (Lists × (Bool × (Unit {0} × Unit {0}))))))))))))
values_of p = (p.cookie, (p.kex, (p.host, (p.enc_cs, (p.enc_sc, (p.mac_cs, (p.mac_sc, (p.comp_cs, (p.comp_sc, (p.lang_cs, (p.lang_sc, (p.follows, (tt, tt)))))))))))))
