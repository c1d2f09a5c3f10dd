-- The kex list with its marker, and how long the payload of a KEXINIT is.
use Rattle.std.proofs.Common.{◌≡◌, ℕ, ◌≤◌, ◌+◌, ◌*◌, Bool, true, false, List, [], ◌∷◌, ◌++◌, length, arith, sym, ap, length-append, lit≤}
use Rattle.std.specs.Prelude.{codes, if◌then◌else◌, Result, Ok, Err, OnOk}
use Rattle.std.specs.List.{join_with_byte}
use Rattle.std.proofs.lemmas.List.{append-nil}
use Rattle.ssh_model.specs.Protocol.Bounds.{longest_payload}
use Rattle.ssh_model.specs.Protocol.Wire.DataTypes.{IsByte, IsNameList, IsUint32, IsWrittenBoolean}
use Rattle.ssh_model.specs.declared.side.Side.{Side}
use Rattle.ssh_model.specs.Protocol.Wire.Message.{IsCookie, IsEnd, IsWrittenPayload, KexInit, Proposal, Then}
use Rattle.ssh_model.specs.Protocol.Sessions.Parties.{Settings, extension_marker_of, first_markers, is_offered, marker_of}
use Rattle.ssh_model.specs.Laws.Reading.{Writes}
use Rattle.ssh_config.specs.Config.{IsList}
use Rattle.ssh_transport_machine.specs.Offers.{offer_with}
use Rattle.ssh_model.specs.Laws.Names.{joined_length}

-- ---- one name more

pub marked : (wanted : Bool) (list new : List (List ℕ)) (name : List ℕ) → wanted ≡ true → new ≡ list ++ name ∷ [] → new ≡ list ++ (if wanted then name ∷ [] else [])
marked true list new name w e = e
marked false list new name w e = absurd cc

pub unmarked : (wanted : Bool) (list : List (List ℕ)) (name : List ℕ) → wanted ≡ false → list ≡ list ++ (if wanted then name ∷ [] else [])
unmarked false list name w = sym (append-nil list)
unmarked true list name w = absurd cc

-- ---- how long the kex list is

one_at_most : (wanted : Bool) (name : List ℕ) → length (if wanted then name ∷ [] else []) ≤ 1
one_at_most true name = lit≤ tt
one_at_most false name = lit≤ tt

markers_few : (s : Settings) (side : Side) → length (first_markers s side) ≤ 2
markers_few s side =
    omega (
      arith,
      length-append (if s.takes_extensions then extension_marker_of side ∷ [] else []) (if is_offered s.strictness then marker_of side ∷ [] else []),
      one_at_most s.takes_extensions (extension_marker_of side),
      one_at_most (is_offered s.strictness) (marker_of side),
    )

list_length : (names : List (List ℕ)) (bytes : List ℕ) → length names ≤ 18 → IsNameList names bytes → length bytes ≤ 1174
list_length names bytes most list =
    let text : length (join_with_byte 44 names) ≤ 65 * length names = joined_length names list.text.all in
    let body : length list.body ≡ length (join_with_byte 44 names) = ap (λ (l : List ℕ). length l) list.text.joined in
    let parts : length bytes ≡ length (list.string.front ++ list.body) = ap (λ (l : List ℕ). length l) list.string.parts in
    omega (arith, list.string.size.count, length-append list.string.front list.body)

-- ---- how long a payload is

abbrev AtMost : ℕ → (List ℕ → Type 0) → Type 0
AtMost n Field = (bytes : List ℕ) → Field bytes → length bytes ≤ n

byte_at_most : (n : ℕ) → AtMost 1 (IsByte n)
byte_at_most n bytes e = let size : length bytes ≡ 1 = ap (λ (l : List ℕ). length l) e in omega arith

cookie_at_most : (cookie : List ℕ) → AtMost 16 (IsCookie cookie)
cookie_at_most cookie bytes c = omega (arith, c.count)

boolean_at_most : (truth : Bool) → AtMost 1 (IsWrittenBoolean truth)
boolean_at_most truth bytes e = let size : length bytes ≡ 1 = ap (λ (l : List ℕ). length l) e in omega arith

number_at_most : (n : ℕ) → AtMost 4 (IsUint32 n)
number_at_most n bytes u = omega (arith, u.count)

end_at_most : AtMost 0 IsEnd
end_at_most bytes e = let size : length bytes ≡ 0 = ap (λ (l : List ℕ). length l) e in omega arith

names_at_most : (names : List (List ℕ)) → length names ≤ 18 → AtMost 1174 (IsNameList names)
names_at_most names most bytes list = list_length names bytes most list

both_at_most : (m n : ℕ) (First Second : List ℕ → Type 0) → AtMost m First → AtMost n Second → AtMost (m + n) (Then First Second)
both_at_most m n First Second f s bytes t =
    let front : length t.front ≤ m = f t.front t.first in
    let back : length t.back ≤ n = s t.back t.second in
    let parts : length bytes ≡ length (t.front ++ t.back) = ap (λ (l : List ℕ). length l) t.parts in
    omega (arith, length-append t.front t.back)

-- ten lists of at most 18 names
record AreFew (p : Proposal) : Type 0 where
  pub kex : length p.kex ≤ 18
  pub host : length p.host ≤ 18
  pub enc_cs : length p.enc_cs ≤ 18
  pub enc_sc : length p.enc_sc ≤ 18
  pub mac_cs : length p.mac_cs ≤ 18
  pub mac_sc : length p.mac_sc ≤ 18
  pub comp_cs : length p.comp_cs ≤ 18
  pub comp_sc : length p.comp_sc ≤ 18
  pub lang_cs : length p.lang_cs ≤ 18
  pub lang_sc : length p.lang_sc ≤ 18

payload_at_most : (p : Proposal) → AreFew p → AtMost 11762 (IsWrittenPayload (KexInit p))
payload_at_most p few =
    both_at_most 1 11761 _ _ (byte_at_most 20)
    (both_at_most 16 11745 _ _ (cookie_at_most p.cookie)
    (both_at_most 1174 10571 _ _ (names_at_most p.kex few.kex)
    (both_at_most 1174 9397 _ _ (names_at_most p.host few.host)
    (both_at_most 1174 8223 _ _ (names_at_most p.enc_cs few.enc_cs)
    (both_at_most 1174 7049 _ _ (names_at_most p.enc_sc few.enc_sc)
    (both_at_most 1174 5875 _ _ (names_at_most p.mac_cs few.mac_cs)
    (both_at_most 1174 4701 _ _ (names_at_most p.mac_sc few.mac_sc)
    (both_at_most 1174 3527 _ _ (names_at_most p.comp_cs few.comp_cs)
    (both_at_most 1174 2353 _ _ (names_at_most p.comp_sc few.comp_sc)
    (both_at_most 1174 1179 _ _ (names_at_most p.lang_cs few.lang_cs)
    (both_at_most 1174 5 _ _ (names_at_most p.lang_sc few.lang_sc)
    (both_at_most 1 4 _ _ (boolean_at_most p.follows)
    (both_at_most 4 0 _ _ (number_at_most 0) end_at_most)))))))))))))

offer_few : (s : Settings) (kex : List (List ℕ)) (cookie : List ℕ) → IsList s.host → IsList s.encryption → IsList s.mac → length kex ≤ 18 → AreFew (offer_with s kex cookie)
offer_few s kex cookie host encryption mac most =
    let hosts : length s.host ≤ 18 = omega (arith, host.most) in
    let encryptions : length s.encryption ≤ 18 = omega (arith, encryption.most) in
    let macs : length s.mac ≤ 18 = omega (arith, mac.most) in
    let one : length (codes "none" ∷ []) ≤ 18 = lit≤ tt in
    let none : 0 ≤ 18 = lit≤ tt in
    record {
      kex = most;
      host = hosts;
      enc_cs = encryptions;
      enc_sc = encryptions;
      mac_cs = macs;
      mac_sc = macs;
      comp_cs = one;
      comp_sc = one;
      lang_cs = none;
      lang_sc = none;
    }

short_offer : (s : Settings) (kex : List (List ℕ)) (cookie old new : List ℕ) → IsList s.host → IsList s.encryption → IsList s.mac → length kex ≤ 18 →
    Writes (IsWrittenPayload (KexInit (offer_with s kex cookie))) old new → length new ≤ length old + longest_payload
short_offer s kex cookie old new host encryption mac most w =
    let size : length w.bytes ≤ 11762 = payload_at_most (offer_with s kex cookie) (offer_few s kex cookie host encryption mac most) w.bytes w.meets in
    let parts : length new ≡ length (old ++ w.bytes) = ap (λ (l : List ℕ). length l) w.parts in
    omega (arith, length-append old w.bytes)

when_ok : {T E P Q : Type 0} (result : Result T E) → (P → Q) → OnOk result P → OnOk result Q
when_ok (Ok value) f h = f h
when_ok (Err error) f h = tt

pub short_put : {T E : Type 0} (result : Result T E) (s : Settings) (kex : List (List ℕ)) (cookie old new : List ℕ) → IsList s.host → IsList s.encryption → IsList s.mac → length kex ≤ 18 →
    OnOk result (Writes (IsWrittenPayload (KexInit (offer_with s kex cookie))) old new) → OnOk result (length new ≤ length old + longest_payload)
short_put result s kex cookie old new host encryption mac most = when_ok result (short_offer s kex cookie old new host encryption mac most)
