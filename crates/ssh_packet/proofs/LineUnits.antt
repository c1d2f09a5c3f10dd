-- One byte more of a line.
use Rattle.std.proofs.Common.{◌≡◌, ℕ, ◌+◌, ◌<◌, ◌⊎◌, inl, inr, Bool, true, false, List, [], ◌∷◌, ◌++◌, length, take, drop, Option, Some, None, is_some, IfSome, refl, ap, sym, subst, ◌∙◌, arith, append_assoc, append-nil, get_or, length-append}
use Rattle.std.proofs.lemmas.List.{take_more}
use Rattle.ssh_model.specs.declared.refusal.Refusal.TheVariants as refusals
use Rattle.ssh_model.specs.Protocol.Wire.Outcome.{Outcome, Outcome.RefusedLine}
use Rattle.ssh_model.specs.Protocol.Wire.Line.{IsText, LineIs, LineUnit, LineUnit.line, LineUnit.zero_byte, LineUnit.lf_without_cr, LineUnit.too_long, line_end}
use Rattle.ssh_model.specs.Laws.Units.{IsPartialLine, IsPartialLine.in_text, IsPartialLine.at_line_end}
use Rattle.ssh_packet.specs.Lines.{Ended, Ended.WithVersion, Ended.WithRefusal, LineReading, cleared, with_cr, buffered_by, ended_by, IsKept}
use Rattle.ssh_packet.specs.LineKinds.{IsKind}
use Rattle.ssh_packet.specs.LineSteps.{EndsSo, Finds, GoesOn, EndsWith, LineFinds, Shows, Takes}
use Rattle.ssh_packet.specs.declared.refusal.LineRefusal.{LineRefusal}
use Rattle.ssh_packet.specs.declared.line_reader.Found.{Found}
use Rattle.ssh_packet.specs.declared.line_reader.LineStep.{LineStep}
use Rattle.ssh_packet.specs.declared.line_reader.Found.TheVariants as found
use Rattle.ssh_packet.specs.declared.line_reader.Verdict.{Verdict}
use Rattle.ssh_packet.specs.declared.line_reader.Verdict.TheVariants as verdict
use Rattle.ssh_packet.specs.declared.version.LineKind.{LineKind}
use Rattle.ssh_packet.specs.declared.version.LineKind.TheVariants.{Other, Version, Refused}

-- ---- complete lines

complete : (s : Bool) (n : ℕ) (text : List ℕ) (o : Outcome) → IsText text → length text < 254 → LineIs s n text o → LineUnit s n (text ++ 13 ∷ 10 ∷ []) o
complete s n text o t room is = line text (record { is_text = t; parts = refl; size = omega (arith, length-append text line_end, room) }) is

pub complete_kind : (s : Bool) (n : ℕ) (text : List ℕ) (kind : LineKind) → IsText text → length text < 254 → IsKind s n text kind → EndsSo s n text (text ++ 13 ∷ 10 ∷ []) kind
complete_kind s n text Other t room k = (complete s n text _ t room k.0, k.1)
complete_kind s n text (Version minus) t room k = (complete s n text _ t room k.0, k.1, omega (arith, room))
complete_kind s n text (Refused refusal) t room k = complete s n text _ t room k

-- ---- bytes in the text of a line

-- a byte after a text with which no line goes on
pub bad_byte : (s : Bool) (n : ℕ) (text : List ℕ) (cr : Bool) (byte : ℕ) → cr ≡ false → IsText text → length (with_cr cr text) < 255 → (byte ≡ 0) ⊎ ((byte ≡ 10) ⊎ (length text ≡ 254)) → LineUnit s n (with_cr cr text ++ byte ∷ []) (RefusedLine refusals.BadLine)
bad_byte s n text true byte e t room bad = let f : true ≡ false = e in cc f
bad_byte s n text false byte e t room (inl zero) = zero_byte text t room (ap (λ (b : ℕ). text ++ b ∷ []) zero)
bad_byte s n text false byte e t room (inr (inl lf)) = lf_without_cr text t room (ap (λ (b : ℕ). text ++ b ∷ []) lf)
bad_byte s n text false byte e t room (inr (inr full)) = too_long text byte t full refl

-- ---- the value of a reader by its fields

abbrev pub viewed : Bool → ℕ → List ℕ → ℕ → ℕ → Bool → Option Verdict → LineReading
viewed s n buffer filled shown cr e = record { from_server = s; others = n; text = take shown buffer; buffered = buffered_by e cr (take filled buffer); ended = ended_by e (take filled buffer) }

-- a reader that has not ended holds the beginning of a line
kept_begun : (text : List ℕ) (cr : Bool) → IsText text → length (with_cr cr text) < 255 → IsPartialLine (with_cr cr text)
kept_begun text false t room = in_text t room
kept_begun text true t room = at_line_end text t refl room

going_begun : (s : Bool) (n : ℕ) (buffer : List ℕ) (filled shown : ℕ) (cr : Bool) (e : Option Verdict) → is_some e ≡ false → IsKept e cr filled buffer → IsPartialLine (viewed s n buffer filled shown cr e).buffered
going_begun s n buffer filled shown cr None going kept = kept_begun (take filled buffer) cr kept.0 kept.1
going_begun s n buffer filled shown cr (Some end) going kept = let f : true ≡ false = going in cc f

pub is_begun : (s : Bool) (n : ℕ) (buffer : List ℕ) (filled shown : ℕ) (cr : Bool) (e : Option Verdict) (value : LineReading) → viewed s n buffer filled shown cr e ≡ value → is_some e ≡ false → IsKept e cr filled buffer → IsPartialLine value.buffered
is_begun s n buffer filled shown cr e value v going kept = subst (λ (r : LineReading). IsPartialLine r.buffered) v (going_begun s n buffer filled shown cr e going kept)

-- ---- CR

abbrev AddsTo : LineReading → ℕ → LineReading → Type 0
AddsTo old byte new = IsPartialLine (old.buffered ++ byte ∷ []) × (new ≡ record old { buffered = old.buffered ++ byte ∷ [] })

cr_added : (s : Bool) (n : ℕ) (buffer : List ℕ) (filled shown : ℕ) (cr : Bool) (e : Option Verdict) (byte : ℕ) → (viewed s n buffer filled shown cr e).ended ≡ None → IsKept e cr filled buffer → (cr ≡ false) × (byte ≡ 13) × (length (take filled buffer) < 254) → AddsTo (viewed s n buffer filled shown cr e) byte (viewed s n buffer filled shown true e)
cr_added s n buffer filled shown true None byte going kept k = let f : true ≡ false = k.0 in cc f
cr_added s n buffer filled shown false None byte going kept k =
    let text : List ℕ = take filled buffer in
    let same : text ++ byte ∷ [] ≡ text ++ 13 ∷ [] = ap (λ (b : ℕ). text ++ b ∷ []) (k.1) in
    let room : length text < 254 = k.2 in (
      at_line_end text kept.0 same (omega (arith, length-append text (byte ∷ []), room)),
      ap (λ (l : List ℕ). record { from_server = s; others = n; text = take shown buffer; buffered = l; ended = None }) (sym same),
    )
cr_added s n buffer filled shown cr (Some (verdict.Version minus)) byte going kept k = cc going
cr_added s n buffer filled shown cr (Some (verdict.Refused refusal)) byte going kept k = cc going

pub step_return : (s : Bool) (n : ℕ) (buffer : List ℕ) (filled shown : ℕ) (cr : Bool) (e : Option Verdict) (value : LineReading) (byte : ℕ) → viewed s n buffer filled shown cr e ≡ value → value.ended ≡ None → IsKept e cr filled buffer →
    (cr ≡ false) × (byte ≡ 13) × (length (take filled buffer) < 254) → AddsTo value byte (viewed s n buffer filled shown true e)
step_return s n buffer filled shown cr e value byte v going kept k =
    subst (λ (r : LineReading). AddsTo r byte (viewed s n buffer filled shown true e)) v (cr_added s n buffer filled shown cr e byte (ap (λ (r : LineReading). r.ended) v ∙ going) kept k)

-- ---- the end of a line

counted : (s : Bool) (n : ℕ) (buffer : List ℕ) (filled shown : ℕ) (cr : Bool) (e : Option Verdict) (byte : ℕ) → (viewed s n buffer filled shown cr e).ended ≡ None → EndsSo s n (take filled buffer) (with_cr cr (take filled buffer) ++ byte ∷ []) Other →
    GoesOn (viewed s n buffer filled shown cr e) ((viewed s n buffer filled shown cr e).buffered ++ byte ∷ []) (viewed s (n + 1) buffer 0 filled false e)
counted s n buffer filled shown cr None byte going k = (k.0, refl)
counted s n buffer filled shown cr (Some (verdict.Version minus)) byte going k = cc going
counted s n buffer filled shown cr (Some (verdict.Refused refusal)) byte going k = cc going

pub step_other : (s : Bool) (n : ℕ) (buffer : List ℕ) (filled shown : ℕ) (cr : Bool) (e : Option Verdict) (value : LineReading) (byte : ℕ) → viewed s n buffer filled shown cr e ≡ value → value.ended ≡ None →
    EndsSo s n (take filled buffer) (with_cr cr (take filled buffer) ++ byte ∷ []) Other → GoesOn value (value.buffered ++ byte ∷ []) (viewed s (n + 1) buffer 0 filled false e)
step_other s n buffer filled shown cr e value byte v going k =
    subst (λ (r : LineReading). GoesOn r (r.buffered ++ byte ∷ []) (viewed s (n + 1) buffer 0 filled false e)) v (counted s n buffer filled shown cr e byte (ap (λ (r : LineReading). r.ended) v ∙ going) k)

ended_so : (s : Bool) (n : ℕ) (buffer : List ℕ) (filled shown : ℕ) (cr : Bool) (e : Option Verdict) (byte minus : ℕ) → (viewed s n buffer filled shown cr e).ended ≡ None → EndsSo s n (take filled buffer) (with_cr cr (take filled buffer) ++ byte ∷ []) (Version minus) →
    (ended : Ended) × EndsWith (viewed s n buffer filled shown cr e) ((viewed s n buffer filled shown cr e).buffered ++ byte ∷ []) (viewed s n buffer filled shown cr (Some (verdict.Version minus))) ended
ended_so s n buffer filled shown cr None byte minus going k =
    let text : List ℕ = take filled buffer in
    let place = k.1 in
    (WithVersion text (drop 4 (take minus text)) (drop (minus + 1) text), ((k.0, place.has), refl))
ended_so s n buffer filled shown cr (Some (verdict.Version other)) byte minus going k = cc going
ended_so s n buffer filled shown cr (Some (verdict.Refused refusal)) byte minus going k = cc going

pub step_version : (s : Bool) (n : ℕ) (buffer : List ℕ) (filled shown : ℕ) (cr : Bool) (e : Option Verdict) (value : LineReading) (byte minus : ℕ) → viewed s n buffer filled shown cr e ≡ value → value.ended ≡ None →
    EndsSo s n (take filled buffer) (with_cr cr (take filled buffer) ++ byte ∷ []) (Version minus) → (ended : Ended) × EndsWith value (value.buffered ++ byte ∷ []) (viewed s n buffer filled shown cr (Some (verdict.Version minus))) ended
step_version s n buffer filled shown cr e value byte minus v going k =
    subst (λ (r : LineReading). (ended : Ended) × EndsWith r (r.buffered ++ byte ∷ []) (viewed s n buffer filled shown cr (Some (verdict.Version minus))) ended) v (ended_so s n buffer filled shown cr e byte minus (ap (λ (r : LineReading). r.ended) v ∙ going) k)

refused_so : (s : Bool) (n : ℕ) (buffer : List ℕ) (filled shown : ℕ) (cr : Bool) (e : Option Verdict) (byte : ℕ) (refusal : LineRefusal) → (viewed s n buffer filled shown cr e).ended ≡ None → EndsSo s n (take filled buffer) (with_cr cr (take filled buffer) ++ byte ∷ []) (Refused refusal) →
    (ended : Ended) × EndsWith (viewed s n buffer filled shown cr e) ((viewed s n buffer filled shown cr e).buffered ++ byte ∷ []) (viewed s n buffer filled shown cr (Some (verdict.Refused refusal))) ended
refused_so s n buffer filled shown cr None byte refusal going k = (WithRefusal refusal, (k, refl))
refused_so s n buffer filled shown cr (Some (verdict.Version minus)) byte refusal going k = cc going
refused_so s n buffer filled shown cr (Some (verdict.Refused other)) byte refusal going k = cc going

pub step_refused : (s : Bool) (n : ℕ) (buffer : List ℕ) (filled shown : ℕ) (cr : Bool) (e : Option Verdict) (value : LineReading) (byte : ℕ) (refusal : LineRefusal) → viewed s n buffer filled shown cr e ≡ value → value.ended ≡ None →
    EndsSo s n (take filled buffer) (with_cr cr (take filled buffer) ++ byte ∷ []) (Refused refusal) → (ended : Ended) × EndsWith value (value.buffered ++ byte ∷ []) (viewed s n buffer filled shown cr (Some (verdict.Refused refusal))) ended
step_refused s n buffer filled shown cr e value byte refusal v going k =
    subst (λ (r : LineReading). (ended : Ended) × EndsWith r (r.buffered ++ byte ∷ []) (viewed s n buffer filled shown cr (Some (verdict.Refused refusal))) ended) v (refused_so s n buffer filled shown cr e byte refusal (ap (λ (r : LineReading). r.ended) v ∙ going) k)

-- ---- many bytes

-- bytes were added to the partial line
abbrev pub added : LineReading → List ℕ → LineReading
added old bytes = record old { buffered = old.buffered ++ bytes }

-- what was found after some bytes were added was found from the first of them on
restart : (old new : LineReading) (buffered bytes : List ℕ) (f : Found) → Finds (record old { buffered = buffered }) bytes f new → Finds old bytes f new
restart old new buffered bytes found.More h = h
restart old new buffered bytes found.Other h = h
restart old new buffered bytes found.Ended h = h

one_more : (old : List ℕ) (bytes : List ℕ) (i byte : ℕ) → i < length bytes → byte ≡ get_or bytes i 0 → (old ++ take i bytes) ++ byte ∷ [] ≡ old ++ take (i + 1) bytes
one_more old bytes i byte h e = append_assoc old (take i bytes) (byte ∷ []) ∙ ap (λ (l : List ℕ). old ++ l) (ap (λ (b : ℕ). take i bytes ++ b ∷ []) e ∙ sym (take_more bytes i 0 h))

pub found_later : (old now new : LineReading) (bytes : List ℕ) (i byte : ℕ) (step : Found) → now ≡ added old (take i bytes) → i < length bytes → byte ≡ get_or bytes i 0 → Finds now (now.buffered ++ byte ∷ []) step new → Finds old (old.buffered ++ take (i + 1) bytes) step new
found_later old now new bytes i byte step e h b f =
    let moved : Finds (added old (take i bytes)) ((old.buffered ++ take i bytes) ++ byte ∷ []) step new = subst (λ (r : LineReading). Finds r (r.buffered ++ byte ∷ []) step new) e f in
    let there = restart old new (old.buffered ++ take i bytes) ((old.buffered ++ take i bytes) ++ byte ∷ []) step moved in
    subst (λ (l : List ℕ). Finds old l step new) (one_more old.buffered bytes i byte h b) there

-- a reader that had not ended took so many bytes
pub goes_on : (old new : LineReading) (bytes : List ℕ) (used : ℕ) (step : LineStep) → old.ended ≡ None → LineFinds (cleared old) (old.buffered ++ take used bytes) step new → Takes old bytes used step new
goes_on old new bytes used step going f = record { going = λ _. f; again = subst (λ (o : Option Ended). IfSome o (λ ended. (used ≡ 0) × Shows ended step × (new ≡ old))) (sym going) tt }

pub not_ended : (s : Bool) (n : ℕ) (buffer : List ℕ) (filled shown : ℕ) (cr : Bool) (e : Option Verdict) (value : LineReading) → viewed s n buffer filled shown cr e ≡ value → is_some e ≡ false → value.ended ≡ None
not_ended s n buffer filled shown cr None value v going = sym (ap (λ (r : LineReading). r.ended) v)
not_ended s n buffer filled shown cr (Some end) value v going = let f : true ≡ false = going in cc f
