-- What C is answered for a login of a client by a key that is not its own, and for the signature that it sets.
--     WritesText              the text to sign is written
--     SetsSignature           a client is given a signature
--     SetsSignatureIn         the same of an end of either role
--     AsksSigned, AsksIn      an ask is done, unless it is a login without a signature
--     WorksSigned, WorksIn    the same of the oldest ask that waits
use Rattle.std.specs.Prelude.{◌≡◌, ◌≤◌, ℕ, ℤ, Bool, cond, drop, false, true, List, None, Option, Some, length, negsuc, pos, take}
use Rattle.ssh_held.specs.Signing.{AddsSignature, fits, is_known_in, is_sized, longest_text, text_in}
use Rattle.divrelca.specs.Parts.AesGcm.{aes_gcm}
use Rattle.divrelca.specs.Supplies.{next_bytes}
use Rattle.divrelca_c.specs.Calls.{AsksNow, Works}
use Rattle.divrelca_c.specs.Codes.{lack_code}
use Rattle.divrelca_c.specs.Embedded.Ends.{Client}
use Rattle.divrelca_c.specs.Embedded.Forms.{form_asks}
use Rattle.divrelca_c.specs.Embedded.Roles.{client_ends, client_exchanges, server_ends, server_exchanges}
use Rattle.divrelca_c.specs.Embedded.Signing.{IsSignedAsk, LacksSignature, OnlySigner, StandsSigning, is_signed_by, is_still_early, oldest_asks}
use Rattle.divrelca_c.specs.declared.embedded.any_end.AnyEnd.{AnyEnd}
use Rattle.divrelca_c.specs.declared.embedded.any_end.AnyEnd.TheVariants as any
use Rattle.divrelca_c.specs.declared.embedded.ask_form.AskForm.{AskForm}
use Rattle.divrelca_c.specs.declared.embedded.signing.SignatureLack.{SignatureLack}

-- The text of a login in a session of this id is in the first bytes, and this is how many they are. The others stay. Where there is no text, or
-- no room for it, nothing is written.
pub record WritesText (session : Option (List ℕ)) (user algorithm key before after : List ℕ) (old count : ℕ) (code : ℤ) : Type 0 where
  pub text : code ≡ pos 0 → text_in session user algorithm key ≡ Some (take count after)
  pub bound : code ≡ pos 0 → count ≤ length after
  pub rest : code ≡ pos 0 → drop count after ≡ drop count before
  pub size : length after ≡ length before
  pub same : (code ≡ pos 0 → ⊥) → after ≡ before
  pub uncounted : (code ≡ pos 0 → ⊥) → count ≡ old
  pub early : session ≡ None → code ≡ pos 1
  pub long : (session ≡ None → ⊥) → fits (length before) user algorithm key ≡ false → code ≡ pos 5
  pub otherwise : (session ≡ None → ⊥) → fits (length before) user algorithm key ≡ true → code ≡ pos 0

-- Where the code is 0, this signature of the text of this login comes after those that the client was given, and none was known. Where it is
-- another one, they do not change. Nothing else of the client ever does. The code is that of the first fault, or -1.
pub record SetsSignature (user algorithm key signature : List ℕ) (code : ℤ) (old new : Client) : Type 0 where
  pub given : code ≡ pos 0 → AddsSignature old.end.machine.kept.session user algorithm key signature old.end.role.own.signer.list.items
      new.end.role.own.signer.list.items
  pub fresh : code ≡ pos 0 →
      is_known_in (is_signed_by old.end.role.own.signer) old.end.machine.kept.session user algorithm key ≡ false
  pub kept : (code ≡ pos 0 → ⊥) → new.end.role.own.signer.list.items ≡ old.end.role.own.signer.list.items
  pub own : new.end.role.own.signer.own ≡ old.end.role.own.signer.own
  pub over : old.end.machine.kept.dead ≡ true → code ≡ negsuc 1
  pub early : old.end.machine.kept.dead ≡ false → old.end.machine.kept.session ≡ None → code ≡ pos 1
  pub long : old.end.machine.kept.dead ≡ false → (old.end.machine.kept.session ≡ None → ⊥) →
      fits longest_text user algorithm key ≡ false → code ≡ pos 5
  pub size : old.end.machine.kept.dead ≡ false → (old.end.machine.kept.session ≡ None → ⊥) →
      fits longest_text user algorithm key ≡ true → is_sized signature ≡ false → code ≡ pos 314
  pub known : old.end.machine.kept.dead ≡ false → (old.end.machine.kept.session ≡ None → ⊥) →
      fits longest_text user algorithm key ≡ true → is_sized signature ≡ true →
      is_known_in (is_signed_by old.end.role.own.signer) old.end.machine.kept.session user algorithm key ≡ true → code ≡ pos 315
  pub otherwise : old.end.machine.kept.dead ≡ false → (old.end.machine.kept.session ≡ None → ⊥) →
      fits longest_text user algorithm key ≡ true → is_sized signature ≡ true →
      is_known_in (is_signed_by old.end.role.own.signer) old.end.machine.kept.session user algorithm key ≡ false →
      (code ≡ negsuc 0 → ⊥) → code ≡ pos 0
  pub stands : StandsSigning old new
  pub rest : OnlySigner old new
  pub same : new ≡ record old { end = new.end }

-- A server signs no logins: it stays as it is, and 11 is answered.
abbrev pub SetsSignatureIn : (user algorithm key signature : List ℕ) → (code : ℤ) → (old new : AnyEnd) → Type 0
SetsSignatureIn user algorithm key signature code (any.Client old) (any.Client new) =
    SetsSignature user algorithm key signature code old new
SetsSignatureIn user algorithm key signature code (any.Server old) new = (code ≡ pos 11) × (new ≡ any.Server old)
SetsSignatureIn user algorithm key signature code (any.Client old) (any.Server new) = ⊥

-- What the form asks for is done, for which a client has a signature if it is a login by a key. Or it has none, nothing changes, and the code
-- says why.
pub data AsksSigned (old : Client) (form : AskForm) (code : ℤ) (before after : ℕ) (new : Client) : Type 0 where
  asks : IsSignedAsk old (form_asks form old.key) →
      AsksNow client_ends client_exchanges aes_gcm next_bytes old form code before after new → AsksSigned old form code before after new
  lacks : (why : SignatureLack) → LacksSignature old (form_asks form old.key) why → code ≡ lack_code why → new ≡ old → after ≡ before →
      AsksSigned old form code before after new

abbrev pub AsksIn : AskForm → (code : ℤ) → (before after : ℕ) → (old new : AnyEnd) → Type 0
AsksIn form code before after (any.Server old) (any.Server new) =
    AsksNow server_ends server_exchanges aes_gcm next_bytes old form code before after new
AsksIn form code before after (any.Client old) (any.Client new) = AsksSigned old form code before after new
AsksIn form code before after _ _ = ⊥

-- The oldest of the asks that wait is done, for which a client has a signature if it is a login by a key. Or it has none, and the code says why:
-- then the ask waits no longer, unless the text of the login may still come.
pub data WorksSigned (old : Client) (code : ℤ) (before after : ℕ) (new : Client) : Type 0 where
  works : IsSignedAsk old (oldest_asks old.waiting.items old.key) →
      Works client_ends client_exchanges aes_gcm next_bytes old code before after new → WorksSigned old code before after new
  lacks : (why : SignatureLack) → LacksSignature old (oldest_asks old.waiting.items old.key) why → code ≡ lack_code why →
      new.waiting.items ≡ cond (is_still_early why) old.waiting.items (drop 1 old.waiting.items) →
      new ≡ record old { waiting = new.waiting } → after ≡ before → WorksSigned old code before after new

abbrev pub WorksIn : (code : ℤ) → (before after : ℕ) → (old new : AnyEnd) → Type 0
WorksIn code before after (any.Server old) (any.Server new) =
    Works server_ends server_exchanges aes_gcm next_bytes old code before after new
WorksIn code before after (any.Client old) (any.Client new) = WorksSigned old code before after new
WorksIn code before after _ _ = ⊥
