-- Two kinds of DISCONNECT have payloads that encode them: those that say why an end refuses its peer, and those that its user
-- asks for.
use Rattle.std.proofs.Common.{◌≡◌, ℕ, ◌≤◌, length, List, [], Option, Some, None, refl, arith}
use Rattle.std.proofs.lemmas.Bool.{false≢true, ltb-false}
use Rattle.std.specs.Prelude.{IsSome}
use Rattle.ssh_model.specs.Protocol.Bounds.{longest_description}
use Rattle.ssh_model.specs.Protocol.Wire.Message.{Msg.Disconnect}
use Rattle.ssh_model.specs.Protocol.Sessions.Items.{Ask.AskDisconnect}
use Rattle.ssh_model.specs.declared.refusal.Refusal.{Refusal}
use Rattle.ssh_model.specs.declared.refusal.Refusal.TheVariants.{BadLine, BadVersion, BadLength}
use Rattle.ssh_model.specs.declared.refusal.Refusal.TheVariants.{BadPadding, BadTag, BadMessage, Unexpected}
use Rattle.ssh_model.specs.declared.refusal.Refusal.TheVariants.{NoCommon, NotStrict, BadPoint, BadHost}
use Rattle.ssh_model.specs.declared.refusal.Refusal.TheVariants.{NoMaterial, NoService, NumberSpent}
use Rattle.ssh_model.specs.declared.refusal.Refusal.TheVariants.{TooManyTries, UnknownChannel, WindowOverrun}
use Rattle.ssh_model.specs.declared.refusal.Refusal.TheVariants.{WindowTooLarge, OwedFull}
use Rattle.ssh_model.specs.Protocol.Sessions.Refusals.{first_refusal, refusal_name, refusal_reason}
use Rattle.ssh_model.specs.Protocol.Sessions.TurnClaims.{HasEncoding}
use Rattle.ssh_model.specs.State.TransportLayer.Kept.{Transport, message_ask_checks}
use Rattle.ssh_model.specs.Laws.Checks.{all_passed}
use Rattle.ssh_model.specs.Laws.Written.{disconnect_encoded}

-- Each refusal has a name of at most 20 bytes.
pub short_name : (why : Refusal) → length (refusal_name why) ≤ 20
short_name BadLine = omega arith
short_name BadVersion = omega arith
short_name BadLength = omega arith
short_name BadPadding = omega arith
short_name BadTag = omega arith
short_name BadMessage = omega arith
short_name Unexpected = omega arith
short_name NoCommon = omega arith
short_name NotStrict = omega arith
short_name BadPoint = omega arith
short_name BadHost = omega arith
short_name NoMaterial = omega arith
short_name NoService = omega arith
short_name NumberSpent = omega arith
short_name TooManyTries = omega arith
short_name UnknownChannel = omega arith
short_name WindowOverrun = omega arith
short_name WindowTooLarge = omega arith
short_name OwedFull = omega arith

-- Each reason code is at most 14.
small_reason : (why : Refusal) (reason : ℕ) → refusal_reason why ≡ Some reason → reason ≤ 14
small_reason BadLine r e = absurd (cc e)
small_reason BadVersion r e = absurd (cc e)
small_reason BadLength r e = let f : r ≡ 2 = cc e in omega (arith, f)
small_reason BadPadding r e = let f : r ≡ 2 = cc e in omega (arith, f)
small_reason BadTag r e = let f : r ≡ 5 = cc e in omega (arith, f)
small_reason BadMessage r e = let f : r ≡ 2 = cc e in omega (arith, f)
small_reason Unexpected r e = let f : r ≡ 2 = cc e in omega (arith, f)
small_reason NoCommon r e = let f : r ≡ 3 = cc e in omega (arith, f)
small_reason NotStrict r e = let f : r ≡ 3 = cc e in omega (arith, f)
small_reason BadPoint r e = let f : r ≡ 3 = cc e in omega (arith, f)
small_reason BadHost r e = let f : r ≡ 9 = cc e in omega (arith, f)
small_reason NoMaterial r e = let f : r ≡ 3 = cc e in omega (arith, f)
small_reason NoService r e = let f : r ≡ 7 = cc e in omega (arith, f)
small_reason NumberSpent r e = let f : r ≡ 2 = cc e in omega (arith, f)
small_reason TooManyTries r e = let f : r ≡ 14 = cc e in omega (arith, f)
small_reason UnknownChannel r e = let f : r ≡ 2 = cc e in omega (arith, f)
small_reason WindowOverrun r e = let f : r ≡ 2 = cc e in omega (arith, f)
small_reason WindowTooLarge r e = let f : r ≡ 2 = cc e in omega (arith, f)
small_reason OwedFull r e = let f : r ≡ 2 = cc e in omega (arith, f)

-- If a refusal has a reason code, the DISCONNECT that says so has an encoding.
pub reason_encoded : (why : Refusal) (reason : ℕ) → refusal_reason why ≡ Some reason →
    HasEncoding (Disconnect reason (refusal_name why) [])
reason_encoded why reason e =
    disconnect_encoded reason (refusal_name why) (omega (arith, small_reason why reason e))
    (omega (arith, short_name why))

-- The DISCONNECT that says why the peer is refused: its reason code, and that it has an encoding.
pub record Farewell (why : Refusal) : Type 0 where
  pub reason : ℕ
  pub reason_is : refusal_reason why ≡ Some reason
  pub encoding : HasEncoding (Disconnect reason (refusal_name why) [])

-- Each refusal with a reason code has such a DISCONNECT.
pub farewell_of : (why : Refusal) → IsSome (refusal_reason why) → Farewell why
farewell_of why some = go (refusal_reason why) refl some
  where
    go : (code : Option ℕ) → refusal_reason why ≡ code → IsSome code → Farewell why
    go None e x = absurd (false≢true x)
    go (Some reason) e x = record { reason = reason; reason_is = e; encoding = reason_encoded why reason e }

-- If the user may ask for this DISCONNECT, it has an encoding.
pub farewell_encoded : {K : Type 0} (s : Transport K) (description : List ℕ) →
    first_refusal (message_ask_checks s (AskDisconnect description)) ≡ None →
    HasEncoding (Disconnect 11 description [])
farewell_encoded s description fine =
    let passed = all_passed (message_ask_checks s (AskDisconnect description)) fine in
    disconnect_encoded 11 description (omega arith) (ltb-false longest_description (length description) passed.0)
