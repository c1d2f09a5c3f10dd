-- The method of a request for authentication, from its name on.
use Rattle.std.proofs.Common.{◌≡◌, ℕ, Bool, true, false, List, Option, Some, None, Result, Ok, Err, sym, subst, ◌∙◌}
use Rattle.std.specs.Prelude.{codes, IfOk, IfErr}
use Rattle.ssh_model.specs.Protocol.Wire.DataTypes.{IsBoolean, IsString}
use Rattle.ssh_model.specs.Laws.Reading.{Reads, NoFront}
use Rattle.ssh_model.specs.Protocol.Wire.Message.{Method, NoMethod, Password, Publickey, Other, Then, IsMethod}
use Rattle.ssh_model.specs.Laws.Encodings.{one_boolean, one_string}
use Rattle.ssh_message.specs.declared.message.Method as code
use Rattle.ssh_message.specs.Meaning.{method_meaning}
use Rattle.ssh_message.specs.Methods.{method_name, IsArguments, AreArguments, NoArguments}
use Rattle.ssh_message.specs.Parts.{Both, IsNothing, NoWhole}

named : (m : Method) (bytes : List ℕ) → IsMethod IsBoolean m bytes → Then (IsString (method_name m)) (IsArguments m) bytes
named NoMethod bytes t = t
named (Password password None) bytes t = t
named (Password password (Some new)) bytes t = t
named (Publickey algorithm key None) bytes t = t
named (Publickey algorithm key (Some signature)) bytes t = t
named (Other name rest) bytes t = record { front = t.front; back = t.back; first = t.first.string; second = (t.first.other, t.second); parts = t.parts }

-- the arguments of a method with this name
method_at : (m : Method) (name before after : List ℕ) → Reads (IsString name) before after → IsMethod IsBoolean m before → (method_name m ≡ name) × IsArguments m after
method_at m name before after r p =
    let t = named m before p in
    let same = one_string name (method_name m) r.bytes t.front after t.back r.meets t.first (sym r.parts ∙ t.parts) in
    (sym same.0, subst (IsArguments m) (sym same.2) t.second)

no_none_by : (bytes : List ℕ) → NoWhole IsNothing bytes → (m : Method) → method_name m ≡ codes "none" → IsArguments m bytes → ⊥
no_none_by bytes some NoMethod e p = some.none tt p
no_none_by bytes some (Other name rest) e p = p.0.not_none e
no_none_by bytes some m e p = cc

-- ---- where a part isn't there, there is no method

pub no_method_name : {bytes : List ℕ} → NoFront IsString bytes → NoWhole (IsMethod IsBoolean) bytes
no_method_name {bytes = bytes} h = record { none = λ m p. let t = named m bytes p in h.none (method_name m) t.front t.back t.first t.parts }

pub no_method : {name before after : List ℕ} → Reads (IsString name) before after → NoArguments name after → NoWhole (IsMethod IsBoolean) before
no_method {name = name} {before = before} {after = after} r h = record { none = λ m p. let s = method_at m name before after r p in h.none m s.0 s.1 }

pub no_none : {bytes : List ℕ} → NoWhole IsNothing bytes → NoArguments (codes "none") bytes
no_none {bytes = bytes} some = record { none = no_none_by bytes some }

by_password : (bytes : List ℕ) → ((password : List ℕ) (new : Option (List ℕ)) → IsArguments (Password password new) bytes → ⊥) → (m : Method) → method_name m ≡ codes "password" → IsArguments m bytes → ⊥
by_password bytes h (Password password new) e p = h password new p
by_password bytes h (Other name rest) e p = p.0.not_password e
by_password bytes h m e p = cc

by_publickey : (bytes : List ℕ) → ((algorithm key : List ℕ) (signature : Option (List ℕ)) → IsArguments (Publickey algorithm key signature) bytes → ⊥) → (m : Method) → method_name m ≡ codes "publickey" → IsArguments m bytes → ⊥
by_publickey bytes h (Publickey algorithm key signature) e p = h algorithm key signature p
by_publickey bytes h (Other name rest) e p = p.0.not_publickey e
by_publickey bytes h m e p = cc

-- what the boolean in front says
truth_is : {truth other : Bool} {Q : List ℕ → Type 0} {bytes after : List ℕ} → Reads (IsBoolean truth) bytes after → Then (IsBoolean other) Q bytes → (truth ≡ other) × Q after
truth_is {truth = truth} {other = other} {Q = Q} {after = after} r t =
    let same = one_boolean truth other r.bytes t.front after t.back r.meets t.first (sym r.parts ∙ t.parts) in
    (same.0, subst Q (sym same.2) t.second)

abbrev OneText : List ℕ × Unit {0} → List ℕ → Type 0
OneText = Both IsString IsNothing

abbrev TwoTexts : List ℕ × (List ℕ × Unit {0}) → List ℕ → Type 0
TwoTexts = Both IsString (Both IsString IsNothing)

abbrev ThreeTexts : List ℕ × (List ℕ × (List ℕ × Unit {0})) → List ℕ → Type 0
ThreeTexts = Both IsString (Both IsString (Both IsString IsNothing))

no_password_by : (bytes : List ℕ) → NoFront IsBoolean bytes → (password : List ℕ) (new : Option (List ℕ)) → IsArguments (Password password new) bytes → ⊥
no_password_by bytes h password None p = h.none false p.front p.back p.first p.parts
no_password_by bytes h password (Some new) p = h.none true p.front p.back p.first p.parts

pub no_password : {bytes : List ℕ} → NoFront IsBoolean bytes → NoArguments (codes "password") bytes
no_password {bytes = bytes} h = record { none = by_password bytes (no_password_by bytes h) }

no_old_by : (bytes after : List ℕ) → Reads (IsBoolean false) bytes after → NoWhole OneText after → (password : List ℕ) (new : Option (List ℕ)) → IsArguments (Password password new) bytes → ⊥
no_old_by bytes after r h password None p = h.none (password, tt) (truth_is r p).1
no_old_by bytes after r h password (Some new) p = let e = (truth_is r p).0 in cc

pub no_old_password : {bytes after : List ℕ} → Reads (IsBoolean false) bytes after → NoWhole (Both IsString IsNothing) after → NoArguments (codes "password") bytes
no_old_password {bytes = bytes} {after = after} r h = record { none = by_password bytes (no_old_by bytes after r h) }

no_new_by : (bytes after : List ℕ) → Reads (IsBoolean true) bytes after → NoWhole TwoTexts after → (password : List ℕ) (new : Option (List ℕ)) → IsArguments (Password password new) bytes → ⊥
no_new_by bytes after r h password None p = let e = (truth_is r p).0 in cc
no_new_by bytes after r h password (Some new) p = h.none (password, (new, tt)) (truth_is r p).1

pub no_new_password : {bytes after : List ℕ} → Reads (IsBoolean true) bytes after → NoWhole (Both IsString (Both IsString IsNothing)) after → NoArguments (codes "password") bytes
no_new_password {bytes = bytes} {after = after} r h = record { none = by_password bytes (no_new_by bytes after r h) }

no_publickey_by : (bytes : List ℕ) → NoFront IsBoolean bytes → (algorithm key : List ℕ) (signature : Option (List ℕ)) → IsArguments (Publickey algorithm key signature) bytes → ⊥
no_publickey_by bytes h algorithm key None p = h.none false p.front p.back p.first p.parts
no_publickey_by bytes h algorithm key (Some signature) p = h.none true p.front p.back p.first p.parts

pub no_publickey : {bytes : List ℕ} → NoFront IsBoolean bytes → NoArguments (codes "publickey") bytes
no_publickey {bytes = bytes} h = record { none = by_publickey bytes (no_publickey_by bytes h) }

no_probe_by : (bytes after : List ℕ) → Reads (IsBoolean false) bytes after → NoWhole TwoTexts after → (algorithm key : List ℕ) (signature : Option (List ℕ)) → IsArguments (Publickey algorithm key signature) bytes → ⊥
no_probe_by bytes after r h algorithm key None p = h.none (algorithm, (key, tt)) (truth_is r p).1
no_probe_by bytes after r h algorithm key (Some signature) p = let e = (truth_is r p).0 in cc

pub no_probe : {bytes after : List ℕ} → Reads (IsBoolean false) bytes after → NoWhole (Both IsString (Both IsString IsNothing)) after → NoArguments (codes "publickey") bytes
no_probe {bytes = bytes} {after = after} r h = record { none = by_publickey bytes (no_probe_by bytes after r h) }

no_signed_by : (bytes after : List ℕ) → Reads (IsBoolean true) bytes after → NoWhole ThreeTexts after → (algorithm key : List ℕ) (signature : Option (List ℕ)) → IsArguments (Publickey algorithm key signature) bytes → ⊥
no_signed_by bytes after r h algorithm key None p = let e = (truth_is r p).0 in cc
no_signed_by bytes after r h algorithm key (Some signature) p = h.none (algorithm, (key, (signature, tt))) (truth_is r p).1

pub no_signed : {bytes after : List ℕ} → Reads (IsBoolean true) bytes after → NoWhole (Both IsString (Both IsString (Both IsString IsNothing))) after → NoArguments (codes "publickey") bytes
no_signed {bytes = bytes} {after = after} r h = record { none = by_publickey bytes (no_signed_by bytes after r h) }

-- ---- a method that was read

named_by : (m : Method) (before after : List ℕ) → Reads (IsString (method_name m)) before after → IsArguments m after → IsMethod IsBoolean m before
named_by NoMethod before after r p = record { front = r.bytes; back = after; first = r.meets; second = p; parts = r.parts }
named_by (Password password None) before after r p = record { front = r.bytes; back = after; first = r.meets; second = p; parts = r.parts }
named_by (Password password (Some new)) before after r p = record { front = r.bytes; back = after; first = r.meets; second = p; parts = r.parts }
named_by (Publickey algorithm key None) before after r p = record { front = r.bytes; back = after; first = r.meets; second = p; parts = r.parts }
named_by (Publickey algorithm key (Some signature)) before after r p = record { front = r.bytes; back = after; first = r.meets; second = p; parts = r.parts }
named_by (Other name rest) before after r p =
    record { front = r.bytes; back = after; first = record { other = p.0; string = r.meets }; second = p.1; parts = r.parts }

-- the name, and the arguments of a method of that name
pub reads_method : {m : Method} {name before after : List ℕ} → Reads (IsString name) before after → AreArguments name m after → IsMethod IsBoolean m before
reads_method {m = m} {before = before} {after = after} r p = named_by m before after (subst (λ (n : List ℕ). Reads (IsString n) before after) (sym p.named) r) p.arguments

pub ruleset methods = (no_method_name, no_method, reads_method)

pub ruleset passwords = (no_password, no_old_password, no_new_password)

pub ruleset publickeys = (no_publickey, no_probe, no_signed)

-- the name, and what was read of the arguments of that name
pub method_found : {E : Type 0} (r : Result code.Method E) {name before after : List ℕ} (text : List ℕ) → Reads (IsString name) before after → name ≡ text → IfOk r (λ m. AreArguments text (method_meaning m) after) → IfOk r (λ m. IsMethod IsBoolean (method_meaning m) before)
method_found (Ok m) {before = before} {after = after} text s e p = reads_method (subst (λ (n : List ℕ). Reads (IsString n) before after) e s) p
method_found (Err e) text s q p = tt

pub method_refused : {E : Type 0} (r : Result code.Method E) {name before after : List ℕ} (text : List ℕ) → Reads (IsString name) before after → name ≡ text → IfErr r (λ _. NoArguments text after) → IfErr r (λ _. NoWhole (IsMethod IsBoolean) before)
method_refused (Ok m) text s e p = tt
method_refused (Err x) {before = before} {after = after} text s e p = no_method (subst (λ (n : List ℕ). Reads (IsString n) before after) e s) p
