-- What a config keeps is what it was given.
use Rattle.std.proofs.Common.{◌≡◌, ℕ, ◌≤◌, ◌+◌, Bool, true, ltb, List, [], ◌∷◌, ◌++◌, length, drop, arith, sym, ap, subst, ◌∙◌, append_assoc, length-append}
use Rattle.std.specs.Prelude.{Option, Some, None, IsTrue, codes}
use Rattle.std.proofs.Math.Seq.{take-append_seam, drop-append_seam}
use Rattle.std.proofs.lemmas.Bool.{cond-true, cond-false, lt-ltb, le-ltb}
use Rattle.ssh_model.specs.declared.strictness.Strictness.{Strictness}
use Rattle.ssh_model.specs.Protocol.Wire.Line.{comment_text}
use Rattle.ssh_model.specs.Protocol.Wire.Message.{Extension}
use Rattle.ssh_model.specs.Protocol.Wire.Sealing.{Crypto}
use Rattle.ssh_config.specs.Config.{AreGood, Given, version_text}
use Rattle.ssh_config.specs.Checks.{are_good, comments_in, kept, software_in}
use Rattle.ssh_config.proofs.Lists.{good_pass}

software_kept : (software : List ℕ) (comments : Option (List ℕ)) → software_in (length software) (version_text software comments) ≡ software
software_kept software comments = take-append_seam software (comment_text comments)

comments_kept : (software : List ℕ) (comments : Option (List ℕ)) → comments_in (length software) (version_text software comments) ≡ comments
comments_kept software None =
    let line : List ℕ = version_text software None in
    let size : length line ≡ 8 + length software = omega (arith, length-append software []) in
    cond-false (ltb (8 + length software) (length line)) (Some (drop (9 + length software) line)) None
    (le-ltb (8 + length software) (length line) (omega arith))
comments_kept software (Some text) =
    let line : List ℕ = version_text software (Some text) in
    let front : List ℕ = codes "SSH-2.0-" ++ (software ++ 32 ∷ []) in
    let size : length line ≡ 8 + (length software + (1 + length text)) = omega (arith, length-append software (32 ∷ text)) in
    let before : length front ≡ 9 + length software = omega (arith, length-append software (32 ∷ [])) in
    let parts : line ≡ front ++ text = ap (λ (l : List ℕ). codes "SSH-2.0-" ++ l) (sym (append_assoc software (32 ∷ []) text)) in
    cond-true (ltb (8 + length software) (length line)) (Some (drop (9 + length software) line)) None
    (lt-ltb (8 + length software) (length line) (omega arith))
    ∙ ap (λ (l : List ℕ). Some l)
    (ap (λ (n : ℕ). drop n line) (sym before) ∙ ap (λ (l : List ℕ). drop (length front) l) parts ∙ drop-append_seam front text)

-- the parts of a config as they are made
pub record AreMade (g : Given) (line : List ℕ) (kex host encryption mac methods : List (List ℕ)) (strictness : Strictness) (takes_extensions : Bool) (extensions : List Extension) : Type 0 where
  pub line_is : line ≡ version_text g.software g.comments
  pub kex_is : kex ≡ g.kex
  pub host_is : host ≡ g.host
  pub encryption_is : encryption ≡ g.encryption
  pub mac_is : mac ≡ g.mac
  pub methods_is : methods ≡ g.methods
  pub strictness_is : strictness ≡ g.strictness
  pub takes_extensions_is : takes_extensions ≡ g.takes_extensions
  pub extensions_is : extensions ≡ g.extensions

module _ {g : Given} {line : List ℕ} {kex host encryption mac methods : List (List ℕ)} {strictness : Strictness} {takes_extensions : Bool} {extensions : List Extension}
    (made : AreMade g line kex host encryption mac methods strictness takes_extensions extensions) where
  software_is : software_in (length g.software) line ≡ g.software
  software_is = ap (software_in (length g.software)) made.line_is ∙ software_kept g.software g.comments

  comments_is : comments_in (length g.software) line ≡ g.comments
  comments_is = ap (comments_in (length g.software)) made.line_is ∙ comments_kept g.software g.comments

  pub kept_given : kept line (length g.software) kex host encryption mac g.epoch_limit g.tries methods strictness takes_extensions extensions ≡ g
  kept_given = λ i. record {
    software = software_is i;
    comments = comments_is i;
    kex = made.kex_is i;
    host = made.host_is i;
    encryption = made.encryption_is i;
    mac = made.mac_is i;
    epoch_limit = g.epoch_limit;
    tries = g.tries;
    methods = made.methods_is i;
    strictness = made.strictness_is i;
    takes_extensions = made.takes_extensions_is i;
    extensions = made.extensions_is i;
  }

  pub kept_line : line ≡ version_text (software_in (length g.software) line) (comments_in (length g.software) line)
  kept_line = made.line_is ∙ sym (λ i. version_text (software_is i) (comments_is i))

  pub kept_fits : 8 + length g.software ≤ length line
  kept_fits =
      let size : length line ≡ 8 + length (g.software ++ comment_text g.comments) = ap (λ (l : List ℕ). length l) made.line_is ∙ (omega arith) in
      omega (arith, length-append g.software (comment_text g.comments))

  pub kept_good : {K : Type 0} (c : Crypto K) → AreGood c g → IsTrue (are_good c (kept line (length g.software) kex host encryption mac g.epoch_limit g.tries methods strictness takes_extensions extensions))
  kept_good c good = subst (λ (k : Given). are_good c k ≡ true) (sym kept_given) (good_pass c g good)
