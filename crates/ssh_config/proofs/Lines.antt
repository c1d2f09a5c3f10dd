-- The test of a version line, and the line.
use Rattle.std.proofs.Common.{◌≡◌, ℕ, ◌≤◌, true, false, ◌&&◌, leb, eqb, List, ◌∷◌, ◌++◌, length, arith, refl, sym, ap, subst, ◌∙◌, length-append, Some, None}
use Rattle.std.specs.Prelude.{Option, codes, not}
use Rattle.std.specs.List.{list_all}
use Rattle.std.proofs.lemmas.Bool.{and_parts, leb-true, le-leb}
use Rattle.std.proofs.lemmas.Bool.Decides.{nat_tests}
use Rattle.std.proofs.lemmas.List.Folds.{list_all-append}
use Rattle.ssh_model.specs.Protocol.Wire.Line.{comment_text, is_text_byte, is_version_byte, line_end}
use Rattle.ssh_config.specs.Config.{Given, HasLine, IsBadSoftware, IsLineOf, version_text}
use Rattle.ssh_config.specs.Checks.{are_comments, fits_line, has_line, is_software}
use Rattle.ssh_config.proofs.Booleans.{both, implied, not_both}

-- a byte of a version may stand in a line
text_byte : (b : ℕ) → is_version_byte b ≡ true → is_text_byte b ≡ true
text_byte b h =
    let p = and_parts (leb 33 b && leb b 126) (not (eqb b 45)) h in
    let q = and_parts (leb 33 b) (leb b 126) p.0 in
    let low : 33 ≤ b = leb-true 33 b q.0 in
    grind (arith, nat_tests)

text_in : (comments : Option (List ℕ)) → are_comments comments ≡ true → list_all is_text_byte (comment_text comments) ≡ true
text_in None h = refl
text_in (Some text) h = h

comments_in : (software : List ℕ) (comments : Option (List ℕ)) → list_all is_text_byte (software ++ comment_text comments) ≡ true → are_comments comments ≡ true
comments_in software None h = refl
comments_in software (Some text) h =
    (and_parts (list_all is_text_byte software) (list_all is_text_byte (32 ∷ text)) (sym (list_all-append is_text_byte software (32 ∷ text)) ∙ h)).1

-- what the tests say of the line that is made
pub good_line : (g : Given) → has_line g.software g.comments ≡ true → HasLine g
good_line g h =
    let p = and_parts (is_software g.software && are_comments g.comments) (fits_line g.software g.comments) h in
    let q = and_parts (is_software g.software) (are_comments g.comments) p.0 in
    let r = and_parts (leb 1 (length g.software)) (list_all is_version_byte g.software) q.0 in
    let after : List ℕ = g.software ++ comment_text g.comments in
    let some : 1 ≤ length g.software = leb-true 1 (length g.software) r.0 in
    let short : length (version_text g.software g.comments) ≤ 253 = leb-true (length (version_text g.software g.comments)) 253 p.1 in
    record {
      text = version_text g.software g.comments;
      line = record {
        is_text = list_all-append is_text_byte g.software (comment_text g.comments)
            ∙ both (list_all is_text_byte g.software) (list_all is_text_byte (comment_text g.comments))
            (implied is_version_byte is_text_byte g.software text_byte r.1) (text_in g.comments q.1);
        parts = refl;
        size = omega (arith, length-append (version_text g.software g.comments) line_end);
      };
      version = record {
        after = after;
        printable = refl;
        parts = refl;
        is_software = record { some = some; printable = r.1; parts = refl };
      };
    }

-- what a line says of its software and its comments
pub passes_line : (g : Given) (bytes : List ℕ) → IsLineOf g bytes → has_line g.software g.comments ≡ true
passes_line g bytes v =
    let parts : v.text ≡ version_text g.software g.comments = v.version.parts ∙ ap (λ (x : List ℕ). codes "SSH-2.0-" ++ x) v.version.is_software.parts in
    let in_line : list_all is_text_byte (version_text g.software g.comments) ≡ true = subst (λ (x : List ℕ). list_all is_text_byte x ≡ true) parts v.line.is_text in
    let size : length (v.text ++ line_end) ≤ 255 = subst (λ (x : List ℕ). length x ≤ 255) v.line.parts v.line.size in
    let short : length v.text ≤ 253 = omega (arith, length-append v.text line_end) in
    both (is_software g.software && are_comments g.comments) (fits_line g.software g.comments)
    (both (is_software g.software) (are_comments g.comments)
    (both (leb 1 (length g.software)) (list_all is_version_byte g.software) (le-leb 1 (length g.software) v.version.is_software.some) v.version.is_software.printable)
    (comments_in g.software g.comments in_line))
    (le-leb (length (version_text g.software g.comments)) 253 (subst (λ (x : List ℕ). length x ≤ 253) parts short))
