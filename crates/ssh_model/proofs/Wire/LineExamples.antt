-- What some bytes are before the version line.
use Rattle.std.proofs.Common.{◌≡◌, ℕ, true, false, List, [], ◌∷◌, ◌++◌, get_or, inl, inr, refl, ap, arith}
use Rattle.std.specs.Prelude.{codes, replicate, Option, Some, None}
use Rattle.ssh_model.specs.Protocol.Wire.Outcome.{Outcome.OtherLine, Outcome.VersionLine, Outcome.RefusedLine}
use Rattle.ssh_model.specs.Protocol.Wire.Line.{IsLine, line_end, LineIs.other, LineIs.other_from_client, LineIs.too_many_others, LineIs.no_minus, LineIs.bad_version, LineIs.bad_software, LineIs.version, LineUnit, LineUnit.line, LineUnit.zero_byte, LineUnit.lf_without_cr, LineUnit.cr_without_lf, LineUnit.too_long, IsOther, IsAccepted, IsSoftware, comment_text, IsVersionText}
use Rattle.ssh_model.specs.Laws.Units.{IsPartialLine, IsPartialLine.at_line_end, IsVersionLine}
use Rattle.ssh_model.specs.declared.refusal.Refusal.TheVariants.{BadLine, BadVersion}

-- the software x and some comments
x_software : (comments : Option (List ℕ)) (after : List ℕ) → after ≡ codes "x" ++ (comment_text comments) → IsSoftware (codes "x") comments after
x_software comments after e = record { some = omega arith; printable = refl; parts = e }

new_text : (comments : Option (List ℕ)) → IsVersionText (codes "2.0") (codes "x") comments (codes "SSH-2.0-x" ++ comment_text comments)
new_text comments = record { after = codes "x" ++ comment_text comments; printable = refl; parts = refl; is_software = x_software comments _ refl }

old_text : IsVersionText (codes "1.99") (codes "x") None (codes "SSH-1.99-x")
old_text = record { after = codes "x"; printable = refl; parts = refl; is_software = x_software None _ refl }

x_line : IsLine (codes "SSH-2.0-x") (codes "SSH-2.0-x" ++ line_end)
x_line = record { is_text = refl; parts = refl; size = omega arith }

old_line : IsLine (codes "SSH-1.99-x") (codes "SSH-1.99-x" ++ line_end)
old_line = record { is_text = refl; parts = refl; size = omega arith }

hello_line : IsLine (codes "hello") (codes "hello" ++ line_end)
hello_line = record { is_text = refl; parts = refl; size = omega arith }

hello_other : IsOther (codes "hello")
hello_other rest e = let f : 104 ≡ 83 = ap (λ (l : List ℕ). get_or l 0 0) e in omega (arith, f)

pub version_row : LineUnit false 0 (codes "SSH-2.0-x" ++ line_end) (VersionLine (codes "SSH-2.0-x"))
version_row = line (codes "SSH-2.0-x") x_line (version (codes "2.0") (codes "x") None (new_text None) (inl refl))

pub late_version_row : LineUnit true 64 (codes "SSH-2.0-x" ++ line_end) (VersionLine (codes "SSH-2.0-x"))
late_version_row = line (codes "SSH-2.0-x") x_line (version (codes "2.0") (codes "x") None (new_text None) (inl refl))

pub comments_row : IsVersionLine (codes "2.0") (codes "x") (Some (codes "of-y z")) (codes "SSH-2.0-x of-y z" ++ line_end)
comments_row =
    record {
      text = codes "SSH-2.0-x of-y z";
      line = record { is_text = refl; parts = refl; size = omega arith };
      version = new_text (Some (codes "of-y z"));
    }

pub old_server_row : LineUnit true 0 (codes "SSH-1.99-x" ++ line_end) (VersionLine (codes "SSH-1.99-x"))
old_server_row = line (codes "SSH-1.99-x") old_line (version (codes "1.99") (codes "x") None old_text (inr (refl, refl)))

old_refused : IsAccepted false (codes "1.99") → ⊥
old_refused (inl e) = cc e
old_refused (inr e) = let f : false ≡ true = e.0 in cc f

pub old_client_row : LineUnit false 0 (codes "SSH-1.99-x" ++ line_end) (RefusedLine BadVersion)
old_client_row = line (codes "SSH-1.99-x") old_line (bad_version (codes "1.99") (codes "x") (record { parts = refl; first = refl }) old_refused)

pub one_minus_row : LineUnit true 0 (codes "SSH-2.0" ++ line_end) (RefusedLine BadLine)
one_minus_row = line (codes "SSH-2.0") (record { is_text = refl; parts = refl; size = omega arith }) (no_minus (codes "2.0") refl refl)

no_software : (software : List ℕ) (comments : Option (List ℕ)) → IsSoftware software comments [] → ⊥
no_software [] comments s = omega (arith, s.some)
no_software (b ∷ software) comments s = let e : [] ≡ b ∷ (software ++ comment_text comments) = s.parts in cc e

pub no_software_row : LineUnit true 0 (codes "SSH-2.0-" ++ line_end) (RefusedLine BadLine)
no_software_row =
    line (codes "SSH-2.0-") (record { is_text = refl; parts = refl; size = omega arith }) (bad_software (codes "2.0") [] (record { parts = refl; first = refl }) (inl refl) no_software)

pub other_server_row : LineUnit true 63 (codes "hello" ++ line_end) (OtherLine (codes "hello"))
other_server_row = line (codes "hello") hello_line (other refl (omega arith) hello_other)

pub many_others_row : LineUnit true 64 (codes "hello" ++ line_end) (RefusedLine BadLine)
many_others_row = line (codes "hello") hello_line (too_many_others refl (omega arith) hello_other)

pub other_client_row : LineUnit false 0 (codes "hello" ++ line_end) (RefusedLine BadLine)
other_client_row = line (codes "hello") hello_line (other_from_client refl hello_other)

pub lf_row : LineUnit false 0 (codes "SSH-2.0-x" ++ 10 ∷ []) (RefusedLine BadLine)
lf_row = lf_without_cr (codes "SSH-2.0-x") refl (omega arith) refl

pub cr_row : LineUnit false 0 (codes "SSH-2.0-x" ++ 13 ∷ 13 ∷ []) (RefusedLine BadLine)
cr_row = cr_without_lf (codes "SSH-2.0-x") 13 refl (omega arith) (λ (e : 13 ≡ 10). cc e) refl

pub zero_row : LineUnit false 0 (codes "SSH-2.0" ++ 0 ∷ []) (RefusedLine BadLine)
zero_row = zero_byte (codes "SSH-2.0") refl (omega arith) refl

-- a line of 255 bytes
full : List ℕ
full = codes "SSH-2.0-x " ++ replicate 243 97

pub longest_row : LineUnit false 0 (codes "SSH-2.0-x " ++ (replicate 243 97 ++ line_end)) (VersionLine (codes "SSH-2.0-x " ++ replicate 243 97))
unfolding full
longest_row = line full (record { is_text = refl; parts = refl; size = omega arith }) (version (codes "2.0") (codes "x") (Some (replicate 243 97)) (new_text (Some (replicate 243 97))) (inl refl))

pub longer_row : LineUnit false 0 (codes "SSH-2.0-x " ++ (replicate 244 97 ++ 13 ∷ [])) (RefusedLine BadLine)
longer_row = too_long (codes "SSH-2.0-x " ++ replicate 244 97) 13 refl (omega arith) refl

pub begun_row : IsPartialLine (codes "SSH-2.0-x" ++ 13 ∷ [])
begun_row = at_line_end (codes "SSH-2.0-x") refl refl (omega arith)
