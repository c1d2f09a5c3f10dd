-- Strings that hold the shortest bytes of a whole number.
use Rattle.std.proofs.Common.{ℕ, List, sym, ap, subst, ◌∙◌}
use Rattle.std.specs.Prelude.{ℤ}
use Rattle.ssh_model.specs.Protocol.Wire.DataTypes.{IsString}
use Rattle.ssh_model.specs.Laws.DataTypes.{IsShortest, integer, IsMpint}
use Rattle.ssh_model.specs.Laws.Reading.{Reads, NoFront, OneForm, Writes}
use Rattle.ssh_types.specs.Values.{IsUncanonical}
use Rattle.ssh_model.specs.Laws.Encodings.{one_string}

-- no string, no number
pub no_mpint_short : (before : List ℕ) → NoFront IsString before → NoFront IsMpint before
no_mpint_short before h = record { none = λ z bytes after m parts. h.none m.body bytes after m.string parts }

-- a string that is no shortest form, no number
pub no_mpint_form : (text before after : List ℕ) → Reads (IsString text) before after → ((z : ℤ) → IsShortest z text → ⊥) → NoFront IsMpint before
no_mpint_form text before after r h =
    record {
      none = λ z bytes rest m parts.
          let one = one_string text m.body r.bytes bytes after rest r.meets m.string (sym r.parts ∙ parts) in
          h z (subst (λ (x : List ℕ). IsShortest z x) (sym one.0) m.shortest);
    }

-- a string that is a shortest form is a number
pub reads_mpint : (z : ℤ) (text before after : List ℕ) → Reads (IsString text) before after → IsShortest z text → Reads (IsMpint z) before after
reads_mpint z text before after r s =
    record { bytes = r.bytes; meets = record { body = text; shortest = s; string = r.meets }; parts = r.parts }

-- a string that is no shortest form
pub is_uncanonical : (text before after : List ℕ) → Reads (IsString text) before after → ((z : ℤ) → IsShortest z text → ⊥) → IsUncanonical before
is_uncanonical text before after r h = record { text = text; after = after; string = r; none = h }

pub one_mpint : OneForm IsMpint
one_mpint y z a b x w p q e =
    let one = one_string p.body q.body a b x w p.string q.string e in
    (sym p.shortest.value ∙ ap integer one.0 ∙ q.shortest.value, one.1, one.2)

-- a string of the shortest bytes of a number
pub writes_mpint : (z : ℤ) (text before after : List ℕ) → IsShortest z text → Writes (IsString text) before after → Writes (IsMpint z) before after
writes_mpint z text before after s w = record { bytes = w.bytes; meets = record { body = text; shortest = s; string = w.meets }; parts = w.parts }
