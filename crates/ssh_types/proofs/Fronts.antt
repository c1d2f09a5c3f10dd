-- What stands in front of bytes as a string, and when no string does.
use Rattle.std.proofs.Common.{◌≡◌, ℕ, ◌<◌, List, ◌++◌, length, refl, sym, ap, ◌∙◌, append_assoc, length-append, arith}
use Rattle.ssh_model.specs.Protocol.Wire.DataTypes.{IsUint32, IsString}
use Rattle.ssh_model.specs.Laws.Reading.{Reads, NoFront}
use Rattle.ssh_model.specs.Laws.Encodings.{one_uint32}

-- no length, no string
pub no_string_short : (bytes : List ℕ) → NoFront IsUint32 bytes → NoFront IsString bytes
no_string_short bytes h =
    record {
      none = λ text front after s parts.
          h.none (length text) s.front (text ++ after) s.size (parts ∙ ap (λ (l : List ℕ). l ++ after) s.parts ∙ append_assoc s.front text after);
    }

-- fewer bytes than the length says, no string
pub no_string_long : (bytes after : List ℕ) (n : ℕ) → Reads (IsUint32 n) bytes after → length after < n → NoFront IsString bytes
no_string_long bytes after n r short =
    record {
      none = λ text front rest s parts.
          let whole : r.bytes ++ after ≡ s.front ++ (text ++ rest) = sym r.parts ∙ parts ∙ ap (λ (l : List ℕ). l ++ rest) s.parts ∙ append_assoc s.front text rest in
          let u = one_uint32 n (length text) r.bytes s.front after (text ++ rest) r.meets s.size whole in
          omega (arith, u.0, ap length u.2, length-append text rest);
    }

-- a length, and that many bytes
pub reads_string : (before middle after text : List ℕ) (n : ℕ) → Reads (IsUint32 n) before middle → length text ≡ n → middle ≡ text ++ after → Reads (IsString text) before after
reads_string before middle after text n r len parts =
    let m = r.meets in
    let size : IsUint32 (length text) r.bytes = record { are_bytes = m.are_bytes; count = m.count; value = m.value ∙ sym len } in
    record {
      bytes = r.bytes ++ text;
      meets = record { front = r.bytes; size = size; parts = refl };
      parts = r.parts ∙ ap (λ (l : List ℕ). r.bytes ++ l) parts ∙ sym (append_assoc r.bytes text after);
    }
