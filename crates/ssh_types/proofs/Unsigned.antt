-- Whole numbers of so many bytes, the most significant first.
use Rattle.std.proofs.Common.{◌≡◌, ℕ, zero, suc, ◌+◌, ◌*◌, ◌^◌, List, [], ◌∷◌, ◌++◌, length, refl, sym, ap, ◌∙◌, arith}
use Rattle.byteorder.specs.Endian.{big_from}
use Rattle.byteorder.specs.Numbers.{big_from-cons}
use Rattle.ssh_model.specs.Protocol.Wire.DataTypes.{AreBytes, number, IsUnsigned}
use Rattle.ssh_model.specs.Laws.Reading.{Reads}

-- what all of the bytes are read as is their number
number_of_big : (size : ℕ) (bs : List ℕ) → length bs ≡ size → big_from 0 size bs ≡ number bs
number_of_big zero [] l = refl
number_of_big zero (b ∷ bs) l = absurd (omega arith)
number_of_big (suc size) [] l = absurd (omega arith)
number_of_big (suc size) (b ∷ bs) l =
    let len : length bs ≡ size = omega arith in
    let rest = big_from-cons 0 size b bs ∙ number_of_big size bs len in
    ap (λ (r : ℕ). b * 256 ^ size + r) rest ∙ ap (λ (n : ℕ). b * 256 ^ n + number bs) (sym len)

-- Bytes in front, so many of them, are read as a number.
pub reads_unsigned : (size n : ℕ) (bytes before after : List ℕ) → AreBytes bytes → length bytes ≡ size → before ≡ bytes ++ after → n ≡ big_from 0 size bytes → Reads (IsUnsigned size n) before after
reads_unsigned size n bytes before after are len parts is =
    record {
      bytes = bytes;
      meets = record { are_bytes = are; count = len; value = sym (is ∙ number_of_big size bytes len) };
      parts = parts;
    }
