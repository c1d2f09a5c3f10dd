-- The written form of the fields of a message.
use Rattle.std.specs.Prelude.{ℕ, ◌+◌, List, [], ◌∷◌, length}
use Rattle.ssh_model.specs.Laws.Sizes.{names_size, text_size}
use Rattle.ssh_model.specs.Protocol.Wire.DataTypes.{IsByte, IsWrittenBoolean, IsUint32, IsString, IsNameList}
use Rattle.ssh_model.specs.Protocol.Wire.Message.{◌▸◌, IsCookie, IsRest}
use Rattle.ssh_types.specs.Values.{names, names_text}
use Rattle.ssh_message.specs.declared.write.field.Field.{Field}
use Rattle.ssh_message.specs.declared.write.field.Field.TheVariants as field
use Rattle.ssh_message.specs.Written.{IsShort}

-- A text or a name-list is shorter than 2^32 bytes.
abbrev pub FieldFits : Field → Type 0
FieldFits (field.Text text) = IsShort text.now
FieldFits (field.Names list) = IsShort (names_text list)
FieldFits f = Unit {0}

abbrev pub AreFit : List Field → Type 0
AreFit [] = Unit {0}
AreFit (f ∷ fs) = FieldFits f × AreFit fs

-- the bytes of a field, and of fields one after the other
abbrev pub field_size : Field → ℕ
field_size (field.Boolean truth) = 1
field_size (field.Uint32 number) = 4
field_size (field.Text text) = text_size text.now
field_size (field.Names list) = names_size (names list)
field_size (field.Cookie cookie) = 16

abbrev pub all_sizes : List Field → ℕ
all_sizes [] = 0
all_sizes (f ∷ fs) = field_size f + all_sizes fs

-- the bytes of a field
abbrev pub IsField : Field → List ℕ → Type 0
IsField (field.Boolean truth) = IsWrittenBoolean truth
IsField (field.Uint32 number) = IsUint32 number
IsField (field.Text text) = IsString text.now
IsField (field.Names list) = IsNameList (names list)
IsField (field.Cookie cookie) = IsCookie cookie.now

-- the bytes of the fields one after the other, and then the rest
abbrev pub AreFields : List Field → List ℕ → List ℕ → Type 0
AreFields [] rest = IsRest rest
AreFields (f ∷ fs) rest = IsField f ▸ AreFields fs rest

-- the same after the number of a message
abbrev pub IsRowOf : ℕ → List Field → List ℕ → List ℕ → Type 0
IsRowOf number fields rest = IsByte number ▸ AreFields fields rest

-- the bytes of the fields and the rest
abbrev pub row_size : List Field → List ℕ → ℕ
row_size fields rest = 1 + (all_sizes fields + length rest)
