-- The values of the types of this crate, and the refusals of a reader.
use Rattle.std.specs.Prelude.{◌≢◌, Bool, List, false, true, ℕ, ℤ, take}
use Rattle.ssh_types.specs.declared.mpint.MpInt.{MpInt}
use Rattle.ssh_types.specs.declared.name.Name.{Name}
use Rattle.ssh_types.specs.declared.name_buf.NameBuf.{NameBuf}
use Rattle.ssh_types.specs.declared.name_list.NameList.{NameList}
use Rattle.ssh_types.specs.declared.name_list.Names.{Names}
use Rattle.ssh_types.specs.declared.name_list_buf.NameListBuf.{NameListBuf}
use Rattle.ssh_types.specs.declared.read_refusal.ReadRefusal.{ReadRefusal}
use Rattle.ssh_types.specs.declared.read_refusal.ReadRefusal.TheVariants.{Short, BadNames, NotCanonical, LeftOver}
use Rattle.ssh_model.specs.Protocol.Wire.DataTypes.{IsString, IsNameText, IsUint32}
use Rattle.ssh_model.specs.Laws.DataTypes.{integer, IsShortest}
use Rattle.ssh_model.specs.Laws.Reading.{Reads, NoFront}
use Rattle.ssh_types.specs.Digits.{marked_bytes}
use Rattle.ssh_types.specs.Names.{names_of}

-- the bytes that encode a number
abbrev pub bytes_of : MpInt → List ℕ
bytes_of m = marked_bytes m.marked m.digits.now

-- the whole number
abbrev pub value_of : MpInt → ℤ
value_of m = integer (bytes_of m)

-- the bytes of a name
abbrev pub name_text : Name → List ℕ
name_text name = name.bytes.now

-- the bytes of a name that owns them
abbrev pub owned_text : NameBuf → List ℕ
owned_text name = take name.len name.bytes

-- the text of a list, with its commas
abbrev pub names_text : NameList → List ℕ
names_text list = list.text.now

-- the names of a list, in order
abbrev pub names : NameList → List (List ℕ)
names list = names_of list.text.now

-- the names of a list that owns its text, in order
abbrev pub owned_names : NameListBuf → List (List ℕ)
owned_names list = names_of list.text.items

-- the names that an iterator has yet to give
abbrev pub names_left : Names → List (List ℕ)
names_left it = names it.rest

-- A whole string is there, and its bytes are the shortest bytes of no whole number.
pub record IsUncanonical (before : List ℕ) : Type 0 where
  pub text : List ℕ
  pub after : List ℕ
  pub string : Reads (IsString text) before after
  pub none : (z : ℤ) → IsShortest z text → ⊥

-- A whole string is there, and its text is that of no list of names.
pub record IsBadNames (before : List ℕ) : Type 0 where
  pub text : List ℕ
  pub after : List ℕ
  pub string : Reads (IsString text) before after
  pub none : (list : List (List ℕ)) → IsNameText list text → ⊥

-- the reason why no number was read
abbrev pub IsMpintRefusal : ReadRefusal → List ℕ → Type 0
IsMpintRefusal Short before = NoFront IsString before
IsMpintRefusal NotCanonical before = IsUncanonical before
IsMpintRefusal BadNames before = ⊥
IsMpintRefusal LeftOver before = ⊥

-- the reason why no names were read
abbrev pub IsNamesRefusal : ReadRefusal → List ℕ → Type 0
IsNamesRefusal Short before = NoFront IsString before
IsNamesRefusal BadNames before = IsBadNames before
IsNamesRefusal NotCanonical before = ⊥
IsNamesRefusal LeftOver before = ⊥

-- A number other than 0 was read.
pub record ReadsOther (before after : List ℕ) : Type 0 where
  pub number : ℕ
  pub other : number ≢ 0
  pub read : Reads (IsUint32 number) before after

-- The number that was read is 0, or another, as the flag says.
abbrev pub ReadsReserved : Bool → List ℕ → List ℕ → Type 0
ReadsReserved true before after = Reads (IsUint32 0) before after
ReadsReserved false before after = ReadsOther before after
