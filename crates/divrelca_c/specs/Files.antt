-- What a reader of a key file answers, and what it writes, by what stands in the file.
use Rattle.std.specs.Prelude.{◌≡◌, ℕ, ℤ, pos, if◌then◌else◌, nat_lt, List, [], ◌∷◌, length, slice_get, slice_index_or, Option, Some, None, Result, Ok, Err}
use Rattle.std.specs.List.{list_all}
use Rattle.ssh_model.specs.Protocol.Wire.DataTypes.{is_text}
use Rattle.divrelca.specs.Lines.{IsFaultOf}
use Rattle.divrelca.specs.declared.key_files.fault.Expected.TheVariants.{AnyHostKey, OneHostKey}
use Rattle.divrelca.specs.declared.key_files.fault.FileFault.{FileFault}
use Rattle.divrelca.specs.declared.key_files.fault.FileFault.TheVariants.{File}
use Rattle.ssh_types.specs.declared.call_error.CallError.{CallError}
use Rattle.divrelca_c.specs.Codes.{fault_code, fault_line, unread_code, unread_line}

-- the host that is named: none where its name has no bytes
abbrev pub host_in : List ℕ → Option (List ℕ)
host_in [] = None
host_in (byte ∷ bytes) = Some (byte ∷ bytes)

-- the key that all of these are
abbrev pub one_of : List (List ℕ) → Result (List ℕ) FileFault
one_of [] = Err (File AnyHostKey)
one_of (key ∷ keys) = if list_all (is_text key) keys then Ok key else Err (File OneHostKey)

-- the one key of a file
abbrev pub only_key : Result (List (List ℕ)) FileFault → Result (List ℕ) FileFault
only_key (Err fault) = Err fault
only_key (Ok keys) = one_of keys

-- the key of a file at a place
abbrev pub key_at : (place : ℕ) → Result (List (List ℕ)) FileFault → Result (List ℕ) FileFault
key_at place (Err fault) = Err fault
key_at place (Ok keys) = if nat_lt place (length keys) then Ok (slice_index_or keys place []) else Err (File AnyHostKey)

-- The code and the line are those of the file's fault, or say that memory was refused.
pub record TellsFault {A : Type 0} (read : Result A FileFault) (code : ℤ) (line : ℕ) : Type 0 where
  pub error : CallError FileFault
  pub is : IsFaultOf read error
  pub code_is : code ≡ unread_code error
  pub line_is : line ≡ unread_line error

-- The file has so many keys. That at this place stands where another one stood, which is left where there is none.
pub record TellsKey (read : Result (List (List ℕ)) FileFault) (place : ℕ) (old new : List ℕ) (count : ℕ) : Type 0 where
  pub keys : List (List ℕ)
  pub are : read ≡ Ok keys
  pub count_is : count ≡ length keys
  pub key_is : new ≡ slice_index_or keys place old

-- ---- lines that are passed over

-- the fault at a place
abbrev pub fault_at : (place : ℕ) → List FileFault → Option FileFault
fault_at place faults = slice_get faults place

-- the code of a fault, 0 where there is none
abbrev pub code_skipped : Option FileFault → ℤ
code_skipped None = pos 0
code_skipped (Some fault) = fault_code fault

-- its line, in place of what stood there
abbrev pub line_skipped : Option FileFault → (old : ℕ) → ℕ
line_skipped None old = old
line_skipped (Some fault) old = fault_line fault
