-- The reading of the lines of a file, one after the other, and which fault comes first.
use Rattle.std.specs.Prelude.{◌≡◌, ◌+◌, ⊤, ℕ, List, [], ◌∷◌, Result, Ok, Err}
use Rattle.divrelca.specs.declared.key_files.fault.Expected.{Expected}
use Rattle.divrelca.specs.declared.key_files.fault.FileFault.{FileFault}
use Rattle.divrelca.specs.declared.key_files.fault.FileFault.TheVariants.{Line}
use Rattle.ssh_types.specs.declared.call_error.CallError.{CallError}
use Rattle.ssh_types.specs.declared.call_error.CallError.TheVariants.{Memory, Refused}

-- the text that was expected, told of the line with this number
abbrev pub at_line : {S : Type 0} → (number : ℕ) → Result S Expected → Result S FileFault
at_line number (Ok state) = Ok state
at_line number (Err expected) = Err (Line number expected)

-- The state after these lines are read. A step adds each line to the state before it. This many lines stand before them.
-- The first line at which the step expects something else is the fault, by its number, which counts from 1.
abbrev pub read_lines : {S : Type 0} → (S → List ℕ → Result S Expected) → (before : ℕ) → Result S FileFault → List (List ℕ) →
    Result S FileFault
read_lines step before (Err fault) lines = Err fault
read_lines step before (Ok state) [] = Ok state
read_lines step before (Ok state) (line ∷ lines) = read_lines step (before + 1) (at_line (before + 1) (step state line)) lines

-- The fault is that of the file, or memory was refused.
abbrev pub IsFaultOf : {S : Type 0} → Result S FileFault → CallError FileFault → Type 0
IsFaultOf read (Refused fault) = read ≡ Err fault
IsFaultOf read Memory = ⊤
