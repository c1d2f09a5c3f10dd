-- The lines of a file that are passed over, since something else was expected there.
use Rattle.std.specs.Prelude.{ℕ, ◌+◌, if◌then◌else◌, List, [], ◌∷◌, Option, Some, None, Result, Ok, Err}
use Rattle.std.specs.Option.{option_copied}
use Rattle.divrelca.specs.KnownHosts.{host_key_on, may_revoke}
use Rattle.divrelca.specs.Texts.{lines_of, parts_in, words_of}
use Rattle.divrelca.specs.UserKeys.{user_key_on}
use Rattle.divrelca.specs.declared.key_files.fault.Expected.{Expected}
use Rattle.divrelca.specs.declared.key_files.fault.FileFault.{FileFault}
use Rattle.divrelca.specs.declared.key_files.fault.FileFault.TheVariants.{Line}
use Rattle.divrelca.specs.declared.key_files.skipped.Form.{Form}
use Rattle.divrelca.specs.declared.key_files.skipped.Form.TheVariants.{AuthorizedKeys, KnownHosts}
use Rattle.divrelca.specs.declared.key_files.skipped.SkippedLines.{SkippedLines}

-- what was expected, if something else stands there
abbrev pub fault_in : Result (Option (List ℕ)) Expected → Option Expected
fault_in (Ok key) = None
fault_in (Err expected) = Some expected

-- faults, and before them that of the line with this number, if it has one
abbrev pub with_fault : (number : ℕ) → Option Expected → List FileFault → List FileFault
with_fault number None faults = faults
with_fault number (Some expected) faults = Line number expected ∷ faults

-- The faults of lines, in order, each by what was expected on it. This many lines stand before them.
abbrev pub faults_of : (expected_on : List ℕ → Option Expected) → (before : ℕ) → List (List ℕ) → List FileFault
faults_of expected_on before [] = []
faults_of expected_on before (line ∷ lines) = with_fault (before + 1) (expected_on line) (faults_of expected_on (before + 1) lines)

-- What was expected on a line of known_hosts that is passed over, for the named host or for any host. A line that may revoke a key is not.
abbrev pub expected_of_host : (host : Option (List ℕ)) → (line : List ℕ) → Option Expected
expected_of_host host line = if may_revoke (words_of line) then None else fault_in (host_key_on host (words_of line))

-- what was expected on a line of authorized_keys
abbrev pub expected_of_user : (line : List ℕ) → Option Expected
expected_of_user line = fault_in (user_key_on (words_of line))

-- ---- all lines

-- the faults of the lines of known_hosts
abbrev pub host_faults : (host : Option (List ℕ)) → (text : List ℕ) → List FileFault
host_faults host text = faults_of (expected_of_host host) 0 (lines_of text)

-- the faults of the lines of authorized_keys
abbrev pub user_faults : (text : List ℕ) → List FileFault
user_faults text = faults_of expected_of_user 0 (lines_of text)

-- ---- the code's walk

-- what was expected on a line of this form
abbrev pub expected_by : Form → (line : List ℕ) → Option Expected
expected_by (KnownHosts host) = expected_of_host (option_copied host)
expected_by AuthorizedKeys = expected_of_user

-- the faults that are still to come
abbrev pub faults_left : SkippedLines → List FileFault
faults_left it = faults_of (expected_by it.form) it.lines.before (parts_in 10 it.lines.rest)
