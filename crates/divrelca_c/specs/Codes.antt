-- What C is answered.
use Rattle.std.specs.Prelude.{◌+◌, ℕ, ℤ, pos, negsuc, Bool, false, true, Option, Some, None, Result, Ok, Err}
use Rattle.ssh_model.specs.Protocol.Sessions.Refusals.{ask_refusal_number}
use Rattle.ssh_model.specs.declared.refusal.Refusal.{Refusal}
use Rattle.ssh_end_machine.specs.declared.asking.outcome.AskStep.{AskStep}
use Rattle.ssh_end_machine.specs.declared.asking.outcome.Fault.{Fault}
use Rattle.ssh_end_machine.specs.declared.asking.outcome.Fault.TheVariants as fault
use Rattle.divrelca_c.specs.declared.embedded.ask_form.FormFault.{FormFault}
use Rattle.divrelca_c.specs.declared.embedded.ask_form.FormFault.TheVariants as form_fault
use Rattle.divrelca_c.specs.declared.embedded.making.MakeRefusal.{MakeRefusal}
use Rattle.divrelca_c.specs.declared.embedded.making.MakeRefusal.TheVariants as make_refusal
use Rattle.divrelca_c.specs.declared.embedded.server.UserRefusal.{UserRefusal}
use Rattle.divrelca_c.specs.declared.embedded.server.UserRefusal.TheVariants as user_refusal
use Rattle.divrelca_c.specs.declared.embedded.signing.SignatureLack.{SignatureLack}
use Rattle.divrelca_c.specs.declared.embedded.signing.SignatureLack.TheVariants as lack
use Rattle.ssh_config.specs.Errors.{refusal_number}
use Rattle.ssh_held.specs.declared.known_signature.SignatureRefusal.{SignatureRefusal}
use Rattle.ssh_held.specs.declared.known_signature.SignatureRefusal.TheVariants as signature_refusal
use Rattle.ssh_held.specs.declared.login_text.TextRefusal.{TextRefusal}
use Rattle.ssh_held.specs.declared.login_text.TextRefusal.TheVariants as text_refusal
use Rattle.ssh_held.specs.declared.taken.Taken.{Taken}
use Rattle.ssh_held.specs.declared.taken.Taken.TheVariants as taken
use Rattle.ssh_types.specs.declared.call_error.CallError.{CallError}
use Rattle.ssh_types.specs.declared.call_error.CallError.TheVariants as call
use Rattle.divrelca.specs.declared.key_files.fault.Expected.{Expected}
use Rattle.divrelca.specs.declared.key_files.fault.Expected.TheVariants as expected
use Rattle.divrelca.specs.declared.key_files.fault.FileFault.{FileFault}
use Rattle.divrelca.specs.declared.key_files.fault.FileFault.TheVariants as file_fault

-- A refused ask is its own number; -1 where memory was refused, and -2 where the end was over.
abbrev pub code_of : Fault → ℤ
code_of fault.Memory = negsuc 0
code_of fault.Dead = negsuc 1
code_of (fault.Ask why) = pos (ask_refusal_number why)

-- Bytes that are taken are refused by no ask.
abbrev pub taken_code : Fault → ℤ
taken_code fault.Memory = negsuc 0
taken_code _ = negsuc 1

-- how many bytes are used
abbrev pub count_in : Result ℕ Fault → ℕ
count_in (Ok count) = count
count_in (Err why) = 0

-- what is answered for bytes that may be held back, and how many of them are used
abbrev pub code_held : Result Taken Fault → ℤ
code_held (Ok taken.Wanted) = pos 310
code_held (Ok (taken.Used used)) = pos 0
code_held (Err why) = taken_code why

abbrev pub count_held : Result Taken Fault → ℕ
count_held (Ok (taken.Used used)) = used
count_held _ = 0

-- what is answered where the program says something: whether something was wanted, or that memory was refused
abbrev pub answered_code : {E : Type 0} → Result Bool E → ℤ
answered_code (Ok true) = pos 0
answered_code (Ok false) = pos 311
answered_code (Err why) = negsuc 0

-- what is answered for data, of which so many bytes are sent
abbrev pub code_sent : Result ℕ Fault → ℤ
code_sent (Ok count) = pos 0
code_sent (Err why) = code_of why

-- whether memory was refused
abbrev pub memory_code : (refused : Bool) → ℤ
memory_code false = pos 0
memory_code true = negsuc 0

-- An end that has no number left is over.
abbrev pub code_done : Option Refusal → ℤ
code_done None = pos 0
code_done (Some why) = negsuc 1

-- what an ask is answered
abbrev pub code_asked : Result AskStep Fault → ℤ
code_asked (Ok step) = code_done step.refused
code_asked (Err why) = code_of why

-- what is answered where a form is no ask
abbrev pub form_code : FormFault → ℤ
form_code form_fault.Kind = pos 306
form_code form_fault.Key = pos 307

-- what is answered where no end is made, or no user
abbrev pub made_code : CallError MakeRefusal → ℤ
made_code call.Memory = negsuc 0
made_code (call.Refused (make_refusal.Settings why)) = pos (100 + refusal_number why)
made_code (call.Refused make_refusal.Key) = pos 302
made_code (call.Refused make_refusal.Login) = pos 303

-- what is answered where a user is not set
abbrev pub user_code : CallError UserRefusal → ℤ
user_code call.Memory = negsuc 0
user_code (call.Refused user_refusal.Over) = negsuc 1
user_code (call.Refused user_refusal.Name) = pos 303
user_code (call.Refused user_refusal.Known) = pos 309

-- what is answered where there is no text to sign: the numbers of the ask refusals NotYet and TooLong
abbrev pub text_code : TextRefusal → ℤ
text_code text_refusal.NotYet = pos 1
text_code text_refusal.TooLong = pos 5

-- what is answered where a login by a key has no signature
abbrev pub lack_code : SignatureLack → ℤ
lack_code (lack.Text why) = text_code why
lack_code lack.Unknown = pos 313

-- what is answered where a signature is not set
abbrev pub signature_code : CallError SignatureRefusal → ℤ
signature_code call.Memory = negsuc 0
signature_code (call.Refused signature_refusal.Over) = negsuc 1
signature_code (call.Refused (signature_refusal.Text why)) = text_code why
signature_code (call.Refused signature_refusal.Size) = pos 314
signature_code (call.Refused signature_refusal.Known) = pos 315

-- what was expected in a file
abbrev pub file_code : Expected → ℤ
file_code expected.Begin = pos 201
file_code expected.End = pos 202
file_code expected.Base64 = pos 203
file_code expected.Format = pos 204
file_code expected.Unencrypted = pos 205
file_code expected.Ed25519 = pos 206
file_code expected.Pair = pos 207
file_code expected.Key = pos 208
file_code expected.Host = pos 209
file_code expected.Mark = pos 210
file_code expected.HashedHost = pos 211
file_code expected.AuthorizedKey = pos 212
file_code expected.AnyHostKey = pos 213
file_code expected.OneHostKey = pos 214
file_code expected.Unrevoked = pos 215
file_code expected.AnyKey = pos 216
file_code expected.Password = pos 217

-- what a file that is not what it has to be is answered
abbrev pub fault_code : FileFault → ℤ
fault_code (file_fault.Line number expected) = file_code expected
fault_code (file_fault.File expected) = file_code expected

-- the line that is named with it, 0 where that is the file as a whole
abbrev pub fault_line : FileFault → ℕ
fault_line (file_fault.Line number expected) = number
fault_line (file_fault.File expected) = 0

-- what is answered where a file is not read, -1 where memory was refused, and the line that is named with it
abbrev pub unread_code : CallError FileFault → ℤ
unread_code (call.Refused why) = fault_code why
unread_code call.Memory = negsuc 0

abbrev pub unread_line : CallError FileFault → ℕ
unread_line (call.Refused why) = fault_line why
unread_line call.Memory = 0
