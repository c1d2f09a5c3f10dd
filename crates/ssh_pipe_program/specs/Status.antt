-- Exit statuses.
use Rattle.std.specs.Prelude.{ℕ}
use Rattle.ssh_pipe_program.specs.declared.status.Status.TheVariants.{Done, Refused, Fault, Command, Failed}
use Rattle.ssh_pipe_program.specs.declared.status.Status.{Status}

-- The exit status of the program.
abbrev pub code_of : Status → ℕ
code_of Done = 0
code_of Refused = 1
code_of Fault = 2
code_of (Command status) = status
code_of Failed = 255
