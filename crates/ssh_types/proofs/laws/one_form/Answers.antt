use Rattle.ssh_model.specs.Laws.Encodings.{one_byte, one_boolean, one_uint32, one_uint64, one_string, one_name_list}
use Rattle.ssh_types.proofs.Mpints.{one_mpint}
use Rattle.ssh_types.proofs.laws.one_form.Goals as goal

pub returns-clause-byte : goal.returns-clause-byte
returns-clause-byte c = one_byte

pub returns-clause-boolean : goal.returns-clause-boolean
returns-clause-boolean c = one_boolean

pub returns-clause-uint32 : goal.returns-clause-uint32
returns-clause-uint32 c = one_uint32

pub returns-clause-uint64 : goal.returns-clause-uint64
returns-clause-uint64 c = one_uint64

pub returns-clause-string : goal.returns-clause-string
returns-clause-string c = one_string

pub returns-clause-mpint : goal.returns-clause-mpint
returns-clause-mpint c = one_mpint

pub returns-clause-names : goal.returns-clause-names
returns-clause-names c = one_name_list
