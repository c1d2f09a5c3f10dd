use Rattle.ssh_types.specs.Encodings.{byte_encoding, boolean_encoding, uint32_encoding, uint64_encoding, string_encoding, mpint_encoding, names_encoding}
use Rattle.ssh_types.proofs.laws.one_encoding.Goals as goal

pub returns-clause-byte : goal.returns-clause-byte
returns-clause-byte c = byte_encoding

pub returns-clause-boolean : goal.returns-clause-boolean
returns-clause-boolean c = boolean_encoding

pub returns-clause-uint32 : goal.returns-clause-uint32
returns-clause-uint32 c = uint32_encoding

pub returns-clause-uint64 : goal.returns-clause-uint64
returns-clause-uint64 c = uint64_encoding

pub returns-clause-string : goal.returns-clause-string
returns-clause-string c = string_encoding

pub returns-clause-mpint : goal.returns-clause-mpint
returns-clause-mpint c = mpint_encoding

pub returns-clause-names : goal.returns-clause-names
returns-clause-names c = names_encoding
