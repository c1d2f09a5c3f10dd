use Rattle.ssh_types.proofs.Unsigned.{reads_unsigned}
use Rattle.ssh_types.proofs.reader.Reader.u64.Goals as goal

pub returns-clause-found : goal.returns-clause-found
returns-clause-found c =
    let found = c.in_ok-bytes.ensures.found in
    reads_unsigned 8 c.read_u64.result c.in_ok-bytes.bytes.now c.args.self.now c.take.new.self c.are_bytes.ensures found.0 found.1 c.read_u64.ensures
