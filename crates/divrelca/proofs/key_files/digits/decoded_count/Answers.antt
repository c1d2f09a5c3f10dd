use Rattle.std.proofs.Common.{length}
use Rattle.divrelca.proofs.Decoding.{not_decoded, not_taken, taken}
use Rattle.divrelca.proofs.key_files.digits.decoded_count.Goals as goal

pub returns-in-Ok-clause-all : goal.returns-in-Ok-clause-all
returns-in-Ok-clause-all c = taken c.args.digits.now c.args.out.now c.decode_slice.new.output c.in-Ok.count c.in-Ok.ensures.value c.in-Ok.ensures.written

pub returns-in-Ok-clause-fewer : goal.returns-in-Ok-clause-fewer
returns-in-Ok-clause-fewer c = not_taken c.args.digits.now c.args.out.now c.in-Ok.count c.in-Ok.ensures.value

pub returns-in-Err-clause-none : goal.returns-in-Err-clause-none
returns-in-Err-clause-none c = not_decoded c.args.digits.now (length c.args.out.now) c.in-Err.field-0 c.in-Err.ensures.value
