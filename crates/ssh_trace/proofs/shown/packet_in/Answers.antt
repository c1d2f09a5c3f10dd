use Rattle.ssh_trace.proofs.Showing.{begun_all, found_first, refused_front, some_following}
use Rattle.ssh_trace.proofs.shown.packet_in.Goals as goal

pub returns-in-More : goal.returns-in-More
returns-in-More c =
    let found = found_first c.in_ok-reader.reader c.take-used.new.self c.take-used.result.1 c.take-used.result.0 c.args.bytes.now c.in_ok-reader.ensures c.take-used.ensures.found in
    begun_all c.take-used.result.0 c.args.bytes.now c.take-used.new.self (rw c.in-More.is at found) (c.take-used.ensures.more c.in-More.is)

pub returns-in-Refused : goal.returns-in-Refused
returns-in-Refused c =
    let found = found_first c.in_ok-reader.reader c.take-used.new.self c.take-used.result.1 c.take-used.result.0 c.args.bytes.now c.in_ok-reader.ensures c.take-used.ensures.found in
    refused_front c.take-used.result.0 c.args.bytes.now c.in-Refused.refusal c.take-used.new.self (rw c.in-Refused.is at found)

pub returns-then-used-bytes : goal.returns-then-used-bytes
returns-then-used-bytes c =
    let found = found_first c.in_ok-reader.reader c.take-used.new.self c.take-used.result.1 c.take-used.result.0 c.args.bytes.now c.in_ok-reader.ensures c.take-used.ensures.found in
    some_following c.take-used.result.0 c.args.bytes.now c.take-used.new.self (rw c.in-Payload.is at found) c.if-used-bytes.true
