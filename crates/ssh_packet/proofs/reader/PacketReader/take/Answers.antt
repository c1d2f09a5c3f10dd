use Rattle.std.proofs.Common.{◌+◌, ◌++◌, length, take, ap, ◌∙◌, arith}
use Rattle.ssh_model.specs.Protocol.Wire.Sealing.{IsBadLength, IsWhole}
use Rattle.ssh_model.specs.Laws.Units.{IsPartial}
use Rattle.ssh_packet.specs.Reading.{Reading}
use Rattle.ssh_packet.proofs.Readings.{holds_rest}
use Rattle.ssh_packet.proofs.Receiving.{Begun, bad_field, bad_progress, goes_on, size_progress, joined, whole}
use Rattle.ssh_packet.proofs.reader.PacketReader.take.Goals as goal

pub returns-in_default-size-clause-progress : goal.returns-in_default-size-clause-progress
returns-in_default-size-clause-progress g c = λ _.
    let rest = ap (λ (r : Reading). r.rest) c.fill-front.ensures.after in
    let begun : Begun c.blocks_of-blocks.result c.tag_of-tag.result c.fill-front.result c.args.self.now.rest c.args.bytes.now = record {
      buffered = rw (c.blocks_of-blocks.ensures.value, c.tag_of-tag.ensures.value) c.requires.buffered;
      used = c.fill-front.ensures.used;
      from = omega (arith, c.if-held-lt-LENGTH_FIELD.false, c.held.ensures, ap length rest);
    } in
    bad_progress c.blocks_of-blocks.result c.tag_of-tag.result c.fill-front.result c.args.self.now.rest c.args.bytes.now c.fill-front.new.self.rest begun rest c.in_default-size.ensures.other

pub returns-in_default-size-clause-found : goal.returns-in_default-size-clause-found
returns-in_default-size-clause-found g c = λ _.
    let rest = ap (λ (r : Reading). r.rest) c.fill-front.ensures.after in
    let begun : Begun c.blocks_of-blocks.result c.tag_of-tag.result c.fill-front.result c.args.self.now.rest c.args.bytes.now = record {
      buffered = rw (c.blocks_of-blocks.ensures.value, c.tag_of-tag.ensures.value) c.requires.buffered;
      used = c.fill-front.ensures.used;
      from = omega (arith, c.if-held-lt-LENGTH_FIELD.false, c.held.ensures, ap length rest);
    } in
    let bad : IsBadLength c.blocks_of-blocks.result c.tag_of-tag.result c.fill-front.new.self.rest =
    c.in_default-size.ensures.none (bad_field c.blocks_of-blocks.result c.tag_of-tag.result c.fill-front.result c.args.self.now.rest c.args.bytes.now c.fill-front.new.self.rest begun rest c.in_default-size.ensures.other) in
    rw c.refuse.ensures.step (rw (c.blocks_of-blocks.ensures.value, c.tag_of-tag.ensures.value, rest) at bad, c.refuse.ensures.after)

pub returns-then-held-size-clause-found : goal.returns-then-held-size-clause-found
returns-then-held-size-clause-found g c = λ live.
    let first = ap (λ (r : Reading). r.rest) c.fill-front.ensures.after in
    let second = ap (λ (r : Reading). r.rest) c.fill-back.ensures.after in
    let all = joined c.fill-front.result c.fill-back.result c.args.self.now.rest c.args.bytes.now c.fill-front.new.self.rest c.split_at.result.1.now c.fill-back.new.self.rest first c.split_at.ensures.back second in
    let partial : IsPartial c.blocks_of-blocks.result c.tag_of-tag.result c.fill-back.new.self.rest =
    goes_on c.blocks_of-blocks.result c.tag_of-tag.result c.in-Some-size.size c.fill-back.result c.fill-front.new.self.rest c.split_at.result.1.now c.fill-back.new.self.rest c.in-Some-size.ensures.size second (omega (arith, c.if-held-size.true, c.held-2.ensures)) in
    let payload = ap (λ (r : Reading). r.payload) c.fill-back.ensures.after in
    let refused = ap (λ (r : Reading). r.refused) c.fill-back.ensures.after ∙ ap (λ (r : Reading). r.refused) c.fill-front.ensures.after ∙ live in
    (rw (c.blocks_of-blocks.ensures.value, c.tag_of-tag.ensures.value, all) at partial, holds_rest c.fill-back.new.self (c.args.self.now.rest ++ take (c.fill-front.result + c.fill-back.result) c.args.bytes.now) all payload refused)

pub returns-then-held-size-clause-buffered : goal.returns-then-held-size-clause-buffered
returns-then-held-size-clause-buffered g c =
    let second = ap (λ (r : Reading). r.rest) c.fill-back.ensures.after in
    let partial : IsPartial c.blocks_of-blocks.result c.tag_of-tag.result c.fill-back.new.self.rest =
    goes_on c.blocks_of-blocks.result c.tag_of-tag.result c.in-Some-size.size c.fill-back.result c.fill-front.new.self.rest c.split_at.result.1.now c.fill-back.new.self.rest c.in-Some-size.ensures.size second (omega (arith, c.if-held-size.true, c.held-2.ensures)) in
    (rw (c.blocks_of-blocks.ensures.value, c.tag_of-tag.ensures.value) at partial)

pub judge-requires-clause-whole : goal.judge-requires-clause-whole
judge-requires-clause-whole g c =
    let rest = ap (λ (r : Reading). r.rest) c.fill-front.ensures.after in
    let begun : Begun c.blocks_of-blocks.result c.tag_of-tag.result c.fill-front.result c.args.self.now.rest c.args.bytes.now = record {
      buffered = rw (c.blocks_of-blocks.ensures.value, c.tag_of-tag.ensures.value) c.requires.buffered;
      used = c.fill-front.ensures.used;
      from = omega (arith, c.if-held-lt-LENGTH_FIELD.false, c.held.ensures, ap length rest);
    } in
    let found : IsWhole c.blocks_of-blocks.result c.tag_of-tag.result c.fill-back.new.self.rest =
    whole c.blocks_of-blocks.result c.tag_of-tag.result c.fill-front.result c.fill-back.result c.in-Some-size.size c.args.self.now.rest c.args.bytes.now c.fill-front.new.self.rest c.split_at.result.1.now c.fill-back.new.self.rest
    c.one_form.ensures.uint32 begun rest c.in-Some-size.ensures.size c.fill-back.ensures.used (ap (λ (r : Reading). r.rest) c.fill-back.ensures.after) (omega (arith, c.if-held-size.false, c.held-2.ensures)) in
    (rw c.blocks_of-blocks.ensures.value at found)

pub returns-clause-progress : goal.returns-clause-progress
returns-clause-progress g c = λ _.
    let rest = ap (λ (r : Reading). r.rest) c.fill-front.ensures.after in
    let begun : Begun c.blocks_of-blocks.result c.tag_of-tag.result c.fill-front.result c.args.self.now.rest c.args.bytes.now = record {
      buffered = rw (c.blocks_of-blocks.ensures.value, c.tag_of-tag.ensures.value) c.requires.buffered;
      used = c.fill-front.ensures.used;
      from = omega (arith, c.if-held-lt-LENGTH_FIELD.false, c.held.ensures, ap length rest);
    } in
    size_progress c.blocks_of-blocks.result c.tag_of-tag.result c.fill-front.result c.fill-back.result c.in-Some-size.size c.args.self.now.rest c.args.bytes.now c.fill-front.new.self.rest c.split_at.result.1.now
    c.one_form.ensures.uint32 begun rest c.in-Some-size.ensures.size c.split_at.ensures.back c.fill-back.ensures.used

pub returns-clause-found : goal.returns-clause-found
returns-clause-found g c = λ _.
    let first = ap (λ (r : Reading). r.rest) c.fill-front.ensures.after in
    let second = ap (λ (r : Reading). r.rest) c.fill-back.ensures.after in
    let all = joined c.fill-front.result c.fill-back.result c.args.self.now.rest c.args.bytes.now c.fill-front.new.self.rest c.split_at.result.1.now c.fill-back.new.self.rest first c.split_at.ensures.back second in
    (rw all at c.judge.ensures.found)
