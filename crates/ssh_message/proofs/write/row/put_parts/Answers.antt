use Rattle.std.proofs.Common.{◌≤◌, ◌+◌, arith, take}
use Rattle.ssh_message.specs.Fields.{all_sizes, field_size}
use Rattle.ssh_message.proofs.Writing.{field_fits, grown_after, of_failure, one_more, row_begins, row_ends, row_more, sizes_front, sizes_more}
use Rattle.ssh_message.proofs.write.row.put_parts.Goals as goal

pub put_field-requires : goal.put_field-requires
put_field-requires c = field_fits c.args.fields.now c.loop-field.field-index c.field-item.result c.field-item.is c.loop-field-test.true c.requires

pub loop-field-init : goal.loop-field-init
loop-field-init c =
    let w = c.in_ok-put_u8.ensures.written in
    record { written = row_begins w; size = one_more c.args.number w; grows = c.in_ok-put_u8.ensures.grows }

pub loop-field-preserved : goal.loop-field-preserved
loop-field-preserved c =
    let sizes = sizes_more c.args.fields.now c.loop-field.field-index c.field-item.result c.field-item.is c.loop-field-test.true in
    record {
      written = row_more c.args.fields.now c.loop-field.field-index c.field-item.result c.field-item.is c.loop-field-test.true c.loop-field.invariant.written c.in_ok-put_field.ensures.written;
      size = omega (arith, sizes, c.loop-field.invariant.size, c.in_ok-put_field.ensures.size);
      grows = omega (arith, c.loop-field.invariant.grows, c.in_ok-put_field.ensures.grows);
    }

pub returns-clause-written : goal.returns-clause-written
returns-clause-written c = row_ends c.args.fields.now c.loop-field.field-index c.args.rest.now c.loop-field-test.false c.loop-field.invariant.written c.in_ok-extend_from_slice.ensures.items

pub returns-in_err-put_field-clause-grown : goal.returns-in_err-put_field-clause-grown
returns-in_err-put_field-clause-grown c = of_failure c.from_residual-in_err-put_field.result (grown_after c.loop-field.invariant.written c.in_err-put_field.ensures.kept)

pub returns-in_err-put_field-clause-full : goal.returns-in_err-put_field-clause-full
returns-in_err-put_field-clause-full c =
    let sizes = sizes_more c.args.fields.now c.loop-field.field-index c.field-item.result c.field-item.is c.loop-field-test.true in
    let front = sizes_front (c.loop-field.field-index + 1) c.args.fields.now in
    of_failure c.from_residual-in_err-put_field.result (omega (arith, sizes, front, c.loop-field.invariant.size, c.loop-field.invariant.grows, c.in_err-put_field.ensures.full))

pub returns-in_err-extend_from_slice-clause-full : goal.returns-in_err-extend_from_slice-clause-full
returns-in_err-extend_from_slice-clause-full c =
    let front = sizes_front c.loop-field.field-index c.args.fields.now in
    of_failure c.from_residual-in_err-extend_from_slice.result (omega (arith, front, c.loop-field.invariant.size, c.loop-field.invariant.grows, c.in_err-extend_from_slice.ensures.full))

pub returns-in_err-extend_from_slice-clause-grown : goal.returns-in_err-extend_from_slice-clause-grown
returns-in_err-extend_from_slice-clause-grown c = of_failure c.from_residual-in_err-extend_from_slice.result (grown_after c.loop-field.invariant.written c.in_err-extend_from_slice.ensures.items)
