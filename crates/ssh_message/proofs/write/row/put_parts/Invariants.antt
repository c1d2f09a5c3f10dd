use Rattle.std.proofs.Common.{◌≡◌, ◌+◌, ◌≤◌, [], take, length}
use Rattle.std.specs.Prelude.{vec_capacity}
use Rattle.ssh_model.specs.Laws.Reading.{Writes}
use Rattle.ssh_message.specs.Fields.{all_sizes, IsRowOf}
use Rattle.ssh_message.proofs.write.row.put_parts.Given as goal

abbrev pub invariant-loop-field : goal.invariant-loop-field
invariant-loop-field l = record {
  written : Writes (IsRowOf l.number (take l.field-index l.fields) []) l.fn.out.items l.out.items;
  size : length l.out.items ≡ length l.fn.out.items + (1 + all_sizes (take l.field-index l.fields));
  grows : vec_capacity l.fn.out ≤ vec_capacity l.out;
}
