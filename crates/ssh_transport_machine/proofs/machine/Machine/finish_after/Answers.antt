use Rattle.ssh_transport_machine.specs.PaddingLaws.{pads_then}
use Rattle.ssh_transport_machine.proofs.Cutting.{roll_back}
use Rattle.ssh_transport_machine.proofs.Finishing.{following, due_following}
use Rattle.ssh_transport_machine.proofs.machine.Machine.finish_after.Goals as goal

pub finish-requires-clause-due : goal.finish-requires-clause-due
finish-requires-clause-due g c = due_following _ _ _ c.in_ok-put.ensures.after c.requires.due

pub returns-in-Err-clause-kept : goal.returns-in-Err-clause-kept
returns-in-Err-clause-kept g c = roll_back _ _ _ c.truncate-in-Err.ensures.items c.as_slice-payloads.ensures.value c.in-Err.ensures.kept c.in_ok-put.ensures.puts.lists

pub returns-clause-finishes : goal.returns-clause-finishes
returns-clause-finishes g c message encoded =
    following _ _ _ message _ _ _ _ _ _ _ _ _ c.in_ok-put.ensures.puts c.in_ok-put.ensures.after encoded c.in_default.ensures.finishes

pub returns-clause-after : goal.returns-clause-after
returns-clause-after g c = rw c.in_ok-put.ensures.after at c.in_default.ensures.after

pub returns-clause-padded : goal.returns-clause-padded
returns-clause-padded g c = pads_then c.in_ok-put.ensures.padded c.in_default.ensures.padded
