use Rattle.std.proofs.Common.{ap, map}
use Rattle.ssh_transport_machine.specs.PaddingLaws.{pads_then}
use Rattle.ssh_transport_machine.proofs.Cutting.{roll_back}
use Rattle.ssh_transport_machine.proofs.Finishing.{announcing}
use Rattle.ssh_transport_machine.proofs.machine.Machine.finish_announcing.Goals as goal

pub returns-in-Err-clause-kept : goal.returns-in-Err-clause-kept
returns-in-Err-clause-kept g c = roll_back _ _ _ c.truncate-in-Err.ensures.items c.as_slice-payloads.ensures.value (ap (map (λ v. v.items)) c.in-Err.ensures.kept) c.in_ok-finish_silently.ensures.sends.puts.lists

pub returns-clause-finishes : goal.returns-clause-finishes
returns-clause-finishes g c =
    announcing _ _ _ _ _ _ _ _ _ _ _ _ _ c.in_ok-finish_silently.ensures.sends c.in_ok-finish_silently.ensures.after c.requires.due.encoded c.in_default.ensures.puts

pub returns-clause-after : goal.returns-clause-after
returns-clause-after g c = rw c.in_ok-finish_silently.ensures.after at c.in_default.ensures.after

pub returns-clause-padded : goal.returns-clause-padded
returns-clause-padded g c = pads_then c.in_ok-finish_silently.ensures.padded c.in_default.ensures.padded
