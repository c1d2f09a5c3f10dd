use Rattle.std.proofs.Common.{ap, map}
use Rattle.ssh_transport_machine.specs.PaddingLaws.{pads_then}
use Rattle.ssh_transport_machine.proofs.Cutting.{roll_back}
use Rattle.ssh_transport_machine.proofs.Sending.{both_answered, noted_after}
use Rattle.ssh_transport_machine.proofs.machine.Machine.reply_with_both.Goals as goal

pub returns-in-Err-clause-kept : goal.returns-in-Err-clause-kept
returns-in-Err-clause-kept g c = roll_back _ _ _ c.truncate-in-Err.ensures.items c.as_slice-payloads.ensures.value (ap (map (λ v. v.items)) c.in-Err.ensures.kept) c.in_ok-send_kexinit.ensures.sends.puts.lists

pub returns-clause-sends : goal.returns-clause-sends
returns-clause-sends g c =
    both_answered _ _ _ _ _ _ _ _ _ _ _ _ _ c.in_ok-send_kexinit.ensures.sends c.in_default.ensures.sends (noted_after _ _ _ c.args.facts c.in_default.ensures.after c.record_kexinit.ensures)

pub returns-clause-padded : goal.returns-clause-padded
returns-clause-padded g c = rw c.record_kexinit.ensures (pads_then c.in_ok-send_kexinit.ensures.padded c.in_default.ensures.padded)
