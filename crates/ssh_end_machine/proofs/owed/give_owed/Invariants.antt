use Rattle.std.proofs.Common.{◌≡◌, ◌+◌, ◌≤◌, ◌^◌, ◌++◌, false, length, map}
use Rattle.ssh_model.specs.State.Channels.Summary.{reply_channel}
use Rattle.ssh_transport_machine.specs.Padding.{PadsTo}
use Rattle.ssh_transport.specs.States.{sending_of}
use Rattle.ssh_transport.specs.Roles.{KeepsUser}
use Rattle.ssh_end_machine.proofs.Owing.{Giving}
use Rattle.ssh_end_machine.proofs.owed.give_owed.Given as goal

abbrev pub invariant-loop-reply : goal.invariant-loop-reply
invariant-loop-reply g l = record {
  given : Giving g.X.Sealing.Sealing.crypto l.fn.transport.machine.kept l.fn.channels l.transport.machine.kept l.channels (record { before = l.fn.out.items; after = l.out.items; payloads_before = map (λ v. v.items) l.fn.sent.items; payloads_after = map (λ v. v.items) l.sent.items });
  padded : PadsTo g.X.Sealing.Sealing.crypto g.X.Filler.Filler.gives (sending_of l.fn.transport l.fn.out l.fn.sent) (sending_of l.transport l.out l.sent);
  numbered : l.numbers.items ++ map reply_channel l.channels.owed ≡ l.fn.numbers.items ++ map reply_channel l.fn.channels.owed;
  rest : l.transport.machine ≡ record l.fn.transport.machine { kept = l.transport.machine.kept };
  alive : l.transport.machine.kept.dead ≡ false;
  room : l.transport.machine.kept.sending.count + length l.channels.owed ≤ 2 ^ 32;
  free : l.transport.machine.kept.blocked ≡ false;
  user : KeepsUser l.fn.transport.machine.kept l.transport.machine.kept;
  role : l.transport.role ≡ l.fn.transport.role;
}

abbrev pub decreases-loop-reply : goal.decreases-loop-reply
decreases-loop-reply g l = length l.channels.owed
