use Rattle.std.proofs.Common.{refl, map, ap, ◌∙◌}
use Rattle.ssh_channels.specs.Values.{reply_of}
use Rattle.ssh_transport_machine.specs.Padding.{PadsTo.none}
use Rattle.ssh_transport_machine.specs.PaddingLaws.{pads_then}
use Rattle.ssh_end_machine.proofs.Owing.{alive_after, all_numbered, kept_after, nothing_given, one_given, one_numbered, rest_after, room_after}
use Rattle.ssh_end_machine.proofs.owed.give_owed.Goals as goal

pub loop-reply-init : goal.loop-reply-init
loop-reply-init g c = record {
  given = nothing_given g.X.Sealing.Sealing.crypto c.args.transport.now.machine.kept c.args.channels.now c.args.out.now.items (map (λ v. v.items) c.args.sent.now.items);
  padded = none;
  numbered = refl;
  rest = refl;
  alive = c.requires.alive;
  room = c.requires.room;
  free = c.requires.free;
  user = record { authenticated = refl; accepted = λ e. e };
  role = refl;
}

pub loop-reply-preserved : goal.loop-reply-preserved
loop-reply-preserved g c =
    let so_far = c.loop-reply.invariant in
    let now = c.loop-reply.transport.machine in
    let next = c.give_reply.new.transport.machine in
    let reply = reply_of c.in-Some.reply in
    let first = c.args.channels.now in
    let before = c.loop-reply.channels in
    let after = c.unblock.new.self in
    let gave = c.in_ok-give_reply.ensures in
    let left = c.in-Some.ensures.given in
    let kept = kept_after now next gave.after in
    record {
      given = one_given g.X.Sealing.Sealing.crypto c.args.transport.now.machine.kept now.kept next.kept first before after reply _ _ _ _ _ _ so_far.given left gave.sends kept;
      padded = pads_then so_far.padded gave.padded;
      numbered = one_numbered first before after reply c.args.numbers.now.items c.loop-reply.numbers.items c.give_reply.new.numbers.items so_far.numbered left gave.numbered;
      rest = rest_after c.args.transport.now.machine now next so_far.rest gave.after;
      alive = alive_after now.kept next.kept kept so_far.alive;
      room = room_after now.kept next.kept reply before after kept left so_far.room;
      free = ap (λ w. w.kept.blocked) gave.after ∙ so_far.free;
      user = record { authenticated = ap (λ w. w.kept.authenticated) gave.after ∙ so_far.user.authenticated; accepted = λ e. ap (λ w. w.kept.accepted) gave.after ∙ so_far.user.accepted e };
      role = c.give_reply.ensures.role ∙ so_far.role;
    }

pub returns-clause-numbered : goal.returns-clause-numbered
returns-clause-numbered g c = all_numbered c.args.channels.now c.loop-reply.channels c.unblock.new.self c.args.numbers.now.items c.loop-reply.numbers.items c.loop-reply.invariant.numbered c.in_default.ensures.given
