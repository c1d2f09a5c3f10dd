use Rattle.std.proofs.Common.{ap, sym, refl}
use Rattle.ssh_transport_machine.specs.Padding.{sending_by}
use Rattle.ssh_transport_machine.specs.PaddingLaws.{pads_none}
use Rattle.ssh_transport.specs.Units.{Did.more}
use Rattle.ssh_transport.proofs.Packets.{act_init, act_init_lacked, act_kexinit, act_kexinit_lacked, act_reply, act_reply_lacked, init_ready, reply_ready, shown_as}
use Rattle.ssh_transport.proofs.Replying.{kexinit_pair}
use Rattle.ssh_transport.proofs.packet.dispatch.Goals as goal

pub answer_kexinit-requires-clause-side : goal.answer_kexinit-requires-clause-side
answer_kexinit-requires-clause-side g c = (shown_as _ _ c.args.classified c.in-Kexinit.is tt c.requires).stands.side_is

pub answer_kexinit-requires-clause-pair : goal.answer_kexinit-requires-clause-pair
answer_kexinit-requires-clause-pair g c = kexinit_pair _ _ _ _ refl (shown_as _ _ c.args.classified c.in-Kexinit.is tt c.requires).payload_is

pub begin_epoch-requires-clause-live : goal.begin_epoch-requires-clause-live
begin_epoch-requires-clause-live g c = (shown_as _ _ c.args.classified c.in-NewKeys.is tt c.requires).stands.live

pub begin_epoch-requires-clause-taken : goal.begin_epoch-requires-clause-taken
begin_epoch-requires-clause-taken g c = (shown_as _ _ c.args.classified c.in-NewKeys.is tt c.requires).count

pub begin_epoch-requires-clause-shown : goal.begin_epoch-requires-clause-shown
begin_epoch-requires-clause-shown g c = (shown_as _ _ c.args.classified c.in-NewKeys.is tt c.requires).payload_is

pub finish_exchange-requires : goal.finish_exchange-requires
finish_exchange-requires g c = init_ready c.args.machine.now _ (shown_as _ _ c.args.classified c.in-EcdhInit.is tt c.requires)

pub finish_exchange-requires-in-Reply : goal.finish_exchange-requires-in-Reply
finish_exchange-requires-in-Reply g c = reply_ready c.args.machine.now _ (shown_as _ _ c.args.classified c.in-Reply.is tt c.requires)

pub returns-in-More-clause-did : goal.returns-in-More-clause-did
returns-in-More-clause-did g c = more c.in-More.is (record { told = refl; becomes = record { after = refl; quiet = record { out = refl; sent = refl } } })

pub returns-in-More-clause-padded : goal.returns-in-More-clause-padded
returns-in-More-clause-padded g c = pads_none refl

pub returns-in-Kexinit-clause-did : goal.returns-in-Kexinit-clause-did
returns-in-Kexinit-clause-did g c = act_kexinit _ _ c.args.machine.now c.answer_kexinit.new.machine _ c.args.classified c.requires c.answer_kexinit.result _ c.in-Kexinit.facts c.in-Kexinit.is c.answer_kexinit.ensures.does

pub returns-in-Kexinit-clause-needs_memory : goal.returns-in-Kexinit-clause-needs_memory
returns-in-Kexinit-clause-needs_memory g c = act_kexinit_lacked _ _ c.args.machine.now c.answer_kexinit.new.machine _ c.args.classified c.requires c.answer_kexinit.result _ c.in-Kexinit.facts c.in-Kexinit.is c.answer_kexinit.ensures.needs_memory

pub returns-in-EcdhInit-clause-did : goal.returns-in-EcdhInit-clause-did
returns-in-EcdhInit-clause-did g c = act_init _ _ c.args.machine.now c.finish_exchange.new.machine _ c.args.classified c.requires c.finish_exchange.result _ c.in-EcdhInit.is c.finish_exchange.ensures.does

pub returns-in-EcdhInit-clause-needs_memory : goal.returns-in-EcdhInit-clause-needs_memory
returns-in-EcdhInit-clause-needs_memory g c = act_init_lacked _ _ c.args.machine.now c.finish_exchange.new.machine _ c.args.classified c.requires c.finish_exchange.result _ c.in-EcdhInit.is c.finish_exchange.ensures.needs_memory

pub returns-in-Reply-clause-did : goal.returns-in-Reply-clause-did
returns-in-Reply-clause-did g c = act_reply _ _ c.args.machine.now c.finish_exchange-in-Reply.new.machine _ c.args.classified c.requires c.finish_exchange-in-Reply.result _ c.in-Reply.is c.finish_exchange-in-Reply.ensures.does

pub returns-in-Reply-clause-needs_memory : goal.returns-in-Reply-clause-needs_memory
returns-in-Reply-clause-needs_memory g c = act_reply_lacked _ _ c.args.machine.now c.finish_exchange-in-Reply.new.machine _ c.args.classified c.requires c.finish_exchange-in-Reply.result _ c.in-Reply.is c.finish_exchange-in-Reply.ensures.needs_memory

pub returns-in-Skipped-clause-padded : goal.returns-in-Skipped-clause-padded
returns-in-Skipped-clause-padded g c = pads_none (sym (ap (λ t. sending_by t c.args.sent.now c.args.out.now) c.skip_guessed.ensures))

pub returns-in-Disconnected-clause-padded : goal.returns-in-Disconnected-clause-padded
returns-in-Disconnected-clause-padded g c = pads_none (sym (ap (λ t. sending_by t c.args.sent.now c.args.out.now) c.die.ensures))

pub returns-in-ServiceAccepted-clause-padded : goal.returns-in-ServiceAccepted-clause-padded
returns-in-ServiceAccepted-clause-padded g c = pads_none (sym (ap (λ t. sending_by t c.args.sent.now c.args.out.now) c.mark_service_accepted.ensures))

pub returns-in-NewKeys-clause-padded : goal.returns-in-NewKeys-clause-padded
returns-in-NewKeys-clause-padded g c = pads_none (sym (ap (λ t. sending_by t c.args.sent.now c.args.out.now) c.begin_epoch.ensures.after))

pub returns-in-Told-clause-padded : goal.returns-in-Told-clause-padded
returns-in-Told-clause-padded g c = pads_none refl

pub returns-in-Above-clause-padded : goal.returns-in-Above-clause-padded
returns-in-Above-clause-padded g c = pads_none refl
