use Rattle.std.proofs.Common.{OnOk, subst}
use Rattle.ssh_model.specs.Protocol.Wire.Message as model
use Rattle.ssh_model.specs.Protocol.Wire.Message.{IsWrittenPayload, KexInit}
use Rattle.ssh_model.specs.Laws.Reading.{Writes}
use Rattle.ssh_types.specs.Values.{names}
use Rattle.ssh_config.specs.Meaning.{settings_of}
use Rattle.ssh_transport_machine.specs.Offers.{offer_with}
use Rattle.ssh_transport_machine.proofs.Offers.{short_put}
use Rattle.ssh_transport_machine.proofs.kexinit.put_offer.Goals as goal

pub returns-clause-short : goal.returns-clause-short
returns-clause-short g c =
    let good = c.every_config_is_good.ensures.lists in
    short_put c.encode.result (settings_of c.args.config.now) (names c.args.kex) c.args.cookie.now c.args.out.now.items c.encode.new.out.items good.host good.encryption good.mac c.requires.few
    (subst (λ (p : model.Proposal). OnOk c.encode.result (Writes (IsWrittenPayload (KexInit p)) c.args.out.now.items c.encode.new.out.items))
    {y = offer_with (settings_of c.args.config.now) (names c.args.kex) c.args.cookie.now} c.proposal.ensures.meaning c.encode.ensures.written)
