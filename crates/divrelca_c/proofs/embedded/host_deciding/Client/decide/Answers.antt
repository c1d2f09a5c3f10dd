use Rattle.std.proofs.Common.{[], ◌∷◌, ap, rules, subst, sym, ◌∙◌}
use Rattle.ssh_end_machine.specs.Supplying.{ClientStandsAt}
use Rattle.divrelca.specs.Parts.AesGcm.{aes_gcm}
use Rattle.divrelca_c.specs.Embedded.Deciding.{AsksHost}
use Rattle.divrelca_c.specs.Embedded.Hosts.{trusts_of}
use Rattle.divrelca_c.proofs.OfEmbedded.Trusting.{answered_trusting}
use Rattle.divrelca_c.proofs.embedded.host_deciding.Client.decide.Goals as goal

pub returns-clause-answered : goal.returns-clause-answered
returns-clause-answered c = λ _.
    let asks : AsksHost c.args.self.now c.in-Some.asked = search rules in
    record {
      asked = c.in-Some.asked;
      asks = asks;
      added = ap (λ s. s.end.role.exchange.host_trust.book.list.items) c.shut.ensures.same ∙ c.in_ok-say.ensures.said;
      shut = c.shut.ensures.shut;
    }

pub returns-clause-stands : goal.returns-clause-stands
returns-clause-stands c = λ _ p agreement signature history place.
    let asks : AsksHost c.args.self.now c.in-Some.asked = search rules in
    let old = c.args.self.now in let new = c.shut.new.self in
    let moved = ap (λ s. s.end) c.shut.ensures.same ∙ c.say.ensures.rest in
    let trusts = trusts_of new.end.role.exchange.host_trust in
    subst (λ m. ClientStandsAt (record p { trusts = trusts }) aes_gcm agreement trusts signature history m new.end.layers)
    (sym (ap (λ e. e.machine) moved))
    (subst (λ l. ClientStandsAt (record p { trusts = trusts }) aes_gcm agreement trusts signature history old.end.machine l)
    (sym (ap (λ e. e.layers) moved))
    (answered_trusting c.parts_exchanged.ensures.host_trust c.trust_widened.ensures c.hosts_added.ensures old.end.role.exchange.host_trust
    new.end.role.exchange.host_trust (record { asked = c.in-Some.asked; accepts = c.args.accepts } ∷ [])
    (ap (λ s. s.end.role.exchange.host_trust.book.list.items) c.shut.ensures.same ∙ c.in_ok-say.ensures.said)
    (ap (λ s. s.end.role.exchange.host_trust.keys) c.shut.ensures.same ∙ c.say.ensures.keys) aes_gcm old.end.machine old.end.layers asks.alive p
    agreement signature history place))
