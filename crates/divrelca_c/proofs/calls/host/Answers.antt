use Rattle.std.proofs.Common.{ℕ, List, Option, ap, subst, sym, ◌∙◌}
use Rattle.ssh_held.specs.Hosts.{Signed, signed_by}
use Rattle.ssh_transport_machine.specs.Peeking.{AwaitsHost}
use Rattle.divrelca_c.specs.Wanted.{Shown, host_shown}
use Rattle.divrelca_c.proofs.Answering.{algorithm_shown}
use Rattle.divrelca_c.proofs.calls.host.Goals as goal

pub returns-in-Some-clause-host : goal.returns-in-Some-clause-host
returns-in-Some-clause-host c = λ asked.
    let reads = c.in-Some.ensures.reads asked in
    let host = c.in-Some.host in
    let named = sym (ap (λ (s : Shown). s.algorithm) c.wanted_host.ensures ∙ algorithm_shown host.algorithm.now host.key.now (signed_by host)) in
    record {
      host = λ alive phase key point signature x.
          let found = reads.found key point signature x alive phase in
          c.wanted_host.ensures
          ∙ ap (λ (a : List ℕ). host_shown a host.key.now (signed_by host)) named
          ∙ ap (λ (k : List ℕ). host_shown c.wanted_host.result.algorithm.now k (signed_by host)) found.0
          ∙ ap (λ (o : Option Signed). host_shown c.wanted_host.result.algorithm.now key o) found.1;
      awaited = λ kind. subst (λ (a : List ℕ). AwaitsHost c.args.client.now.end.machine.kept a) named reads.awaited;
      signed = λ kind. subst (λ (a : List ℕ). AwaitsHost c.args.client.now.end.machine.kept a) named reads.awaited;
    }

pub returns-in-None-clause-host : goal.returns-in-None-clause-host
returns-in-None-clause-host c = λ asked. record {
  host = λ alive phase key point signature x. absurd ((c.in-None.ensures.reads asked).found key point signature x alive phase);
  awaited = λ kind. absurd (cc (ap (λ (s : Shown). s.kind) c.nothing_wanted.ensures, kind));
  signed = λ kind. absurd (cc (ap (λ (s : Shown). s.kind) c.nothing_wanted.ensures, kind));
}
