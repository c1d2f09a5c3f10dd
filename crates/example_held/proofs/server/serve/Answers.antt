use Rattle.std.proofs.Common.{◌+◌, ◌++◌, arith, false, refl, take, true}
use Rattle.ssh_held.specs.Held.{HeldAt, signatures_by}
use Rattle.ssh_held.specs.declared.book.Verdict.{Verdict}
use Rattle.example_held.proofs.Serving.{served_failed, served_nothing, served_on}
use Rattle.example_held.proofs.Turning.{failed_on, said_nothing, said_on, taken_on}
use Rattle.example_held.proofs.server.serve.Goals as goal

pub loop-at-init : goal.loop-at-init
loop-at-init g c = record {
  within = omega arith;
  said = said_nothing (λ old (verdict : Verdict) new. g.L.LookUp.answers old verdict.asked verdict.accepts new)
      c.args.server.now.end.role.own.judge.list.items c.args.server.now.end.role.own.judge.list.items c.args.look_up.now refl;
  going = λ p history at.
      served_nothing g.P.Sealing.Sealing.crypto g.P.Agreement.Agreement.does g.P.HostSigner.HostSigner.keys
      (signatures_by g.S.UserJudge.verdicts g.S.KnowsAlgorithms.knows) p history
      c.accepted_by_verdict.ensures c.args.server.now.end at;
}

pub returns-in_err-served-clause-serves : goal.returns-in_err-served-clause-serves
returns-in_err-served-clause-serves g c = λ p history at.
    let x = c.loop-at.invariant.going p history at in
    served_failed g.P.Sealing.Sealing.crypto g.P.Agreement.Agreement.does g.P.HostSigner.HostSigner.keys
    (signatures_by g.S.UserJudge.verdicts g.S.KnowsAlgorithms.knows) p history
    c.args.server.now.end c.serve_unit.new.server.end c.args.bytes.now c.from_residual.result c.from_residual.ensures.0
    (failed_on (HeldAt g.P.Sealing.Sealing.crypto g.P.Agreement.Agreement.does g.P.HostSigner.HostSigner.keys
    (signatures_by g.S.UserJudge.verdicts g.S.KnowsAlgorithms.knows) p
    c.serve_unit.new.server.end) history x.items (c.in_err-served.ensures.serves p (x.items ++ history) x.place))

pub returns-then-served-clause-said : goal.returns-then-served-clause-said
returns-then-served-clause-said g c =
    said_on (λ old (verdict : Verdict) new. g.L.LookUp.answers old verdict.asked verdict.accepts new)
    c.args.server.now.end.role.own.judge.list.items c.loop-at.server.end.role.own.judge.list.items
    c.serve_unit.new.server.end.role.own.judge.list.items c.args.look_up.now c.loop-at.look_up c.serve_unit.new.look_up
    c.loop-at.invariant.said
    c.in_ok-served.ensures.said

pub returns-then-served-clause-serves : goal.returns-then-served-clause-serves
returns-then-served-clause-serves g c = λ p history at.
    let x = c.loop-at.invariant.going p history at in
    let bytes = c.args.bytes.now in
    served_on g.P.Sealing.Sealing.crypto g.P.Agreement.Agreement.does g.P.HostSigner.HostSigner.keys
    (signatures_by g.S.UserJudge.verdicts g.S.KnowsAlgorithms.knows) p history
    c.args.server.now.end c.loop-at.server.end c.serve_unit.new.server.end (take c.loop-at.at bytes)
    (take c.in_ok-served.served.used c.split_at.result.1.now) (take (c.loop-at.at + c.in_ok-served.served.used) bytes)
    c.in_ok-served.served.is_in true (taken_on c.loop-at.at c.in_ok-served.served.used bytes c.split_at.result.1.now
    c.split_at.ensures.back)
    c.if-served.true x (c.in_ok-served.ensures.serves p (x.items ++ history) x.place)

pub loop-at-preserved : goal.loop-at-preserved
loop-at-preserved g c = record {
  within = omega (arith, c.in_ok-served.ensures.used, c.split_at.ensures.back_len);
  said = said_on (λ old (verdict : Verdict) new. g.L.LookUp.answers old verdict.asked verdict.accepts new)
      c.args.server.now.end.role.own.judge.list.items c.loop-at.server.end.role.own.judge.list.items
      c.serve_unit.new.server.end.role.own.judge.list.items c.args.look_up.now c.loop-at.look_up c.serve_unit.new.look_up
      c.loop-at.invariant.said c.in_ok-served.ensures.said;
  going = λ p history at.
      let x = c.loop-at.invariant.going p history at in
      let bytes = c.args.bytes.now in
      served_on g.P.Sealing.Sealing.crypto g.P.Agreement.Agreement.does g.P.HostSigner.HostSigner.keys
      (signatures_by g.S.UserJudge.verdicts g.S.KnowsAlgorithms.knows) p history
      c.args.server.now.end c.loop-at.server.end c.serve_unit.new.server.end (take c.loop-at.at bytes)
      (take c.in_ok-served.served.used c.split_at.result.1.now) (take (c.loop-at.at + c.in_ok-served.served.used) bytes)
      c.in_ok-served.served.is_in false (taken_on c.loop-at.at c.in_ok-served.served.used bytes c.split_at.result.1.now
      c.split_at.ensures.back)
      c.if-served.false x (c.in_ok-served.ensures.serves p (x.items ++ history) x.place);
}
