use Rattle.std.proofs.Common.{◌≡◌, Some, refl, subst, true}
use Rattle.ssh_model.specs.Laws.Verdicts.{judged_by}
use Rattle.ssh_model.specs.Protocol.KeyExchange.Exchanges.{exchanges, session_id}
use Rattle.ssh_model.specs.declared.side.Side.TheVariants.{Server}
use Rattle.ssh_held.specs.Book.{IsSignedByVerdict, judge_by, said}
use Rattle.ssh_held.proofs.Books.{granted, signed}
use Rattle.ssh_held.proofs.laws.accepted_by_verdict.Goals as goal

pub returns : goal.returns
returns g c = λ p signatures verdicts h lawful run user by told.
    let guarded = c.against_any_peer.ensures (judged_by (judge_by signatures verdicts) p) lawful _ h run in
    let it = (guarded.users refl).told user by told in
    record {
      request = it.request;
      user_is = it.user_is;
      credential_is = it.credential_is;
      granted = subst (λ u. said verdicts u it.request.method ≡ Some true) it.user_is
          (granted p signatures verdicts _ _ _ _ it.request.shown);
      signed = subst (λ u. IsSignedByVerdict signatures.knows verdicts
          (session_id (exchanges (judged_by (judge_by signatures verdicts) p) Server it.request.before)) u it.request.method) it.user_is
          (signed (judge_by signatures verdicts) signatures verdicts p.server.methods _ it.request.user it.request.service it.request.method
          (λ algorithm key text signature. refl) it.request.accepted);
    }
