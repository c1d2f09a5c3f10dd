use Rattle.std.proofs.Common.{ap, true, None}
use Rattle.ssh_model.specs.State.Authentication.Kept.{Client}
use Rattle.ssh_auth.proofs.Clients.{banner_row, failure_row, key_row, success_row, taken}
use Rattle.ssh_auth.proofs.client.AuthClient.take.Goals as goal

pub returns-in-UserauthSuccess-clause-answered : goal.returns-in-UserauthSuccess-clause-answered
returns-in-UserauthSuccess-clause-answered c =
    success_row _ _ _ _ c.let_in.ensures.answered c.in-UserauthSuccess.is c.let_in.ensures.new
    (taken _ c.args.message.now _ _ c.number.ensures c.may_take.ensures c.if-not-may_take.false)

pub returns-in-UserauthBanner-clause-answered : goal.returns-in-UserauthBanner-clause-answered
returns-in-UserauthBanner-clause-answered c =
    banner_row _ _ _ _ c.in-UserauthBanner.is (taken _ c.args.message.now _ _ c.number.ensures c.may_take.ensures c.if-not-may_take.false)

pub returns-in-UserauthFailure-clause-answered : goal.returns-in-UserauthFailure-clause-answered
returns-in-UserauthFailure-clause-answered c =
    failure_row _ _ _ _ _ c.in-UserauthFailure.is (ap (λ (s : Client). record s { outstanding = None }) c.self.view_is)
    (taken _ c.args.message.now _ _ c.number.ensures c.may_take.ensures c.if-not-may_take.false)

pub returns-in-UserauthPkOk-clause-answered : goal.returns-in-UserauthPkOk-clause-answered
returns-in-UserauthPkOk-clause-answered c =
    key_row _ _ _ _ _ c.in-UserauthPkOk.is (ap (λ (s : Client). record s { outstanding = None }) c.self.view_is)
    (taken _ c.args.message.now _ _ c.number.ensures c.may_take.ensures c.if-not-may_take.false)
