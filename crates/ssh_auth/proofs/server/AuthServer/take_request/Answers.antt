use Rattle.std.proofs.Common.{refl, ap, ◌∙◌, subst, ◌<◌}
use Rattle.ssh_auth.proofs.Servers.{ignored, judged}
use Rattle.ssh_auth.specs.Serving.{Server, settled}
use Rattle.ssh_auth.proofs.server.AuthServer.take_request.Goals as goal

pub returns-then-is_authenticated-clause-answered : goal.returns-then-is_authenticated-clause-answered
returns-then-is_authenticated-clause-answered g c = ignored _ _ _ _ _ _ _ c.requires.opened c.is_authenticated.ensures c.if-is_authenticated.true

pub returns-clause-answered : goal.returns-clause-answered
returns-clause-answered g c =
    judged _ _ _ _ _ _ _ _ _ _ c.requires.opened c.is_authenticated.ensures c.if-is_authenticated.false refl c.in_ok-answer.ensures.judged
    (λ failed. subst (λ (s : Server). s.kept.failures < s.tries) c.in_ok-answer.ensures.kept (c.in_ok-settle.ensures.counted failed))
    (c.in_ok-settle.ensures.settled ∙ ap (λ (s : Server). settled s c.in_ok-answer.answer) c.in_ok-answer.ensures.kept)
