use Rattle.std.proofs.Common.{ap, sym, ◌∙◌}
use Rattle.divrelca.specs.Parts.AesGcm.{aes_gcm}
use Rattle.divrelca_c.proofs.OfEmbedded.Asked.{set_stands}
use Rattle.divrelca_c.proofs.OfEmbedded.Deciding.{entries_settled}
use Rattle.divrelca_c.proofs.embedded.server.Server.set_user.Goals as goal

pub returns-clause-stands : goal.returns-clause-stands
returns-clause-stands c = set_stands c.users_exchanged.ensures c.args.self.now.noted c.args.name.now (sym c.has.ensures ∙ c.if-has.false)
    c.args.self.now.end.role.own.judge c.extend.new.self.end.role.own.judge c.args.users.list.items (sym c.are_of.ensures ∙ c.if-not-are_of.false)
    c.in_ok-extend.ensures.set c.extend.ensures.book aes_gcm c.args.self.now.end.machine _ c.args.self.now.end.layers _
    (sym c.is_over.ensures ∙ c.if-is_over.false) (ap (λ e. e.machine) c.extend.ensures.rest) (ap (λ e. e.layers) c.extend.ensures.rest)

pub returns-clause-settled : goal.returns-clause-settled
returns-clause-settled c = λ history settled. entries_settled c.args.self.now.end.role.own.judge c.extend.new.self.end.role.own.judge c.args.users.list.items
    c.in_ok-extend.ensures.set c.extend.ensures.book history settled
