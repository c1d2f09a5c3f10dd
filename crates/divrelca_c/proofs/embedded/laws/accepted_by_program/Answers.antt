use Rattle.std.proofs.Common.{◌≡◌, refl, subst, true}
use Rattle.ssh_model.specs.Laws.Verdicts.{judged_by}
use Rattle.ssh_model.specs.Protocol.KeyExchange.Exchanges.{exchanges, session_id}
use Rattle.ssh_model.specs.declared.side.Side.TheVariants.{Server}
use Rattle.ssh_held.specs.Book.{IsSignedByVerdict}
use Rattle.divrelca.specs.Parts.Ed25519.{is_name}
use Rattle.divrelca_c.specs.Embedded.Users.{is_let_in, own_signatures, verdicts_of}
use Rattle.divrelca_c.proofs.OfEmbedded.Deciding.{let_in}
use Rattle.divrelca_c.proofs.embedded.laws.accepted_by_program.Goals as goal

pub returns : goal.returns
returns g c = λ p users h lawful run user by told.
    let guarded = c.against_any_peer.ensures (judged_by (verdicts_of users) p) lawful _ h run in
    let it = (guarded.users refl).told user by told in
    record {
      request = it.request;
      user_is = it.user_is;
      credential_is = it.credential_is;
      let_in = subst (λ u. is_let_in users.book.list.items users.list.items u it.request.method ≡ true) it.user_is
          (let_in p users.book.list.items users.list.items _ _ _ _ it.request.shown);
      signed = subst (λ u. IsSignedByVerdict is_name users.book.list.items
          (session_id (exchanges (judged_by (verdicts_of users) p) Server it.request.before)) u it.request.method) it.user_is
          (c.accepted_is_signed.ensures (verdicts_of users) own_signatures users.book.list.items p.server.methods _ it.request.user
          it.request.service it.request.method (λ algorithm key text signature. refl) it.request.accepted);
    }
