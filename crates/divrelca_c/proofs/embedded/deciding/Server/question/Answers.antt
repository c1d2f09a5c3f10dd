use Rattle.std.proofs.Common.{◌≡◌, Bool, true, false, ap, refl, rules, sym, ◌∙◌}
use Rattle.ssh_message.specs.Meaning.{method_meaning}
use Rattle.ssh_held.specs.Book.{is_next}
use Rattle.ssh_held.specs.Held.{session_of}
use Rattle.divrelca.specs.Parts.Ed25519.{is_name}
use Rattle.divrelca_c.specs.Embedded.Deciding.{is_open}
use Rattle.divrelca_c.specs.Embedded.Users.{is_settled}
use Rattle.divrelca_c.specs.declared.embedded.users.Users.{Users}
use Rattle.divrelca_c.proofs.embedded.deciding.Server.question.Goals as goal

is_true : (b : Bool) → (b ≡ false → ⊥) → b ≡ true
is_true true never = refl
is_true false never = absurd (never refl)

pub returns-clause-asked : goal.returns-clause-asked
returns-clause-asked c =
    let is_asked = is_true (is_open c.args.self.now.ahead) (λ e. cc (c.in-Some.ensures.none e)) in
    let user = c.in-Some.request.user.now in
    let method = method_meaning c.in-Some.request.method in
    let asked = c.in_ok-next_question.field-0 in
    let session : c.unwrap_or-session.result ≡ session_of c.args.self.now.end.machine = search rules in
    record {
      wanted = is_asked;
      alive = sym c.if-is_dead.ensures;
      out = sym c.if-is_authenticated.ensures;
      request = record {
        user = c.in-Some.request.user.now;
        service = c.in-Some.request.service.now;
        method = method_meaning c.in-Some.request.method;
        is = (c.in-Some.ensures.reads is_asked).is;
      };
      unsettled = ap (λ (u : Users). is_settled u.book.list.items u.list.items c.in-Some.request.user.now (method_meaning c.in-Some.request.method))
          (sym c.user.ensures) ∙ sym c.if-settles.ensures;
      about = ap (λ s. is_next is_name c.args.self.now.end.role.own.judge.book.list.items s user method asked) (sym session)
          ∙ ap (λ (u : Users). is_next is_name u.book.list.items c.unwrap_or-session.result user method asked) (sym c.user-2.ensures)
          ∙ c.in_ok-next_question.ensures (sym c.if-not-asks.ensures);
    }
