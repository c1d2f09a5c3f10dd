use Rattle.std.proofs.Common.{◌≡◌, Bool, true, false, Option, refl, subst, sym}
use Rattle.ssh_held.specs.Hosts.{Signed, is_on_host}
use Rattle.divrelca_c.specs.Embedded.Deciding.{is_open}
use Rattle.divrelca_c.proofs.embedded.host_deciding.Client.question.Goals as goal

is_true : (b : Bool) → (b ≡ false → ⊥) → b ≡ true
is_true true never = refl
is_true false never = absurd (never refl)

pub returns-in_ok-question-in-Some-clause-asked : goal.returns-in_ok-question-in-Some-clause-asked
returns-in_ok-question-in-Some-clause-asked c =
    let is_asked = is_true (is_open c.args.self.now.ahead) (λ e. cc (c.in-Some.ensures.none e)) in
    let reads = c.in-Some.ensures.reads is_asked in
    let shown = reads.found c.in-Some.host.key.now reads.is.point reads.is.signature reads.is.is (sym c.if-is_dead.ensures) reads.awaited.phase in
    record {
      wanted = is_asked;
      alive = sym c.if-is_dead.ensures;
      algorithm = c.in-Some.host.algorithm.now;
      awaited = reads.awaited;
      reply = record { key = c.in-Some.host.key.now; has = reads.is };
      about = subst (λ (o : Option Signed). is_on_host c.in-Some.host.algorithm.now c.in-Some.host.key.now o c.in_ok-question-in-Some.field-0 ≡ true)
          shown.1 c.in_ok-question-in-Some.ensures;
    }
