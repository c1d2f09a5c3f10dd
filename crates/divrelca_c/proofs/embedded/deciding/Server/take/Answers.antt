use Rattle.std.proofs.Common.{Err, Ok, ap, is_some, refl, subst, sym, ◌∙◌}
use Rattle.ssh_end_machine.specs.Steps.{shown_by}
use Rattle.ssh_held.specs.Held.{IsReceiving, IsSettled}
use Rattle.divrelca.specs.Parts.AesGcm.{aes_gcm}
use Rattle.divrelca.specs.Supplies.{next_bytes}
use Rattle.divrelca_c.specs.Embedded.Deciding.{is_open}
use Rattle.divrelca_c.specs.Embedded.Roles.{server_ends, server_exchanges}
use Rattle.divrelca_c.specs.Embedded.Taking.{TakesStep}
use Rattle.divrelca_c.specs.Embedded.Users.{is_settled}
use Rattle.divrelca_c.proofs.embedded.deciding.Server.take.Goals as goal

pub returns-then-is_asked : goal.returns-then-is_asked
returns-then-is_asked c = c.if-is_asked.ensures.wanted refl

pub returns-in-Ok : goal.returns-in-Ok
returns-in-Ok c =
    let old = c.args.self.now in
    let kept = ap (λ s. s.ahead) c.in-Ok.ensures.same in
    let machine = ap (λ s. s.end) c.is_asked.ensures.same in
    let is_known = is_settled old.end.role.own.judge.book.list.items old.end.role.own.judge.list.items in
    record {
      taken = record {
        takes = subst (λ o. TakesStep server_ends server_exchanges aes_gcm next_bytes o c.args.bytes.now (Ok c.in-Ok.used) c.take_step.new.self)
            (c.is_asked.ensures.same ∙ ap (λ a. record old { ahead = a }) (sym kept)) c.in-Ok.ensures;
        shut = ap is_open kept ∙ c.if-is_asked.ensures.shut refl;
        looks = ap is_some kept ∙ c.is_asked.ensures.looks;
      };
      settled = c.if-is_asked.ensures.settled refl;
      settles = λ looks p history place settled e o turned living out.
          c.settled_goes_on.ensures p is_known history old.end.machine old.end.layers place.lawful place.sums settled
          (λ alive. subst (λ it. IsReceiving it.machine) machine
          (let live = (c.end_stands.ensures.stands (ap (λ it. it.machine.kept.dead) machine ∙ alive)).live in
          record { taking = live.taking; going = live.receiving }))
          c.args.bytes.now c.in-Ok.used c.in-Ok.ensures.took.most
          (shown_by c.take_step.new.self.end.step c.take_step.new.self.end.machine) c.take_step.new.self.end.step e o turned living out
          (subst (λ k. IsSettled k old.end.machine is_known c.args.bytes.now) (sym place.parts_are.exchange.crypto)
          (c.if-is_asked.ensures.settled refl looks));
    }

pub returns-in-Err : goal.returns-in-Err
returns-in-Err c =
    let old = c.args.self.now in
    let kept = ap (λ s. s.ahead) c.in-Err.ensures.same in
    record {
      taken = record {
        takes = subst (λ o. TakesStep server_ends server_exchanges aes_gcm next_bytes o c.args.bytes.now (Err c.in-Err.fault) c.take_step.new.self)
            (c.is_asked.ensures.same ∙ ap (λ a. record old { ahead = a }) (sym kept)) c.in-Err.ensures;
        shut = ap is_open kept ∙ c.if-is_asked.ensures.shut refl;
        looks = ap is_some kept ∙ c.is_asked.ensures.looks;
      };
      settled = c.if-is_asked.ensures.settled refl;
      settles = tt;
    }
