use Rattle.std.proofs.Common.{Err, Ok, ap, is_some, refl, subst, sym, ◌∙◌}
use Rattle.divrelca.specs.Parts.AesGcm.{aes_gcm}
use Rattle.divrelca.specs.Supplies.{next_bytes}
use Rattle.divrelca_c.specs.Embedded.Deciding.{is_open}
use Rattle.divrelca_c.specs.Embedded.Roles.{client_ends, client_exchanges}
use Rattle.divrelca_c.specs.Embedded.Taking.{TakesStep}
use Rattle.divrelca_c.proofs.embedded.host_deciding.Client.take.Goals as goal

pub returns-in-Ok : goal.returns-in-Ok
returns-in-Ok c =
    let old = c.args.self.now in
    let kept = ap (λ s. s.ahead) c.in-Ok.ensures.same in
    record {
      taken = record {
        takes = subst (λ o. TakesStep client_ends client_exchanges aes_gcm next_bytes o c.args.bytes.now (Ok c.in-Ok.used) c.take_step.new.self)
            (c.is_asked.ensures.same ∙ ap (λ a. record old { ahead = a }) (sym kept)) c.in-Ok.ensures;
        shut = ap is_open kept ∙ c.if-is_asked.ensures.shut refl;
        looks = ap is_some kept ∙ c.is_asked.ensures.looks;
      };
      known = c.if-is_asked.ensures.known refl;
    }

pub returns-in-Err : goal.returns-in-Err
returns-in-Err c =
    let old = c.args.self.now in
    let kept = ap (λ s. s.ahead) c.in-Err.ensures.same in
    record {
      taken = record {
        takes = subst (λ o. TakesStep client_ends client_exchanges aes_gcm next_bytes o c.args.bytes.now (Err c.in-Err.fault) c.take_step.new.self)
            (c.is_asked.ensures.same ∙ ap (λ a. record old { ahead = a }) (sym kept)) c.in-Err.ensures;
        shut = ap is_open kept ∙ c.if-is_asked.ensures.shut refl;
        looks = ap is_some kept ∙ c.is_asked.ensures.looks;
      };
      known = c.if-is_asked.ensures.known refl;
    }
