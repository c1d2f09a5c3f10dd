use Rattle.std.proofs.Common.{◌≡◌, ◌++◌, ◌∙◌, All, ap, map, negsuc, of_z, pos, refl, rules, to_z, w32}
use Rattle.std.proofs.lemmas.List.{map-append}
use Rattle.divrelca_c.specs.Embedded.Users.{entry_of}
use Rattle.ssh_types.specs.declared.call_error.CallError.TheVariants as call
use Rattle.divrelca_c.specs.declared.embedded.server.UserRefusal.TheVariants as user_refusal
use Rattle.divrelca_c.specs.Codes.{user_code}
use Rattle.divrelca_c.specs.Making.{IsTaken}
use Rattle.divrelca_c.proofs.Faults.{taken_code}
use Rattle.divrelca_c.proofs.Named.{coded, entries_named, users_named, users_of_another}
use Rattle.divrelca_c.proofs.calls.set_user.Goals as goal

pub returns-in-Ok-set_user : goal.returns-in-Ok-set_user
returns-in-Ok-set_user c =
    let set = c.in-Ok-set_user.ensures in
    let named = entries_named c.args.name.now c.in-Ok.given.list.items c.args.users.now c.in-Ok.ensures.users set.named in record {
      set = λ done. ap (map entry_of) set.set ∙ (map-append entry_of c.args.server.now.end.role.own.judge.list.items
          c.in-Ok.given.list.items ∙ ap (λ more. map entry_of c.args.server.now.end.role.own.judge.list.items ++ more) c.in-Ok.ensures.users);
      named = λ done. named;
      fresh = search (rules);
      noted = search (rules);
      kept = search (rules);
      noted_only = search (rules);
      taken = search (rules);
      faulty = λ fault. absurd (fault c.in-Ok.ensures.faultless);
      over = search (rules);
      nameless = search (rules);
      another = λ taken alive other memory. absurd (other named);
      known = search (rules);
      otherwise = search (rules);
      settled = set.settled;
      book = set.book;
      stands = λ done. set.stands;
      rest = search (rules);
      unchanged = search (rules);
      unnoted = search (rules);
      same = search (rules);
    }

pub returns-in-Err-set_user : goal.returns-in-Err-set_user
returns-in-Err-set_user c =
    let refused = c.in-Err-set_user.ensures in
    let code_is : to_z w32 (of_z w32 c.code_user.result) ≡ user_code c.in-Err-set_user.fault = search rules in record {
      set = search (rules);
      named = search (rules);
      fresh = search (rules);
      noted = search (rules);
      kept = search (rules);
      noted_only = search (rules);
      taken = search (rules);
      faulty = λ fault. absurd (fault c.in-Ok.ensures.faultless);
      over = search (rules);
      nameless = search (rules);
      another = λ taken alive other memory. coded c.in-Err-set_user.fault (call.Refused user_refusal.Name) (refused.another alive
          (users_of_another c.args.name.now c.in-Ok.given.list.items c.args.users.now c.in-Ok.ensures.users other)) _ code_is;
      known = λ taken alive some named noted memory. coded c.in-Err-set_user.fault (call.Refused user_refusal.Known) (refused.known alive some
          (users_named c.args.name.now c.in-Ok.given.list.items c.args.users.now c.in-Ok.ensures.users named) noted) _ code_is;
      otherwise = λ taken alive some named fresh memory. absurd (memory (code_is ∙ ap user_code (refused.otherwise alive some
          (users_named c.args.name.now c.in-Ok.given.list.items c.args.users.now c.in-Ok.ensures.users named) fresh)));
      settled = refused.settled;
      book = refused.book;
      stands = search (rules);
      rest = search (rules);
      unchanged = search (rules);
      unnoted = search (rules);
      same = search (rules);
    }

pub returns-in-Err : goal.returns-in-Err
returns-in-Err c =
    let same : to_z w32 (of_z w32 c.in-Err.code) ≡ c.in-Err.code = search rules in
    let fails : (to_z w32 (of_z w32 c.in-Err.code) ≡ pos 0 → ⊥) = rw same c.in-Err.ensures.fails in
    let none : (All IsTaken c.args.users.now → (to_z w32 (of_z w32 c.in-Err.code) ≡ negsuc 0 → ⊥) → ⊥) =
    λ are memory. taken_code c.args.users.now c.in-Err.code c.in-Err.ensures.refused are (λ is. memory (same ∙ is)) in record {
      set = λ done. absurd (fails done);
      named = λ done. absurd (fails done);
      fresh = λ done. absurd (fails done);
      noted = λ done. absurd (fails done);
      kept = λ user have. have;
      noted_only = λ done. absurd (fails done);
      taken = λ done. absurd (fails done);
      faulty = λ fault memory. same ∙ c.in-Err.ensures.refused (λ is. memory (same ∙ is));
      over = λ are dead memory. absurd (none are memory);
      nameless = λ are alive name memory. absurd (none are memory);
      another = λ are alive other memory. absurd (none are memory);
      known = λ are alive some named noted memory. absurd (none are memory);
      otherwise = λ are alive some named fresh memory. absurd (none are memory);
      settled = λ history settled. settled;
      book = refl;
      stands = λ done. absurd (fails done);
      rest = refl;
      unchanged = λ fault. refl;
      unnoted = λ fault. refl;
      same = refl;
    }
