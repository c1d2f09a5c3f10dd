use Rattle.std.proofs.Common.{◌∙◌, ap, map, rules, subst}
use Rattle.ssh_config.specs.Config.{AreGood}
use Rattle.divrelca.specs.Parts.AesGcm.{aes_gcm}
use Rattle.divrelca_c.specs.Embedded.Making.{server_given}
use Rattle.divrelca_c.specs.Embedded.Users.{entry_of}
use Rattle.divrelca_c.specs.Making.{methods_by}
use Rattle.divrelca_c.proofs.NewEnds.{known_choice, server_made}
use Rattle.divrelca_c.proofs.making.server_in.Goals as goal

pub returns-in-Ok-clause-made : goal.returns-in-Ok-clause-made
returns-in-Ok-clause-made c =
    let given = c.args.given.now in let made = c.in-Ok.ensures in let users = c.in_ok-users.ensures in let signer = c.in_ok-signer_in.ensures in
    let methods = c.in_ok-methods_in.ensures in let ciphers = c.in_ok-ciphers_in.ensures in record {
      new = server_made given methods.methods ciphers.ciphers c.material_in.ensures made.made;
      host = made.host ∙ signer.signer;
      users = ap (λ judge. map entry_of judge.list.items) made.users ∙ users.users;
      unsaid = ap (λ judge. judge.book.list.items) made.users ∙ users.unsaid;
      key = made.key;
      settings = record {
        bytes = search rules;
        seed = signer.size;
        entries = users.taken;
        methods_known = known_choice given.methods methods.choice;
        ciphers_known = known_choice given.ciphers ciphers.choice;
        good = subst (λ it. AreGood aes_gcm (server_given given.software.now given.user_algorithms.now given.epoch_limit given.tries
            (methods_by given.methods) it)) ciphers.ciphers (subst (λ it. AreGood aes_gcm (server_given given.software.now
            given.user_algorithms.now given.epoch_limit given.tries it c.in_ok-ciphers_in.field-0)) methods.methods made.good);
      };
    }
