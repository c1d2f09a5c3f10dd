use Rattle.std.proofs.Common.{◌≡◌, ◌∙◌, ap, false, map, option_map, rules, subst}
use Rattle.std.specs.List.{list_any}
use Rattle.ciphers.specs.Ed25519.Order.{is_small_order}
use Rattle.ssh_config.specs.Config.{AreGood}
use Rattle.divrelca.specs.Parts.AesGcm.{aes_gcm}
use Rattle.divrelca_c.specs.Embedded.Making.{client_given}
use Rattle.divrelca_c.proofs.NewEnds.{client_made, client_refused, known_choice, known_keys, seed_size}
use Rattle.divrelca_c.proofs.making.client_in.Goals as goal

pub returns-in-Ok-clause-made : goal.returns-in-Ok-clause-made
returns-in-Ok-clause-made c =
    let given = c.args.given.now in let made = c.in-Ok.ensures in let user = c.in_ok-user.ensures in let keys = c.in_ok-host_keys_in.ensures in
    let ciphers = c.in_ok-ciphers_in.ensures in record {
      new = client_made given ciphers.ciphers c.material_in.ensures made.made;
      host = made.host ∙ keys.keys;
      unsaid = made.unsaid;
      user = made.user ∙ user.user;
      ungiven = made.ungiven;
      key = made.key ∙ ap (option_map (λ signer. signer.key)) user.user;
      settings = record {
        bytes = search rules;
        trusted = known_keys given.host_key.now keys.count;
        strong = subst (λ host_keys. list_any is_small_order host_keys ≡ false) keys.keys made.strong;
        seed = seed_size given.user_seed.now user.size;
        ciphers_known = known_choice given.ciphers ciphers.choice;
        good = subst (λ it. AreGood aes_gcm (client_given given.software.now (map (λ name. name.now) given.host_algorithms.now)
            given.takes_extensions given.epoch_limit it)) ciphers.ciphers made.good;
      };
    }

pub returns-in-Err-clause-refused : goal.returns-in-Err-clause-refused
returns-in-Err-clause-refused c =
    let given = c.args.given.now in let ciphers = c.in_ok-ciphers_in in let keys = c.in_ok-host_keys_in in
    let fault = client_refused given ciphers.field-0 keys.field-0.now (search rules) c.in_ok-user.ensures.size ciphers.ensures.choice keys.ensures.count
    ciphers.ensures.ciphers keys.ensures.keys c.in-Err.error c.code_made.result c.in-Err.ensures.refused c.code_made.ensures.code in
    search rules
