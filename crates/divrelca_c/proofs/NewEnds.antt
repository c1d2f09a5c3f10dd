-- The settings and the random bytes of a new end, by what C passes, and the codes where none is made.
use Rattle.std.proofs.Common.{◌≡◌, ◌∙◌, ℕ, Bool, List, [], ◌∷◌, ap, arith, eqb, false, length, map, negsuc, not, refl, subst, sym, true}
use Rattle.std.proofs.lemmas.Bool.Decides.{nat_tests}
use Rattle.std.specs.Prelude.{Option, None, ℤ}
use Rattle.std.specs.List.{list_any}
use Rattle.ciphers.specs.Ed25519.Order.{is_small_order}
use Rattle.ssh_config.specs.Checks.{told_unless}
use Rattle.ssh_config.specs.Config.{AreGood, Given, settings_given}
use Rattle.ssh_config.specs.Errors.{IsRefused}
use Rattle.ssh_types.specs.declared.call_error.CallError.{CallError}
use Rattle.ssh_types.specs.declared.call_error.CallError.TheVariants as call
use Rattle.divrelca.specs.Parts.AesGcm.{aes_gcm}
use Rattle.ssh_end_machine.specs.declared.role.EndRole as role
use Rattle.ssh_model.specs.Protocol.Sessions.Parties.{Settings}
use Rattle.ssh_model.specs.declared.side.Side.{Side}
use Rattle.ssh_model.specs.declared.side.Side.TheVariants as sides
use Rattle.divrelca.specs.declared.parts.packet_key.PacketKey.{PacketKey}
use Rattle.divrelca.specs.declared.cipher_choice.Ciphers.{Ciphers}
use Rattle.divrelca.specs.declared.keys.PaddingSource.{PaddingSource}
use Rattle.divrelca_c.specs.Codes.{made_code}
use Rattle.divrelca_c.specs.Embedded.Making.{IsClientError, IsMade, client_given, server_given}
use Rattle.divrelca_c.specs.Embedded.Roles.{client_ends, server_ends}
use Rattle.divrelca_c.specs.declared.embedded.state.Embedded.{Embedded}
use Rattle.divrelca_c.specs.declared.embedded.making.MakeRefusal.{MakeRefusal}
use Rattle.divrelca_c.specs.declared.embedded.making.MakeRefusal.TheVariants as refusal
use Rattle.divrelca_c.specs.declared.embedded.making.Material.{Material}
use Rattle.divrelca_c.specs.declared.embedded.making.Methods.{Methods}
use Rattle.divrelca_c.specs.Embedded.Ends.{Client, Server}
use Rattle.divrelca_c.specs.Making.{AreKeys, IsChoice, IsClientFault, IsServerFault, Leaves, are_keys, ciphers_by, client_fault, client_settings, code_at, given_of_client, is_choice, is_seed, keys_of, methods_by, server_fault, server_settings}
use Rattle.divrelca_c.proofs.Known.{where_same}
use Rattle.divrelca_c.specs.declared.bytes.DvClientSettings.{DvClientSettings}
use Rattle.divrelca_c.specs.declared.bytes.DvServerSettings.{DvServerSettings}

-- an end that was made with the same settings and of the same bytes
made_with : {R X S : Type 0} (ends : role.Ghosts R X S PaddingSource PacketKey) (side : Side) {given named : Settings}
    {material passed : Material} {made : Embedded R X S PaddingSource PacketKey} → given ≡ named → material ≡ passed →
    IsMade ends side given material made → IsMade ends side named passed made
made_with ends side {given} {named} {material} {passed} {made} settings same is =
    subst (λ it. IsMade ends side it passed made) settings (subst (λ it. IsMade ends side given it made) same is)

pub server_made : (given : DvServerSettings) {methods : Methods} {ciphers : Ciphers} {material passed : Material} {made : Server} →
    methods ≡ methods_by given.methods → ciphers ≡ ciphers_by given.ciphers → material ≡ passed →
    IsMade server_ends sides.Server (settings_given (server_given given.software.now given.user_algorithms.now given.epoch_limit given.tries methods ciphers))
    material made →
    IsMade server_ends sides.Server (server_settings given) passed made
server_made given {methods} {ciphers} methods_are ciphers_are =
    let of : Methods → Ciphers → Settings =
    λ m c. settings_given (server_given given.software.now given.user_algorithms.now given.epoch_limit given.tries m c) in
    made_with server_ends sides.Server (ap (λ it. of it ciphers) methods_are ∙ ap (λ it. of (methods_by given.methods) it) ciphers_are)

pub client_made : (given : DvClientSettings) {ciphers : Ciphers} {material passed : Material} {made : Client} →
    ciphers ≡ ciphers_by given.ciphers → material ≡ passed →
    IsMade client_ends sides.Client (settings_given (client_given given.software.now (map (λ name. name.now) given.host_algorithms.now)
    given.takes_extensions given.epoch_limit ciphers)) material made →
    IsMade client_ends sides.Client (client_settings given) passed made
client_made given ciphers_are =
    made_with client_ends sides.Client (ap (λ it. settings_given (client_given given.software.now (map (λ name. name.now) given.host_algorithms.now)
    given.takes_extensions given.epoch_limit it)) ciphers_are)

-- what the tests of settings say
pub known_choice : (bits : ℕ) → is_choice bits ≡ true → IsChoice bits
known_choice bits is = grind (arith, nat_tests)

pub known_keys : (bytes : List ℕ) → are_keys bytes ≡ true → AreKeys bytes
known_keys bytes are = record {
  whole = grind (arith, nat_tests);
  few = grind (arith, nat_tests);
}

pub seed_size : (seed : List ℕ) → is_seed seed ≡ true → (seed ≡ [] → ⊥) → length seed ≡ 32
seed_size [] is some = absurd (some refl)
seed_size (byte ∷ seed) is some = by (length (byte ∷ seed)) is
  where
    by : (n : ℕ) → eqb n 32 ≡ true → n ≡ 32
    by n is = grind (arith, nat_tests)

-- What holds of an end holds of it where it is left, and the code is one of those where none is.
pub leaves_new : {P E : Type 0} {end_at : P → Option E} {Is : E → Type 0} {IsFault : ℤ → Type 0} {end : E} {code : ℤ} {old new : P} →
    Leaves end_at (λ left. left ≡ end) (λ code. code ≡ negsuc 0) code old new → Is end → (code ≡ negsuc 0 → IsFault code) →
    Leaves end_at Is IsFault code old new
leaves_new {P} {E} {end_at} {Is} {IsFault} {end} {code} {old} {new} left known faults = record {
  none = left.none;
  fails = λ fails. faults (left.fails fails);
  some = left.some;
  made = λ done. where_same Is known (end_at new) (left.made done);
}

-- where nothing that is passed is at fault, the code -1 is one of those where none is made
pub server_memory : {given : DvServerSettings} {code : ℤ} → server_fault given ≡ None → code ≡ negsuc 0 → IsServerFault given code
server_memory faultless memory = record { first = λ some. absurd (some faultless); later = λ none other. absurd (other memory) }

pub client_memory : {given : DvClientSettings} {code : ℤ} → client_fault given ≡ None → AreGood aes_gcm (given_of_client given) → code ≡ negsuc 0 →
    IsClientFault given code
client_memory faultless good memory = record {
  first = λ some. absurd (some faultless);
  later = λ none other. absurd (other memory);
  memory = λ none again. good;
}

-- why no client is made of settings that are looked at first, as a code
module _ (given : DvClientSettings) (ciphers : Ciphers) (keys : List (List ℕ)) (size : given.size ≡ 88) (seed : is_seed given.user_seed.now ≡ true)
    (choice : is_choice given.ciphers ≡ true) (count : are_keys given.host_key.now ≡ true) (ciphers_are : ciphers ≡ ciphers_by given.ciphers)
    (keys_are : keys ≡ keys_of given.host_key.now) where
  faulty : (weak : Bool) → list_any is_small_order keys ≡ weak → client_fault given ≡ told_unless (not weak) 302
  faulty weak e =
      let same : list_any is_small_order (keys_of given.host_key.now) ≡ weak = sym (ap (list_any is_small_order) keys_are) ∙ e in
      rw (size, seed, choice, count, same) refl

  abbrev of_settings : Ciphers → Given
  of_settings it = client_given given.software.now (map (λ name. name.now) given.host_algorithms.now) given.takes_extensions given.epoch_limit it

  pub client_refused : (error : CallError MakeRefusal) (code : ℤ) → IsClientError keys (of_settings ciphers) error → code ≡ made_code error →
      IsClientFault given code
  client_refused call.Memory code is e = record {
    first = λ some. absurd (some (faulty false is.0));
    later = λ none other. absurd (other e);
    memory = λ none again. subst (λ it. AreGood aes_gcm (of_settings it)) ciphers_are is.1;
  }
  client_refused (call.Refused refusal.Key) code is e = record {
    first = λ some. e ∙ ap code_at (sym (faulty true is));
    later = λ none other. absurd (cc (sym (faulty true is) ∙ none));
    memory = λ none again. absurd (cc (sym (faulty true is) ∙ none));
  }
  client_refused (call.Refused refusal.Login) code is e = absurd is.1
  client_refused (call.Refused (refusal.Settings why)) code is e = record {
    first = λ some. absurd (some (faulty false is.0));
    later = λ none other. record { why = why; is = subst (λ it. IsRefused aes_gcm (of_settings it) why) ciphers_are is.1; code_is = e };
    memory = λ none again. absurd (cc (sym again ∙ e));
  }
