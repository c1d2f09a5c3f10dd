-- What the config of a server is given, whether it announces the algorithms of users' keys or not.
use Rattle.std.proofs.Common.{◌≡◌, ◌==◌, ◌∙◌, ℕ, true, false, List, [], ◌∷◌, codes, length, refl, sym}
use Rattle.std.proofs.Math.Dec.{eqb-suc-zero}
use Rattle.ssh_config.specs.Config.{Given}
use Rattle.divrelca.specs.Parts.GcmSettings.{standard_given}
use Rattle.divrelca_c.specs.Embedded.Making.{given_by, given_for_server, method_names}
use Rattle.divrelca_c.specs.declared.embedded.making.ServerSettings.{ServerSettings}

-- what it is given if it announces nothing
abbrev pub silent : ServerSettings → Given
silent s = record (standard_given s.software.now) { epoch_limit = s.epoch_limit; tries = s.tries; methods = method_names s.methods }

module _ (s : ServerSettings) (given : Given) (is : given ≡ silent s) where
  by_silence : (bytes : List ℕ) → s.user_algorithms.now ≡ bytes → (length bytes == 0) ≡ true → given_by given s.ciphers ≡ given_for_server s
  by_silence [] e none = rw (is, e) refl
  by_silence (byte ∷ bytes) e none = absurd (cc (sym (eqb-suc-zero (length bytes)) ∙ none))

  pub silent_given : (length s.user_algorithms.now == 0) ≡ true → given_by given s.ciphers ≡ given_for_server s
  silent_given none = by_silence s.user_algorithms.now refl none

  by_names : (bytes : List ℕ) → s.user_algorithms.now ≡ bytes → (length bytes == 0) ≡ false →
      given_by (record given { takes_extensions = true; extensions = record { name = codes "server-sig-algs"; value = s.user_algorithms.now } ∷ [] }) s.ciphers
      ≡ given_for_server s
  by_names [] e some = absurd (cc some)
  by_names (byte ∷ bytes) e some = rw (is, e) refl

  pub announced_given : (length s.user_algorithms.now == 0) ≡ false →
      given_by (record given { takes_extensions = true; extensions = record { name = codes "server-sig-algs"; value = s.user_algorithms.now } ∷ [] }) s.ciphers
      ≡ given_for_server s
  announced_given some = by_names s.user_algorithms.now refl some
