-- When this end begins an exchange, and when it is granted the service: outside an exchange, and the first once the user is authenticated.
use Rattle.std.proofs.Common.{◌≡◌, ◌++◌, ◌||◌, Bool, ℕ, List, ap, refl, sym, subst, ◌∙◌, true, false}
use Rattle.std.proofs.lemmas.Bool.{false≢true}
use Rattle.ssh_model.specs.declared.side.Side.{Side}
use Rattle.ssh_model.specs.declared.side.Side.TheVariants.{Client, Server}
use Rattle.ssh_model.specs.Protocol.Wire.Message.{Msg, Msg.KexInit, IsPayload, Proposal}
use Rattle.ssh_model.specs.Protocol.Sessions.Phases as model
use Rattle.ssh_model.specs.Protocol.Sessions.Turns.{number_of}
use Rattle.ssh_model.specs.State.TransportLayer.Kept.{Transport, takes_in}
use Rattle.ssh_transport_machine.specs.Classifying.{MessageIs, PayloadIs}
use Rattle.ssh_transport_machine.specs.Classifying as classifying
use Rattle.ssh_transport_machine.specs.State.{awaits_exchange, before_taken}
use Rattle.ssh_transport_machine.specs.declared.machine.classifying.Classified.TheVariants as classified
use Rattle.ssh_transport_machine.specs.declared.machine.kexinit.KexinitFacts.{KexinitFacts}
use Rattle.ssh_transport.proofs.Lifting.{awaits, during_off, first_off, served}

or_off : (b : Bool) → (b || false) ≡ true → b ≡ true
or_off true e = refl
or_off false e = e

module _ {K : Type 0} (s : Transport K) where
  let_in : (side : Side) → s.side ≡ side → takes_in model.Phase.Normal s 20 ≡ true → s.authenticated ≡ true
  let_in Server same e = or_off s.authenticated (served s 20 Server same e)
  let_in Client same e = or_off s.authenticated (served s 20 Client same e)

  begins : (phase : model.Phase) → awaits_exchange phase ≡ false → takes_in phase s 20 ≡ true → s.authenticated ≡ true
  begins model.Phase.Start f e = absurd (false≢true (sym f))
  begins model.Phase.Guessed f e = absurd (false≢true (sym f))
  begins model.Phase.Exchanging f e = absurd (false≢true (sym f))
  begins model.Phase.Keying f e = absurd (cc (e, during_off s 20 refl refl refl _ refl))
  begins model.Phase.Normal f e = let_in s.side refl e

  grants : (phase : model.Phase) → (phase ≡ model.Phase.Guessed → ⊥) → takes_in phase s 6 ≡ true → awaits_exchange phase ≡ false
  grants model.Phase.Start d e = absurd (cc (e, first_off s 6 refl refl refl))
  grants model.Phase.Guessed d e = absurd (d refl)
  grants model.Phase.Exchanging d e = absurd (cc (e, during_off s 6 refl refl refl _ (awaits s s.side 6 refl refl)))
  grants model.Phase.Keying d e = refl
  grants model.Phase.Normal d e = refl

  kexinit_number : (theirs : Proposal) (payload : List ℕ) → IsPayload false (KexInit theirs) payload → number_of payload ≡ 20
  kexinit_number theirs payload x = ap number_of x.row.parts ∙ ap (λ (l : List ℕ). number_of (l ++ x.row.back)) x.row.first

-- A KEXINIT of the peer outside an exchange comes once the user is authenticated.
pub kexinit_begins : {K : Type 0} (s : Transport K) (payload : List ℕ) (facts : KexinitFacts) → awaits_exchange s.phase ≡ false → PayloadIs (before_taken s) payload (classified.Kexinit facts) → s.authenticated ≡ true
kexinit_begins {K} s payload facts outside (classifying.PayloadIs.read message below taken no_guess is so) = go message is so
  where
    go : (message : Msg) → IsPayload false message payload → MessageIs (before_taken s) message (classified.Kexinit facts) → s.authenticated ≡ true
    go message is (classifying.MessageIs.requested service given) = absurd given
    go message is (classifying.MessageIs.accepted service given) = absurd given
    go message is (classifying.MessageIs.kexinit offer f fine) =
        begins (before_taken s) s.phase outside (subst (λ (n : ℕ). takes_in s.phase (before_taken s) n ≡ true) (kexinit_number s offer payload is) taken)

-- the same where it is not blocked
pub free_begins : {K : Type 0} (s : Transport K) (payload : List ℕ) (facts : KexinitFacts) → (awaits_exchange s.phase ≡ true → s.blocked ≡ true) → s.blocked ≡ false → PayloadIs (before_taken s) payload (classified.Kexinit facts) → s.authenticated ≡ true
free_begins s payload facts shut free is = go (awaits_exchange s.phase) refl
  where
    go : (b : Bool) → awaits_exchange s.phase ≡ b → s.authenticated ≡ true
    go true e = absurd (false≢true (sym free ∙ shut e))
    go false e = kexinit_begins s payload facts e is

-- The service is granted outside an exchange.
pub granted_outside : {K : Type 0} (s : Transport K) (payload : List ℕ) → PayloadIs (before_taken s) payload classified.ServiceAccepted → awaits_exchange s.phase ≡ false
granted_outside {K} s payload (classifying.PayloadIs.read message below taken no_guess is so) = go message is so
  where
    go : (message : Msg) → IsPayload false message payload → MessageIs (before_taken s) message classified.ServiceAccepted → awaits_exchange s.phase ≡ false
    go message is (classifying.MessageIs.requested service given) = absurd given
    go message is (classifying.MessageIs.accepted service given) =
        grants (before_taken s) s.phase no_guess (subst (λ (n : ℕ). takes_in s.phase (before_taken s) n ≡ true) (ap number_of is.row.parts ∙ ap (λ (l : List ℕ). number_of (l ++ is.row.back)) is.row.first) taken)
