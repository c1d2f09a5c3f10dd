-- What a server answers is the row of the message.
use Rattle.std.proofs.Common.{◌≡◌, ◌<◌, ℕ, Bool, true, false, not, ◌&&◌, ◌||◌, nat_le, List, [], ◌∷◌, refl, sym, subst, ◌∙◌, arith}
use Rattle.std.specs.Prelude.{None}
use Rattle.ssh_model.specs.Protocol.Wire.Message.{Msg.UserauthRequest, Method, Method.Publickey}
use Rattle.ssh_model.specs.declared.refusal.Refusal.TheVariants.{TooManyTries, Unexpected}
use Rattle.ssh_model.specs.Protocol.Sessions.Refusals.{Check.RefusedWhere, first_refusal}
use Rattle.ssh_model.specs.Protocol.Authentication.Requests.{Judge, accepts, approves, fails}
use Rattle.ssh_model.specs.State.Authentication.Kept.{ServerTakes}
use Rattle.ssh_auth.specs.Serving.{IsJudged, Server, ServerAnswers, server_refusals, settled}
use Rattle.ssh_auth.specs.declared.answer.ServerAnswer.{ServerAnswer}
use Rattle.ssh_auth.specs.declared.answer.ServerAnswer.TheVariants as answer

-- A request that came in time is refused for nothing where it does not fail too often.
unrefused : (judge : Judge) (session : List ℕ) (server : Server) (user service : List ℕ) (how : Method) → server.kept.opened ≡ true
    → (not server.kept.authenticated && fails judge server.methods session user service how && nat_le server.tries server.kept.failures) ≡ false
    → first_refusal (server_refusals judge session server (UserauthRequest user service how)) ≡ None
unrefused judge session server user service how opened fine = go server.kept.opened _ opened fine
  where
    go : (o r : Bool) → o ≡ true → r ≡ false → first_refusal (RefusedWhere (not ((true && o) || false)) Unexpected ∷ RefusedWhere r TooManyTries ∷ []) ≡ None
    go true false e f = refl
    go false r e f = cc e
    go true true e f = cc f

-- An ignored request.
pub ignored : (judge : Judge) (session : List ℕ) (server : Server) (user service : List ℕ) (how : Method) (test : Bool) → server.kept.opened ≡ true → test ≡ server.kept.authenticated → test ≡ true
    → ServerAnswers judge session server (UserauthRequest user service how) answer.Ignored server
ignored judge session server user service how test opened is tested = record {
  unrefused = unrefused judge session server user service how opened (go server.kept.authenticated _ _ (sym is ∙ tested));
  tries = refl;
  methods = refl;
  row = ServerTakes.too_late user service how (sym is ∙ tested);
}
  where
    go : (a b c : Bool) → a ≡ true → (not a && b && c) ≡ false
    go true b c e = refl
    go false b c e = cc e

-- A judged request, and what is kept of it.
pub judged : (judge : Judge) (session : List ℕ) (old new : Server) (user service : List ℕ) (how : Method) (given : ServerAnswer) (methods : List (List ℕ)) (test : Bool) → old.kept.opened ≡ true → test ≡ old.kept.authenticated → test ≡ false
    → methods ≡ old.methods → IsJudged judge methods session user service how given → (given ≡ answer.Failed → old.kept.failures < old.tries) → new ≡ settled old given
    → ServerAnswers judge session old (UserauthRequest user service how) given new
judged judge session old new user service how given methods test opened is tested same verdict counted so =
    subst (λ n. ServerAnswers judge session old (UserauthRequest user service how) given n) (sym so)
    (go given (subst (λ m. IsJudged judge m session user service how given) same verdict) counted)
  where
    in_time : old.kept.authenticated ≡ false
    in_time = sym is ∙ tested

    accepted_fine : (t a b o : Bool) → a ≡ true → (t && (not a && b) && o) ≡ false
    accepted_fine true true b o e = refl
    accepted_fine false true b o e = refl
    accepted_fine t false b o e = cc e

    probed_fine : (t a b o : Bool) → b ≡ true → (t && (not a && not b) && o) ≡ false
    probed_fine true true true o e = refl
    probed_fine true false true o e = refl
    probed_fine false a true o e = refl
    probed_fine t a false o e = cc e

    failed_fine : (t f o : Bool) → o ≡ false → (t && f && o) ≡ false
    failed_fine true true false e = refl
    failed_fine true false false e = refl
    failed_fine false f false e = refl
    failed_fine t f true e = cc e

    below : (a b : ℕ) → b < a → nat_le a b ≡ false
    below a b less = grind (arith, less)

    go : (given : ServerAnswer) → IsJudged judge old.methods session user service how given → (given ≡ answer.Failed → old.kept.failures < old.tries)
        → ServerAnswers judge session old (UserauthRequest user service how) given (settled old given)
    go answer.Accepted verdict counted = record {
      unrefused = unrefused judge session old user service how opened (accepted_fine (not old.kept.authenticated) _ _ _ verdict);
      tries = refl;
      methods = refl;
      row = ServerTakes.accepted user service how in_time verdict;
    }
    go (answer.KeyOk algorithm key) verdict counted = subst (λ (h : Method). ServerAnswers judge session old (UserauthRequest user service h) (answer.KeyOk algorithm key) old) (sym verdict.0) (
        let approved : approves judge old.methods user service (Publickey algorithm.now key.now None) ≡ true = subst (λ (h : Method). approves judge old.methods user service h ≡ true) verdict.0 verdict.1 in
        record {
          unrefused = unrefused judge session old user service (Publickey algorithm.now key.now None) opened (probed_fine (not old.kept.authenticated) (accepts judge old.methods session user service (Publickey algorithm.now key.now None)) _ _ approved);
          tries = refl;
          methods = refl;
          row = ServerTakes.probed user service algorithm.now key.now in_time approved;
        })
    go answer.Failed verdict counted = record {
      unrefused = unrefused judge session old user service how opened (failed_fine (not old.kept.authenticated) _ _ (below old.tries old.kept.failures (counted refl)));
      tries = refl;
      methods = refl;
      row = ServerTakes.failed user service how in_time verdict;
    }
    go answer.Ignored verdict counted = absurd verdict
    go answer.Unimplemented verdict counted = absurd verdict
