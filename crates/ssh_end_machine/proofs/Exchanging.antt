-- A server that gets another judge of its users stands where it stood.
use Rattle.std.proofs.Common.{◌≡◌, false, List, refl, sym, ◌∙◌, subst}
use Rattle.ssh_model.specs.Laws.Verdicts.{AgreeOnAsked, judged_by}
use Rattle.ssh_model.specs.Protocol.Authentication.Requests.{Judge, judge_of}
use Rattle.ssh_model.specs.Protocol.Sessions.AnyPeer.{IsGuarded}
use Rattle.ssh_model.specs.Protocol.Sessions.Items.{Item, has_died}
use Rattle.ssh_model.specs.Protocol.Sessions.Parties.{AreLawful, Parties}
use Rattle.ssh_model.specs.Protocol.Sessions.Turns.{EndRun}
use Rattle.ssh_model.specs.declared.side.Side.{Side}
use Rattle.ssh_model.specs.declared.side.Side.TheVariants.{Server}
use Rattle.ssh_model.specs.Protocol.Wire.Sealing.{Crypto}
use Rattle.ssh_model.specs.State.End.State.{EndState}
use Rattle.ssh_model.specs.State.End.Summary.{EndSumsUp}
use Rattle.ssh_model.specs.State.TransportLayer.Kept.{ExchangeParts}
use Rattle.ssh_end_machine.specs.Layers.{Layers}
use Rattle.ssh_transport_machine.specs.State.{State}
use Rattle.ssh_end_machine.specs.Sessions.{AreOf, IsLoginOf}
use Rattle.ssh_end_machine.specs.Stands.{ServerStandsAt}
use Rattle.ssh_end_machine.specs.declared.layers.login.Login.{Login}
use Rattle.ssh_end_machine.specs.declared.layers.login.Login.TheVariants as login

-- the laws of a run with another judge
pub record JudgeLaws (K : Type 0) : Type 0 where
  pub runs : (p : Parties K) (judge : Judge) (side : Side) (h : List Item) → EndRun p side h → has_died h ≡ false → AgreeOnAsked (judge_of p) judge h → EndRun (judged_by judge p) side h
  pub sums : (p : Parties K) (judge : Judge) (side : Side) (h : List Item) (e : EndState K) → EndSumsUp p side h e → EndSumsUp (judged_by judge p) side h e
  pub lawful : (p : Parties K) (judge : Judge) → AreLawful p → AreLawful (judged_by judge p)
  pub guards : (p : Parties K) → AreLawful p → (side : Side) → (h : List Item) → EndRun p side h → IsGuarded p side h

module _ {K : Type 0} (laws : JudgeLaws K) where
  layers_of : (p : Parties K) (other : Judge) (layers : Layers) → AreOf p layers → AreOf (judged_by other p) layers
  layers_of p other layers given = record { login = go layers.authentication given.login }
    where
      go : (l : Login) → IsLoginOf p l → IsLoginOf (judged_by other p) l
      go (login.Server server) x = record { tries = x.tries; methods = x.methods; failure = x.failure }
      go (login.Client client) x = tt

  pub exchanged : (p : Parties K) (c : Crypto K) (parts : ExchangeParts) (one other : Judge) (history : List Item) (machine : State K) (layers : Layers) → ServerStandsAt p c parts one history machine layers → machine.kept.dead ≡ false → AgreeOnAsked one other history → ServerStandsAt (judged_by other p) c parts other history machine layers
  exchanged p c parts one other history machine layers place alive agree =
      let asked : AgreeOnAsked (judge_of p) other history = subst (λ judge. AgreeOnAsked judge other history) (sym (place.parts_are.judge_is refl)) agree in
      let run : EndRun (judged_by other p) Server history = laws.runs p other Server history place.run (sym place.sums.transport.dead_is ∙ alive) asked in
      let lawful : AreLawful (judged_by other p) = laws.lawful p other place.lawful in
      record {
        lawful = lawful;
        parts_are = record { exchange = record { crypto = place.parts_are.exchange.crypto; parts_are = place.parts_are.exchange.parts_are }; judge_is = λ same. refl; signature_is = λ same. absurd (cc same) };
        layers_are = λ living. layers_of p other layers (place.layers_are living);
        sums = laws.sums p other Server history _ place.sums;
        run = run;
        reading = place.reading;
        guarded = laws.guards (judged_by other p) lawful Server history run;
      }
