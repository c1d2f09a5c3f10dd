-- What an end does is what the end of a session does, from one place of a run to the next.
use Rattle.std.proofs.Common.{◌≡◌, ℕ, true, false, List, ap, sym, ◌∙◌, subst, None, Result}
use Rattle.ssh_model.specs.Protocol.Authentication.Requests.{Judge}
use Rattle.ssh_model.specs.State.Authentication.Kept as kept
use Rattle.ssh_model.specs.State.Channels.Kept.{Channels}
use Rattle.ssh_model.specs.State.End.State.{Authentication.OfClient}
use Rattle.ssh_model.specs.State.End.Summary.{EndSumsUp}
use Rattle.ssh_model.specs.Protocol.Sessions.Items as session
use Rattle.ssh_model.specs.Protocol.Sessions.Items.{Item}
use Rattle.ssh_model.specs.Protocol.Sessions.Parties.{AreLawful, Parties}
use Rattle.ssh_model.specs.Protocol.Sessions.Turns.{EndRun}
use Rattle.ssh_model.specs.declared.side.Side.{Side}
use Rattle.ssh_model.specs.declared.side.Side.TheVariants.{Client}
use Rattle.ssh_model.specs.State.TransportLayer.Kept.{Transport}
use Rattle.ssh_model.specs.Protocol.Wire.Sealing.{Crypto}
use Rattle.ssh_transport.specs.Units.{RoleDoes, RoleNeedsMemory}
use Rattle.ssh_transport_machine.specs.Puts.{Outs}
use Rattle.ssh_transport_machine.specs.State.{State}
use Rattle.ssh_end_machine.specs.Asking.{Asks, AsksBy, KeepsSettings, UserSignatures}
use Rattle.ssh_end_machine.specs.Layers.{Layers}
use Rattle.ssh_end_machine.specs.Login.{authentication_of, side_of}
use Rattle.ssh_end_machine.specs.Places.{AskedTo, DiedOn, EndLifts, HasParts, StandsAfter, TookUnit, TurnedTo}
use Rattle.ssh_end_machine.specs.Reading.{SameReading}
use Rattle.ssh_end_machine.specs.Sessions.{AreOf, IsJudgedBy, IsLoginOf, end_of}
use Rattle.ssh_end_machine.specs.UnitTurns.{EndTurnsOn, IsRunning, IsUnitTurned}
use Rattle.ssh_end_machine.specs.Units.{UnitHandled, UnitNeedsMemory}
use Rattle.ssh_end_machine.specs.declared.asking.outcome.AskStep.{AskStep}
use Rattle.ssh_end_machine.specs.declared.asking.outcome.Fault.{Fault}
use Rattle.ssh_end_machine.specs.declared.layers.login.Login.{Login}
use Rattle.ssh_end_machine.specs.declared.layers.login.Login.TheVariants as login
use Rattle.ssh_end_machine.specs.declared.step.Step.{Step}
use Rattle.ssh_end_machine.specs.declared.step.Step.TheVariants as step
use Rattle.ssh_end_machine.proofs.Judging.{ServerFacts}
use Rattle.ssh_end_machine.proofs.Placing.{PlaceLaws, asked_to, died_on, took_unit, waited}
use Rattle.ssh_end_machine.proofs.TurningDeaths.{DyingLaws}
use Rattle.ssh_end_machine.proofs.TurningLaws.{TurningLaws}
use Rattle.ssh_end_machine.proofs.TurningReads.{ReadingLaws}
use Rattle.ssh_end_machine.proofs.TurnsAbove.{role_of}
use Rattle.ssh_end_machine.proofs.UnitDeaths.{unit_dies}
use Rattle.ssh_end_machine.proofs.UnitTurns.{TransportLaws, turned}

-- the laws of an end's turns
pub record EndLaws (K : Type 0) : Type 0 where
  pub places : PlaceLaws K
  pub turning : TurningLaws K
  pub reading : ReadingLaws K
  pub dying : DyingLaws K
  pub server_facts : ServerFacts
  pub opened : (p : Parties K) → AreLawful p → (history : List Item) (transport : Transport K) (client : kept.Client) (channels : Channels) → EndSumsUp p Client history (record { transport = transport; authentication = OfClient client; channels = channels }) → EndRun p Client history → transport.dead ≡ false → client.opened ≡ true → transport.session ≡ None → ⊥

module _ {K R : Type 0} (laws : EndLaws K) (side : Side) (c : Crypto K) (is_of exchange : R → Parties K → Type 0) (judging : R → Judge) (signing : R → UserSignatures) (has : HasParts side is_of exchange judging signing)
    (does : R → RoleDoes K) (own : R → RoleNeedsMemory K) (crypto : (role : R) (p : Parties K) → exchange role p → p.crypto ≡ c) (below : (role : R) (p : Parties K) → exchange role p → TransportLaws p side (does role) (own role)) where
  module _ (role : R) (p : Parties K) (history : List Item) (old : State K) (layers : Layers) (place : StandsAfter p side (is_of role p) (AreOf p layers) history old (end_of old.kept layers)) where
    exchange_is : exchange role p
    exchange_is = has.exchanges role p place.parts_are

    crypto_is : p.crypto ≡ c
    crypto_is = crypto role p exchange_is

    role_is : old.kept.dead ≡ false → side_of layers.authentication ≡ side
    role_is alive = role_of side history layers.authentication (place.sums.above alive).authentication_sums

    judged_by : (l : Login) → side_of l ≡ side → IsJudgedBy p (judging role) l
    judged_by (login.Server server) is = has.judges role p place.parts_are (sym is)
    judged_by (login.Client client) is = tt

    running : old.kept.dead ≡ false → IsRunning p side (judging role) history old layers
    running alive = record {
      lawful = place.lawful;
      layers_are = place.layers_are alive;
      judged = judged_by layers.authentication (role_is alive);
      sums = place.sums;
      run = place.run;
      identified = laws.places.normal p side history (end_of old.kept layers) place.sums place.run alive;
      reading = place.reading;
    }

    module _ (new : State K) (later : Layers) where
      abbrev After : (bytes : List ℕ) → Step → Outs → Type 0
      After bytes done o = TurnedTo p side (is_of role p) (AreOf p later) history bytes done new (end_of new.kept later) o

      takes : old.kept.dead ≡ false → (bytes : List ℕ) (o : Outs) (done : Step) → IsUnitTurned p side history bytes done new later o → TookUnit p side (is_of role p) (AreOf p later) history bytes done new (end_of new.kept later) o
      takes alive bytes o done x = took_unit laws.places p side (is_of role p) (AreOf p layers) (AreOf p later) history old (authentication_of layers.authentication) layers.channels place new (authentication_of later.authentication) later.channels alive bytes done o x.turned x.buffered x.reading x.layers_are

      by_step : old.kept.dead ≡ false → (bytes : List ℕ) (o : Outs) (done : Step) → EndTurnsOn p side history bytes done new later o → After bytes done o
      by_step alive bytes o step.More x = waited laws.places p side (is_of role p) (AreOf p layers) (AreOf p later) history old (authentication_of layers.authentication) layers.channels place new (authentication_of later.authentication) later.channels bytes o x.sums x.waits x.quiet x.alive x.buffered x.reading x.layers_are
      by_step alive bytes o step.OtherLine x = takes alive bytes o step.OtherLine x
      by_step alive bytes o step.VersionLine x = takes alive bytes o step.VersionLine x
      by_step alive bytes o step.Skipped x = takes alive bytes o step.Skipped x
      by_step alive bytes o (step.Took took) x = takes alive bytes o (step.Took took) x
      by_step alive bytes o (step.Refused why) x = takes alive bytes o (step.Refused why) x

      end_turned : (bytes : List ℕ) (done : Step) (o : Outs) → UnitHandled c side (does role) (judging role) old layers bytes done new later o → After bytes done o
      end_turned bytes done o goes =
          by_step goes.took.alive bytes o done (turned laws.turning laws.reading p side (does role) (own role) (below role p exchange_is) laws.server_facts (judging role) history old layers (running goes.took.alive) bytes done new later o
          (subst (λ (w : Crypto K). UnitHandled w side (does role) (judging role) old layers bytes done new later o) (sym crypto_is) goes))

      alive_where : (bytes : List ℕ) → UnitNeedsMemory c side (does role) (own role) (judging role) old layers bytes → old.kept.dead ≡ false
      alive_where bytes (UnitNeedsMemory.by_transport between x) = x.alive
      alive_where bytes (UnitNeedsMemory.by_end given between o took x) = took.alive

      end_died : new.kept.dead ≡ true → (bytes : List ℕ) → UnitNeedsMemory c side (does role) (own role) (judging role) old layers bytes → DiedOn p side (is_of role p) (AreOf p later) history new (end_of new.kept later) bytes
      end_died dead bytes needs_memory =
          died_on laws.places p side (is_of role p) (AreOf p layers) (AreOf p later) history old (authentication_of layers.authentication) layers.channels place new (authentication_of later.authentication) later.channels (alive_where bytes needs_memory) dead bytes
          (unit_dies laws.turning laws.dying p side (does role) (own role) (below role p exchange_is) laws.server_facts (judging role) history old layers (running (alive_where bytes needs_memory)) bytes
          (subst (λ (w : Crypto K). UnitNeedsMemory w side (does role) (own role) (judging role) old layers bytes) (sym crypto_is) needs_memory))

      -- ---- asks

      client_is : (client : kept.Client) → layers.authentication ≡ login.Client client → old.kept.dead ≡ false → side ≡ Client
      client_is client is alive = sym (role_is alive) ∙ ap side_of is

      identified : (client : kept.Client) → layers.authentication ≡ login.Client client → (alive : old.kept.dead ≡ false) → client.opened ≡ true → old.kept.session ≡ None → ⊥
      identified client is alive =
          laws.opened p place.lawful history old.kept client layers.channels
          (subst (λ (l : Login). EndSumsUp p Client history (record { transport = old.kept; authentication = authentication_of l; channels = layers.channels })) is
          (subst (λ (t : Side). EndSumsUp p t history (end_of old.kept layers)) (client_is client is alive) place.sums))
          (subst (λ (t : Side). EndRun p t history) (client_is client is alive) place.run) alive

      asks_by : AsksBy p c (signing role) old.kept layers.authentication
      asks_by = record {
        crypto = crypto_is;
        client = λ client is. record {
          crypto = crypto_is;
          user_signature = λ alive. has.signs role p place.parts_are (client_is client is alive);
          identified = identified client is;
        };
      }

      stays_of : (l n : Login) → KeepsSettings l n → IsLoginOf p l → IsLoginOf p n
      stays_of (login.Server server) n x are = subst (λ (k : Login). IsLoginOf p k) (sym x) are
      stays_of (login.Client client) (login.Client other) x are = tt
      stays_of (login.Client client) (login.Server other) x are = absurd x

      end_asked : (asked : session.Ask) (given : Result AskStep Fault) (o : Outs) → Asks c (signing role) old layers asked given new later o → (new.kept.dead ≡ false → SameReading old new) → AskedTo p side (is_of role p) (AreOf p later) history (end_of old.kept layers) asked given new (end_of new.kept later) o
      end_asked asked given o x same =
          asked_to laws.places p side (is_of role p) (AreOf p layers) (AreOf p later) history old (authentication_of layers.authentication) layers.channels place new (authentication_of later.authentication) later.channels asked o
          (λ e are. record { login = stays_of layers.authentication later.authentication x.settings are.login }) same given
          (x.in_session p side history asks_by place.sums)

  pub lifts : EndLifts side c is_of does own judging signing
  lifts = record {
    turned = λ role p history old layers place bytes done new later o goes. end_turned role p history old layers place new later bytes done o goes;
    died = λ role p history old layers place new later dead bytes needs_memory. end_died role p history old layers place new later dead bytes needs_memory;
    asked = λ role p history old layers place asked given new later o x same. end_asked role p history old layers place new later asked given o x same;
  }
