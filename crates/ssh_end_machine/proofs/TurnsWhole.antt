-- What a transport did alone is what its end did.
use Rattle.std.proofs.Common.{◌≡◌, ℕ, true, List, refl, ap, sym, ◌∙◌, subst}
use Rattle.std.proofs.lemmas.Bool.{false≢true}
use Rattle.ssh_model.specs.declared.side.Side.{Side}
use Rattle.ssh_model.specs.Protocol.Authentication.Requests.{Judge}
use Rattle.ssh_model.specs.State.End.State.{Authentication, EndState}
use Rattle.ssh_model.specs.State.End.Summary.{EndTurned}
use Rattle.ssh_model.specs.Protocol.Sessions.Items.{Item}
use Rattle.ssh_model.specs.Protocol.Sessions.Parties.{Parties}
use Rattle.ssh_model.specs.Protocol.Sessions.Turns.{OnUnit}
use Rattle.ssh_model.specs.State.TransportLayer.Kept.{Transport}
use Rattle.ssh_model.specs.Protocol.Wire.Sealing.{Crypto}
use Rattle.ssh_transport_machine.specs.Puts.{Outs}
use Rattle.ssh_transport_machine.specs.State.{State}
use Rattle.ssh_transport.specs.declared.outcome.Handled.TheVariants as effect
use Rattle.ssh_transport.specs.declared.outcome.TransportTurn.{TransportTurn}
use Rattle.ssh_transport.specs.declared.outcome.TransportTurn.TheVariants as outcome
use Rattle.ssh_end_machine.specs.Outcomes.{is_whole, opened_where, step_given}
use Rattle.ssh_end_machine.specs.Layers.{Layers}
use Rattle.ssh_end_machine.specs.Login.{authentication_of}
use Rattle.ssh_end_machine.specs.Units.{Handles, TransportOnly, opened_by}
use Rattle.ssh_end_machine.specs.Sessions.{AreOf, IsLoginOf, end_of}
use Rattle.ssh_end_machine.specs.Steps.{SendsOn, Shows, UnitTurned}
use Rattle.ssh_end_machine.specs.declared.layers.login.Login.{Login}
use Rattle.ssh_end_machine.specs.declared.layers.login.Login.TheVariants as login
use Rattle.ssh_end_machine.specs.declared.step.Step.{Step}

-- what an end keeps after an answer of its transport
abbrev pub kept_after : {K : Type 0} → Layers → TransportTurn → Transport K → EndState K
kept_after layers given new = record { transport = new; authentication = opened_where given (authentication_of layers.authentication); channels = layers.channels }

opened_so : (given : TransportTurn) (kept : Login) → authentication_of (opened_by given kept) ≡ opened_where given (authentication_of kept)
opened_so (outcome.Up number) kept = refl
opened_so (outcome.Completed choice) kept = refl
opened_so outcome.More kept = refl
opened_so (outcome.Refused why) kept = refl
opened_so (outcome.Done effect.ServiceRequested) (login.Server server) = refl
opened_so (outcome.Done effect.ServiceRequested) (login.Client client) = refl
opened_so (outcome.Done effect.ServiceAccepted) (login.Server server) = refl
opened_so (outcome.Done effect.ServiceAccepted) (login.Client client) = refl
opened_so (outcome.Done effect.OtherLine) kept = refl
opened_so (outcome.Done effect.VersionLine) kept = refl
opened_so (outcome.Done effect.Skipped) kept = refl
opened_so (outcome.Done effect.Disconnected) kept = refl
opened_so (outcome.Done effect.Told) kept = refl
opened_so (outcome.Done effect.Unknown) kept = refl
opened_so (outcome.Done effect.Kexinit) kept = refl
opened_so (outcome.Done effect.NewKeys) kept = refl

same_end : {K : Type 0} (s : Transport K) (layers : Layers) (given : TransportTurn) → end_of s (record layers { authentication = opened_by given layers.authentication }) ≡ kept_after layers given s
same_end s layers given = ap (λ (a : Authentication). record { transport = s; authentication = a; channels = layers.channels }) (opened_so given layers.authentication)

-- what authentication has of the settings stays as it is
pub still_of : {K : Type 0} (p : Parties K) (given : TransportTurn) (layers : Layers) → AreOf p layers → AreOf p (record layers { authentication = opened_by given layers.authentication })
still_of p given layers x = record { login = go given layers.authentication x.login }
  where
    go : (given : TransportTurn) (kept : Login) → IsLoginOf p kept → IsLoginOf p (opened_by given kept)
    go (outcome.Up number) kept x = x
    go (outcome.Completed choice) kept x = x
    go outcome.More kept x = x
    go (outcome.Refused why) kept x = x
    go (outcome.Done effect.ServiceRequested) (login.Server server) x = record { tries = x.tries; methods = x.methods; failure = x.failure }
    go (outcome.Done effect.ServiceRequested) (login.Client client) x = x
    go (outcome.Done effect.ServiceAccepted) (login.Server server) x = x
    go (outcome.Done effect.ServiceAccepted) (login.Client client) x = tt
    go (outcome.Done effect.OtherLine) kept x = x
    go (outcome.Done effect.VersionLine) kept x = x
    go (outcome.Done effect.Skipped) kept x = x
    go (outcome.Done effect.Disconnected) kept x = x
    go (outcome.Done effect.Told) kept x = x
    go (outcome.Done effect.Unknown) kept x = x
    go (outcome.Done effect.Kexinit) kept x = x
    go (outcome.Done effect.NewKeys) kept x = x

-- ---- the answer

pub goes_whole : {K : Type 0} (c : Crypto K) (judge : Judge) (given : TransportTurn) (between : State K) (old : Layers) (done : Step) (new : State K) (later : Layers) (o : Outs) → is_whole given ≡ true → Handles c judge given between old done new later o → TransportOnly given between old done new later o.before o.after o.payloads_before o.payloads_after
goes_whole c judge (outcome.Up number) between old done new later o e x = absurd (false≢true e)
goes_whole c judge (outcome.Completed choice) between old done new later o e x = absurd (false≢true e)
goes_whole c judge outcome.More between old done new later o e x = x
goes_whole c judge (outcome.Refused why) between old done new later o e x = x
goes_whole c judge (outcome.Done done_so) between old done new later o e x = x

-- a turn of the transport is that of the end
pub whole_turn : {K : Type 0} (p : Parties K) (side : Side) (history : List Item) (bytes payload : List ℕ) (given : TransportTurn) (between : State K) (layers : Layers) (done : Step) (new : State K) (later : Layers) (o : Outs) (middle : List ℕ) (payloads_before : List (List ℕ)) →
    TransportOnly given between layers done new later middle o.after payloads_before o.payloads_after →
    UnitTurned p side history bytes payload (step_given given) (kept_after layers given between.kept) (record { before = o.before; after = middle; payloads_before = o.payloads_before; payloads_after = payloads_before }) → UnitTurned p side history bytes payload done (end_of new.kept later) o
whole_turn {K} p side history bytes payload given between layers done new later o middle payloads_before x y =
    let ends : kept_after layers given between.kept ≡ end_of new.kept later =
    sym (ap (λ (w : State K). end_of w.kept later) x.same ∙ (ap (λ (l : Layers). end_of between.kept l) x.layers_are ∙ same_end between.kept layers given)) in
    record {
      items = y.items;
      more = y.more;
      shows = subst (λ (d : Step). Shows payload d y.items) (sym x.shown) y.shows;
      sends_on = subst (λ (d : Step). SendsOn p side history y.items d) (sym x.shown) y.sends_on;
      turned = subst (λ (e : EndState K). EndTurned p side history (OnUnit p side history bytes) y.items y.more e) ends y.turned;
      parts = x.out ∙ y.parts;
      lists = x.lists ∙ y.lists;
    }
