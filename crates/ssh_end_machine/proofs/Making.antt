-- Where an end stands that was made.
use Rattle.std.proofs.Common.{◌≡◌, ℕ, true, false, None, arith, List, [], ◌∷◌, ◌++◌, refl, ap, sym, ◌∙◌, subst}
use Rattle.ssh_model.specs.State.Channels.Kept.{Channels, no_channels}
use Rattle.ssh_model.specs.State.End.State.{Authentication, EndState, new_authentication, new_end}
use Rattle.ssh_model.specs.State.End.Summary.{HasOpened}
use Rattle.ssh_model.specs.Protocol.Sessions.AnyPeer.{IsGuarded}
use Rattle.ssh_model.specs.Protocol.Sessions.Items.{Item, Item.Fed, Item.Sent, Item.SentLine, Encoded.EncodedBy}
use Rattle.ssh_model.specs.Protocol.Sessions.Parties.{AreLawful, Parties, Settings, offer, settings_of}
use Rattle.ssh_model.specs.Protocol.Sessions.Turns.{EndRun, IsMaterial}
use Rattle.ssh_model.specs.Protocol.Sessions.TurnClaims.{HasEncoding}
use Rattle.ssh_model.specs.declared.side.Side.{Side}
use Rattle.ssh_model.specs.declared.side.Side.TheVariants.{Client, Server}
use Rattle.ssh_model.specs.State.TransportLayer.Directions.{new_direction}
use Rattle.ssh_model.specs.State.TransportLayer.Kept.{Transport}
use Rattle.ssh_model.specs.State.TransportLayer.Turns.{PutsPackets}
use Rattle.ssh_model.specs.Protocol.Wire.Line.{line_end}
use Rattle.ssh_model.specs.Protocol.Wire.Message.{Msg.KexInit, Msg.UserauthFailure}
use Rattle.ssh_model.specs.Protocol.Wire.Sealing.{Crypto}
use Rattle.ssh_transport_machine.specs.Opening.{IsOpened}
use Rattle.ssh_transport_machine.specs.Puts.{Outs}
use Rattle.ssh_transport_machine.specs.State.{State}
use Rattle.ssh_end_machine.specs.Asking.{end_with}
use Rattle.ssh_end_machine.specs.Login.{authentication_of, new_login}
use Rattle.ssh_end_machine.specs.Sessions.{IsLoginOf}
use Rattle.ssh_end_machine.specs.Reading.{IsReading}
use Rattle.ssh_end_machine.specs.Stands.{MadeAt}

-- the laws of openings
pub record OpeningLaws (K : Type 0) : Type 0 where
  pub opened : (p : Parties K) (side : Side) (cookie secret payload more : List ℕ) → IsMaterial cookie secret → PutsPackets p.crypto new_direction (EncodedBy (KexInit (offer p side true cookie)) payload ∷ []) more →
      HasOpened p side (Sent None (KexInit (offer p side true cookie)) payload ∷ SentLine (settings_of p side).line ∷ Fed cookie secret ∷ []) (((settings_of p side).line ++ line_end) ++ more) (new_end (settings_of p side) side secret payload)
  pub run : (p : Parties K) (side : Side) (items : List Item) (bytes : List ℕ) (e : EndState K) → HasOpened p side items bytes e → EndRun p side items
  pub reading : (c : Crypto K) (settings : Settings) (side : Side) (cookie secret : List ℕ) (new : State K) (o : Outs) → IsOpened c settings side cookie secret new o → IsReading c new
  pub guards : (p : Parties K) → AreLawful p → (side : Side) → (h : List Item) → EndRun p side h → IsGuarded p side h

-- what is said of a sealing and of settings holds of those of parties
opened_at : {K : Type 0} (p : Parties K) (side : Side) (c : Crypto K) (given : Settings) (cookie secret : List ℕ) (machine : State K) (o : Outs) → p.crypto ≡ c → settings_of p side ≡ given → IsOpened c given side cookie secret machine o → IsOpened p.crypto (settings_of p side) side cookie secret machine o
opened_at {K} p side c given cookie secret machine o e f x =
    subst (λ (k : Crypto K). IsOpened k (settings_of p side) side cookie secret machine o) (sym e) (subst (λ (s : Settings). IsOpened c s side cookie secret machine o) (sym f) x)

-- new authentication is of the settings that it is made of
pub new_login_of : {K : Type 0} (p : Parties K) (side : Side) (given : Settings) → settings_of p side ≡ given → HasEncoding (UserauthFailure given.methods false) → IsLoginOf p (new_login side given.tries given.methods)
new_login_of p Server given is fits = record {
  tries = sym (ap (λ (s : Settings). s.tries) is);
  methods = sym (ap (λ (s : Settings). s.methods) is);
  failure = subst (λ (s : Settings). HasEncoding (UserauthFailure s.methods false)) (sym is) fits;
}
new_login_of p Client given is fits = tt

pub new_login_is : (side : Side) (tries : ℕ) (methods : List (List ℕ)) → authentication_of (new_login side tries methods) ≡ new_authentication side
new_login_is Server tries methods = refl
new_login_is Client tries methods = refl

module _ {K : Type 0} (laws : OpeningLaws K) (p : Parties K) (side : Side) (parts layers : Type 0) (lawful : AreLawful p) (parts_are : parts) (layers_are : layers) (cookie secret : List ℕ) (material : IsMaterial cookie secret)
    (machine : State K) (a : Authentication) (ch : Channels) (a_is : a ≡ new_authentication side) (ch_is : ch ≡ no_channels) (o : Outs) (none : o.payloads_before ≡ []) where
  from_opened : IsOpened p.crypto (settings_of p side) side cookie secret machine o → MadeAt p side parts layers (record { cookie = cookie; secret = secret }) machine (end_with machine a ch) o.before o.after o.payloads_after
  from_opened x =
      let items : List Item = Sent None (KexInit (offer p side true cookie)) x.payload ∷ SentLine (settings_of p side).line ∷ Fed cookie secret ∷ [] in
      let bytes : List ℕ = ((settings_of p side).line ++ line_end) ++ x.wire in
      let is : new_end (settings_of p side) side secret x.payload ≡ end_with machine a ch =
      sym (ap (λ (k : Transport K). record { transport = k; authentication = a; channels = ch }) (ap (λ s. s.kept) x.state_is)
      ∙ (ap (λ (w : Authentication). record { transport = (new_end (settings_of p side) side secret x.payload).transport; authentication = w; channels = ch }) a_is
      ∙ ap (λ (w : Channels). record { transport = (new_end (settings_of p side) side secret x.payload).transport; authentication = new_authentication side; channels = w }) ch_is)) in
      let opened : HasOpened p side items bytes (end_with machine a ch) =
      subst (λ (e : EndState K). HasOpened p side items bytes e) is
      (laws.opened p side cookie secret x.payload x.wire material (PutsPackets.packet (KexInit (offer p side true cookie)) x.payload x.wire PutsPackets.nothing x.encoded (omega arith) x.sealed)) in
      let run : EndRun p side items = laws.run p side items bytes (end_with machine a ch) opened in
      let reading : IsReading p.crypto machine = laws.reading p.crypto (settings_of p side) side cookie secret machine o x in
      record {
        items = items;
        bytes = bytes;
        opened = opened;
        material_is = refl;
        out = x.parts;
        lists = x.lists ∙ ap (λ (l : List (List ℕ)). l ++ x.payload ∷ []) none;
        place = record {
          lawful = lawful;
          parts_are = parts_are;
          layers_are = λ e. layers_are;
          sums = opened.sums;
          run = run;
          reading = λ e. reading;
          guarded = laws.guards p lawful side items run;
        };
      }

  pub made_at : (c : Crypto K) (given : Settings) → p.crypto ≡ c → settings_of p side ≡ given → IsOpened c given side cookie secret machine o → MadeAt p side parts layers (record { cookie = cookie; secret = secret }) machine (end_with machine a ch) o.before o.after o.payloads_after
  made_at c given e f x = from_opened (opened_at p side c given cookie secret machine o e f x)
