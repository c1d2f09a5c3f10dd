-- A machine that was just made.
use Rattle.std.specs.Prelude.{◌≡◌, ℕ, true, None, List, [], ◌∷◌, ◌++◌}
use Rattle.ssh_model.specs.declared.side.Side.{Side}
use Rattle.ssh_model.specs.Protocol.Wire.Line.{line_end}
use Rattle.ssh_model.specs.Protocol.Wire.Message.{Msg.KexInit}
use Rattle.ssh_model.specs.Protocol.Wire.Sealing.{Crypto, IsSealed}
use Rattle.ssh_model.specs.Protocol.Sessions.Parties.{Settings, offer_of}
use Rattle.ssh_model.specs.Protocol.Sessions.Phases.{is_client}
use Rattle.ssh_model.specs.Protocol.Sessions.Turns.{IsEncoded}
use Rattle.ssh_model.specs.State.TransportLayer.Kept.{after_sent, new_transport}
use Rattle.ssh_packet.specs.Lines.{no_lines}
use Rattle.ssh_packet.specs.Directions.{new_direction, new_receiver}
use Rattle.ssh_transport_machine.specs.Puts.{Outs}
use Rattle.ssh_transport_machine.specs.State.{State}

-- before its version line and its first KEXINIT
abbrev pub unopened : {K : Type 0} → Settings → Side → (secret : List ℕ) → State K
unopened settings side secret = record {
  reading = no_lines (is_client side);
  receiver = new_receiver new_direction;
  kept = record (new_transport settings side secret []) { sending = new_direction };
}

-- It put out its version line and its first KEXINIT, and listed that.
pub record IsOpened {K : Type 0} (c : Crypto K) (settings : Settings) (side : Side) (cookie secret : List ℕ)
    (new : State K) (o : Outs) : Type 0 where
  pub payload : List ℕ
  pub encoded : IsEncoded (KexInit (offer_of settings side true cookie)) payload
  pub wire : List ℕ
  pub sealed : IsSealed c None 0 payload wire
  pub parts : o.after ≡ o.before ++ ((settings.line ++ line_end) ++ wire)
  pub lists : o.payloads_after ≡ o.payloads_before ++ payload ∷ []
  pub state_is : new ≡ record (unopened settings side secret) { kept = new_transport settings side secret payload }

-- A machine put out its version line and a first KEXINIT, which is its own of the exchange under way.
pub record IsBegun {K : Type 0} (c : Crypto K) (old : State K) (cookie : List ℕ) (new : State K) (o : Outs) :
    Type 0 where
  pub payload : List ℕ
  pub encoded : IsEncoded (KexInit (offer_of old.kept.settings old.kept.side true cookie)) payload
  pub wire : List ℕ
  pub sealed : IsSealed c old.kept.sending.key old.kept.sending.number payload wire
  pub parts : o.after ≡ o.before ++ ((old.kept.settings.line ++ line_end) ++ wire)
  pub lists : o.payloads_after ≡ o.payloads_before ++ payload ∷ []
  pub after : new ≡ record old {
    kept = record (after_sent old.kept) { underway = record old.kept.underway { own = payload } };
  }
