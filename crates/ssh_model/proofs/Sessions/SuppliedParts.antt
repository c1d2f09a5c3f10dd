-- What is read off a history by the parties, except for what the supplied parts answer, is the same with other parts.
use Rattle.std.proofs.Common.{◌≡◌, ℕ, zero, suc, Bool, true, false, List, [], ◌∷◌, refl, ap}
use Rattle.ssh_model.specs.declared.side.Side.{Side}
use Rattle.ssh_model.specs.declared.side.Side.TheVariants.{Client, Server}
use Rattle.ssh_model.specs.Protocol.Side.{peer}
use Rattle.ssh_model.specs.Protocol.Wire.Message.{Msg.KexInit, Msg.NewKeys, Msg.KexEcdhInit, Msg.KexEcdhReply}
use Rattle.ssh_model.specs.Protocol.Wire.Unit.{Stage.Packets}
use Rattle.ssh_model.specs.Protocol.KeyExchange.Exchanges.{exchange, exchanges, key_in, taking_number}
use Rattle.ssh_model.specs.Protocol.Sessions.Epochs.{count, epoch}
use Rattle.ssh_model.specs.Protocol.Sessions.Parties.{Parties}
use Rattle.ssh_model.specs.Protocol.Sessions.Items.{Ask, Ask.AskService, Ask.AskRekey, Ask.AskDisconnect, Item, Item.Sent, Item.Took}
use Rattle.ssh_model.specs.Protocol.Sessions.Items.{Item.TookGuess, took}
use Rattle.ssh_model.specs.Protocol.Sessions.Phases.{phase, may_take, has_line}
use Rattle.ssh_model.specs.Protocol.Sessions.Transport.{transport_ask_checks}
use Rattle.ssh_model.specs.Protocol.Sessions.Turns.{stage, stage_after, ask_checks}
use Rattle.ssh_model.specs.Protocol.Channels.Connection.{connection_ask_checks}
use Rattle.ssh_model.specs.State.TransportLayer.View.{view}
use Rattle.ssh_model.specs.Laws.Supplied.{Supplied, supplied_by}

module _ {K : Type 0} (p : Parties K) (given : Supplied) where
  pub same_phase : (side : Side) (h : List Item) → phase (supplied_by given p) side h ≡ phase p side h
  same_phase side [] = refl
  same_phase Client (Took c (KexInit theirs) b ∷ h) = refl
  same_phase Server (Took c (KexInit theirs) b ∷ h) = refl
  same_phase side (TookGuess b ∷ h) = refl
  same_phase side (Took c (KexEcdhInit q) b ∷ h) = refl
  same_phase side (Took c (KexEcdhReply k q s) b ∷ h) = refl
  same_phase side (Took c NewKeys b ∷ h) = refl
  same_phase side (i ∷ h) = same_phase side h

  same_exchange : (side : Side) (e : ℕ) (h : List Item) → exchange (supplied_by given p) side e h ≡ exchange p side e h
  same_exchange Client e h = refl
  same_exchange Server e h = refl

  pub same_exchanges : (side : Side) (h : List Item) → exchanges (supplied_by given p) side h ≡ exchanges p side h
  same_exchanges side [] = refl
  same_exchanges side (Sent c NewKeys b ∷ h) = rw (same_exchange side _ h, same_exchanges side h) refl
  same_exchanges side (i ∷ h) = same_exchanges side h

  same_key : (side from : Side) (e : ℕ) (h : List Item) → key_in (supplied_by given p) side from e h ≡ key_in p side from e h
  same_key side from zero h = refl
  same_key side from (suc e) h = rw (same_exchanges side h) refl

  same_stage_after : (side : Side) (h : List Item) (line : Bool) → stage_after (supplied_by given p) side h line ≡ stage_after p side h line
  same_stage_after side h true =
      ap (λ key. Packets key (taking_number side h) (count (took h))) (same_key side (peer side) (epoch (took h)) h)
  same_stage_after side h false = refl

  pub same_stage : (side : Side) (h : List Item) → stage (supplied_by given p) side h ≡ stage p side h
  same_stage side h = same_stage_after side h (has_line h)

  pub same_may_take : (side : Side) (h : List Item) (n : ℕ) → may_take (supplied_by given p) side h n ≡ may_take p side h n
  same_may_take Client h n = rw (same_phase Client h) refl
  same_may_take Server h n = rw (same_phase Server h) refl

  same_transport_asks : (side : Side) (h : List Item) (ask : Ask) →
      transport_ask_checks (supplied_by given p) side h ask ≡ transport_ask_checks p side h ask
  same_transport_asks side h AskRekey = rw (same_phase side h) refl
  same_transport_asks side h AskService = refl
  same_transport_asks side h (AskDisconnect description) = refl
  same_transport_asks side h ask = refl

  same_connection_asks : (side : Side) (h : List Item) (ask : Ask) →
      connection_ask_checks (supplied_by given p) side h ask ≡ connection_ask_checks p side h ask
  same_connection_asks Client h ask = refl
  same_connection_asks Server h ask = refl

  pub same_ask_checks : (side : Side) (h : List Item) (ask : Ask) → ask_checks (supplied_by given p) side h ask ≡ ask_checks p side h ask
  same_ask_checks side h ask = rw (same_transport_asks side h ask, same_connection_asks side h ask) refl

  pub same_view : (side : Side) (h : List Item) → view (supplied_by given p) side h ≡ view p side h
  same_view side h = rw (same_phase side h, same_exchanges side h) refl
