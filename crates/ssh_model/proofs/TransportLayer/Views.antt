-- What each item makes of the view of a history.
use Rattle.std.proofs.Common.{◌≡◌, ℕ, zero, suc, List, ◌∷◌, refl, Option}
use Rattle.ssh_model.specs.declared.side.Side.{Side}
use Rattle.ssh_model.specs.declared.side.Side.TheVariants.{Client, Server}
use Rattle.ssh_model.specs.Protocol.Wire.Message.{Msg, Msg.KexInit, Msg.NewKeys, Msg.KexEcdhInit, Msg.KexEcdhReply, Msg.ServiceRequest, Msg.ServiceAccept, Msg.UserauthSuccess}
use Rattle.ssh_model.specs.Protocol.KeyExchange.Exchanges.{choices, exchanges, key_in}
use Rattle.ssh_model.specs.Protocol.Sessions.Parties.{Parties}
use Rattle.ssh_model.specs.Protocol.Sessions.Items.{Item, Item.Sent, Item.Took, Item.Told, Item.Asked, Item.AskRefused, Payload.OtherOf, has_died}
use Rattle.ssh_model.specs.State.TransportLayer.Summary.{IsPlain, LeavesTransport}
use Rattle.ssh_model.specs.State.TransportLayer.View.{view, key_from}

module _ {K : Type 0} (p : Parties K) where
  pub plain_sent : (side : Side) (h : List Item) (c : Option ℕ) (m : Msg) (b : List ℕ) → IsPlain m → view p side (Sent c m b ∷ h) ≡ record (view p side h) { sent = OtherOf b ∷ (view p side h).sent }
  plain_sent side h c (ServiceRequest service) b l = elim l [ ]
  plain_sent side h c (ServiceAccept service) b l = elim l [ ]
  plain_sent side h c (KexInit proposal) b l = elim l [ ]
  plain_sent side h c NewKeys b l = elim l [ ]
  plain_sent side h c (KexEcdhInit q_c) b l = elim l [ ]
  plain_sent side h c (KexEcdhReply k_s q_s signature) b l = elim l [ ]
  plain_sent side h c UserauthSuccess b l = elim l [ ]
  plain_sent Client h c m b l = refl
  plain_sent Server h c m b l = refl

  pub plain_taken : (side : Side) (h : List Item) (c : Option ℕ) (m : Msg) (b : List ℕ) → IsPlain m → view p side (Took c m b ∷ h) ≡ record (view p side h) { took = OtherOf b ∷ (view p side h).took }
  plain_taken side h c (ServiceRequest service) b l = elim l [ ]
  plain_taken side h c (ServiceAccept service) b l = elim l [ ]
  plain_taken side h c (KexInit proposal) b l = elim l [ ]
  plain_taken side h c NewKeys b l = elim l [ ]
  plain_taken side h c (KexEcdhInit q_c) b l = elim l [ ]
  plain_taken side h c (KexEcdhReply k_s q_s signature) b l = elim l [ ]
  plain_taken side h c UserauthSuccess b l = elim l [ ]
  plain_taken Client h c m b l = refl
  plain_taken Server h c m b l = refl

  pub left : (side : Side) (h : List Item) (i : Item) → LeavesTransport i → view p side (i ∷ h) ≡ view p side h
  left Client h (Asked ask) l = refl
  left Server h (Asked ask) l = refl
  left Client h (AskRefused why) l = refl
  left Server h (AskRefused why) l = refl
  left Client h (Told fact) l = refl
  left Server h (Told fact) l = refl
  left side h i l = elim l [ ]

  pub left_alive : (h : List Item) (i : Item) → LeavesTransport i → has_died (i ∷ h) ≡ has_died h
  left_alive h (Asked ask) l = refl
  left_alive h (AskRefused why) l = refl
  left_alive h (Told fact) l = refl
  left_alive h i l = elim l [ ]

  pub key_same : (side from : Side) (e : ℕ) (h : List Item) → key_in p side from e h ≡ key_from p.crypto from e (exchanges p side h) (choices side h)
  key_same side from zero h = refl
  key_same side from (suc e) h = refl
