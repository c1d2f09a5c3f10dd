-- What is known of an end where it sends a message.
use Rattle.std.proofs.Common.{◌≡◌, ℕ, suc, ◌+◌, ◌<◌, List, [], ◌∷◌, length, true, false, Option, Some, None}
use Rattle.std.specs.Prelude.{codes}
use Rattle.ssh_model.specs.declared.side.Side.{Side}
use Rattle.ssh_model.specs.declared.side.Side.TheVariants.{Client, Server}
use Rattle.ssh_model.specs.Protocol.Wire.DataTypes.{is_text}
use Rattle.ssh_model.specs.Protocol.Wire.Message.{Msg, Msg.Disconnect, Msg.Ignore, Msg.Unimplemented, Msg.Debug, Msg.ServiceRequest, Msg.ServiceAccept, Msg.ExtInfo, Msg.KexInit, Msg.NewKeys, Msg.KexEcdhInit, Msg.KexEcdhReply, Msg.UserauthRequest, Msg.UserauthFailure, Msg.UserauthSuccess, Msg.UserauthBanner, Msg.UserauthPkOk, Msg.RequestSuccess, Msg.RequestFailure, Msg.ChannelSuccess, Msg.ChannelFailure, Msg.Unknown, Method}
use Rattle.ssh_model.specs.Protocol.Sessions.Items.{Item, Item.Sent, sent, Encoded, Encoded.EncodedBy, messages_sent, messages_taken}
use Rattle.ssh_model.specs.Protocol.Sessions.Epochs.{count, epoch}
use Rattle.ssh_model.specs.Protocol.KeyExchange.Exchanges.{offers, peer_takes_extensions, points, replies}
use Rattle.ssh_model.specs.Protocol.Sessions.Phases.{is_probe, sent_service_accept, sent_service_request, sent_success, took_service_accept, took_service_request, took_success}
use Rattle.ssh_model.specs.Protocol.Channels.Numbers.{waiting_here}
use Rattle.ssh_model.specs.Protocol.Channels.Connection.{globals_here, notes}
use Rattle.ssh_model.proofs.Sessions.Serving.{is_in}
use Rattle.ssh_model.proofs.AnyPeer.Tally.{answers, said}

-- the end sent so many more KEXINITs, and so many more messages of the method, than NEWKEYS
pub record Stands (side : Side) (offered spoken : ℕ) (h : List Item) : Type 0 where
  pub offers : length (offers (messages_sent h)) ≡ offered + epoch (sent h)
  pub points : side ≡ Client → length (points (messages_sent h)) ≡ spoken + epoch (sent h)
  pub replies : side ≡ Server → length (replies (messages_sent h)) ≡ spoken + epoch (sent h)

-- no exchange of its own is under way, and it has a key
pub record Normally (side : Side) (h : List Item) : Type 0 where
  pub stands : Stands side 0 0 h
  pub keyed : 0 < epoch (sent h)

-- and it is authenticated
pub record Above (side : Side) (h : List Item) : Type 0 where
  pub normally : Normally side h
  pub let_in : is_in side (sent_success h) (took_success h) ≡ true

-- a KEXINIT is the very first payload, or it comes after the authentication
pub record OffersAt (side : Side) (h : List Item) : Type 0 where
  pub stands : Stands side 0 0 h
  pub let_in : 0 < epoch (sent h) → is_in side (sent_success h) (took_success h) ≡ true
  pub first : epoch (sent h) ≡ 0 → sent h ≡ []

pub record ServiceAt (side : Side) (service : List ℕ) (h : List Item) : Type 0 where
  pub side_is : side ≡ Client
  pub normally : Normally side h
  pub named : is_text service (codes "ssh-userauth") ≡ true
  pub first : sent_service_request h ≡ false

pub record AcceptAt (side : Side) (service : List ℕ) (h : List Item) : Type 0 where
  pub side_is : side ≡ Server
  pub normally : Normally side h
  pub named : is_text service (codes "ssh-userauth") ≡ true
  pub asked : took_service_request h ≡ true
  pub first : sent_service_accept h ≡ false

-- EXT_INFO comes right after the first NEWKEYS
pub record ExtensionsAt (side : Side) (h : List Item) : Type 0 where
  pub normally : Normally side h
  pub first : epoch (sent h) ≡ 1
  pub next : count (sent h) ≡ 0
  pub wanted : peer_takes_extensions side h ≡ true

pub record UserAt (side : Side) (h : List Item) : Type 0 where
  pub side_is : side ≡ Client
  pub normally : Normally side h
  pub accepted : took_service_accept h ≡ true

-- the last request about a user is not answered
pub record AnswerAt (side : Side) (h : List Item) : Type 0 where
  pub side_is : side ≡ Server
  pub normally : Normally side h
  pub behind : said 50 (messages_taken h) ≡ suc (answers (messages_sent h))

-- the method of the last request about a user among messages
abbrev pub last_request : List Encoded → Option Method
last_request [] = None
last_request (EncodedBy (UserauthRequest user service method) b ∷ l) = Some method
last_request (_ ∷ l) = last_request l

-- one of the messages is unknown
abbrev pub HasUnknown : List Encoded → Type 0
HasUnknown [] = ⊥
HasUnknown (EncodedBy (Unknown n) b ∷ l) = Unit {0}
HasUnknown (_ ∷ l) = HasUnknown l

-- a request on the channel waits for a reply
abbrev pub RepliesAt : Side → Option ℕ → List Item → Type 0
RepliesAt side None h = ⊥
RepliesAt side (Some x) h = 0 < waiting_here x (notes side h)

abbrev pub Sendable : Side → Option ℕ → Msg → List Item → Type 0
Sendable side c (Disconnect r d l) h = Unit {0}
Sendable side c (Ignore b) h = ⊥
Sendable side c (Unimplemented n) h = HasUnknown (messages_taken h)
Sendable side c (Debug d b l) h = ⊥
Sendable side c (ServiceRequest s) h = ServiceAt side s h
Sendable side c (ServiceAccept s) h = AcceptAt side s h
Sendable side c (ExtInfo e) h = ExtensionsAt side h
Sendable side c (KexInit o) h = OffersAt side h
Sendable side c NewKeys h = Stands side 1 1 h
Sendable side c (KexEcdhInit q) h = (side ≡ Client) × Stands side 1 0 h
Sendable side c (KexEcdhReply k q s) h = (side ≡ Server) × Stands side 1 0 h
Sendable side c (UserauthRequest u s m) h = UserAt side h
Sendable side c (UserauthFailure a d) h = AnswerAt side h
Sendable side c UserauthSuccess h = AnswerAt side h
Sendable side c (UserauthBanner b l) h = ⊥
Sendable side c (UserauthPkOk a k) h = AnswerAt side h × (is_probe (last_request (messages_taken h)) ≡ true)
Sendable side c (RequestSuccess r) h = Above side h × (0 < globals_here h)
Sendable side c RequestFailure h = Above side h × (0 < globals_here h)
Sendable side c (ChannelSuccess t) h = Above side h × RepliesAt side c h
Sendable side c (ChannelFailure t) h = Above side h × RepliesAt side c h
Sendable side c (Unknown n) h = ⊥
Sendable side c m h = Above side h

abbrev pub AllSends : Side → List Item → Type 0
AllSends side [] = Unit {0}
AllSends side (Sent c m b ∷ h) = Sendable side c m h × AllSends side h
AllSends side (_ ∷ h) = AllSends side h
