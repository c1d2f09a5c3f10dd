-- The runs of the transport of one end, whatever the layers above it do (own).
use Rattle.std.specs.Prelude.{◌≡◌, ℕ, ◌<◌, ◌≤◌, ◌==◌, ◌||◌, Bool, true, false, Option, None, List, [], ◌∷◌, ◌++◌}
use Rattle.ssh_model.specs.declared.side.Side.{Side}
use Rattle.ssh_model.specs.declared.side.Side.TheVariants.{Client, Server}
use Rattle.ssh_model.specs.declared.refusal.Refusal.{Refusal}
use Rattle.ssh_model.specs.Protocol.Bounds.{numbers_of_epoch}
use Rattle.ssh_model.specs.Protocol.Wire.Message.{Msg, Msg.UserauthRequest, Msg.UserauthSuccess, message_number}
use Rattle.ssh_model.specs.Protocol.Sessions.Parties.{Parties}
use Rattle.ssh_model.specs.Protocol.Sessions.Items.{Item, Item.Died, Item.Sent, Item.Took, has_died, sent}
use Rattle.ssh_model.specs.Protocol.Sessions.Epochs.{count, epoch}
use Rattle.ssh_model.specs.Protocol.Sessions.Phases.{Phase.Normal, blocked, phase, service_requested}
use Rattle.ssh_model.specs.Protocol.Sessions.Transport.{CompletingAnswer}
use Rattle.ssh_model.specs.Protocol.Sessions.Turns.{AreEncoded, AreNumbered, IsOpening, Refuses, Turn, IsAcceptable, number_of}

-- The numbers of the messages that only a transport sends: DISCONNECT, those of a service, and those of a key
-- exchange.
abbrev pub is_own_number : ℕ → Bool
is_own_number n = n == 1 || n == 5 || n == 6 || n == 20 || n == 21 || n == 30 || n == 31

-- The message is a request for a user, or says that the user is authenticated.
abbrev pub is_of_user : Msg → Bool
is_of_user (UserauthRequest _ _ _) = true
is_of_user UserauthSuccess = true
is_of_user _ = false

-- A payload that the layers above sent under a key, as a message of its number. The layers say which message it is.
-- USERAUTH_SUCCESS, by which a transport counts its user as authenticated, is the server's alone. Neither it nor a request
-- for a user comes before the service was asked for. Otherwise an end whose user is authenticated could still ask for the
-- service, or grant it, while it is blocked.
pub record SentAbove (side : Side) (h : List Item) (message : Msg) (payload : List ℕ) : Type 0 where
  pub alive : has_died h ≡ false
  pub number : message_number message ≡ number_of payload
  pub theirs : is_own_number (number_of payload) ≡ false
  pub success : message ≡ UserauthSuccess → side ≡ Server
  pub service : is_of_user message ≡ true → service_requested side h ≡ true
  pub keyed : 0 < epoch (sent h)
  -- An end that is blocked sends only UNIMPLEMENTED.
  pub unblocked : blocked h ≡ true → number_of payload ≡ 3
  pub room : count (sent h) < numbers_of_epoch

-- A payload numbered 50 or above that the layers above took while no exchange of the peer's was under way, as a message of its
-- number. Only a client takes USERAUTH_SUCCESS, and only after it asked for the service.
pub record TookAbove {K : Type 0} (p : Parties K) (side : Side) (h : List Item) (message : Msg) (payload : List ℕ) : Type 0 where
  pub alive : has_died h ≡ false
  pub number : message_number message ≡ number_of payload
  pub above : 50 ≤ number_of payload
  pub normal : phase p side h ≡ Normal
  pub success : message ≡ UserauthSuccess → side ≡ Client
  pub service : message ≡ UserauthSuccess → service_requested side h ≡ true

-- The items that the transport of an end of this side may add in one turn, the newest first: a turn of an end, or what the
-- layers above make it do. The rules say only which payloads these layers may send and take. They may refuse the peer for
-- anything, owe it no reply when an exchange is completed, and die of a failed allocation.
pub data TransportTurn {K : Type 0} (p : Parties K) (side : Side) (h : List Item) : List Item → Type 0 where
  of_end : {items : List Item} → Turn p side h items → TransportTurn p side h items
  sends : (channel : Option ℕ) (message : Msg) (payload : List ℕ) → SentAbove side h message payload →
      TransportTurn p side h (Sent channel message payload ∷ [])
  takes : (channel : Option ℕ) (message : Msg) (payload : List ℕ) → TookAbove p side h message payload →
      TransportTurn p side h (Took channel message payload ∷ [])
  completes : {items : List Item} (message : Msg) (payload : List ℕ) → has_died h ≡ false → IsAcceptable p side h message payload →
      CompletingAnswer p [] side h message items → AreEncoded items → AreNumbered items (Took None message payload ∷ h) →
      TransportTurn p side h (items ++ Took None message payload ∷ [])
  refuses : {items : List Item} (why : Refusal) (payload : Option (List ℕ)) → has_died h ≡ false →
      Refuses h why payload items → TransportTurn p side h items
  dies : has_died h ≡ false → TransportTurn p side h (Died ∷ [])

-- The runs of the transport of one end: its opening, and then turns, whatever comes to it and whatever is asked of it.
pub data TransportRun {K : Type 0} (p : Parties K) (side : Side) : List Item → Type 0 where
  start : {items : List Item} → IsOpening p side items → TransportRun p side items
  then_turn : {h items : List Item} → TransportRun p side h → TransportTurn p side h items →
      TransportRun p side (items ++ h)
