-- What a client keeps to about its login, whoever its peer is (own).
use Rattle.std.specs.Prelude.{◌≡◌, ℕ, ◌<◌, ◌≤◌, List, [], ◌∷◌, ◌⊎◌, Option, true}
use Rattle.ssh_model.specs.declared.side.Side.TheVariants.{Client}
use Rattle.ssh_model.specs.declared.request_kind.RequestKind.{RequestKind}
use Rattle.ssh_model.specs.Protocol.Lists.{IsIn, IsOlder}
use Rattle.ssh_model.specs.Protocol.Wire.Message.{Msg, Msg.UserauthRequest, Msg.UserauthFailure, Msg.UserauthSuccess}
use Rattle.ssh_model.specs.Protocol.Wire.Message.{Msg.UserauthPkOk, Method, message_number}
use Rattle.ssh_model.specs.Protocol.Sessions.Items.{Item, Item.Sent, Item.Took, Item.Told, Fact.Authenticated, kind_of, sent, took}
use Rattle.ssh_model.specs.Protocol.Sessions.Epochs.{epoch}
use Rattle.ssh_model.specs.Protocol.Sessions.Phases.{took_success}
use Rattle.ssh_model.specs.Protocol.Sessions.Claims.{HasConnection, holds}

-- ---- a client logs in

-- The client awaits the answer to this request, which it sent after that history. Since then it sent no other request, and took no
-- USERAUTH_FAILURE, no USERAUTH_SUCCESS and no USERAUTH_PK_OK.
abbrev pub Awaits : (user service : List ℕ) → Method → (payload : List ℕ) → (earlier h : List Item) → Type 0
Awaits user service way payload earlier [] = ⊥
Awaits user service way payload earlier (Sent channel (UserauthRequest named served by) bytes ∷ h) =
    (user ≡ named) × (service ≡ served) × (way ≡ by) × (payload ≡ bytes) × (earlier ≡ h)
Awaits user service way payload earlier (Took channel (UserauthFailure methods partial) bytes ∷ h) = ⊥
Awaits user service way payload earlier (Took channel UserauthSuccess bytes ∷ h) = ⊥
Awaits user service way payload earlier (Took channel (UserauthPkOk algorithm key) bytes ∷ h) = ⊥
Awaits user service way payload earlier (_ ∷ h) = Awaits user service way payload earlier h

-- The request by which a client logged in, found in its history. It took SUCCESS under a key as the answer to this request. It had sent
-- the request under a key, and awaited its answer.
pub record AnsweredRequest (h : List Item) : Type 0 where
  pub user : List ℕ
  pub service : List ℕ
  pub method : Method
  pub payload : List ℕ
  pub channel : Option ℕ
  pub success : List ℕ
  -- the history of the client when it sent the request, and when it took SUCCESS
  pub earlier : List Item
  pub before : List Item
  pub taken : IsOlder (Took channel UserauthSuccess success ∷ before) h
  pub awaited : Awaits user service method payload earlier before
  pub keyed : 0 < epoch (sent earlier)
  pub keyed_there : 0 < epoch (took before)

-- The client logged in with a request of this kind.
pub record IsToldAs (h : List Item) (kind : RequestKind) : Type 0 where
  pub request : AnsweredRequest h
  pub kind_is : kind_of request.method ≡ kind

-- A client that took SUCCESS, sent or took a message numbered 80 or above, or holds a channel has logged in with a request of its own.
-- It did so before it took such a message, and it tells its program what that request showed. This excludes a SUCCESS that nobody
-- asked for, and channels that a server opens before it let the user in. It also shows a program that a server let the user in without
-- the signature that was to be given, by `none` or on a probe (the class of Dropbear's CVE-2021-36369).
pub record NeedsSuccess (h : List Item) : Type 0 where
  pub success : took_success h ≡ true → AnsweredRequest h
  pub messages : (HasConnection (sent h) ⊎ HasConnection (took h)) → AnsweredRequest h
  pub taken : (channel : Option ℕ) (message : Msg) (payload : List ℕ) (before : List Item) →
      IsOlder (Took channel message payload ∷ before) h → 80 ≤ message_number message → AnsweredRequest before
  pub channels : (x : ℕ) → holds Client h x ≡ true → AnsweredRequest h
  pub told : (kind : RequestKind) → IsIn (Told (Authenticated kind)) h → IsToldAs h kind
