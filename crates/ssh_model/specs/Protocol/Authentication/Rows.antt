-- How an end of a session answers the messages of authentication, and the asks for them. One clause or constructor is one row
-- (own, if nothing else is said).
use Rattle.std.specs.Prelude.{◌≡◌, ℕ, Bool, true, false, not, ◌+◌, ◌&&◌, nat_le, Some, None, is_some, List, [], ◌∷◌}
use Rattle.std.specs.Prelude.{codes}
use Rattle.ssh_model.specs.declared.side.Side.{Side}
use Rattle.ssh_model.specs.declared.side.Side.TheVariants.{Client, Server}
use Rattle.ssh_model.specs.Protocol.Wire.Message.{Msg, Msg.UserauthRequest, Msg.UserauthFailure, Msg.UserauthSuccess}
use Rattle.ssh_model.specs.Protocol.Wire.Message.{Msg.UserauthBanner, Msg.UserauthPkOk, Method, Method.NoMethod}
use Rattle.ssh_model.specs.Protocol.Wire.Message.{Method.Password, Method.Publickey}
use Rattle.ssh_model.specs.declared.refusal.Refusal.{Refusal}
use Rattle.ssh_model.specs.declared.refusal.Refusal.TheVariants.{TooManyTries}
use Rattle.ssh_model.specs.declared.ask_refusal.AskRefusal.{AskRefusal}
use Rattle.ssh_model.specs.Protocol.Sessions.Refusals.{Check, Check.RefusedWhere}
use Rattle.ssh_model.specs.declared.ask_refusal.AskRefusal.TheVariants.{NotYet, Busy, TooLong}
use Rattle.ssh_model.specs.declared.ask_refusal.AskRefusal.TheVariants.{WrongSide}
use Rattle.ssh_model.specs.Protocol.Sessions.Parties.{Parties, user_signature_by}
use Rattle.ssh_model.specs.Protocol.Sessions.Items.{Ask, Ask.AskNone, Ask.AskPassword, Ask.AskProbe, Ask.AskSign}
use Rattle.ssh_model.specs.Protocol.Sessions.Items.{Fact.Accepted, Fact.Authenticated, Fact.Failed, Fact.Banner, Fact.KeyOk, credential, kind_of}
use Rattle.ssh_model.specs.Protocol.Sessions.Items.{Fact.Ignored, Item, Item.Sent, Item.Told}
use Rattle.ssh_model.specs.Protocol.Sessions.Sizes.{string_size, request_size, is_too_long}
use Rattle.ssh_model.specs.Protocol.KeyExchange.Exchanges.{exchanges, session_id}
use Rattle.ssh_model.specs.Protocol.Sessions.Phases.{is_client, authenticated, failures, outstanding, took_service_accept}
use Rattle.ssh_model.specs.Protocol.Authentication.Requests.{is_accepted, is_good_probe, is_failing, signed_text}

-- ---- messages

-- the checks on a message of authentication, in order, each with its refusal (RFC 4252 section 4, own)
abbrev pub authentication_checks : {K : Type 0} → Parties K → Side → List Item → Msg → List (Check Refusal)
authentication_checks p side h (UserauthRequest user service method) =
    RefusedWhere (not (authenticated Server h) && is_failing p h user service method
    && nat_le p.server.tries (failures h)) TooManyTries ∷ []
authentication_checks p side h _ = []

-- The items that the end of this side, with the history h, adds to a message that it took, the newest first. Each message
-- that it sends may have any payload that encodes it (RFC 4252 sections 5.1, 5.4 and 7).
pub data AuthenticationAnswer {K : Type 0} (p : Parties K) : Side → List Item → Msg → List Item → Type 0 where
  -- RFC 4252 section 5: after SUCCESS further requests are ignored
  request_too_late : {h : List Item} (user service : List ℕ) (method : Method) → authenticated Server h ≡ true →
      AuthenticationAnswer p Server h (UserauthRequest user service method) (Told Ignored ∷ [])
  request_accepted : {h : List Item} (user service : List ℕ) (method : Method) (payload : List ℕ) →
      authenticated Server h ≡ false →
      is_accepted p h user service method ≡ true →
      AuthenticationAnswer p Server h (UserauthRequest user service method)
      (Told (Accepted user (credential method)) ∷ Sent None UserauthSuccess payload ∷ [])
  -- RFC 4252 section 7
  request_probed : {h : List Item} (user service algorithm key payload : List ℕ) → authenticated Server h ≡ false →
      is_good_probe p user service (Publickey algorithm key None) ≡ true →
      AuthenticationAnswer p Server h (UserauthRequest user service (Publickey algorithm key None))
      (Sent None (UserauthPkOk algorithm key) payload ∷ [])
  request_failed : {h : List Item} (user service : List ℕ) (method : Method) (payload : List ℕ) →
      authenticated Server h ≡ false → is_failing p h user service method ≡ true →
      AuthenticationAnswer p Server h (UserauthRequest user service method)
      (Sent None (UserauthFailure p.server.methods false) payload ∷ [])
  failure : {h : List Item} (methods : List (List ℕ)) (partial : Bool) →
      AuthenticationAnswer p Client h (UserauthFailure methods partial) (Told (Failed methods partial) ∷ [])
  -- the answer to the request that is outstanding
  success : {h : List Item} (method : Method) → outstanding h ≡ Some method →
      AuthenticationAnswer p Client h UserauthSuccess (Told (Authenticated (kind_of method)) ∷ [])
  banner : {h : List Item} (message language : List ℕ) →
      AuthenticationAnswer p Client h (UserauthBanner message language) (Told (Banner message) ∷ [])
  key_ok : {h : List Item} (algorithm key : List ℕ) →
      AuthenticationAnswer p Client h (UserauthPkOk algorithm key) (Told (KeyOk algorithm key) ∷ [])

-- ---- asks

-- The checks on a client's request for authentication. `opened`: the client took SERVICE_ACCEPT. `outstanding`: it has
-- a request that is not answered. `authenticated`: it is authenticated. `size`: the bytes of the new request.
abbrev pub request_checks : (opened outstanding authenticated : Bool) → (size : ℕ) → List (Check AskRefusal)
request_checks opened outstanding authenticated size =
    RefusedWhere (not opened) NotYet ∷ RefusedWhere outstanding Busy ∷ RefusedWhere authenticated AskRefusal.Ended
    ∷ RefusedWhere (is_too_long size) TooLong ∷ []

-- the same checks at an end of a session; a server makes no such request
abbrev pub checks_of_request : Side → List Item → ℕ → List (Check AskRefusal)
checks_of_request side h size =
    RefusedWhere (not (is_client side)) WrongSide
    ∷ request_checks (took_service_accept h) (is_some (outstanding h)) (authenticated side h) size

-- the bytes of a request with a password
abbrev pub password_size : (user password : List ℕ) → ℕ
password_size user password = request_size user (codes "password") + 1 + string_size password

-- the bytes of a request that asks whether a key would do
abbrev pub probe_size : (user algorithm key : List ℕ) → ℕ
probe_size user algorithm key = request_size user (codes "publickey") + 1 + string_size algorithm + string_size key

-- the bytes of a request with a signature, counted with the longest one
abbrev pub sign_size : (user algorithm key : List ℕ) → ℕ
sign_size user algorithm key = probe_size user algorithm key + 4 + 4096

-- the checks on an ask for authentication, in order, each with its refusal
abbrev pub authentication_ask_checks : Side → List Item → Ask → List (Check AskRefusal)
authentication_ask_checks side h (AskNone user) = checks_of_request side h (request_size user (codes "none"))
authentication_ask_checks side h (AskPassword user password) = checks_of_request side h (password_size user password)
authentication_ask_checks side h (AskProbe user algorithm key) =
    checks_of_request side h (probe_size user algorithm key)
authentication_ask_checks side h (AskSign user algorithm key) = checks_of_request side h (sign_size user algorithm key)
authentication_ask_checks side h _ = []

-- the signature of a request by the client's signer; the signed text begins with the session id (RFC 4252 section 7)
abbrev pub user_signature_now : {K : Type 0} → Parties K → List Item → (user algorithm key : List ℕ) → List ℕ
user_signature_now p h user algorithm key =
    user_signature_by p user algorithm key
    (signed_text (session_id (exchanges p Client h)) user (codes "ssh-connection") algorithm key)

-- the items that an end adds for an ask that it does not refuse (RFC 4252 sections 5.2, 7 and 8)
pub data AuthenticationAsk {K : Type 0} (p : Parties K) : Side → List Item → Ask → List Item → Type 0 where
  none : {side : Side} {h : List Item} (user payload : List ℕ) →
      AuthenticationAsk p side h (AskNone user)
      (Sent None (UserauthRequest user (codes "ssh-connection") NoMethod) payload ∷ [])
  password : {side : Side} {h : List Item} (user word payload : List ℕ) →
      AuthenticationAsk p side h (AskPassword user word)
      (Sent None (UserauthRequest user (codes "ssh-connection") (Password word None)) payload ∷ [])
  probe : {side : Side} {h : List Item} (user algorithm key payload : List ℕ) →
      AuthenticationAsk p side h (AskProbe user algorithm key)
      (Sent None (UserauthRequest user (codes "ssh-connection") (Publickey algorithm key None)) payload ∷ [])
  sign : {side : Side} {h : List Item} (user algorithm key payload : List ℕ) →
      AuthenticationAsk p side h (AskSign user algorithm key)
      (Sent None (UserauthRequest user (codes "ssh-connection")
      (Publickey algorithm key (Some (user_signature_now p h user algorithm key)))) payload ∷ [])
