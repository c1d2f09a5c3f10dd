-- The phase of an end, read off its history, and the messages that the end may take there (own, if nothing else is said).
use Rattle.std.specs.Prelude.{ℕ, zero, suc, Bool, true, false, not, cond, ◌==◌, ◌&&◌, ◌||◌, nat_le, nat_lt, Option}
use Rattle.std.specs.Prelude.{Some, None, is_some, List, [], ◌∷◌, length, slice_get}
use Rattle.ssh_model.specs.declared.side.Side.{Side}
use Rattle.ssh_model.specs.declared.side.Side.TheVariants.{Client, Server}
use Rattle.ssh_model.specs.Protocol.Wire.Message.{Msg.KexInit, Msg.NewKeys, Msg.KexEcdhInit, Msg.KexEcdhReply}
use Rattle.ssh_model.specs.Protocol.Wire.Message.{Msg.ServiceRequest, Msg.ServiceAccept, Msg.UserauthRequest}
use Rattle.ssh_model.specs.Protocol.Wire.Message.{Msg.UserauthFailure, Msg.UserauthSuccess, Msg.UserauthPkOk, Method}
use Rattle.ssh_model.specs.Protocol.Wire.Message.{Method.Publickey, Proposal, is_known}
use Rattle.ssh_model.specs.Protocol.Wire.DataTypes.{is_text}
use Rattle.ssh_model.specs.Protocol.KeyExchange.Choice.{methods}
use Rattle.ssh_model.specs.Protocol.Sessions.Parties.{Parties, is_required, settings_of, offer}
use Rattle.ssh_model.specs.Protocol.Sessions.Items.{Item, Item.Sent, Item.Took, Item.TookGuess, Item.TookLine}
use Rattle.ssh_model.specs.Protocol.Sessions.Items.{Item.TookOtherLine, took, messages_sent}
use Rattle.ssh_model.specs.Protocol.Sessions.Epochs.{epoch, count}
use Rattle.ssh_model.specs.Protocol.KeyExchange.Exchanges.{fed, offers, is_strict, takes_extensions}

-- ---- the guess (RFC 4253 section 7)

-- The names are the same, or both are missing.
abbrev pub is_same : Option (List ℕ) → Option (List ℕ) → Bool
is_same None None = true
is_same (Some a) (Some b) = is_text a b
is_same _ _ = false

-- A guess is wrong if the first methods or the first host key names differ. The markers are no methods (RFC 4253 section 7).
abbrev pub is_wrong_guess : Proposal → Proposal → Bool
is_wrong_guess theirs ours =
    theirs.follows
    && not (is_same (slice_get (methods theirs.kex) 0) (slice_get (methods ours.kex) 0)
    && is_same (slice_get theirs.host 0) (slice_get ours.host 0))

-- ---- phases

-- The peer's next message: the first KEXINIT, the packet after a wrong guess, a message of the method, NEWKEYS, or none of an exchange.
pub data Phase : Type 0 where
  -- before the first KEXINIT was taken
  Start : Phase
  -- right after a KEXINIT with a wrong guess: the next packet is not read
  Guessed : Phase
  -- after a KEXINIT: message 30 at the server, 31 at the client
  Exchanging : Phase
  -- after that: NEWKEYS
  Keying : Phase
  -- after NEWKEYS
  Normal : Phase

-- Nothing of an exchange is awaited.
abbrev pub is_normal : Phase → Bool
is_normal Normal = true
is_normal _ = false

-- the proposal of an end without its cookie and its markers, on which no guess depends
abbrev pub own_names : {K : Type 0} → Parties K → Side → Proposal
own_names p side = offer p side false []

-- the phase after this history
abbrev pub phase : {K : Type 0} → Parties K → Side → List Item → Phase
phase p side [] = Start
phase p side (Took channel (KexInit theirs) payload ∷ h) =
    cond (is_wrong_guess theirs (own_names p side)) Guessed Exchanging
phase p side (TookGuess payload ∷ h) = Exchanging
phase p side (Took channel (KexEcdhInit q_c) payload ∷ h) = Keying
phase p side (Took channel (KexEcdhReply k_s q_s signature) payload ∷ h) = Keying
phase p side (Took channel NewKeys payload ∷ h) = Normal
phase p side (_ ∷ h) = phase p side h

-- The version line of the peer was taken.
abbrev pub has_line : List Item → Bool
has_line [] = false
has_line (TookLine line ∷ h) = true
has_line (_ ∷ h) = has_line h

-- how many other lines were taken
abbrev pub other_lines : List Item → ℕ
other_lines [] = 0
other_lines (TookOtherLine line ∷ h) = suc (other_lines h)
other_lines (_ ∷ h) = other_lines h

-- An end is blocked from its KEXINIT until its NEWKEYS (RFC 4253 section 7.1).
abbrev pub blocked : List Item → Bool
blocked [] = false
blocked (Sent channel (KexInit ours) payload ∷ h) = true
blocked (Sent channel NewKeys payload ∷ h) = false
blocked (_ ∷ h) = blocked h

-- A pair of cookie and secret is kept until the end sends its KEXINIT.
abbrev pub has_material : List Item → Bool
has_material h = nat_lt (length (offers (messages_sent h))) (length (fed h))

-- ---- service and authentication (RFC 4253 section 10, RFC 4252)

-- SERVICE_REQUEST was sent.
abbrev pub sent_service_request : List Item → Bool
sent_service_request [] = false
sent_service_request (Sent channel (ServiceRequest service) payload ∷ h) = true
sent_service_request (_ ∷ h) = sent_service_request h

-- SERVICE_REQUEST was taken.
abbrev pub took_service_request : List Item → Bool
took_service_request [] = false
took_service_request (Took channel (ServiceRequest service) payload ∷ h) = true
took_service_request (_ ∷ h) = took_service_request h

-- A client sent SERVICE_REQUEST, or a server took it.
abbrev pub service_requested : Side → List Item → Bool
service_requested Client h = sent_service_request h
service_requested Server h = took_service_request h

-- SERVICE_ACCEPT was sent.
abbrev pub sent_service_accept : List Item → Bool
sent_service_accept [] = false
sent_service_accept (Sent channel (ServiceAccept service) payload ∷ h) = true
sent_service_accept (_ ∷ h) = sent_service_accept h

-- SERVICE_ACCEPT was taken.
abbrev pub took_service_accept : List Item → Bool
took_service_accept [] = false
took_service_accept (Took channel (ServiceAccept service) payload ∷ h) = true
took_service_accept (_ ∷ h) = took_service_accept h

-- USERAUTH_SUCCESS was sent.
abbrev pub sent_success : List Item → Bool
sent_success [] = false
sent_success (Sent channel UserauthSuccess payload ∷ h) = true
sent_success (_ ∷ h) = sent_success h

-- USERAUTH_SUCCESS was taken.
abbrev pub took_success : List Item → Bool
took_success [] = false
took_success (Took channel UserauthSuccess payload ∷ h) = true
took_success (_ ∷ h) = took_success h

-- The user is authenticated: a server sent USERAUTH_SUCCESS, or a client took it (RFC 4252 section 5.1).
abbrev pub authenticated : Side → List Item → Bool
authenticated Server h = sent_success h
authenticated Client h = took_success h

-- how many requests failed so far
abbrev pub failures : List Item → ℕ
failures [] = 0
failures (Sent channel (UserauthFailure methods partial) payload ∷ h) = suc (failures h)
failures (_ ∷ h) = failures h

-- the method of the client's request that is not answered yet
abbrev pub outstanding : List Item → Option Method
outstanding [] = None
outstanding (Sent channel (UserauthRequest user service method) payload ∷ h) = Some method
outstanding (Took channel (UserauthFailure methods partial) payload ∷ h) = None
outstanding (Took channel UserauthSuccess payload ∷ h) = None
outstanding (Took channel (UserauthPkOk algorithm key) payload ∷ h) = None
outstanding (_ ∷ h) = outstanding h

-- The method is a public key without a signature (RFC 4252 section 7).
abbrev pub is_probe : Option Method → Bool
is_probe (Some (Publickey algorithm key None)) = true
is_probe _ = false

-- The client waits for the answer to a key probe.
abbrev pub probing : List Item → Bool
probing h = is_probe (outstanding h)

-- ---- which numbers may be taken

-- The side is the client's.
abbrev pub is_client : Side → Bool
is_client Client = true
is_client Server = false

-- the number of the exchange message that comes from the peer (RFC 5656 section 4)
abbrev pub awaited : Side → ℕ
awaited Server = 30
awaited Client = 31

-- The number is that of DISCONNECT, IGNORE, UNIMPLEMENTED or DEBUG (RFC 4253 section 11).
abbrev pub is_generic_transport : ℕ → Bool
is_generic_transport n = nat_le 1 n && nat_le n 4

-- The messages that may be taken in the first exchange besides the awaited one. With strict key exchange it is DISCONNECT
-- alone. In a plain session 2 to 4 may be taken too (RFC 4253 section 7.1, OpenSSH's PROTOCOL section 1.9).
abbrev pub is_allowed_at_first : (strict : Bool) → ℕ → Bool
is_allowed_at_first true n = n == 1
is_allowed_at_first false n = is_generic_transport n

-- The same in the exchange of this epoch. In later exchanges 1 to 4 and unknown numbers below 30 may be taken (RFC 4253
-- sections 7.1 and 11.4).
abbrev pub is_allowed_during_exchange : (strict : Bool) → (epoch : ℕ) → ℕ → Bool
is_allowed_during_exchange strict zero n = is_allowed_at_first strict n
is_allowed_during_exchange strict (suc e) n = is_generic_transport n || (nat_lt n 30 && not (is_known n))

-- EXT_INFO may come to an end that takes extensions, as the first payload after the peer's first NEWKEYS (RFC 8308 section
-- 2.4). In its second place it is not taken.
abbrev pub may_take_extensions : Side → List Item → Bool
may_take_extensions side h = takes_extensions side h && (epoch (took h) == 1 && count (took h) == 0)

-- The messages of service and authentication that an end may take outside an exchange (RFC 4252 sections 5 and 7, RFC 4253
-- section 10).
abbrev pub may_take_service : Side → List Item → ℕ → Bool
may_take_service Server h n = (n == 5 && not (took_service_request h)) || (n == 50 && sent_service_accept h)
may_take_service Client h n =
    (n == 6 && sent_service_request h && not (took_service_accept h))
    || ((n == 51 || n == 52) && is_some (outstanding h))
    || (n == 53 && took_service_accept h && not (took_success h))
    || (n == 60 && probing h)

-- The number is 80 or above: that of a message of the connection, or an unknown one (RFC 4251 section 7).
abbrev pub is_connection : ℕ → Bool
is_connection n = nat_le 80 n

-- The number is unknown, and below those of the connection.
abbrev pub is_unassigned : ℕ → Bool
is_unassigned n = nat_lt n 80 && not (is_known n)

-- The messages that an end may take outside an exchange.
abbrev pub may_take_normally : Side → List Item → ℕ → Bool
may_take_normally side h n =
    is_generic_transport n
    || may_take_service side h n
    || (n == 7 && may_take_extensions side h)
    || ((n == 20 || is_connection n) && authenticated side h)
    || is_unassigned n

-- The numbers that may be taken in a phase. Before the first KEXINIT an end that requires strict key exchange takes only 1 and 20.
abbrev pub may_take_in : Phase → (required : Bool) → Side → List Item → ℕ → Bool
may_take_in Start required side h n = is_allowed_at_first required n || n == 20
may_take_in Guessed required side h n = nat_le 30 n && nat_le n 49
may_take_in Exchanging required side h n =
    is_allowed_during_exchange (is_strict side h) (epoch (took h)) n || n == awaited side
may_take_in Keying required side h n = is_allowed_during_exchange (is_strict side h) (epoch (took h)) n || n == 21
may_take_in Normal required side h n = may_take_normally side h n

-- The end of this side may take a payload of this number next.
abbrev pub may_take : {K : Type 0} → Parties K → Side → List Item → ℕ → Bool
may_take p side h n = may_take_in (phase p side h) (is_required (settings_of p side).strictness) side h n
