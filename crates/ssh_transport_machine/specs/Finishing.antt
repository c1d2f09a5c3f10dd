-- The end of an exchange: its keys, NEWKEYS, and what is announced after it.
use Rattle.std.specs.Prelude.{◌≡◌, ℕ, ◌≤◌, true, false, Option, Some, None, unwrap_or, IsSome, List, [], ◌∷◌}
use Rattle.std.specs.Prelude.{◌++◌, length, replicate}
use Rattle.ssh_model.specs.Protocol.Bounds.{longest_payload}
use Rattle.ssh_model.specs.declared.side.Side.{Side}
use Rattle.ssh_model.specs.declared.side.Side.TheVariants.{Client, Server}
use Rattle.ssh_model.specs.Protocol.Side.{peer}
use Rattle.ssh_model.specs.Protocol.Wire.Message.{Msg, Msg.ExtInfo, Msg.KexInit, Msg.NewKeys, Extension, Proposal, IsPayload}
use Rattle.ssh_model.specs.Protocol.Wire.Sealing.{Crypto}
use Rattle.ssh_model.specs.Protocol.KeyExchange.Choice.{Chosen, Lists}
use Rattle.ssh_model.specs.Laws.KeyExchange.{IsChoice}
use Rattle.ssh_model.specs.Protocol.KeyExchange.Exchanges.{encryption_from, mac_from}
use Rattle.ssh_model.specs.Protocol.Sessions.Items.{Encoded, Encoded.EncodedBy}
use Rattle.ssh_model.specs.Protocol.Sessions.Parties.{lists_of}
use Rattle.ssh_model.specs.Protocol.Sessions.Phases as model
use Rattle.ssh_model.specs.Protocol.Sessions.Turns.{IsEncoded}
use Rattle.ssh_model.specs.State.TransportLayer.Directions.{counted, renewed}
use Rattle.ssh_model.specs.State.TransportLayer.Kept.{Transport, after_sent, has_choice_with, is_announcing, own_offer}
use Rattle.ssh_model.specs.State.TransportLayer.Turns.{PutsPackets, counted_by}
use Rattle.ssh_transport_machine.specs.Hashing.{key_with}
use Rattle.ssh_transport_machine.specs.Puts.{Outs, payloads_of}

-- ---- the algorithms

-- The KEXINIT of the peer that is kept is one, and its lists and those of this end have a choice.
pub record HasChoice {K : Type 0} (s : Transport K) : Type 0 where
  pub theirs : Proposal
  pub read : IsPayload false (KexInit theirs) s.underway.theirs
  pub chooses : has_choice_with s.side (lists_of (own_offer s.settings s.side)) (lists_of theirs) ≡ true

-- That proposal is this one.
pub record IsChoiceOf {K : Type 0} (s : Transport K) (theirs : Proposal) : Type 0 where
  pub read : IsPayload false (KexInit theirs) s.underway.theirs
  pub chooses : has_choice_with s.side (lists_of (own_offer s.settings s.side)) (lists_of theirs) ≡ true

-- a KEXINIT
abbrev pub IsKexinit : Msg → Type 0
IsKexinit (KexInit theirs) = Unit {0}
IsKexinit _ = ⊥

-- the choice of this end's lists and the peer's
abbrev pub is_choice_with : Side → (own theirs : Lists) → Chosen → Type 0
is_choice_with Client own theirs chosen = IsChoice own theirs chosen
is_choice_with Server own theirs chosen = IsChoice theirs own chosen

-- The sealing knows the encryption and the MAC of each direction.
pub record AreKnown {K : Type 0} (c : Crypto K) (chosen : Chosen) : Type 0 where
  pub from_client : IsSome (c.lengths chosen.enc_cs chosen.mac_cs)
  pub from_server : IsSome (c.lengths chosen.enc_sc chosen.mac_sc)

-- ---- the keys

-- the session id with an exchange of this hash
abbrev pub session_by : {K : Type 0} → Transport K → (hash : List ℕ) → List ℕ
session_by s hash = unwrap_or s.session hash

-- the key of the direction from this side
abbrev pub key_by : {K : Type 0} → Crypto K → Side → Chosen → (shared : ℕ) → (hash session : List ℕ) → K
key_by c from chosen shared hash session =
    key_with c from shared hash session (encryption_from from chosen) (mac_from from chosen)

-- Both keys are those of the exchange of this shared number and this hash, and the session id is that with it.
pub record AreKeys {K : Type 0} (c : Crypto K) (s : Transport K) (chosen : Chosen) (shared : ℕ) (hash : List ℕ)
    (own theirs : K) (session : List ℕ) : Type 0 where
  pub own_is : own ≡ key_by c s.side chosen shared hash (session_by s hash)
  pub theirs_is : theirs ≡ key_by c (peer s.side) chosen shared hash (session_by s hash)
  pub session_is : session ≡ session_by s hash

-- ---- what is announced

-- The payload is that of the EXT_INFO that is due after NEWKEYS.
pub record IsDue {K : Type 0} (s : Transport K) (payload : List ℕ) : Type 0 where
  pub due : is_announcing s ≡ true
  pub encoded : IsEncoded (ExtInfo s.settings.extensions) payload
  pub some : 1 ≤ length payload
  pub most : length payload ≤ longest_payload

-- what is announced after NEWKEYS, if anything
abbrev pub IsAnnouncement : {K : Type 0} → Transport K → Option (List ℕ) → Type 0
IsAnnouncement s (Some payload) = IsDue s payload
IsAnnouncement s None = is_announcing s ≡ false

-- There is such a payload where one is due.
pub record HasAnnouncement {K : Type 0} (s : Transport K) : Type 0 where
  pub announcement : Option (List ℕ)
  pub announcement_is : IsAnnouncement s announcement

-- that message
abbrev pub announced_by : List Extension → Option (List ℕ) → List Encoded
announced_by extensions (Some payload) = EncodedBy (ExtInfo extensions) payload ∷ []
announced_by extensions None = []

-- a payload more was sent, where there was one
abbrev pub after_announced : {K : Type 0} → Option (List ℕ) → Transport K → Transport K
after_announced (Some payload) s = after_sent s
after_announced None s = s

-- ---- NEWKEYS

-- The secret of the exchange is gone: its bytes are zero.
abbrev pub forgotten : {K : Type 0} → Transport K → Transport K
forgotten s = record s { underway = record s.underway { secret = replicate 32 0 } }

-- NEWKEYS was sent: packets are sealed under the first key, and the second one is pending.
abbrev pub keyed : {K : Type 0} → (own theirs : K) → (session : List ℕ) → Transport K → Transport K
keyed own theirs session s = record s {
  sending = renewed s.strict own (counted s.sending);
  pending = Some theirs;
  phase = model.Phase.Keying;
  blocked = false;
  session = Some session;
}

-- These messages were put out, the newest first, NEWKEYS after them, and after that, under the new key, what is
-- announced.
pub record Finishes {K : Type 0} (c : Crypto K) (old : Transport K) (before : List Encoded) (own : K)
    (announced : List Encoded) (o : Outs) : Type 0 where
  pub newkeys : List ℕ
  pub early : List ℕ
  pub late : List ℕ
  pub first : PutsPackets c old.sending (EncodedBy NewKeys newkeys ∷ before) early
  pub second : PutsPackets c (renewed old.strict own (counted (counted_by before old.sending))) announced late
  pub parts : o.after ≡ o.before ++ (early ++ late)
  pub lists : o.payloads_after ≡ o.payloads_before ++ (payloads_of (EncodedBy NewKeys newkeys ∷ before) ++ payloads_of announced)
