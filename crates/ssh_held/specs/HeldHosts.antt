-- The place of a client whose program says in its own time which hosts are trusted, and what it wants of the program.
use Rattle.std.specs.Prelude.{◌≡◌, ℕ, Bool, false, true, IfSome, List, Option, Some, None, option_map}
use Rattle.ssh_model.specs.Protocol.Sessions.Items.{Item}
use Rattle.ssh_model.specs.Protocol.Sessions.Parties.{Agreement, Parties}
use Rattle.ssh_model.specs.Protocol.Sessions.Phases.{Phase.Exchanging}
use Rattle.ssh_model.specs.Protocol.Wire.Message.{IsPayload, Msg.KexEcdhReply}
use Rattle.ssh_model.specs.Protocol.Wire.Sealing.{Crypto}
use Rattle.ssh_model.specs.State.TransportLayer.Kept.{Transport}
use Rattle.ssh_transport_machine.specs.Peeking.{AwaitsHashed, AwaitsHost, Peeks}
use Rattle.ssh_transport_machine.specs.Replies.{Trusts}
use Rattle.ssh_transport_machine.specs.State.{State}
use Rattle.ssh_end_machine.specs.Asking.{UserSignatures}
use Rattle.ssh_end_machine.specs.Ends.{EndValue}
use Rattle.ssh_end_machine.specs.Parts.{ClientRole}
use Rattle.ssh_end_machine.specs.Supplying.{ClientEndAt}
use Rattle.ssh_types.specs.Values.{owned_text}
use Rattle.ssh_held.specs.Hosts.{Signed, is_host_settled, said_of_host, trust_by, trusting}
use Rattle.ssh_held.specs.declared.host_book.HostVerdict.{HostVerdict}
use Rattle.ssh_held.specs.declared.host_book.HostVerdicts.{HostVerdicts}
use Rattle.ssh_held.specs.declared.next_reply.HostWanted.{HostWanted}

-- the hosts that a program's verdicts trust
abbrev pub trusts_of_book : {S : Type 0} → (knows : S → List ℕ → Bool) → (judged : S → Trusts) → HostVerdicts S → Trusts
trusts_of_book knows judged book = trust_by (knows book.signatures) (judged book.signatures) book.list.items

-- the parties whose client trusts them
abbrev pub trusting_book : {K S : Type 0} → (knows : S → List ℕ → Bool) → (judged : S → Trusts) → HostVerdicts S → Parties K → Parties K
trusting_book knows judged book p = trusting (trusts_of_book knows judged book) p

-- ---- a place

-- The client stands after this history, as that of these parties which trusts the hosts to which the program said yes.
abbrev pub ClientHeldAt : {P U S X F A K : Type 0} → Crypto K → (does : A → Agreement) → (knows : S → List ℕ → Bool) →
    (judged : S → Trusts) → (signature : U → UserSignatures) → Parties K → EndValue K (ClientRole P U X F A (HostVerdicts S) K) F →
    List Item → Type 0
ClientHeldAt c does knows judged signature p client history =
    ClientEndAt c does (trusts_of_book knows judged) signature (trusting_book knows judged client.role.exchange.host_trust p) history client

-- ---- what is wanted

-- What is looked at of the next packet. If an answer on its host is wanted, this is the algorithm. If that is on the signature, this is the
-- hash that it is of.
pub record NextHost : Type 0 where
  pub payload : List ℕ
  pub algorithm : Option (List ℕ)
  pub hash : Option (List ℕ)

-- those of what is wanted
abbrev pub algorithm_of : HostWanted → List ℕ
algorithm_of wanted = owned_text wanted.algorithm

abbrev pub hash_of : Option HostWanted → Option (List ℕ)
hash_of (Some wanted) = wanted.hash
hash_of None = None

-- The payload is a server's reply with this host key.
pub record HasHostKey (payload key : List ℕ) : Type 0 where
  pub point : List ℕ
  pub signature : List ℕ
  pub is : IsPayload false (KexEcdhReply key point signature) payload

-- The payload is a server's reply with this host key and this signature.
pub record HasReply (payload key signature : List ℕ) : Type 0 where
  pub point : List ℕ
  pub is : IsPayload false (KexEcdhReply key point signature) payload

-- The payload is a server's reply.
pub record IsReply (payload : List ℕ) : Type 0 where
  pub key : List ℕ
  pub has : HasHostKey payload key

-- a signature of a hash, if there is such a hash
abbrev pub signed_with : (hash : Option (List ℕ)) → (signature : List ℕ) → Option Signed
signed_with hash signature = option_map (λ h. record { hash = h; signature = signature }) hash

-- The program has said yes to this host key under this algorithm, which the judge of signatures does not know. The reply that the client awaits
-- is this payload, and the host signed this hash.
pub record AsksSignature {K : Type 0} (agreement : Agreement) (knows : List ℕ → Bool) (s : Transport K) (said_so_far : List HostVerdict)
    (payload algorithm key hash : List ℕ) : Type 0 where
  pub hashed : AwaitsHashed agreement s payload hash
  pub unknown : knows algorithm ≡ false
  pub granted : said_of_host said_so_far algorithm key None ≡ Some true

-- The program has said nothing on this host key under this algorithm. Or, if there is a hash, it has to judge the signature of that, and has
-- said nothing on it.
pub record IsUnsaid {K : Type 0} (agreement : Agreement) (knows : List ℕ → Bool) (s : Transport K) (said_so_far : List HostVerdict)
    (payload algorithm key signature : List ℕ) (hash : Option (List ℕ)) : Type 0 where
  pub asks : IfSome hash (AsksSignature agreement knows s said_so_far payload algorithm key)
  pub unsaid : said_of_host said_so_far algorithm key (signed_with hash signature) ≡ None

-- These bytes, after those that the client holds, have the next packet. It is the reply that the client awaits. The program has said nothing on
-- its host key under the algorithm of this exchange, or nothing on its signature of this hash, which the program has to judge.
pub record IsHostWanted {K : Type 0} (c : Crypto K) (agreement : Agreement) (knows : List ℕ → Bool) (machine : State K)
    (said_so_far : List HostVerdict) (bytes payload algorithm : List ℕ) (hash : Option (List ℕ)) : Type 0 where
  pub peeks : Peeks c machine bytes payload
  pub awaited : AwaitsHost machine.kept algorithm
  pub reply : IsReply payload
  pub question : IsUnsaid agreement knows machine.kept said_so_far payload algorithm reply.key reply.has.signature hash

-- That is so, and what is looked at says it.
abbrev pub WantsHost : {K : Type 0} → Crypto K → Agreement → (knows : List ℕ → Bool) → State K → List HostVerdict → List ℕ → NextHost → Type 0
WantsHost c agreement knows machine said_so_far bytes next =
    (algorithm : List ℕ) × (next.algorithm ≡ Some algorithm)
    × IsHostWanted c agreement knows machine said_so_far bytes next.payload algorithm next.hash

-- This settles the question on a host key, and that on the signature of the hash of this exchange.
pub record IsReplySettled {K : Type 0} (agreement : Agreement) (s : Transport K) (settled : (algorithm key : List ℕ) → Option Signed → Bool)
    (payload algorithm key signature : List ℕ) : Type 0 where
  pub on_key : settled algorithm key None ≡ true
  pub on_signature : (hash : List ℕ) → AwaitsHashed agreement s payload hash →
      settled algorithm key (Some (record { hash = hash; signature = signature })) ≡ true

-- The next packet asks the program nothing but what is settled by this: no reply is awaited, these bytes have no whole packet, or that is no
-- reply of another host.
pub data IsHostSettled {K : Type 0} (c : Crypto K) (agreement : Agreement) (machine : State K)
    (settled : (algorithm key : List ℕ) → Option Signed → Bool) (bytes : List ℕ) : Type 0 where
  unawaited : (machine.kept.dead ≡ false → machine.kept.phase ≡ Exchanging → ⊥) → IsHostSettled c agreement machine settled bytes
  unforeseen : ((payload : List ℕ) → Peeks c machine bytes payload → ⊥) → IsHostSettled c agreement machine settled bytes
  foreseen : (payload algorithm : List ℕ) → Peeks c machine bytes payload → AwaitsHost machine.kept algorithm →
      ((probing : Bool) (key point signature : List ℕ) → IsPayload probing (KexEcdhReply key point signature) payload →
      IsReplySettled agreement machine.kept settled payload algorithm key signature) → IsHostSettled c agreement machine settled bytes

-- It asks nothing on which the program said nothing.
abbrev pub IsHostAnswered : {K : Type 0} → Crypto K → Agreement → (knows : List ℕ → Bool) → State K → (said_so_far : List HostVerdict) →
    (bytes : List ℕ) → Type 0
IsHostAnswered c agreement knows machine said_so_far bytes = IsHostSettled c agreement machine (is_host_settled knows said_so_far) bytes
