-- An end whose program answers in its own time: what it holds back, and what it does with an answer.
--     TakesOr                      by what is answered: the end holds the bytes back, or takes them
--     HoldsBack                    nothing changes, and the next packet asks the program this
--     IsUndecided, IsUnknownHost   what a server and a client ask it
--     TakesStanding                bytes are taken, and nothing asks any more
--     TakesSettled, TakesKnown     a server and a client asked their program before
--     Asks, AsksHost               what is asked
--     Answered, HostAnswered       an answer is added
--     StandsSettled, StandsTrusting    where they stand then
--     ReadsRequest, ReadsHost      what is shown of what is asked
use Rattle.std.specs.Prelude.{◌≡◌, ◌++◌, ℕ, Bool, true, false, List, [], ◌∷◌, None, Some, Option, Result, Ok, Err, IfOk, IfSome, IsSomeAnd, is_some, take}
use Rattle.ssh_model.specs.Laws.Verdicts.{judged_by}
use Rattle.ssh_model.specs.Protocol.Sessions.Items.{Item}
use Rattle.ssh_model.specs.Protocol.Sessions.Parties.{Agreement, Parties}
use Rattle.ssh_model.specs.Protocol.Sessions.Phases.{Phase.Exchanging}
use Rattle.ssh_model.specs.Protocol.Wire.Message.{IsPayload, Method, Msg.KexEcdhReply, Msg.UserauthRequest}
use Rattle.ssh_model.specs.State.End.State.{EndState}
use Rattle.ssh_model.specs.declared.side.Side.TheVariants as sides
use Rattle.ssh_model.specs.State.TransportLayer.Kept.{ExchangeParts}
use Rattle.ssh_transport.specs.declared.role.Role as exchange
use Rattle.ssh_message.specs.Meaning.{method_meaning}
use Rattle.ssh_transport_machine.specs.Peeking.{AwaitsHost}
use Rattle.ssh_transport_machine.specs.Puts.{Outs}
use Rattle.ssh_transport_machine.specs.State.{State, buffered_of}
use Rattle.ssh_end_machine.specs.Asking.{UserSignatures}
use Rattle.ssh_end_machine.specs.Stands.{ServerStandsAt, StandsAt}
use Rattle.ssh_end_machine.specs.Supplying.{ClientStandsAt}
use Rattle.ssh_end_machine.specs.Steps.{UnitTurned, shown_by}
use Rattle.ssh_end_machine.specs.declared.asking.outcome.Fault.{Fault}
use Rattle.ssh_end_machine.specs.declared.role.EndRole as role
use Rattle.ssh_held.specs.Book.{is_next}
use Rattle.ssh_held.specs.Asking.{RequestFits, value_of}
use Rattle.ssh_held.specs.Held.{IsRequest, IsSettled, IsWanted, session_of}
use Rattle.ssh_held.specs.HeldHosts.{HasHostKey, IsHostSettled, IsHostWanted, IsReply, signed_with}
use Rattle.ssh_held.specs.Hosts.{is_on_host, signed_by}
use Rattle.ssh_held.specs.declared.asking.Request.{Request}
use Rattle.ssh_held.specs.declared.host_key.HostKey.{HostKey}
use Rattle.ssh_held.specs.declared.book.Asked.{Asked}
use Rattle.ssh_held.specs.declared.host_book.HostAsked.{HostAsked}
use Rattle.ssh_held.specs.declared.taken.Taken.{Taken}
use Rattle.ssh_held.specs.declared.taken.Taken.TheVariants as taken
use Rattle.divrelca.specs.Parts.AesGcm.{aes_gcm}
use Rattle.divrelca.specs.Parts.Curve25519.{x25519_agreement}
use Rattle.divrelca.specs.Parts.Ed25519.{is_name, is_one_of}
use Rattle.divrelca.specs.Supplies.{next_bytes}
use Rattle.divrelca.specs.declared.parts.packet_key.PacketKey.{PacketKey}
use Rattle.divrelca_c.specs.Embedded.Ends.{Client, Server}
use Rattle.divrelca_c.specs.Embedded.Hosts.{is_known, trusts_of}
use Rattle.divrelca_c.specs.Embedded.Roles.{client_ends, client_exchanges, server_ends, server_exchanges}
use Rattle.divrelca_c.specs.Embedded.Taking.{TakesStep}
use Rattle.divrelca_c.specs.Embedded.Users.{AreSettled, is_settled, verdicts_of}
use Rattle.divrelca_c.specs.declared.embedded.ahead.Ahead.{Ahead}
use Rattle.divrelca_c.specs.declared.embedded.hosts.TrustedHosts.{TrustedHosts}
use Rattle.divrelca_c.specs.declared.embedded.state.Embedded.{Embedded}
use Rattle.divrelca_c.specs.declared.embedded.users.Users.{Users}

-- ---- what is held back

-- The bytes are held back, or taken, by what is answered.
abbrev pub TakesOr : (Holds : Type 0) → (Takes : Result ℕ Fault → Type 0) → Result Taken Fault → Type 0
TakesOr Holds Takes (Ok taken.Wanted) = Holds
TakesOr Holds Takes (Ok (taken.Used used)) = Takes (Ok used)
TakesOr Holds Takes (Err why) = Takes (Err why)

-- A packet that was looked at asks the program, and this is its payload.
abbrev pub is_open : Option Ahead → Bool
is_open None = false
is_open (Some ahead) = ahead.is_wanted

abbrev pub payload_of : Option Ahead → List ℕ
payload_of None = []
payload_of (Some ahead) = ahead.reader.payload

-- If it asks about the signature of a host, this is the hash that the host signed.
abbrev pub hash_of : Option Ahead → Option (List ℕ)
hash_of None = None
hash_of (Some ahead) = ahead.hash

-- The end looks at packets ahead, and the next one asks the program this. Nothing else changes.
pub record HoldsBack {R X S F K : Type 0} (Asks : (payload : List ℕ) → Type 0) (old new : Embedded R X S F K) : Type 0 where
  pub looks : is_some old.ahead ≡ true
  pub wanted : is_open new.ahead ≡ true
  pub asks : Asks (payload_of new.ahead)
  pub same : new ≡ record old { ahead = new.ahead }

-- The user of a server is not authenticated. The next packet is a request of a user without an entry on which the program said nothing, or a
-- request with a signature that it has to judge.
pub record IsUndecided (users : Users) (machine : State PacketKey) (bytes payload : List ℕ) : Type 0 where
  pub wanted : IsWanted aes_gcm machine is_name users.book.list.items bytes payload
  pub unsettled : is_settled users.book.list.items users.list.items wanted.request.user wanted.request.method ≡ false

-- A client awaits the reply with the host key. The next packet is that, with a key that the client was not made with. The program said nothing on
-- it under the algorithm of this exchange, or nothing on its signature of this hash by another algorithm than ssh-ed25519.
pub record IsUnknownHost (hosts : TrustedHosts) (machine : State PacketKey) (bytes : List ℕ) (hash : Option (List ℕ)) (payload : List ℕ) :
    Type 0 where
  pub algorithm : List ℕ
  pub wanted : IsHostWanted aes_gcm x25519_agreement is_name machine hosts.book.list.items bytes payload algorithm hash
  pub unknown : is_one_of hosts.keys.keys.items algorithm wanted.reply.key ≡ false

-- ---- what is taken

module _ {R X S F K : Type 0} (Takes : (old : Embedded R X S F K) → Result ℕ Fault → (new : Embedded R X S F K) → Type 0)
    (old : Embedded R X S F K) (done : Result ℕ Fault) (new : Embedded R X S F K) where
  -- The bytes are taken, and no packet asks the program any more. Whether packets are looked at ahead stays.
  pub record TakesStanding : Type 0 where
    pub takes : Takes (record old { ahead = new.ahead }) done new
    pub shut : is_open new.ahead ≡ false
    pub looks : is_some new.ahead ≡ is_some old.ahead

-- Where the server looks at packets ahead: it asked its program about the request that the used bytes are, or about none.
abbrev pub Settles : Server → (bytes : List ℕ) → (used : ℕ) → Server → Type 0
Settles old bytes used new =
    is_some old.ahead ≡ true → (p : Parties PacketKey) (history : List Item) → StandsAt server_ends server_exchanges p history old.end →
    AreSettled old.end.role.own.judge history → (e : EndState PacketKey) (o : Outs)
    (turned : UnitTurned p sides.Server history (buffered_of old.end.machine ++ take used bytes) (shown_by new.end.step new.end.machine)
    new.end.step e o) → AreSettled old.end.role.own.judge (turned.items ++ history)

-- A server takes the bytes. If it looks at packets ahead, the next one asks the program nothing on which that said nothing.
pub record TakesSettled (old : Server) (bytes : List ℕ) (done : Result ℕ Fault) (new : Server) : Type 0 where
  pub taken : TakesStanding (λ old done new. TakesStep server_ends server_exchanges aes_gcm next_bytes old bytes done new) old done new
  pub settled : is_some old.ahead ≡ true → IsSettled aes_gcm old.end.machine
      (is_settled old.end.role.own.judge.book.list.items old.end.role.own.judge.list.items) bytes
  pub settles : IfOk done (λ used. Settles old bytes used new)

-- A client takes the bytes. If it looks at packets ahead, the next one asks the program nothing on which that said nothing.
pub record TakesKnown (old : Client) (bytes : List ℕ) (done : Result ℕ Fault) (new : Client) : Type 0 where
  pub taken : TakesStanding (λ old done new. TakesStep client_ends client_exchanges aes_gcm next_bytes old bytes done new) old done new
  pub known : is_some old.ahead ≡ true →
      IsHostSettled aes_gcm x25519_agreement old.end.machine (is_known old.end.role.exchange.host_trust) bytes

-- ---- answers

-- The server has these users in the place of those that it had. Nothing else of its end changes.
abbrev pub OnlyUsers : (old new : Server) → Type 0
OnlyUsers old new = new.end ≡ record old.end {
  role = record old.end.role { own = record old.end.role.own { judge = new.end.role.own.judge } };
}

-- Where a server stands that asked its program about each request, it stands with these users, and goes on so.
abbrev pub StandsSettled : (old new : Server) → Type 0
StandsSettled old new = (p : Parties PacketKey) (parts : ExchangeParts) (history : List Item) →
    ServerStandsAt p aes_gcm parts (verdicts_of old.end.role.own.judge) history old.end.machine old.end.layers →
    AreSettled old.end.role.own.judge history →
    ServerStandsAt (judged_by (verdicts_of new.end.role.own.judge) p) aes_gcm parts (verdicts_of new.end.role.own.judge) history
    new.end.machine new.end.layers × AreSettled new.end.role.own.judge history

-- This is the next question of the request that the server asks its program about, while the request can let somebody in.
pub record Asks (server : Server) (asked : Asked) : Type 0 where
  pub wanted : is_open server.ahead ≡ true
  pub alive : server.end.machine.kept.dead ≡ false
  pub out : server.end.machine.kept.authenticated ≡ false
  pub request : IsRequest (payload_of server.ahead)
  pub unsettled : is_settled server.end.role.own.judge.book.list.items server.end.role.own.judge.list.items request.user request.method ≡ false
  pub about : is_next is_name server.end.role.own.judge.book.list.items (session_of server.end.machine) request.user request.method asked
      ≡ true

-- What the program says on it is put after all that it said before.
pub record Answered (accepts : Bool) (old new : Server) : Type 0 where
  pub asked : Asked
  pub asks : Asks old asked
  pub added : new.end.role.own.judge.book.list.items
      ≡ old.end.role.own.judge.book.list.items ++ record { asked = asked; accepts = accepts } ∷ []
  pub entries : new.end.role.own.judge.list ≡ old.end.role.own.judge.list
  pub shut : is_open new.ahead ≡ false

-- ---- what is shown

-- The request that the payload is, and no other. Its texts can be written.
pub record ReadsRequest (payload : List ℕ) (shown : Option Request) : Type 0 where
  pub is : IfSome shown (λ request.
      IsPayload false (UserauthRequest request.user.now request.service.now (method_meaning request.method)) payload)
  pub found : (user service : List ℕ) (method : Method) → IsPayload false (UserauthRequest user service method) payload →
      IsSomeAnd shown (λ request. value_of request ≡ record { user = user; service = service; method = method })
  pub fits : IfSome shown (λ request. RequestFits request)

-- The host key of the reply that the payload is, under the algorithm of the exchange that a client is in. If there is a hash, it is shown with the
-- signature of the reply.
pub record ReadsHost (machine : State PacketKey) (payload : List ℕ) (hash : Option (List ℕ)) (shown : Option HostKey) : Type 0 where
  pub is : IfSome shown (λ host. HasHostKey payload host.key.now)
  pub awaited : IfSome shown (λ host. AwaitsHost machine.kept host.algorithm.now)
  pub found : (key point signature : List ℕ) → IsPayload false (KexEcdhReply key point signature) payload →
      machine.kept.dead ≡ false → machine.kept.phase ≡ Exchanging →
      IsSomeAnd shown (λ host. (host.key.now ≡ key) × (signed_by host ≡ signed_with hash signature))

-- ---- answers of a client

-- This is the question on the host key that the client asks its program about, or on the signature by it.
pub record AsksHost (client : Client) (asked : HostAsked) : Type 0 where
  pub wanted : is_open client.ahead ≡ true
  pub alive : client.end.machine.kept.dead ≡ false
  pub algorithm : List ℕ
  pub awaited : AwaitsHost client.end.machine.kept algorithm
  pub reply : IsReply (payload_of client.ahead)
  pub about : is_on_host algorithm reply.key (signed_with (hash_of client.ahead) reply.has.signature) asked ≡ true

-- What the program says on it is put after all that it said before.
pub record HostAnswered (accepts : Bool) (old new : Client) : Type 0 where
  pub asked : HostAsked
  pub asks : AsksHost old asked
  pub added : new.end.role.exchange.host_trust.book.list.items
      ≡ old.end.role.exchange.host_trust.book.list.items ++ record { asked = asked; accepts = accepts } ∷ []
  pub shut : is_open new.ahead ≡ false

-- The client trusts these hosts in the place of those that it trusted. Nothing else of its end changes.
abbrev pub OnlyHosts : (old new : Client) → Type 0
OnlyHosts old new = new.end ≡ record old.end {
  role = record old.end.role { exchange = record old.end.role.exchange { host_trust = new.end.role.exchange.host_trust } };
}

-- Where a client stands, it stands with these hosts, whatever came before.
abbrev pub StandsTrusting : (old new : Client) → Type 0
StandsTrusting old new = (p : Parties PacketKey) (agreement : Agreement) (signature : UserSignatures) (history : List Item) →
    ClientStandsAt p aes_gcm agreement (trusts_of old.end.role.exchange.host_trust) signature history old.end.machine old.end.layers →
    ClientStandsAt (record p { trusts = trusts_of new.end.role.exchange.host_trust }) aes_gcm agreement
    (trusts_of new.end.role.exchange.host_trust) signature history new.end.machine new.end.layers
