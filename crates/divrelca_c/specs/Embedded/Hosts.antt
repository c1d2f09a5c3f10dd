-- Which host keys a client trusts.
use Rattle.std.specs.Prelude.{◌≡◌, ◌||◌, ℕ, Bool, false, true, List, [], ◌∷◌, None, Option, Some}
use Rattle.ssh_model.specs.Protocol.KeyExchange.Exchange.{exchange_hash}
use Rattle.ssh_model.specs.Protocol.KeyExchange.Exchanges.{choice, exchange}
use Rattle.ssh_model.specs.Protocol.Sessions.AnyPeer.{IsVerified}
use Rattle.ssh_model.specs.Protocol.Sessions.Epochs.{epoch}
use Rattle.ssh_model.specs.Protocol.Sessions.Items.{Item, Item.Sent, sent}
use Rattle.ssh_model.specs.Protocol.Sessions.Parties.{Parties}
use Rattle.ssh_model.specs.Protocol.Wire.Message.{Msg.NewKeys}
use Rattle.ssh_model.specs.declared.side.Side.TheVariants.{Client}
use Rattle.ssh_transport_machine.specs.Replies.{Trusts}
use Rattle.ssh_held.specs.Hosts.{Signed, is_granted, is_host_settled, said_of_host, trust_by}
use Rattle.divrelca.specs.Parts.Ed25519.{has_host_signed, is_name, is_one_of, is_trusted_by_any}
use Rattle.divrelca_c.specs.declared.embedded.hosts.TrustedHosts.{TrustedHosts}

-- A host has signed with one of the keys that the client was made with, or with one to which the program said yes. Of another algorithm than
-- ssh-ed25519 the program said yes to the signature too.
abbrev pub trusts_of : TrustedHosts → Trusts
trusts_of hosts algorithm key hash signature =
    is_trusted_by_any hosts.keys.keys.items algorithm key hash signature
    || trust_by is_name has_host_signed hosts.book.list.items algorithm key hash signature

-- A host key, or a signature by it, is no question to the program of a client: the program said something on it, the client was made with the key,
-- or the signature is not the program's to judge.
abbrev pub is_known : TrustedHosts → (algorithm key : List ℕ) → Option Signed → Bool
is_known hosts algorithm key signed =
    is_host_settled is_name hosts.book.list.items algorithm key signed || is_one_of hosts.keys.keys.items algorithm key

-- The client was made with the key, or the program said yes to it.
abbrev pub is_trusted_key : TrustedHosts → (algorithm key : List ℕ) → Bool
is_trusted_key hosts algorithm key = is_one_of hosts.keys.keys.items algorithm key || is_granted hosts.book.list.items algorithm key None

-- Right before a client completed exchange e, it took the reply whose host key and signature it judged right for this very exchange. That key
-- is trusted, under the algorithm that was chosen in the exchange. If that is another than ssh-ed25519, the program had said yes to this very
-- signature of the hash of this very exchange.
pub record IsTrustedByProgram {K : Type 0} (p : Parties K) (hosts : TrustedHosts) (e : ℕ) (h : List Item) : Type 0 where
  pub verified : IsVerified p e h
  pub trusted : is_trusted_key hosts (choice Client (epoch (sent h)) h).host verified.host_key ≡ true
  pub signed : is_name (choice Client e h).host ≡ false →
      said_of_host hosts.book.list.items (choice Client e h).host verified.host_key
      (Some (record { hash = exchange_hash (exchange p Client e h); signature = verified.signature }))
      ≡ Some true

-- That holds of each exchange that the client completed.
abbrev pub TrustsEachByProgram : {K : Type 0} → Parties K → TrustedHosts → List Item → Type 0
TrustsEachByProgram p hosts [] = Unit {0}
TrustsEachByProgram p hosts (Sent channel NewKeys payload ∷ h) =
    IsTrustedByProgram p hosts (epoch (sent h)) h × TrustsEachByProgram p hosts h
TrustsEachByProgram p hosts (_ ∷ h) = TrustsEachByProgram p hosts h
