-- What a program said on host keys and on their signatures, and which of them a client then trusts.
use Rattle.std.specs.Prelude.{◌≡◌, ◌&&◌, ◌||◌, ℕ, Bool, true, false, cond, not, List, [], ◌∷◌, Option, None, Some, find, is_some, option_map, unwrap_or}
use Rattle.ssh_model.specs.Protocol.KeyExchange.Exchange.{exchange_hash}
use Rattle.ssh_model.specs.Protocol.KeyExchange.Exchanges.{choice, exchange}
use Rattle.ssh_model.specs.Protocol.Sessions.AnyPeer.{IsVerified}
use Rattle.ssh_model.specs.Protocol.Sessions.Epochs.{epoch}
use Rattle.ssh_model.specs.Protocol.Sessions.Items.{Item, Item.Sent, sent}
use Rattle.ssh_model.specs.Protocol.Sessions.Parties.{Parties}
use Rattle.ssh_model.specs.Protocol.Wire.DataTypes.{is_text}
use Rattle.ssh_model.specs.Protocol.Wire.Message.{Msg.NewKeys}
use Rattle.ssh_model.specs.declared.side.Side.TheVariants.{Client}
use Rattle.ssh_transport_machine.specs.Replies.{Trusts}
use Rattle.ssh_held.specs.declared.host_book.HostAsked.{HostAsked}
use Rattle.ssh_held.specs.declared.host_book.HostVerdict.{HostVerdict}
use Rattle.ssh_held.specs.declared.host_book.SignedHash.{SignedHash}
use Rattle.ssh_held.specs.declared.host_key.HostKey.{HostKey}
use Rattle.ssh_held.specs.declared.host_key.HostSignature.{HostSignature}

-- ---- verdicts

-- the hash of an exchange of keys, and what a host gave as its signature
pub record Signed : Type 0 where
  pub hash : List ℕ
  pub signature : List ℕ

-- those of a host's signature that is shown
abbrev pub signed_in : HostSignature → Signed
signed_in signed = record { hash = signed.hash.now; signature = signed.signature.now }

-- those of a question that is shown, if it is on a signature
abbrev pub signed_by : HostKey → Option Signed
signed_by host = option_map signed_in host.signed

-- The question is on this signature of this hash, or on the host key alone.
abbrev pub is_signed_so : Option Signed → Option SignedHash → Bool
is_signed_so None None = true
is_signed_so (Some signed) (Some asked) = is_text asked.hash signed.hash && is_text asked.signature.items signed.signature
is_signed_so _ _ = false

-- This is the question on this host key under this algorithm, or on this signature by it.
abbrev pub is_on_host : (algorithm key : List ℕ) → Option Signed → HostAsked → Bool
is_on_host algorithm key signed asked =
    is_text asked.algorithm.items algorithm && (is_text asked.key.items key && is_signed_so signed asked.signed)

-- What the program said on a question, if it said something. The first verdict on a question counts.
abbrev pub said_of_host : List HostVerdict → (algorithm key : List ℕ) → Option Signed → Option Bool
said_of_host verdicts algorithm key signed =
    option_map (λ verdict. verdict.accepts) (find (λ verdict. is_on_host algorithm key signed verdict.asked) verdicts)

-- It said yes. What was not said is no.
abbrev pub is_granted : List HostVerdict → (algorithm key : List ℕ) → Option Signed → Bool
is_granted verdicts algorithm key signed = unwrap_or (said_of_host verdicts algorithm key signed) false

-- The program judges the signatures by a host key to which it said yes, if another does not know the algorithm.
abbrev pub asks_signature : (knows : List ℕ → Bool) → List HostVerdict → (algorithm key : List ℕ) → Bool
asks_signature knows verdicts algorithm key = is_granted verdicts algorithm key None && not (knows algorithm)

-- What was said settles the question on a host key, or the one on a signature by it.
abbrev pub is_host_settled : (knows : List ℕ → Bool) → List HostVerdict → (algorithm key : List ℕ) → Option Signed → Bool
is_host_settled knows verdicts algorithm key None = is_some (said_of_host verdicts algorithm key None)
is_host_settled knows verdicts algorithm key (Some signed) =
    not (asks_signature knows verdicts algorithm key) || is_some (said_of_host verdicts algorithm key (Some signed))

-- A host key is trusted if the program said yes to it, and another judges its signature right. If that does not know the algorithm, the program
-- said yes to this very signature of this very hash.
abbrev pub trust_by : (knows : List ℕ → Bool) → (signatures : Trusts) → List HostVerdict → Trusts
trust_by knows signatures verdicts algorithm key hash signature =
    is_granted verdicts algorithm key None
    && cond (knows algorithm) (signatures algorithm key hash signature)
    (is_granted verdicts algorithm key (Some (record { hash = hash; signature = signature })))

-- the parties whose client trusts these host keys
abbrev pub trusting : {K : Type 0} → Trusts → Parties K → Parties K
trusting trusts p = record p { trusts = trusts }

-- ---- histories

-- Right before a client completed exchange e, it took the reply whose host key and signature it judged right for this very exchange. The
-- program had said yes to this very host key, under the algorithm that was chosen in the exchange. If the judge of signatures does not know that
-- algorithm, the program had said yes to this very signature of the hash of this very exchange.
pub record IsTrustedByVerdict {K : Type 0} (p : Parties K) (knows : List ℕ → Bool) (verdicts : List HostVerdict) (e : ℕ) (h : List Item) :
    Type 0 where
  pub verified : IsVerified p e h
  pub granted : said_of_host verdicts (choice Client e h).host verified.host_key None ≡ Some true
  pub signed : knows (choice Client e h).host ≡ false →
      said_of_host verdicts (choice Client e h).host verified.host_key
      (Some (record { hash = exchange_hash (exchange p Client e h); signature = verified.signature }))
      ≡ Some true

-- That holds of each exchange that the client completed.
abbrev pub TrustsEachByVerdict : {K : Type 0} → Parties K → (knows : List ℕ → Bool) → List HostVerdict → List Item → Type 0
TrustsEachByVerdict p knows verdicts [] = Unit {0}
TrustsEachByVerdict p knows verdicts (Sent channel NewKeys payload ∷ h) =
    IsTrustedByVerdict p knows verdicts (epoch (sent h)) h × TrustsEachByVerdict p knows verdicts h
TrustsEachByVerdict p knows verdicts (_ ∷ h) = TrustsEachByVerdict p knows verdicts h
