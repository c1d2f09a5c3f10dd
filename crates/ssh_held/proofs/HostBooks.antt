-- More verdicts on host keys trust no fewer of them.
use Rattle.std.proofs.Common.{◌≡◌, ℕ, Bool, true, false, cond, List, [], ◌∷◌, ◌++◌, Option, None, Some, unwrap_or, ap, ◌∙◌}
use Rattle.ssh_model.specs.Protocol.KeyExchange.Exchange.{exchange_hash}
use Rattle.ssh_model.specs.Protocol.KeyExchange.Exchanges.{choice, exchange}
use Rattle.ssh_model.specs.Protocol.Sessions.AnyPeer.{VerifiesEach}
use Rattle.ssh_model.specs.Protocol.Sessions.Epochs.{epoch}
use Rattle.ssh_model.specs.Protocol.Sessions.Items.{Item, Item.Sent, sent}
use Rattle.ssh_model.specs.Protocol.Sessions.Parties.{Parties}
use Rattle.ssh_model.specs.Protocol.Wire.Message.{Msg.NewKeys}
use Rattle.ssh_model.specs.declared.side.Side.TheVariants.{Client}
use Rattle.ssh_transport_machine.specs.Replies.{Trusts}
use Rattle.ssh_held.specs.Hosts.{Signed, TrustsEachByVerdict, is_granted, is_on_host, said_of_host, trust_by, trusting}
use Rattle.ssh_held.specs.declared.host_book.HostVerdict.{HostVerdict}
use Rattle.ssh_held.proofs.Finding.{both_of, first_of, found_before, second_of, some_if_yes, yes}

granted_before : (verdicts more : List HostVerdict) (algorithm key : List ℕ) (signed : Option Signed) →
    is_granted verdicts algorithm key signed ≡ true → is_granted (verdicts ++ more) algorithm key signed ≡ true
granted_before verdicts more algorithm key signed e =
    ap (λ (x : Option Bool). unwrap_or x false)
    (found_before (λ (v : HostVerdict). is_on_host algorithm key signed v.asked) (λ (v : HostVerdict). v.accepts) verdicts more
    (some_if_yes (said_of_host verdicts algorithm key signed) e))
    ∙ e

-- one of two that goes on to hold if the other does
either : (known one two more : Bool) → (two ≡ true → more ≡ true) → cond known one two ≡ true → cond known one more ≡ true
either true one two more go e = e
either false one two more go e = go e

pub trusted_before : (knows : List ℕ → Bool) (signatures : Trusts) (verdicts more : List HostVerdict) (algorithm key hash signature : List ℕ) →
    trust_by knows signatures verdicts algorithm key hash signature ≡ true →
    trust_by knows signatures (verdicts ++ more) algorithm key hash signature ≡ true
trusted_before knows signatures verdicts more algorithm key hash signature e =
    let signed : Option Signed = Some (record { hash = hash; signature = signature }) in
    let judged = signatures algorithm key hash signature in
    let before = cond (knows algorithm) judged (is_granted verdicts algorithm key signed) in
    both_of (is_granted (verdicts ++ more) algorithm key None) (cond (knows algorithm) judged (is_granted (verdicts ++ more) algorithm key signed))
    (granted_before verdicts more algorithm key None (first_of (is_granted verdicts algorithm key None) before e))
    (either (knows algorithm) judged (is_granted verdicts algorithm key signed) (is_granted (verdicts ++ more) algorithm key signed)
    (granted_before verdicts more algorithm key signed) (second_of (is_granted verdicts algorithm key None) before e))

-- ---- whoever is trusted was granted

-- what is not judged by another was granted
unjudged : (known one two : Bool) → cond known one two ≡ true → known ≡ false → two ≡ true
unjudged true one two e f = absurd (cc f)
unjudged false one two e f = e

module _ {K : Type 0} (p : Parties K) (knows : List ℕ → Bool) (signatures : Trusts) (verdicts : List HostVerdict) where
  pub each_granted : (h : List Item) → VerifiesEach (trusting (trust_by knows signatures verdicts) p) h →
      TrustsEachByVerdict (trusting (trust_by knows signatures verdicts) p) knows verdicts h
  each_granted [] v = tt
  each_granted (Sent c NewKeys b ∷ h) v =
      let q = trusting (trust_by knows signatures verdicts) p in
      let algorithm = (choice Client (epoch (sent h)) h).host in
      let hash = exchange_hash (exchange q Client (epoch (sent h)) h) in
      let signed : Option Signed = Some (record { hash = hash; signature = v.0.signature }) in
      let judged = signatures algorithm v.0.host_key hash v.0.signature in (
        record {
          verified = v.0;
          granted = yes (said_of_host verdicts algorithm v.0.host_key None) (first_of _ _ v.0.trusted);
          signed = λ unknown. yes (said_of_host verdicts algorithm v.0.host_key signed)
              (unjudged (knows algorithm) judged (is_granted verdicts algorithm v.0.host_key signed) (second_of _ _ v.0.trusted) unknown);
        },
        each_granted h v.1,
      )
  each_granted (i ∷ h) v = each_granted h v
