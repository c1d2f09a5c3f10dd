-- The hash over which a client has its host judged.
use Rattle.std.proofs.Common.{◌≡◌, ℕ, Bool, false, true, not, Option, None, Some, List, [], cond, nat_eq, refl, ap, sym, subst, ◌∙◌}
use Rattle.std.proofs.lemmas.Cmp.{nat_list_eq_equiv}
use Rattle.std.specs.Cmp.Lexicographic.{pointwise, same_text}
use Rattle.ssh_model.specs.Laws.Supplied.{Supplied, supplied_by, supplied_of}
use Rattle.ssh_model.specs.Protocol.KeyExchange.Choice.{Chosen}
use Rattle.ssh_model.specs.Protocol.KeyExchange.Exchange.{exchange_hash}
use Rattle.ssh_model.specs.Protocol.KeyExchange.Exchanges.{choice, no_offer, nth, offers}
use Rattle.ssh_model.specs.Protocol.Sessions.Epochs.{epoch}
use Rattle.ssh_model.specs.Protocol.Sessions.Items.{Item, messages_taken, sent}
use Rattle.ssh_model.specs.Protocol.Sessions.Parties.{Agreement, Parties, agreement_of, lists_of}
use Rattle.ssh_model.specs.Protocol.Sessions.Phases.{Phase.Exchanging}
use Rattle.ssh_model.specs.Protocol.Sessions.Refusals.{first_refusal}
use Rattle.ssh_model.specs.Protocol.Sessions.Transport.{hash_with_reply, is_point, is_trusted}
use Rattle.ssh_model.specs.Protocol.Sessions.Turns.{answer_checks}
use Rattle.ssh_model.specs.Protocol.Wire.Message.{IsPayload, Msg, Msg.KexEcdhReply, Msg.KexInit, Proposal}
use Rattle.ssh_model.specs.State.TransportLayer.Kept.{IsChosen, Transport, choice_with, inputs_with, is_good_point, message_checks, own_offer}
use Rattle.ssh_model.specs.State.TransportLayer.Summary.{IsAwaited, IsTransportMessage, SumsUp, is_agreeing}
use Rattle.ssh_model.specs.declared.refusal.Refusal.{Refusal}
use Rattle.ssh_model.specs.declared.refusal.Refusal.TheVariants.{BadHost, BadPoint}
use Rattle.ssh_model.specs.declared.side.Side.TheVariants.{Client}
use Rattle.ssh_transport_machine.specs.Peeking.{HashesReply}

-- ---- the texts of a reply

abbrev key_in : Msg → List ℕ
key_in (KexEcdhReply k_s q_s signature) = k_s
key_in _ = []

abbrev point_in : Msg → List ℕ
point_in (KexEcdhReply k_s q_s signature) = q_s
point_in _ = []

-- ---- the checks on a reply

-- the refusal of a reply by its point and its host
abbrev refusal : (point host : Bool) → Option Refusal
refusal point host = cond (not point) (Some BadPoint) (cond (not host) (Some BadHost) None)

same_point : (a b c d : Bool) → refusal a b ≡ refusal c d → a ≡ c
same_point true b true d e = refl
same_point false b false d e = refl
same_point true true false d e = absurd (cc e)
same_point true false false d e = absurd (cc e)
same_point false b true true e = absurd (cc e)
same_point false b true false e = absurd (cc e)

same_host : (a b c d : Bool) → refusal a b ≡ refusal c d → c ≡ true → d ≡ true → b ≡ true
same_host a true c d e good right = refl
same_host true false true true e good right = absurd (cc e)
same_host false false true true e good right = absurd (cc e)
same_host a false false d e good right = absurd (cc good)
same_host a false c false e good right = absurd (cc right)

-- the choice that a KEXINIT of the peer gives
chosen_by : {K : Type 0} (s : Transport K) (theirs : Proposal) → IsPayload false (KexInit theirs) s.underway.theirs → (c : Chosen) × IsChosen s c
chosen_by s theirs read =
    (choice_with s.side (lists_of (own_offer s.settings s.side)) (lists_of theirs), record { theirs = theirs; read = read; chosen_is = refl })

module _ {K : Type 0} (p : Parties K) (h : List Item) (s : Transport K) (sums : SumsUp p Client h s) (alive : s.dead ≡ false) (awaited : s.phase ≡ Exchanging)
    (same : (given : Supplied) → SumsUp (supplied_by given p) Client h s)
    (checks : (q : Parties K) → SumsUp q Client h s → (message : Msg) (c : Chosen) → IsTransportMessage message → IsAwaited s c message →
    first_refusal (answer_checks q Client h message) ≡ first_refusal (message_checks (agreement_of q Client) q.trusts c s message)) where
  -- the algorithms of the exchange
  chosen : (c : Chosen) × IsChosen s c
  chosen =
      let live = sums.live alive in
      chosen_by s (nth no_offer (epoch (sent h)) (offers (messages_taken h))).proposal (live.underway.read (ap is_agreeing (sym live.phase_is ∙ awaited)))

  checked : (q : Parties K) → SumsUp q Client h s → (k_s q_s signature : List ℕ) →
      refusal (is_point q Client h q_s) (is_trusted q h k_s q_s signature)
      ≡ refusal (is_good_point q.client_agreement s q_s) (q.trusts chosen.0.host k_s (exchange_hash (inputs_with Client q.client_agreement s k_s q_s)) signature)
  checked q known k_s q_s signature =
      checks q known (KexEcdhReply k_s q_s signature) chosen.0 tt (record { side_is = (sums.live alive).side_is; phase_is = awaited; chosen = chosen.1 })

  pub points_same : (point : List ℕ) → is_point p Client h point ≡ is_good_point p.client_agreement s point
  points_same point = same_point _ _ _ _ (checked p sums [] point [])

  -- the parts of these parties, whose client trusts the signatures of this hash alone
  abbrev over : List ℕ → Supplied
  over hash = record (supplied_of p) { trusts = λ algorithm key given signature. pointwise nat_eq given hash }

  pub hash_same : (k_s q_s signature : List ℕ) → is_good_point p.client_agreement s q_s ≡ true →
      hash_with_reply p h k_s q_s signature ≡ exchange_hash (inputs_with Client p.client_agreement s k_s q_s)
  hash_same k_s q_s signature good =
      let hash = exchange_hash (inputs_with Client p.client_agreement s k_s q_s) in
      same_text (hash_with_reply p h k_s q_s signature) hash
      (sym (same_host _ _ _ _ (checked (supplied_by (over hash) p) (same (over hash)) k_s q_s signature) good (nat_list_eq_equiv.refl hash)))

  pub judged_over : ((m n : Msg) (payload : List ℕ) → IsPayload false m payload → IsPayload false n payload → m ≡ n) →
      (agreement : Agreement) → p.client_agreement ≡ agreement → (payload hash k_s q_s signature : List ℕ) → HashesReply agreement s payload hash →
      IsPayload false (KexEcdhReply k_s q_s signature) payload →
      is_trusted p h k_s q_s signature ≡ p.trusts (choice Client (epoch (sent h)) h).host k_s hash signature
  judged_over one agreement own payload hash k_s q_s signature given read =
      let x : HashesReply p.client_agreement s payload hash = subst (λ (a : Agreement). HashesReply a s payload hash) (sym own) given in
      let m = one (KexEcdhReply x.host_key x.point x.signature) (KexEcdhReply k_s q_s signature) payload x.read read in
      let point : x.point ≡ q_s = ap point_in m in
      let good = subst (λ (q : List ℕ). is_good_point p.client_agreement s q ≡ true) point x.good in
      let is : hash ≡ exchange_hash (inputs_with Client p.client_agreement s k_s q_s) =
      x.hash_is ∙ (λ i. exchange_hash (inputs_with Client p.client_agreement s (key_in (m i)) (point i))) in
      ap (λ (given : List ℕ). p.trusts (choice Client (epoch (sent h)) h).host k_s given signature) (hash_same k_s q_s signature good ∙ sym is)
