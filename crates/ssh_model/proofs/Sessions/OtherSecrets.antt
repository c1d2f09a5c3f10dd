-- What the parties make of a history is the same with other secrets, where the agreements make the same of them.
use Rattle.std.proofs.Common.{◌≡◌, ◌==◌, ◌&&◌, ◌||◌, cond, ℕ, zero, suc, Bool, true, false, List, [], ◌∷◌, Option, None, length, map, take}
use Rattle.std.proofs.Common.{is_some, unwrap_or, refl, ap, sym, ◌∙◌}
use Rattle.ssh_model.specs.declared.side.Side.{Side}
use Rattle.ssh_model.specs.declared.side.Side.TheVariants.{Client, Server}
use Rattle.ssh_model.specs.Protocol.Side.{peer}
use Rattle.ssh_model.specs.Protocol.Wire.DataTypes.{number}
use Rattle.ssh_model.specs.Protocol.Wire.Message.{Msg.KexInit, Msg.NewKeys, Msg.KexEcdhInit, Msg.KexEcdhReply}
use Rattle.ssh_model.specs.Protocol.Wire.Message.{Proposal}
use Rattle.ssh_model.specs.Protocol.Wire.Unit.{Stage.Lines}
use Rattle.ssh_model.specs.Protocol.KeyExchange.Exchange.{exchange_hash}
use Rattle.ssh_model.specs.Protocol.KeyExchange.Choice.{Chosen}
use Rattle.ssh_model.specs.Protocol.KeyExchange.Exchanges.{first_sent, first_taken, has_marker, is_strict, no_offer, offers, peer_takes_extensions, takes_extensions}
use Rattle.ssh_model.specs.Protocol.KeyExchange.Exchanges.{Material, choice, choices, exchange, exchanges, fed, key_in, no_material, nth}
use Rattle.ssh_model.specs.Protocol.KeyExchange.Exchanges.{sending_key, sending_number, shared_number, taking_key, taking_number}
use Rattle.ssh_model.specs.Protocol.Sessions.Epochs.{count, epoch, wire_number}
use Rattle.ssh_model.specs.Protocol.Sessions.Items.{Encoded, Item, Item.Sent, Item.Took, Item.TookGuess, Payload, messages_sent, sent, took}
use Rattle.ssh_model.specs.Protocol.Sessions.Parties.{extension_marker_of, marker_of}
use Rattle.ssh_model.specs.Protocol.Sessions.Parties.{Agreement, Parties, host_key_by, host_signature_by, only_shared, point_by, shared_by}
use Rattle.ssh_model.specs.Protocol.Sessions.Phases.{Phase, Phase.Start, Phase.Guessed, Phase.Exchanging, Phase.Keying, Phase.Normal}
use Rattle.ssh_model.specs.Protocol.Sessions.Phases.{awaited, is_allowed_during_exchange, may_take_extensions}
use Rattle.ssh_model.specs.Protocol.Sessions.Phases.{has_line, is_client, may_take, may_take_in, may_take_normally, phase}
use Rattle.ssh_model.specs.Protocol.Sessions.Transport.{hash_to_sign, hash_with_reply, host_key_now, is_point, is_trusted, next_cookie}
use Rattle.ssh_model.specs.Protocol.Sessions.Transport.{point_now, reply_now, secret_now}
use Rattle.ssh_model.specs.Protocol.Sessions.Turns.{stage, stage_after}
use Rattle.ssh_model.specs.Laws.Secrets.{AreExchanged, agreeing_by, with_secrets}
use Rattle.ssh_model.proofs.Sessions.WithSecrets as same

module _ {K : Type 0} (p : Parties K) (other : List ℕ → List ℕ) (client server : Agreement) (x : AreExchanged p other client server) where
  abbrev q : Parties K
  q = agreeing_by client server p

  abbrev v : List Item → List Item
  v h = with_secrets other h

  -- ---- the pairs that were fed

  chosen_pair : (b : Bool) (m n : Material) → cond b (same.other_pair other m) (same.other_pair other n) ≡ same.other_pair other (cond b m n)
  chosen_pair true m n = refl
  chosen_pair false m n = refl

  nth_pair : (e : ℕ) (l : List Material) → nth no_material e (map (same.other_pair other) l) ≡ same.other_pair other (nth no_material e l)
  nth_pair e [] = ap (λ (s : List ℕ). record { cookie = []; secret = s }) (sym x.secrets.none)
  nth_pair e (m ∷ l) = rw (same.mapped_length other l, nth_pair e l) (chosen_pair (e == length l) m (nth no_material e l))

  pair_at : (e : ℕ) (h : List Item) → nth no_material e (fed (v h)) ≡ same.other_pair other (nth no_material e (fed h))
  pair_at e h = ap (nth no_material e) (same.fed_mapped other h) ∙ nth_pair e (fed h)

  secret_at : (e : ℕ) (h : List Item) → (nth no_material e (fed (v h))).secret ≡ other (nth no_material e (fed h)).secret
  secret_at e h = ap (λ (m : Material). m.secret) (pair_at e h)

  pub secret_now_is : (h : List Item) → secret_now (v h) ≡ other (secret_now h)
  secret_now_is h = ap (λ (e : ℕ). (nth no_material e (fed (v h))).secret) (ap epoch (same.sent_same other h)) ∙ secret_at (epoch (sent h)) h

  pub cookie_same : (h : List Item) → next_cookie (v h) ≡ next_cookie h
  cookie_same h =
      ap (λ (l : List Encoded). (nth no_material (length (offers l)) (fed (v h))).cookie) (same.messages_sent_same other h)
      ∙ ap (λ (m : Material). m.cookie) (pair_at (length (offers (messages_sent h))) h)

  -- ---- what the agreement makes of them

  pub shared_same : (side : Side) (secret theirs : List ℕ) → shared_by q side (other secret) theirs ≡ shared_by p side secret theirs
  shared_same Client secret theirs = ap only_shared (x.client_same.shared secret theirs)
  shared_same Server secret theirs = ap only_shared (x.server_same.shared secret theirs)

  number_same : (side : Side) (secret theirs : List ℕ) → shared_number q side (other secret) theirs ≡ shared_number p side secret theirs
  number_same side secret theirs = ap (λ (r : Option (List ℕ)). number (unwrap_or r [])) (shared_same side secret theirs)

  point_same : (side : Side) (secret : List ℕ) → point_by q side (other secret) ≡ point_by p side secret
  point_same Client secret = ap (take 32) (x.client_same.point secret)
  point_same Server secret = ap (take 32) (x.server_same.point secret)

  pub point_now_same : (side : Side) (h : List Item) → point_now q side (v h) ≡ point_now p side h
  point_now_same side h = ap (point_by q side) (secret_now_is h) ∙ point_same side (secret_now h)

  pub is_point_same : (side : Side) (h : List Item) (theirs : List ℕ) → is_point q side (v h) theirs ≡ is_point p side h theirs
  is_point_same side h theirs =
      ap (λ (r : Option (List ℕ)). (length theirs == 32) && is_some r)
      (ap (λ (s : List ℕ). shared_by q side s theirs) (secret_now_is h) ∙ shared_same side (secret_now h) theirs)

  -- ---- exchanges and keys

  exchange_same : (side : Side) (e : ℕ) (h : List Item) → exchange q side e (v h) ≡ exchange p side e h
  exchange_same Client e h =
      rw (same.own_line_same other h, same.their_line_same other h, same.messages_sent_same other h, same.messages_taken_same other h, secret_at e h, number_same Client _ _) refl
  exchange_same Server e h =
      rw (same.own_line_same other h, same.their_line_same other h, same.messages_sent_same other h, same.messages_taken_same other h, secret_at e h, number_same Server _ _) refl

  pub exchanges_same : (side : Side) (h : List Item) → exchanges q side (v h) ≡ exchanges p side h
  exchanges_same side [] = refl
  exchanges_same side (Sent c NewKeys b ∷ h) = rw (same.sent_same other h, exchange_same side (epoch (sent h)) h, exchanges_same side h) refl
  exchanges_same side (i ∷ h) = exchanges_same side h

  choice_same : (side : Side) (e : ℕ) (h : List Item) → choice side e (v h) ≡ choice side e h
  choice_same Client e h = rw (same.messages_sent_same other h, same.messages_taken_same other h) refl
  choice_same Server e h = rw (same.messages_sent_same other h, same.messages_taken_same other h) refl

  choices_same : (side : Side) (h : List Item) → choices side (v h) ≡ choices side h
  choices_same side [] = refl
  choices_same side (Sent c NewKeys b ∷ h) = rw (same.sent_same other h, choice_same side (epoch (sent h)) h, choices_same side h) refl
  choices_same side (i ∷ h) = choices_same side h

  key_same : (side from : Side) (e : ℕ) (h : List Item) → key_in q side from e (v h) ≡ key_in p side from e h
  key_same side from zero h = refl
  key_same side from (suc e) h = rw (exchanges_same side h, choices_same side h) refl

  pub first_sent_same : (h : List Item) → first_sent (v h) ≡ first_sent h
  first_sent_same h = ap (λ (l : List Encoded). (nth no_offer 0 (offers l)).proposal) (same.messages_sent_same other h)

  first_taken_same : (h : List Item) → first_taken (v h) ≡ first_taken h
  first_taken_same h = ap (λ (l : List Encoded). (nth no_offer 0 (offers l)).proposal) (same.messages_taken_same other h)

  strict_same : (side : Side) (h : List Item) → is_strict side (v h) ≡ is_strict side h
  strict_same side h =
      ap (λ (o : Proposal). has_marker (marker_of side) o.kex && has_marker (marker_of (peer side)) (first_taken (v h)).kex) (first_sent_same h)
      ∙ ap (λ (o : Proposal). has_marker (marker_of side) (first_sent h).kex && has_marker (marker_of (peer side)) o.kex) (first_taken_same h)

  pub taking_number_same : (side : Side) (h : List Item) → taking_number side (v h) ≡ taking_number side h
  taking_number_same side h =
      ap (λ (strict : Bool). wire_number strict (took (v h))) (strict_same side h) ∙ ap (wire_number (is_strict side h)) (same.took_same other h)

  pub sending_number_same : (side : Side) (h : List Item) → sending_number side (v h) ≡ sending_number side h
  sending_number_same side h =
      ap (λ (strict : Bool). wire_number strict (sent (v h))) (strict_same side h) ∙ ap (wire_number (is_strict side h)) (same.sent_same other h)

  extensions_same : (side : Side) (h : List Item) → may_take_extensions side (v h) ≡ may_take_extensions side h
  extensions_same side h =
      ap (λ (o : Proposal). has_marker (extension_marker_of side) o.kex && ((epoch (took (v h)) == 1) && (count (took (v h)) == 0))) (first_sent_same h)
      ∙ ap (λ (l : List Payload). takes_extensions side h && ((epoch l == 1) && (count l == 0))) (same.took_same other h)

  pub announced_to_same : (side : Side) (h : List Item) → peer_takes_extensions side (v h) ≡ peer_takes_extensions side h
  announced_to_same side h = ap (λ (o : Proposal). has_marker (extension_marker_of (peer side)) o.kex) (first_taken_same h)

  pub sending_key_same : (side : Side) (h : List Item) → sending_key q side (v h) ≡ sending_key p side h
  sending_key_same side h = ap (λ (e : ℕ). key_in q side side e (v h)) (ap epoch (same.sent_same other h)) ∙ key_same side side (epoch (sent h)) h

  taking_key_same : (side : Side) (h : List Item) → taking_key q side (v h) ≡ taking_key p side h
  taking_key_same side h = ap (λ (e : ℕ). key_in q side (peer side) e (v h)) (ap epoch (same.took_same other h)) ∙ key_same side (peer side) (epoch (took h)) h

  stage_by : (side : Side) (h : List Item) (line : Bool) → stage_after q side (v h) line ≡ stage_after p side h line
  stage_by side h true = rw (taking_key_same side h, taking_number_same side h, same.took_same other h) refl
  stage_by side h false = ap (Lines (is_client side)) (same.other_lines_same other h)

  pub stage_same : (side : Side) (h : List Item) → stage q side (v h) ≡ stage p side h
  stage_same side h = ap (stage_after q side (v h)) (same.has_line_same other h) ∙ stage_by side h (has_line h)

  -- ---- phases

  pub phase_same : (side : Side) (h : List Item) → phase q side (v h) ≡ phase p side h
  phase_same side [] = refl
  phase_same Client (Took c (KexInit theirs) b ∷ h) = refl
  phase_same Server (Took c (KexInit theirs) b ∷ h) = refl
  phase_same side (TookGuess b ∷ h) = refl
  phase_same side (Took c (KexEcdhInit k) b ∷ h) = refl
  phase_same side (Took c (KexEcdhReply k t g) b ∷ h) = refl
  phase_same side (Took c NewKeys b ∷ h) = refl
  phase_same side (i ∷ h) = phase_same side h

  normally_same : (side : Side) (h : List Item) (n : ℕ) → may_take_normally side (v h) n ≡ may_take_normally side h n
  normally_same Client h n =
      rw (same.asked_service_same other h, same.took_accept_same other h, same.took_success_same other h, same.outstanding_same other h, extensions_same Client h) refl
  normally_same Server h n =
      rw (same.took_service_same other h, same.accepted_service_same other h, same.sent_success_same other h, extensions_same Server h) refl

  allowed_same : (side : Side) (h : List Item) (n : ℕ) →
      is_allowed_during_exchange (is_strict side (v h)) (epoch (took (v h))) n ≡ is_allowed_during_exchange (is_strict side h) (epoch (took h)) n
  allowed_same side h n =
      ap (λ (strict : Bool). is_allowed_during_exchange strict (epoch (took (v h))) n) (strict_same side h)
      ∙ ap (λ (l : List Payload). is_allowed_during_exchange (is_strict side h) (epoch l) n) (same.took_same other h)

  taken_in : (now : Phase) (required : Bool) (side : Side) (h : List Item) (n : ℕ) → may_take_in now required side (v h) n ≡ may_take_in now required side h n
  taken_in Start required side h n = refl
  taken_in Guessed required side h n = refl
  taken_in Exchanging required side h n = ap (λ (allowed : Bool). allowed || (n == awaited side)) (allowed_same side h n)
  taken_in Keying required side h n = ap (λ (allowed : Bool). allowed || (n == 21)) (allowed_same side h n)
  taken_in Normal required side h n = normally_same side h n

  pub may_take_same : (side : Side) (h : List Item) (n : ℕ) → may_take q side (v h) n ≡ may_take p side h n
  may_take_same Client h n = rw (phase_same Client h) (taken_in (phase p Client h) _ Client h n)
  may_take_same Server h n = rw (phase_same Server h) (taken_in (phase p Server h) _ Server h n)

  -- ---- the exchange that is under way

  host_same : (side : Side) (h : List Item) → (choice side (epoch (sent (v h))) (v h)).host ≡ (choice side (epoch (sent h)) h).host
  host_same side h =
      ap (λ (e : ℕ). (choice side e (v h)).host) (ap epoch (same.sent_same other h)) ∙ ap (λ (c : Chosen). c.host) (choice_same side (epoch (sent h)) h)

  hash_same : (h : List Item) (k t g : List ℕ) → hash_with_reply q (v h) k t g ≡ hash_with_reply p h k t g
  hash_same h k t g =
      ap (λ (e : ℕ). exchange_hash (exchange q Client e (Took None (KexEcdhReply k t g) [] ∷ v h))) (ap epoch (same.sent_same other h))
      ∙ ap exchange_hash (exchange_same Client (epoch (sent h)) (Took None (KexEcdhReply k t g) [] ∷ h))

  pub trusted_same : (h : List Item) (k t g : List ℕ) → is_trusted q (v h) k t g ≡ is_trusted p h k t g
  trusted_same h k t g =
      ap (λ (name : List ℕ). p.trusts name k (hash_with_reply q (v h) k t g) g) (host_same Client h)
      ∙ ap (λ (hash : List ℕ). p.trusts (choice Client (epoch (sent h)) h).host k hash g) (hash_same h k t g)

  host_key_same : (h : List Item) → host_key_now q (v h) ≡ host_key_now p h
  host_key_same h = ap (host_key_by p) (host_same Server h)

  signed_same : (h : List Item) (theirs : List ℕ) → hash_to_sign q (v h) theirs ≡ hash_to_sign p h theirs
  signed_same h theirs =
      ap (λ (key : List ℕ). exchange_hash (exchange q Server (epoch (sent (v h))) (Sent None (KexEcdhReply key (point_now q Server (v h)) []) [] ∷ Took None (KexEcdhInit theirs) [] ∷ v h))) (host_key_same h)
      ∙ ap (λ (point : List ℕ). exchange_hash (exchange q Server (epoch (sent (v h))) (Sent None (KexEcdhReply (host_key_now p h) point []) [] ∷ Took None (KexEcdhInit theirs) [] ∷ v h))) (point_now_same Server h)
      ∙ ap (λ (e : ℕ). exchange_hash (exchange q Server e (Sent None (KexEcdhReply (host_key_now p h) (point_now p Server h) []) [] ∷ Took None (KexEcdhInit theirs) [] ∷ v h))) (ap epoch (same.sent_same other h))
      ∙ ap exchange_hash (exchange_same Server (epoch (sent h)) (Sent None (KexEcdhReply (host_key_now p h) (point_now p Server h) []) [] ∷ Took None (KexEcdhInit theirs) [] ∷ h))

  pub reply_same : (h : List Item) (theirs : List ℕ) → reply_now q (v h) theirs ≡ reply_now p h theirs
  reply_same h theirs =
      ap (λ (key : List ℕ). KexEcdhReply key (point_now q Server (v h)) (host_signature_by p (choice Server (epoch (sent (v h))) (v h)).host (hash_to_sign q (v h) theirs))) (host_key_same h)
      ∙ ap (λ (point : List ℕ). KexEcdhReply (host_key_now p h) point (host_signature_by p (choice Server (epoch (sent (v h))) (v h)).host (hash_to_sign q (v h) theirs))) (point_now_same Server h)
      ∙ ap (λ (name : List ℕ). KexEcdhReply (host_key_now p h) (point_now p Server h) (host_signature_by p name (hash_to_sign q (v h) theirs))) (host_same Server h)
      ∙ ap (λ (hash : List ℕ). KexEcdhReply (host_key_now p h) (point_now p Server h) (host_signature_by p (choice Server (epoch (sent h)) h).host hash)) (signed_same h theirs)
