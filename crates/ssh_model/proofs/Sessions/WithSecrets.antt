-- What is read off a history is the same with other secrets, except for the secrets.
use Rattle.std.proofs.Common.{◌≡◌, ℕ, suc, true, List, [], ◌∷◌, ◌++◌, length, map, refl, ap, sym, ◌∙◌}
use Rattle.ssh_model.specs.Protocol.Wire.Message.{Msg.KexInit, Msg.NewKeys, Msg.ServiceRequest}
use Rattle.ssh_model.specs.Protocol.Wire.Message.{Msg.ServiceAccept, Msg.UserauthRequest, Msg.UserauthFailure, Msg.UserauthSuccess}
use Rattle.ssh_model.specs.Protocol.Wire.Message.{Msg.UserauthPkOk, Msg.GlobalRequest, Msg.RequestSuccess, Msg.RequestFailure}
use Rattle.ssh_model.specs.Protocol.Sessions.Items.{Item, Item.Fed, Item.SentLine, Item.Sent, Item.Took, Item.TookGuess, Item.TookLine}
use Rattle.ssh_model.specs.Protocol.Sessions.Items.{Item.TookOtherLine, Item.Died, has_died, sent, took, messages_sent, messages_taken}
use Rattle.ssh_model.specs.Protocol.Sessions.Items.{Payload, Payload.NewkeysOf, Payload.OtherOf, Encoded, Encoded.EncodedBy}
use Rattle.ssh_model.specs.Protocol.Sessions.Phases.{has_line, other_lines, blocked, sent_service_request, took_service_request}
use Rattle.ssh_model.specs.Protocol.Sessions.Phases.{sent_service_accept, took_service_accept, sent_success, took_success}
use Rattle.ssh_model.specs.Protocol.Sessions.Phases.{failures, outstanding}
use Rattle.ssh_model.specs.Protocol.Channels.History as channel
use Rattle.ssh_model.specs.Protocol.Channels.Connection.{channel_items, globals_here, globals_there, on_channel, received_on, sent_on}
use Rattle.ssh_model.specs.Protocol.KeyExchange.Exchanges.{Material, fed, sent_line, took_line}
use Rattle.ssh_model.specs.Protocol.Sessions.Turns.{AreNumbered}
use Rattle.ssh_model.specs.Laws.Secrets.{with_secrets}

module _ (other : List ℕ → List ℕ) where
  pub joined : (items h : List Item) → with_secrets other (items ++ h) ≡ with_secrets other items ++ with_secrets other h
  joined [] h = refl
  joined (Fed c s ∷ items) h = ap (λ (l : List Item). Fed c (other s) ∷ l) (joined items h)
  joined (i ∷ items) h = ap (λ (l : List Item). i ∷ l) (joined items h)

  pub died : (h : List Item) → has_died (with_secrets other h) ≡ has_died h
  died [] = refl
  died (Died ∷ h) = refl
  died (i ∷ h) = died h

  pub sent_same : (h : List Item) → sent (with_secrets other h) ≡ sent h
  sent_same [] = refl
  sent_same (Sent c NewKeys b ∷ h) = ap (λ (l : List Payload). NewkeysOf b ∷ l) (sent_same h)
  sent_same (Sent c m b ∷ h) = ap (λ (l : List Payload). OtherOf b ∷ l) (sent_same h)
  sent_same (i ∷ h) = sent_same h

  pub took_same : (h : List Item) → took (with_secrets other h) ≡ took h
  took_same [] = refl
  took_same (Took c NewKeys b ∷ h) = ap (λ (l : List Payload). NewkeysOf b ∷ l) (took_same h)
  took_same (Took c m b ∷ h) = ap (λ (l : List Payload). OtherOf b ∷ l) (took_same h)
  took_same (TookGuess b ∷ h) = ap (λ (l : List Payload). OtherOf b ∷ l) (took_same h)
  took_same (i ∷ h) = took_same h

  pub messages_sent_same : (h : List Item) → messages_sent (with_secrets other h) ≡ messages_sent h
  messages_sent_same [] = refl
  messages_sent_same (Sent c m b ∷ h) = ap (λ (l : List Encoded). EncodedBy m b ∷ l) (messages_sent_same h)
  messages_sent_same (i ∷ h) = messages_sent_same h

  pub messages_taken_same : (h : List Item) → messages_taken (with_secrets other h) ≡ messages_taken h
  messages_taken_same [] = refl
  messages_taken_same (Took c m b ∷ h) = ap (λ (l : List Encoded). EncodedBy m b ∷ l) (messages_taken_same h)
  messages_taken_same (i ∷ h) = messages_taken_same h

  pub own_line_same : (h : List Item) → sent_line (with_secrets other h) ≡ sent_line h
  own_line_same [] = refl
  own_line_same (SentLine l ∷ h) = refl
  own_line_same (i ∷ h) = own_line_same h

  pub their_line_same : (h : List Item) → took_line (with_secrets other h) ≡ took_line h
  their_line_same [] = refl
  their_line_same (TookLine l ∷ h) = refl
  their_line_same (i ∷ h) = their_line_same h

  pub has_line_same : (h : List Item) → has_line (with_secrets other h) ≡ has_line h
  has_line_same [] = refl
  has_line_same (TookLine l ∷ h) = refl
  has_line_same (i ∷ h) = has_line_same h

  pub other_lines_same : (h : List Item) → other_lines (with_secrets other h) ≡ other_lines h
  other_lines_same [] = refl
  other_lines_same (TookOtherLine l ∷ h) = ap suc (other_lines_same h)
  other_lines_same (i ∷ h) = other_lines_same h

  pub blocked_same : (h : List Item) → blocked (with_secrets other h) ≡ blocked h
  blocked_same [] = refl
  blocked_same (Sent c (KexInit o) b ∷ h) = refl
  blocked_same (Sent c NewKeys b ∷ h) = refl
  blocked_same (i ∷ h) = blocked_same h

  pub asked_service_same : (h : List Item) → sent_service_request (with_secrets other h) ≡ sent_service_request h
  asked_service_same [] = refl
  asked_service_same (Sent c (ServiceRequest s) b ∷ h) = refl
  asked_service_same (i ∷ h) = asked_service_same h

  pub took_service_same : (h : List Item) → took_service_request (with_secrets other h) ≡ took_service_request h
  took_service_same [] = refl
  took_service_same (Took c (ServiceRequest s) b ∷ h) = refl
  took_service_same (i ∷ h) = took_service_same h

  pub accepted_service_same : (h : List Item) → sent_service_accept (with_secrets other h) ≡ sent_service_accept h
  accepted_service_same [] = refl
  accepted_service_same (Sent c (ServiceAccept s) b ∷ h) = refl
  accepted_service_same (i ∷ h) = accepted_service_same h

  pub took_accept_same : (h : List Item) → took_service_accept (with_secrets other h) ≡ took_service_accept h
  took_accept_same [] = refl
  took_accept_same (Took c (ServiceAccept s) b ∷ h) = refl
  took_accept_same (i ∷ h) = took_accept_same h

  pub sent_success_same : (h : List Item) → sent_success (with_secrets other h) ≡ sent_success h
  sent_success_same [] = refl
  sent_success_same (Sent c UserauthSuccess b ∷ h) = refl
  sent_success_same (i ∷ h) = sent_success_same h

  pub took_success_same : (h : List Item) → took_success (with_secrets other h) ≡ took_success h
  took_success_same [] = refl
  took_success_same (Took c UserauthSuccess b ∷ h) = refl
  took_success_same (i ∷ h) = took_success_same h

  pub failures_same : (h : List Item) → failures (with_secrets other h) ≡ failures h
  failures_same [] = refl
  failures_same (Sent c (UserauthFailure l r) b ∷ h) = ap suc (failures_same h)
  failures_same (i ∷ h) = failures_same h

  pub outstanding_same : (h : List Item) → outstanding (with_secrets other h) ≡ outstanding h
  outstanding_same [] = refl
  outstanding_same (Sent c (UserauthRequest u s w) b ∷ h) = refl
  outstanding_same (Took c (UserauthFailure l r) b ∷ h) = refl
  outstanding_same (Took c UserauthSuccess b ∷ h) = refl
  outstanding_same (Took c (UserauthPkOk n k) b ∷ h) = refl
  outstanding_same (i ∷ h) = outstanding_same h

  pub channels_same : (h : List Item) → channel_items (with_secrets other h) ≡ channel_items h
  channels_same [] = refl
  channels_same (Sent c (KexInit o) b ∷ h) = ap (λ (l : List channel.Item). channel.Item.KexinitSent ∷ l) (channels_same h)
  channels_same (Sent c NewKeys b ∷ h) = ap (λ (l : List channel.Item). channel.Item.NewkeysSent ∷ l) (channels_same h)
  channels_same (Sent c m b ∷ h) = ap (sent_on c (on_channel m)) (channels_same h)
  channels_same (Took c m b ∷ h) = ap (received_on c (on_channel m)) (channels_same h)
  channels_same (i ∷ h) = channels_same h

  pub globals_here_same : (h : List Item) → globals_here (with_secrets other h) ≡ globals_here h
  globals_here_same [] = refl
  globals_here_same (Took c (GlobalRequest n true r) b ∷ h) = ap suc (globals_here_same h)
  globals_here_same (Sent c (RequestSuccess r) b ∷ h) = rw (globals_here_same h) refl
  globals_here_same (Sent c RequestFailure b ∷ h) = rw (globals_here_same h) refl
  globals_here_same (i ∷ h) = globals_here_same h

  pub globals_there_same : (h : List Item) → globals_there (with_secrets other h) ≡ globals_there h
  globals_there_same [] = refl
  globals_there_same (Sent c (GlobalRequest n true r) b ∷ h) = ap suc (globals_there_same h)
  globals_there_same (Took c (RequestSuccess r) b ∷ h) = rw (globals_there_same h) refl
  globals_there_same (Took c RequestFailure b ∷ h) = rw (globals_there_same h) refl
  globals_there_same (i ∷ h) = globals_there_same h

  -- ---- the pairs that were fed

  -- the pair with the other secret
  abbrev pub other_pair : Material → Material
  other_pair pair = record { cookie = pair.cookie; secret = other pair.secret }

  pub fed_mapped : (h : List Item) → fed (with_secrets other h) ≡ map other_pair (fed h)
  fed_mapped [] = refl
  fed_mapped (Fed c s ∷ h) = ap (λ (l : List Material). record { cookie = c; secret = other s } ∷ l) (fed_mapped h)
  fed_mapped (i ∷ h) = fed_mapped h

  pub mapped_length : (l : List Material) → length (map other_pair l) ≡ length l
  mapped_length [] = refl
  mapped_length (m ∷ l) = ap suc (mapped_length l)

  pub fed_length : (h : List Item) → length (fed (with_secrets other h)) ≡ length (fed h)
  fed_length h = ap length (fed_mapped h) ∙ mapped_length (fed h)

  -- ---- items after a history

  pub sent_after : (items h : List Item) → sent (items ++ with_secrets other h) ≡ sent (items ++ h)
  sent_after [] h = sent_same h
  sent_after (Sent c NewKeys b ∷ items) h = ap (λ (l : List Payload). NewkeysOf b ∷ l) (sent_after items h)
  sent_after (Sent c m b ∷ items) h = ap (λ (l : List Payload). OtherOf b ∷ l) (sent_after items h)
  sent_after (i ∷ items) h = sent_after items h

  pub numbered : (items h : List Item) → AreNumbered items h → AreNumbered items (with_secrets other h)
  numbered [] h n = n
  numbered (Sent c m b ∷ items) h n = (rw (sent_after items h) n.0, numbered items h n.1)
  numbered (i ∷ items) h n = numbered items h n

  pub numbered_before : (items h : List Item) → AreNumbered items (with_secrets other h) → AreNumbered items h
  numbered_before [] h n = n
  numbered_before (Sent c m b ∷ items) h n = (rw (sym (sent_after items h)) n.0, numbered_before items h n.1)
  numbered_before (i ∷ items) h n = numbered_before items h n

  -- Items among which nothing is fed stay the same.
  pub unfed : (items : List Item) → fed items ≡ [] → with_secrets other items ≡ items
  unfed [] e = refl
  unfed (Fed c s ∷ items) e = absurd (cc e)
  unfed (i ∷ items) e = ap (λ (l : List Item). i ∷ l) (unfed items e)
