-- What an end took of the service, the user and the requests of the connection, and what its peer had sent of them.
use Rattle.std.proofs.Common.{◌≡◌, ℕ, suc, ◌+◌, ◌<◌, ◌≤◌, List, [], ◌∷◌, inl, inr, refl, ap, sym, ◌∙◌, arith, subst, Bool, true, false, is_some, ◌==◌}
use Rattle.ssh_model.specs.declared.side.Side.{Side}
use Rattle.ssh_model.specs.declared.side.Side.TheVariants.{Client, Server}
use Rattle.ssh_model.specs.Protocol.Side.{peer}
use Rattle.ssh_model.specs.Protocol.Lists.{IsOlder}
use Rattle.ssh_model.specs.Protocol.Wire.Message.{Msg, Msg.KexInit, Msg.ServiceRequest, Msg.ServiceAccept, Msg.UserauthRequest, Msg.UserauthFailure, Msg.UserauthSuccess, Msg.UserauthPkOk, Msg.GlobalRequest, Msg.RequestSuccess, Msg.RequestFailure, Msg.Unknown, message_number}
use Rattle.ssh_model.specs.Protocol.Sessions.Parties.{Parties, extension_marker_of}
use Rattle.ssh_model.specs.Protocol.Sessions.Items.{Item, Item.Sent, Item.Took, Encoded, Encoded.EncodedBy, messages_sent, messages_taken}
use Rattle.ssh_model.specs.Protocol.KeyExchange.Exchanges.{Offer, has_marker, no_offer, nth, offers, peer_takes_extensions, takes_extensions}
use Rattle.ssh_model.specs.Protocol.Sessions.Phases.{authenticated, outstanding, is_probe, probing, sent_service_accept, sent_service_request, sent_success, took_service_accept, took_service_request, took_success}
use Rattle.ssh_model.specs.Protocol.Channels.Connection.{globals_here, globals_there}
use Rattle.ssh_model.specs.Protocol.Sessions.Turns.{answer_checks}
use Rattle.ssh_model.specs.Laws.Checks.{all_passed}
use Rattle.ssh_model.proofs.Wire.Payloads.{not_both}
use Rattle.ssh_model.proofs.Sessions.Older.{nth_same, older_self}
use Rattle.ssh_model.proofs.Sessions.Serving.{is_in}
use Rattle.ssh_model.proofs.AnyPeer.Keeps.{Grounds, TakenAt}
use Rattle.ssh_model.proofs.AnyPeer.Tally.{answers, bit, bump, said}
use Rattle.ssh_model.proofs.Faithful.Sendable.{AllSends, AnswerAt, last_request}
use Rattle.ssh_model.proofs.Faithful.Rows.{positive}
use Rattle.ssh_model.proofs.Faithful.Meets.{Meets}

-- ---- is there such a message

abbrev asks_service : List Encoded → Bool
asks_service [] = false
asks_service (EncodedBy (ServiceRequest s) b ∷ l) = true
asks_service (_ ∷ l) = asks_service l

abbrev grants_service : List Encoded → Bool
grants_service [] = false
grants_service (EncodedBy (ServiceAccept s) b ∷ l) = true
grants_service (_ ∷ l) = grants_service l

abbrev lets_in : List Encoded → Bool
lets_in [] = false
lets_in (EncodedBy UserauthSuccess b ∷ l) = true
lets_in (_ ∷ l) = lets_in l

sent_request_is : (h : List Item) → sent_service_request h ≡ asks_service (messages_sent h)
sent_request_is [] = refl
sent_request_is (Sent c (ServiceRequest s) b ∷ h) = refl
sent_request_is (Sent c m b ∷ h) = sent_request_is h
sent_request_is (i ∷ h) = sent_request_is h

took_request_is : (h : List Item) → took_service_request h ≡ asks_service (messages_taken h)
took_request_is [] = refl
took_request_is (Took c (ServiceRequest s) b ∷ h) = refl
took_request_is (Took c m b ∷ h) = took_request_is h
took_request_is (i ∷ h) = took_request_is h

sent_accept_is : (h : List Item) → sent_service_accept h ≡ grants_service (messages_sent h)
sent_accept_is [] = refl
sent_accept_is (Sent c (ServiceAccept s) b ∷ h) = refl
sent_accept_is (Sent c m b ∷ h) = sent_accept_is h
sent_accept_is (i ∷ h) = sent_accept_is h

took_accept_is : (h : List Item) → took_service_accept h ≡ grants_service (messages_taken h)
took_accept_is [] = refl
took_accept_is (Took c (ServiceAccept s) b ∷ h) = refl
took_accept_is (Took c m b ∷ h) = took_accept_is h
took_accept_is (i ∷ h) = took_accept_is h

sent_success_is : (h : List Item) → sent_success h ≡ lets_in (messages_sent h)
sent_success_is [] = refl
sent_success_is (Sent c UserauthSuccess b ∷ h) = refl
sent_success_is (Sent c m b ∷ h) = sent_success_is h
sent_success_is (i ∷ h) = sent_success_is h

took_success_is : (h : List Item) → took_success h ≡ lets_in (messages_taken h)
took_success_is [] = refl
took_success_is (Took c UserauthSuccess b ∷ h) = refl
took_success_is (Took c m b ∷ h) = took_success_is h
took_success_is (i ∷ h) = took_success_is h

-- what an older part has, the whole has
asks_more : (o l : List Encoded) → IsOlder o l → asks_service o ≡ true → asks_service l ≡ true
asks_more o [] e f = ap asks_service (sym e) ∙ f
asks_more o (x ∷ l) (inl e) f = ap asks_service (sym e) ∙ f
asks_more o (EncodedBy (ServiceRequest s) b ∷ l) (inr r) f = refl
asks_more o (EncodedBy m b ∷ l) (inr r) f = asks_more o l r f

grants_more : (o l : List Encoded) → IsOlder o l → grants_service o ≡ true → grants_service l ≡ true
grants_more o [] e f = ap grants_service (sym e) ∙ f
grants_more o (x ∷ l) (inl e) f = ap grants_service (sym e) ∙ f
grants_more o (EncodedBy (ServiceAccept s) b ∷ l) (inr r) f = refl
grants_more o (EncodedBy m b ∷ l) (inr r) f = grants_more o l r f

lets_more : (o l : List Encoded) → IsOlder o l → lets_in o ≡ true → lets_in l ≡ true
lets_more o [] e f = ap lets_in (sym e) ∙ f
lets_more o (x ∷ l) (inl e) f = ap lets_in (sym e) ∙ f
lets_more o (EncodedBy UserauthSuccess b ∷ l) (inr r) f = refl
lets_more o (EncodedBy m b ∷ l) (inr r) f = lets_more o l r f

offers_more : (o l : List Encoded) → IsOlder o l → IsOlder (offers o) (offers l)
offers_more o [] e = ap offers e
offers_more o (x ∷ l) (inl e) = let P : List Encoded → Type 0 = λ w. IsOlder (offers o) (offers w) in subst P e (older_self (offers o))
offers_more o (EncodedBy (KexInit a) b ∷ l) (inr r) = inr (offers_more o l r)
offers_more o (EncodedBy m b ∷ l) (inr r) = offers_more o l r

bumped : (t : Bool) (n : ℕ) → n ≤ bump t n
bumped true n = omega arith
bumped false n = omega arith

said_more : (k : ℕ) (o l : List Encoded) → IsOlder o l → said k o ≤ said k l
said_more k o [] e = omega (arith, ap (said k) e)
said_more k o (x ∷ l) (inl e) = omega (arith, ap (said k) e)
said_more k o (EncodedBy m b ∷ l) (inr r) = omega (arith, said_more k o l r, bumped (message_number m == k) (said k l))

-- ---- the last request about a user

same_last : (o l : List Encoded) → IsOlder o l → said 50 l ≡ said 50 o → last_request l ≡ last_request o
same_last o [] e n = ap last_request (sym e)
same_last o (x ∷ l) (inl e) n = ap last_request (sym e)
same_last o (EncodedBy (UserauthRequest u s m) b ∷ l) (inr r) n = absurd (omega (arith, n, said_more 50 o l r))
same_last o (EncodedBy (Unknown k) b ∷ l) (inr r) n = same_last o l r (omega (arith, n, said_more 50 o l r, bumped (k == 50) (said 50 l)))
same_last o (EncodedBy m b ∷ l) (inr r) n = same_last o l r n

outstanding_is : (h : List Item) → is_some (outstanding h) ≡ true → outstanding h ≡ last_request (messages_sent h)
outstanding_is [] e = absurd (cc e)
outstanding_is (Sent c (UserauthRequest u s m) b ∷ h) e = refl
outstanding_is (Sent c m b ∷ h) e = outstanding_is h e
outstanding_is (Took c (UserauthFailure a d) b ∷ h) e = absurd (cc e)
outstanding_is (Took c UserauthSuccess b ∷ h) e = absurd (cc e)
outstanding_is (Took c (UserauthPkOk a k) b ∷ h) e = absurd (cc e)
outstanding_is (Took c m b ∷ h) e = outstanding_is h e
outstanding_is (i ∷ h) e = outstanding_is h e

some_bit : (t : Bool) → 0 < bit t → t ≡ true
some_bit true k = refl
some_bit false k = absurd (omega (arith, k))

bit_small : (t : Bool) → bit t ≤ 1
bit_small true = omega arith
bit_small false = omega arith

-- ---- global requests

abbrev wants : List Encoded → ℕ
wants [] = 0
wants (EncodedBy (GlobalRequest name true rest) b ∷ l) = suc (wants l)
wants (_ ∷ l) = wants l

abbrev replies_to : List Encoded → ℕ
replies_to [] = 0
replies_to (EncodedBy (RequestSuccess rest) b ∷ l) = suc (replies_to l)
replies_to (EncodedBy RequestFailure b ∷ l) = suc (replies_to l)
replies_to (_ ∷ l) = replies_to l

wants_more : (o l : List Encoded) → IsOlder o l → wants o ≤ wants l
wants_more o [] e = omega (arith, ap wants e)
wants_more o (x ∷ l) (inl e) = omega (arith, ap wants e)
wants_more o (EncodedBy (GlobalRequest name true rest) b ∷ l) (inr r) = omega (arith, wants_more o l r)
wants_more o (EncodedBy m b ∷ l) (inr r) = wants_more o l r

-- an end replied to as many as it took, but for those that wait
here_counted : (side : Side) (h : List Item) → AllSends side h → globals_here h + replies_to (messages_sent h) ≡ wants (messages_taken h)
here_counted side [] s = refl
here_counted side (Took c (GlobalRequest name true rest) b ∷ h) s = omega (arith, here_counted side h s)
here_counted side (Took c m b ∷ h) s = here_counted side h s
here_counted side (Sent c (RequestSuccess rest) b ∷ h) s = omega (arith, s.0.1, here_counted side h s.1)
here_counted side (Sent c Msg.RequestFailure b ∷ h) s = omega (arith, s.0.1, here_counted side h s.1)
here_counted side (Sent c m b ∷ h) s = here_counted side h s.1
here_counted side (i ∷ h) s = here_counted side h s

module _ {K : Type 0} (p : Parties K) (side : Side) where
  there_counted : (h : List Item) → Grounds true p side h → globals_there h + replies_to (messages_taken h) ≡ wants (messages_sent h)
  there_counted [] g = refl
  there_counted (Sent c (GlobalRequest name true rest) b ∷ h) g = omega (arith, there_counted h g.1)
  there_counted (Sent c m b ∷ h) g = there_counted h g.1
  there_counted (Took c (RequestSuccess rest) b ∷ h) g = omega (arith, some_waits g.0, there_counted h g.1)
    where
      some_waits : TakenAt true p side h (RequestSuccess rest) b → 0 < globals_there h
      some_waits (inl w) = positive (globals_there h) (all_passed (answer_checks p side h (RequestSuccess rest)) w.welcome.not_refused).0
      some_waits (inr w) = absurd (not_both w.0)
  there_counted (Took c Msg.RequestFailure b ∷ h) g = omega (arith, some_waits g.0, there_counted h g.1)
    where
      some_waits : TakenAt true p side h Msg.RequestFailure b → 0 < globals_there h
      some_waits (inl w) = positive (globals_there h) (all_passed (answer_checks p side h Msg.RequestFailure) w.welcome.not_refused).0
      some_waits (inr w) = absurd (not_both w.0)
  there_counted (Took c m b ∷ h) g = there_counted h g.1
  there_counted (i ∷ h) g = there_counted h g.1

-- ---- of two ends

module _ {K : Type 0} (p : Parties K) where
  pub was_asked : (side : Side) (h before : List Item) → Meets p side h before → took_service_request before ≡ true → sent_service_request h ≡ true
  was_asked side h before v e = sent_request_is h ∙ asks_more _ _ v.back (sym (took_request_is before) ∙ e)

  pub not_asked : (side : Side) (h before : List Item) → Meets p side h before → sent_service_request before ≡ false → took_service_request h ≡ false
  not_asked side h before v e = took_request_is h ∙ (ap asks_service v.same ∙ (sym (sent_request_is before) ∙ e))

  pub was_granted : (side : Side) (h before : List Item) → Meets p side h before → took_service_accept before ≡ true → sent_service_accept h ≡ true
  was_granted side h before v e = sent_accept_is h ∙ grants_more _ _ v.back (sym (took_accept_is before) ∙ e)

  pub not_granted : (side : Side) (h before : List Item) → Meets p side h before → sent_service_accept before ≡ false → took_service_accept h ≡ false
  not_granted side h before v e = took_accept_is h ∙ (ap grants_service v.same ∙ (sym (sent_accept_is before) ∙ e))

  pub both_in : (side : Side) (h before : List Item) → Meets p side h before → is_in (peer side) (sent_success before) (took_success before) ≡ true → authenticated side h ≡ true
  both_in Client h before v e = took_success_is h ∙ (ap lets_in v.same ∙ (sym (sent_success_is before) ∙ e))
  both_in Server h before v e = sent_success_is h ∙ lets_more _ _ v.back (sym (took_success_is before) ∙ e)

  -- the request that the server answers is the one that the client sent last
  pub is_awaited : (h before : List Item) → Meets p Client h before → AnswerAt Server before → is_some (outstanding h) ≡ true
  is_awaited h before v a =
      some_bit (is_some (outstanding h)) (omega (arith, v.now.tally.asked refl, ap answers v.same, a.behind, said_more 50 _ _ v.back))

  pub is_probed : (h before : List Item) → Meets p Client h before → AnswerAt Server before → is_probe (last_request (messages_taken before)) ≡ true → probing h ≡ true
  is_probed h before v a e =
      let n : said 50 (messages_sent h) ≡ said 50 (messages_taken before) =
      omega (arith, v.now.tally.asked refl, ap answers v.same, a.behind, said_more 50 _ _ v.back, bit_small (is_some (outstanding h))) in
      ap is_probe (outstanding_is h (is_awaited h before v a) ∙ same_last _ _ v.back n) ∙ e

  pub some_waits : (side : Side) (h before : List Item) → Meets p side h before → 0 < globals_here before → 0 < globals_there h
  some_waits side h before v k =
      omega (arith, k, here_counted (peer side) before v.sends, there_counted p side h v.known, wants_more _ _ v.back, ap replies_to v.same)

  -- an end says whether it takes EXT_INFO in its first KEXINIT
  wanted : (marker : List ℕ) (a b : List Offer) → IsOlder a b → has_marker marker (nth no_offer 0 a).proposal.kex ≡ true → has_marker marker (nth no_offer 0 b).proposal.kex ≡ true
  wanted marker [] b o e = absurd (cc e)
  wanted marker (x ∷ a) b o e = ap (λ w. has_marker marker w.proposal.kex) (sym (nth_same no_offer 0 (x ∷ a) b o (omega arith))) ∙ e

  pub takes_them : (side : Side) (h before : List Item) → Meets p side h before → peer_takes_extensions (peer side) before ≡ true → takes_extensions side h ≡ true
  takes_them Client h before v e = wanted (extension_marker_of Client) _ _ (offers_more _ _ v.back) e
  takes_them Server h before v e = wanted (extension_marker_of Server) _ _ (offers_more _ _ v.back) e
