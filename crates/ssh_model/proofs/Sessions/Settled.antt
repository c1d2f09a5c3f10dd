-- If each of two ends took exactly what the other sent, neither waits for the other.
use Rattle.std.proofs.Common.{◌≡◌, ℕ, suc, ◌<◌, ◌≤◌, List, [], ◌∷◌, ◌++◌, length, map, refl, ap, sym, ◌∙◌, subst, arith, Bool, true, false, cond, is_some, ◌==◌, ◌&&◌, Option, Some, None}
use Rattle.ssh_model.specs.declared.side.Side.{Side}
use Rattle.ssh_model.specs.declared.side.Side.TheVariants.{Client, Server}
use Rattle.ssh_model.specs.Protocol.Side.{part}
use Rattle.ssh_model.specs.Protocol.Wire.Message.{Msg, Msg.NewKeys, Msg.KexInit, Msg.KexEcdhInit, Msg.KexEcdhReply, Msg.ServiceRequest, Msg.ServiceAccept, Msg.UserauthSuccess, Msg.Unknown, FitsContext, IsPayload, is_unknown, message_number, Proposal}
use Rattle.ssh_model.specs.Protocol.Sessions.Parties.{AreLawful, Parties}
use Rattle.ssh_model.specs.Protocol.Sessions.Items.{Item, Item.Sent, Item.Took, Item.TookGuess, Done, sent, took, bytes_of, Encoded, Encoded.EncodedBy, messages_sent, messages_taken}
use Rattle.ssh_model.specs.Protocol.Sessions.Epochs.{epoch}
use Rattle.ssh_model.specs.Protocol.KeyExchange.Exchanges.{offers, points, replies}
use Rattle.ssh_model.specs.Protocol.Sessions.Phases.{Phase, Phase.Start, Phase.Guessed, Phase.Exchanging, Phase.Keying, Phase.Normal, phase, blocked, outstanding, took_success, sent_success, took_service_request, sent_service_accept, sent_service_request, took_service_accept}
use Rattle.ssh_model.specs.Protocol.Channels.History as channel
use Rattle.ssh_model.specs.Protocol.Channels.Connection.{channel_items}
use Rattle.ssh_model.specs.Protocol.Sessions.Turns.{Run, EndRun, number_of}
use Rattle.ssh_model.specs.Protocol.Sessions.Quiet.{IsDelivered, IsQuiet, IsSettled}
use Rattle.ssh_model.proofs.Wire.OneMessage.{same_message}
use Rattle.ssh_model.proofs.Sessions.Encoding.{encoded_is_read}
use Rattle.ssh_model.proofs.Sessions.EndRuns.{end_run}
use Rattle.ssh_model.proofs.Sessions.EndKeeps.{End, InStep, extra, AllNumbered}
use Rattle.ssh_model.proofs.Sessions.EndTurns.{end_keeps}
use Rattle.ssh_model.proofs.Sessions.Serving.{both_ways}
use Rattle.ssh_model.proofs.Sessions.Sound.{AllFormed}
use Rattle.ssh_model.proofs.Sessions.SoundTurns.{end_sound}
use Rattle.ssh_model.proofs.Channels.View.{blocked_same}
use Rattle.ssh_model.proofs.AnyPeer.Keeps.{Grounds, PointsIn}
use Rattle.ssh_model.proofs.AnyPeer.Rows.{end_known}
use Rattle.ssh_model.proofs.AnyPeer.Tally.{bump, said, agreeing, bit, not_number, end_tally}

-- ---- payloads by their number

abbrev carried : ℕ → List (List ℕ) → ℕ
carried k [] = 0
carried k (b ∷ l) = bump (number_of b == k) (carried k l)

same_bump : (k n m x y : ℕ) → n ≡ m → x ≡ y → bump (n == k) x ≡ bump (m == k) y
same_bump k n m x y e f = ap (λ t. bump (t == k) x) e ∙ ap (λ z. bump (m == k) z) f

carried_sent : (k : ℕ) (h : List Item) → AllNumbered h → carried k (map bytes_of (sent h)) ≡ said k (messages_sent h)
carried_sent k [] f = refl
carried_sent k (Sent c NewKeys b ∷ h) f = same_bump k (number_of b) 21 _ _ f.0 (carried_sent k h f.1)
carried_sent k (Sent c m b ∷ h) f = same_bump k (number_of b) (message_number m) _ _ f.0 (carried_sent k h f.1)
carried_sent k (i ∷ h) f = carried_sent k h f.1

abbrev NoGuess : List Item → Type 0
NoGuess [] = Unit {0}
NoGuess (TookGuess b ∷ h) = ⊥
NoGuess (_ ∷ h) = NoGuess h

carried_taken : (k : ℕ) (h : List Item) → AllNumbered h → NoGuess h → carried k (map bytes_of (took h)) ≡ said k (messages_taken h)
carried_taken k [] f g = refl
carried_taken k (Took c NewKeys b ∷ h) f g = same_bump k (number_of b) 21 _ _ f.0 (carried_taken k h f.1 g)
carried_taken k (Took c m b ∷ h) f g = same_bump k (number_of b) (message_number m) _ _ f.0 (carried_taken k h f.1 g)
carried_taken k (TookGuess b ∷ h) f g = elim g [ ]
carried_taken k (i ∷ h) f g = carried_taken k h f.1 g

-- ---- messages by their number

abbrev AllKnown : List Encoded → Type 0
AllKnown [] = Unit {0}
AllKnown (EncodedBy m b ∷ l) = FitsContext true m × AllKnown l

known_sent : {K : Type 0} (p : Parties K) (h : List Item) → AllFormed p h → AllKnown (messages_sent h)
known_sent p [] f = tt
known_sent p (Sent c UserauthSuccess b ∷ h) f = (tt, known_sent p h f.1)
known_sent p (Sent c m b ∷ h) f = (f.0.0.context, known_sent p h f.1)
known_sent p (i ∷ h) f = known_sent p h f.1

known_taken : {K : Type 0} (p : Parties K) (h : List Item) → AllFormed p h → AllKnown (messages_taken h)
known_taken p [] f = tt
known_taken p (Took c m b ∷ h) f = (f.0.0.context, known_taken p h f.1)
known_taken p (i ∷ h) f = known_taken p h f.1

other_number : (k n x : ℕ) → is_unknown true k ≡ false → is_unknown true n ≡ true → bump (n == k) x ≡ x
other_number k n x f u = ap (λ t. bump t x) (not_number n k u f)

offers_said : (l : List Encoded) → AllKnown l → said 20 l ≡ length (offers l)
offers_said [] k = refl
offers_said (EncodedBy (KexInit o) b ∷ l) k = ap suc (offers_said l k.1)
offers_said (EncodedBy (Unknown n) b ∷ l) k = other_number 20 n _ refl k.0 ∙ offers_said l k.1
offers_said (EncodedBy m b ∷ l) k = offers_said l k.1

points_said : (l : List Encoded) → AllKnown l → said 30 l ≡ length (points l)
points_said [] k = refl
points_said (EncodedBy (KexEcdhInit q) b ∷ l) k = ap suc (points_said l k.1)
points_said (EncodedBy (Unknown n) b ∷ l) k = other_number 30 n _ refl k.0 ∙ points_said l k.1
points_said (EncodedBy m b ∷ l) k = points_said l k.1

replies_said : (l : List Encoded) → AllKnown l → said 31 l ≡ length (replies l)
replies_said [] k = refl
replies_said (EncodedBy (KexEcdhReply x q s) b ∷ l) k = ap suc (replies_said l k.1)
replies_said (EncodedBy (Unknown n) b ∷ l) k = other_number 31 n _ refl k.0 ∙ replies_said l k.1
replies_said (EncodedBy m b ∷ l) k = replies_said l k.1

epoch_sent : (h : List Item) → AllKnown (messages_sent h) → said 21 (messages_sent h) ≡ epoch (sent h)
epoch_sent [] k = refl
epoch_sent (Sent c NewKeys b ∷ h) k = ap suc (epoch_sent h k.1)
epoch_sent (Sent c (Unknown n) b ∷ h) k = other_number 21 n _ refl k.0 ∙ epoch_sent h k.1
epoch_sent (Sent c m b ∷ h) k = epoch_sent h k.1
epoch_sent (i ∷ h) k = epoch_sent h k

epoch_took : (h : List Item) → AllKnown (messages_taken h) → said 21 (messages_taken h) ≡ epoch (took h)
epoch_took [] k = refl
epoch_took (Took c NewKeys b ∷ h) k = ap suc (epoch_took h k.1)
epoch_took (Took c (Unknown n) b ∷ h) k = other_number 21 n _ refl k.0 ∙ epoch_took h k.1
epoch_took (Took c m b ∷ h) k = epoch_took h k.1
epoch_took (i ∷ h) k = epoch_took h k

grow : (t : Bool) (n : ℕ) → 0 < n → 0 < bump t n
grow true n k = omega arith
grow false n k = k

sent_5 : (h : List Item) → sent_service_request h ≡ true → 0 < said 5 (messages_sent h)
sent_5 [] e = absurd (cc e)
sent_5 (Sent c (ServiceRequest s) b ∷ h) e = omega arith
sent_5 (Sent c (Unknown n) b ∷ h) e = grow (n == 5) _ (sent_5 h e)
sent_5 (Sent c m b ∷ h) e = sent_5 h e
sent_5 (i ∷ h) e = sent_5 h e

took_5 : (h : List Item) → AllKnown (messages_taken h) → 0 < said 5 (messages_taken h) → took_service_request h ≡ true
took_5 [] k e = absurd (omega (arith, e))
took_5 (Took c (ServiceRequest s) b ∷ h) k e = refl
took_5 (Took c (Unknown n) b ∷ h) k e = took_5 h k.1 (omega (arith, e, other_number 5 n (said 5 (messages_taken h)) refl k.0))
took_5 (Took c m b ∷ h) k e = took_5 h k.1 e
took_5 (i ∷ h) k e = took_5 h k e

sent_6 : (h : List Item) → sent_service_accept h ≡ true → 0 < said 6 (messages_sent h)
sent_6 [] e = absurd (cc e)
sent_6 (Sent c (ServiceAccept s) b ∷ h) e = omega arith
sent_6 (Sent c (Unknown n) b ∷ h) e = grow (n == 6) _ (sent_6 h e)
sent_6 (Sent c m b ∷ h) e = sent_6 h e
sent_6 (i ∷ h) e = sent_6 h e

took_6 : (h : List Item) → AllKnown (messages_taken h) → 0 < said 6 (messages_taken h) → took_service_accept h ≡ true
took_6 [] k e = absurd (omega (arith, e))
took_6 (Took c (ServiceAccept s) b ∷ h) k e = refl
took_6 (Took c (Unknown n) b ∷ h) k e = took_6 h k.1 (omega (arith, e, other_number 6 n (said 6 (messages_taken h)) refl k.0))
took_6 (Took c m b ∷ h) k e = took_6 h k.1 e
took_6 (i ∷ h) k e = took_6 h k e

sent_52 : (h : List Item) → sent_success h ≡ true → 0 < said 52 (messages_sent h)
sent_52 [] e = absurd (cc e)
sent_52 (Sent c UserauthSuccess b ∷ h) e = omega arith
sent_52 (Sent c (Unknown n) b ∷ h) e = grow (n == 52) _ (sent_52 h e)
sent_52 (Sent c m b ∷ h) e = sent_52 h e
sent_52 (i ∷ h) e = sent_52 h e

took_52 : (h : List Item) → AllKnown (messages_taken h) → 0 < said 52 (messages_taken h) → took_success h ≡ true
took_52 [] k e = absurd (omega (arith, e))
took_52 (Took c UserauthSuccess b ∷ h) k e = refl
took_52 (Took c (Unknown n) b ∷ h) k e = took_52 h k.1 (omega (arith, e, other_number 52 n (said 52 (messages_taken h)) refl k.0))
took_52 (Took c m b ∷ h) k e = took_52 h k.1 e
took_52 (i ∷ h) k e = took_52 h k e

-- ---- no end of ours guesses

abbrev Unfollowed : List ℕ → Type 0
Unfollowed b = (o : Proposal) → IsPayload true (KexInit o) b → o.follows ≡ false

abbrev Each : List (List ℕ) → Type 0
Each [] = Unit {0}
Each (b ∷ l) = Unfollowed b × Each l

not_guessed : (t x : Bool) → t ≡ false → cond (t && x) Guessed Exchanging ≡ Guessed → ⊥
not_guessed true x f e = cc f
not_guessed false x f e = cc e

module _ {K : Type 0} (p : Parties K) (side : Side) where
  own_unfollowed : (c : Option ℕ) (m : Msg) (b : List ℕ) (h : List Item) → Grounds true p side (Sent c m b ∷ h) → IsPayload true m b → Unfollowed b
  own_unfollowed c (KexInit own) b h g s o r =
      let e = same_message (KexInit o) (KexInit own) b r s in
      let f : o ≡ own = cc e in
      ap (λ x. x.follows) f ∙ ap (λ x. x.follows) g.0.offer_is
  own_unfollowed c m b h g s o r = let e = same_message (KexInit o) m b r s in absurd (cc e)

  each_sent : (h : List Item) → Grounds true p side h → AllFormed p h → Each (map bytes_of (sent h))
  each_sent [] g f = tt
  each_sent (Sent c NewKeys b ∷ h) g f = (own_unfollowed c NewKeys b h g (encoded_is_read NewKeys b f.0.0), each_sent h g.1 f.1)
  each_sent (Sent c UserauthSuccess b ∷ h) g f = (own_unfollowed c UserauthSuccess b h g (encoded_is_read UserauthSuccess b f.0.0), each_sent h g.1 f.1)
  each_sent (Sent c m b ∷ h) g f = (own_unfollowed c m b h g (encoded_is_read m b f.0.0), each_sent h g.1 f.1)
  each_sent (i ∷ h) g f = each_sent h g.1 f.1

  unguessed : (h : List Item) → Each (map bytes_of (took h)) → AllFormed p h → phase p side h ≡ Guessed → ⊥
  unguessed [] a f e = cc e
  unguessed (Took c (KexInit o) b ∷ h) a f e = not_guessed o.follows _ (a.0 o f.0.0) e
  unguessed (Took c NewKeys b ∷ h) a f e = cc e
  unguessed (Took c (KexEcdhInit q) b ∷ h) a f e = cc e
  unguessed (Took c (KexEcdhReply k q s) b ∷ h) a f e = cc e
  unguessed (Took c m b ∷ h) a f e = unguessed h a.1 f.1 e
  unguessed (TookGuess b ∷ h) a f e = cc e
  unguessed (i ∷ h) a f e = unguessed h a f.1 e

  no_guess : (h : List Item) → Each (map bytes_of (took h)) → AllFormed p h → Grounds true p side h → NoGuess h
  no_guess [] a f g = tt
  no_guess (Took c NewKeys b ∷ h) a f g = no_guess h a.1 f.1 g.1
  no_guess (Took c m b ∷ h) a f g = no_guess h a.1 f.1 g.1
  no_guess (TookGuess b ∷ h) a f g = unguessed h a.1 f.1 g.0.guessed
  no_guess (i ∷ h) a f g = no_guess h a f.1 g.1

-- ---- where the ends stand

points_level : (ph : Phase) (n t : ℕ) → PointsIn ph n t → n ≡ t → agreeing ph ≡ 0
points_level Start n t i e = refl
points_level Guessed n t i e = absurd (omega (arith, i, e))
points_level Exchanging n t i e = absurd (omega (arith, i, e))
points_level Keying n t i e = refl
points_level Normal n t i e = refl

unblocked : (t : Bool) → extra t ≡ 0 → t ≡ false
unblocked true e = absurd (cc e)
unblocked false e = refl

normal_then : (ph : Phase) (out : Bool) (s t : ℕ) → InStep ph out s t → out ≡ false → s ≡ t → ph ≡ Normal
normal_then Start out s t i f e = absurd (both_ways out i.0 f)
normal_then Guessed out s t i f e = absurd (both_ways out i.0 f)
normal_then Exchanging out s t i f e = absurd (both_ways out i.0 f)
normal_then Keying out s t i f e = absurd (omega (arith, i.1, e))
normal_then Normal out s t i f e = refl

nothing_owed : (side : Side) (l : List channel.Item) → channel.blocked l ≡ false → channel.owed side l ≡ []
nothing_owed side [] e = refl
nothing_owed side (channel.Item.Sent at m ∷ l) e = nothing_owed side l e
nothing_owed side (channel.Item.Received at m ∷ l) e = ap (λ t. cond t (channel.due at m (channel.noted side l) ++ channel.owed side l) (channel.owed side l)) e ∙ nothing_owed side l e
nothing_owed side (channel.Item.KexinitSent ∷ l) e = absurd (cc e)
nothing_owed side (channel.Item.NewkeysSent ∷ l) e = refl

none_of : {A : Type 0} (o : Option A) → is_some o ≡ false → o ≡ None
none_of None e = refl
none_of (Some x) e = absurd (cc e)

module _ {K : Type 0} (p : Parties K) (laws : AreLawful p) where
  settled : (hc hs : List Item) → EndRun p Client hc → EndRun p Server hs → map bytes_of (took hc) ≡ map bytes_of (sent hs) → map bytes_of (took hs) ≡ map bytes_of (sent hc)
      → (n : ℕ) × (1 ≤ n) × IsQuiet p Client hc n × IsQuiet p Server hs n × (sent_service_request hc ≡ true → took_service_accept hc ≡ true) × (outstanding hc ≡ None)
  settled hc hs rc rs dc ds =
      let kc = end_keeps p laws Client hc rc in
      let ks = end_keeps p laws Server hs rs in
      let nc = end_known p laws Client hc rc in
      let ns = end_known p laws Server hs rs in
      let fc = (end_sound p laws Client hc rc).formed in
      let fs = (end_sound p laws Server hs rs).formed in
      let tc = end_tally p Client hc rc in
      let ts = end_tally p Server hs rs in
      let gc : NoGuess hc = no_guess p Client hc (subst Each (sym dc) (each_sent p Server hs ns.grounds fs)) fc nc.grounds in
      let gs : NoGuess hs = no_guess p Server hs (subst Each (sym ds) (each_sent p Client hc nc.grounds fc)) fs ns.grounds in
      let to_client : (k : ℕ) → said k (messages_taken hc) ≡ said k (messages_sent hs) = λ k. sym (carried_taken k hc kc.numbered gc) ∙ (ap (carried k) dc ∙ carried_sent k hs ks.numbered) in
      let to_server : (k : ℕ) → said k (messages_taken hs) ≡ said k (messages_sent hc) = λ k. sym (carried_taken k hs ks.numbered gs) ∙ (ap (carried k) ds ∙ carried_sent k hc kc.numbered) in
      let sc = known_sent p hc fc in
      let ss = known_sent p hs fs in
      let uc = known_taken p hc fc in
      let us = known_taken p hs fs in
      let own : epoch (took hc) ≡ epoch (sent hs) = sym (epoch_took hc uc) ∙ (to_client 21 ∙ epoch_sent hs ss) in
      let other : epoch (took hs) ≡ epoch (sent hc) = sym (epoch_took hs us) ∙ (to_server 21 ∙ epoch_sent hc sc) in
      let replied : length (replies (messages_taken hc)) ≡ length (replies (messages_sent hs)) = sym (replies_said (messages_taken hc) uc) ∙ (to_client 31 ∙ replies_said (messages_sent hs) ss) in
      let one : epoch (sent hc) ≡ epoch (sent hs) = sym (nc.counted refl).replied ∙ (replied ∙ ns.answered refl) in
      let pointed : length (points (messages_taken hs)) ≡ length (points (messages_sent hc)) = sym (points_said (messages_taken hs) us) ∙ (to_server 30 ∙ points_said (messages_sent hc) sc) in
      let level : agreeing (phase p Client hc) ≡ 0 = points_level (phase p Client hc) _ _ (nc.counted refl).pointed (sym pointed ∙ (ts.pointed refl ∙ sym own)) in
      let offered_c : length (offers (messages_taken hc)) ≡ length (offers (messages_sent hs)) = sym (offers_said (messages_taken hc) uc) ∙ (to_client 20 ∙ offers_said (messages_sent hs) ss) in
      let offered_s : length (offers (messages_taken hs)) ≡ length (offers (messages_sent hc)) = sym (offers_said (messages_taken hs) us) ∙ (to_server 20 ∙ offers_said (messages_sent hc) sc) in
      let free_s : blocked hs ≡ false = unblocked (blocked hs) (omega (arith, offered_c, tc.heard, level, ks.offers_sent, one)) in
      let normal_s : phase p Server hs ≡ Normal = normal_then (phase p Server hs) _ _ _ ks.in_step free_s (sym one ∙ sym other) in
      let level_s : agreeing (phase p Server hs) ≡ 0 = ap agreeing normal_s in
      let free_c : blocked hc ≡ false = unblocked (blocked hc) (omega (arith, offered_s, ts.heard, level_s, kc.offers_sent, one)) in
      let normal_c : phase p Client hc ≡ Normal = normal_then (phase p Client hc) _ _ _ kc.in_step free_c (one ∙ sym own) in
      let some : 1 ≤ epoch (sent hc) = omega (arith, kc.offered, kc.offers_sent, ap extra free_c) in
      let served : sent_service_request hc ≡ true → took_service_accept hc ≡ true = λ e.
      let a : took_service_request hs ≡ true = took_5 hs us (omega (arith, sent_5 hc e, to_server 5)) in
      took_6 hc uc (omega (arith, sent_6 hs (ts.served refl a), to_client 6)) in (
        epoch (sent hc),
        some,
        record { phase_is = normal_c; unblocked = free_c; owes_nothing = nothing_owed Client (channel_items hc) (blocked_same hc ∙ free_c); sent_is = refl; took_is = own ∙ sym one },
        record { phase_is = normal_s; unblocked = free_s; owes_nothing = nothing_owed Server (channel_items hs) (blocked_same hs ∙ free_s); sent_is = sym one; took_is = other },
        served,
        none_of (outstanding hc) (no_user (is_some (outstanding hc)) refl),
      )
    where
      no_user : (t : Bool) → is_some (outstanding hc) ≡ t → is_some (outstanding hc) ≡ false
      no_user false e = e
      no_user true e = absurd (go (took_success hc) refl (sent_success hs) refl)
        where
          kc : End p Client hc
          kc = end_keeps p laws Client hc rc

          ks : End p Server hs
          ks = end_keeps p laws Server hs rs

          fc : AllFormed p hc
          fc = (end_sound p laws Client hc rc).formed

          fs : AllFormed p hs
          fs = (end_sound p laws Server hs rs).formed

          gc : NoGuess hc
          gc = no_guess p Client hc (subst Each (sym dc) (each_sent p Server hs (end_known p laws Server hs rs).grounds fs)) fc (end_known p laws Client hc rc).grounds

          gs : NoGuess hs
          gs = no_guess p Server hs (subst Each (sym ds) (each_sent p Client hc (end_known p laws Client hc rc).grounds fc)) fs (end_known p laws Server hs rs).grounds

          to_client : (k : ℕ) → said k (messages_taken hc) ≡ said k (messages_sent hs)
          to_client k = sym (carried_taken k hc kc.numbered gc) ∙ (ap (carried k) dc ∙ carried_sent k hs ks.numbered)

          to_server : (k : ℕ) → said k (messages_taken hs) ≡ said k (messages_sent hc)
          to_server k = sym (carried_taken k hs ks.numbered gs) ∙ (ap (carried k) ds ∙ carried_sent k hc kc.numbered)

          go : (t : Bool) → took_success hc ≡ t → (s : Bool) → sent_success hs ≡ s → ⊥
          go true f s g = both_ways (is_some (outstanding hc)) e ((end_tally p Client hc rc).let_in refl f)
          go false f true g = both_ways (took_success hc) (took_52 hc (known_taken p hc fc) (omega (arith, sent_52 hs g, to_client 52))) f
          go false f false g =
              omega (arith, (end_tally p Client hc rc).asked refl, (end_tally p Server hs rs).answered refl g, to_server 50, to_client 51, to_client 52, to_client 60, ap bit e)

  pub settled_run : (run : List Done) → Run p run → IsDelivered run → IsSettled p run
  settled_run run r d =
      let s = settled (part Client run) (part Server run) (end_run p run r Client) (end_run p run r Server) (d Client) (d Server) in
      record { exchanges = s.0; some = s.1; each = each s.0 s.2 s.3; service = s.4; user = s.5 }
    where
      each : (n : ℕ) → IsQuiet p Client (part Client run) n → IsQuiet p Server (part Server run) n → (side : Side) → IsQuiet p side (part side run) n
      each n c s Client = c
      each n c s Server = s
