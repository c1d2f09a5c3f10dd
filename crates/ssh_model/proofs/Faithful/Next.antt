-- The next message that comes to an end, among those that the other end sent.
use Rattle.std.proofs.Common.{◌≡◌, ℕ, suc, List, [], ◌∷◌, ◌++◌, length, map, inl, inr, refl, ap, sym, ◌∙◌, arith, subst, length-append, true, Option}
use Rattle.ssh_model.specs.declared.side.Side.{Side}
use Rattle.ssh_model.specs.Protocol.Lists.{IsOlder}
use Rattle.ssh_model.specs.Protocol.Wire.Message.{Msg, Msg.NewKeys, Msg.UserauthSuccess}
use Rattle.ssh_model.specs.Protocol.Sessions.Parties.{Parties}
use Rattle.ssh_model.specs.Protocol.Sessions.Items.{Item, Item.Sent, Item.Took, Item.TookGuess, sent, took, bytes_of, Encoded, Encoded.EncodedBy, messages_sent, messages_taken}
use Rattle.ssh_model.specs.Protocol.Sessions.Epochs.{epoch, count}
use Rattle.ssh_model.specs.Protocol.Sessions.Turns.{IsEncoded}
use Rattle.ssh_model.proofs.Sessions.Ends.{older_same}
use Rattle.ssh_model.proofs.Sessions.Older.{older_self}
use Rattle.ssh_model.proofs.Sessions.Sound.{AllFormed, Formed}
use Rattle.ssh_model.proofs.AnyPeer.Keeps.{Grounds}
use Rattle.ssh_model.proofs.Faithful.Sendable.{AllSends, Sendable}

-- ---- payloads of messages

abbrev pub bytes : List Encoded → List (List ℕ)
bytes [] = []
bytes (EncodedBy m b ∷ l) = b ∷ bytes l

abbrev pub NoGuess : List Item → Type 0
NoGuess [] = Unit {0}
NoGuess (TookGuess b ∷ h) = ⊥
NoGuess (_ ∷ h) = NoGuess h

pub sent_bytes : (h : List Item) → map bytes_of (sent h) ≡ bytes (messages_sent h)
sent_bytes [] = refl
sent_bytes (Sent c NewKeys b ∷ h) = ap (λ l. b ∷ l) (sent_bytes h)
sent_bytes (Sent c m b ∷ h) = ap (λ l. b ∷ l) (sent_bytes h)
sent_bytes (i ∷ h) = sent_bytes h

pub took_bytes : (h : List Item) → NoGuess h → map bytes_of (took h) ≡ bytes (messages_taken h)
took_bytes [] g = refl
took_bytes (Took c NewKeys b ∷ h) g = ap (λ l. b ∷ l) (took_bytes h g)
took_bytes (Took c m b ∷ h) g = ap (λ l. b ∷ l) (took_bytes h g)
took_bytes (TookGuess b ∷ h) g = elim g [ ]
took_bytes (i ∷ h) g = took_bytes h g

abbrev epoch_of : List Encoded → ℕ
epoch_of [] = 0
epoch_of (EncodedBy NewKeys b ∷ l) = suc (epoch_of l)
epoch_of (EncodedBy m b ∷ l) = epoch_of l

epoch_sent : (h : List Item) → epoch (sent h) ≡ epoch_of (messages_sent h)
epoch_sent [] = refl
epoch_sent (Sent c NewKeys b ∷ h) = ap suc (epoch_sent h)
epoch_sent (Sent c m b ∷ h) = epoch_sent h
epoch_sent (i ∷ h) = epoch_sent h

epoch_took : (h : List Item) → epoch (took h) ≡ epoch_of (messages_taken h)
epoch_took [] = refl
epoch_took (Took c NewKeys b ∷ h) = ap suc (epoch_took h)
epoch_took (Took c m b ∷ h) = epoch_took h
epoch_took (TookGuess b ∷ h) = epoch_took h
epoch_took (i ∷ h) = epoch_took h

abbrev count_of : List Encoded → ℕ
count_of [] = 0
count_of (EncodedBy NewKeys b ∷ l) = 0
count_of (EncodedBy m b ∷ l) = suc (count_of l)

count_sent : (h : List Item) → count (sent h) ≡ count_of (messages_sent h)
count_sent [] = refl
count_sent (Sent c NewKeys b ∷ h) = refl
count_sent (Sent c m b ∷ h) = ap suc (count_sent h)
count_sent (i ∷ h) = count_sent h

count_took : (h : List Item) → NoGuess h → count (took h) ≡ count_of (messages_taken h)
count_took [] g = refl
count_took (Took c NewKeys b ∷ h) g = refl
count_took (Took c m b ∷ h) g = ap suc (count_took h g)
count_took (TookGuess b ∷ h) g = elim g [ ]
count_took (i ∷ h) g = count_took h g

pub same_epoch : (h before : List Item) → messages_taken h ≡ messages_sent before → epoch (took h) ≡ epoch (sent before)
same_epoch h before e = epoch_took h ∙ (ap epoch_of e ∙ sym (epoch_sent before))

pub same_count : (h before : List Item) → NoGuess h → messages_taken h ≡ messages_sent before → count (took h) ≡ count (sent before)
same_count h before g e = count_took h g ∙ (ap count_of e ∙ sym (count_sent before))

-- ---- older parts

length_bytes : (l : List Encoded) → length (bytes l) ≡ length l
length_bytes [] = refl
length_bytes (EncodedBy m b ∷ l) = ap suc (length_bytes l)

longer : (l newer : List (List ℕ)) (x : List ℕ) → l ≡ newer ++ (x ∷ l) → ⊥
longer l newer x e = omega (arith, ap length e, length-append newer (x ∷ l))

pub sends_older : (side : Side) (before h : List Item) → IsOlder before h → AllSends side h → AllSends side before
sends_older side before [] e s = let P : List Item → Type 0 = λ l. AllSends side l in subst P (sym e) s
sends_older side before (i ∷ h) (inl e) s = let P : List Item → Type 0 = λ l. AllSends side l in subst P (sym e) s
sends_older side before (Sent c m b ∷ h) (inr o) s = sends_older side before h o s.1
sends_older side before (i ∷ h) (inr o) s = sends_older side before h o s

pub grounds_older : {K : Type 0} (p : Parties K) (side : Side) (before h : List Item) → IsOlder before h → Grounds true p side h → Grounds true p side before
grounds_older p side before [] e g = let P : List Item → Type 0 = λ l. Grounds true p side l in subst P (sym e) g
grounds_older p side before (i ∷ h) (inl e) g = let P : List Item → Type 0 = λ l. Grounds true p side l in subst P (sym e) g
grounds_older p side before (i ∷ h) (inr o) g = grounds_older p side before h o g.1

pub taken_older : (before h : List Item) → IsOlder before h → IsOlder (messages_taken before) (messages_taken h)
taken_older before [] e = ap messages_taken e
taken_older before (i ∷ h) (inl e) = let P : List Item → Type 0 = λ l. IsOlder (messages_taken before) (messages_taken l) in subst P e (older_self (messages_taken before))
taken_older before (Took c m b ∷ h) (inr o) = inr (taken_older before h o)
taken_older before (i ∷ h) (inr o) = taken_older before h o

pub sent_older : (before h : List Item) → IsOlder before h → IsOlder (messages_sent before) (messages_sent h)
sent_older before [] e = ap messages_sent e
sent_older before (i ∷ h) (inl e) = let P : List Item → Type 0 = λ l. IsOlder (messages_sent before) (messages_sent l) in subst P e (older_self (messages_sent before))
sent_older before (Sent c m b ∷ h) (inr o) = inr (sent_older before h o)
sent_older before (i ∷ h) (inr o) = sent_older before h o

-- ---- the next message

-- The message with this payload, and the history of its sender before it, in which the sender had sent just those messages.
pub record Next {K : Type 0} (p : Parties K) (side : Side) (h : List Item) (old : List Encoded) (b : List ℕ) : Type 0 where
  pub channel : Option ℕ
  pub message : Msg
  pub before : List Item
  pub same : messages_sent before ≡ old
  pub older : IsOlder (Sent channel message b ∷ before) h
  pub encoded : IsEncoded message b
  pub sendable : Sendable side channel message before
  pub sends : AllSends side before
  pub grounds : Grounds true p side before

module _ {K : Type 0} (p : Parties K) (side : Side) where
  encoded_of : (c : Option ℕ) (m : Msg) (b : List ℕ) (h : List Item) → Formed p (Sent c m b) h → IsEncoded m b
  encoded_of c UserauthSuccess b h f = f.0
  encoded_of c m b h f = f.0

  passed : (i : Item) (h : List Item) (old : List Encoded) (b : List ℕ) → Next p side h old b → Next p side (i ∷ h) old b
  passed i h old b n = record { channel = n.channel; message = n.message; before = n.before; same = n.same; older = inr n.older; encoded = n.encoded; sendable = n.sendable; sends = n.sends; grounds = n.grounds }

  found : (c : Option ℕ) (m : Msg) (x b : List ℕ) (h : List Item) (old : List Encoded) → messages_sent h ≡ old → x ≡ b → IsEncoded m x → Sendable side c m h → AllSends side h → Grounds true p side h → Next p side (Sent c m x ∷ h) old b
  found c m x b h old e f s t a g =
      let P : List ℕ → Type 0 = λ y. Next p side (Sent c m x ∷ h) old y in
      subst P f (record { channel = c; message = m; before = h; same = e; older = inl refl; encoded = s; sendable = t; sends = a; grounds = g })

  next_in : (h : List Item) (old : List Encoded) (b : List ℕ) (newer : List (List ℕ)) → AllSends side h → AllFormed p h → Grounds true p side h → IsOlder old (messages_sent h) → bytes (messages_sent h) ≡ newer ++ (b ∷ bytes old) → Next p side h old b
  next_in [] old b [] s f g o e = absurd (cc e)
  next_in [] old b (x ∷ newer) s f g o e = absurd (cc e)
  next_in (Sent c m x ∷ h) old b newer s f g (inl o) e = absurd (longer (bytes old) newer b (ap bytes o ∙ e))
  next_in (Sent c m x ∷ h) old b [] s f g (inr o) e =
      let same : x ≡ b = cc e in
      let rest : bytes (messages_sent h) ≡ bytes old = cc e in
      let n : length (messages_sent h) ≡ length old = sym (length_bytes (messages_sent h)) ∙ (ap length rest ∙ length_bytes old) in
      found c m x b h old (sym (older_same old (messages_sent h) o (sym n))) same (encoded_of c m x h f.0) s.0 s.1 g.1
  next_in (Sent c m x ∷ h) old b (y ∷ newer) s f g (inr o) e =
      let rest : bytes (messages_sent h) ≡ newer ++ (b ∷ bytes old) = cc e in
      passed (Sent c m x) h old b (next_in h old b newer s.1 f.1 g.1 o rest)
  next_in (i ∷ h) old b newer s f g o e = passed i h old b (next_in h old b newer s f.1 g.1 o e)

  pub next : (h : List Item) (other : List Item) (b : List ℕ) (newer : List (List ℕ)) → AllSends side h → AllFormed p h → Grounds true p side h → NoGuess other → IsOlder (messages_taken other) (messages_sent h)
      → map bytes_of (sent h) ≡ newer ++ (b ∷ map bytes_of (took other)) → Next p side h (messages_taken other) b
  next h other b newer s f g n o e =
      next_in h (messages_taken other) b newer s f g o (sym (sent_bytes h) ∙ (e ∙ ap (λ l. newer ++ (b ∷ l)) (took_bytes other n)))
