-- What an end put out since some history, piece by piece.
use Rattle.std.proofs.Common.{◌≡◌, ℕ, List, [], ◌∷◌, ◌++◌, inr, refl, ap, sym, ◌∙◌, subst, append_assoc, append-nil, Option}
use Rattle.ssh_model.specs.declared.side.Side.{Side}
use Rattle.ssh_model.specs.Protocol.Lists.{IsOlder}
use Rattle.ssh_model.specs.Protocol.Wire.Line.{line_end}
use Rattle.ssh_model.specs.Protocol.Wire.Message.{Msg}
use Rattle.ssh_model.specs.Protocol.Wire.Sealing.{IsSealed}
use Rattle.ssh_model.specs.Protocol.KeyExchange.Exchanges.{sending_key, sending_number}
use Rattle.ssh_model.specs.Protocol.Sessions.Parties.{Parties}
use Rattle.ssh_model.specs.Protocol.Sessions.Items.{Item, Item.SentLine, Item.Sent, messages_sent}
use Rattle.ssh_model.specs.Protocol.Sessions.Events.{PutsNothing, PutsOut, PutsOut.nothing as none_out, PutsOut.version as line_out, PutsOut.packet as packet_out, PutsOut.other as other_out}
use Rattle.ssh_model.specs.Protocol.Sessions.Faithful.{PutsSince, PutsSince.nothing, PutsSince.version, PutsSince.packet, PutsSince.other}
use Rattle.ssh_model.proofs.Sessions.Older.{older_self}
use Rattle.ssh_model.proofs.Faithful.Lined.{has_said}

module _ {K : Type 0} (p : Parties K) (side : Side) where
  cast : (since h : List Item) (a b : List ℕ) → a ≡ b → PutsSince p side since h a → PutsSince p side since h b
  cast since h a b e x = let P : List ℕ → Type 0 = λ w. PutsSince p side since h w in subst P e x

  -- all that was put out, and what was put out from there on
  pub all_since : (h : List Item) (bytes : List ℕ) → PutsOut p side h bytes → PutsSince p side [] h bytes
  all_since h bytes none_out = nothing
  all_since h bytes (line_out {bytes = c} line x) = cast [] h _ _ (sym (append_assoc c line line_end)) (version line (all_since _ _ x))
  all_since h bytes (packet_out c m b wire s x) = packet c m b wire s (all_since _ _ x)
  all_since h bytes (other_out i n x) = other i n (all_since _ _ x)

  pub since_then : (since h g : List Item) (a b : List ℕ) → PutsSince p side since h a → PutsSince p side h g b → PutsSince p side since g (a ++ b)
  since_then since h g a b x nothing = cast since h a (a ++ []) (sym (append-nil a)) x
  since_then since h g a b x (version {bytes = c} line y) = cast since g _ _ (append_assoc a c (line ++ line_end)) (version line (since_then since h _ a c x y))
  since_then since h g a b x (packet {bytes = c} q m d wire s y) = cast since g _ _ (append_assoc a c wire) (packet q m d wire s (since_then since h _ a c x y))
  since_then since h g a b x (other i n y) = other i n (since_then since h _ a b x y)

  pub put_out_then : (h g : List Item) (a b : List ℕ) → PutsOut p side h a → PutsSince p side h g b → PutsOut p side g (a ++ b)
  put_out_then h g a b x nothing = let P : List ℕ → Type 0 = λ w. PutsOut p side h w in subst P (sym (append-nil a)) x
  put_out_then h g a b x (version {h = k} {bytes = c} line y) =
      let P : List ℕ → Type 0 = λ w. PutsOut p side (SentLine line ∷ k) w in
      subst P (append_assoc (a ++ c) line line_end ∙ append_assoc a c (line ++ line_end)) (line_out line (put_out_then h k a c x y))
  put_out_then h g a b x (packet {h = k} {bytes = c} q m d wire s y) =
      let P : List ℕ → Type 0 = λ w. PutsOut p side (Sent q m d ∷ k) w in
      subst P (append_assoc a c wire) (packet_out q m d wire s (put_out_then h k a c x y))
  put_out_then h g a b x (other i n y) = other_out i n (put_out_then h _ a b x y)

  pub since_older : (since h : List Item) (bytes : List ℕ) → PutsSince p side since h bytes → IsOlder since h
  since_older since h bytes nothing = older_self since
  since_older since h bytes (version line x) = inr (since_older since _ _ x)
  since_older since h bytes (packet c m b wire s x) = inr (since_older since _ _ x)
  since_older since h bytes (other i n x) = inr (since_older since _ _ x)

  -- What comes first: nothing, a line, or a packet, after items by which nothing was put out.
  pub data First (since : List Item) : List Item → List ℕ → Type 0 where
    no_more : {h : List Item} → messages_sent h ≡ messages_sent since → has_said h ≡ has_said since → First since h []
    a_line : {h : List Item} {bytes : List ℕ} (line rest : List ℕ) (before : List Item) → messages_sent before ≡ messages_sent since → has_said before ≡ has_said since → bytes ≡ (line ++ line_end) ++ rest →
        PutsSince p side (SentLine line ∷ before) h rest → First since h bytes
    a_packet : {h : List Item} {bytes : List ℕ} (c : Option ℕ) (m : Msg) (b wire rest : List ℕ) (before : List Item) → messages_sent before ≡ messages_sent since → has_said before ≡ has_said since → bytes ≡ wire ++ rest →
        IsSealed p.crypto (sending_key p side before) (sending_number side before) b wire → PutsSince p side (Sent c m b ∷ before) h rest → First since h bytes

  more_line : (since h : List Item) (bytes line : List ℕ) → First since h bytes → First since (SentLine line ∷ h) (bytes ++ (line ++ line_end))
  more_line since h bytes line (no_more s t) = a_line line [] h s t (sym (append-nil (line ++ line_end))) nothing
  more_line since h bytes line (a_line x rest b s t e y) =
      a_line x (rest ++ (line ++ line_end)) b s t (ap (λ w. w ++ (line ++ line_end)) e ∙ append_assoc (x ++ line_end) rest (line ++ line_end)) (version line y)
  more_line since h bytes line (a_packet c m d wire rest b s t e z y) =
      a_packet c m d wire (rest ++ (line ++ line_end)) b s t (ap (λ w. w ++ (line ++ line_end)) e ∙ append_assoc wire rest (line ++ line_end)) z (version line y)

  more_packet : (since h : List Item) (bytes : List ℕ) (q : Option ℕ) (n : Msg) (x last : List ℕ) → IsSealed p.crypto (sending_key p side h) (sending_number side h) x last → First since h bytes
      → First since (Sent q n x ∷ h) (bytes ++ last)
  more_packet since h bytes q n x last i (no_more s t) = a_packet q n x last [] h s t (sym (append-nil last)) i nothing
  more_packet since h bytes q n x last i (a_line line rest b s t e y) =
      a_line line (rest ++ last) b s t (ap (λ w. w ++ last) e ∙ append_assoc (line ++ line_end) rest last) (packet q n x last i y)
  more_packet since h bytes q n x last i (a_packet c m d wire rest b s t e z y) =
      a_packet c m d wire (rest ++ last) b s t (ap (λ w. w ++ last) e ∙ append_assoc wire rest last) z (packet q n x last i y)

  silent_sent : (i : Item) (h : List Item) → PutsNothing i → (messages_sent (i ∷ h) ≡ messages_sent h) × (has_said (i ∷ h) ≡ has_said h)
  silent_sent (SentLine line) h q = elim q [ ]
  silent_sent (Sent c m b) h q = elim q [ ]
  silent_sent i h q = (refl, refl)

  more_other : (since h : List Item) (bytes : List ℕ) (i : Item) → PutsNothing i → First since h bytes → First since (i ∷ h) bytes
  more_other since h bytes i q (no_more s t) = let e = silent_sent i h q in no_more (e.0 ∙ s) (e.1 ∙ t)
  more_other since h bytes i q (a_line line rest b s t e y) = a_line line rest b s t e (other i q y)
  more_other since h bytes i q (a_packet c m d wire rest b s t e z y) = a_packet c m d wire rest b s t e z (other i q y)

  pub first : (since h : List Item) (bytes : List ℕ) → PutsSince p side since h bytes → First since h bytes
  first since h bytes nothing = no_more refl refl
  first since h bytes (version line x) = more_line since _ _ line (first since _ _ x)
  first since h bytes (packet c m b wire s x) = more_packet since _ _ c m b wire s (first since _ _ x)
  first since h bytes (other i n x) = more_other since _ _ i n (first since _ _ x)
