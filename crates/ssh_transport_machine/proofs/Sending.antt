-- What was put out encodes a message.
use Rattle.std.proofs.Common.{◌≡◌, ℕ, zero, suc, length, map, take, append_assoc, List, [], ◌∷◌, ◌++◌, refl, ap, sym, ◌∙◌, append-nil, subst, arith, true, false}
use Rattle.std.proofs.lemmas.List.{length-map}
use Rattle.std.specs.Prelude.{Result, Ok, Err, OnOk, Some, None, ◌^◌}
use Rattle.ssh_model.specs.Protocol.Wire.Message.{Msg, Msg.Disconnect, Msg.KexInit, Msg.KexEcdhInit, Msg.NewKeys}
use Rattle.ssh_model.specs.Protocol.Wire.Sealing.{Crypto}
use Rattle.ssh_model.specs.declared.refusal.Refusal.{Refusal}
use Rattle.ssh_model.specs.Protocol.Sessions.Refusals.{refusal_name, refusal_reason}
use Rattle.ssh_model.specs.Protocol.Sessions.Items.{Encoded, Encoded.EncodedBy}
use Rattle.ssh_model.specs.Protocol.Sessions.Turns.{IsEncoded}
use Rattle.ssh_model.specs.State.TransportLayer.Directions.{Direction, counted}
use Rattle.ssh_model.specs.Protocol.KeyExchange.Exchanges.{Material}
use Rattle.ssh_model.specs.Protocol.Sessions.Parties.{offer_of}
use Rattle.ssh_model.specs.State.TransportLayer.Kept.{Transport, after_own_kexinit, after_sent}
use Rattle.ssh_model.specs.State.TransportLayer.Turns as turns
use Rattle.ssh_model.specs.State.TransportLayer.Turns.{PutsPackets, counted_by}
use Rattle.ssh_packet.specs.Directions.{newkeys}
use Rattle.ssh_transport_machine.specs.Offering.{BothAnswered, OwnSent}
use Rattle.ssh_transport_machine.specs.State.{State, noted}
use Rattle.ssh_transport_machine.specs.declared.machine.kexinit.KexinitFacts.{KexinitFacts}
use Rattle.ssh_transport_machine.specs.Puts.{Outs, PutsPayload, Refuses, Sends}

pub on_ok : {A E P Q : Type 0} (r : Result A E) → (P → Q) → OnOk r P → OnOk r Q
on_ok (Ok x) f p = f p
on_ok (Err e) f p = tt

pub encoded_out : {K : Type 0} (c : Crypto K) (d : Direction K) (m : Msg) (payload : List ℕ) (o : Outs) → IsEncoded m payload → PutsPayload c d payload o → Sends c d m o
encoded_out c d m payload o encoded x = record {
  payload = payload;
  puts = record {
    more = x.wire;
    packets = turns.PutsPackets.packet m payload x.wire turns.PutsPackets.nothing encoded x.left x.sealed;
    parts = x.parts;
    lists = x.lists;
  };
}

pub silent : {K : Type 0} (c : Crypto K) (old : Transport K) (refusal : Refusal) (new : Transport K) (bytes : List ℕ) (payloads : List (List ℕ)) → refusal_reason refusal ≡ None → new ≡ record old { dead = true } →
    Refuses c old refusal new (record { before = bytes; after = bytes; payloads_before = payloads; payloads_after = payloads })
silent c old refusal new bytes payloads e after = record {
  said = [];
  more = [];
  says = turns.SaysWhy.silently e;
  parts = sym (append-nil bytes);
  lists = sym (append-nil payloads);
  after = after;
}

pub spent : {K : Type 0} (c : Crypto K) (old : Transport K) (refusal : Refusal) (new : Transport K) (bytes : List ℕ) (payloads : List (List ℕ)) → old.sending.count ≡ 2 ^ 32 → new ≡ record old { dead = true } →
    Refuses c old refusal new (record { before = bytes; after = bytes; payloads_before = payloads; payloads_after = payloads })
spent c old refusal new bytes payloads e after = record {
  said = [];
  more = [];
  says = turns.SaysWhy.spent e;
  parts = sym (append-nil bytes);
  lists = sym (append-nil payloads);
  after = after;
}

pub farewell : {K : Type 0} (c : Crypto K) (old : Transport K) (refusal : Refusal) (new : Transport K) (o : Outs) (reason : ℕ) (name : List ℕ) → refusal_reason refusal ≡ Some reason → name ≡ refusal_name refusal → new ≡ record (after_sent old) { dead = true } →
    Sends c old.sending (Disconnect reason name []) o → Refuses c old refusal new o
farewell c old refusal new o reason name e n after x =
    let y : Sends c old.sending (Disconnect reason (refusal_name refusal) []) o = subst (λ (t : List ℕ). Sends c old.sending (Disconnect reason t []) o) n x in
    record {
      said = EncodedBy (Disconnect reason (refusal_name refusal) []) y.payload ∷ [];
      more = y.puts.more;
      says = turns.SaysWhy.said reason y.payload e y.puts.packets;
      parts = y.puts.parts;
      lists = y.puts.lists;
      after = after;
    }

pub own_sent : {K A E : Type 0} (c : Crypto K) (s o : State K) (m : Material) (payload own : List ℕ) (new : State K) (out : Outs) (r : Result A E) → s ≡ o → own ≡ payload →
    IsEncoded (KexInit (offer_of o.kept.settings o.kept.side false m.cookie)) payload → OnOk r (PutsPayload c s.kept.sending payload out) → OnOk r (new ≡ record s { kept = after_own_kexinit m own s.kept }) → OnOk r (OwnSent c o m new out)
own_sent {K} c s o m payload own new out (Ok x) same kept encoded puts after =
    let y : PutsPayload c o.kept.sending payload out = subst (λ (w : State K). PutsPayload c w.kept.sending payload out) same puts in
    let z : new ≡ record s { kept = after_own_kexinit m payload s.kept } = subst (λ (t : List ℕ). new ≡ record s { kept = after_own_kexinit m t s.kept }) kept after in
    record {
      payload = payload;
      puts = record {
        more = y.wire;
        packets = turns.PutsPackets.packet _ payload y.wire turns.PutsPackets.nothing encoded y.left y.sealed;
        parts = y.parts;
        lists = y.lists;
      };
      after = subst (λ (w : State K). new ≡ record w { kept = after_own_kexinit m payload w.kept }) same z;
    }
own_sent c s o m payload own new out (Err e) same kept encoded puts after = tt

newkeys_encoded : IsEncoded NewKeys newkeys
newkeys_encoded = record { context = tt; row = record { front = newkeys; back = []; first = refl; second = refl; parts = refl }; size = omega arith }

pub newkeys_out : {K : Type 0} (c : Crypto K) (d : Direction K) (o : Outs) → PutsPayload c d newkeys o → Sends c d NewKeys o
newkeys_out c d o x = encoded_out c d NewKeys newkeys o newkeys_encoded x

-- ---- two messages

pub one_more : {K : Type 0} (c : Crypto K) (d : Direction K) (l : List Encoded) (early late : List ℕ) (m : Msg) (payload : List ℕ) → PutsPackets c d l early → PutsPackets c (counted_by l d) (EncodedBy m payload ∷ []) late →
    PutsPackets c d (EncodedBy m payload ∷ l) (early ++ late)
one_more c d l early late m payload x (turns.PutsPackets.packet m2 payload2 wire turns.PutsPackets.nothing encoded few sealed) = turns.PutsPackets.packet m payload wire x encoded few sealed

pub both_answered : {K : Type 0} (c : Crypto K) (old mid new : State K) (m : Material) (point : List ℕ) (facts : KexinitFacts) (before between after : List ℕ) (payloads_before amid payloads_after : List (List ℕ)) →
    OwnSent c old m mid (record { before = before; after = between; payloads_before = payloads_before; payloads_after = amid }) → Sends c mid.kept.sending (KexEcdhInit point) (record { before = between; after = after; payloads_before = amid; payloads_after = payloads_after }) →
    new ≡ record mid { kept = noted facts.wrong facts.strict facts.extensions mid.receiver.payload (after_sent mid.kept) } →
    BothAnswered c old m point facts new (record { before = before; after = after; payloads_before = payloads_before; payloads_after = payloads_after })
both_answered {K} c old mid new m point facts before between after payloads_before amid payloads_after x y z =
    let late : PutsPackets c (counted old.kept.sending) (EncodedBy (KexEcdhInit point) y.payload ∷ []) y.puts.more =
    subst (λ (w : State K). PutsPackets c w.kept.sending (EncodedBy (KexEcdhInit point) y.payload ∷ []) y.puts.more) x.after y.puts.packets in
    record {
      own = x.payload;
      init = y.payload;
      puts = record {
        more = x.puts.more ++ y.puts.more;
        packets = one_more c old.kept.sending _ x.puts.more y.puts.more (KexEcdhInit point) y.payload x.puts.packets late;
        parts = y.puts.parts ∙ (ap (λ (t : List ℕ). t ++ y.puts.more) x.puts.parts ∙ append_assoc before x.puts.more y.puts.more);
        lists = y.puts.lists ∙ (ap (λ (t : List (List ℕ)). t ++ y.payload ∷ []) x.puts.lists ∙ append_assoc payloads_before (x.payload ∷ []) (y.payload ∷ []));
      };
      after = z ∙ ap (λ (w : State K). let t : State K = record w { kept = noted facts.wrong facts.strict facts.extensions w.receiver.payload (after_sent w.kept) } in t) x.after;
    }

noted_by : {K : Type 0} → KexinitFacts → State K → State K
noted_by facts s = record s { kept = noted facts.wrong facts.strict facts.extensions s.receiver.payload s.kept }

pub noted_after : {K : Type 0} (mid last new : State K) (facts : KexinitFacts) → last ≡ record mid { kept = after_sent mid.kept } →
    new ≡ record last { kept = noted facts.wrong facts.strict facts.extensions last.receiver.payload last.kept } →
    new ≡ record mid { kept = noted facts.wrong facts.strict facts.extensions mid.receiver.payload (after_sent mid.kept) }
unfolding noted_by
noted_after mid last new facts e f = f ∙ ap (noted_by facts) e

-- ---- what is taken back

front_of : {A : Type 0} (k rest : List A) → take (length k) (k ++ rest) ≡ k
front_of [] rest = refl
front_of (y ∷ k) rest = ap (λ t. y ∷ t) (front_of k rest)

pub front : {A : Type 0} (l more both : List A) → both ≡ l ++ more → take (length l) both ≡ l
front l more both e = ap (take (length l)) e ∙ front_of l more

mapped_take : {A B : Type 0} (f : A → B) (n : ℕ) (l : List A) → map f (take n l) ≡ take n (map f l)
mapped_take f zero l = refl
mapped_take f (suc n) [] = refl
mapped_take f (suc n) (x ∷ l) = ap (λ t. f x ∷ t) (mapped_take f n l)

pub mapped_front : {A B : Type 0} (f : A → B) (l both : List A) (more : List B) → map f both ≡ map f l ++ more → map f (take (length l) both) ≡ map f l
mapped_front f l both more e =
    mapped_take f (length l) both ∙ (ap (λ n. take n (map f both)) (sym (length-map l f)) ∙ front (map f l) more (map f both) e)
