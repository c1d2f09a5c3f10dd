-- The replies that are owed are given one after the other.
use Rattle.std.proofs.Common.{◌≡◌, ℕ, ◌+◌, ◌≤◌, ◌^◌, Option, Some, None, List, [], ◌∷◌, ◌++◌, length, map, refl, sym, ap, subst, ◌∙◌, append-nil, append_assoc, arith, false}
use Rattle.ssh_model.specs.declared.side.Side.{Side}
use Rattle.ssh_model.specs.declared.side.Side.TheVariants.{Client, Server}
use Rattle.ssh_model.specs.Protocol.Wire.Message.{Msg}
use Rattle.ssh_model.specs.Protocol.Wire.Sealing.{Crypto}
use Rattle.ssh_model.specs.Protocol.Sessions.Items.{Item, Item.Sent, Encoded, Encoded.EncodedBy, messages_sent}
use Rattle.ssh_model.specs.State.Channels.Kept.{Channels, DueReply, DueReply.RefusesOpen, DueReply.AnswersClose, Unblocks}
use Rattle.ssh_model.specs.State.Channels.Kept.{Unblocks.oldest, Unblocks.nothing}
use Rattle.ssh_model.specs.State.Channels.Summary.{reply_channel, reply_sent}
use Rattle.ssh_model.specs.State.TransportLayer.Directions.{Direction, counted}
use Rattle.ssh_model.specs.State.TransportLayer.Kept.{Transport, after_sent}
use Rattle.ssh_model.specs.State.TransportLayer.Turns as turns
use Rattle.ssh_model.specs.State.TransportLayer.Turns.{PutsPackets, counted_by}
use Rattle.ssh_model.specs.State.End.Payloads as payloads
use Rattle.ssh_model.specs.State.End.Payloads.{GivesOwed}
use Rattle.ssh_model.specs.State.End.State.{after_item, after_items}
use Rattle.ssh_transport_machine.specs.Puts.{Outs, Puts, Sends}
use Rattle.ssh_transport_machine.specs.State.{State}
use Rattle.ssh_end_machine.specs.Owed.{ListsChannels, channels_sent}

-- What was given so far, and under which number the next packet goes.
pub record Giving {K : Type 0} (c : Crypto K) (s : Transport K) (before : Channels) (now : Transport K)
    (after : Channels) (o : Outs) : Type 0 where
  pub items : List Item
  pub gives : GivesOwed before items after
  pub puts : Puts c s.sending (messages_sent items) o
  pub kept : (side : Side) → now ≡ after_items side items s
  pub sending : now.sending ≡ counted_by (messages_sent items) s.sending

-- ---- channels

-- the oldest reply leaves the queue
unblocked : (reply : DueReply) (before after : Channels) → Unblocks before (Some reply) after → before.owed ≡ reply ∷ after.owed
unblocked (RefusesOpen to) before _ (oldest _ owed e) = e
unblocked (AnswersClose number to) before _ (oldest _ owed e) = e

-- ---- packets

-- what is put out under the number after the packets before
packet_more : {K : Type 0} (c : Crypto K) (d : Direction K) (l : List Encoded) (early late : List ℕ) (m : Msg) (payload : List ℕ) → PutsPackets c d l early → PutsPackets c (counted_by l d) (EncodedBy m payload ∷ []) late →
    PutsPackets c d (EncodedBy m payload ∷ l) (early ++ late)
packet_more c d l early late m payload x (turns.PutsPackets.packet m2 payload2 wire turns.PutsPackets.nothing encoded left sealed) = turns.PutsPackets.packet m payload wire x encoded left sealed

-- a reply lets no user in
plain_reply : {K : Type 0} (side : Side) (reply : DueReply) (payload : List ℕ) (s : Transport K) → after_item side (Sent (reply_channel reply) (reply_sent reply) payload) s ≡ after_sent s
plain_reply Client (RefusesOpen to) payload s = refl
plain_reply Client (AnswersClose number to) payload s = refl
plain_reply Server (RefusesOpen to) payload s = refl
plain_reply Server (AnswersClose number to) payload s = refl

pub nothing_given : {K : Type 0} (c : Crypto K) (s : Transport K) (before : Channels) (bytes : List ℕ) (payloads_before : List (List ℕ)) → Giving c s before s before (record { before = bytes; after = bytes; payloads_before = payloads_before; payloads_after = payloads_before })
nothing_given c s before bytes payloads_before = record {
  items = [];
  gives = payloads.GivesOwed.nothing;
  puts = record { more = []; packets = turns.PutsPackets.nothing; parts = sym (append-nil bytes); lists = sym (append-nil payloads_before) };
  kept = λ side. refl;
  sending = refl;
}

-- one reply more
pub one_given : {K : Type 0} (c : Crypto K) (s now next : Transport K) (before between after : Channels) (reply : DueReply) (front middle back : List ℕ) (payloads_before amid payloads_after : List (List ℕ)) →
    Giving c s before now between (record { before = front; after = middle; payloads_before = payloads_before; payloads_after = amid }) → Unblocks between (Some reply) after →
    Sends c now.sending (reply_sent reply) (record { before = middle; after = back; payloads_before = amid; payloads_after = payloads_after }) → next ≡ after_sent now →
    Giving c s before next after (record { before = front; after = back; payloads_before = payloads_before; payloads_after = payloads_after })
one_given {K} c s now next before between after reply front middle back payloads_before amid payloads_after x u y e =
    let late : PutsPackets c (counted_by (messages_sent x.items) s.sending) (EncodedBy (reply_sent reply) y.payload ∷ []) y.puts.more =
    subst (λ (d : Direction K). PutsPackets c d (EncodedBy (reply_sent reply) y.payload ∷ []) y.puts.more) x.sending y.puts.packets in
    record {
      items = Sent (reply_channel reply) (reply_sent reply) y.payload ∷ x.items;
      gives = payloads.GivesOwed.reply reply y.payload x.gives u;
      puts = record {
        more = x.puts.more ++ y.puts.more;
        packets = packet_more c s.sending _ x.puts.more y.puts.more (reply_sent reply) y.payload x.puts.packets late;
        parts = y.puts.parts ∙ (ap (λ (t : List ℕ). t ++ y.puts.more) x.puts.parts ∙ append_assoc front x.puts.more y.puts.more);
        lists = y.puts.lists ∙ (ap (λ (t : List (List ℕ)). t ++ y.payload ∷ []) x.puts.lists ∙ append_assoc payloads_before _ (y.payload ∷ []));
      };
      kept = λ side. e ∙ (ap (λ (t : Transport K). after_sent t) (x.kept side) ∙ sym (plain_reply side reply y.payload (after_items side x.items s)));
      sending = ap (λ (t : Transport K). t.sending) e ∙ ap (λ (d : Direction K). counted d) x.sending;
    }

-- ---- numbers

-- what is given, and what is left, has the channels of what was owed
channels_left : (before after : Channels) (items : List Item) → GivesOwed before items after → channels_sent items ++ map reply_channel after.owed ≡ map reply_channel before.owed
channels_left before _ _ payloads.GivesOwed.nothing = refl
channels_left before after _ (payloads.GivesOwed.reply {items} {between} {new} reply payload gives u) =
    append_assoc (channels_sent items) (reply_channel reply ∷ []) (map reply_channel after.owed)
    ∙ (ap (λ l. channels_sent items ++ map reply_channel l) (sym (unblocked reply between after u)) ∙ channels_left before between items gives)

pub one_numbered : (first between after : Channels) (reply : DueReply) (old early late : List (Option ℕ)) → early ++ map reply_channel between.owed ≡ old ++ map reply_channel first.owed → Unblocks between (Some reply) after →
    late ≡ early ++ reply_channel reply ∷ [] → late ++ map reply_channel after.owed ≡ old ++ map reply_channel first.owed
one_numbered first between after reply old early late x u e =
    ap (λ l. l ++ map reply_channel after.owed) e ∙ (append_assoc early (reply_channel reply ∷ []) (map reply_channel after.owed)
    ∙ (ap (λ l. early ++ map reply_channel l) (sym (unblocked reply between after u)) ∙ x))

pub all_numbered : (before between after : Channels) (old new : List (Option ℕ)) → new ++ map reply_channel between.owed ≡ old ++ map reply_channel before.owed → Unblocks between None after → ListsChannels before after old new
all_numbered before between _ old new x (nothing e) =
    λ items gives. sym (append-nil new) ∙ (ap (λ l. new ++ map reply_channel l) (sym e) ∙ (x
    ∙ ap (λ l. old ++ l) (sym (channels_left before between items gives) ∙ (ap (λ l. channels_sent items ++ map reply_channel l) e ∙ append-nil (channels_sent items)))))

-- all that was owed is given
pub all_given : (before after : Channels) (items : List Item) → GivesOwed before items after → after.owed ≡ [] → channels_sent items ≡ map reply_channel before.owed
all_given before after items gives none =
    sym (append-nil (channels_sent items)) ∙ (ap (λ l. channels_sent items ++ map reply_channel l) (sym none) ∙ channels_left before after items gives)

-- what was owed is given, and its channels stand after
pub all_following : (before after : Channels) (old new : List (Option ℕ)) (items : List Item) → GivesOwed before items after → after.owed ≡ [] → ListsChannels before after old new → new ≡ old ++ map reply_channel before.owed
all_following before after old new items gives none lists = lists items gives ∙ ap (λ l. old ++ l) (all_given before after items gives none)

-- ---- the machine

pub kept_after : {K : Type 0} (now next : State K) → next ≡ record now { kept = after_sent now.kept } → next.kept ≡ after_sent now.kept
kept_after {K} now next e = ap (λ (t : State K). t.kept) e

pub alive_after : {K : Type 0} (now next : Transport K) → next ≡ after_sent now → now.dead ≡ false → next.dead ≡ false
alive_after {K} now next e alive = ap (λ (t : Transport K). t.dead) e ∙ alive

-- a reply takes a number, and leaves the queue
pub room_after : {K : Type 0} (now next : Transport K) (reply : DueReply) (before after : Channels) → next ≡ after_sent now → Unblocks before (Some reply) after → now.sending.count + length before.owed ≤ 2 ^ 32 → next.sending.count + length after.owed ≤ 2 ^ 32
room_after {K} now next reply before after e u room =
    let one_less = ap length (unblocked reply before after u) in
    let one_more = ap (λ (t : Transport K). t.sending.count) e in
    omega (arith, one_less, one_more, room)

pub rest_after : {K : Type 0} (old now next : State K) → now ≡ record old { kept = now.kept } → next ≡ record now { kept = after_sent now.kept } → next ≡ record old { kept = next.kept }
rest_after {K} old now next e f =
    subst (λ (t : State K). t ≡ record old { kept = t.kept }) (sym f) (ap (λ (t : State K). let w : State K = record t { kept = after_sent now.kept } in w) e)
