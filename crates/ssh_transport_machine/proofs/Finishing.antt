-- NEWKEYS, and what stands before and after it.
use Rattle.std.proofs.Common.{◌≡◌, ℕ, List, [], ◌∷◌, ◌++◌, ap, sym, ◌∙◌, append-nil, append_assoc, subst, Option, Some, None}
use Rattle.ssh_model.specs.Protocol.Wire.Message.{Msg, Msg.ExtInfo, Msg.NewKeys}
use Rattle.ssh_model.specs.Protocol.Wire.Sealing.{Crypto}
use Rattle.ssh_model.specs.Protocol.Sessions.Items.{Encoded.EncodedBy}
use Rattle.ssh_model.specs.Protocol.Sessions.Turns.{IsEncoded}
use Rattle.ssh_model.specs.State.TransportLayer.Directions.{counted, renewed}
use Rattle.ssh_model.specs.State.TransportLayer.Kept.{Transport, after_sent}
use Rattle.ssh_model.specs.State.TransportLayer.Turns.{PutsPackets}
use Rattle.ssh_model.specs.State.TransportLayer.Turns as turns
use Rattle.ssh_transport_machine.specs.Finishing.{Finishes, IsAnnouncement, announced_by, forgotten, keyed}
use Rattle.ssh_transport_machine.specs.Puts.{PutsPayload, Sends, payloads_of}
use Rattle.ssh_transport_machine.specs.State.{State}
use Rattle.ssh_transport_machine.proofs.Sending.{one_more}

pub silently : {K : Type 0} (c : Crypto K) (old : Transport K) (own : K) (before after : List ℕ) (payloads_before payloads_after : List (List ℕ)) →
    Sends c old.sending NewKeys (record { before = before; after = after; payloads_before = payloads_before; payloads_after = payloads_after }) →
    Finishes c old [] own [] (record { before = before; after = after; payloads_before = payloads_before; payloads_after = payloads_after })
silently c old own before after payloads_before payloads_after x = record {
  newkeys = x.payload;
  early = x.puts.more;
  late = [];
  first = x.puts.packets;
  second = turns.PutsPackets.nothing;
  parts = x.puts.parts ∙ ap (λ (t : List ℕ). before ++ t) (sym (append-nil x.puts.more));
  lists = x.puts.lists;
}

pub announcing : {K : Type 0} (c : Crypto K) (old mid : State K) (own theirs : K) (session payload : List ℕ) (before between after : List ℕ) (payloads_before amid payloads_after : List (List ℕ)) →
    Sends c old.kept.sending NewKeys (record { before = before; after = between; payloads_before = payloads_before; payloads_after = amid }) →
    mid ≡ record old { kept = forgotten (keyed own theirs session old.kept) } → IsEncoded (ExtInfo old.kept.settings.extensions) payload →
    PutsPayload c mid.kept.sending payload (record { before = between; after = after; payloads_before = amid; payloads_after = payloads_after }) →
    Finishes c old.kept [] own (announced_by old.kept.settings.extensions (Some payload)) (record { before = before; after = after; payloads_before = payloads_before; payloads_after = payloads_after })
announcing {K} c old mid own theirs session payload before between after payloads_before amid payloads_after x e encoded y =
    let z : PutsPayload c (renewed old.kept.strict own (counted old.kept.sending)) payload (record { before = between; after = after; payloads_before = amid; payloads_after = payloads_after }) =
    subst (λ (w : State K). PutsPayload c w.kept.sending payload (record { before = between; after = after; payloads_before = amid; payloads_after = payloads_after })) e y in
    record {
      newkeys = x.payload;
      early = x.puts.more;
      late = z.wire;
      first = x.puts.packets;
      second = turns.PutsPackets.packet (ExtInfo old.kept.settings.extensions) payload z.wire turns.PutsPackets.nothing encoded z.left z.sealed;
      parts = z.parts ∙ (ap (λ (t : List ℕ). t ++ z.wire) x.puts.parts ∙ append_assoc before x.puts.more z.wire);
      lists = z.lists ∙ (ap (λ (t : List (List ℕ)). t ++ payload ∷ []) x.puts.lists ∙ append_assoc payloads_before (x.payload ∷ []) (payload ∷ []));
    }

pub still_due : {K : Type 0} (s : Transport K) (announcement : Option (List ℕ)) → IsAnnouncement s announcement → IsAnnouncement (after_sent s) announcement
still_due s (Some payload) a = record { due = a.due; encoded = a.encoded; some = a.some; most = a.most }
still_due s None a = a

pub due_following : {K : Type 0} (old mid : State K) (announcement : Option (List ℕ)) → mid ≡ record old { kept = after_sent old.kept } → IsAnnouncement old.kept announcement → IsAnnouncement mid.kept announcement
due_following {K} old mid announcement e a = subst (λ (w : State K). IsAnnouncement w.kept announcement) (sym e) (still_due old.kept announcement a)

pub following : {K : Type 0} (c : Crypto K) (old mid : State K) (message : Msg) (payload : List ℕ) (own : K) (announcement : Option (List ℕ)) (before between after : List ℕ) (payloads_before amid payloads_after : List (List ℕ)) →
    PutsPayload c old.kept.sending payload (record { before = before; after = between; payloads_before = payloads_before; payloads_after = amid }) → mid ≡ record old { kept = after_sent old.kept } → IsEncoded message payload →
    Finishes c mid.kept [] own (announced_by mid.kept.settings.extensions announcement) (record { before = between; after = after; payloads_before = amid; payloads_after = payloads_after }) →
    Finishes c old.kept (EncodedBy message payload ∷ []) own (announced_by old.kept.settings.extensions announcement) (record { before = before; after = after; payloads_before = payloads_before; payloads_after = payloads_after })
following {K} c old mid message payload own announcement before between after payloads_before amid payloads_after x e encoded y =
    let z : Finishes c (after_sent old.kept) [] own (announced_by old.kept.settings.extensions announcement) (record { before = between; after = after; payloads_before = amid; payloads_after = payloads_after }) =
    subst (λ (w : State K). Finishes c w.kept [] own (announced_by w.kept.settings.extensions announcement) (record { before = between; after = after; payloads_before = amid; payloads_after = payloads_after })) e y in
    let first : PutsPackets c old.kept.sending (EncodedBy message payload ∷ []) x.wire = turns.PutsPackets.packet message payload x.wire turns.PutsPackets.nothing encoded x.left x.sealed in
    record {
      newkeys = z.newkeys;
      early = x.wire ++ z.early;
      late = z.late;
      first = one_more c old.kept.sending _ x.wire z.early NewKeys z.newkeys first z.first;
      second = z.second;
      parts =
          z.parts
          ∙ (ap (λ (t : List ℕ). t ++ (z.early ++ z.late)) x.parts ∙ (append_assoc before x.wire (z.early ++ z.late) ∙ ap (λ (t : List ℕ). before ++ t) (sym (append_assoc x.wire z.early z.late))));
      lists =
          z.lists
          ∙ (ap (λ (t : List (List ℕ)). t ++ (z.newkeys ∷ payloads_of (announced_by old.kept.settings.extensions announcement))) x.lists
          ∙ append_assoc payloads_before (payload ∷ []) (z.newkeys ∷ payloads_of (announced_by old.kept.settings.extensions announcement)));
    }
