-- How a server answers a KEXINIT.
use Rattle.std.proofs.Common.{◌≡◌, ℕ, ◌^◌, true, false, List, [], refl, sym, arith, append-nil, Some}
use Rattle.ssh_model.specs.State.TransportLayer.Turns.{PutsPackets.nothing}
use Rattle.ssh_transport_machine.specs.Offering.{OwnAnswered}
use Rattle.ssh_transport.specs.OfServer.Kexinits.{ServerSays}
use Rattle.ssh_transport.proofs.Kexinits.{has_answer, is_answered}
use Rattle.ssh_transport.proofs.Common.{Agreement, Crypto, Done, HasAnswer, HasEncoding, KexInit, KexinitDone, KexinitFacts, KexinitSpent, Material, Outs, Server, State, Transport, dead_state, noted, offer_of}

abbrev pub own_answer : {K : Type 0} (agreement : Agreement) (s : Transport K) (material : Material) → s.blocked ≡ false → s.material ≡ Some material → HasEncoding (KexInit (offer_of s.settings s.side false material.cookie)) → HasAnswer agreement Server s
own_answer agreement s material free has encoding = has_answer agreement Server s _ _ (ServerSays.own material encoding.payload free has) (omega arith) (encoding.encodes, tt)

pub kexinit_spent : {K : Type 0} (agreement : Agreement) (old new : State K) (material : Material) (bytes : List ℕ) (payloads : List (List ℕ)) → old.kept.blocked ≡ false → old.kept.material ≡ Some material → HasEncoding (KexInit (offer_of old.kept.settings old.kept.side false material.cookie)) →
    old.kept.sending.count ≡ 2 ^ 32 → new ≡ dead_state old → KexinitSpent agreement Server old new (record { before = bytes; after = bytes; payloads_before = payloads; payloads_after = payloads })
kexinit_spent agreement old new material bytes payloads free has encoding none_left over = record {
  answer = own_answer agreement old.kept material free has encoding;
  few = omega (arith, none_left);
  after = over;
  quiet = record { out = refl; sent = refl };
}

module _ {K : Type 0} (c : Crypto K) (agreement : Agreement) (old new : State K) (facts : KexinitFacts) where
  pub kexinit_kept : (bytes : List ℕ) (payloads : List (List ℕ)) → old.kept.blocked ≡ true → new ≡ record old { kept = noted facts.wrong facts.strict facts.extensions old.receiver.payload old.kept } →
      KexinitDone c agreement Server old facts Done new (record { before = bytes; after = bytes; payloads_before = payloads; payloads_after = payloads })
  kexinit_kept bytes payloads shut e =
      is_answered c agreement Server old new facts _ _ _ (ServerSays.nothing shut) (record { more = []; packets = nothing; parts = sym (append-nil bytes); lists = sym (append-nil payloads) }) e

  pub kexinit_answered : (material : Material) (o : Outs) → old.kept.blocked ≡ false → old.kept.material ≡ Some material → OwnAnswered c old material facts new o → KexinitDone c agreement Server old facts Done new o
  kexinit_answered material o free has x = is_answered c agreement Server old new facts o _ _ (ServerSays.own material x.payload free has) x.puts x.after
