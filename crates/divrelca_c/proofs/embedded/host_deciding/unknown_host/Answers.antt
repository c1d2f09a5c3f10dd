use Rattle.std.proofs.Common.{ℕ, false, List, ap, refl, subst, sym, ◌∙◌}
use Rattle.ssh_model.specs.Protocol.Wire.Message.{IsPayload}
use Rattle.ssh_model.specs.Protocol.Wire.Message.Msg.{KexEcdhReply}
use Rattle.ssh_types.specs.Values.{owned_text}
use Rattle.ssh_held.specs.HeldHosts.{IsHostAnswered, IsHostWanted}
use Rattle.divrelca.specs.Parts.AesGcm.{aes_gcm}
use Rattle.divrelca.specs.Parts.Curve25519.{x25519_agreement}
use Rattle.divrelca.specs.Parts.Ed25519.{is_name, is_one_of}
use Rattle.divrelca_c.specs.declared.embedded.hosts.TrustedHosts.{TrustedHosts}
use Rattle.divrelca_c.proofs.OfEmbedded.Trusting.{made_known, said_known}
use Rattle.divrelca_c.proofs.embedded.host_deciding.unknown_host.Goals as goal

pub returns-in_default-clause-known : goal.returns-in_default-clause-known
returns-in_default-clause-known c = λ _.
    said_known aes_gcm x25519_agreement c.args.end.now.machine c.args.end.now.role.exchange.host_trust c.args.bytes.now
    (subst (λ (t : TrustedHosts). IsHostAnswered aes_gcm x25519_agreement is_name c.args.end.now.machine t.book.list.items c.args.bytes.now)
    c.host_trust.ensures (c.in_default.ensures.answered refl))

pub returns-in_default-host_key_in-clause-known : goal.returns-in_default-host_key_in-clause-known
returns-in_default-host_key_in-clause-known c = λ _.
    let wanted = c.in-Some.ensures.wanted in
    absurd (c.in_default-host_key_in.ensures.only false wanted.reply.key wanted.reply.has.point wanted.reply.has.signature
    (subst (λ (b : List ℕ). IsPayload false (KexEcdhReply wanted.reply.key wanted.reply.has.point wanted.reply.has.signature) b)
    (sym c.payload.ensures.payload) wanted.reply.has.is))

pub returns-then-has-clause-known : goal.returns-then-has-clause-known
returns-then-has-clause-known c = λ _.
    let hosts = c.args.end.now.role.exchange.host_trust in
    let algorithm = owned_text c.in-Some.wanted.algorithm in
    let wanted = c.in-Some.ensures.wanted in
    made_known aes_gcm x25519_agreement c.args.end.now.machine hosts c.args.bytes.now c.unanswered_host.new.ahead.payload algorithm
    c.in-Some-host_key_in.key.now wanted.peeks wanted.awaited
    (λ probing key point signature x. c.in-Some-host_key_in.ensures.only probing key point signature
    (subst (λ (b : List ℕ). IsPayload probing (KexEcdhReply key point signature) b) (sym c.payload.ensures.payload) x))
    (ap (λ (t : TrustedHosts). is_one_of t.keys.keys.items algorithm c.in-Some-host_key_in.key.now) (sym c.host_trust-2.ensures)
    ∙ ap (λ (a : List ℕ). is_one_of c.host_trust-2.result.now.keys.keys.items a c.in-Some-host_key_in.key.now) (sym c.as_bytes.ensures.bytes)
    ∙ sym c.has.ensures ∙ c.if-has.true)

pub returns-clause-unknown : goal.returns-clause-unknown
returns-clause-unknown c =
    let hosts = c.args.end.now.role.exchange.host_trust in
    let algorithm = owned_text c.in-Some.wanted.algorithm in
    let wanted = subst (λ (t : TrustedHosts). IsHostWanted aes_gcm x25519_agreement is_name c.args.end.now.machine t.book.list.items
    c.args.bytes.now c.unanswered_host.new.ahead.payload algorithm c.in-Some.wanted.hash) c.host_trust.ensures c.in-Some.ensures.wanted in
    let only = c.in-Some-host_key_in.ensures.only false wanted.reply.key wanted.reply.has.point wanted.reply.has.signature
    (subst (λ (b : List ℕ). IsPayload false (KexEcdhReply wanted.reply.key wanted.reply.has.point wanted.reply.has.signature) b)
    (sym c.payload.ensures.payload) wanted.reply.has.is) in
    record {
      algorithm = algorithm;
      wanted = wanted;
      unknown = ap (λ (k : List ℕ). is_one_of hosts.keys.keys.items algorithm k) (sym only)
          ∙ ap (λ (t : TrustedHosts). is_one_of t.keys.keys.items algorithm c.in-Some-host_key_in.key.now) (sym c.host_trust-2.ensures)
          ∙ ap (λ (a : List ℕ). is_one_of c.host_trust-2.result.now.keys.keys.items a c.in-Some-host_key_in.key.now)
          (sym c.as_bytes.ensures.bytes)
          ∙ sym c.has.ensures ∙ c.if-has.false;
    }
