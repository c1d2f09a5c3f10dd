use Rattle.std.proofs.Common.{◌≡◌, ℕ, List, None, Some, false, option_map, rules, subst, sym}
use Rattle.ssh_transport_machine.specs.Peeking.{AwaitsHost}
use Rattle.divrelca_c.specs.Embedded.Deciding.{ReadsHost, hash_of, payload_of}
use Rattle.divrelca_c.proofs.OfEmbedded.Trusting.{shown_so}
use Rattle.divrelca_c.proofs.embedded.host_deciding.Client.wanted.Goals as goal

pub returns-in_default-clause-reads : goal.returns-in_default-clause-reads
returns-in_default-clause-reads c =
    let is : c.payload.result.now ≡ payload_of c.args.self.now.ahead = search rules in
    λ asked. subst (λ (b : List ℕ). ReadsHost c.args.self.now.end.machine b (hash_of c.args.self.now.ahead) None) is (record {
      is = tt;
      awaited = tt;
      found = λ key point signature x alive phase. absurd (c.in_default.ensures.only false key point signature x);
    })

pub returns-clause-reads : goal.returns-clause-reads
returns-clause-reads c =
    let is : c.payload.result.now ≡ payload_of c.args.self.now.ahead = search rules in
    let kept : hash_of c.args.self.now.ahead ≡ option_map (λ shown. shown.hash.now) c.signed_with.result = search rules in
    λ asked. subst (λ (b : List ℕ). ReadsHost c.args.self.now.end.machine b (hash_of c.args.self.now.ahead)
    (Some (record { algorithm = c.as_bytes.result; key = c.in-Some.reply.key; signed = c.signed_with.result }))) is
    (record {
      is = record { point = c.in-Some.ensures.found.point; signature = c.in-Some.reply.signature.now; is = c.in-Some.ensures.found.is };
      awaited = subst (λ (a : List ℕ). AwaitsHost c.args.self.now.end.machine.kept a) (sym c.as_bytes.ensures.bytes)
          c.in-Some-host_algorithm.ensures.awaited;
      found = λ key point signature x alive phase.
          let texts = c.in-Some.ensures.only false key point signature x in (
            texts.0,
            shown_so (hash_of c.args.self.now.ahead) c.signed_with.result c.in-Some.reply.signature.now signature
                kept c.signed_with.ensures.signature texts.1,
          );
    })
