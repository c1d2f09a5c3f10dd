use Rattle.std.proofs.Common.{◌≡◌, ℕ, List, false, rules, subst}
use Rattle.divrelca_c.specs.Embedded.Deciding.{ReadsRequest, payload_of}
use Rattle.divrelca_c.proofs.embedded.deciding.Server.wanted.Goals as goal

pub returns-clause-reads : goal.returns-clause-reads
returns-clause-reads c =
    let is : c.payload.result.now ≡ payload_of c.args.self.now.ahead = search rules in
    λ asked. subst (λ (b : List ℕ). ReadsRequest b c.request_in.result) is (record {
      is = c.request_in.ensures.found;
      found = λ user service method x. c.request_in.ensures.only false user service method x;
      fits = c.request_in.ensures.fits;
    })
