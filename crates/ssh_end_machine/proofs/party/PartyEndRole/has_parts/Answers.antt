use Rattle.ssh_end_machine.proofs.party.PartyEndRole.has_parts.Goals as goal

pub returns : goal.returns
returns g c = record {
  exists = λ role client server client_line server_line.
      let some = c.lifts.ensures.exists g.met.X.Sealing.Sealing.laws role.exchange client server client_line server_line
      (g.J.UserJudge.verdicts role.own.judge) (g.S.UserSigner.signature_of role.own.signer) in
      record {
        parties = some.parties;
        lawful = some.lawful;
        client_is = some.client_is;
        server_is = some.server_is;
        judge_is = some.judge_is;
        signature_is = some.signature_is;
        role_is = record { exchange = some.role_is; judge_is = λ server. some.judge_is; signature_is = λ client. some.signature_is };
      };
  exchanges = λ role p is. is.exchange;
  judges = λ role p is same. is.judge_is same;
  signs = λ role p is same. is.signature_is same;
}
