use Rattle.std.proofs.Common.{◌≤◌, ℕ, List, [], ◌++◌, length, ap, sym, ◌∙◌, subst}
use Rattle.ssh_model.specs.declared.side.Side.TheVariants.{Client, Server}
use Rattle.ssh_model.specs.Protocol.Wire.Sealing.{IsSealing}
use Rattle.ssh_model.specs.Protocol.Sessions.Parties.{AreLawful, Settings}
use Rattle.ssh_config.specs.Meaning as config
use Rattle.ssh_transport_machine.specs.Padding.{PadsTo}
use Rattle.ssh_end_machine.specs.Ends.{sending_from_line, sending_to}
use Rattle.ssh_end.specs.TwoEnds.Recorded.{recorded_sent}
use Rattle.ssh_end.specs.TwoEnds.Playing.{Opens}
use Rattle.ssh_end.specs.declared.item.Done.{Done}
use Rattle.ssh_end.specs.TwoEnds.Standing.{standing_of}
use Rattle.ssh_end.proofs.TwoEnds.Roles.{client_of, server_of}
use Rattle.ssh_end.proofs.TwoEnds.Meeting.{met}
use Rattle.ssh_end.proofs.pair.Pair.new.Goals as goal

pub returns-clause-opens : goal.returns-clause-opens
returns-clause-opens g c = λ p of_client of_server client_is server_is.
    let clients = client_of g.S.Sealing.crypto g.C.Agreement.Agreement.does g.C.HostTrust.HostTrust.judged g.U.UserSigner.signature_of in
    let servers = server_of g.S.Sealing.crypto g.V.Agreement.Agreement.does g.V.HostSigner.HostSigner.keys g.J.UserJudge.verdicts in
    let lawful : AreLawful p = record {
      sealing = subst (λ k. IsSealing k) (sym of_client.exchange.crypto) g.met.S.Sealing.laws;
      client_line = subst (λ (t : Settings). length t.line ≤ 253) (sym client_is) c.settings_fit.ensures.line;
      server_line = subst (λ (t : Settings). length t.line ≤ 253) (sym server_is) c.settings_fit-2.ensures.line;
    } in
    let client = subst (λ l. Opens p Client (record { cookie = c.args.client.cookie; secret = c.args.client.secret }) (standing_of clients c.in_ok-client.client) l c.open_end.new.log.items [] c.open_end.new.out.items c.in_ok-client.client.sent) c.new-transcript.ensures.items
    (subst (λ b. Opens p Client (record { cookie = c.args.client.cookie; secret = c.args.client.secret }) (standing_of clients c.in_ok-client.client) c.new-transcript.result.items.items c.open_end.new.log.items b c.open_end.new.out.items c.in_ok-client.client.sent) c.new-transcript.ensures.client (c.in_ok-client.ensures.opens p lawful client_is of_client)) in
    let server = subst (λ b. Opens p Server (record { cookie = c.args.server.cookie; secret = c.args.server.secret }) (standing_of servers c.in_ok-server.server) c.open_end.new.log.items c.open_end-2.new.log.items b c.open_end-2.new.out.items c.in_ok-server.server.sent) c.new-transcript.ensures.server (c.in_ok-server.ensures.opens p lawful server_is of_server) in
    met p _ c.items_stay_on_one_side.ensures.there c.items_stay_on_one_side.ensures.here _ _ c.open_end.new.log.items c.open_end-2.new.log.items _ _ _ client server
    (c.openings.ensures p client.made.items server.made.items client.made.bytes server.made.bytes _ _ client.made.opened server.made.opened)
    (λ run lawful r. c.promises.ensures p lawful run r)

pub returns-clause-padded : goal.returns-clause-padded
returns-clause-padded g c = record {
  client = subst (λ b. PadsTo g.S.Sealing.crypto g.C.Filler.Filler.gives (sending_from_line (config.settings_of c.args.client.config) c.args.client.parts.filler b) (sending_to c.in_ok-client.client c.open_end.new.out.items)) c.new-transcript.ensures.client c.in_ok-client.ensures.padded;
  server = subst (λ b. PadsTo g.S.Sealing.crypto g.V.Filler.Filler.gives (sending_from_line (config.settings_of c.args.server.config) c.args.server.parts.filler b) (sending_to c.in_ok-server.server c.open_end-2.new.out.items)) c.new-transcript.ensures.server c.in_ok-server.ensures.padded;
  client_recorded = c.in_ok-server.ensures.sent.others ∙ (c.in_ok-client.ensures.sent.own ∙ ap (λ (l : List Done). recorded_sent Client l ++ c.in_ok-client.client.sent) c.new-transcript.ensures.items);
  server_recorded = c.in_ok-server.ensures.sent.own ∙ ap (λ (l : List (List ℕ)). l ++ c.in_ok-server.server.sent) (c.in_ok-client.ensures.sent.others ∙ ap (recorded_sent Server) c.new-transcript.ensures.items);
}
