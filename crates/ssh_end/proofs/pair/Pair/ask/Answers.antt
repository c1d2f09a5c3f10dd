use Rattle.std.proofs.Common.{◌≡◌, sym, subst}
use Rattle.ssh_model.specs.declared.side.Side.TheVariants.{Client, Server}
use Rattle.ssh_model.specs.Protocol.Sessions.Events.{Event.Asks}
use Rattle.ssh_end_machine.specs.Asking.{ask_of}
use Rattle.ssh_end.specs.TwoEnds.Padding.{PadsOn, PairPads, shown_in}
use Rattle.ssh_end.specs.TwoEnds.Playing.{GoesOn, output_in}
use Rattle.ssh_end.specs.TwoEnds.Standing.{both}
use Rattle.ssh_end.proofs.TwoEnds.Recording.{on_both, on_ok}
use Rattle.ssh_end.specs.TwoEnds.Recorded.{recorded_sent}
use Rattle.ssh_end.proofs.TwoEnds.Playing.{asked, pair_sums, states}
use Rattle.ssh_end.proofs.TwoEnds.Padding.{stays_padded}
use Rattle.ssh_end.proofs.TwoEnds.Roles.{client_of, server_of}
use Rattle.ssh_end.proofs.pair.Pair.ask.Goals as goal

pub returns-in-Client-clause-plays : goal.returns-in-Client-clause-plays
returns-in-Client-clause-plays g c =
    let clients = client_of g.S.Sealing.crypto g.C.Agreement.Agreement.does g.C.HostTrust.HostTrust.judged g.U.UserSigner.signature_of in
    let servers = server_of g.S.Sealing.crypto g.V.Agreement.Agreement.does g.V.HostSigner.HostSigner.keys g.J.UserJudge.verdicts in
    let pair = both clients servers (record { client = c.self.inside.client; server = c.self.inside.server; failed = c.self.inside.failed }) in
    on_ok c.ask_end.result (λ x.
    subst (λ q. GoesOn clients servers q (Asks c.args.side (ask_of c.args.ask.now)) (record { client = c.ask_end.new.end; server = c.self.inside.server; failed = c.self.inside.failed }) c.args.transcript.now (record { items = c.ask_end.new.log; client_bytes = c.ask_end.new.out; server_bytes = c.args.transcript.now.server_bytes })) c.self.view_is
    (subst (λ z. GoesOn clients servers (record { client = c.self.inside.client; server = c.self.inside.server; failed = c.self.inside.failed }) (Asks z (ask_of c.args.ask.now)) (record { client = c.ask_end.new.end; server = c.self.inside.server; failed = c.self.inside.failed }) c.args.transcript.now (record { items = c.ask_end.new.log; client_bytes = c.ask_end.new.out; server_bytes = c.args.transcript.now.server_bytes })) (sym c.in-Client.is)
    (λ p w s. asked p w pair s Client _ c.items_stay_on_one_side.ensures.there c.items_stay_on_one_side.ensures.here (ask_of c.args.ask.now) c.args.transcript.now.items.items c.ask_end.new.log.items (output_in c.args.transcript.now) c.ask_end.new.out.items
    (λ items more new turned. c.turns_are_events.ensures.asks p w (states pair) (pair_sums p w pair s) Client (ask_of c.args.ask.now) items more new turned) (x p w.run (s.ends Client))))) c.ask_end.ensures.answers

pub returns-in-Server-clause-plays : goal.returns-in-Server-clause-plays
returns-in-Server-clause-plays g c =
    let clients = client_of g.S.Sealing.crypto g.C.Agreement.Agreement.does g.C.HostTrust.HostTrust.judged g.U.UserSigner.signature_of in
    let servers = server_of g.S.Sealing.crypto g.V.Agreement.Agreement.does g.V.HostSigner.HostSigner.keys g.J.UserJudge.verdicts in
    let pair = both clients servers (record { client = c.self.inside.client; server = c.self.inside.server; failed = c.self.inside.failed }) in
    on_ok c.ask_end-in-Server.result (λ x.
    subst (λ q. GoesOn clients servers q (Asks c.args.side (ask_of c.args.ask.now)) (record { client = c.self.inside.client; server = c.ask_end-in-Server.new.end; failed = c.self.inside.failed }) c.args.transcript.now (record { items = c.ask_end-in-Server.new.log; client_bytes = c.args.transcript.now.client_bytes; server_bytes = c.ask_end-in-Server.new.out })) c.self.view_is
    (subst (λ z. GoesOn clients servers (record { client = c.self.inside.client; server = c.self.inside.server; failed = c.self.inside.failed }) (Asks z (ask_of c.args.ask.now)) (record { client = c.self.inside.client; server = c.ask_end-in-Server.new.end; failed = c.self.inside.failed }) c.args.transcript.now (record { items = c.ask_end-in-Server.new.log; client_bytes = c.args.transcript.now.client_bytes; server_bytes = c.ask_end-in-Server.new.out })) (sym c.in-Server.is)
    (λ p w s. asked p w pair s Server _ c.items_stay_on_one_side.ensures.there c.items_stay_on_one_side.ensures.here (ask_of c.args.ask.now) c.args.transcript.now.items.items c.ask_end-in-Server.new.log.items (output_in c.args.transcript.now) c.ask_end-in-Server.new.out.items
    (λ items more new turned. c.turns_are_events.ensures.asks p w (states pair) (pair_sums p w pair s) Server (ask_of c.args.ask.now) items more new turned) (x p w.run (s.ends Server))))) c.ask_end-in-Server.ensures.answers

pub returns-in-Client-clause-padded : goal.returns-in-Client-clause-padded
returns-in-Client-clause-padded g c =
    on_ok c.ask_end.result (λ x.
    subst (λ q. PairPads g.S.Sealing.crypto g.C.Filler.Filler.gives g.V.Filler.Filler.gives q (record { client = c.ask_end.new.end; server = c.self.inside.server; failed = c.self.inside.failed }) (shown_in c.args.transcript.now) (shown_in (record { items = c.ask_end.new.log; client_bytes = c.ask_end.new.out; server_bytes = c.args.transcript.now.server_bytes }))) c.self.view_is
    (record { client = x.0; server = stays_padded g.S.Sealing.crypto g.V.Filler.Filler.gives Server c.self.inside.server c.args.transcript.now.items.items c.ask_end.new.log.items c.args.transcript.now.server_bytes.items x.1 }))
    (on_both (PadsOn g.S.Sealing.crypto g.C.Filler.Filler.gives Client c.self.inside.client c.args.transcript.now.items.items c.args.transcript.now.client_bytes.items c.ask_end.new.end c.ask_end.new.log.items c.ask_end.new.out.items)
    (recorded_sent Server c.ask_end.new.log.items ≡ recorded_sent Server c.args.transcript.now.items.items) c.ask_end.result c.ask_end.ensures.padded c.ask_end.ensures.alone)

pub returns-in-Server-clause-padded : goal.returns-in-Server-clause-padded
returns-in-Server-clause-padded g c =
    on_ok c.ask_end-in-Server.result (λ x.
    subst (λ q. PairPads g.S.Sealing.crypto g.C.Filler.Filler.gives g.V.Filler.Filler.gives q (record { client = c.self.inside.client; server = c.ask_end-in-Server.new.end; failed = c.self.inside.failed }) (shown_in c.args.transcript.now) (shown_in (record { items = c.ask_end-in-Server.new.log; client_bytes = c.args.transcript.now.client_bytes; server_bytes = c.ask_end-in-Server.new.out }))) c.self.view_is
    (record { client = stays_padded g.S.Sealing.crypto g.C.Filler.Filler.gives Client c.self.inside.client c.args.transcript.now.items.items c.ask_end-in-Server.new.log.items c.args.transcript.now.client_bytes.items x.1; server = x.0 }))
    (on_both (PadsOn g.S.Sealing.crypto g.V.Filler.Filler.gives Server c.self.inside.server c.args.transcript.now.items.items c.args.transcript.now.server_bytes.items c.ask_end-in-Server.new.end c.ask_end-in-Server.new.log.items c.ask_end-in-Server.new.out.items)
    (recorded_sent Client c.ask_end-in-Server.new.log.items ≡ recorded_sent Client c.args.transcript.now.items.items) c.ask_end-in-Server.result c.ask_end-in-Server.ensures.padded c.ask_end-in-Server.ensures.alone)
