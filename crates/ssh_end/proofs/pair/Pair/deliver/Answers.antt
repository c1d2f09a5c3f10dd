use Rattle.std.proofs.Common.{◌≡◌, refl, sym, subst}
use Rattle.ssh_model.specs.declared.side.Side.TheVariants.{Client, Server}
use Rattle.ssh_model.specs.Protocol.Side.{part}
use Rattle.ssh_model.specs.Protocol.Sessions.Events.{Event.Delivers}
use Rattle.ssh_end.specs.TwoEnds.Padding.{PadsOn, PairPads, shown_in}
use Rattle.ssh_end.specs.TwoEnds.Playing.{GoesOn, output_in}
use Rattle.ssh_end.specs.TwoEnds.Standing.{both}
use Rattle.ssh_end.proofs.TwoEnds.Recording.{on_both, on_ok}
use Rattle.ssh_end.specs.TwoEnds.Recorded.{recorded_sent}
use Rattle.ssh_end.proofs.TwoEnds.Ending.{at_end}
use Rattle.ssh_end.proofs.TwoEnds.Playing.{delivered, pair_sums, states}
use Rattle.ssh_end.proofs.TwoEnds.Padding.{stays_padded}
use Rattle.ssh_end.proofs.TwoEnds.Roles.{client_of, server_of}
use Rattle.ssh_end.proofs.pair.Pair.deliver.Goals as goal

pub returns-in-Client-clause-plays : goal.returns-in-Client-clause-plays
returns-in-Client-clause-plays g c =
    let clients = client_of g.S.Sealing.crypto g.C.Agreement.Agreement.does g.C.HostTrust.HostTrust.judged g.U.UserSigner.signature_of in
    let servers = server_of g.S.Sealing.crypto g.V.Agreement.Agreement.does g.V.HostSigner.HostSigner.keys g.J.UserJudge.verdicts in
    let pair = both clients servers (record { client = c.self.inside.client; server = c.self.inside.server; failed = c.self.inside.failed }) in
    on_ok c.deliver_to_end.result (λ x.
    subst (λ q. GoesOn clients servers q (Delivers c.args.side c.args.bytes.now) (record { client = c.deliver_to_end.new.end; server = c.self.inside.server; failed = c.self.inside.failed }) c.args.transcript.now (record { items = c.deliver_to_end.new.log; client_bytes = c.deliver_to_end.new.out; server_bytes = c.args.transcript.now.server_bytes })) c.self.view_is
    (subst (λ z. GoesOn clients servers (record { client = c.self.inside.client; server = c.self.inside.server; failed = c.self.inside.failed }) (Delivers z c.args.bytes.now) (record { client = c.deliver_to_end.new.end; server = c.self.inside.server; failed = c.self.inside.failed }) c.args.transcript.now (record { items = c.deliver_to_end.new.log; client_bytes = c.deliver_to_end.new.out; server_bytes = c.args.transcript.now.server_bytes })) (sym c.in-Client.is)
    (λ p w s. delivered p w pair s Client _ c.items_stay_on_one_side.ensures.there c.items_stay_on_one_side.ensures.here c.args.bytes.now c.args.transcript.now.items.items c.deliver_to_end.new.log.items (output_in c.args.transcript.now) c.deliver_to_end.new.out.items
    (λ items rest new d sums. c.turns_are_events.ensures.delivered p w (states pair) (pair_sums p w pair s) Client c.args.bytes.now items rest new d sums)
    (λ run st. at_end p Client run _ c.deliver_to_end.new.end.machine refl st.sums st.lawful.sealing st.reading x.1
    (λ bytes over. c.deliveries.ensures.dead p Client run _ st.sums over bytes) (λ bytes alive buffered. c.deliveries.ensures.waits p Client run _ st.sums alive bytes buffered)
    (λ t sums alive sealing found bytes buffered. c.waiting.ensures.packets p Client (part Client run) t sums alive sealing found bytes buffered)
    (λ t sums alive sealing found bytes buffered. c.waiting.ensures.lines p Client (part Client run) t sums alive sealing found bytes buffered))
    (x.0 p w.run (s.ends Client))))) (on_both _ _ c.deliver_to_end.result c.deliver_to_end.ensures.advanced c.deliver_to_end.ensures.live)

pub returns-in-Server-clause-plays : goal.returns-in-Server-clause-plays
returns-in-Server-clause-plays g c =
    let clients = client_of g.S.Sealing.crypto g.C.Agreement.Agreement.does g.C.HostTrust.HostTrust.judged g.U.UserSigner.signature_of in
    let servers = server_of g.S.Sealing.crypto g.V.Agreement.Agreement.does g.V.HostSigner.HostSigner.keys g.J.UserJudge.verdicts in
    let pair = both clients servers (record { client = c.self.inside.client; server = c.self.inside.server; failed = c.self.inside.failed }) in
    on_ok c.deliver_to_end-in-Server.result (λ x.
    subst (λ q. GoesOn clients servers q (Delivers c.args.side c.args.bytes.now) (record { client = c.self.inside.client; server = c.deliver_to_end-in-Server.new.end; failed = c.self.inside.failed }) c.args.transcript.now (record { items = c.deliver_to_end-in-Server.new.log; client_bytes = c.args.transcript.now.client_bytes; server_bytes = c.deliver_to_end-in-Server.new.out })) c.self.view_is
    (subst (λ z. GoesOn clients servers (record { client = c.self.inside.client; server = c.self.inside.server; failed = c.self.inside.failed }) (Delivers z c.args.bytes.now) (record { client = c.self.inside.client; server = c.deliver_to_end-in-Server.new.end; failed = c.self.inside.failed }) c.args.transcript.now (record { items = c.deliver_to_end-in-Server.new.log; client_bytes = c.args.transcript.now.client_bytes; server_bytes = c.deliver_to_end-in-Server.new.out })) (sym c.in-Server.is)
    (λ p w s. delivered p w pair s Server _ c.items_stay_on_one_side.ensures.there c.items_stay_on_one_side.ensures.here c.args.bytes.now c.args.transcript.now.items.items c.deliver_to_end-in-Server.new.log.items (output_in c.args.transcript.now) c.deliver_to_end-in-Server.new.out.items
    (λ items rest new d sums. c.turns_are_events.ensures.delivered p w (states pair) (pair_sums p w pair s) Server c.args.bytes.now items rest new d sums)
    (λ run st. at_end p Server run _ c.deliver_to_end-in-Server.new.end.machine refl st.sums st.lawful.sealing st.reading x.1
    (λ bytes over. c.deliveries.ensures.dead p Server run _ st.sums over bytes) (λ bytes alive buffered. c.deliveries.ensures.waits p Server run _ st.sums alive bytes buffered)
    (λ t sums alive sealing found bytes buffered. c.waiting.ensures.packets p Server (part Server run) t sums alive sealing found bytes buffered)
    (λ t sums alive sealing found bytes buffered. c.waiting.ensures.lines p Server (part Server run) t sums alive sealing found bytes buffered))
    (x.0 p w.run (s.ends Server))))) (on_both _ _ c.deliver_to_end-in-Server.result c.deliver_to_end-in-Server.ensures.advanced c.deliver_to_end-in-Server.ensures.live)

pub returns-in-Client-clause-padded : goal.returns-in-Client-clause-padded
returns-in-Client-clause-padded g c =
    on_ok c.deliver_to_end.result (λ x.
    subst (λ q. PairPads g.S.Sealing.crypto g.C.Filler.Filler.gives g.V.Filler.Filler.gives q (record { client = c.deliver_to_end.new.end; server = c.self.inside.server; failed = c.self.inside.failed }) (shown_in c.args.transcript.now) (shown_in (record { items = c.deliver_to_end.new.log; client_bytes = c.deliver_to_end.new.out; server_bytes = c.args.transcript.now.server_bytes }))) c.self.view_is
    (record { client = x.0; server = stays_padded g.S.Sealing.crypto g.V.Filler.Filler.gives Server c.self.inside.server c.args.transcript.now.items.items c.deliver_to_end.new.log.items c.args.transcript.now.server_bytes.items x.1 }))
    (on_both (PadsOn g.S.Sealing.crypto g.C.Filler.Filler.gives Client c.self.inside.client c.args.transcript.now.items.items c.args.transcript.now.client_bytes.items c.deliver_to_end.new.end c.deliver_to_end.new.log.items c.deliver_to_end.new.out.items)
    (recorded_sent Server c.deliver_to_end.new.log.items ≡ recorded_sent Server c.args.transcript.now.items.items) c.deliver_to_end.result c.deliver_to_end.ensures.padded c.deliver_to_end.ensures.alone)

pub returns-in-Server-clause-padded : goal.returns-in-Server-clause-padded
returns-in-Server-clause-padded g c =
    on_ok c.deliver_to_end-in-Server.result (λ x.
    subst (λ q. PairPads g.S.Sealing.crypto g.C.Filler.Filler.gives g.V.Filler.Filler.gives q (record { client = c.self.inside.client; server = c.deliver_to_end-in-Server.new.end; failed = c.self.inside.failed }) (shown_in c.args.transcript.now) (shown_in (record { items = c.deliver_to_end-in-Server.new.log; client_bytes = c.args.transcript.now.client_bytes; server_bytes = c.deliver_to_end-in-Server.new.out }))) c.self.view_is
    (record { client = stays_padded g.S.Sealing.crypto g.C.Filler.Filler.gives Client c.self.inside.client c.args.transcript.now.items.items c.deliver_to_end-in-Server.new.log.items c.args.transcript.now.client_bytes.items x.1; server = x.0 }))
    (on_both (PadsOn g.S.Sealing.crypto g.V.Filler.Filler.gives Server c.self.inside.server c.args.transcript.now.items.items c.args.transcript.now.server_bytes.items c.deliver_to_end-in-Server.new.end c.deliver_to_end-in-Server.new.log.items c.deliver_to_end-in-Server.new.out.items)
    (recorded_sent Client c.deliver_to_end-in-Server.new.log.items ≡ recorded_sent Client c.args.transcript.now.items.items) c.deliver_to_end-in-Server.result c.deliver_to_end-in-Server.ensures.padded c.deliver_to_end-in-Server.ensures.alone)
