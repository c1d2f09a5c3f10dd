use Rattle.std.proofs.Common.{◌≡◌, ap, subst}
use Rattle.ssh_model.specs.OneEpoch.Runs.{Event, Event.Deliver, World}
use Rattle.ssh_trace.specs.Pair.{PairState, PlaysOne, StandsAt}
use Rattle.ssh_model.specs.declared.side.Side.{Side}
use Rattle.ssh_model.specs.declared.side.Side.TheVariants.{Client, Server}
use Rattle.ssh_trace.proofs.Playing.{map_ok, client_delivered, server_delivered}
use Rattle.ssh_trace.proofs.epoch_pair.EpochPair.deliver.Goals as goal

pub returns-in-Client-clause-plays : goal.returns-in-Client-clause-plays
returns-in-Client-clause-plays c =
    let pair : PairState = record { client = c.self.inside.client; server = c.self.inside.server; failed = c.self.inside.failed } in
    let event : Event = Deliver c.args.side c.args.bytes.now in
    let is : event ≡ Deliver Client c.args.bytes.now = ap (λ (s : Side). Deliver s c.args.bytes.now) c.in-Client.is in
    map_ok c.deliver.result
    (λ turn. subst (λ (p : PairState). (w : World) → StandsAt w p → PlaysOne event p (record pair { client = c.deliver.new.end }) c.args.transcript.now.items.items c.deliver.new.log.items c.args.transcript.now.client_bytes.items c.args.transcript.now.client_bytes.items c.args.transcript.now.server_bytes.items c.args.transcript.now.server_bytes.items w) c.self.view_is
    (client_delivered event c.args.bytes.now pair c.deliver.new.end c.args.transcript.now.items.items c.deliver.new.log.items c.args.transcript.now.client_bytes.items c.args.transcript.now.server_bytes.items is c.self.invariant turn))
    c.deliver.ensures.delivered

pub returns-in-Server-clause-plays : goal.returns-in-Server-clause-plays
returns-in-Server-clause-plays c =
    let pair : PairState = record { client = c.self.inside.client; server = c.self.inside.server; failed = c.self.inside.failed } in
    let event : Event = Deliver c.args.side c.args.bytes.now in
    let is : event ≡ Deliver Server c.args.bytes.now = ap (λ (s : Side). Deliver s c.args.bytes.now) c.in-Server.is in
    map_ok c.deliver-in-Server.result
    (λ turn. subst (λ (p : PairState). (w : World) → StandsAt w p → PlaysOne event p (record pair { server = c.deliver-in-Server.new.end }) c.args.transcript.now.items.items c.deliver-in-Server.new.log.items c.args.transcript.now.client_bytes.items c.args.transcript.now.client_bytes.items c.args.transcript.now.server_bytes.items c.args.transcript.now.server_bytes.items w) c.self.view_is
    (server_delivered event c.args.bytes.now pair c.deliver-in-Server.new.end c.args.transcript.now.items.items c.deliver-in-Server.new.log.items c.args.transcript.now.client_bytes.items c.args.transcript.now.server_bytes.items is c.self.invariant turn))
    c.deliver-in-Server.ensures.delivered
