use Rattle.std.proofs.Common.{◌≡◌, ap, subst}
use Rattle.ssh_model.specs.OneEpoch.Runs.{Event, Event.Ask, World}
use Rattle.ssh_trace.specs.Pair.{PairState, PlaysOne, StandsAt}
use Rattle.ssh_model.specs.declared.side.Side.{Side}
use Rattle.ssh_model.specs.declared.side.Side.TheVariants.{Client, Server}
use Rattle.ssh_trace.proofs.Playing.{map_ok, client_asked, server_asked}
use Rattle.ssh_trace.proofs.epoch_pair.EpochPair.ask.Goals as goal

pub returns-in-Client-clause-plays : goal.returns-in-Client-clause-plays
returns-in-Client-clause-plays c =
    let pair : PairState = record { client = c.self.inside.client; server = c.self.inside.server; failed = c.self.inside.failed } in
    let event : Event = Ask c.args.side c.args.payload.now in
    let is : event ≡ Ask Client c.args.payload.now = ap (λ (s : Side). Ask s c.args.payload.now) c.in-Client.is in
    map_ok c.ask.result
    (λ turn. subst (λ (p : PairState). (w : World) → StandsAt w p → PlaysOne event p (record pair { client = c.ask.new.end }) c.args.transcript.now.items.items c.ask.new.log.items c.args.transcript.now.client_bytes.items c.ask.new.out.items c.args.transcript.now.server_bytes.items c.args.transcript.now.server_bytes.items w) c.self.view_is
    (client_asked event c.args.payload.now pair c.ask.new.end c.args.transcript.now.items.items c.ask.new.log.items c.args.transcript.now.client_bytes.items c.ask.new.out.items c.args.transcript.now.server_bytes.items is turn))
    c.ask.ensures.asked

pub returns-in-Server-clause-plays : goal.returns-in-Server-clause-plays
returns-in-Server-clause-plays c =
    let pair : PairState = record { client = c.self.inside.client; server = c.self.inside.server; failed = c.self.inside.failed } in
    let event : Event = Ask c.args.side c.args.payload.now in
    let is : event ≡ Ask Server c.args.payload.now = ap (λ (s : Side). Ask s c.args.payload.now) c.in-Server.is in
    map_ok c.ask-in-Server.result
    (λ turn. subst (λ (p : PairState). (w : World) → StandsAt w p → PlaysOne event p (record pair { server = c.ask-in-Server.new.end }) c.args.transcript.now.items.items c.ask-in-Server.new.log.items c.args.transcript.now.client_bytes.items c.args.transcript.now.client_bytes.items c.args.transcript.now.server_bytes.items c.ask-in-Server.new.out.items w) c.self.view_is
    (server_asked event c.args.payload.now pair c.ask-in-Server.new.end c.args.transcript.now.items.items c.ask-in-Server.new.log.items c.args.transcript.now.server_bytes.items c.ask-in-Server.new.out.items c.args.transcript.now.client_bytes.items is turn))
    c.ask-in-Server.ensures.asked
