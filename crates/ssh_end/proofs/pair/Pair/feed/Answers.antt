use Rattle.std.proofs.Common.{sym, subst}
use Rattle.ssh_model.specs.declared.side.Side.TheVariants.{Client, Server}
use Rattle.ssh_model.specs.Protocol.Side.{part}
use Rattle.ssh_end.specs.TwoEnds.Playing.{PairFeeds}
use Rattle.ssh_end.specs.TwoEnds.Standing.{both}
use Rattle.ssh_end.proofs.TwoEnds.Playing.{fed_same, feeds, pair_sums, states}
use Rattle.ssh_end.proofs.TwoEnds.Roles.{client_of, server_of}
use Rattle.ssh_end.proofs.pair.Pair.feed.Goals as goal

pub returns-in-Client-clause-fed : goal.returns-in-Client-clause-fed
returns-in-Client-clause-fed g c =
    let clients = client_of g.S.Sealing.crypto g.C.Agreement.Agreement.does g.C.HostTrust.HostTrust.judged g.U.UserSigner.signature_of in
    let servers = server_of g.S.Sealing.crypto g.V.Agreement.Agreement.does g.V.HostSigner.HostSigner.keys g.J.UserJudge.verdicts in
    let pair = both clients servers (record { client = c.self.inside.client; server = c.self.inside.server; failed = c.self.inside.failed }) in
    λ fine.
    subst (λ q. PairFeeds clients servers q c.args.side (record { cookie = c.args.cookie; secret = c.args.secret }) c.feed_material.result (record { client = c.feed_material.new.self; server = c.self.inside.server; failed = c.self.inside.failed })) c.self.view_is
    (subst (λ z. PairFeeds clients servers (record { client = c.self.inside.client; server = c.self.inside.server; failed = c.self.inside.failed }) z (record { cookie = c.args.cookie; secret = c.args.secret }) c.feed_material.result (record { client = c.feed_material.new.self; server = c.self.inside.server; failed = c.self.inside.failed })) (sym c.in-Client.is)
    (λ p w s. feeds p w pair s Client _ c.items_stay_on_one_side.ensures.there c.items_stay_on_one_side.ensures.here c.args.cookie c.args.secret c.feed_material.result (c.feed_material.ensures.placed p (part Client w.run) (s.ends Client))
    (fed_same c.args.cookie c.args.secret c.feed_material.result c.self.inside.client.machine c.feed_material.new.self.machine c.feed_material.ensures.kept c.feed_material.ensures.same)
    (λ items more new turned. c.turns_are_events.ensures.feeds p w (states pair) (pair_sums p w pair s) Client c.args.cookie c.args.secret items more new turned)
    (λ run lawful r. c.promises.ensures p lawful run r)))

pub returns-in-Server-clause-fed : goal.returns-in-Server-clause-fed
returns-in-Server-clause-fed g c =
    let clients = client_of g.S.Sealing.crypto g.C.Agreement.Agreement.does g.C.HostTrust.HostTrust.judged g.U.UserSigner.signature_of in
    let servers = server_of g.S.Sealing.crypto g.V.Agreement.Agreement.does g.V.HostSigner.HostSigner.keys g.J.UserJudge.verdicts in
    let pair = both clients servers (record { client = c.self.inside.client; server = c.self.inside.server; failed = c.self.inside.failed }) in
    λ fine.
    subst (λ q. PairFeeds clients servers q c.args.side (record { cookie = c.args.cookie; secret = c.args.secret }) c.feed_material-in-Server.result (record { client = c.self.inside.client; server = c.feed_material-in-Server.new.self; failed = c.self.inside.failed })) c.self.view_is
    (subst (λ z. PairFeeds clients servers (record { client = c.self.inside.client; server = c.self.inside.server; failed = c.self.inside.failed }) z (record { cookie = c.args.cookie; secret = c.args.secret }) c.feed_material-in-Server.result (record { client = c.self.inside.client; server = c.feed_material-in-Server.new.self; failed = c.self.inside.failed })) (sym c.in-Server.is)
    (λ p w s. feeds p w pair s Server _ c.items_stay_on_one_side.ensures.there c.items_stay_on_one_side.ensures.here c.args.cookie c.args.secret c.feed_material-in-Server.result (c.feed_material-in-Server.ensures.placed p (part Server w.run) (s.ends Server))
    (fed_same c.args.cookie c.args.secret c.feed_material-in-Server.result c.self.inside.server.machine c.feed_material-in-Server.new.self.machine c.feed_material-in-Server.ensures.kept c.feed_material-in-Server.ensures.same)
    (λ items more new turned. c.turns_are_events.ensures.feeds p w (states pair) (pair_sums p w pair s) Server c.args.cookie c.args.secret items more new turned)
    (λ run lawful r. c.promises.ensures p lawful run r)))
