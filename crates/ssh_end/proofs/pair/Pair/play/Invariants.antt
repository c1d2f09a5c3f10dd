use Rattle.std.proofs.Common.{◌≡◌, false, take}
use Rattle.ssh_end.specs.TwoEnds.Padding.{PairPads, nothing_shown, shown_in}
use Rattle.ssh_end.specs.TwoEnds.Playing.{HasPlayed, events_of}
use Rattle.ssh_end.specs.TwoEnds.Standing.{SameParts}
use Rattle.ssh_end.proofs.TwoEnds.Roles.{client_of, server_of}
use Rattle.ssh_end.proofs.pair.Pair.play.Given as goal

abbrev pub invariant-loop-event : goal.invariant-loop-event
invariant-loop-event g l =
    let clients = client_of g.S.Sealing.crypto g.C.Agreement.Agreement.does g.C.HostTrust.HostTrust.judged g.U.UserSigner.signature_of in
    let servers = server_of g.S.Sealing.crypto g.V.Agreement.Agreement.does g.V.HostSigner.HostSigner.keys g.J.UserJudge.verdicts in
    record {
      fine : l.self.failed ≡ false;
      parts : SameParts l.fn.self l.self;
      plays : HasPlayed clients servers l.fn.self (events_of (take l.event-index l.events)) l.self l.transcript;
      padded : PairPads g.S.Sealing.crypto g.C.Filler.Filler.gives g.V.Filler.Filler.gives l.fn.self l.self nothing_shown (shown_in l.transcript);
    }
