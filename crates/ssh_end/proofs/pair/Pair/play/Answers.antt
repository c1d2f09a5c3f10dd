use Rattle.std.proofs.Common.{List, [], take, take_all, refl, sym, ap, ◌∙◌, subst}
use Rattle.std.proofs.lemmas.List.{take_more}
use Rattle.ssh_model.specs.declared.side.Side.TheVariants.{Client, Server}
use Rattle.ssh_end.specs.TwoEnds.Recorded.{recorded_sent}
use Rattle.ssh_end.specs.TwoEnds.Padding.{PadsOn}
use Rattle.ssh_end.specs.TwoEnds.Playing.{GoesOn, PlaysTo, event_of, events_of, output_in}
use Rattle.ssh_end.specs.TwoEnds.Standing.{both}
use Rattle.ssh_end.specs.declared.event.Event.{Event}
use Rattle.ssh_end.specs.declared.item.Done.{Done}
use Rattle.ssh_end.proofs.TwoEnds.Roles.{client_of, server_of}
use Rattle.ssh_end.proofs.TwoEnds.Events.{played, plays_more, plays_none}
use Rattle.ssh_end.proofs.TwoEnds.Padding.{padded_then, stays_padded}
use Rattle.ssh_end.proofs.pair.Pair.play.Goals.{in-Ask, in-Deliver}
use Rattle.ssh_end.proofs.pair.Pair.play.Goals as goal

pub loop-event-init : goal.loop-event-init
loop-event-init g c =
    let clients = client_of g.S.Sealing.crypto g.C.Agreement.Agreement.does g.C.HostTrust.HostTrust.judged g.U.UserSigner.signature_of in
    let servers = server_of g.S.Sealing.crypto g.V.Agreement.Agreement.does g.V.HostSigner.HostSigner.keys g.J.UserJudge.verdicts in
    let pair = both clients servers c.args.self.now in
    record {
      fine = sym (ap (λ q. q.failed) c.self.view_is) ∙ c.if-self.false;
      parts = record { client = refl; server = refl };
      plays = λ p w s.
          subst (λ (l : List Done). PlaysTo p w [] pair l (output_in c.new-transcript.result)) (sym c.new-transcript.ensures.items)
          (subst (λ o. PlaysTo p w [] pair [] (record { client = o; server = c.new-transcript.result.server_bytes.items })) (sym c.new-transcript.ensures.client)
          (subst (λ o. PlaysTo p w [] pair [] (record { client = []; server = o })) (sym c.new-transcript.ensures.server) (plays_none p w pair s)));
      padded = record {
        client = subst (λ o. PadsOn g.S.Sealing.crypto g.C.Filler.Filler.gives Client c.args.self.now.client [] [] c.args.self.now.client c.new-transcript.result.items.items o) (sym c.new-transcript.ensures.client)
            (stays_padded g.S.Sealing.crypto g.C.Filler.Filler.gives Client c.args.self.now.client [] c.new-transcript.result.items.items [] (ap (recorded_sent Client) c.new-transcript.ensures.items));
        server = subst (λ o. PadsOn g.S.Sealing.crypto g.V.Filler.Filler.gives Server c.args.self.now.server [] [] c.args.self.now.server c.new-transcript.result.items.items o) (sym c.new-transcript.ensures.server)
            (stays_padded g.S.Sealing.crypto g.V.Filler.Filler.gives Server c.args.self.now.server [] c.new-transcript.result.items.items [] (ap (recorded_sent Server) c.new-transcript.ensures.items));
      };
    }

pub loop-event-preserved : goal.loop-event-preserved
loop-event-preserved g c =
    let clients = client_of g.S.Sealing.crypto g.C.Agreement.Agreement.does g.C.HostTrust.HostTrust.judged g.U.UserSigner.signature_of in
    let servers = server_of g.S.Sealing.crypto g.V.Agreement.Agreement.does g.V.HostSigner.HostSigner.keys g.J.UserJudge.verdicts in
    let was = c.loop-event.invariant.parts in
    elim c.match-event.branch [
      | in-Ask w ↦
          let now = w.ask-played.ensures.parts in
          let goes = subst (λ e. GoesOn clients servers c.loop-event.self (event_of e) w.ask-played.new.self c.loop-event.transcript w.ask-played.new.transcript) (sym w.in-Ask.is) (rw (sym w.played-is ∙ c.in-Ok.is) at w.ask-played.ensures.plays) in
          let pads = rw (sym w.played-is ∙ c.in-Ok.is) at w.ask-played.ensures.padded in
          rw (w.self-is, w.transcript-is) (record {
            fine = w.ask-played.ensures.failed ∙ c.loop-event.invariant.fine;
            parts = record { client = now.client ∙ was.client; server = now.server ∙ was.server };
            plays = λ p w' s.
                let x = c.loop-event.invariant.plays p w' s in
                subst (λ (es : List Event). PlaysTo p w' (events_of es) (both clients servers w.ask-played.new.self) w.ask-played.new.transcript.items.items (output_in w.ask-played.new.transcript)) (sym (take_more c.args.events.now c.loop-event.event-index _ c.loop-event-test.true))
                (plays_more p w' (take c.loop-event.event-index c.args.events.now) _ _ _ _ _ _ _ (λ w' between next events event plays on. c.plays_go_on.ensures p w' between next events event plays on) x (goes p x.next x.stands));
            padded = record {
              client = padded_then g.S.Sealing.crypto g.C.Filler.Filler.gives Client c.args.self.now.client [] [] c.loop-event.self.client c.loop-event.transcript.items.items c.loop-event.transcript.client_bytes.items w.ask-played.new.self.client w.ask-played.new.transcript.items.items w.ask-played.new.transcript.client_bytes.items c.loop-event.invariant.padded.client pads.client;
              server = padded_then g.S.Sealing.crypto g.V.Filler.Filler.gives Server c.args.self.now.server [] [] c.loop-event.self.server c.loop-event.transcript.items.items c.loop-event.transcript.server_bytes.items w.ask-played.new.self.server w.ask-played.new.transcript.items.items w.ask-played.new.transcript.server_bytes.items c.loop-event.invariant.padded.server pads.server;
            };
          })
      | in-Deliver w ↦
          let now = w.deliver-played.ensures.parts in
          let goes = subst (λ e. GoesOn clients servers c.loop-event.self (event_of e) w.deliver-played.new.self c.loop-event.transcript w.deliver-played.new.transcript) (sym w.in-Deliver.is) (rw (sym w.played-is ∙ c.in-Ok.is) at w.deliver-played.ensures.plays) in
          let pads = rw (sym w.played-is ∙ c.in-Ok.is) at w.deliver-played.ensures.padded in
          rw (w.self-is, w.transcript-is) (record {
            fine = w.deliver-played.ensures.failed ∙ c.loop-event.invariant.fine;
            parts = record { client = now.client ∙ was.client; server = now.server ∙ was.server };
            plays = λ p w' s.
                let x = c.loop-event.invariant.plays p w' s in
                subst (λ (es : List Event). PlaysTo p w' (events_of es) (both clients servers w.deliver-played.new.self) w.deliver-played.new.transcript.items.items (output_in w.deliver-played.new.transcript)) (sym (take_more c.args.events.now c.loop-event.event-index _ c.loop-event-test.true))
                (plays_more p w' (take c.loop-event.event-index c.args.events.now) _ _ _ _ _ _ _ (λ w' between next events event plays on. c.plays_go_on.ensures p w' between next events event plays on) x (goes p x.next x.stands));
            padded = record {
              client = padded_then g.S.Sealing.crypto g.C.Filler.Filler.gives Client c.args.self.now.client [] [] c.loop-event.self.client c.loop-event.transcript.items.items c.loop-event.transcript.client_bytes.items w.deliver-played.new.self.client w.deliver-played.new.transcript.items.items w.deliver-played.new.transcript.client_bytes.items c.loop-event.invariant.padded.client pads.client;
              server = padded_then g.S.Sealing.crypto g.V.Filler.Filler.gives Server c.args.self.now.server [] [] c.loop-event.self.server c.loop-event.transcript.items.items c.loop-event.transcript.server_bytes.items w.deliver-played.new.self.server w.deliver-played.new.transcript.items.items w.deliver-played.new.transcript.server_bytes.items c.loop-event.invariant.padded.server pads.server;
            };
          })
    ]

pub returns-clause-plays : goal.returns-clause-plays
returns-clause-plays g c = λ p w s.
    let clients = client_of g.S.Sealing.crypto g.C.Agreement.Agreement.does g.C.HostTrust.HostTrust.judged g.U.UserSigner.signature_of in
    let servers = server_of g.S.Sealing.crypto g.V.Agreement.Agreement.does g.V.HostSigner.HostSigner.keys g.J.UserJudge.verdicts in
    let pair = both clients servers c.loop-event.self in
    played p w (events_of c.args.events.now) pair c.loop-event.transcript.items.items (output_in c.loop-event.transcript) (λ run lawful r. c.promises.ensures p lawful run r)
    (subst (λ (es : List Event). PlaysTo p w (events_of es) pair c.loop-event.transcript.items.items (output_in c.loop-event.transcript)) (take_all c.loop-event.event-index c.args.events.now c.loop-event-test.false) (c.loop-event.invariant.plays p w s))
