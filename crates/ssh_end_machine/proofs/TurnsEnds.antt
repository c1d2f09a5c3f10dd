-- What an end does where its transport refused the peer, or ended an exchange, with what is owed after it, is what the end of a session does.
use Rattle.std.proofs.Common.{◌≡◌, ℕ, ◌+◌, ◌≤◌, ◌++◌, false, List, [], ◌∷◌, length, append-nil, append_assoc, arith, ap, sym, ◌∙◌, subst, None}
use Rattle.ssh_model.specs.declared.side.Side.{Side}
use Rattle.ssh_model.specs.Protocol.Wire.Outcome.{Outcome.Opens}
use Rattle.ssh_model.specs.Protocol.Wire.Unit.{IsUnit}
use Rattle.ssh_model.specs.State.Channels.Kept.{Channels}
use Rattle.ssh_model.specs.State.End.Deaths.{CanSettle}
use Rattle.ssh_model.specs.State.End.State.{EndState}
use Rattle.ssh_model.specs.State.End.Summary.{EndTurned}
use Rattle.ssh_model.specs.Protocol.KeyExchange.Choice.{Chosen}
use Rattle.ssh_model.specs.Protocol.Sessions.Items.{Fact.Completed, Item, Item.Told, Item.Took, messages_sent}
use Rattle.ssh_model.specs.Protocol.Authentication.Requests.{Judge}
use Rattle.ssh_model.specs.Protocol.Sessions.Parties.{Parties}
use Rattle.ssh_model.specs.Protocol.Sessions.Turns.{OnUnit, stage}
use Rattle.ssh_model.specs.State.TransportLayer.Kept.{Transport}
use Rattle.ssh_model.specs.State.TransportLayer.Summary.{items_sent}
use Rattle.ssh_transport.specs.Endings.{ExchangeEnds, IsSpentEnd, PayloadRefused}
use Rattle.ssh_transport_machine.specs.Puts.{Outs, payloads_of}
use Rattle.ssh_transport_machine.specs.State.{State}
use Rattle.ssh_transport.specs.declared.outcome.TransportTurn.TheVariants as outcome
use Rattle.ssh_model.specs.declared.refusal.Refusal.{Refusal}
use Rattle.ssh_model.specs.declared.refusal.Refusal.TheVariants as code
use Rattle.ssh_end_machine.specs.OwedReplies.{OwedFlushed}
use Rattle.ssh_end_machine.specs.Layers.{Layers}
use Rattle.ssh_end_machine.specs.Login.{authentication_of}
use Rattle.ssh_end_machine.specs.Owed.{OwedGiven}
use Rattle.ssh_end_machine.specs.UnitTurns.{IsRunning}
use Rattle.ssh_end_machine.specs.Sessions.{end_of}
use Rattle.ssh_end_machine.specs.Steps as steps
use Rattle.ssh_end_machine.specs.Steps.{UnitTurned}
use Rattle.ssh_end_machine.specs.declared.layers.login.Login.{Login}
use Rattle.ssh_end_machine.specs.declared.step.Step.{Step}
use Rattle.ssh_end_machine.specs.declared.step.Step.TheVariants as step
use Rattle.ssh_end_machine.specs.declared.step.EventKind.TheVariants as event_kind
use Rattle.ssh_end_machine.proofs.Finishing.{sent_then_took}
use Rattle.ssh_end_machine.proofs.SendingOwed.{completed_on}
use Rattle.ssh_end_machine.proofs.TurnsWhole.{kept_after}
use Rattle.ssh_end_machine.proofs.Transporting.{refused}
use Rattle.ssh_end_machine.proofs.TurningEnds.{ending_read, lists_owed, owed_are_sent}
use Rattle.ssh_end_machine.proofs.TurningLaws.{TurningLaws}

module _ {K : Type 0} (laws : TurningLaws K) (p : Parties K) (side : Side) (judge : Judge) (history : List Item) (old : State K) (layers : Layers) (running : IsRunning p side judge history old layers) (alive : old.kept.dead ≡ false) (bytes payload : List ℕ) (unit : IsUnit p.crypto (stage p side history) bytes (Opens payload)) where
  abbrev e : EndState K
  e = end_of old.kept layers

  pub peer_refused : (why : Refusal) (new : Transport K) (o : Outs) → PayloadRefused p side history payload why new o → UnitTurned p side history bytes payload (step.Refused why) (kept_after layers (outcome.Refused why) new) o
  peer_refused why new o x =
      refused p side history e bytes payload
      (λ items more next below turned. laws.opened p side history e running.sums alive bytes payload items more _ unit (laws.layered p side history e running.sums alive payload items more next below turned))
      (λ items more next turned dead. laws.opened p side history e running.sums alive bytes payload items more next unit (laws.over p side history e running.sums alive payload items more next turned dead))
      why x.said x.more new o x.turned x.parts x.lists

  -- what is owed can be given, so that there are too few numbers for it all
  pub number_spent : (new : Transport K) (o : Outs) → IsSpentEnd p side history payload new o → UnitTurned p side history bytes payload (step.Refused code.NumberSpent) (kept_after layers (outcome.Refused code.NumberSpent) new) o
  number_spent new o x =
      let can : CanSettle layers.channels = laws.settled p running.lawful side history e running.sums alive running.run in
      refused p side history e bytes payload
      (λ items more next below turned. laws.opened p side history e running.sums alive bytes payload items more _ unit (laws.layered p side history e running.sums alive payload items more next below turned))
      (λ items more next turned dead. laws.opened p side history e running.sums alive bytes payload items more next unit (laws.over p side history e running.sums alive payload items more next turned dead))
      code.NumberSpent [] [] new o (x.turned can.items (laws.given p side history e running.sums alive can.items can.settled can.gives can.none_left) can.encoded)
      (x.quiet.out ∙ sym (append-nil o.before)) (x.quiet.sent ∙ sym (append-nil o.payloads_before))

  -- ---- an exchange that is ended

  module _ (between : Transport K) (live : between.dead ≡ false) (few : between.sending.count ≤ 1) (epoch : between.sending.epoch ≡ old.kept.sending.epoch + 1) (front middle : List ℕ) (payloads_before amid : List (List ℕ))
      {algorithms : Chosen} (ends : ExchangeEnds p side history payload (old.kept.sending.epoch + 1) algorithms between (record { before = front; after = middle; payloads_before = payloads_before; payloads_after = amid })) where
    abbrev told_step : ℕ → Step
    told_step position = step.Took (record { channel = None; probing = false; event_kind = event_kind.Completed position })

    given_turn : (new : Transport K) (channels : Channels) (back : List ℕ) (payloads_after : List (List ℕ)) → OwedGiven p.crypto between layers.channels new channels (record { before = middle; after = back; payloads_before = amid; payloads_after = payloads_after }) →
        UnitTurned p side history bytes payload (told_step (old.kept.sending.epoch + 1)) (record { transport = new; authentication = authentication_of layers.authentication; channels = channels }) (record { before = front; after = back; payloads_before = payloads_before; payloads_after = payloads_after })
    given_turn new channels back payloads_after x =
        let position = old.kept.sending.epoch + 1 in
        let items : List Item = (Told (Completed position) ∷ (x.items ++ items_sent ends.sent)) ++ Took None ends.message payload ∷ [] in
        record {
          items = items;
          more = ends.more ++ x.puts.more;
          shows = steps.Shows.took None false (event_kind.Completed position) ends.message (x.items ++ items_sent ends.sent)
              (ending_read p x.items _ side history ends.message payload _ (ends.ended.answer x.items) ends.ended.welcomes.message_is) (owed_are_sent layers.channels channels x.items x.gives ends.sent);
          sends_on = completed_on p side history e running.sums alive channels x.items x.gives x.none_left ends.sent position ends.message payload;
          turned = subst (λ (t : Transport K). EndTurned p side history (OnUnit p side history bytes) items (ends.more ++ x.puts.more) (record { transport = t; authentication = authentication_of layers.authentication; channels = channels })) (sym (x.kept side))
              (laws.opened p side history e running.sums alive bytes payload _ _ _ unit
              (laws.ended p side history e running.sums alive ends.message payload position (items_sent ends.sent) ends.more x.puts.more between x.items channels ends.ended live x.gives x.none_left x.puts.packets));
          parts = x.puts.parts ∙ (ap (λ (l : List ℕ). l ++ x.puts.more) ends.parts ∙ append_assoc front ends.more x.puts.more);
          lists = x.puts.lists ∙ (ap (λ (l : List (List ℕ)). l ++ payloads_of (messages_sent x.items)) ends.lists ∙ (append_assoc payloads_before (payloads_of ends.sent) (payloads_of (messages_sent x.items))
              ∙ ap (λ (l : List (List ℕ)). payloads_before ++ l) (sym (ap payloads_of (sent_then_took (x.items ++ items_sent ends.sent) (owed_are_sent layers.channels channels x.items x.gives ends.sent) None ends.message payload)
              ∙ lists_owed layers.channels channels x.items x.gives ends.sent))));
        }

    few_owed : length layers.channels.owed ≤ 256
    few_owed = (running.sums.above alive).few_owed

    pub completed_turn : (done : Step) (new : State K) (later : Layers) (between_state : State K) → between_state.kept ≡ between → (back : List ℕ) (payloads_after : List (List ℕ)) → later.authentication ≡ layers.authentication →
        OwedFlushed p.crypto between_state layers.channels done new later.channels (record { before = middle; after = back; payloads_before = amid; payloads_after = payloads_after }) →
        UnitTurned p side history bytes payload done (end_of new.kept later) (record { before = front; after = back; payloads_before = payloads_before; payloads_after = payloads_after })
    completed_turn done new later m same back payloads_after still (OwedFlushed.given x shown) =
        let o : Outs = record { before = front; after = back; payloads_before = payloads_before; payloads_after = payloads_after } in
        subst (λ (d : Step). UnitTurned p side history bytes payload d (end_of new.kept later) o) (sym (shown ∙ ap told_step (ap (λ (t : Transport K). t.sending.epoch) same ∙ epoch)))
        (subst (λ (a : Login). UnitTurned p side history bytes payload (told_step (old.kept.sending.epoch + 1)) (record { transport = new.kept; authentication = authentication_of a; channels = later.channels }) o) (sym still)
        (given_turn new.kept later.channels back payloads_after
        (subst (λ (t : Transport K). OwedGiven p.crypto t layers.channels new.kept later.channels (record { before = middle; after = back; payloads_before = amid; payloads_after = payloads_after })) same x)))
    completed_turn done new later m same back payloads_after still (OwedFlushed.spent many over same_channels quiet shown) =
        let count : m.kept.sending.count ≡ between.sending.count = ap (λ (t : Transport K). t.sending.count) same in
        absurd (omega (arith, count, many, few, few_owed))
