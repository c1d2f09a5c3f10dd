use Rattle.std.proofs.Common.{◌≡◌, ◌++◌, List, [], ◌∷◌, ap, append-nil, length, map, refl, sym, ◌∙◌}
use Rattle.ssh_model.specs.State.End.Payloads.{GivesOwed}
use Rattle.ssh_model.specs.State.TransportLayer.Turns.{PutsPackets}
use Rattle.ssh_end_machine.specs.OwedReplies.{OwedFlushed}
use Rattle.ssh_end_machine.specs.WithChannels.{channels_after}
use Rattle.ssh_end_machine.proofs.Owing.{all_following}
use Rattle.ssh_end_machine.proofs.owed_replies.flush_owed_replies.Goals as goal

none : {A : Type 0} (l : List A) → length l ≡ 0 → l ≡ []
none [] e = refl
none (first ∷ l) e = absurd (cc e)

pub returns-then-owed-eq0-clause-completing : goal.returns-then-owed-eq0-clause-completing
returns-then-owed-eq0-clause-completing g c =
    OwedFlushed.given (record {
      items = [];
      gives = GivesOwed.nothing;
      none_left = none c.args.channels.now.owed (sym c.owed-owed.ensures ∙ c.if-owed-eq0.true);
      puts = record {
        more = [];
        packets = PutsPackets.nothing;
        parts = sym (append-nil c.args.out.now.items);
        lists = sym (append-nil (map (λ v. v.items) c.args.sent.now.items));
      };
      kept = λ side. refl;
    }) c.completed.ensures

pub returns-clause-numbered : goal.returns-clause-numbered
returns-clause-numbered g c =
    let given = c.in_ok-give_owed.ensures.given in
    all_following c.args.channels.now c.give_owed.new.channels c.args.numbers.now.items c.give_owed.new.numbers.items given.items given.gives given.none_left c.in_ok-give_owed.ensures.numbered
    ∙ ap (λ d. c.args.numbers.now.items ++ channels_after d c.args.channels.now.owed) (sym c.completed-done.ensures)
