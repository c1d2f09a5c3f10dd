use Rattle.std.proofs.Common.{ap, sym, ◌∙◌, not, ◌&&◌, ◌==◌, List, ℕ}
use Rattle.ssh_model.specs.Protocol.Side.{peer}
use Rattle.ssh_model.specs.Protocol.KeyExchange.Choice.{Lists}
use Rattle.ssh_model.specs.Protocol.KeyExchange.Exchanges.{has_marker}
use Rattle.ssh_model.specs.Protocol.Sessions.Parties.{is_required, lists_of as lists_offered, marker_of}
use Rattle.ssh_model.specs.State.TransportLayer.Kept.{has_choice_with, own_offer}
use Rattle.ssh_message.specs.Meaning.{proposal_meaning}
use Rattle.ssh_types.specs.Values.{names}
use Rattle.ssh_kex.specs.Values.{lists_of}
use Rattle.ssh_transport_machine.specs.State.{before_taken}
use Rattle.ssh_transport_machine.proofs.Kexinits.{lacks_pair, no_choice, none_holds, too_late}
use Rattle.ssh_transport_machine.proofs.machine.Machine.judge_kexinit.Goals as goal

pub returns-then-comes_late-clause-refused : goal.returns-then-comes_late-clause-refused
returns-then-comes_late-clause-refused g c =
    let s = c.args.self.now.kept in
    let kex = ap (λ x. names x.kex) c.from-lists.ensures in
    let l = c.lacks_marker.ensures ∙ ap (λ (k : List (List ℕ)). s.taking.epoch == 0 && is_required s.settings.strictness && not (has_marker (marker_of (peer s.side)) k)) kex in
    too_late (before_taken s) (proposal_meaning c.args.theirs) c.lacks_marker.result l c.comes_late.result (c.comes_late.ensures (proposal_meaning c.args.theirs) (sym kex)) c.if-lacks_marker.false c.if-comes_late.true

pub returns-then-not-can_choose-clause-refused : goal.returns-then-not-can_choose-clause-refused
returns-then-not-can_choose-clause-refused g c =
    let s = c.args.self.now.kept in
    let kex = ap (λ x. names x.kex) c.from-lists.ensures in
    let l = c.lacks_marker.ensures ∙ ap (λ (k : List (List ℕ)). s.taking.epoch == 0 && is_required s.settings.strictness && not (has_marker (marker_of (peer s.side)) k)) kex in
    let h = c.can_choose.ensures ∙ ap (λ (t : Lists). has_choice_with s.side (lists_offered (own_offer s.settings s.side)) t) (ap lists_of c.from-lists.ensures) in
    no_choice (before_taken s) (proposal_meaning c.args.theirs) c.lacks_marker.result l c.comes_late.result (c.comes_late.ensures (proposal_meaning c.args.theirs) (sym kex)) c.can_choose.result h
    c.if-lacks_marker.false c.if-comes_late.false c.if-not-can_choose.true

pub returns-then-lacks_material-clause-refused : goal.returns-then-lacks_material-clause-refused
returns-then-lacks_material-clause-refused g c =
    let s = c.args.self.now.kept in
    let kex = ap (λ x. names x.kex) c.from-lists.ensures in
    let l = c.lacks_marker.ensures ∙ ap (λ (k : List (List ℕ)). s.taking.epoch == 0 && is_required s.settings.strictness && not (has_marker (marker_of (peer s.side)) k)) kex in
    let h = c.can_choose.ensures ∙ ap (λ (t : Lists). has_choice_with s.side (lists_offered (own_offer s.settings s.side)) t) (ap lists_of c.from-lists.ensures) in
    lacks_pair (before_taken s) (proposal_meaning c.args.theirs) c.lacks_marker.result l c.comes_late.result (c.comes_late.ensures (proposal_meaning c.args.theirs) (sym kex)) c.can_choose.result h
    c.lacks_material.result c.lacks_material.ensures c.if-lacks_marker.false c.if-comes_late.false c.if-not-can_choose.false c.if-lacks_material.true

pub returns-clause-fine : goal.returns-clause-fine
returns-clause-fine g c =
    let s = c.args.self.now.kept in
    let kex = ap (λ x. names x.kex) c.from-lists.ensures in
    let l = c.lacks_marker.ensures ∙ ap (λ (k : List (List ℕ)). s.taking.epoch == 0 && is_required s.settings.strictness && not (has_marker (marker_of (peer s.side)) k)) kex in
    let h = c.can_choose.ensures ∙ ap (λ (t : Lists). has_choice_with s.side (lists_offered (own_offer s.settings s.side)) t) (ap lists_of c.from-lists.ensures) in
    record {
      fine = none_holds (before_taken s) (proposal_meaning c.args.theirs) c.lacks_marker.result l c.comes_late.result (c.comes_late.ensures (proposal_meaning c.args.theirs) (sym kex)) c.can_choose.result h
          c.lacks_material.result c.lacks_material.ensures c.if-lacks_marker.false c.if-comes_late.false c.if-not-can_choose.false c.if-lacks_material.false;
      settles = record { wrong = c.facts.ensures.wrong; strict = c.facts.ensures.strict; extensions = c.facts.ensures.extensions };
    }
