use Rattle.std.proofs.Common.{ℕ, List, ◌+◌, Some, None, subst}
use Rattle.std.proofs.lemmas.List.{take_rest}
use Rattle.std.proofs.lemmas.Bool.Decides.{Decides-eqb}
use Rattle.std.proofs.lemmas.Slice.Eq.{strip_prefix_is}
use Rattle.ssh_model.specs.Protocol.Wire.Line.{opening, LineIs.no_minus}
use Rattle.ssh_packet.specs.LineKinds.{HasSoftware}
use Rattle.ssh_packet.proofs.Softwares.{minus_cases}
use Rattle.ssh_packet.proofs.VersionLines.{IsSplit, Tells, not_accepted, not_software, is_version}
use Rattle.ssh_packet.proofs.version.judge.Goals as goal

pub returns-in_default : goal.returns-in_default
returns-in_default c = c.other_line.ensures c.args.text.now (strip_prefix_is Decides-eqb c.args.text.now opening None c.in_default.ensures.cases)

pub returns-in_default-first_minus : goal.returns-in_default-first_minus
returns-in_default-first_minus c = no_minus c.in-Some.rest.now (strip_prefix_is Decides-eqb c.args.text.now opening (Some c.in-Some.rest) c.in-Some.ensures.cases) (minus_cases c.in-Some.rest.now None c.in_default-first_minus.ensures.place)

pub returns-then-not-is_accepted : goal.returns-then-not-is_accepted
returns-then-not-is_accepted c =
    let split : IsSplit c.in-Some-first_minus.minus c.in-Some.rest.now c.args.text.now = record { opens = strip_prefix_is Decides-eqb c.args.text.now opening (Some c.in-Some.rest) c.in-Some.ensures.cases; minus = minus_cases c.in-Some.rest.now (Some c.in-Some-first_minus.minus) c.in-Some-first_minus.ensures.place } in
    not_accepted c.args.from_server c.args.others c.in-Some-first_minus.minus c.in-Some.rest.now c.args.text.now c.is_accepted.result split c.is_accepted.ensures c.if-not-is_accepted.true

pub returns-then-not-is_software : goal.returns-then-not-is_software
returns-then-not-is_software c =
    let split : IsSplit c.in-Some-first_minus.minus c.in-Some.rest.now c.args.text.now = record { opens = strip_prefix_is Decides-eqb c.args.text.now opening (Some c.in-Some.rest) c.in-Some.ensures.cases; minus = minus_cases c.in-Some.rest.now (Some c.in-Some-first_minus.minus) c.in-Some-first_minus.ensures.place } in
    let software = subst (λ (l : List ℕ). Tells c.is_software.result (HasSoftware l)) (take_rest c.in-Some.rest.now (c.in-Some-first_minus.minus + 1)) c.is_software.ensures in
    not_software c.args.from_server c.args.others c.in-Some-first_minus.minus c.in-Some.rest.now c.args.text.now c.is_accepted.result c.is_software.result split c.is_accepted.ensures c.if-not-is_accepted.false software c.if-not-is_software.true

pub returns : goal.returns
returns c =
    let split : IsSplit c.in-Some-first_minus.minus c.in-Some.rest.now c.args.text.now = record { opens = strip_prefix_is Decides-eqb c.args.text.now opening (Some c.in-Some.rest) c.in-Some.ensures.cases; minus = minus_cases c.in-Some.rest.now (Some c.in-Some-first_minus.minus) c.in-Some-first_minus.ensures.place } in
    let software = subst (λ (l : List ℕ). Tells c.is_software.result (HasSoftware l)) (take_rest c.in-Some.rest.now (c.in-Some-first_minus.minus + 1)) c.is_software.ensures in
    is_version c.args.from_server c.args.others c.in-Some-first_minus.minus c.in-Some.rest.now c.args.text.now c.is_accepted.result c.is_software.result split c.is_accepted.ensures c.if-not-is_accepted.false software c.if-not-is_software.false
