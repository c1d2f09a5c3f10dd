-- What a partial line makes of an end.
use Rattle.std.proofs.Common.{◌≡◌, ℕ, ◌++◌, [], List, take, None, ap, sym, ◌∙◌, subst}
use Rattle.ssh_packet.specs.Lines.{LineReading, cleared}
use Rattle.ssh_packet.specs.LineSteps.{LineFinds, Takes}
use Rattle.ssh_packet.specs.declared.line_reader.LineStep.TheVariants as step
use Rattle.ssh_transport_machine.specs.LineTurns.{LineBuffered}
use Rattle.ssh_transport_machine.specs.State.{State, lines_of}

with_lines : {K : Type 0} → State K → LineReading → State K
with_lines s r = record s { reading = r; kept = record s.kept { lines = lines_of r } }

pub buffered : {K : Type 0} (s o : State K) (used : ℕ) (bytes : List ℕ) (r : LineReading) → s ≡ o → s.kept.lines ≡ lines_of s.reading → o.reading.ended ≡ None →
    Takes s.reading bytes used step.More r → LineBuffered o (o.reading.buffered ++ take used bytes) (record s { reading = r; kept = record s.kept { lines = lines_of r } })
unfolding with_lines
buffered {K} s o used bytes r same lines going t =
    let f : LineFinds (cleared s.reading) (s.reading.buffered ++ take used bytes) step.More r = t.going (ap (λ (w : State K). w.reading.ended) same ∙ going) in
    let here : LineBuffered s (s.reading.buffered ++ take used bytes) (with_lines s r) = record {
      buffered = f.0;
      after = ap (with_lines s) f.1 ∙ (λ i. record s { reading = record s.reading { text = []; buffered = s.reading.buffered ++ take used bytes }; kept = record s.kept { lines = sym lines i } });
    } in
    subst (λ (w : State K). LineBuffered w (w.reading.buffered ++ take used bytes) (with_lines s r)) same here
