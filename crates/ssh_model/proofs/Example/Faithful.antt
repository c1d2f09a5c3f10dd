-- The toy session is a run over a faithful network, and the plain session is none.
use Rattle.std.proofs.Common.{◌≡◌, ℕ, suc, ◌-◌, List, [], ◌∷◌, ◌++◌, length, map, take, drop, refl, ap, sym, ◌∙◌, arith, append-nil, true, length-append, take-append-drop}
use Rattle.ssh_model.specs.declared.side.Side.TheVariants.{Client, Server}
use Rattle.ssh_model.specs.Protocol.Sessions.Turns.{number_of}
use Rattle.ssh_model.specs.Protocol.Sessions.Faithful.{IsCarried, IsFaithful, KillsNobody, Network, PutsSince, TakesOff}
use Rattle.ssh_model.specs.Protocol.Sessions.Events.{Event, OnEvent, Uses, reading_of}
use Rattle.ssh_model.specs.Protocol.Sessions.Items.{Item.TookLine}
use Rattle.ssh_model.specs.Protocol.Sessions.Turns.{OnOutcome, OnUnit, stage}
use Rattle.ssh_model.specs.Protocol.Wire.Delivery.{Delivered, Waits}
use Rattle.ssh_model.specs.Protocol.Wire.Line.{line_end}
use Rattle.ssh_model.specs.Protocol.Wire.Outcome.{Outcome.VersionLine}
use Rattle.ssh_model.specs.Protocol.Wire.Unit.{IsUnit}
use Rattle.ssh_model.specs.Example.Histories.{line_of}
use Rattle.ssh_model.proofs.Wire.Units.{unit_some}
use Rattle.ssh_model.proofs.Example.Turns.{lines}
use Rattle.ssh_model.specs.Example.Toys.{toy}
use Rattle.ssh_model.specs.Protocol.Side.{part}
use Rattle.ssh_model.specs.Protocol.Sessions.Items.{bytes_of, sent, took}
use Rattle.ssh_model.specs.Example.Run.{d1, d2, payload_of, session}
use Rattle.ssh_model.specs.Example.PlainRun.{farewell, plain12, plain_session}
use Rattle.ssh_model.proofs.Example.Parties.{toy_is_lawful}
use Rattle.ssh_model.proofs.Example.Run.{session_runs}
use Rattle.ssh_model.proofs.Faithful.Whole.{kills_nobody}

-- the rest of what was sent is what was taken, and one more
next : {x : List ℕ} {l o : List (List ℕ)} → drop (length l - suc (length o)) l ≡ x ∷ o → (newer : List (List ℕ)) × (l ≡ newer ++ (x ∷ o))
next {l} {o} e = (take (length l - suc (length o)) l, sym (take-append-drop (length l - suc (length o)) l) ∙ ap (λ w. take (length l - suc (length o)) l ++ w) e)

pub toy_is_faithful : IsFaithful session
toy_is_faithful = (next refl, (next refl, (next refl, (next refl, (next refl, (next refl, (next refl, (next refl, (next refl, (next refl, (next refl, (next refl, (next refl, (next refl, (next refl, (next refl, (next refl, (next refl, (next refl, (next refl, (next refl, tt)))))))))))))))))))))

pub toy_kills_nobody : KillsNobody session
toy_kills_nobody = kills_nobody toy toy_is_lawful session session_runs toy_is_faithful

-- the client takes DISCONNECT, and the SERVICE_ACCEPT before it was lost
abbrev second_number : List (List ℕ) → ℕ
second_number (a ∷ b ∷ l) = number_of b
second_number l = 0

lost : (newer : List (List ℕ)) → map bytes_of (sent (part Server plain12)) ≡ newer ++ (payload_of farewell ∷ map bytes_of (took (part Client plain12))) → ⊥
lost [] e = let n : 6 ≡ 21 = ap second_number e in cc n
lost (x ∷ newer) e = omega (arith, ap length e, length-append newer (payload_of farewell ∷ map bytes_of (took (part Client plain12))))

pub plain_is_not_faithful : IsFaithful plain_session → ⊥
plain_is_not_faithful f = lost f.0.0 f.0.1

-- ---- byte by byte

-- the line of the server comes to the client
pub line_carried : IsCarried toy (record { run = d1; client_rest = []; server_rest = [] }) (record { to_client = line_of Server ++ line_end; to_server = [] }) (Event.Delivers Client (line_of Server ++ line_end))
    (record { run = d2; client_rest = []; server_rest = [] }) (record { to_client = []; to_server = [] })
line_carried = record {
  on_event = OnEvent.delivers Client (line_of Server ++ line_end) (Delivered.takes (line_of Server ++ line_end) [] (append-nil (line_of Server ++ line_end)) (refl, VersionLine (line_of Server), is_unit) uses (Delivered.waits (λ e. cc e) none));
  left = record { to_client = []; to_server = [] };
  takes = TakesOff.to_client (line_of Server ++ line_end) [] (sym (append-nil (line_of Server ++ line_end)));
  by_client = [];
  by_server = [];
  client_puts = PutsSince.other (TookLine (line_of Server)) tt PutsSince.nothing;
  server_puts = PutsSince.nothing;
  to_client = refl;
  to_server = refl;
}
  where
    is_unit : IsUnit toy.crypto (stage toy Client (part Client d1)) (line_of Server ++ line_end) (VersionLine (line_of Server))
    is_unit = lines true 0 Server

    uses : Uses toy Client d1 (line_of Server ++ line_end) d2
    uses = record { items = TookLine (line_of Server) ∷ []; on_unit = OnUnit.reads (VersionLine (line_of Server)) is_unit (OnOutcome.version_line (line_of Server)); next_is = refl }

    none : Waits (reading_of toy Client) d2 []
    none [] more e u = unit_some toy.crypto (stage toy Client (part Client d2)) u.1 toy_is_lawful.sealing u.2
    none (x ∷ unit) more e u = cc e

pub not_moved : (left : Network) → TakesOff (record { to_client = 1 ∷ 2 ∷ []; to_server = [] }) (Event.Delivers Client (2 ∷ [])) left → ⊥
not_moved left (TakesOff.to_client bytes rest e) = cc e
