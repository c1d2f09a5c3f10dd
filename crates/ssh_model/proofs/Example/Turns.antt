-- The turns of the toy ends, out of what they take and are asked.
use Rattle.std.proofs.Common.{◌≡◌, ℕ, Bool, true, false, List, [], ◌∷◌, ◌++◌, refl, sym, ap, ◌∙◌, arith, inl, Option, None}
use Rattle.std.specs.Prelude.{codes}
use Rattle.ssh_model.specs.declared.side.Side.{Side}
use Rattle.ssh_model.specs.declared.side.Side.TheVariants.{Client, Server}
use Rattle.ssh_model.specs.Protocol.Wire.Message.{Msg, FitsContext, IsPayload}
use Rattle.ssh_model.specs.Protocol.Sessions.Refusals.{first_refusal}
use Rattle.ssh_model.specs.Protocol.Sessions.Items.{Item, Item.TookLine, Item.Took, has_died, took}
use Rattle.ssh_model.specs.Protocol.Sessions.Epochs.{count}
use Rattle.ssh_model.specs.Protocol.KeyExchange.Exchanges.{taking_key, taking_number}
use Rattle.ssh_model.specs.Protocol.Sessions.Phases.{Phase, Phase.Guessed, phase, has_line, other_lines, is_client, probing, may_take}
use Rattle.ssh_model.specs.Protocol.Wire.Line.{line_end, LineUnit, LineUnit.line, LineIs.version}
use Rattle.ssh_model.specs.Protocol.Wire.Outcome.{Outcome, Outcome.VersionLine, Outcome.Opens}
use Rattle.ssh_model.specs.Protocol.Wire.Unit.{Stage, IsUnit, HasNumber}
use Rattle.ssh_model.specs.Protocol.Sessions.Turns.{AreEncoded, AreNumbered, answer_checks, Answer, OnPayload.takes as on_payload, stage, stage_after, OnOutcome.version_line, OnOutcome.opened, OnUnit.reads, Turn, Turn.reads, number_of, OnUnit}
use Rattle.ssh_model.specs.Protocol.Sessions.Parties.{Parties}
use Rattle.ssh_model.specs.Protocol.Wire.Sealing.{Crypto}
use Rattle.ssh_model.specs.Laws.MacOnly.{mac_only}
use Rattle.ssh_model.specs.Example.Histories.{line_of}
use Rattle.ssh_model.specs.Example.Run.{payload_of}
use Rattle.ssh_model.proofs.Wire.Payloads.{written_is_read}
use Rattle.ssh_model.proofs.Example.Bytes.{wire_of, packet_unit}
use Rattle.ssh_model.proofs.Example.Messages.{IsGood}

abbrev pub is_guessed : Phase → Bool
is_guessed Guessed = true
is_guessed _ = false

not_guessed : (found : Phase) → is_guessed found ≡ false → found ≡ Guessed → ⊥
not_guessed found e f = let g : false ≡ true = sym e ∙ ap is_guessed f in cc g

-- a unit of the toys' sealing
by_mac : (crypto : Crypto (List ℕ)) → crypto ≡ mac_only → (stage : Stage (List ℕ)) (unit : List ℕ) (outcome : Outcome) → IsUnit mac_only stage unit outcome → IsUnit crypto stage unit outcome
by_mac crypto e stage unit outcome is_unit = rw e is_unit

-- What the end takes a message by: it is live and past the lines, the message may come, and nothing refuses it.
pub record MayTake (p : Parties (List ℕ)) (side : Side) (h : List Item) (m : Msg) : Type 0 where
  pub sealing : p.crypto ≡ mac_only
  pub live : has_died h ≡ false
  pub past : has_line h ≡ true
  pub number : HasNumber (taking_number side h) (count (took h))
  pub read : may_take p side h (number_of (payload_of m)) ≡ true
  pub no_guess : is_guessed (phase p side h) ≡ false
  pub context : FitsContext (probing h) m
  pub welcome : first_refusal (answer_checks p side h m) ≡ None

pub takes_message : (p : Parties (List ℕ)) (side : Side) (h items : List Item) (channel : Option ℕ) (m : Msg) → IsGood m → MayTake p side h m → Answer p side h channel m items
    → AreEncoded items → AreNumbered items (Took channel m (payload_of m) ∷ h) → Turn p side h (items ++ Took channel m (payload_of m) ∷ [])
takes_message p side h items channel m g may answer encoded numbered =
    let unit = wire_of (taking_key p side h) (taking_number side h) (payload_of m) in
    let is_packet : IsUnit p.crypto (stage_after p side h true) unit (Opens (payload_of m)) =
    by_mac p.crypto may.sealing (stage_after p side h true) unit (Opens (payload_of m)) (packet_unit (taking_key p side h) (taking_number side h) (count (took h)) (payload_of m) may.number g.bytes g.some g.encoded.size) in
    let is_unit : IsUnit p.crypto (stage p side h) unit (Opens (payload_of m)) = rw (may.past) is_packet in
    let payload_is : IsPayload (probing h) m (payload_of m) = record { context = may.context; row = written_is_read m (payload_of m) g.encoded.row } in
    reads unit may.live (OnUnit.reads (Opens (payload_of m)) is_unit
    (opened (payload_of m) (on_payload channel m (record { read = may.read; no_guess = not_guessed (phase p side h) may.no_guess; message_is = payload_is; not_refused = may.welcome }) answer encoded numbered)))

-- ---- the version lines

pub lines : (from_server : Bool) (others : ℕ) (side : Side) → LineUnit from_server others (line_of side ++ line_end) (VersionLine (line_of side))
lines from_server others Client =
    line (line_of Client) (record { is_text = refl; parts = refl; size = omega arith }) (version (codes "2.0") (codes "c") None (record { after = codes "c"; printable = refl; parts = refl; is_software = record { some = omega arith; printable = refl; parts = refl } }) (inl refl))
lines from_server others Server =
    line (line_of Server) (record { is_text = refl; parts = refl; size = omega arith }) (version (codes "2.0") (codes "s") None (record { after = codes "s"; printable = refl; parts = refl; is_software = record { some = omega arith; printable = refl; parts = refl } }) (inl refl))

pub takes_line : (p : Parties (List ℕ)) (side of : Side) (h : List Item) → has_died h ≡ false → has_line h ≡ false → Turn p side h (TookLine (line_of of) ∷ [])
takes_line p side of h live early =
    let is_line : IsUnit p.crypto (stage_after p side h false) (line_of of ++ line_end) (VersionLine (line_of of)) = lines (is_client side) (other_lines h) of in
    let is_unit : IsUnit p.crypto (stage p side h) (line_of of ++ line_end) (VersionLine (line_of of)) = rw early is_line in
    reads (line_of of ++ line_end) live (OnUnit.reads (VersionLine (line_of of)) is_unit (version_line (line_of of)))
