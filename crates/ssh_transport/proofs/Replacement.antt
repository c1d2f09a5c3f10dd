-- A transport that gets another part stands where it stood.
use Rattle.std.proofs.Common.{◌≡◌, ℕ, Bool, false, List, ap, sym, subst, ◌∙◌}
use Rattle.ssh_model.specs.Laws.Supplied.{AgreeOnAnswered, Supplied, supplied_by, supplied_of}
use Rattle.ssh_model.specs.Protocol.Sessions.AnyLayers.{TransportRun}
use Rattle.ssh_model.specs.Protocol.Sessions.AnyPeer.{KeepsTransport}
use Rattle.ssh_model.specs.Protocol.Sessions.Items.{Item, has_died}
use Rattle.ssh_model.specs.Protocol.Sessions.Parties.{Agreement, AreLawful, Parties}
use Rattle.ssh_model.specs.Protocol.Wire.Sealing.{Crypto}
use Rattle.ssh_model.specs.State.TransportLayer.Kept.{ExchangeParts, Transport}
use Rattle.ssh_model.specs.State.TransportLayer.Summary.{SumsUp}
use Rattle.ssh_model.specs.declared.side.Side.{Side}
use Rattle.ssh_model.specs.declared.side.Side.TheVariants.{Client, Server}
use Rattle.ssh_transport_machine.specs.Replies.{Trusts, TrustingParts}
use Rattle.ssh_transport.specs.OfClient.Roles.{IsOfClient}
use Rattle.ssh_transport.specs.OfServer.Roles.{IsOfServer}
use Rattle.ssh_transport.specs.Places.{TransportStandsAfter}

-- the laws of a run of a transport with other parts
pub record SuppliedTransports (K : Type 0) : Type 0 where
  pub runs : (p : Parties K) (given : Supplied) (side : Side) (h : List Item) → TransportRun p side h → has_died h ≡ false →
      AgreeOnAnswered p given h → TransportRun (supplied_by given p) side h
  pub sums : (p : Parties K) (given : Supplied) (side : Side) (h : List Item) (s : Transport K) → SumsUp p side h s →
      SumsUp (supplied_by given p) side h s
  pub lawful : (p : Parties K) (given : Supplied) → AreLawful p → AreLawful (supplied_by given p)
  pub guards : (p : Parties K) → AreLawful p → (side : Side) → (h : List Item) → TransportRun p side h → KeepsTransport p side h

module _ {K : Type 0} (laws : SuppliedTransports K) (p : Parties K) (c : Crypto K) (history : List Item) (kept : Transport K)
    (alive : kept.dead ≡ false) where
  exchanged : (given : Supplied) (side : Side) (one other : Type 0) → other → TransportStandsAfter p side one history kept →
      AgreeOnAnswered p given history → TransportStandsAfter (supplied_by given p) side other history kept
  exchanged given side one other parts at agree =
      let lawful = laws.lawful p given at.lawful in
      let run = laws.runs p given side history at.run (sym at.sums.dead_is ∙ alive) agree in
      record {
        lawful = lawful;
        parts_are = parts;
        sums = laws.sums p given side history kept at.sums;
        run = run;
        guarded = laws.guards (supplied_by given p) lawful side history run;
      }

  pub trust_exchanged : (agreement : Agreement) (one other : Trusts) →
      TransportStandsAfter p Client (IsOfClient p c (record { agreement = agreement; trusts = one })) history kept →
      AgreeOnAnswered p (record (supplied_of p) { trusts = other }) history →
      TransportStandsAfter (record p { trusts = other }) Client
      (IsOfClient (record p { trusts = other }) c (record { agreement = agreement; trusts = other })) history kept
  trust_exchanged agreement one other at agree =
      exchanged (record (supplied_of p) { trusts = other }) Client _ _
      (record {
        crypto = at.parts_are.crypto;
        parts_are = ap (λ (x : TrustingParts). record { agreement = x.agreement; trusts = other }) at.parts_are.parts_are;
      }) at agree

  pub host_signer_exchanged : (parts : ExchangeParts) (key : List ℕ → List ℕ) (other : List ℕ → List ℕ → List ℕ) → key ≡ parts.host_key →
      TransportStandsAfter p Server (IsOfServer p c parts) history kept →
      AgreeOnAnswered p (record (supplied_of p) { host_signature = other }) history →
      TransportStandsAfter (record p { host_signature = other }) Server
      (IsOfServer (record p { host_signature = other }) c (record parts { host_key = key; host_signature = other })) history kept
  host_signer_exchanged parts key other same at agree =
      subst (λ (k : List ℕ → List ℕ). TransportStandsAfter (record p { host_signature = other }) Server
      (IsOfServer (record p { host_signature = other }) c (record parts { host_key = k; host_signature = other })) history kept) (sym same)
      (exchanged (record (supplied_of p) { host_signature = other }) Server _ _
      (record {
        crypto = at.parts_are.crypto;
        parts_are = ap (λ (x : ExchangeParts). record x { host_signature = other }) at.parts_are.parts_are;
      }) at agree)
