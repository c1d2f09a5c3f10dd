-- An end that gets other parts stands where it stood.
use Rattle.std.proofs.Common.{◌≡◌, ℕ, false, List, ap, refl, sym, subst, ◌∙◌}
use Rattle.ssh_model.specs.Laws.Supplied.{AgreeOnAnswered, Supplied, supplied_by, supplied_of}
use Rattle.ssh_model.specs.Laws.Verdicts.{judged_by}
use Rattle.ssh_model.specs.Protocol.Authentication.Requests.{Judge, judge_of}
use Rattle.ssh_model.specs.Protocol.Sessions.AnyPeer.{IsGuarded}
use Rattle.ssh_model.specs.Protocol.Sessions.Items.{Item, has_died}
use Rattle.ssh_model.specs.Protocol.Sessions.Parties.{Agreement, AreLawful, Parties}
use Rattle.ssh_model.specs.Protocol.Sessions.Turns.{EndRun}
use Rattle.ssh_model.specs.declared.side.Side.{Side}
use Rattle.ssh_model.specs.declared.side.Side.TheVariants.{Client, Server}
use Rattle.ssh_model.specs.Protocol.Wire.Sealing.{Crypto}
use Rattle.ssh_model.specs.State.End.State.{EndState}
use Rattle.ssh_model.specs.State.End.Summary.{EndSumsUp}
use Rattle.ssh_model.specs.State.TransportLayer.Kept.{ExchangeParts}
use Rattle.ssh_transport_machine.specs.Replies.{Trusts, TrustingParts}
use Rattle.ssh_transport_machine.specs.State.{State}
use Rattle.ssh_end_machine.specs.Asking.{UserSignatures}
use Rattle.ssh_end_machine.specs.Layers.{Layers}
use Rattle.ssh_end_machine.specs.Sessions.{AreOf, IsLoginOf}
use Rattle.ssh_end_machine.specs.Stands.{ServerStandsAt}
use Rattle.ssh_end_machine.specs.Supplying.{ClientStandsAt}
use Rattle.ssh_end_machine.specs.declared.layers.login.Login.{Login}
use Rattle.ssh_end_machine.specs.declared.layers.login.Login.TheVariants as login

-- those of the parties, with these of their client
abbrev with_client : {K : Type 0} → Trusts → UserSignatures → Parties K → Supplied
with_client trusts signature p = record (supplied_of p) { trusts = trusts; user_signature = signature }

-- those of the parties, with these of their server
abbrev with_server : {K : Type 0} → Judge → (signature : List ℕ → List ℕ → List ℕ) → Parties K → Supplied
with_server judge signature p = record (supplied_of p) { judge = judge; host_signature = signature }

-- the laws of a run with other parts
pub record SuppliedLaws (K : Type 0) : Type 0 where
  pub runs : (p : Parties K) (given : Supplied) (side : Side) (h : List Item) → EndRun p side h → has_died h ≡ false → AgreeOnAnswered p given h → EndRun (supplied_by given p) side h
  pub sums : (p : Parties K) (given : Supplied) (side : Side) (h : List Item) (e : EndState K) → EndSumsUp p side h e → EndSumsUp (supplied_by given p) side h e
  pub lawful : (p : Parties K) (given : Supplied) → AreLawful p → AreLawful (supplied_by given p)
  pub guards : (p : Parties K) → AreLawful p → (side : Side) → (h : List Item) → EndRun p side h → IsGuarded p side h

module _ {K : Type 0} (laws : SuppliedLaws K) where
  layers_of : (p : Parties K) (given : Supplied) (layers : Layers) → AreOf p layers → AreOf (supplied_by given p) layers
  layers_of p given layers a = record { login = go layers.authentication a.login }
    where
      go : (l : Login) → IsLoginOf p l → IsLoginOf (supplied_by given p) l
      go (login.Server server) x = record { tries = x.tries; methods = x.methods; failure = x.failure }
      go (login.Client client) x = tt

  client_exchanged : (p : Parties K) (c : Crypto K) (agreement : Agreement) (one other : Trusts) (signature next : UserSignatures) (history : List Item) (machine : State K) (layers : Layers) →
      ClientStandsAt p c agreement one signature history machine layers → machine.kept.dead ≡ false → AgreeOnAnswered p (with_client other next p) history →
      ClientStandsAt (supplied_by (with_client other next p) p) c agreement other next history machine layers
  client_exchanged p c agreement one other signature next history machine layers place alive agree =
      let given = with_client other next p in
      let run = laws.runs p given Client history place.run (sym place.sums.transport.dead_is ∙ alive) agree in
      let lawful = laws.lawful p given place.lawful in
      record {
        lawful = lawful;
        parts_are = record {
          exchange = record {
            crypto = place.parts_are.exchange.crypto;
            parts_are = ap (λ (x : TrustingParts). record { agreement = x.agreement; trusts = other }) place.parts_are.exchange.parts_are;
          };
          judge_is = λ same. absurd (cc same);
          signature_is = λ same. refl;
        };
        layers_are = λ living. layers_of p given layers (place.layers_are living);
        sums = laws.sums p given Client history _ place.sums;
        run = run;
        reading = place.reading;
        guarded = laws.guards (supplied_by given p) lawful Client history run;
      }

  server_exchanged : (p : Parties K) (c : Crypto K) (parts : ExchangeParts) (one other : Judge) (next : List ℕ → List ℕ → List ℕ) (history : List Item) (machine : State K) (layers : Layers) →
      ServerStandsAt p c parts one history machine layers → machine.kept.dead ≡ false → AgreeOnAnswered p (with_server other next p) history →
      ServerStandsAt (supplied_by (with_server other next p) p) c (record parts { host_signature = next }) other history machine layers
  server_exchanged p c parts one other next history machine layers place alive agree =
      let given = with_server other next p in
      let run = laws.runs p given Server history place.run (sym place.sums.transport.dead_is ∙ alive) agree in
      let lawful = laws.lawful p given place.lawful in
      record {
        lawful = lawful;
        parts_are = record {
          exchange = record {
            crypto = place.parts_are.exchange.crypto;
            parts_are = ap (λ (x : ExchangeParts). record x { host_signature = next }) place.parts_are.exchange.parts_are;
          };
          judge_is = λ same. refl;
          signature_is = λ same. absurd (cc same);
        };
        layers_are = λ living. layers_of p given layers (place.layers_are living);
        sums = laws.sums p given Server history _ place.sums;
        run = run;
        reading = place.reading;
        guarded = laws.guards (supplied_by given p) lawful Server history run;
      }

  -- ---- one part alone

  pub judge_exchanged : (p : Parties K) (c : Crypto K) (parts : ExchangeParts) (one other : Judge) (history : List Item)
      (machine : State K) (layers : Layers) → ServerStandsAt p c parts one history machine layers → machine.kept.dead ≡ false →
      AgreeOnAnswered p (record (supplied_of p) { judge = other }) history →
      ServerStandsAt (judged_by other p) c parts other history machine layers
  judge_exchanged p c parts one other history machine layers place alive agree =
      subst (λ (signature : List ℕ → List ℕ → List ℕ). ServerStandsAt (judged_by other p) c (record parts { host_signature = signature })
      other history machine layers) (ap (λ (x : ExchangeParts). x.host_signature) place.parts_are.exchange.parts_are)
      (server_exchanged p c parts one other p.host_signature history machine layers place alive agree)

  pub trust_exchanged : (p : Parties K) (c : Crypto K) (agreement : Agreement) (one other : Trusts) (signature : UserSignatures)
      (history : List Item) (machine : State K) (layers : Layers) → ClientStandsAt p c agreement one signature history machine layers →
      machine.kept.dead ≡ false → AgreeOnAnswered p (record (supplied_of p) { trusts = other }) history →
      ClientStandsAt (record p { trusts = other }) c agreement other signature history machine layers
  trust_exchanged p c agreement one other signature history machine layers place alive agree =
      subst (λ (s : UserSignatures). ClientStandsAt (record p { trusts = other }) c agreement other s history machine layers)
      (place.parts_are.signature_is refl)
      (client_exchanged p c agreement one other signature p.user_signature history machine layers place alive agree)

  pub signer_exchanged : (p : Parties K) (c : Crypto K) (agreement : Agreement) (trusts : Trusts) (one other : UserSignatures)
      (history : List Item) (machine : State K) (layers : Layers) → ClientStandsAt p c agreement trusts one history machine layers →
      machine.kept.dead ≡ false → AgreeOnAnswered p (record (supplied_of p) { user_signature = other }) history →
      ClientStandsAt (record p { user_signature = other }) c agreement trusts other history machine layers
  signer_exchanged p c agreement trusts one other history machine layers place alive agree =
      subst (λ (t : Trusts). ClientStandsAt (record p { user_signature = other }) c agreement t other history machine layers)
      (ap (λ (x : TrustingParts). x.trusts) place.parts_are.exchange.parts_are)
      (client_exchanged p c agreement trusts p.trusts one other history machine layers place alive agree)

  pub host_signer_exchanged : (p : Parties K) (c : Crypto K) (parts : ExchangeParts) (judge : Judge)
      (other : List ℕ → List ℕ → List ℕ) (history : List Item) (machine : State K) (layers : Layers) →
      ServerStandsAt p c parts judge history machine layers → machine.kept.dead ≡ false →
      AgreeOnAnswered p (record (supplied_of p) { host_signature = other }) history →
      ServerStandsAt (record p { host_signature = other }) c (record parts { host_signature = other }) judge history machine layers
  host_signer_exchanged p c parts judge other history machine layers place alive agree =
      subst (λ (j : Judge). ServerStandsAt (record p { host_signature = other }) c (record parts { host_signature = other }) j history
      machine layers) (place.parts_are.judge_is refl)
      (server_exchanged p c parts judge (judge_of p) other history machine layers place alive agree)

-- Another name for the host keys of a server makes no difference.
pub same_keys : {K : Type 0} (p : Parties K) (c : Crypto K) (parts : ExchangeParts) (key : List ℕ → List ℕ) (judge : Judge)
    (next : List ℕ → List ℕ → List ℕ) (history : List Item) (machine : State K) (layers : Layers) → key ≡ parts.host_key →
    ServerStandsAt p c (record parts { host_signature = next }) judge history machine layers →
    ServerStandsAt p c (record parts { host_key = key; host_signature = next }) judge history machine layers
same_keys p c parts key judge next history machine layers same at =
    subst (λ (k : List ℕ → List ℕ). ServerStandsAt p c (record parts { host_key = k; host_signature = next }) judge history machine layers)
    (sym same) at
