-- Where a transport stands that was made, and where asks and pairs of cookie and secret take it.
use Rattle.std.proofs.Common.{◌≡◌, ℕ, Bool, true, false, not, ◌&&◌, List, [], ◌∷◌, refl, sym, ◌∙◌, subst, Option, None, Some}
use Rattle.std.proofs.lemmas.Bool.{false≢true}
use Rattle.std.specs.Prelude.{is_some}
use Rattle.ssh_model.specs.declared.side.Side.{Side}
use Rattle.ssh_model.specs.Protocol.KeyExchange.Exchanges.{Material}
use Rattle.ssh_model.specs.Protocol.Sessions.AnyLayers.{TransportRun}
use Rattle.ssh_model.specs.Protocol.Sessions.Items.{Ask, Ask.AskDisconnect, Ask.AskRekey, Ask.AskService, Encoded, Item, Item.Fed, messages_sent}
use Rattle.ssh_model.specs.Protocol.Sessions.Parties.{AreLawful, Parties, Settings, settings_of}
use Rattle.ssh_model.specs.Protocol.Sessions.Turns.{FeedsTurn, IsMaterial, can_feed}
use Rattle.ssh_model.specs.State.TransportLayer.Kept.{Transport, after_fed, can_be_fed}
use Rattle.ssh_model.specs.State.TransportLayer.Summary.{SumsUp}
use Rattle.ssh_model.specs.State.TransportLayer.Turns.{IsTransportAsk}
use Rattle.ssh_transport_machine.specs.Opening.{IsOpened}
use Rattle.ssh_transport_machine.specs.Puts.{Outs}
use Rattle.ssh_transport_machine.specs.State.{State}
use Rattle.ssh_transport.specs.Asking.{AskDone, DisconnectDone}
use Rattle.ssh_transport.specs.Asks.{AskTaken, AskTurned}
use Rattle.ssh_transport.specs.Places.{AskedTo, FedTo, MadeAt, PerformedTo, TransportStandsAfter}
use Rattle.ssh_transport.specs.Shown.{AskShows, IsAskTurn, IsOpening, opening}
use Rattle.ssh_transport.specs.declared.outcome.AskTurn.{AskTurn}
use Rattle.ssh_transport.specs.declared.outcome.TransportAsk.{TransportAsk}
use Rattle.ssh_transport.specs.declared.outcome.TransportAsk.TheVariants as ask
use Rattle.ssh_transport.proofs.Going.{Guards, goes_on, stands_on, stands_still}
use Rattle.ssh_transport.proofs.Running.{by_ask, by_pair}

-- the laws of openings, asks and pairs
pub record AskingLaws (K : Type 0) : Type 0 where
  pub guards : Guards K
  pub opened : (p : Parties K) (side : Side) (cookie secret : List ℕ) (new : State K) (o : Outs) → IsOpened p.crypto (settings_of p side) side cookie secret new o → IsOpening p side cookie secret new.kept o
  pub asked : (p : Parties K) (side : Side) (history : List Item) (old : State K) → SumsUp p side history old.kept → old.kept.dead ≡ false → (ask : Ask) (done : AskTurn) (new : State K) (o : Outs) → IsTransportAsk ask → AskDone p.crypto old ask done new o → IsAskTurn p side history ask done new.kept o
  pub disconnected : (p : Parties K) (side : Side) (history : List Item) (old : State K) → SumsUp p side history old.kept → old.kept.dead ≡ false → (description : List ℕ) (done : AskTurn) (new : State K) (o : Outs) → DisconnectDone p.crypto old description done new o → IsAskTurn p side history (AskDisconnect description) done new.kept o
  pub feeds : (p : Parties K) (side : Side) (history : List Item) (s : Transport K) → SumsUp p side history s → can_feed history ≡ can_be_fed s
  pub fed : (p : Parties K) (side : Side) (history : List Item) (s : Transport K) (cookie secret : List ℕ) → s.material ≡ None → SumsUp p side history s → SumsUp p side (Fed cookie secret ∷ history) (after_fed cookie secret s)

-- ---- the opening

pub made_at : {K : Type 0} (laws : AskingLaws K) (p : Parties K) (side : Side) (parts : Type 0) → AreLawful p → parts → (given : Settings) → settings_of p side ≡ given → (cookie secret : List ℕ) → IsMaterial cookie secret → (new : State K) (o : Outs) → IsOpened p.crypto given side cookie secret new o → MadeAt p side parts cookie secret new.kept o
made_at {K} laws p side parts lawful parts_are given is cookie secret material new o x =
    let opened : IsOpening p side cookie secret new.kept o = laws.opened p side cookie secret new o (subst (λ (s : Settings). IsOpened p.crypto s side cookie secret new o) (sym is) x) in
    let run : TransportRun p side (opening p side cookie secret opened.payload) =
    TransportRun.start (record { cookie = cookie; secret = secret; payload = opened.payload; is_material = material; is_encoded = opened.encoded; items_are = refl }) in
    record {
      opened = opened;
      place = record { lawful = lawful; parts_are = parts_are; sums = opened.sums; run = run; guarded = laws.guards p lawful side (opening p side cookie secret opened.payload) run };
    }

-- ---- asks

asks_sent : (asked : Ask) (done : AskTurn) (said : List Encoded) (items : List Item) → AskShows asked done said items → messages_sent items ≡ said
asks_sent asked done said items (AskShows.refused a why) = refl
asks_sent asked done said items (AskShows.sent a message payload) = refl
asks_sent asked done said items (AskShows.disconnected description payload) = refl
asks_sent asked done said items (AskShows.spent a) = refl

module _ {K : Type 0} (laws : AskingLaws K) (p : Parties K) (side : Side) (parts : Type 0) (history : List Item) (old : State K) (place : TransportStandsAfter p side parts history old.kept) where
  asked_to : (asked : Ask) (done : AskTurn) (new : Transport K) (o : Outs) → IsAskTurn p side history asked done new o → AskedTo p side parts history asked done new o
  asked_to asked done new o x = record {
    said = x.said;
    items = x.items;
    shows = x.shows;
    asks = x.turned.turn;
    went = goes_on laws.guards p side parts history old.kept place x.items new o (by_ask p side history asked x.turned.turn) x.turned.sums x.more x.turned.puts x.parts x.said (asks_sent asked done x.said x.items x.shows) x.lists;
  }

  performed : old.kept.dead ≡ false → (asked : TransportAsk) (done : AskTurn) (new : State K) (o : Outs) → AskTurned p.crypto old asked done new o → PerformedTo p side parts history asked done new.kept o
  performed alive ask.Service done new o x = asked_to AskService done new.kept o (laws.asked p side history old place.sums alive AskService done new o tt x)
  performed alive ask.Rekey done new o x = asked_to AskRekey done new.kept o (laws.asked p side history old place.sums alive AskRekey done new o tt x)
  performed alive (ask.Disconnect description) done new o x = asked_to (AskDisconnect description.now) done new.kept o (laws.disconnected p side history old place.sums alive description.now done new o x)

  pub performed_to : (asked : TransportAsk) (done : AskTurn) (new : State K) (o : Outs) → AskTaken p.crypto old asked done new o → PerformedTo p side parts history asked done new.kept o
  performed_to asked done new o x = performed x.alive asked done new o x.turned

  -- ---- pairs of cookie and secret

  none_kept : (dead few : Bool) (material : Option Material) → (not dead && not (is_some material) && few) ≡ true → material ≡ None
  none_kept dead few None e = refl
  none_kept true few (Some material) e = absurd (false≢true e)
  none_kept false few (Some material) e = absurd (false≢true e)

  module _ (cookie secret : List ℕ) (material : IsMaterial cookie secret) where
    pub fed_to : (answer : Bool) → answer ≡ can_be_fed old.kept → (new : State K) → (answer ≡ true → new ≡ record old { kept = after_fed cookie secret old.kept }) → (answer ≡ false → new ≡ old) → FedTo p side parts history cookie secret answer new.kept
    fed_to true e new fed same =
        let turn : FeedsTurn side history cookie secret (Fed cookie secret ∷ []) = FeedsTurn.feeds (laws.feeds p side history old.kept place.sums ∙ sym e) material in
        record {
          turn = turn;
          place = stands_on laws.guards p side parts history old.kept place (Fed cookie secret ∷ []) new.kept (by_pair p side history cookie secret turn)
              (subst (λ (s : State K). SumsUp p side (Fed cookie secret ∷ history) s.kept) (sym (fed refl)) (laws.fed p side history old.kept cookie secret (none_kept old.kept.dead _ old.kept.material (sym e)) place.sums));
        }
    fed_to false e new fed same = record {
      turn = FeedsTurn.answers_false (laws.feeds p side history old.kept place.sums ∙ sym e);
      place = stands_still p side parts history old.kept place new.kept (subst (λ (s : State K). SumsUp p side history s.kept) (sym (same refl)) place.sums);
    }
