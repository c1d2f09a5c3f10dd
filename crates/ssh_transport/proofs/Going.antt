-- How a transport goes on from a place of a run.
use Rattle.std.proofs.Common.{◌≡◌, ℕ, ◌++◌, Bool, true, false, cond, List, [], ◌∷◌, refl, ap, sym, ◌∙◌, subst, append-nil}
use Rattle.std.proofs.lemmas.Bool.{false≢true}
use Rattle.ssh_model.specs.Protocol.Sessions.AnyLayers as layers
use Rattle.ssh_model.specs.Protocol.Sessions.AnyLayers.{TransportRun}
use Rattle.ssh_model.specs.Protocol.Sessions.AnyPeer.{KeepsTransport}
use Rattle.ssh_model.specs.Protocol.Sessions.Events.{PutsOut}
use Rattle.ssh_model.specs.Protocol.Sessions.Items.{Encoded, Encoded.EncodedBy, Item, Item.Died, has_died, messages_sent}
use Rattle.ssh_model.specs.Protocol.Sessions.Parties.{AreLawful, Parties}
use Rattle.ssh_model.specs.Protocol.Wire.Message.{Msg, Msg.UserauthSuccess}
use Rattle.ssh_model.specs.State.TransportLayer.Kept.{Transport, after_success}
use Rattle.ssh_model.specs.State.TransportLayer.Summary.{SumsUp, items_sent}
use Rattle.ssh_model.specs.declared.side.Side.{Side}
use Rattle.ssh_transport_machine.specs.Answering.{IsQuiet}
use Rattle.ssh_transport_machine.specs.Puts.{Outs, payloads_of}
use Rattle.ssh_transport.specs.Places.{DiedTo, Stayed, TransportStandsAfter, WentOn, is_success, told_of}

-- the messages that were sent, with items before them of which none was
pub sent_before : (l : List Encoded) (tail : List Item) → messages_sent tail ≡ [] → messages_sent (items_sent l ++ tail) ≡ l
sent_before [] tail none = none
sent_before (EncodedBy m x ∷ l) tail none = ap (λ (w : List Encoded). EncodedBy m x ∷ w) (sent_before l tail none)

-- ---- USERAUTH_SUCCESS

pub success_is : (message : Msg) → is_success message ≡ true → message ≡ UserauthSuccess
success_is UserauthSuccess e = refl
success_is _ e = absurd (false≢true e)

pub other_than_success : (message : Msg) → is_success message ≡ false → message ≡ UserauthSuccess → ⊥
other_than_success message e is = false≢true (sym e ∙ ap is_success is)

-- what sums up a history with a message, once the layers above told of it
pub told : {K : Type 0} (p : Parties K) (side : Side) (history : List Item) (message : Msg) (kept : Transport K) →
    ((message ≡ UserauthSuccess → ⊥) → SumsUp p side history kept) → (message ≡ UserauthSuccess → SumsUp p side history (after_success kept)) → SumsUp p side history (told_of message kept)
told {K} p side history message kept plain success = go (is_success message) refl
  where
    go : (b : Bool) → is_success message ≡ b → SumsUp p side history (cond b (after_success kept) kept)
    go true e = success (success_is message e)
    go false e = plain (other_than_success message e)

-- ---- a place

-- what a transport keeps to
abbrev pub Guards : Type 0 → Type 0
Guards K = (p : Parties K) → AreLawful p → (side : Side) → (h : List Item) → TransportRun p side h → KeepsTransport p side h

-- what is over sums up a history that is
pub over : {K : Type 0} (p : Parties K) (side : Side) (history : List Item) (kept : Transport K) → has_died history ≡ true → kept.dead ≡ true → SumsUp p side history kept
over p side history kept died dead = record { dead_is = dead ∙ sym died; live = λ e. absurd (false≢true (sym e ∙ dead)) }

module _ {K : Type 0} (p : Parties K) (side : Side) (parts : Type 0) (history : List Item) (old : Transport K) (place : TransportStandsAfter p side parts history old) where
  pub lives : old.dead ≡ false → has_died history ≡ false
  lives e = sym place.sums.dead_is ∙ e

  pub stands_still : (new : Transport K) → SumsUp p side history new → TransportStandsAfter p side parts history new
  stands_still new sums = record { lawful = place.lawful; parts_are = place.parts_are; sums = sums; run = place.run; guarded = place.guarded }

  pub stayed : (new : Transport K) (o : Outs) → SumsUp p side history new → IsQuiet o → Stayed p side parts history new o
  stayed new o sums quiet = record { quiet = quiet; place = stands_still new sums }

module _ {K : Type 0} (guards : Guards K) (p : Parties K) (side : Side) (parts : Type 0) (history : List Item) (old : Transport K) (place : TransportStandsAfter p side parts history old) where
  pub stands_on : (items : List Item) (new : Transport K) → layers.TransportTurn p side history items → SumsUp p side (items ++ history) new → TransportStandsAfter p side parts (items ++ history) new
  stands_on items new turn sums =
      let run : TransportRun p side (items ++ history) = TransportRun.then_turn place.run turn in
      record { lawful = place.lawful; parts_are = place.parts_are; sums = sums; run = run; guarded = guards p place.lawful side (items ++ history) run }

  pub goes_on : (items : List Item) (new : Transport K) (o : Outs) → layers.TransportTurn p side history items → SumsUp p side (items ++ history) new → (more : List ℕ) →
      ((bytes : List ℕ) → PutsOut p side history bytes → PutsOut p side (items ++ history) (bytes ++ more)) → o.after ≡ o.before ++ more → (said : List Encoded) → messages_sent items ≡ said → o.payloads_after ≡ o.payloads_before ++ payloads_of said →
      WentOn p side parts history items new o
  goes_on items new o turn sums more puts out said is lists = record {
    turn = turn;
    more = more;
    puts = puts;
    out = out;
    lists = lists ∙ ap (λ (l : List Encoded). o.payloads_before ++ payloads_of l) (sym is);
    place = stands_on items new turn sums;
  }

  pub goes_quietly : (items : List Item) (new : Transport K) (o : Outs) → layers.TransportTurn p side history items → SumsUp p side (items ++ history) new → ((bytes : List ℕ) → PutsOut p side history bytes → PutsOut p side (items ++ history) bytes) →
      messages_sent items ≡ [] → IsQuiet o → WentOn p side parts history items new o
  goes_quietly items new o turn sums puts none quiet =
      goes_on items new o turn sums [] (λ bytes x. subst (λ (t : List ℕ). PutsOut p side (items ++ history) t) (sym (append-nil bytes)) (puts bytes x)) (quiet.out ∙ sym (append-nil o.before)) [] none (quiet.sent ∙ sym (append-nil o.payloads_before))

  pub dies : old.dead ≡ false → (new : Transport K) → new.dead ≡ true → TransportStandsAfter p side parts (Died ∷ history) new
  dies alive new dead = stands_on (Died ∷ []) new (layers.TransportTurn.dies (lives p side parts history old place alive)) (over p side (Died ∷ history) new refl dead)

  pub died_to : (was_dead : Bool) → old.dead ≡ was_dead → (new : Transport K) → new.dead ≡ true → DiedTo p side parts history was_dead new
  died_to true was new dead = stands_still p side parts history old place new (over p side history new (sym place.sums.dead_is ∙ was) dead)
  died_to false was new dead = dies was new dead
