-- The values of a history that a transport sums up. A history goes on with items that change few of
-- these values.
use Rattle.std.specs.Prelude.{ℕ, zero, suc, Bool, Option, Some, None, List}
use Rattle.ssh_model.specs.declared.side.Side.{Side}
use Rattle.ssh_model.specs.Protocol.Wire.Sealing.{Crypto}
use Rattle.ssh_model.specs.Protocol.KeyExchange.Choice.{Chosen}
use Rattle.ssh_model.specs.Protocol.KeyExchange.Exchange.{Inputs}
use Rattle.ssh_model.specs.Protocol.KeyExchange.Exchanges.{Material, Offer, Reply, nth}
use Rattle.ssh_model.specs.Protocol.KeyExchange.Exchanges.{no_exchange, none_chosen, fed, sent_line, took_line, offers, points}
use Rattle.ssh_model.specs.Protocol.KeyExchange.Exchanges.{replies, exchanges, choices, session_id}
use Rattle.ssh_model.specs.Protocol.KeyExchange.Exchanges.{key_of}
use Rattle.ssh_model.specs.Protocol.Sessions.Parties.{Parties}
use Rattle.ssh_model.specs.Protocol.Sessions.Items.{Item, Payload, sent, took, messages_sent, messages_taken}
use Rattle.ssh_model.specs.Protocol.Sessions.Phases.{Phase, phase, blocked, has_line, other_lines, service_requested}
use Rattle.ssh_model.specs.Protocol.Sessions.Phases.{took_service_accept, authenticated}

-- the values of a history that a transport sums up
pub record View : Type 0 where
  pub has_line : Bool
  pub other_lines : ℕ
  pub took_line : List ℕ
  pub sent_line : List ℕ
  pub sent : List Payload
  pub took : List Payload
  -- KEXINITs, points and replies of this end and of the peer
  pub own_offers : List Offer
  pub their_offers : List Offer
  pub own_points : List (List ℕ)
  pub their_points : List (List ℕ)
  pub own_replies : List Reply
  pub their_replies : List Reply
  pub fed : List Material
  pub phase : Phase
  pub blocked : Bool
  pub exchanges : List Inputs
  pub choices : List Chosen
  pub requested : Bool
  pub accepted : Bool
  pub authenticated : Bool

-- the view of a history
abbrev pub view : {K : Type 0} → Parties K → Side → List Item → View
view p side h = record {
  has_line = has_line h;
  other_lines = other_lines h;
  took_line = took_line h;
  sent_line = sent_line h;
  sent = sent h;
  took = took h;
  own_offers = offers (messages_sent h);
  their_offers = offers (messages_taken h);
  own_points = points (messages_sent h);
  their_points = points (messages_taken h);
  own_replies = replies (messages_sent h);
  their_replies = replies (messages_taken h);
  fed = fed h;
  phase = phase p side h;
  blocked = blocked h;
  exchanges = exchanges p side h;
  choices = choices side h;
  requested = service_requested side h;
  accepted = took_service_accept h;
  authenticated = authenticated side h;
}

-- the key of a direction in epoch e, from the exchanges and choices that were completed
abbrev pub key_from : {K : Type 0} → Crypto K → (from : Side) → ℕ → List Inputs → List Chosen → Option K
key_from c from zero xs choices = None
key_from c from (suc e) xs choices =
    Some (key_of c from (nth no_exchange e xs) (session_id xs) (nth none_chosen e choices))
