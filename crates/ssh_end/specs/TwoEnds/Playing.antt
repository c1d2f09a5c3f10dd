-- The effect of events on a pair, as their effect on two ends of a session.
use Rattle.std.specs.Prelude.{◌≡◌, ℕ, Bool, cond, List, [], ◌∷◌, ◌++◌}
use Rattle.ssh_model.specs.declared.side.Side.{Side}
use Rattle.ssh_model.specs.declared.side.Side.TheVariants.{Client, Server}
use Rattle.ssh_model.specs.Protocol.Side.{done_by, part}
use Rattle.ssh_model.specs.Protocol.Wire.Delivery.{Delivered}
use Rattle.ssh_model.specs.Protocol.KeyExchange.Exchanges.{Material, fed}
use Rattle.ssh_model.specs.Protocol.Sessions.Claims.{IsSafe}
use Rattle.ssh_model.specs.Protocol.Sessions.Events as session
use Rattle.ssh_model.specs.Protocol.Sessions.Events.{IsFirst, OnEvent, Plays, PutsOut, World, reading_of}
use Rattle.ssh_model.specs.Protocol.Sessions.Faithful.{IsFaithful, KillsNobody}
use Rattle.ssh_model.specs.Protocol.Sessions.Honest.{IsHonest}
use Rattle.ssh_model.specs.Protocol.Sessions.Items.{Ask, Done, Item, Item.Fed, has_died}
use Rattle.ssh_model.specs.Protocol.Sessions.Parties.{AreLawful, BothOffer, Parties, Settings, settings_of}
use Rattle.ssh_model.specs.Protocol.Sessions.Quiet.{IsDelivered, IsSettled}
use Rattle.ssh_model.specs.Protocol.Sessions.Turns.{AsksTurn, can_feed}
use Rattle.ssh_end_machine.specs.Asking.{ask_of}
use Rattle.ssh_end_machine.specs.Ends.{EndValue, IsOf}
use Rattle.ssh_end_machine.specs.RoleValues.{RoleValue}
use Rattle.ssh_end_machine.specs.Stands.{MadeAt}
use Rattle.ssh_end_machine.specs.declared.role.EndRole as role
use Rattle.ssh_end.specs.TwoEnds.Items.{Records}
use Rattle.ssh_end.specs.TwoEnds.Recording.{Adds}
use Rattle.ssh_end.specs.TwoEnds.Standing.{Both, EndStands, PairState, PairStands, Standing, both, kept_bytes}
use Rattle.ssh_end.specs.TwoEnds.Standing.{standing_of, state_in}
use Rattle.ssh_end.specs.declared.event.Event.{Event}
use Rattle.ssh_end.specs.declared.event.Event.TheVariants as event
use Rattle.ssh_end.specs.declared.item.Done as declared
use Rattle.ssh_end.specs.declared.item.Transcript.{Transcript}

-- ---- events

-- an event, in the words of a session
abbrev pub event_of : Event → session.Event
event_of (event.Ask side ask) = session.Event.Asks side (ask_of ask)
event_of (event.Deliver side bytes) = session.Event.Delivers side bytes.now

abbrev pub events_of : List Event → List session.Event
events_of [] = []
events_of (event ∷ events) = event_of event ∷ events_of events

-- ---- one end

-- An end put out more bytes, as it did more.
pub record PutsMore {K : Type 0} (p : Parties K) (side : Side) (history last : List Item) (old new : List ℕ) : Type 0
  where
    pub more : List ℕ
    pub puts : (bytes : List ℕ) → PutsOut p side history bytes → PutsOut p side last (bytes ++ more)
    pub out : new ≡ old ++ more

-- The end recorded these items and put out their bytes.
pub record SaysOf {K : Type 0} (p : Parties K) (side : Side) (run : List Done) (items : List Item)
    (log_old log_new : List declared.Done) (out_old out_new : List ℕ) : Type 0 where
  pub records : Adds side items log_old log_new
  pub puts : PutsMore p side (part side run) (items ++ part side run) out_old out_new

-- The end used bytes that came to it after those that it kept, whatever comes after them. `Stands` says where it then
-- stands in a run.
pub record Advanced {K : Type 0} (p : Parties K) (side : Side) (run : List Done) (bytes kept_old kept_new : List ℕ)
    (Stands : List Done → Type 0) (log_old log_new : List declared.Done) (out_old out_new : List ℕ) : Type 0 where
  pub items : List Item
  pub reads : (following : List ℕ) (last : List Done) (rest : List ℕ) →
      Delivered (reading_of p side) (done_by side items ++ run) (kept_new ++ following) last rest →
      Delivered (reading_of p side) run (kept_old ++ (bytes ++ following)) last rest
  pub stands : Stands (done_by side items ++ run)
  pub says : SaysOf p side run items log_old log_new out_old out_new

-- The end did a turn on an ask.
pub record Answered {K : Type 0} (p : Parties K) (side : Side) (run : List Done) (asked : Ask)
    (kept_old kept_new : List ℕ) (Stands : List Done → Type 0) (log_old log_new : List declared.Done)
    (out_old out_new : List ℕ) : Type 0 where
  pub items : List Item
  pub turn : AsksTurn p side (part side run) asked items
  pub kept : kept_new ≡ cond (has_died (items ++ part side run)) [] kept_old
  pub stands : Stands (done_by side items ++ run)
  pub says : SaysOf p side run items log_old log_new out_old out_new

-- An end has opened with this pair of cookie and secret. Its opening was recorded and put out. It holds no byte of its peer yet.
pub record Opens {K : Type 0} (p : Parties K) (side : Side) (material : Material) (v : Standing K)
    (log_old log_new : List declared.Done) (out_old out_new : List ℕ) (sent : List (List ℕ)) : Type 0 where
  pub made : MadeAt p side (v.parts p) (v.layers p) material v.machine (state_in v) out_old out_new sent
  pub records : Adds side made.items log_old log_new
  pub buffered : kept_bytes v.machine ≡ []

-- From each place of a run at which the end stands, it went on by bytes, or by an ask.
abbrev pub Advances : {R X S F K : Type 0} → role.Ghosts R X S F K → Side → (old : EndValue K (RoleValue X R) F) →
    (bytes : List ℕ) → (new : EndValue K (RoleValue X R) F) → (log_old log_new : List declared.Done) →
    (out_old out_new : List ℕ) → Type 0
Advances {R} {X} {S} {F} {K} ends side old bytes new log_old log_new out_old out_new =
    (p : Parties K) (run : List Done) → EndStands p side (standing_of ends old) run →
    Advanced p side run bytes (kept_bytes old.machine) (kept_bytes new.machine)
    (EndStands p side (standing_of ends new)) log_old log_new out_old out_new

abbrev pub Answers : {R X S F K : Type 0} → role.Ghosts R X S F K → Side → (old : EndValue K (RoleValue X R) F) → Ask →
    (new : EndValue K (RoleValue X R) F) → (log_old log_new : List declared.Done) → (out_old out_new : List ℕ) → Type 0
Answers {R} {X} {S} {F} {K} ends side old asked new log_old log_new out_old out_new =
    (p : Parties K) (run : List Done) → EndStands p side (standing_of ends old) run →
    Answered p side run asked (kept_bytes old.machine) (kept_bytes new.machine)
    (EndStands p side (standing_of ends new)) log_old log_new out_old out_new

-- An end with these settings opened in this way. This holds for all lawful parties that have these settings and its parts.
abbrev pub OpensAs : {R X S F K : Type 0} → role.Ghosts R X S F K → Side → Settings → Material →
    EndValue K (RoleValue X R) F → (log_old log_new : List declared.Done) → (out_old out_new : List ℕ) → Type 0
OpensAs {R} {X} {S} {F} {K} ends side given material end log_old log_new out_old out_new =
    (p : Parties K) → AreLawful p → settings_of p side ≡ given → IsOf ends end.role p →
    Opens p side material (standing_of ends end) log_old log_new out_old out_new end.sent

-- ---- a pair

-- the bytes that each end put out
pub record Output : Type 0 where
  pub client : List ℕ
  pub server : List ℕ

-- the bytes that one end put out
abbrev pub output_of : Side → Output → List ℕ
output_of Client o = o.client
output_of Server o = o.server

-- the bytes that each end put out, from a transcript
abbrev pub output_in : Transcript → Output
output_in t = record { client = t.client_bytes.items; server = t.server_bytes.items }

-- These items, the newest first, lead from one world to the next. They were recorded and their bytes put out.
pub record Says {K : Type 0} (p : Parties K) (w next : World) (items : List Done) (log_old log_new : List declared.Done)
    (old new : Output) : Type 0 where
  pub run_is : next.run ≡ items ++ w.run
  pub records : (run : List Done) → Records log_old run → Records log_new (items ++ run)
  pub puts : (side : Side) →
      PutsMore p side (part side w.run) (part side next.run) (output_of side old) (output_of side new)

-- One event led to another world, where the pair now stands.
pub record PlaysOne {K : Type 0} (p : Parties K) (w : World) (event : session.Event) (new : Both K)
    (log_old log_new : List declared.Done) (out_old out_new : Output) : Type 0 where
  pub next : World
  pub items : List Done
  pub on_event : OnEvent p w event next
  pub stands : PairStands p next new
  pub says : Says p w next items log_old log_new out_old out_new

-- These events led to another world, where the pair now stands.
pub record PlaysTo {K : Type 0} (p : Parties K) (w : World) (events : List session.Event) (new : Both K)
    (log : List declared.Done) (out : Output) : Type 0 where
  pub next : World
  pub items : List Done
  pub plays : Plays p w events next
  pub stands : PairStands p next new
  pub says : Says p w next items [] log (record { client = []; server = [] }) out

-- What two ends promise of a run, whatever the network did. It is safe if it is honest and both ends offer strict key
-- exchange. It is settled if each end took just the payloads that the other sent: neither waits for the other. If each payload
-- that an end opened was the next that the other sent, neither end refused one but for a reason that lies in the two ends.
pub record Promises {K : Type 0} (p : Parties K) (run : List Done) : Type 0 where
  pub safe : BothOffer p → IsHonest p run → IsSafe p run
  pub settled : IsDelivered run → IsSettled p run
  pub faithful : IsFaithful run → KillsNobody run

-- They did, and the run is as two ends promise.
pub record Played {K : Type 0} (p : Parties K) (w : World) (events : List session.Event) (new : Both K)
    (log : List declared.Done) (out : Output) : Type 0 where
  pub to : PlaysTo p w events new log out
  pub promises : Promises p to.next.run

-- An end of a pair was fed, and gave this answer. It is true exactly if the end could be fed, and then only that was done.
pub record PairFed {K : Type 0} (p : Parties K) (w : World) (side : Side) (material : Material) (answer : Bool)
    (new : Both K) : Type 0 where
  pub answer_is : answer ≡ can_feed (part side w.run)
  pub next : World
  pub on_event : OnEvent p w (session.Event.Feeds side material.cookie material.secret) next
  pub run_is : next.run ≡ done_by side (cond answer (Fed material.cookie material.secret ∷ []) []) ++ w.run
  pub stands : PairStands p next new
  pub promises : Promises p next.run

-- Two ends have opened, each with this pair of cookie and secret. Their openings were recorded and put out. The run is as they promise.
pub record PairOpens {K : Type 0} (p : Parties K) (of_client of_server : Material) (pair : Both K)
    (log : List declared.Done) (out : Output) : Type 0 where
  pub world : World
  pub first : IsFirst p world
  pub client_fed : fed (part Client world.run) ≡ of_client ∷ []
  pub server_fed : fed (part Server world.run) ≡ of_server ∷ []
  pub stands : PairStands p world pair
  pub records : Records log world.run
  pub puts : (side : Side) → PutsOut p side (part side world.run) (output_of side out)
  pub promises : Promises p world.run

-- ---- the claims of a pair's calls

-- Two ends opened with these settings and pairs of cookie and secret. This holds for all parties with these settings and parts.
abbrev pub PairMade : {R X S F Q Y T G K : Type 0} → role.Ghosts R X S F K → role.Ghosts Q Y T G K →
    (client server : Settings) → (of_client of_server : Material) →
    PairState (EndValue K (RoleValue X R) F) (EndValue K (RoleValue Y Q) G) → Transcript → Type 0
PairMade {R} {X} {S} {F} {Q} {Y} {T} {G} {K} clients servers client server of_client of_server pair t =
    (p : Parties K) → IsOf clients pair.client.role p → IsOf servers pair.server.role p → p.client ≡ client →
    p.server ≡ server → PairOpens p of_client of_server (both clients servers pair) t.items.items (output_in t)

-- From each world in which the pair stands:

-- an event was played.
abbrev pub GoesOn : {R X S F Q Y T G K : Type 0} → role.Ghosts R X S F K → role.Ghosts Q Y T G K →
    (old : PairState (EndValue K (RoleValue X R) F) (EndValue K (RoleValue Y Q) G)) → session.Event →
    (new : PairState (EndValue K (RoleValue X R) F) (EndValue K (RoleValue Y Q) G)) → (before after : Transcript) → Type 0
GoesOn {R} {X} {S} {F} {Q} {Y} {T} {G} {K} clients servers old event new before after =
    (p : Parties K) (w : World) → PairStands p w (both clients servers old) →
    PlaysOne p w event (both clients servers new) before.items.items after.items.items (output_in before) (output_in after)

-- events were played, up to here.
abbrev pub HasPlayed : {R X S F Q Y T G K : Type 0} → role.Ghosts R X S F K → role.Ghosts Q Y T G K →
    (old : PairState (EndValue K (RoleValue X R) F) (EndValue K (RoleValue Y Q) G)) → List session.Event →
    (new : PairState (EndValue K (RoleValue X R) F) (EndValue K (RoleValue Y Q) G)) → Transcript → Type 0
HasPlayed {R} {X} {S} {F} {Q} {Y} {T} {G} {K} clients servers old events new t =
    (p : Parties K) (w : World) → PairStands p w (both clients servers old) →
    PlaysTo p w events (both clients servers new) t.items.items (output_in t)

-- events were played, and the run is as two ends promise.
abbrev pub PairPlays : {R X S F Q Y T G K : Type 0} → role.Ghosts R X S F K → role.Ghosts Q Y T G K →
    (old : PairState (EndValue K (RoleValue X R) F) (EndValue K (RoleValue Y Q) G)) → List session.Event →
    (new : PairState (EndValue K (RoleValue X R) F) (EndValue K (RoleValue Y Q) G)) → Transcript → Type 0
PairPlays {R} {X} {S} {F} {Q} {Y} {T} {G} {K} clients servers old events new t =
    (p : Parties K) (w : World) → PairStands p w (both clients servers old) →
    Played p w events (both clients servers new) t.items.items (output_in t)

-- an end was fed.
abbrev pub PairFeeds : {R X S F Q Y T G K : Type 0} → role.Ghosts R X S F K → role.Ghosts Q Y T G K →
    (old : PairState (EndValue K (RoleValue X R) F) (EndValue K (RoleValue Y Q) G)) → Side → Material → Bool →
    (new : PairState (EndValue K (RoleValue X R) F) (EndValue K (RoleValue Y Q) G)) → Type 0
PairFeeds {R} {X} {S} {F} {Q} {Y} {T} {G} {K} clients servers old side material answer new =
    (p : Parties K) (w : World) → PairStands p w (both clients servers old) →
    PairFed p w side material answer (both clients servers new)
