-- Events of the pair, for every run that it stands at.
use Rattle.std.proofs.Common.{◌≡◌, ℕ, zero, suc, arith, ◌<◌, List, [], ◌∷◌, ◌++◌, length, get_or, refl, sym, ap, subst, ◌∙◌, append-nil, append_assoc, Ok, Err}
use Rattle.std.specs.Prelude.{Result, OnOk}
use Rattle.ssh_model.specs.Laws.MacOnly.{mac_only}
use Rattle.ssh_model.specs.declared.side.Side.TheVariants.{Client, Server}
use Rattle.ssh_model.specs.Protocol.Side.{done_by, part}
use Rattle.ssh_model.specs.OneEpoch.History.{Item}
use Rattle.ssh_model.specs.OneEpoch.History as history
use Rattle.ssh_model.specs.OneEpoch.Runs.{Asks, Event, Event.Ask, Event.Deliver, Gets, Keys, Run, Run.ends, Run.goes, Step, Step.asks, Step.gets, World, next_world}
use Rattle.ssh_trace.specs.History.{AreFilled, event_of, events_of, logged}
use Rattle.ssh_trace.specs.EpochEnd.{End, EndSums, left_of}
use Rattle.ssh_trace.specs.Turns.{Asked, Delivered}
use Rattle.ssh_trace.specs.Pair.{PairState, Plays, PlaysOne, ShareKeys, StandsAt, keys_of}
use Rattle.ssh_trace.specs.declared.history.Done.{Done}
use Rattle.ssh_trace.specs.declared.history.Event as rust

pub map_ok : {T E : Type 0} {P Q : Type 0} (r : Result T E) → (P → Q) → OnOk r P → OnOk r Q
map_ok (Ok x) f p = f p
map_ok (Err e) f p = p

-- ---- each end's part of all that was done

client_own : (items : List Item) (run : List history.Done) → part Client (done_by Client items ++ run) ≡ items ++ part Client run
client_own [] run = refl
client_own (i ∷ items) run = ap (λ (x : List Item). i ∷ x) (client_own items run)

client_other : (items : List Item) (run : List history.Done) → part Client (done_by Server items ++ run) ≡ part Client run
client_other [] run = refl
client_other (i ∷ items) run = client_other items run

server_own : (items : List Item) (run : List history.Done) → part Server (done_by Server items ++ run) ≡ items ++ part Server run
server_own [] run = refl
server_own (i ∷ items) run = ap (λ (x : List Item). i ∷ x) (server_own items run)

server_other : (items : List Item) (run : List history.Done) → part Server (done_by Client items ++ run) ≡ part Server run
server_other [] run = refl
server_other (i ∷ items) run = server_other items run

-- an end that stands somewhere has the bytes that are left there
at_left : (h : List Item) (rest : List ℕ) (e : End) → EndSums h rest e → EndSums h (left_of e) e
at_left h rest e s = subst (λ (x : List ℕ). EndSums h x e) s.rest_is s

-- ---- one event

pub client_asked : (event : Event) (payload : List ℕ) (pair : PairState) (end : End) (a b : List Done) (out put other : List ℕ) → event ≡ Ask Client payload
    → Asked pair.client.sending_key Client payload pair.client end a b out put → (w : World) → StandsAt w pair → PlaysOne event pair (record pair { client = end }) a b out put other other w
client_asked event payload pair end a b out put other is asked w s =
    let t = asked (part Client w.run) (at_left (part Client w.run) w.client_rest pair.client s.client) in
    let turn : Asks mac_only pair.client.sending_key (part Client w.run) w.client_rest payload t.items t.bytes (left_of end) =
    subst (λ (x : List ℕ). Asks mac_only pair.client.sending_key (part Client w.run) x payload t.items t.bytes (left_of end)) (sym s.client.rest_is) t.asks in
    let next : World = next_world w Client t.items (left_of end) t.bytes in
    record {
      end = next;
      step = subst (λ (e : Event). Step mac_only (keys_of pair) w e next) (sym is) (asks Client payload turn);
      stands = record {
        client = subst (λ (h : List Item). EndSums h (left_of end) end) (sym (client_own t.items w.run)) t.notes.sums;
        server = subst (λ (h : List Item). EndSums h w.server_rest pair.server) (sym (server_other t.items w.run)) s.server;
      };
      items_are = λ run e. ap (λ (x : List history.Done). done_by Client t.items ++ x) e ∙ sym (t.notes.records run);
      client_bytes_are = λ before e. ap (λ (x : List ℕ). x ++ t.bytes) e ∙ append_assoc before out t.bytes ∙ ap (λ (x : List ℕ). before ++ x) (sym t.put);
      server_bytes_are = λ before e. e;
    }

pub server_asked : (event : Event) (payload : List ℕ) (pair : PairState) (end : End) (a b : List Done) (out put other : List ℕ) → event ≡ Ask Server payload
    → Asked pair.server.sending_key Server payload pair.server end a b out put → (w : World) → StandsAt w pair → PlaysOne event pair (record pair { server = end }) a b other other out put w
server_asked event payload pair end a b out put other is asked w s =
    let t = asked (part Server w.run) (at_left (part Server w.run) w.server_rest pair.server s.server) in
    let turn : Asks mac_only pair.server.sending_key (part Server w.run) w.server_rest payload t.items t.bytes (left_of end) =
    subst (λ (x : List ℕ). Asks mac_only pair.server.sending_key (part Server w.run) x payload t.items t.bytes (left_of end)) (sym s.server.rest_is) t.asks in
    let next : World = next_world w Server t.items (left_of end) t.bytes in
    record {
      end = next;
      step = subst (λ (e : Event). Step mac_only (keys_of pair) w e next) (sym is) (asks Server payload turn);
      stands = record {
        client = subst (λ (h : List Item). EndSums h w.client_rest pair.client) (sym (client_other t.items w.run)) s.client;
        server = subst (λ (h : List Item). EndSums h (left_of end) end) (sym (server_own t.items w.run)) t.notes.sums;
      };
      items_are = λ run e. ap (λ (x : List history.Done). done_by Server t.items ++ x) e ∙ sym (t.notes.records run);
      client_bytes_are = λ before e. e;
      server_bytes_are = λ before e. ap (λ (x : List ℕ). x ++ t.bytes) e ∙ append_assoc before out t.bytes ∙ ap (λ (x : List ℕ). before ++ x) (sym t.put);
    }

pub client_delivered : (event : Event) (bytes : List ℕ) (pair : PairState) (end : End) (a b : List Done) (out other : List ℕ) → event ≡ Deliver Client bytes
    → ShareKeys pair.client pair.server → Delivered pair.client.taking_key Client bytes pair.client end a b → (w : World) → StandsAt w pair → PlaysOne event pair (record pair { client = end }) a b out out other other w
client_delivered event bytes pair end a b out other is share delivered w s =
    let t = delivered (part Client w.run) (at_left (part Client w.run) w.client_rest pair.client s.client) in
    let turn : Gets mac_only pair.server.sending_key (part Client w.run) (w.client_rest ++ bytes) t.items (left_of end) =
    subst (λ (k : List ℕ). Gets mac_only k (part Client w.run) (w.client_rest ++ bytes) t.items (left_of end)) share.to_client
    (subst (λ (x : List ℕ). Gets mac_only pair.client.taking_key (part Client w.run) (x ++ bytes) t.items (left_of end)) (sym s.client.rest_is) t.gets) in
    let next : World = next_world w Client t.items (left_of end) [] in
    record {
      end = next;
      step = subst (λ (e : Event). Step mac_only (keys_of pair) w e next) (sym is) (gets Client bytes turn);
      stands = record {
        client = subst (λ (h : List Item). EndSums h (left_of end) end) (sym (client_own t.items w.run)) t.notes.sums;
        server = subst (λ (h : List Item). EndSums h w.server_rest pair.server) (sym (server_other t.items w.run)) s.server;
      };
      items_are = λ run e. ap (λ (x : List history.Done). done_by Client t.items ++ x) e ∙ sym (t.notes.records run);
      client_bytes_are = λ before e. append-nil w.client_bytes ∙ e;
      server_bytes_are = λ before e. e;
    }

pub server_delivered : (event : Event) (bytes : List ℕ) (pair : PairState) (end : End) (a b : List Done) (out other : List ℕ) → event ≡ Deliver Server bytes
    → ShareKeys pair.client pair.server → Delivered pair.server.taking_key Server bytes pair.server end a b → (w : World) → StandsAt w pair → PlaysOne event pair (record pair { server = end }) a b out out other other w
server_delivered event bytes pair end a b out other is share delivered w s =
    let t = delivered (part Server w.run) (at_left (part Server w.run) w.server_rest pair.server s.server) in
    let turn : Gets mac_only pair.client.sending_key (part Server w.run) (w.server_rest ++ bytes) t.items (left_of end) =
    subst (λ (k : List ℕ). Gets mac_only k (part Server w.run) (w.server_rest ++ bytes) t.items (left_of end)) share.to_server
    (subst (λ (x : List ℕ). Gets mac_only pair.server.taking_key (part Server w.run) (x ++ bytes) t.items (left_of end)) (sym s.server.rest_is) t.gets) in
    let next : World = next_world w Server t.items (left_of end) [] in
    record {
      end = next;
      step = subst (λ (e : Event). Step mac_only (keys_of pair) w e next) (sym is) (gets Server bytes turn);
      stands = record {
        client = subst (λ (h : List Item). EndSums h w.client_rest pair.client) (sym (client_other t.items w.run)) s.client;
        server = subst (λ (h : List Item). EndSums h (left_of end) end) (sym (server_own t.items w.run)) t.notes.sums;
      };
      items_are = λ run e. ap (λ (x : List history.Done). done_by Server t.items ++ x) e ∙ sym (t.notes.records run);
      client_bytes_are = λ before e. e;
      server_bytes_are = λ before e. append-nil w.server_bytes ∙ e;
    }

-- ---- all events

run_more : (keys : Keys (List ℕ)) (w middle end : World) (events : List Event) (event : Event) → Run mac_only keys w events middle → Step mac_only keys middle event end → Run mac_only keys w (events ++ event ∷ []) end
run_more keys w middle end [] event ends step = goes step ends
run_more keys w middle end (first ∷ events) event (goes one rest) step = goes one (run_more keys _ middle end events event rest step)

events_more : (events : List rust.Event) (event : rust.Event) → events_of (events ++ event ∷ []) ≡ events_of events ++ event_of event ∷ []
events_more [] event = refl
events_more (first ∷ events) event = ap (λ (x : List Event). event_of first ∷ x) (events_more events event)

pub nothing_played : (pair : PairState) (items : List Done) (client server : List ℕ) → items ≡ [] → client ≡ [] → server ≡ [] → (w : World) → StandsAt w pair → Plays [] pair pair items client server w
nothing_played pair items client server none no_client no_server w s =
    record {
      end = w;
      run = ends;
      stands = s;
      items_are = ap (logged w.run) (sym none);
      client_bytes_are = sym (append-nil w.client_bytes) ∙ ap (λ (x : List ℕ). w.client_bytes ++ x) (sym no_client);
      server_bytes_are = sym (append-nil w.server_bytes) ∙ ap (λ (x : List ℕ). w.server_bytes ++ x) (sym no_server);
    }

pub one_more : (events : List rust.Event) (event : rust.Event) (old middle new : PairState) (a b : List Done) (client client' server server' : List ℕ) (w : World) → keys_of middle ≡ keys_of old
    → Plays (events_of events) old middle a client server w → ((v : World) → StandsAt v middle → PlaysOne (event_of event) middle new a b client client' server server' v)
    → Plays (events_of (events ++ event ∷ [])) old new b client' server' w
one_more events event old middle new a b client client' server server' w keys p turn =
    let t = turn p.end p.stands in
    let step = subst (λ (k : Keys (List ℕ)). Step mac_only k p.end (event_of event) t.end) keys t.step in
    record {
      end = t.end;
      run = subst (λ (es : List Event). Run mac_only (keys_of old) w es t.end) (sym (events_more events event)) (run_more (keys_of old) w p.end t.end (events_of events) (event_of event) p.run step);
      stands = t.stands;
      items_are = t.items_are w.run p.items_are;
      client_bytes_are = t.client_bytes_are w.client_bytes p.client_bytes_are;
      server_bytes_are = t.server_bytes_are w.server_bytes p.server_bytes_are;
    }

-- what is asked of all events is asked of each
pub filled_at : (events : List rust.Event) (i : ℕ) (d : rust.Event) → AreFilled (events_of events) → i < length events → AreFilled (event_of (get_or events i d) ∷ [])
filled_at [] i d h lt = absurd (omega arith)
filled_at (rust.TheVariants.Ask side payload ∷ events) zero d h lt = (h.0, tt)
filled_at (rust.TheVariants.Deliver side bytes ∷ events) zero d h lt = tt
filled_at (rust.TheVariants.Ask side payload ∷ events) (suc i) d h lt = filled_at events i d h.1 (omega arith)
filled_at (rust.TheVariants.Deliver side bytes ∷ events) (suc i) d h lt = filled_at events i d h (omega arith)
