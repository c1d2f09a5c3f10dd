-- What comes of an ask of a user is a row of the end.
use Rattle.std.proofs.Common.{◌≡◌, ℕ, ◌≤◌, ◌^◌, List, [], ◌∷◌, length, take, arith, refl, ap, sym, ◌∙◌, subst, true, false, Option, Some, None, Result, Ok, Err}
use Rattle.std.proofs.lemmas.Bool.{ltb-false, not-false}
use Rattle.std.proofs.lemmas.List.{length-take}
use Rattle.std.specs.Prelude.{IfOk, IfErr, OnOk, OnErr, codes}
use Rattle.ssh_model.specs.Protocol.Bounds.{longest_payload}
use Rattle.ssh_model.specs.declared.side.Side.{Side}
use Rattle.ssh_model.specs.declared.side.Side.TheVariants.{Client, Server}
use Rattle.ssh_model.specs.Protocol.Wire.Message.{Msg}
use Rattle.ssh_model.specs.Protocol.Wire.Sealing.{Crypto}
use Rattle.ssh_model.specs.Protocol.Sessions.Items as session
use Rattle.ssh_model.specs.Protocol.Sessions.Items.{Item.Asked, Item.Died, Item.Refused, Item.Sent}
use Rattle.ssh_model.specs.Protocol.Sessions.Parties.{Parties, user_signature_by}
use Rattle.ssh_model.specs.declared.refusal.Refusal.TheVariants as refusals
use Rattle.ssh_model.specs.Protocol.Sessions.Refusals.{first_refusal}
use Rattle.ssh_model.specs.Protocol.Sessions.Sizes.{request_size}
use Rattle.ssh_model.specs.Protocol.Sessions.TurnClaims.{HasEncoding}
use Rattle.ssh_model.specs.State.Authentication.Kept as authentication
use Rattle.ssh_model.specs.State.Authentication.Kept.{ClientSends, client_checks}
use Rattle.ssh_model.specs.Protocol.Authentication.Rows.{password_size, probe_size, sign_size}
use Rattle.ssh_model.specs.State.Channels.Kept.{Channels}
use Rattle.ssh_model.specs.State.TransportLayer.Kept.{Transport, after_sent}
use Rattle.ssh_model.specs.State.End.Asks.{AsksAbove, TakesAsk, end_ask_checks}
use Rattle.ssh_model.specs.State.End.State.{Authentication.OfClient, EndState, after_items}
use Rattle.ssh_model.specs.Laws.Checks.{all_passed}
use Rattle.ssh_model.specs.Laws.Written.{no_method_encoded, password_encoded, probe_encoded, sign_encoded}
use Rattle.ssh_auth.specs.Asking.{ClientAsks, IsSigned, ask_of, short_signature}
use Rattle.ssh_auth.specs.declared.ask.UserAsk.{UserAsk}
use Rattle.ssh_auth.specs.declared.ask.UserAsk.TheVariants as ask
use Rattle.ssh_transport_machine.specs.Puts.{Outs}
use Rattle.ssh_transport_machine.specs.State.{State}
use Rattle.ssh_transport_machine.specs.Answering.{Answers, HasRoom, IsQuiet, SentBy}
use Rattle.ssh_transport_machine.specs.declared.machine.sending.SendOutcome.{SendOutcome}
use Rattle.ssh_transport_machine.specs.declared.machine.sending.SendOutcome.TheVariants.{Done, Spent}
use Rattle.ssh_end_machine.specs.Asking.{AskRow, DiedRow, GivenFails, RequestSent, RowOf, ShowsAsk, UserRow, end_with, step_by}
use Rattle.ssh_end_machine.specs.declared.asking.outcome.Fault.{Fault}
use Rattle.ssh_end_machine.specs.declared.asking.outcome.Fault.TheVariants as fault
use Rattle.ssh_end_machine.specs.declared.asking.outcome.AskStep.{AskStep}
use Rattle.ssh_end_machine.proofs.AsksTransport.{quiet_lists, quiet_parts}

-- ---- one line a row, or an ask

request_after : {K : Type 0} (side : Side) (signature : List ℕ → List ℕ → List ℕ → List ℕ → List ℕ) (id : List ℕ) (client new : authentication.Client) (asked : session.Ask) (m : Msg) (payload : List ℕ) (s : Transport K) → ClientSends signature id client asked m new → after_items side (Sent None m payload ∷ []) s ≡ after_sent s
request_after Client signature id client new asked m payload s x = refl
request_after Server signature id client new asked m payload s (ClientSends.none user) = refl
request_after Server signature id client new asked m payload s (ClientSends.password user word) = refl
request_after Server signature id client new asked m payload s (ClientSends.probe user algorithm key) = refl
request_after Server signature id client new asked m payload s (ClientSends.sign user algorithm key) = refl

-- a signature is cut to 4096 bytes
short : (l : List ℕ) → length (take 4096 l) ≤ 4096
short l = omega (arith, length-take 4096 l)

request_encoded : (signature : List ℕ → List ℕ → List ℕ → List ℕ → List ℕ) (id : List ℕ) (client new : authentication.Client) (asked : session.Ask) (m : Msg) → first_refusal (client_checks client asked) ≡ None → ClientSends (short_signature signature) id client asked m new → HasEncoding m
request_encoded signature id client new asked m fine (ClientSends.none user) = let passed = all_passed (client_checks client (session.Ask.AskNone user)) fine in let n = ltb-false longest_payload (request_size user (codes "none")) (passed.1.1.1.0) in no_method_encoded user (omega (arith, n))
request_encoded signature id client new asked m fine (ClientSends.password user word) = let passed = all_passed (client_checks client (session.Ask.AskPassword user word)) fine in let n = ltb-false longest_payload (password_size user word) (passed.1.1.1.0) in password_encoded user word (omega (arith, n))
request_encoded signature id client new asked m fine (ClientSends.probe user algorithm key) = let passed = all_passed (client_checks client (session.Ask.AskProbe user algorithm key)) fine in let n = ltb-false longest_payload (probe_size user algorithm key) (passed.1.1.1.0) in probe_encoded user algorithm key (omega (arith, n))
request_encoded signature id client new asked m fine (ClientSends.sign user algorithm key) = let passed = all_passed (client_checks client (session.Ask.AskSign user algorithm key)) fine in let n = ltb-false longest_payload (sign_size user algorithm key) (passed.1.1.1.0) in sign_encoded user algorithm key _ (omega (arith, n)) (short _)

-- Only an open client is refused for nothing.
opened : (client : authentication.Client) (a : UserAsk) → first_refusal (client_checks client (ask_of a)) ≡ None → client.opened ≡ true
opened client (ask.None user) e = not-false client.opened (all_passed (client_checks client (ask_of (ask.None user))) e).0
opened client (ask.Password user word) e = not-false client.opened (all_passed (client_checks client (ask_of (ask.Password user word))) e).0
opened client (ask.Probe user algorithm key) e = not-false client.opened (all_passed (client_checks client (ask_of (ask.Probe user algorithm key))) e).0
opened client (ask.Sign user algorithm key) e = not-false client.opened (all_passed (client_checks client (ask_of (ask.Sign user algorithm key))) e).0

-- what authentication refuses, the end refuses
user_checks : {K : Type 0} (p : Parties K) (side : Side) (s : State K) (client : authentication.Client) (ch : Channels) (a : UserAsk) → end_ask_checks p side (end_with s (OfClient client) ch) (ask_of a) ≡ client_checks client (ask_of a)
user_checks p side s client ch (ask.None user) = refl
user_checks p side s client ch (ask.Password user word) = refl
user_checks p side s client ch (ask.Probe user algorithm key) = refl
user_checks p side s client ch (ask.Sign user algorithm key) = refl

-- A request would be sent.
record Requests (signature : List ℕ → List ℕ → List ℕ → List ℕ → List ℕ) (id : List ℕ) (client : authentication.Client) (asked : session.Ask) : Type 0 where
  message : Msg
  new : authentication.Client
  sends : ClientSends (short_signature signature) id client asked message new

signed_would : (signature : List ℕ → List ℕ → List ℕ → List ℕ → List ℕ) (id : List ℕ) (client : authentication.Client) (a : UserAsk) → IsSigned (ask_of a) → Requests signature id client (ask_of a)
signed_would signature id client (ask.None user) x = elim x [ ]
signed_would signature id client (ask.Password user word) x = elim x [ ]
signed_would signature id client (ask.Probe user algorithm key) x = elim x [ ]
signed_would signature id client (ask.Sign user algorithm key) x = record { message = _; new = _; sends = ClientSends.sign user.now algorithm.now key.now }

-- ---- the rows

module _ {K : Type 0} (p : Parties K) (side : Side) (old : State K) (client : authentication.Client) (ch : Channels) (a : UserAsk) (alive : old.kept.dead ≡ false) (id : List ℕ) (id_is : old.kept.session ≡ Some id) (fine : first_refusal (client_checks client (ask_of a)) ≡ None) (m : Msg) (kept : authentication.Client) (sends : ClientSends (user_signature_by p) id client (ask_of a) m kept) where
  abbrev before : EndState K
  before = end_with old (OfClient client) ch

  unrefused : first_refusal (end_ask_checks p side before (ask_of a)) ≡ None
  unrefused = ap first_refusal (user_checks p side old client ch a) ∙ fine

  above_by : (payload : List ℕ) → AsksAbove p before (ask_of a) (Sent None m payload ∷ []) (OfClient kept) ch
  above_by payload = AsksAbove.by_client id client kept (ask_of a) m payload id_is refl sends

  done_row : (new : State K) (o : Outs) → SentBy p.crypto old m (after_sent old.kept) new o → AskRow p side before (ask_of a) (step_by Done) (end_with new (OfClient kept) ch) o
  done_row new o x = record {
    items = Sent None m x.sends.payload ∷ Asked (ask_of a) ∷ [];
    more = x.sends.puts.more;
    shows = ShowsAsk.sent None None m x.sends.payload;
    takes = subst (λ (t : Transport K). TakesAsk p side before (ask_of a) (Sent None m x.sends.payload ∷ Asked (ask_of a) ∷ []) x.sends.puts.more (record { transport = t; authentication = OfClient kept; channels = ch }))
        (request_after side (user_signature_by p) id client kept (ask_of a) m x.sends.payload old.kept sends ∙ ap (λ (t : State K). t.kept) (sym x.after))
        (TakesAsk.above (ask_of a) alive unrefused (above_by x.sends.payload) x.sends.puts.packets);
    parts = x.sends.puts.parts;
    lists = x.sends.puts.lists;
  }

  module _ (encoding : HasEncoding m) (later : authentication.Client) where
    pub spent_row : (new : State K) (o : Outs) → old.kept.sending.count ≡ 2 ^ 32 → new.kept.dead ≡ true → IsQuiet o → AskRow p side before (ask_of a) (step_by Spent) (end_with new (OfClient later) ch) o
    spent_row new o none_left dead quiet = record {
      items = Died ∷ Refused refusals.NumberSpent None ∷ Asked (ask_of a) ∷ [];
      more = [];
      shows = ShowsAsk.spent;
      takes = TakesAsk.above_spent (ask_of a) (end_with new (OfClient later) ch) alive unrefused (above_by encoding.payload) (encoding.encodes, tt) none_left dead;
      parts = quiet_parts o quiet;
      lists = quiet_lists o quiet;
    }

    pub died_row : (new : State K) → HasRoom old → new.kept.dead ≡ true → DiedRow p side before (ask_of a) (end_with new (OfClient later) ch)
    died_row new room dead = record {
      takes = TakesAsk.above_dies (ask_of a) (end_with new (OfClient later) ch) alive unrefused (above_by encoding.payload) (encoding.encodes, tt) room dead;
      dead = dead;
    }

  step_row : HasEncoding m → (new : State K) (o : Outs) (answer : SendOutcome) → Answers p.crypto old m (after_sent old.kept) answer new o → AskRow p side before (ask_of a) (step_by answer) (end_with new (OfClient kept) ch) o
  step_row encoding new o Done x = done_row new o x
  step_row encoding new o Spent x = spent_row encoding kept new o x.none_left (ap (λ (t : State K). t.kept.dead) x.after) x.quiet

  pub request_row : HasEncoding m → (result : Result AskStep Fault) (new : State K) (o : Outs) → IfOk result (λ step. RequestSent p.crypto old m new o step) → IfErr result (λ f. GivenFails old f new) → RowOf p side before (ask_of a) result (end_with new (OfClient kept) ch) o
  request_row encoding (Ok step) new o x y = subst (λ (s : AskStep). AskRow p side before (ask_of a) s (end_with new (OfClient kept) ch) o) (sym x.step_is) (step_row encoding new o x.answer x.answers)
  request_row encoding (Err (fault.Ask why)) new o x y = elim y [ ]
  request_row encoding (Err fault.Memory) new o x y = died_row encoding kept new y.room y.dead
  request_row encoding (Err fault.Dead) new o x y = absurd (cc (y.dead, alive))

-- ---- what was given, and sent or not

-- an open client has a session id
record Identified {K : Type 0} (s : Transport K) : Type 0 where
  id : List ℕ
  id_is : s.session ≡ Some id

identify : {K : Type 0} (s : Transport K) → (s.session ≡ None → ⊥) → Identified s
identify s some = go s.session refl
  where
    go : (o : Option (List ℕ)) → s.session ≡ o → Identified s
    go None e = elim (some e) [ ]
    go (Some id) e = record { id = id; id_is = e }

module _ {K : Type 0} (c : Crypto K) (signature : List ℕ → List ℕ → List ℕ → List ℕ → List ℕ) (old : State K) (client : authentication.Client) (a : UserAsk) (alive : old.kept.dead ≡ false) where
  pub sent_row : (session_bytes : List ℕ) → ((id : List ℕ) → old.kept.session ≡ Some id → session_bytes ≡ id) → (m : Msg) (kept : authentication.Client) → ClientAsks signature session_bytes client (ask_of a) m kept → (result : Result AskStep Fault) (new : State K) (o : Outs) → IfOk result (λ step. RequestSent c old m new o step) → IfErr result (λ f. GivenFails old f new) →
      UserRow c signature old client (ask_of a) result new kept o
  sent_row session_bytes session_is m kept asks result new o x y = λ p side ch are.
      let s = identify old.kept (are.identified alive (opened client a asks.unrefused)) in
      request_row p side old client ch a alive s.id s.id_is asks.unrefused m kept
      (subst (λ (f : List ℕ → List ℕ → List ℕ → List ℕ → List ℕ). ClientSends (short_signature f) s.id client (ask_of a) m kept) (sym (are.user_signature alive)) (subst (λ (b : List ℕ). ClientSends (short_signature signature) b client (ask_of a) m kept) (session_is s.id s.id_is) asks.row))
      (request_encoded signature session_bytes client kept (ask_of a) m asks.unrefused asks.row) result new o
      (subst (λ (e : Crypto K). IfOk result (λ step. RequestSent e old m new o step)) (sym are.crypto) x) y

  pub memory_row : IsSigned (ask_of a) → first_refusal (client_checks client (ask_of a)) ≡ None → (result : Result AskStep Fault) (kept : authentication.Client) (new : State K) (o : Outs) → IfOk result (λ step. step ≡ step_by Spent) → OnOk result (old.kept.sending.count ≡ 2 ^ 32) → IfErr result (λ f. f ≡ fault.Memory) → OnErr result (HasRoom old) → new.kept.dead ≡ true → IsQuiet o →
      UserRow c signature old client (ask_of a) result new kept o
  memory_row signed fine (Ok step) kept new o x none_left y z dead quiet = λ p side ch are.
      let s = identify old.kept (are.identified alive (opened client a fine)) in
      let would = signed_would p.user_signature s.id client a signed in
      subst (λ (t : AskStep). AskRow p side (end_with old (OfClient client) ch) (ask_of a) t (end_with new (OfClient kept) ch) o) (sym x)
      (spent_row p side old client ch a alive s.id s.id_is fine would.message would.new would.sends (request_encoded p.user_signature s.id client would.new (ask_of a) would.message fine would.sends) kept new o none_left dead quiet)
  memory_row signed fine (Err f) kept new o x none_left y room dead quiet = λ p side ch are.
      let s = identify old.kept (are.identified alive (opened client a fine)) in
      let would = signed_would p.user_signature s.id client a signed in
      subst (λ (t : Fault). RowOf p side (end_with old (OfClient client) ch) (ask_of a) (Err t) (end_with new (OfClient kept) ch) o) (sym y)
      (died_row p side old client ch a alive s.id s.id_is fine would.message would.new would.sends (request_encoded p.user_signature s.id client would.new (ask_of a) would.message fine would.sends) kept new room dead)
