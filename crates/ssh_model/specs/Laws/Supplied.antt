-- When other parts that a program supplies answer as an end's own do, to every question that the end put to them.
use Rattle.std.specs.Prelude.{◌≡◌, ◌&&◌, ℕ, Bool, false, true, nat_le, None, Some, List, [], ◌∷◌, codes, length, take}
use Rattle.ssh_model.specs.Protocol.Bounds.{longest_algorithm_name, longest_user_key}
use Rattle.ssh_model.specs.declared.side.Side.TheVariants.{Client, Server}
use Rattle.ssh_model.specs.Protocol.Wire.Message.{Msg, Msg.KexEcdhInit, Msg.KexEcdhReply, Msg.UserauthRequest}
use Rattle.ssh_model.specs.Protocol.Wire.Message.{Method, Method.NoMethod, Method.Password, Method.Publickey}
use Rattle.ssh_model.specs.Protocol.Authentication.Requests.{Judge, is_configured, is_for_connection, judge_of, signed_text}
use Rattle.ssh_model.specs.Protocol.Authentication.Rows.{user_signature_now}
use Rattle.ssh_model.specs.Protocol.KeyExchange.Exchanges.{choice, exchanges, session_id}
use Rattle.ssh_model.specs.Protocol.Sessions.Epochs.{epoch}
use Rattle.ssh_model.specs.Protocol.Sessions.Items.{Ask, Ask.AskSign, Item, Item.Asked, Item.Sent, Item.Took, Item.TookGuess, sent}
use Rattle.ssh_model.specs.Protocol.Sessions.Parties.{Parties}
use Rattle.ssh_model.specs.Protocol.Sessions.Transport.{hash_to_sign, is_trusted}
use Rattle.ssh_model.specs.Laws.Verdicts.{AgreeOn}

-- The parts whose answers a program may find out while a session runs: the verdicts on users, which host keys are trusted, the
-- signatures of a client's user, and those by a server's host keys.
pub record Supplied : Type 0 where
  pub judge : Judge
  pub trusts : List ℕ → List ℕ → List ℕ → List ℕ → Bool
  pub user_signature : List ℕ → List ℕ → List ℕ → List ℕ → List ℕ
  pub host_signature : List ℕ → List ℕ → List ℕ

-- those of parties
abbrev pub supplied_of : {K : Type 0} → Parties K → Supplied
supplied_of p = record {
  judge = judge_of p;
  trusts = p.trusts;
  user_signature = p.user_signature;
  host_signature = p.host_signature;
}

-- the parties with these in place of their own
abbrev pub supplied_by : {K : Type 0} → Supplied → Parties K → Parties K
supplied_by given p = record p {
  admits = given.judge.admits;
  password_is_right = given.judge.password_is_right;
  knows_key = given.judge.knows_key;
  signature_is_right = given.judge.signature_is_right;
  trusts = given.trusts;
  user_signature = given.user_signature;
  host_signature = given.host_signature;
}

-- A server's judge is asked about requests with this method for this service: for ssh-connection, without a credential or by a method that
-- the server names, and with no key or algorithm name that is too long.
abbrev pub is_judged : (methods : List (List ℕ)) → (service : List ℕ) → Method → Bool
is_judged methods service NoMethod = is_for_connection service
is_judged methods service (Password word None) = is_for_connection service && is_configured methods (codes "password")
is_judged methods service (Publickey algorithm key signature) =
    is_for_connection service && is_configured methods (codes "publickey") && nat_le (length key) longest_user_key
    && nat_le (length algorithm) longest_algorithm_name
is_judged methods service _ = false

-- They agree on what a message asks that is taken after this history: a request for authentication may ask for a verdict, a server's reply
-- whether its host key is trusted, and a client's point for a signature of the hash.
abbrev pub AgreeOnTaken : {K : Type 0} → Parties K → Supplied → List Item → Msg → Type 0
AgreeOnTaken p given h (UserauthRequest user service method) =
    is_judged p.server.methods service method ≡ true → AgreeOn (judge_of p) given.judge user method
AgreeOnTaken p given h (KexEcdhReply k_s q_s signature) =
    is_trusted p h k_s q_s signature ≡ is_trusted (supplied_by given p) h k_s q_s signature
AgreeOnTaken p given h (KexEcdhInit q_c) =
    take 4096 (p.host_signature (choice Server (epoch (sent h)) h).host (hash_to_sign p h q_c))
    ≡ take 4096 (given.host_signature (choice Server (epoch (sent h)) h).host (hash_to_sign p h q_c))
AgreeOnTaken p given h m = Unit {0}

-- They agree on the signature in a message that is sent after this history.
abbrev pub AgreeOnSent : {K : Type 0} → Parties K → Supplied → List Item → Msg → Type 0
AgreeOnSent p given h (UserauthRequest user service (Publickey algorithm key (Some signature))) =
    user_signature_now p h user algorithm key ≡ user_signature_now (supplied_by given p) h user algorithm key
AgreeOnSent p given h m = Unit {0}

-- They agree on each message of a history, taken or sent.
abbrev pub AgreeOnAnswered : {K : Type 0} → Parties K → Supplied → List Item → Type 0
AgreeOnAnswered p given [] = Unit {0}
AgreeOnAnswered p given (Took channel message payload ∷ h) = AgreeOnTaken p given h message × AgreeOnAnswered p given h
AgreeOnAnswered p given (Sent channel message payload ∷ h) = AgreeOnSent p given h message × AgreeOnAnswered p given h
AgreeOnAnswered p given (i ∷ h) = AgreeOnAnswered p given h

-- ---- the judge alone

-- Two judges agree on each request that was taken among these items and about which a judge is asked.
abbrev pub AgreeOnJudged : (methods : List (List ℕ)) → (one other : Judge) → List Item → Type 0
AgreeOnJudged methods one other [] = Unit {0}
AgreeOnJudged methods one other (Took channel (UserauthRequest user service method) payload ∷ items) =
    (is_judged methods service method ≡ true → AgreeOn one other user method) × AgreeOnJudged methods one other items
AgreeOnJudged methods one other (_ ∷ items) = AgreeOnJudged methods one other items

-- ---- what is taken

-- No payload was taken among these items.
abbrev pub TakesNone : List Item → Type 0
TakesNone [] = Unit {0}
TakesNone (Took channel message taken ∷ items) = ⊥
TakesNone (TookGuess taken ∷ items) = ⊥
TakesNone (_ ∷ items) = TakesNone items

-- ---- what is signed

-- This holds of what a message says, if that is a request for authentication with a signature.
abbrev pub IfSigned : ((user service algorithm key signature : List ℕ) → Type 0) → Msg → Type 0
IfSigned P (UserauthRequest user service (Publickey algorithm key (Some signature))) = P user service algorithm key signature
IfSigned P m = Unit {0}

-- This holds of each request with a signature that was sent among these items, and of the items before it.
abbrev pub EachSigned : ((before : List Item) → (user service algorithm key signature : List ℕ) → Type 0) → List Item → Type 0
EachSigned P [] = Unit {0}
EachSigned P (Sent channel message payload ∷ before) = IfSigned (P before) message × EachSigned P before
EachSigned P (_ ∷ before) = EachSigned P before

-- No such request was sent among these items.
abbrev pub SignsNone : List Item → Type 0
SignsNone items = EachSigned (λ before user service algorithm key signature. ⊥) items

-- the text that a client signs after this history (RFC 4252 section 7)
abbrev pub text_to_sign : {K : Type 0} → Parties K → List Item → (user algorithm key : List ℕ) → List ℕ
text_to_sign p h user algorithm key = signed_text (session_id (exchanges p Client h)) user (codes "ssh-connection") algorithm key

-- A request that is sent after this history is for ssh-connection, and its signature is that of the client's signer.
pub record IsSigned {K : Type 0} (p : Parties K) (h : List Item) (user service algorithm key signature : List ℕ) : Type 0 where
  pub service_is : service ≡ codes "ssh-connection"
  pub signature_is : signature ≡ user_signature_now p h user algorithm key

-- In a turn of an end with this history it is so, and it is what this ask is for. Nothing but the ask is before it in the turn.
pub record IsSignedOn {K : Type 0} (p : Parties K) (h : List Item) (ask : Ask) (before : List Item)
    (user service algorithm key signature : List ℕ) : Type 0 where
  pub ask_is : ask ≡ AskSign user algorithm key
  pub before_is : before ≡ Asked ask ∷ []
  pub signed : IsSigned p h user service algorithm key signature

-- The text of each request with a signature that was sent is settled by this test.
abbrev pub SignsSettled : {K : Type 0} → Parties K → (settled : (user algorithm key text : List ℕ) → Bool) → List Item → Type 0
SignsSettled p settled items =
    EachSigned (λ before user service algorithm key signature. settled user algorithm key (text_to_sign p before user algorithm key) ≡ true) items
