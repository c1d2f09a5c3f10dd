-- The place of a server whose program answers in its own time, and what it wants of the program.
use Rattle.std.specs.Prelude.{◌≡◌, ℕ, Bool, false, true, List, None, replicate, unwrap_or}
use Rattle.ssh_kex.specs.Parts.{HostKeys}
use Rattle.ssh_model.specs.Laws.Verdicts.{judged_by}
use Rattle.ssh_model.specs.Protocol.Authentication.Requests.{Judge}
use Rattle.ssh_model.specs.Protocol.Sessions.Items.{Item, has_died}
use Rattle.ssh_model.specs.Protocol.Sessions.Parties.{Agreement, Parties}
use Rattle.ssh_model.specs.Protocol.Sessions.Phases.{authenticated}
use Rattle.ssh_model.specs.Protocol.Wire.Message.{IsPayload, Method, Msg.UserauthRequest}
use Rattle.ssh_model.specs.Protocol.Wire.Sealing.{Crypto}
use Rattle.ssh_model.specs.declared.side.Side.TheVariants.{Server}
use Rattle.ssh_transport_machine.specs.Peeking.{Peeks}
use Rattle.ssh_transport_machine.specs.State.{State}
use Rattle.ssh_end_machine.specs.Ends.{EndValue}
use Rattle.ssh_end_machine.specs.Parts.{ServerRole}
use Rattle.ssh_end_machine.specs.Supplying.{ServerEndAt}
use Rattle.ssh_held.specs.Book.{AllDecided, Signatures, asks, is_next, is_said, judge_by}
use Rattle.ssh_held.specs.declared.book.Asked.{Asked}
use Rattle.ssh_held.specs.declared.book.Verdict.{Verdict}
use Rattle.ssh_held.specs.declared.book.Verdicts.{Verdicts}

-- the judge of signatures that a part of a server is
abbrev pub signatures_by : {S : Type 0} → (verdicts : S → Judge) → (knows : S → List ℕ → Bool) → S → Signatures
signatures_by verdicts knows judge = record { knows = knows judge; is_right = (verdicts judge).signature_is_right }

-- the judge that a program's verdicts make
abbrev pub judge_of_book : {S : Type 0} → (signatures : S → Signatures) → Verdicts S → Judge
judge_of_book signatures book = judge_by (signatures book.signatures) book.list.items

-- the parties whose server has that judge
abbrev pub judged_by_book : {K S : Type 0} → (signatures : S → Signatures) → Verdicts S → Parties K → Parties K
judged_by_book signatures book p = judged_by (judge_of_book signatures book) p

-- ---- a place

-- The server stands after this history, as that of these parties with the judge that says what the program said. As long as a question can
-- come, the program had said all that the requests before ask.
pub record HeldAt {P S X F A H K : Type 0} (c : Crypto K) (does : A → Agreement) (keys : H → HostKeys) (signatures : S → Signatures)
    (p : Parties K) (server : EndValue K (ServerRole P (Verdicts S) X F A H K) F) (history : List Item) : Type 0 where
  pub place : ServerEndAt c does keys (judge_of_book signatures) (judged_by_book signatures server.role.own.judge p) history server
  pub decided : has_died history ≡ false → authenticated Server history ≡ false →
      AllDecided (signatures server.role.own.judge.signatures).knows server.role.own.judge.list.items history

-- ---- what is wanted

-- what is looked at of the next packet, and whether that is a request on which an answer is wanted
pub record Next : Type 0 where
  pub payload : List ℕ
  pub is_wanted : Bool

-- The payload is a request for authentication.
pub record IsRequest (payload : List ℕ) : Type 0 where
  pub user : List ℕ
  pub service : List ℕ
  pub method : Method
  pub is : IsPayload false (UserauthRequest user service method) payload

-- The user is not authenticated. These bytes, after those that the server holds, have the next packet. It is a request that asks the
-- program, which has said nothing on it, or nothing on its signature.
pub record IsWanted {K : Type 0} (c : Crypto K) (machine : State K) (knows : List ℕ → Bool) (said_so_far : List Verdict)
    (bytes payload : List ℕ) : Type 0 where
  pub peeks : Peeks c machine bytes payload
  pub request : IsRequest payload
  pub asks : asks request.service request.method ≡ true
  pub out : machine.kept.authenticated ≡ false
  pub unsaid : is_said knows said_so_far request.user request.method ≡ false

-- the session id of an end. Before its first exchange of keys, in which it takes no request, it is 32 zeros.
abbrev pub session_of : {K : Type 0} → State K → List ℕ
session_of machine = unwrap_or machine.kept.session (replicate 32 0)

-- This is the question that the request of this payload asks next, in the session of this id.
abbrev pub AsksNext : (knows : List ℕ → Bool) → (said_so_far : List Verdict) → (session payload : List ℕ) → Asked → Type 0
AsksNext knows said_so_far session payload asked =
    (user service : List ℕ) (method : Method) → IsPayload false (UserauthRequest user service method) payload →
    asks service method ≡ true → is_next knows said_so_far session user method asked ≡ true

-- A receiver that reads: the direction is the transport's, and it has refused nothing.
pub record IsReceiving {K : Type 0} (machine : State K) : Type 0 where
  pub taking : machine.kept.taking ≡ machine.receiver.direction
  pub going : machine.receiver.ended ≡ None

-- The next packet asks the program nothing but what is settled by this: no question can come any more, these bytes have no whole packet, or
-- that is no other request.
pub data IsSettled {K : Type 0} (c : Crypto K) (machine : State K) (settled : List ℕ → Method → Bool) (bytes : List ℕ) : Type 0 where
  is_in : machine.kept.authenticated ≡ true → IsSettled c machine settled bytes
  unforeseen : ((payload : List ℕ) → Peeks c machine bytes payload → ⊥) → IsSettled c machine settled bytes
  foreseen : (payload : List ℕ) → Peeks c machine bytes payload →
      ((probing : Bool) (user service : List ℕ) (method : Method) → IsPayload probing (UserauthRequest user service method) payload →
      asks service method ≡ true → settled user method ≡ true) → IsSettled c machine settled bytes

-- It asks nothing on which the program said nothing.
abbrev pub IsAnswered : {K : Type 0} → Crypto K → State K → (knows : List ℕ → Bool) → (said_so_far : List Verdict) → (bytes : List ℕ) → Type 0
IsAnswered c machine knows said_so_far bytes = IsSettled c machine (is_said knows said_so_far) bytes
