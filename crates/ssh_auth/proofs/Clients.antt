-- What a client answers is the row of the message, and what it sends the row of the ask.
use Rattle.std.proofs.Common.{Bor, ◌≡◌, ◌≤◌, ℕ, Bool, true, List, take, length, refl, sym, subst, ◌∙◌, arith}
use Rattle.std.proofs.lemmas.List.{take_all, length-take}
use Rattle.std.specs.Prelude.{Some, None, codes}
use Rattle.ssh_model.specs.Protocol.Wire.Message.{Msg, Method.NoMethod, Method.Password, Method.Publickey, message_number}
use Rattle.ssh_model.specs.Protocol.Sessions.Refusals.{first_refusal}
use Rattle.ssh_model.specs.Protocol.Authentication.Requests.{signed_text}
use Rattle.ssh_model.specs.declared.request_kind.RequestKind.{RequestKind}
use Rattle.ssh_model.specs.declared.request_kind.RequestKind.TheVariants as kind
use Rattle.ssh_model.specs.State.Authentication.Kept.{Client, ClientSends, ClientTakes, client_checks, client_takes, request_by}
use Rattle.ssh_types.specs.Values.{names}
use Rattle.ssh_types.specs.declared.name_list.NameList.{NameList}
use Rattle.ssh_message.specs.Meaning.{meaning}
use Rattle.ssh_message.specs.declared.message.Message.{Message}
use Rattle.ssh_message.specs.declared.message.Message.TheVariants as message
use Rattle.ssh_auth.specs.Asking.{ClientAnswers, ClientAsks, IsClientRow, ask_of, short_signature}
use Rattle.ssh_auth.specs.declared.answer.ClientAnswer.{ClientAnswer}
use Rattle.ssh_auth.specs.declared.answer.ClientAnswer.TheVariants as answer
use Rattle.ssh_auth.specs.declared.ask.UserAsk.{UserAsk}
use Rattle.ssh_auth.specs.declared.ask.UserAsk.TheVariants as ask

-- ---- messages

-- A number that passed the test is taken.
pub taken : (old : Client) (m : Message) (test : Bool) (number : ℕ) → number ≡ message_number (meaning m) → test ≡ client_takes old number → test ≡ true
    → client_takes old (message_number (meaning m)) ≡ true
taken old m test number same is passed = subst (λ n. client_takes old n ≡ true) same (sym is ∙ passed)

-- an answer to a message that is known
abbrev Answers : Client → Client → Message → ClientAnswer → Type 0
Answers old new m given = client_takes old (message_number (meaning m)) ≡ true → ClientAnswers old (meaning m) given new

answers : (old new become : Client) (m k : Message) (given : ClientAnswer) → m ≡ k → new ≡ become → IsClientRow old (meaning k) given become → Answers old new m given
answers old new become m k given is so row =
    subst (λ n. Answers old n m given) (sym so) (subst (λ l. Answers old become l given) (sym is) (λ takes. record { unrefused = takes; row = row }))

pub failure_row : (old new : Client) (m : Message) (methods : NameList) (partial : Bool) → m ≡ message.UserauthFailure methods partial
    → new ≡ record old { outstanding = None } → Answers old new m answer.Failed
failure_row old new m methods partial is so = answers old new _ m _ _ is so (record { kind = refl; row = ClientTakes.failure (names methods) partial })

pub success_row : (old new : Client) (m : Message) (request : RequestKind) → old.outstanding ≡ Some request → m ≡ message.UserauthSuccess
    → new ≡ record old { outstanding = None; authenticated = true } → Answers old new m (answer.Authenticated request)
success_row old new m request waits is so = answers old new _ m _ _ is so (record { kind = refl; row = ClientTakes.success request waits })

pub banner_row : (old : Client) (m : Message) (text language : Bor (List ℕ)) → m ≡ message.UserauthBanner text language → Answers old old m answer.Banner
banner_row old m text language is = answers old old _ m _ _ is refl (record { kind = refl; row = ClientTakes.banner text.now language.now })

pub key_row : (old new : Client) (m : Message) (algorithm key : Bor (List ℕ)) → m ≡ message.UserauthPkOk algorithm key
    → new ≡ record old { outstanding = None } → Answers old new m answer.KeyOk
key_row old new m algorithm key is so = answers old new _ m _ _ is so (record { kind = refl; row = ClientTakes.key_ok algorithm.now key.now })

-- ---- asks

abbrev Signs : Type 0
Signs = (user algorithm key text : List ℕ) → List ℕ

-- the request of an ask that is known
asks : (signature : Signs) (session : List ℕ) (old new become : Client) (a k : UserAsk) (request sent : Msg) → a ≡ k → new ≡ become → request ≡ sent
    → ClientSends (short_signature signature) session old (ask_of k) sent become → first_refusal (client_checks old (ask_of a)) ≡ None
    → ClientAsks signature session old (ask_of a) request new
asks signature session old new become a k request sent is so same row fine =
    subst (λ n. ClientAsks signature session old (ask_of a) request n) (sym so)
    (subst (λ r. ClientAsks signature session old (ask_of a) r become) (sym same)
    (record { unrefused = fine; row = subst (λ l. ClientSends (short_signature signature) session old (ask_of l) sent become) (sym is) row }))

pub none_row : (signature : Signs) (session : List ℕ) (old new : Client) (a : UserAsk) (user : Bor (List ℕ)) (request : Msg) → a ≡ ask.None user
    → new ≡ record old { outstanding = Some kind.Nothing } → request ≡ request_by user.now NoMethod → first_refusal (client_checks old (ask_of a)) ≡ None
    → ClientAsks signature session old (ask_of a) request new
none_row signature session old new a user request is so same = asks signature session old new _ a _ request _ is so same (ClientSends.none user.now)

pub password_row : (signature : Signs) (session : List ℕ) (old new : Client) (a : UserAsk) (user password : Bor (List ℕ)) (request : Msg) → a ≡ ask.Password user password
    → new ≡ record old { outstanding = Some kind.Password } → request ≡ request_by user.now (Password password.now None) → first_refusal (client_checks old (ask_of a)) ≡ None
    → ClientAsks signature session old (ask_of a) request new
password_row signature session old new a user password request is so same = asks signature session old new _ a _ request _ is so same (ClientSends.password user.now password.now)

pub probe_row : (signature : Signs) (session : List ℕ) (old new : Client) (a : UserAsk) (user algorithm key : Bor (List ℕ)) (request : Msg) → a ≡ ask.Probe user algorithm key
    → new ≡ record old { outstanding = Some kind.Probe } → request ≡ request_by user.now (Publickey algorithm.now key.now None) → first_refusal (client_checks old (ask_of a)) ≡ None
    → ClientAsks signature session old (ask_of a) request new
probe_row signature session old new a user algorithm key request is so same = asks signature session old new _ a _ request _ is so same (ClientSends.probe user.now algorithm.now key.now)

pub sign_row : (signature : Signs) (session : List ℕ) (old new : Client) (a : UserAsk) (user algorithm key : Bor (List ℕ)) (request : Msg) → a ≡ ask.Sign user algorithm key
    → new ≡ record old { outstanding = Some kind.Signature }
    → request ≡ request_by user.now (Publickey algorithm.now key.now (Some (short_signature signature user.now algorithm.now key.now (signed_text session user.now (codes "ssh-connection") algorithm.now key.now))))
    → first_refusal (client_checks old (ask_of a)) ≡ None → ClientAsks signature session old (ask_of a) request new
sign_row signature session old new a user algorithm key request is so same = asks signature session old new _ a _ request _ is so same (ClientSends.sign user.now algorithm.now key.now)

-- a signature of the first bytes of an array
pub short : (n : ℕ) (out signature : List ℕ) → take n out ≡ signature → n ≤ 4096 → take n out ≡ take 4096 signature
short n out signature same small = same ∙ sym (take_all 4096 signature (subst (λ s. length s ≤ 4096) same (few n out small)))
  where
    few : (n : ℕ) (out : List ℕ) → n ≤ 4096 → length (take n out) ≤ 4096
    few n out small = grind (arith, length-take n out)
