-- What a program said on users, and the judge that this makes.
use Rattle.std.specs.Prelude.{◌≡◌, ◌&&◌, ℕ, Bool, true, false, List, [], ◌∷◌, Option, Some, None, codes, cond, find, is_some, length, nat_le, not, option_map, unwrap_or}
use Rattle.ssh_model.specs.Protocol.Authentication.Requests.{Judge, is_for_connection, signed_text}
use Rattle.ssh_model.specs.Protocol.Bounds.{longest_algorithm_name, longest_user_key}
use Rattle.ssh_model.specs.Protocol.KeyExchange.Exchanges.{exchanges, session_id}
use Rattle.ssh_model.specs.Protocol.Sessions.AnyPeer.{AcceptedRequest}
use Rattle.ssh_model.specs.Protocol.Sessions.Items.{Credential, Item, Item.Took, credential}
use Rattle.ssh_model.specs.Protocol.Sessions.Parties.{Parties}
use Rattle.ssh_model.specs.Protocol.Wire.DataTypes.{is_text}
use Rattle.ssh_model.specs.Protocol.Wire.Message.{Msg.UserauthRequest, Method, Method.NoMethod, Method.Password, Method.Publickey}
use Rattle.ssh_model.specs.declared.side.Side.TheVariants.{Server}
use Rattle.ssh_held.specs.declared.book.Asked.{Asked}
use Rattle.ssh_held.specs.declared.book.Asked.TheVariants as asked
use Rattle.ssh_held.specs.declared.book.Verdict.{Verdict}

-- ---- questions

-- whether the user is admitted without a credential
abbrev pub is_admission : (user : List ℕ) → Asked → Bool
is_admission user (asked.Admission name) = is_text name.items user
is_admission user _ = false

-- whether this is the password of the user
abbrev pub is_word : (user word : List ℕ) → Asked → Bool
is_word user word (asked.Password name given) = is_text name.items user && is_text given.items word
is_word user word _ = false

-- whether this is a key of the user
abbrev pub is_key : (user algorithm key : List ℕ) → Asked → Bool
is_key user algorithm key (asked.Key name method given) = is_text name.items user && is_text method.items algorithm && is_text given.items key
is_key user algorithm key _ = false

-- whether this signature by this key is right, whatever text is asked about
abbrev pub is_on_signature : (algorithm key signature : List ℕ) → Asked → Bool
is_on_signature algorithm key signature (asked.Signature method given text shown) =
    is_text method.items algorithm && is_text given.items key && is_text shown.items signature
is_on_signature algorithm key signature _ = false

-- whether a signature is right for this text
abbrev pub is_over : (text : List ℕ) → Asked → Bool
is_over text (asked.Signature method given over shown) = is_text over.items text
is_over text _ = false

-- This is the first question of a request of this user with this method. That of a key is the same, whatever is signed with the key.
abbrev pub is_about : (user : List ℕ) → Method → Asked → Bool
is_about user NoMethod question = is_admission user question
is_about user (Password word None) question = is_word user word question
is_about user (Publickey algorithm key signature) question = is_key user algorithm key question
is_about user _ question = false

-- This is the question on the signature in such a request, over the text that is signed in the session of this id.
abbrev pub is_about_signature : (session user : List ℕ) → Method → Asked → Bool
is_about_signature session user (Publickey algorithm key (Some signature)) question =
    is_on_signature algorithm key signature question && is_over (signed_text session user (codes "ssh-connection") algorithm key) question
is_about_signature session user _ question = false

-- A request for this service with this method asks a program. One that every judge fails asks nothing.
abbrev pub asks : (service : List ℕ) → Method → Bool
asks service NoMethod = is_for_connection service
asks service (Password word None) = is_for_connection service
asks service (Publickey algorithm key signature) =
    is_for_connection service && nat_le (length key) longest_user_key && nat_le (length algorithm) longest_algorithm_name
asks service _ = false

-- ---- verdicts

-- What the program said on the first question of a request, if it said something. The first verdict on a question counts.
abbrev pub said : List Verdict → (user : List ℕ) → Method → Option Bool
said verdicts user method = option_map (λ verdict. verdict.accepts) (find (λ verdict. is_about user method verdict.asked) verdicts)

-- It said yes. What was not said is no.
abbrev pub is_granted : List Verdict → (user : List ℕ) → Method → Bool
is_granted verdicts user method = unwrap_or (said verdicts user method) false

-- the first verdict on this signature by this key, whatever text it is over
abbrev pub verdict_on : List Verdict → (algorithm key signature : List ℕ) → Option Verdict
verdict_on verdicts algorithm key signature = find (λ verdict. is_on_signature algorithm key signature verdict.asked) verdicts

-- That is a yes, and over this text. So the same signature for another text is wrong.
abbrev pub is_signed : List Verdict → (algorithm key text signature : List ℕ) → Bool
is_signed verdicts algorithm key text signature =
    unwrap_or (option_map (λ verdict. verdict.accepts && is_over text verdict.asked) (verdict_on verdicts algorithm key signature)) false

-- A judge of signatures besides the program: the algorithms that it knows, and which of their signatures are right.
pub record Signatures : Type 0 where
  pub knows : (algorithm : List ℕ) → Bool
  pub is_right : (algorithm key text signature : List ℕ) → Bool

-- The signature is right: by the other judge if that knows the algorithm, and else by what the program said.
abbrev pub is_right_by : Signatures → List Verdict → (algorithm key text signature : List ℕ) → Bool
is_right_by signatures verdicts algorithm key text signature = cond (signatures.knows algorithm)
    (signatures.is_right algorithm key text signature) (is_signed verdicts algorithm key text signature)

-- the judge that says what was said
abbrev pub judge_by : Signatures → List Verdict → Judge
judge_by signatures verdicts = record {
  admits = λ user. is_granted verdicts user NoMethod;
  password_is_right = λ user word. is_granted verdicts user (Password word None);
  knows_key = λ user algorithm key. is_granted verdicts user (Publickey algorithm key None);
  signature_is_right = is_right_by signatures verdicts;
}

-- ---- which question is next

-- The signature of a request is what is missing: the program said yes to the key, the other judge does not know the algorithm, and nothing
-- was said on the signature.
abbrev pub awaits_signature : (knows : List ℕ → Bool) → List Verdict → (user : List ℕ) → Method → Bool
awaits_signature knows verdicts user (Publickey algorithm key (Some signature)) =
    is_granted verdicts user (Publickey algorithm key None) && not (knows algorithm)
    && not (is_some (verdict_on verdicts algorithm key signature))
awaits_signature knows verdicts user _ = false

-- This is the question that a request asks next: that on its signature if only this is missing, and else its first one.
abbrev pub is_next : (knows : List ℕ → Bool) → List Verdict → (session user : List ℕ) → Method → Asked → Bool
is_next knows verdicts session user method question =
    cond (awaits_signature knows verdicts user method) (is_about_signature session user method question) (is_about user method question)

-- The program has said something on a request, and its signature is not missing.
abbrev pub is_said : (knows : List ℕ → Bool) → List Verdict → (user : List ℕ) → Method → Bool
is_said knows verdicts user method = is_some (said verdicts user method) && not (awaits_signature knows verdicts user method)

-- ---- histories

-- Each request among these items that asks a program is settled by this.
abbrev pub AllSettled : (settled : List ℕ → Method → Bool) → List Item → Type 0
AllSettled settled [] = Unit {0}
AllSettled settled (Took channel (UserauthRequest user service method) payload ∷ items) =
    (asks service method ≡ true → settled user method ≡ true) × AllSettled settled items
AllSettled settled (_ ∷ items) = AllSettled settled items

-- The program had said all that is asked by the requests among these items.
abbrev pub AllDecided : (knows : List ℕ → Bool) → List Verdict → List Item → Type 0
AllDecided knows verdicts items = AllSettled (is_said knows verdicts) items

-- If the other judge does not know the algorithm, the program had said yes to the very signature of a request, over the text that is signed
-- in the session of this id.
abbrev pub IsSignedByVerdict : (knows : List ℕ → Bool) → List Verdict → (session user : List ℕ) → Method → Type 0
IsSignedByVerdict knows verdicts session user (Publickey algorithm key (Some signature)) =
    knows algorithm ≡ false →
    is_signed verdicts algorithm key (signed_text session user (codes "ssh-connection") algorithm key) signature ≡ true
IsSignedByVerdict knows verdicts session user _ = Unit {0}

-- The server accepted a request of this user, with this credential, and the program had said yes to this very request, and to its
-- signature.
pub record LetInByVerdict {K : Type 0} (p : Parties K) (h : List Item) (knows : List ℕ → Bool) (verdicts : List Verdict) (user : List ℕ)
    (by : Credential) : Type 0 where
  pub request : AcceptedRequest p h
  pub user_is : request.user ≡ user
  pub credential_is : credential request.method ≡ by
  pub granted : said verdicts user request.method ≡ Some true
  pub signed : IsSignedByVerdict knows verdicts (session_id (exchanges p Server request.before)) user request.method
