-- Whom a server lets in, and which requests it asks its program about.
use Rattle.std.specs.Prelude.{◌≡◌, ◌&&◌, ◌||◌, ℕ, Bool, false, List, [], ◌∷◌, None, Some, is_some, not, true, unwrap_or}
use Rattle.std.specs.List.{list_any}
use Rattle.ciphers.specs.Ed25519.Order.{is_small_order}
use Rattle.ssh_model.specs.Protocol.Authentication.Requests.{Judge}
use Rattle.ssh_model.specs.Protocol.KeyExchange.Exchanges.{exchanges, session_id}
use Rattle.ssh_model.specs.Protocol.Sessions.AnyPeer.{AcceptedRequest}
use Rattle.ssh_model.specs.Protocol.Sessions.Items.{Credential, Item, credential, has_died}
use Rattle.ssh_model.specs.Protocol.Sessions.Parties.{Parties}
use Rattle.ssh_model.specs.Protocol.Sessions.Phases.{authenticated}
use Rattle.ssh_model.specs.Protocol.Wire.DataTypes.{is_text}
use Rattle.ssh_model.specs.Protocol.Wire.Message.{Method, Method.NoMethod, Method.Password, Method.Publickey}
use Rattle.ssh_model.specs.declared.side.Side.TheVariants.{Server}
use Rattle.ssh_held.specs.Book.{AllSettled, IsSignedByVerdict, Signatures, awaits_signature, is_right_by, said}
use Rattle.ssh_held.specs.declared.book.Verdict.{Verdict}
use Rattle.divrelca.specs.Parts.Ed25519.{by_signature, is_name, judge_of}
use Rattle.divrelca.specs.Users.{is_hash}
use Rattle.divrelca.specs.declared.users.PasswordHash.{PasswordHash}
use Rattle.sha2.specs.Sha256.{sha256}
use Rattle.divrelca_c.specs.declared.embedded.users.Login.{Login}
use Rattle.divrelca_c.specs.declared.embedded.users.Login.TheVariants as login
use Rattle.divrelca_c.specs.declared.embedded.users.User.{User}
use Rattle.divrelca_c.specs.declared.embedded.users.Users.{Users}

-- an entry as it was handed in: its name, and what lets in
abbrev pub entry_of : User → List ℕ × Login
entry_of user = (user.name.items, user.login)

-- The key is a point of small order, under which anyone can sign.
abbrev pub is_weak : Login → Bool
is_weak (login.Key public) = is_small_order public
is_weak (login.Password hash) = false

-- by what an entry of this name lets in: this is the hash of its password, and the user is of that name
abbrev pub is_word : (name : List ℕ) → (user : List ℕ) → (word : PasswordHash) → Login → Bool
is_word name user word (login.Password hash) = is_hash name (Some hash) user word
is_word name user word (login.Key public) = false

-- This is the hash of the password of this entry, which is the user's.
abbrev pub has_hash : (user : List ℕ) → (word : PasswordHash) → User → Bool
has_hash user word entry = is_word entry.name.items user word entry.login

-- The word is the password of this entry, which is the user's.
abbrev pub has_password : (user word : List ℕ) → User → Bool
has_password user word entry = has_hash user (record { bytes = sha256 word }) entry

-- by what an entry of this name lets in: the key is its key, and the user is of that name
abbrev pub is_key : (name : List ℕ) → (user algorithm key : List ℕ) → Login → Bool
is_key name user algorithm key (login.Key public) =
    (judge_of (record { user = record { ref_ptr = (0, 0); now = name }; public = public } ∷ [])).knows_key user algorithm key
is_key name user algorithm key (login.Password hash) = false

-- The key is that of this entry, which is the user's.
abbrev pub has_key : (user algorithm key : List ℕ) → User → Bool
has_key user algorithm key entry = is_key entry.name.items user algorithm key entry.login

-- An entry lets in, where a request of this user with this method is made. Nobody comes in by no method.
abbrev pub lets_in : List User → (user : List ℕ) → Method → Bool
lets_in list user (Password word None) = list_any (has_password user word) list
lets_in list user (Publickey algorithm key signature) = list_any (has_key user algorithm key) list
lets_in list user _ = false

-- What the program said on the request counts. Where it said nothing, an entry lets in.
abbrev pub is_let_in : (book : List Verdict) → List User → (user : List ℕ) → Method → Bool
is_let_in book list user method = unwrap_or (said book user method) (lets_in list user method)

-- the judge of signatures that the library has itself: of ssh-ed25519 alone
abbrev pub own_signatures : Signatures
own_signatures = record { knows = is_name; is_right = by_signature.signature_is_right }

-- The verdicts on all. A signature of ssh-ed25519 is judged by its key alone, and all others are by what the program said.
abbrev pub verdicts_for : (book : List Verdict) → List User → Judge
verdicts_for book list = record {
  admits = λ user. is_let_in book list user NoMethod;
  password_is_right = λ user word. is_let_in book list user (Password word None);
  knows_key = λ user algorithm key. is_let_in book list user (Publickey algorithm key None);
  signature_is_right = is_right_by own_signatures book;
}

-- those of the users of a server
abbrev pub verdicts_of : Users → Judge
verdicts_of users = verdicts_for users.book.list.items users.list.items

-- ---- what a program is asked

-- The user has an entry.
abbrev pub has_entry : List User → (user : List ℕ) → Bool
has_entry list user = list_any (λ entry. is_text entry.name.items user) list

-- A request of the user with this method is no question to the program: it said something on it, or the user has an entry; and its signature
-- is not what is missing. It can be, of a user with an entry, if the program said yes to the key before that was set.
abbrev pub is_settled : (book : List Verdict) → List User → (user : List ℕ) → Method → Bool
is_settled book list user method =
    (is_some (said book user method) || has_entry list user) && not (awaits_signature is_name book user method)

-- Each request in the history that asks a program is settled, as long as a request can let somebody in.
abbrev pub AreSettled : Users → List Item → Type 0
AreSettled users history = has_died history ≡ false → authenticated Server history ≡ false →
    AllSettled (is_settled users.book.list.items users.list.items) history

-- The server accepted a request of this user, with this credential. The program had said yes to this very request, or it had said nothing on
-- it, and an entry lets in. If the signature is of another algorithm than ssh-ed25519, the program had said yes to it, too.
pub record LetInByProgram {K : Type 0} (p : Parties K) (h : List Item) (users : Users) (user : List ℕ) (by : Credential) : Type 0 where
  pub request : AcceptedRequest p h
  pub user_is : request.user ≡ user
  pub credential_is : credential request.method ≡ by
  pub let_in : is_let_in users.book.list.items users.list.items user request.method ≡ true
  pub signed : IsSignedByVerdict is_name users.book.list.items (session_id (exchanges p Server request.before)) user request.method
