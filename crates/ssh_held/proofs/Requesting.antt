-- A message that is a request for authentication.
use Rattle.std.proofs.Common.{◌≡◌, Bool, false, true, ℕ, List, codes, cond, Option, None, Some, IfOk, IfSome, IsSome, IsSomeAnd, Result, Ok, Err, option_map, ap, sym, subst, ◌∙◌}
use Rattle.ssh_model.specs.Protocol.Authentication.Requests.{signed_text}
use Rattle.ssh_model.specs.Protocol.Wire.Message.{IsPayload, Method, Method.Publickey, Msg, Msg.UserauthRequest}
use Rattle.ssh_message.specs.Meaning.{method_meaning}
use Rattle.ssh_held.specs.Asking.{UserRequest, request_of, value_of}
use Rattle.std.proofs.lemmas.Bool.{false≢true}
use Rattle.ssh_held.specs.Book.{asks, awaits_signature, is_about, is_about_signature, is_next, is_on_signature, is_over, is_said}
use Rattle.ssh_held.specs.Held.{AsksNext}
use Rattle.ssh_held.specs.declared.asking.Request.{Request}
use Rattle.ssh_held.specs.declared.book.Asked.{Asked}
use Rattle.ssh_held.specs.declared.book.Verdict.{Verdict}
use Rattle.ssh_held.proofs.Finding.{both_of}

-- the message of a request
abbrev message_of : UserRequest → Msg
message_of request = UserauthRequest request.user request.service request.method

message_is : (m : Msg) (request : UserRequest) → Some request ≡ request_of m → m ≡ message_of request
message_is (UserauthRequest user service method) request e = ap (λ (o : Option UserRequest). from o) (sym e)
  where
    from : Option UserRequest → Msg
    from None = UserauthRequest user service method
    from (Some request) = message_of request
message_is m request e = absurd (cc e)

pub found_in : (payload : List ℕ) (m : Msg) → IsPayload false m payload → (result : Option Request) →
    option_map value_of result ≡ request_of m →
    IfSome result (λ request. IsPayload false (UserauthRequest request.user.now request.service.now (method_meaning request.method)) payload)
found_in payload m is None e = tt
found_in payload m is (Some request) e = subst (λ (n : Msg). IsPayload false n payload) (message_is m (value_of request) e) is

some_is : (result : Option Request) (request : UserRequest) → option_map value_of result ≡ Some request →
    IsSomeAnd result (λ r. value_of r ≡ request)
some_is None request e = absurd (cc e)
some_is (Some r) request e = cc

pub only_in : (payload : List ℕ) (m : Msg) (user service : List ℕ) (method : Method) → m ≡ UserauthRequest user service method →
    (result : Option Request) → option_map value_of result ≡ request_of m →
    IsSomeAnd result (λ request. value_of request ≡ record { user = user; service = service; method = method })
only_in payload m user service method is result e =
    some_is result (record { user = user; service = service; method = method }) (e ∙ ap (λ (n : Msg). request_of n) is)

-- ---- what it asks

-- A request that asks nothing is none that asks.
pub unasked : (request : Request) (user service : List ℕ) (method : Method) →
    value_of request ≡ record { user = user; service = service; method = method } →
    false ≡ asks request.service.now (method_meaning request.method) → asks service method ≡ true → ⊥
unasked request user service method is none e = false≢true (none ∙ ap (λ (r : UserRequest). asks r.service r.method) is ∙ e)

-- What was said on a request was said on it by its texts.
pub was_said : (knows : List ℕ → Bool) (book : List Verdict) (request : Request) (user service : List ℕ) (method : Method) →
    value_of request ≡ record { user = user; service = service; method = method } →
    is_said knows book request.user.now (method_meaning request.method) ≡ true → is_said knows book user method ≡ true
was_said knows book request user service method is e = ap (λ (r : UserRequest). is_said knows book r.user r.method) (sym is) ∙ e

-- Where a request awaits its signature, the question on that is next.
pub signature_next : {E : Type 0} (knows : List ℕ → Bool) (book : List Verdict) (session user service : List ℕ) (method : Method)
    (algorithm key signature : List ℕ) → method ≡ Publickey algorithm key (Some signature) → awaits_signature knows book user method ≡ true →
    (result : Result Asked E) → IfOk result (λ asked. is_on_signature algorithm key signature asked ≡ true) →
    IfOk result (λ asked. is_over (signed_text session user (codes "ssh-connection") algorithm key) asked ≡ true) →
    IfOk result (λ asked. asks service method ≡ true → is_next knows book session user method asked ≡ true)
signature_next knows book session user service method algorithm key signature is awaits (Ok asked) on over = λ e.
    ap (λ (b : Bool). cond b (is_about_signature session user method asked) (is_about user method asked)) awaits
    ∙ ap (λ (m : Method). is_about_signature session user m asked) is
    ∙ both_of (is_on_signature algorithm key signature asked) (is_over (signed_text session user (codes "ssh-connection") algorithm key) asked)
    on over
signature_next knows book session user service method algorithm key signature is awaits (Err why) on over = tt

-- the request that a message is asks this next
abbrev IsNextIn : (knows : List ℕ → Bool) → List Verdict → (session : List ℕ) → Asked → Msg → Type 0
IsNextIn knows book session asked (UserauthRequest user service method) =
    asks service method ≡ true → is_next knows book session user method asked ≡ true
IsNextIn knows book session asked _ = Unit {0}

-- The next question of a request is that of the payload that it was read from.
pub asks_next : ((probing : Bool) (m n : Msg) (payload : List ℕ) → IsPayload probing m payload → IsPayload probing n payload → m ≡ n) →
    (knows : List ℕ → Bool) (book : List Verdict) (session payload user service : List ℕ) (method : Method) (asked : Asked) →
    IsPayload false (UserauthRequest user service method) payload →
    (asks service method ≡ true → is_next knows book session user method asked ≡ true) → AsksNext knows book session payload asked
asks_next one knows book session payload user service method asked is next u s m x e =
    let same = one false (UserauthRequest u s m) (UserauthRequest user service method) payload x is in
    subst (λ (n : Msg). IsNextIn knows book session asked n) (sym same) next e

-- A request is found in the payload that is one.
pub some_found : (result : Option Request) (user service : List ℕ) (method : Method) →
    IsSomeAnd result (λ request. value_of request ≡ record { user = user; service = service; method = method }) → IsSome result
some_found (Some request) user service how e = cc
some_found None user service how e = absurd e
