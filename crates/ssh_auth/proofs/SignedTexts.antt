-- The text that a signature covers has few more bytes than the payload of its request.
use Rattle.std.proofs.Common.{◌≡◌, ℕ, ◌+◌, ◌≤◌, Bool, List, ◌∷◌, ◌++◌, length, Some, codes, ap, refl, ◌∙◌, length-append, arith}
use Rattle.ssh_model.specs.Protocol.Bounds.{largest_packet}
use Rattle.ssh_model.specs.Protocol.KeyExchange.Exchange.{string_of}
use Rattle.ssh_model.specs.Protocol.Authentication.Requests.{Judge, signed_text}
use Rattle.ssh_model.specs.Protocol.Wire.DataTypes.{IsBoolean, IsString}
use Rattle.ssh_model.specs.Protocol.Wire.Message.{Msg, Msg.UserauthRequest, Method.Publickey, IsPayload, IsRow}
use Rattle.ssh_types.specs.Encodings.{string_length}
use Rattle.ssh_auth.specs.Serving.{NeedsText, Server}

-- a string has four bytes in front of its text
string_size : (text bytes : List ℕ) → IsString text bytes → length bytes ≡ 4 + length text
string_size text bytes h = ap length h.parts ∙ omega (arith, length-append h.front text, h.size.count)

-- of the text that is signed
text_size : (session user service algorithm key : List ℕ) →
    length (signed_text session user service algorithm key) ≡ 35 + length session + length user + length service + length algorithm + length key
text_size session user service algorithm key =
    let to_user : List ℕ = string_of session ++ (50 ∷ string_of user) in
    let to_service : List ℕ = to_user ++ string_of service in
    let to_method : List ℕ = to_service ++ string_of (codes "publickey") in
    let to_algorithm : List ℕ = to_method ++ (1 ∷ string_of algorithm) in
    let whole : signed_text session user service algorithm key ≡ to_algorithm ++ string_of key = refl in
    omega (
      arith,
      ap length whole,
      length-append (string_of session) (50 ∷ string_of user),
      length-append to_user (string_of service),
      length-append to_service (string_of (codes "publickey")),
      length-append to_method (1 ∷ string_of algorithm),
      length-append to_algorithm (string_of key),
      string_length session,
      string_length user,
      string_length service,
      string_length (codes "publickey"),
      string_length algorithm,
      string_length key,
    )

-- of the payload of a signed request
payload_size : (user service algorithm key signature payload : List ℕ) →
    IsRow IsBoolean (UserauthRequest user service (Publickey algorithm key (Some signature))) payload →
    31 + length user + length service + length algorithm + length key ≤ length payload
payload_size user service algorithm key signature payload row =
    let to_user = row.second in
    let to_service = to_user.second in
    let method = to_service.second in
    let truth = method.second in
    let to_key = truth.second in
    let signed = to_key.second in
    let last = signed.second in
    omega (
      arith,
      ap length row.parts,
      length-append row.front row.back,
      ap length row.first,
      ap length to_user.parts,
      length-append to_user.front to_user.back,
      string_size user to_user.front to_user.first,
      ap length to_service.parts,
      length-append to_service.front to_service.back,
      string_size service to_service.front to_service.first,
      ap length method.parts,
      length-append method.front method.back,
      string_size (codes "publickey") method.front method.first,
      ap length truth.parts,
      length-append truth.front truth.back,
      ap length truth.first.1,
      ap length to_key.parts,
      length-append to_key.front to_key.back,
      string_size algorithm to_key.front to_key.first,
      ap length signed.parts,
      length-append signed.front signed.back,
      string_size key signed.front signed.first,
      ap length last.parts,
      length-append last.front last.back,
      string_size signature last.front last.first,
    )

-- No request that comes in one packet has a text for which there is no room.
pub no_long_text : (judge : Judge) (session : List ℕ) (server : Server) (probing : Bool) (message : Msg) (payload : List ℕ) → length session ≡ 32 →
    IsPayload probing message payload → length payload ≤ largest_packet → NeedsText judge session server message → ⊥
no_long_text judge session server probing (UserauthRequest user service (Publickey algorithm key (Some signature))) payload id read most x =
    absurd (omega (arith, x.due.long, text_size session user service algorithm key, payload_size user service algorithm key signature payload read.row, id, most))
no_long_text judge session server probing _ payload id read most x = absurd x
