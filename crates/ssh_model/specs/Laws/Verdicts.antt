-- When another judge of a server's users answers as its own does, to every question that requests put to the server.
use Rattle.std.specs.Prelude.{◌≡◌, ℕ, true, Option, Some, None, List, [], ◌∷◌}
use Rattle.ssh_model.specs.Protocol.Wire.Message.{Msg.UserauthRequest, Method, Method.NoMethod, Method.Password}
use Rattle.ssh_model.specs.Protocol.Wire.Message.{Method.Publickey}
use Rattle.ssh_model.specs.Protocol.Authentication.Requests.{Judge}
use Rattle.ssh_model.specs.Protocol.Sessions.Parties.{Parties}
use Rattle.ssh_model.specs.Protocol.Sessions.Items.{Item, Item.Took}

-- Two judges agree on a signature with this key, whatever text it is of. A probe has none.
abbrev pub AgreeOnSignature : (one other : Judge) → (algorithm key : List ℕ) → Option (List ℕ) → Type 0
AgreeOnSignature one other algorithm key None = Unit {0}
AgreeOnSignature one other algorithm key (Some signature) =
    (text : List ℕ) →
    one.signature_is_right algorithm key text signature ≡ other.signature_is_right algorithm key text signature

-- They agree on everything that a request with this method needs. If every judge fails it, nothing is needed. A signature is judged only if
-- the key is known.
abbrev pub AgreeOn : (one other : Judge) → (user : List ℕ) → Method → Type 0
AgreeOn one other user NoMethod = one.admits user ≡ other.admits user
AgreeOn one other user (Password word None) = one.password_is_right user word ≡ other.password_is_right user word
AgreeOn one other user (Publickey algorithm key signature) =
    (one.knows_key user algorithm key ≡ other.knows_key user algorithm key)
    × (one.knows_key user algorithm key ≡ true → AgreeOnSignature one other algorithm key signature)
AgreeOn one other user _ = Unit {0}

-- They agree on each request for authentication that was taken among these items.
abbrev pub AgreeOnAsked : (one other : Judge) → List Item → Type 0
AgreeOnAsked one other [] = Unit {0}
AgreeOnAsked one other (Took channel (UserauthRequest user service method) payload ∷ items) =
    AgreeOn one other user method × AgreeOnAsked one other items
AgreeOnAsked one other (_ ∷ items) = AgreeOnAsked one other items

-- the parties with this judge in place of their server's own
abbrev pub judged_by : {K : Type 0} → Judge → Parties K → Parties K
judged_by judge p = record p {
  admits = judge.admits;
  password_is_right = judge.password_is_right;
  knows_key = judge.knows_key;
  signature_is_right = judge.signature_is_right;
}
