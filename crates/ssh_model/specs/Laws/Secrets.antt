-- Histories that differ in the secrets of their ends alone, and agreements that make the same of them.
use Rattle.std.specs.Prelude.{◌≡◌, ℕ, List, [], ◌∷◌, length}
use Rattle.ssh_model.specs.Protocol.Wire.DataTypes.{AreBytes}
use Rattle.ssh_model.specs.Protocol.Sessions.Items.{Item, Item.Fed}
use Rattle.ssh_model.specs.Protocol.Sessions.Parties.{Agreement, Parties}

-- the history with another secret in the place of each that was fed
abbrev pub with_secrets : (other : List ℕ → List ℕ) → List Item → List Item
with_secrets other [] = []
with_secrets other (Fed cookie secret ∷ h) = Fed cookie (other secret) ∷ with_secrets other h
with_secrets other (item ∷ h) = item ∷ with_secrets other h

-- the parties with these agreements in place of their own
abbrev pub agreeing_by : {K : Type 0} → (client server : Agreement) → Parties K → Parties K
agreeing_by client server p = record p { client_agreement = client; server_agreement = server }

-- an agreement that goes back from another secret to the secret before it does anything
abbrev pub behind : (back : List ℕ → List ℕ) → Agreement → Agreement
behind back agreement = record {
  point = λ secret. agreement.point (back secret);
  shared = λ secret theirs. agreement.shared (back secret) theirs;
}

-- A second agreement makes of the other secrets what the first one makes of the secrets: the same points, and the same results.
pub record MakesTheSame (other : List ℕ → List ℕ) (first second : Agreement) : Type 0 where
  pub point : (secret : List ℕ) → second.point (other secret) ≡ first.point secret
  pub shared : (secret theirs : List ℕ) → second.shared (other secret) theirs ≡ first.shared secret theirs

-- The other secret of each secret is one too, of 32 bytes. Where no secret was fed, there is no other one.
pub record AreSecrets (other : List ℕ → List ℕ) : Type 0 where
  pub none : other [] ≡ []
  pub bytes : (secret : List ℕ) → AreBytes secret → AreBytes (other secret)
  pub size : (secret : List ℕ) → length (other secret) ≡ length secret

-- Both ends' agreements make of the other secrets what those of the parties make of the secrets.
pub record AreExchanged {K : Type 0} (p : Parties K) (other : List ℕ → List ℕ) (client server : Agreement) : Type 0 where
  pub secrets : AreSecrets other
  pub client_same : MakesTheSame other p.client_agreement client
  pub server_same : MakesTheSame other p.server_agreement server
