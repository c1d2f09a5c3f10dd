-- What a server does that is given the keys and passwords of one user.
use Rattle.std.specs.Prelude.{◌≡◌, ◌++◌, ◌||◌, ℕ, ℤ, List, [], All, None, false, map, negsuc, pos, true}
use Rattle.ssh_model.specs.Laws.Verdicts.{judged_by}
use Rattle.ssh_model.specs.Protocol.Sessions.Items.{Item}
use Rattle.ssh_model.specs.Protocol.Sessions.Parties.{Parties}
use Rattle.ssh_model.specs.Protocol.Wire.DataTypes.{is_text}
use Rattle.ssh_model.specs.State.TransportLayer.Kept.{ExchangeParts}
use Rattle.ssh_end_machine.specs.Stands.{ServerStandsAt}
use Rattle.divrelca.specs.Parts.AesGcm.{aes_gcm}
use Rattle.divrelca.specs.declared.parts.packet_key.PacketKey.{PacketKey}
use Rattle.divrelca_c.specs.Embedded.Asked.{AreNoted, is_noted}
use Rattle.divrelca_c.specs.Embedded.Users.{AreSettled, entry_of, verdicts_of}
use Rattle.divrelca_c.specs.Embedded.Ends.{Server}
use Rattle.divrelca_c.specs.Making.{IsTaken, code_at, entry_by, users_fault}
use Rattle.divrelca_c.specs.declared.bytes.DvUser.{DvUser}

-- Each entry is of this name.
abbrev pub AreOf : (name : List ℕ) → List DvUser → Type 0
AreOf name users = All (λ user. user.name.now ≡ name) users

-- Where a server stands with its users, it stands with those of another one, if all whose key or password it was asked for are noted.
abbrev pub StandsOn : (old new : Server) → Type 0
StandsOn old new = (p : Parties PacketKey) (parts : ExchangeParts) (history : List Item) →
    ServerStandsAt p aes_gcm parts (verdicts_of old.end.role.own.judge) history old.end.machine old.end.layers →
    AreNoted history old.noted →
    ServerStandsAt (judged_by (verdicts_of new.end.role.own.judge) p) aes_gcm parts
    (verdicts_of new.end.role.own.judge) history new.end.machine new.end.layers

-- Where the code is 0, the entries are all of this name and come after those of the server. The name was not noted, and is now. Where it is
-- another one, neither the users nor who is noted change. Nothing else of the server ever does. Where each entry is taken, the code is that
-- of the first fault, or -1.
pub record SetsUser (name : List ℕ) (users : List DvUser) (code : ℤ) (old new : Server) : Type 0 where
  pub set : code ≡ pos 0 →
      map entry_of new.end.role.own.judge.list.items ≡ map entry_of old.end.role.own.judge.list.items ++ map entry_by users
  pub named : code ≡ pos 0 → AreOf name users
  pub fresh : code ≡ pos 0 → is_noted name old.noted ≡ false
  pub noted : code ≡ pos 0 → is_noted name new.noted ≡ true
  pub kept : (user : List ℕ) → is_noted user old.noted ≡ true → is_noted user new.noted ≡ true
  pub noted_only : code ≡ pos 0 → new.noted.all ≡ false → (user : List ℕ) →
      is_noted user new.noted ≡ (is_noted user old.noted || is_text name user)
  pub taken : code ≡ pos 0 → All IsTaken users
  pub faulty : (users_fault users ≡ None → ⊥) → (code ≡ negsuc 0 → ⊥) → code ≡ code_at (users_fault users)
  pub over : All IsTaken users → old.end.machine.kept.dead ≡ true → (code ≡ negsuc 0 → ⊥) → code ≡ negsuc 1
  pub nameless : All IsTaken users → old.end.machine.kept.dead ≡ false → name ≡ [] → (code ≡ negsuc 0 → ⊥) → code ≡ pos 303
  pub another : All IsTaken users → old.end.machine.kept.dead ≡ false → (AreOf name users → ⊥) → (code ≡ negsuc 0 → ⊥) →
      code ≡ pos 303
  pub known : All IsTaken users → old.end.machine.kept.dead ≡ false → (name ≡ [] → ⊥) → AreOf name users →
      is_noted name old.noted ≡ true → (code ≡ negsuc 0 → ⊥) → code ≡ pos 309
  pub otherwise : All IsTaken users → old.end.machine.kept.dead ≡ false → (name ≡ [] → ⊥) → AreOf name users →
      is_noted name old.noted ≡ false → (code ≡ negsuc 0 → ⊥) → code ≡ pos 0
  pub stands : code ≡ pos 0 → StandsOn old new
  pub settled : (history : List Item) → AreSettled old.end.role.own.judge history → AreSettled new.end.role.own.judge history
  pub book : new.end.role.own.judge.book ≡ old.end.role.own.judge.book
  pub rest : new.end ≡ record old.end {
    role = record old.end.role { own = record old.end.role.own { judge = new.end.role.own.judge } };
  }
  pub unchanged : (code ≡ pos 0 → ⊥) → new.end.role.own.judge.list.items ≡ old.end.role.own.judge.list.items
  pub unnoted : (code ≡ pos 0 → ⊥) → new.noted ≡ old.noted
  pub same : new ≡ record old { end = new.end; noted = new.noted }
