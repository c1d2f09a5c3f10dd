-- The items of a session, as a transcript shows them.
use Rattle.std.specs.Prelude.{◌≡◌, ℕ, List, [], ◌∷◌, ◌++◌}
use Rattle.ssh_model.specs.Protocol.Side.{DoneBy.By}
use Rattle.ssh_model.specs.Protocol.Sessions.Items as session
use Rattle.ssh_model.specs.Protocol.Sessions.Items.{Item.Fed}
use Rattle.ssh_end_machine.specs.Kinds.{kind_of, shown_fact}
use Rattle.ssh_end.specs.declared.item.Done.{Done}
use Rattle.ssh_end.specs.declared.item.Item.{Item}
use Rattle.ssh_end.specs.declared.item.Item.TheVariants as item

-- The item of a session is shown as this one.
abbrev pub IsItem : Item → session.Item → Type 0
IsItem (item.Asked asked) (session.Item.Asked ask) = asked ≡ kind_of ask
IsItem (item.AskRefused why) (session.Item.AskRefused refusal) = why ≡ refusal
IsItem (item.SentLine text) (session.Item.SentLine line) = text.items ≡ line
IsItem (item.TookLine text) (session.Item.TookLine line) = text.items ≡ line
IsItem (item.TookLine text) (session.Item.TookOtherLine line) = text.items ≡ line
IsItem (item.Sent number text) (session.Item.Sent channel message payload) =
    (number ≡ channel) × (text.items ≡ payload)
IsItem (item.Took number text) (session.Item.Took channel message payload) =
    (number ≡ channel) × (text.items ≡ payload)
IsItem (item.Skipped text) (session.Item.TookGuess payload) = text.items ≡ payload
IsItem (item.Told shown) (session.Item.Told told) = shown ≡ shown_fact told
IsItem (item.Refused why) (session.Item.Refused refusal opened) = why ≡ refusal
IsItem item.Died session.Item.Died = Unit {0}
IsItem _ _ = ⊥

-- The items, the newest first, are recorded in this list, the oldest first. The pairs that an end is fed are not recorded.
pub data Records : List Done → List session.Done → Type 0 where
  nothing : Records [] []
  records : {recorded : List Done} {run : List session.Done} (done : Done) (what : session.Item) → IsItem done.item what →
      Records recorded run → Records (recorded ++ done ∷ []) (By done.side what ∷ run)
  fed : {recorded : List Done} {run : List session.Done} (side : _) (cookie secret : List ℕ) → Records recorded run →
      Records recorded (By side (Fed cookie secret) ∷ run)
