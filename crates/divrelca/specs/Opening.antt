-- New ends whose cookie and secret are drawn from a source.
use Rattle.std.specs.Prelude.{ℕ, List}
pub use Rattle.ssh_config.specs.Config.{settings_given}
pub use Rattle.ssh_config.specs.Meaning.{settings_of}
pub use Rattle.ssh_model.specs.Protocol.Sessions.Parties.{Settings}
use Rattle.ssh_model.specs.Protocol.Wire.Sealing.{Crypto}
use Rattle.ssh_model.specs.declared.side.Side.{Side}
pub use Rattle.ssh_model.specs.declared.side.Side.TheVariants.{Client, Server}
use Rattle.ssh_transport_machine.specs.Padding.{PadsTo}
use Rattle.ssh_end_machine.specs.Ends.{EndValue, IsNew, IsOf, sending_from_line, sending_to}
use Rattle.ssh_end_machine.specs.RoleValues.{RoleValue}
use Rattle.ssh_end_machine.specs.Sessions.{AreOf}
use Rattle.ssh_end_machine.specs.Stands.{MadeOf, state_of}
use Rattle.ssh_end_machine.specs.declared.role.EndRole as role
use Rattle.divrelca.specs.Supplies.{Gives, IsDrawn, SeedsPadding}
use Rattle.divrelca.specs.declared.keys.Material.{Material}
use Rattle.divrelca.specs.declared.keys.PaddingSource.{PaddingSource}

-- The end put out its version line and its first KEXINIT, with these settings, this cookie and this secret. The padding is what this
-- filler gives next. The end stands at the first place of a run.
pub record IsNewEnd {R X S F K : Type 0} (c : Crypto K) (ends : role.Ghosts R X S F K) (gives : F → List ℕ → F → Type 0)
    (side : Side) (settings : Settings) (filler : F) (before after : List ℕ) (end : EndValue K (RoleValue X R) F)
    (material : Material) : Type 0 where
  pub opened : IsNew c side settings material.cookie material.secret end.machine end.layers before after end.sent
  pub padded : PadsTo c gives (sending_from_line settings filler before) (sending_to end after)
  pub placed : MadeOf side settings (λ p. IsOf ends end.role p) (λ p. AreOf p end.layers)
      (record { cookie = material.cookie; secret = material.secret }) end.machine (state_of end) before after end.sent

-- A cookie and a secret were drawn now, one after the other, and this holds of them.
pub record IsFresh {S : Type 0} (gives : Gives S) (old : S) (Holds : Material → Type 0) (new : S) : Type 0 where
  pub material : Material
  pub drawn : IsDrawn gives old material new
  pub holds : Holds material

-- All that a new end draws was drawn now: first the key of its padding, then a cookie and a secret. This holds of them.
pub record DrawsAll {S : Type 0} (gives : Gives S) (old : S) (Holds : PaddingSource → Material → Type 0) (new : S) : Type 0
  where
    pub padding : PaddingSource
    pub between : S
    pub seeded : SeedsPadding gives old padding between
    pub fresh : IsFresh gives between (Holds padding) new
