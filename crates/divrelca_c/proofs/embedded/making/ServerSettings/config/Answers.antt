use Rattle.std.proofs.Common.{◌≡◌, ◌∙◌, IfErr, IfOk, subst, sym}
use Rattle.divrelca.specs.Parts.AesGcm.{aes_gcm}
use Rattle.divrelca.specs.Parts.GcmSettings.{gcm_given}
use Rattle.divrelca_c.specs.Embedded.Making.{IsMadeError}
use Rattle.ssh_config.specs.Config.{AreGood, settings_given}
use Rattle.ssh_config.specs.Meaning.{settings_of}
use Rattle.divrelca_c.proofs.Announcing.{announced_given, silent_given}
use Rattle.divrelca_c.proofs.embedded.making.ServerSettings.config.Goals as goal

pub returns-then-is_empty-clause-refused : goal.returns-then-is_empty-clause-refused
returns-then-is_empty-clause-refused c =
    let same = silent_given c.args.self.now (gcm_given c.silent.result) c.silent.ensures (sym c.is_empty.ensures ∙ c.if-is_empty.true) in
    subst (λ given. IfErr c.config.result (IsMadeError given)) same c.config.ensures.refused

pub returns-clause-settings : goal.returns-clause-settings
returns-clause-settings c =
    let same = announced_given c.args.self.now (gcm_given c.silent-2.result) c.silent-2.ensures (sym c.is_empty.ensures ∙ c.if-is_empty.false) in
    subst (λ given. IfOk c.config-2.result (λ config. settings_of config ≡ settings_given given)) same c.config-2.ensures.settings

pub returns-clause-good : goal.returns-clause-good
returns-clause-good c =
    let same = announced_given c.args.self.now (gcm_given c.silent-2.result) c.silent-2.ensures (sym c.is_empty.ensures ∙ c.if-is_empty.false) in
    subst (λ given. IfOk c.config-2.result (λ config. AreGood aes_gcm given)) same c.config-2.ensures.good

pub returns-clause-refused : goal.returns-clause-refused
returns-clause-refused c =
    let same = announced_given c.args.self.now (gcm_given c.silent-2.result) c.silent-2.ensures (sym c.is_empty.ensures ∙ c.if-is_empty.false) in
    subst (λ given. IfErr c.config-2.result (IsMadeError given)) same c.config-2.ensures.refused
