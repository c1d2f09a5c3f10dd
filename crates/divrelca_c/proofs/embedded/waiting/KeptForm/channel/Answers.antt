use Rattle.std.proofs.Common.{◌∙◌, None, ap, sym}
use Rattle.divrelca_c.specs.Embedded.Queues.{channel_by}
use Rattle.divrelca_c.proofs.embedded.waiting.KeptForm.channel.Goals as goal

pub returns-in-Ok : goal.returns-in-Ok
returns-in-Ok c = c.channel_of.ensures ∙ ap channel_by (sym c.in-Ok.ensures.asks ∙ c.form.ensures None)

pub returns-in-Err : goal.returns-in-Err
returns-in-Err c = ap channel_by (sym c.in-Err.ensures.none ∙ c.form.ensures None)
