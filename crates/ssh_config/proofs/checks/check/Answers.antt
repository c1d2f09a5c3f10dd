use Rattle.std.proofs.Common.{sym, ◌∙◌}
use Rattle.ssh_config.specs.Values.{given}
use Rattle.ssh_config.proofs.Lines.{good_line}
use Rattle.ssh_config.proofs.Lists.{bad_epoch_limit, bad_extensions, bad_lists, bad_tries, good_epoch_limit, good_extensions, good_lists, good_tries}
use Rattle.ssh_config.proofs.checks.check.Goals as goal

pub returns-in-Some-clause-refused : goal.returns-in-Some-clause-refused
returns-in-Some-clause-refused g c = (
  good_line (given c.args.settings.now) (sym c.has_line.ensures ∙ c.if-not-has_line.false),
  bad_lists g.S.Sealing.crypto (given c.args.settings.now) (c.in-Some.list, c.in-Some.fault) (sym c.lists_fault.ensures ∙ c.in-Some.is),
  sym c.lists_fault.ensures ∙ c.in-Some.is,
)

pub returns-then-not-is_epoch_limit-clause-refused : goal.returns-then-not-is_epoch_limit-clause-refused
returns-then-not-is_epoch_limit-clause-refused g c = (
  good_line (given c.args.settings.now) (sym c.has_line.ensures ∙ c.if-not-has_line.false),
  good_lists g.S.Sealing.crypto (given c.args.settings.now) (sym c.lists_fault.ensures ∙ c.in_default.is),
  bad_epoch_limit c.args.settings.now.epoch_limit (sym c.is_epoch_limit.ensures ∙ c.if-not-is_epoch_limit.true),
)

pub returns-then-not-is_tries-clause-refused : goal.returns-then-not-is_tries-clause-refused
returns-then-not-is_tries-clause-refused g c = (
  good_line (given c.args.settings.now) (sym c.has_line.ensures ∙ c.if-not-has_line.false),
  good_lists g.S.Sealing.crypto (given c.args.settings.now) (sym c.lists_fault.ensures ∙ c.in_default.is),
  good_epoch_limit c.args.settings.now.epoch_limit (sym c.is_epoch_limit.ensures ∙ c.if-not-is_epoch_limit.false),
  bad_tries c.args.settings.now.tries (sym c.is_tries.ensures ∙ c.if-not-is_tries.true),
)

pub returns-in-Some-extension_fault-clause-refused : goal.returns-in-Some-extension_fault-clause-refused
returns-in-Some-extension_fault-clause-refused g c = (
  good_line (given c.args.settings.now) (sym c.has_line.ensures ∙ c.if-not-has_line.false),
  good_lists g.S.Sealing.crypto (given c.args.settings.now) (sym c.lists_fault.ensures ∙ c.in_default.is),
  good_epoch_limit c.args.settings.now.epoch_limit (sym c.is_epoch_limit.ensures ∙ c.if-not-is_epoch_limit.false),
  good_tries c.args.settings.now.tries (sym c.is_tries.ensures ∙ c.if-not-is_tries.false),
  bad_extensions (given c.args.settings.now) c.in-Some-extension_fault.fault (sym c.extension_fault.ensures ∙ c.in-Some-extension_fault.is),
  sym c.extension_fault.ensures ∙ c.in-Some-extension_fault.is,
)

pub returns-clause-good : goal.returns-clause-good
returns-clause-good g c = record {
  line = good_line (given c.args.settings.now) (sym c.has_line.ensures ∙ c.if-not-has_line.false);
  lists = good_lists g.S.Sealing.crypto (given c.args.settings.now) (sym c.lists_fault.ensures ∙ c.in_default.is);
  epoch_limit = good_epoch_limit c.args.settings.now.epoch_limit (sym c.is_epoch_limit.ensures ∙ c.if-not-is_epoch_limit.false);
  tries = good_tries c.args.settings.now.tries (sym c.is_tries.ensures ∙ c.if-not-is_tries.false);
  extensions = good_extensions (given c.args.settings.now) (sym c.extension_fault.ensures ∙ c.in_default-extension_fault.is);
}
