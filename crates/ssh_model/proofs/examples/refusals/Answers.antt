use Rattle.ssh_model.proofs.Example.RefusalNames.{numbers_row, reason_codes_row, names_row, ask_numbers_row, ask_names_row}
use Rattle.ssh_model.proofs.examples.refusals.Goals as goal

pub returns : goal.returns
returns c = record {
  numbers = numbers_row;
  reason_codes = reason_codes_row;
  names = names_row;
  ask_numbers = ask_numbers_row;
  ask_names = ask_names_row;
}
