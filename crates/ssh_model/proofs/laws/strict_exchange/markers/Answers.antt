use Rattle.ssh_model.proofs.Example.Strictness.{required_row, offered_row, not_offered_row, of_extensions_row, of_extensions_of_server_row, of_none_taken_row, not_later_row, not_chosen_row, not_guessed_row}
use Rattle.ssh_model.proofs.laws.strict_exchange.markers.Goals as goal

pub returns : goal.returns
returns c = record {
  required = required_row;
  offered = offered_row;
  not_offered = not_offered_row;
  of_extensions = of_extensions_row;
  of_extensions_of_server = of_extensions_of_server_row;
  of_none_taken = of_none_taken_row;
  not_later = not_later_row;
  not_chosen = not_chosen_row;
  not_guessed = not_guessed_row;
}
