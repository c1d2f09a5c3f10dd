use Rattle.ssh_model.proofs.Example.Choices.{first_of_client_row, nothing_in_common_row, markers_are_not_chosen_row, server_order_is_not_followed_row, client_order_is_followed_row, each_direction_is_chosen_row, no_guess_row, right_guess_row, right_guess_after_marker_row, wrong_guess_of_method_row, wrong_guess_of_host_key_row, marker_stands_last_row}
use Rattle.ssh_model.proofs.examples.choice_examples.Goals as goal

pub returns : goal.returns
returns c = record {
  first_of_client = first_of_client_row;
  nothing_in_common = nothing_in_common_row;
  markers_are_not_chosen = markers_are_not_chosen_row;
  server_order_is_not_followed = server_order_is_not_followed_row;
  client_order_is_followed = client_order_is_followed_row;
  each_direction_is_chosen = each_direction_is_chosen_row;
  no_guess = no_guess_row;
  right_guess = right_guess_row;
  right_guess_after_marker = right_guess_after_marker_row;
  wrong_guess_of_method = wrong_guess_of_method_row;
  wrong_guess_of_host_key = wrong_guess_of_host_key_row;
  marker_stands_last = marker_stands_last_row;
}
