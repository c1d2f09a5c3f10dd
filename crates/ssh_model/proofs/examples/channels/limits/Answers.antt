use Rattle.ssh_model.proofs.Example.Limits.{open_refused_while_many_are_owed_row, open_while_few_are_owed_row, open_with_place_row, close_refused_while_many_are_owed_row, close_that_owes_nothing_row, many_requests_row, many_globals_row, many_replies_row, many_are_owed_while_blocked_row, open_asked_without_place_row}
use Rattle.ssh_model.proofs.examples.channels.limits.Goals as goal

pub returns : goal.returns
returns c = record {
  open_refused_while_many_are_owed = open_refused_while_many_are_owed_row;
  open_while_few_are_owed = open_while_few_are_owed_row;
  open_with_place = open_with_place_row;
  close_refused_while_many_are_owed = close_refused_while_many_are_owed_row;
  close_that_owes_nothing = close_that_owes_nothing_row;
  many_requests = many_requests_row;
  many_globals = many_globals_row;
  many_replies = many_replies_row;
  many_are_owed_while_blocked = many_are_owed_while_blocked_row;
  open_asked_without_place = open_asked_without_place_row;
}
