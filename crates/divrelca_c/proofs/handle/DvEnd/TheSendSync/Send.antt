-- The handle may go to another thread, as the end in its box may.
use denote.Param.Send.{IsSend}
use Rattle.divrelca_c.proofs.Crossing.{end_handle_send}
use Rattle.divrelca_c.specs.contracts.handle.DvEnd.{the_row}

pub send : IsSend the_row
send = end_handle_send
