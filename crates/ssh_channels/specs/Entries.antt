-- An entry of the table in the words of the model.
use Rattle.ssh_model.specs.State.Channels.Places.{Place}
use Rattle.ssh_channels.specs.declared.entry.Entry.{Entry}

abbrev pub place_of : Entry → Place
place_of e = record {
  is_own = e.is_own;
  is_answered = e.is_answered;
  eof_sent = e.eof_sent;
  eof_taken = e.eof_taken;
  close_said = e.close_said;
  close_owed = e.close_owed;
  close_taken = e.close_taken;
  peer_number = e.peer_number;
  send_window = e.send_window;
  receive_window = e.receive_window;
  max_packet_here = e.max_packet_here;
  max_packet_there = e.max_packet_there;
  waiting_here = e.waiting_here;
  waiting_there = e.waiting_there;
}
