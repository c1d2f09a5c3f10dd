use Rattle.ssh_model.proofs.Wire.PacketExamples.{newkeys_row, last_row, spent_row, last_plain_row, spent_plain_row, eleven_row, largest_row, larger_row, no_payload_row, short_padding_row}
use Rattle.ssh_model.proofs.laws.packet.packet_examples.Goals as goal

pub returns : goal.returns
returns g c = record {
  newkeys = λ k. newkeys_row k;
  last_number = λ k. last_row k;
  spent_number = λ k. spent_row k;
  last_of_plain_epoch = λ k. last_plain_row k;
  spent_plain_epoch = λ k. spent_plain_row k;
  no_whole_blocks = λ k. eleven_row k;
  largest = λ k. largest_row k;
  larger = λ k. larger_row k;
  no_payload = λ k. no_payload_row k;
  short_padding = λ k. short_padding_row k;
}
