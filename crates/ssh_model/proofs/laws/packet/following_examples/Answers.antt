use Rattle.ssh_model.proofs.Wire.PacketExamples.{success_following, four_following, three_following, no_payload_following, eight_following, twelve_following}
use Rattle.ssh_model.proofs.laws.packet.following_examples.Goals as goal

pub returns : goal.returns
returns c = record {
  least = success_following;
  least_padding = four_following;
  short_padding = λ payload. three_following payload;
  no_payload = λ payload. no_payload_following payload;
  counted = eight_following;
  following = twelve_following;
}
