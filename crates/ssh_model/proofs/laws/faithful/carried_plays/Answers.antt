use Rattle.ssh_model.proofs.Faithful.Carried.{carries_plays}
use Rattle.ssh_model.proofs.Faithful.Stream.{put_out_then}
use Rattle.ssh_model.proofs.laws.faithful.carried_plays.Goals as goal

pub returns : goal.returns
returns g c = record { plays = carries_plays; follows = put_out_then }
