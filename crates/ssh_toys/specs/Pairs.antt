-- Two ends, and the bytes on the way between them.
--     end_of, out_of     an end, and what it put out that the other has not taken
--     SameOther          the other end is as before
--     IsNewEnd           an end was made
use Rattle.std.specs.Prelude.{◌≡◌, ℕ, List, [], ◌∷◌, None}
use Rattle.ssh_end_machine.specs.WithChannels.{channels_with}
use Rattle.ssh_end_machine.specs.Ends.{IsNew, sending_from_line}
use Rattle.ssh_end_machine.specs.declared.step.Step.TheVariants as step
use Rattle.ssh_config.specs.Config.{settings_given}
use Rattle.ssh_model.specs.Protocol.Side.{peer}
use Rattle.ssh_model.specs.Laws.MacOnly.{mac_only}
use Rattle.ssh_model.specs.declared.side.Side.{Side}
use Rattle.ssh_model.specs.declared.side.Side.TheVariants.{Client, Server}
use Rattle.ssh_transport_machine.specs.Padding.{PadsTo}
use Rattle.ssh_toys.specs.Ends.{MadeIn}
use Rattle.ssh_toys.specs.Ends.{channels_of, layers_of, machine_of, sending_after, sent_of, side_of, step_of, used_of}
use Rattle.ssh_toys.specs.Standard.{cookie_of, gives_byte, secret_of, software_of, toy_given, zeros}
use Rattle.ssh_toys.specs.declared.end.ToyEnd.{ToyEnd}
use Rattle.ssh_toys.specs.declared.ends.ToyEnds.{ToyEnds}

abbrev pub end_of : Side → ToyEnds → ToyEnd
end_of Client ends = ends.client
end_of Server ends = ends.server

abbrev pub out_of : Side → ToyEnds → List ℕ
out_of Client ends = ends.from_client.items
out_of Server ends = ends.from_server.items

-- The end of the other side is as before.
abbrev pub SameOther : Side → (old new : ToyEnds) → Type 0
SameOther side old new = end_of (peer side) new ≡ end_of (peer side) old

-- ---- how they begin

-- An end of this side was made, and put this out.
pub record IsNewEnd (side : Side) (made : ToyEnd) (out : List ℕ) : Type 0 where
  pub opened : IsNew mac_only side (settings_given (toy_given (software_of side))) (cookie_of side) (secret_of side)
      (machine_of made) (layers_of made) [] out (sent_of made)
  pub padded : PadsTo mac_only gives_byte (sending_from_line (settings_given (toy_given (software_of side))) zeros [])
      (sending_after made out)
  pub role : side_of made ≡ side
  pub step : step_of made ≡ step.More
  pub used : used_of made ≡ 0
  pub channels : channels_of made ≡ channels_with (sent_of made) (None ∷ [])
  pub placed : MadeIn (settings_given (toy_given (software_of side)))
      (record { cookie = cookie_of side; secret = secret_of side }) made [] out
