-- Each refusal has a short name.
use Rattle.std.proofs.Common.{◌≤◌, length}
use Rattle.ssh_model.specs.declared.refusal.Refusal.{Refusal}
use Rattle.ssh_model.specs.Protocol.Sessions.Refusals.{refusal_name}
use Rattle.ssh_model.specs.Laws.Farewells as farewells

pub short_name : (refusal : Refusal) → length (refusal_name refusal) ≤ 20
short_name refusal = farewells.short_name refusal
