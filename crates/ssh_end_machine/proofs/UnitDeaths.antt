-- Where memory is refused an end dies as the end of a session.
use Rattle.std.proofs.Common.{◌≡◌, ℕ, ◌≤◌, ◌^◌, true, List, [], ◌∷◌, arith, ap, subst}
use Rattle.std.specs.Prelude.{Result, Ok, Err}
use Rattle.ssh_model.specs.declared.side.Side.{Side}
use Rattle.ssh_model.specs.Protocol.Wire.Message.{Msg}
use Rattle.ssh_model.specs.Protocol.Authentication.Requests.{Judge}
use Rattle.ssh_model.specs.State.End.Payloads.{ReadsAbove}
use Rattle.ssh_model.specs.Protocol.Sessions.Items as session
use Rattle.ssh_model.specs.Protocol.Sessions.Items.{Item}
use Rattle.ssh_model.specs.Protocol.Sessions.Turns.{OnUnit}
use Rattle.ssh_model.specs.Protocol.Sessions.Parties.{Parties}
use Rattle.ssh_model.specs.declared.refusal.Refusal.{Refusal}
use Rattle.ssh_model.specs.State.TransportLayer.Kept.{Transport}
use Rattle.ssh_transport_machine.specs.Puts.{Outs}
use Rattle.ssh_transport.specs.Sessions.{IsAbove}
use Rattle.ssh_transport_machine.specs.State.{State, dead_state}
use Rattle.ssh_transport_machine.specs.Answering.{RefusalNeedsMemory}
use Rattle.ssh_transport.specs.declared.outcome.TransportTurn.{TransportTurn}
use Rattle.ssh_transport.specs.declared.outcome.TransportTurn.TheVariants as outcome
use Rattle.ssh_transport.specs.Units.{Died, RoleDoes, RoleNeedsMemory, Took}
use Rattle.ssh_end_machine.specs.Above.{FinishNeedsMemory, IsBeneath, NeedsMemoryAbove, RefusedAbove}
use Rattle.ssh_end_machine.specs.Layer.{Beneath}
use Rattle.ssh_end_machine.specs.Layers.{Layers, Reads}
use Rattle.ssh_end_machine.specs.Login.{authentication_of}
use Rattle.ssh_end_machine.specs.Judging.{JudgeNeedsMemory, JudgesPayload}
use Rattle.ssh_end_machine.specs.UnitTurns.{IsRunning}
use Rattle.ssh_end_machine.specs.Units.{HandlingNeedsMemory, UnitNeedsMemory, UpNeedsMemory}
use Rattle.ssh_end_machine.specs.Sessions.{beneath, end_of}
use Rattle.ssh_end_machine.specs.declared.replying.ServiceReply.{ServiceReply}
use Rattle.ssh_end_machine.proofs.AboveDeaths.{answered_lacks, channel_lacks, refused_lacks, encoded_lacks}
use Rattle.ssh_end_machine.proofs.Judging.{ServerFacts, beneath_is}
use Rattle.ssh_end_machine.proofs.TurnsAbove.{awaits, judged_so, encoded_so}
use Rattle.ssh_end_machine.proofs.UnitTurns.{TransportLaws}
use Rattle.ssh_end_machine.proofs.TurningDeaths.{DyingLaws, below_dies, dies, few_of}
use Rattle.ssh_end_machine.proofs.TurningLaws.{TurningLaws}
use Rattle.ssh_end_machine.proofs.TurningUnits.{found_above, is_above}

-- ---- the turn

module _ {K : Type 0} (laws : TurningLaws K) (dying : DyingLaws K) (p : Parties K) (side : Side) (does : RoleDoes K) (needs_memory : RoleNeedsMemory K) (below : TransportLaws p side does needs_memory) (server_facts : ServerFacts) (judge : Judge) (history : List Item) (old : State K) (layers : Layers) (running : IsRunning p side judge history old layers) (bytes : List ℕ) where
  abbrev Dead : Type 0
  Dead = OnUnit p side history bytes (session.Item.Died ∷ [])

  transport_dies : (new : State K) → Died p.crypto side needs_memory old bytes new → Dead
  transport_dies new x =
      (below_dies dying p running.lawful side history running.run (end_of old.kept layers) running.sums x.alive bytes x.reading (below.died history old running.sums.transport bytes new x))

  module _ (number : ℕ) (between : State K) (o : Outs) (took : Took p.crypto side does old bytes (outcome.Up number) between o) where
    above : IsAbove p side history old.kept bytes between o
    above = is_above p side history old.kept bytes number between o (below.taken history old running.sums.transport bytes (outcome.Up number) between o took)

    abbrev payload : List ℕ
    payload = between.receiver.payload

    found : old.kept.lines.found ≡ true
    found = found_above p.crypto does old bytes number between o took.takes

    few : old.kept.sending.count ≤ 2 ^ 32
    few = few_of dying p running.lawful side history running.run (end_of old.kept layers) running.sums took.alive bytes found

    sending : between.kept.sending.count ≡ old.kept.sending.count
    sending = ap (λ (t : Transport K). t.sending.count) above.kept

    lacks_dies : NeedsMemoryAbove p side (end_of old.kept layers) payload → Dead
    lacks_dies x =
        (dies dying p running.lawful side history running.run (end_of old.kept layers) running.sums took.alive bytes found payload x.items above.packet x.would x.memory)

    reads_so : (message : Msg) (beneath_it : Beneath) → IsBeneath between beneath_it → Reads beneath_it layers message payload → Reads (beneath old.kept) layers message payload
    reads_so message beneath_it is x = subst (λ (b : Beneath). Reads b layers message payload) (beneath_is old.kept between (awaits laws server_facts p side judge history old layers running took.alive bytes between o above) beneath_it is) x

    reads_above : (message : Msg) → Reads (beneath old.kept) layers message payload → ReadsAbove (end_of old.kept layers) message payload
    reads_above message x = record { above = above.above; normal = above.normal; taken = x.taken; message_is = x.message_is }

    judge_dies : JudgeNeedsMemory judge between layers → Dead
    judge_dies (JudgeNeedsMemory.for_channel beneath_it is message reads opens) =
        lacks_dies (channel_lacks p side (end_of old.kept layers) payload (running.sums.above took.alive).channels_sum.size few message opens (reads_above message (reads_so message beneath_it is reads)))
    judge_dies (JudgeNeedsMemory.unencoded given new x some room) =
        lacks_dies (encoded_lacks p side (end_of old.kept layers) payload (encoded_so laws server_facts p side judge history old layers running took.alive bytes between o above given new x some) (omega (arith, room, sending)))

    -- the peer is refused, and a number is left for it
    refused_dies : (why : Refusal) → RefusedAbove p (end_of old.kept layers) payload why → RefusalNeedsMemory between why → Dead
    refused_dies why (RefusedAbove.refused _ x) y = lacks_dies (refused_lacks p side (end_of old.kept layers) payload between why x y (omega (arith, y.room, sending)))
    refused_dies why (RefusedAbove.spent x) y = absurd (omega (arith, y.room, sending, x.none_left))

    finish_dies : (given : Result ServiceReply Refusal) (later : Layers) → JudgesPayload judge between layers given later → FinishNeedsMemory between given → Dead
    finish_dies (Ok given) later x y =
        lacks_dies (answered_lacks p side (end_of old.kept layers) payload given.step _ given.success (authentication_of later.authentication) later.channels
        (judged_so laws server_facts p side judge history old layers running took.alive bytes between o above (Ok given) later x) y.0 (omega (arith, y.1, sending)))
    finish_dies (Err why) later x y = refused_dies why (judged_so laws server_facts p side judge history old layers running took.alive bytes between o above (Err why) later x) y

    up_dies : UpNeedsMemory judge between layers → Dead
    up_dies (UpNeedsMemory.judging x) = judge_dies x
    up_dies (UpNeedsMemory.sending given later x y) = finish_dies given later x y

  end_dies : (given : TransportTurn) (between : State K) (o : Outs) → Took p.crypto side does old bytes given between o → HandlingNeedsMemory judge given between layers → Dead
  end_dies (outcome.Up number) between o x y = up_dies number between o x y
  end_dies (outcome.Completed choice) between o x y = transport_dies (dead_state old) (below.due old bytes choice between o x)
  end_dies outcome.More between o x y = absurd y
  end_dies (outcome.Refused why) between o x y = absurd y
  end_dies (outcome.Done done) between o x y = absurd y

  pub unit_dies : UnitNeedsMemory p.crypto side does needs_memory judge old layers bytes → Dead
  unit_dies (UnitNeedsMemory.by_transport new x) = transport_dies new x
  unit_dies (UnitNeedsMemory.by_end given between o x y) = end_dies given between o x y
