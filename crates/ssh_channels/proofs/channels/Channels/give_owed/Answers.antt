use Rattle.std.proofs.Common.{refl}
use Rattle.ssh_model.specs.State.Channels.Kept.{DueReply.AnswersClose, DueReply.RefusesOpen}
use Rattle.ssh_channels.proofs.Unblocking.{given}
use Rattle.ssh_channels.proofs.channels.Channels.give_owed.Goals as goal

pub returns-in-Some-Close : goal.returns-in-Some-Close
returns-in-Some-Close c =
    let owed = rw c.in-Some-Close.field-0-is at c.in-Some-Close.ensures.oldest in
    given (AnswersClose c.in-Some-Close.channel c.in-Some-Close.recipient) _ _ c.pop_owed.new.self owed (rw (← c.self.view_is, c.remove.ensures) refl)

pub returns-in-Some-OpenFailure : goal.returns-in-Some-OpenFailure
returns-in-Some-OpenFailure c =
    let owed = rw c.in-Some-OpenFailure.field-0-is at c.in-Some-OpenFailure.ensures.oldest in
    given (RefusesOpen c.in-Some-OpenFailure.recipient) _ _ c.pop_owed.new.self owed refl
