use Rattle.ssh_packet.proofs.LineUnits.{step_return, step_other, step_version, step_refused}
use Rattle.ssh_packet.proofs.line_reader.LineReader.step.Goals as goal

pub returns-in-Return : goal.returns-in-Return
returns-in-Return c =
    let r = c.self.inside in
    step_return r.from_server r.others r.line r.filled r.text r.after_cr r.ended c.args.self.now c.args.byte c.self.view_is c.requires.going c.self.invariant.4 c.in-Return.ensures

pub returns-in-End-Other : goal.returns-in-End-Other
returns-in-End-Other c =
    let r = c.self.inside in
    step_other r.from_server r.others r.line r.filled r.text r.after_cr r.ended c.args.self.now c.args.byte c.self.view_is c.requires.going (rw c.in-End-Other.field-0-is at c.in-End-Other.ensures)

pub returns-in-End-Version : goal.returns-in-End-Version
returns-in-End-Version c =
    let r = c.self.inside in
    step_version r.from_server r.others r.line r.filled r.text r.after_cr r.ended c.args.self.now c.args.byte c.in-End-Version.minus c.self.view_is c.requires.going (rw c.in-End-Version.field-0-is at c.in-End-Version.ensures)

pub returns-in-End-Refused : goal.returns-in-End-Refused
returns-in-End-Refused c =
    let r = c.self.inside in
    step_refused r.from_server r.others r.line r.filled r.text r.after_cr r.ended c.args.self.now c.args.byte c.in-End-Refused.refusal c.self.view_is c.requires.going (rw c.in-End-Refused.field-0-is at c.in-End-Refused.ensures)
