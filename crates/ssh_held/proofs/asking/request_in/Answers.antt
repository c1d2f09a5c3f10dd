use Rattle.ssh_model.specs.Protocol.Wire.Message.Msg.{UserauthRequest}
use Rattle.ssh_message.specs.Meaning.{meaning}
use Rattle.ssh_held.proofs.Requesting.{only_in}
use Rattle.ssh_held.proofs.asking.request_in.Goals as goal

pub returns-in-Ok-clause-only : goal.returns-in-Ok-clause-only
returns-in-Ok-clause-only c = λ probing user service method x.
    only_in c.args.payload.now (meaning c.in-Ok.message) user service method
    (c.in-Ok.ensures.only (UserauthRequest user service method) (record { context = tt; row = x.row })) c.request_of.result
    c.request_of.ensures

pub returns-in-Err-clause-only : goal.returns-in-Err-clause-only
returns-in-Err-clause-only c = λ probing user service method x.
    c.in-Err.ensures.only (UserauthRequest user service method) (record { context = tt; row = x.row })
