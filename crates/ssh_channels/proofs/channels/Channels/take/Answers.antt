use Rattle.std.proofs.Common.{rules}
use Rattle.ssh_message.specs.Meaning.{meaning}
use Rattle.ssh_channels.proofs.Sessions.{taken_in_session}
use Rattle.ssh_channels.proofs.channels.Channels.take.Goals as goal

pub returns-in-ChannelOpen-clause-refused : goal.returns-in-ChannelOpen-clause-refused
returns-in-ChannelOpen-clause-refused c = search rules

pub returns-in-ChannelOpen-clause-passed : goal.returns-in-ChannelOpen-clause-passed
returns-in-ChannelOpen-clause-passed c = search rules

pub returns-in-ChannelOpen-clause-taken : goal.returns-in-ChannelOpen-clause-taken
returns-in-ChannelOpen-clause-taken c = search rules

pub returns-in-ChannelOpen-clause-in_session : goal.returns-in-ChannelOpen-clause-in_session
returns-in-ChannelOpen-clause-in_session c =
    taken_in_session c.messages.ensures.refused c.messages.ensures.accepted c.args.blocked c.args.self.now (meaning c.args.message.now) _ c.take_open.result
    (returns-in-ChannelOpen-clause-refused c) (returns-in-ChannelOpen-clause-passed c) (returns-in-ChannelOpen-clause-taken c)

pub returns-clause-refused : goal.returns-clause-refused
returns-clause-refused c = search rules

pub returns-clause-passed : goal.returns-clause-passed
returns-clause-passed c = search rules

pub returns-clause-taken : goal.returns-clause-taken
returns-clause-taken c = search rules

pub returns-clause-in_session : goal.returns-clause-in_session
returns-clause-in_session c =
    taken_in_session c.messages.ensures.refused c.messages.ensures.accepted c.args.blocked c.args.self.now (meaning c.args.message.now) _ c.map_err.result
    (returns-clause-refused c) (returns-clause-passed c) (returns-clause-taken c)
