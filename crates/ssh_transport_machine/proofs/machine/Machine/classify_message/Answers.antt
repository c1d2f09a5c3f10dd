use Rattle.ssh_transport_machine.specs.Classifying as classifying
use Rattle.ssh_transport_machine.proofs.machine.Machine.classify_message.Goals as goal

pub returns-in-Disconnect : goal.returns-in-Disconnect
returns-in-Disconnect g c = rw c.in-Disconnect.is (classifying.MessageIs.disconnected _ _ _)

pub returns-in-Ignore : goal.returns-in-Ignore
returns-in-Ignore g c = rw c.in-Ignore.is (classifying.MessageIs.ignored _)

pub returns-in-Unimplemented : goal.returns-in-Unimplemented
returns-in-Unimplemented g c = rw c.in-Unimplemented.is (classifying.MessageIs.unimplemented _)

pub returns-in-Debug : goal.returns-in-Debug
returns-in-Debug g c = rw c.in-Debug.is (classifying.MessageIs.debug _ _ _)

pub returns-in-ServiceRequest : goal.returns-in-ServiceRequest
returns-in-ServiceRequest g c = rw c.in-ServiceRequest.is (classifying.MessageIs.requested _ c.classify_request.ensures)

pub returns-in-ServiceAccept : goal.returns-in-ServiceAccept
returns-in-ServiceAccept g c = rw c.in-ServiceAccept.is (classifying.MessageIs.accepted _ c.classify_accept.ensures)

pub returns-in-ExtInfo : goal.returns-in-ExtInfo
returns-in-ExtInfo g c = rw c.in-ExtInfo.is (classifying.MessageIs.extensions _)

pub returns-in-NewKeys : goal.returns-in-NewKeys
returns-in-NewKeys g c = rw c.in-NewKeys.is classifying.MessageIs.newkeys

pub returns-in-Unknown : goal.returns-in-Unknown
returns-in-Unknown g c = rw c.in-Unknown.is (classifying.MessageIs.unknown _)
