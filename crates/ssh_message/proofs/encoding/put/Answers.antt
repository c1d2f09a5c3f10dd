use Rattle.ssh_message.proofs.encoding.put.Goals as goal

pub returns-in-Disconnect-clause-written : goal.returns-in-Disconnect-clause-written
returns-in-Disconnect-clause-written c = rw c.in-Disconnect.is c.disconnect.ensures.written

pub returns-in-Ignore-clause-written : goal.returns-in-Ignore-clause-written
returns-in-Ignore-clause-written c = rw c.in-Ignore.is c.ignore.ensures.written

pub returns-in-Unimplemented-clause-written : goal.returns-in-Unimplemented-clause-written
returns-in-Unimplemented-clause-written c = rw c.in-Unimplemented.is c.unimplemented.ensures.written

pub returns-in-Debug-clause-written : goal.returns-in-Debug-clause-written
returns-in-Debug-clause-written c = rw c.in-Debug.is c.debug.ensures.written

pub returns-in-ServiceRequest-clause-written : goal.returns-in-ServiceRequest-clause-written
returns-in-ServiceRequest-clause-written c = rw c.in-ServiceRequest.is c.service_request.ensures.written

pub returns-in-ServiceAccept-clause-written : goal.returns-in-ServiceAccept-clause-written
returns-in-ServiceAccept-clause-written c = rw c.in-ServiceAccept.is c.service_accept.ensures.written

pub returns-in-KexInit-clause-written : goal.returns-in-KexInit-clause-written
returns-in-KexInit-clause-written c = rw c.in-KexInit.is c.kexinit.ensures.written

pub returns-in-NewKeys-clause-written : goal.returns-in-NewKeys-clause-written
returns-in-NewKeys-clause-written c = rw c.in-NewKeys.is c.newkeys.ensures.written

pub returns-in-KexEcdhInit-clause-written : goal.returns-in-KexEcdhInit-clause-written
returns-in-KexEcdhInit-clause-written c = rw c.in-KexEcdhInit.is c.kex_ecdh_init.ensures.written

pub returns-in-KexEcdhReply-clause-written : goal.returns-in-KexEcdhReply-clause-written
returns-in-KexEcdhReply-clause-written c = rw c.in-KexEcdhReply.is c.kex_ecdh_reply.ensures.written

pub returns-in-UserauthRequest-clause-written : goal.returns-in-UserauthRequest-clause-written
returns-in-UserauthRequest-clause-written c = rw c.in-UserauthRequest.is c.request.ensures.written

pub returns-in-UserauthFailure-clause-written : goal.returns-in-UserauthFailure-clause-written
returns-in-UserauthFailure-clause-written c = rw c.in-UserauthFailure.is c.failure.ensures.written

pub returns-in-UserauthSuccess-clause-written : goal.returns-in-UserauthSuccess-clause-written
returns-in-UserauthSuccess-clause-written c = rw c.in-UserauthSuccess.is c.success.ensures.written

pub returns-in-UserauthBanner-clause-written : goal.returns-in-UserauthBanner-clause-written
returns-in-UserauthBanner-clause-written c = rw c.in-UserauthBanner.is c.banner.ensures.written

pub returns-in-UserauthPkOk-clause-written : goal.returns-in-UserauthPkOk-clause-written
returns-in-UserauthPkOk-clause-written c = rw c.in-UserauthPkOk.is c.pk_ok.ensures.written

pub returns-in-GlobalRequest-clause-written : goal.returns-in-GlobalRequest-clause-written
returns-in-GlobalRequest-clause-written c = rw c.in-GlobalRequest.is c.global_request.ensures.written

pub returns-in-RequestSuccess-clause-written : goal.returns-in-RequestSuccess-clause-written
returns-in-RequestSuccess-clause-written c = rw c.in-RequestSuccess.is c.request_success.ensures.written

pub returns-in-RequestFailure-clause-written : goal.returns-in-RequestFailure-clause-written
returns-in-RequestFailure-clause-written c = rw c.in-RequestFailure.is c.request_failure.ensures.written

pub returns-in-ChannelOpen-clause-written : goal.returns-in-ChannelOpen-clause-written
returns-in-ChannelOpen-clause-written c = rw c.in-ChannelOpen.is c.channel_open.ensures.written

pub returns-in-ChannelOpenConfirmation-clause-written : goal.returns-in-ChannelOpenConfirmation-clause-written
returns-in-ChannelOpenConfirmation-clause-written c = rw c.in-ChannelOpenConfirmation.is c.channel_open_confirmation.ensures.written

pub returns-in-ChannelOpenFailure-clause-written : goal.returns-in-ChannelOpenFailure-clause-written
returns-in-ChannelOpenFailure-clause-written c = rw c.in-ChannelOpenFailure.is c.channel_open_failure.ensures.written

pub returns-in-ChannelWindowAdjust-clause-written : goal.returns-in-ChannelWindowAdjust-clause-written
returns-in-ChannelWindowAdjust-clause-written c = rw c.in-ChannelWindowAdjust.is c.channel_window_adjust.ensures.written

pub returns-in-ChannelData-clause-written : goal.returns-in-ChannelData-clause-written
returns-in-ChannelData-clause-written c = rw c.in-ChannelData.is c.channel_data.ensures.written

pub returns-in-ChannelExtendedData-clause-written : goal.returns-in-ChannelExtendedData-clause-written
returns-in-ChannelExtendedData-clause-written c = rw c.in-ChannelExtendedData.is c.channel_extended_data.ensures.written

pub returns-in-ChannelEof-clause-written : goal.returns-in-ChannelEof-clause-written
returns-in-ChannelEof-clause-written c = rw c.in-ChannelEof.is c.channel_eof.ensures.written

pub returns-in-ChannelClose-clause-written : goal.returns-in-ChannelClose-clause-written
returns-in-ChannelClose-clause-written c = rw c.in-ChannelClose.is c.channel_close.ensures.written

pub returns-in-ChannelRequest-clause-written : goal.returns-in-ChannelRequest-clause-written
returns-in-ChannelRequest-clause-written c = rw c.in-ChannelRequest.is c.channel_request.ensures.written

pub returns-in-ChannelSuccess-clause-written : goal.returns-in-ChannelSuccess-clause-written
returns-in-ChannelSuccess-clause-written c = rw c.in-ChannelSuccess.is c.channel_success.ensures.written

pub returns-in-ChannelFailure-clause-written : goal.returns-in-ChannelFailure-clause-written
returns-in-ChannelFailure-clause-written c = rw c.in-ChannelFailure.is c.channel_failure.ensures.written

pub returns-in-Unknown-clause-written : goal.returns-in-Unknown-clause-written
returns-in-Unknown-clause-written c = rw c.in-Unknown.is c.unknown.ensures.written

pub returns-in-Disconnect-clause-full : goal.returns-in-Disconnect-clause-full
returns-in-Disconnect-clause-full c = rw c.in-Disconnect.is c.disconnect.ensures.full

pub returns-in-Ignore-clause-full : goal.returns-in-Ignore-clause-full
returns-in-Ignore-clause-full c = rw c.in-Ignore.is c.ignore.ensures.full

pub returns-in-Unimplemented-clause-full : goal.returns-in-Unimplemented-clause-full
returns-in-Unimplemented-clause-full c = rw c.in-Unimplemented.is c.unimplemented.ensures.full

pub returns-in-Debug-clause-full : goal.returns-in-Debug-clause-full
returns-in-Debug-clause-full c = rw c.in-Debug.is c.debug.ensures.full

pub returns-in-ServiceRequest-clause-full : goal.returns-in-ServiceRequest-clause-full
returns-in-ServiceRequest-clause-full c = rw c.in-ServiceRequest.is c.service_request.ensures.full

pub returns-in-ServiceAccept-clause-full : goal.returns-in-ServiceAccept-clause-full
returns-in-ServiceAccept-clause-full c = rw c.in-ServiceAccept.is c.service_accept.ensures.full

pub returns-in-KexInit-clause-full : goal.returns-in-KexInit-clause-full
returns-in-KexInit-clause-full c = rw c.in-KexInit.is c.kexinit.ensures.full

pub returns-in-NewKeys-clause-full : goal.returns-in-NewKeys-clause-full
returns-in-NewKeys-clause-full c = rw c.in-NewKeys.is c.newkeys.ensures.full

pub returns-in-KexEcdhInit-clause-full : goal.returns-in-KexEcdhInit-clause-full
returns-in-KexEcdhInit-clause-full c = rw c.in-KexEcdhInit.is c.kex_ecdh_init.ensures.full

pub returns-in-KexEcdhReply-clause-full : goal.returns-in-KexEcdhReply-clause-full
returns-in-KexEcdhReply-clause-full c = rw c.in-KexEcdhReply.is c.kex_ecdh_reply.ensures.full

pub returns-in-UserauthRequest-clause-full : goal.returns-in-UserauthRequest-clause-full
returns-in-UserauthRequest-clause-full c = rw c.in-UserauthRequest.is c.request.ensures.full

pub returns-in-UserauthFailure-clause-full : goal.returns-in-UserauthFailure-clause-full
returns-in-UserauthFailure-clause-full c = rw c.in-UserauthFailure.is c.failure.ensures.full

pub returns-in-UserauthSuccess-clause-full : goal.returns-in-UserauthSuccess-clause-full
returns-in-UserauthSuccess-clause-full c = rw c.in-UserauthSuccess.is c.success.ensures.full

pub returns-in-UserauthBanner-clause-full : goal.returns-in-UserauthBanner-clause-full
returns-in-UserauthBanner-clause-full c = rw c.in-UserauthBanner.is c.banner.ensures.full

pub returns-in-UserauthPkOk-clause-full : goal.returns-in-UserauthPkOk-clause-full
returns-in-UserauthPkOk-clause-full c = rw c.in-UserauthPkOk.is c.pk_ok.ensures.full

pub returns-in-GlobalRequest-clause-full : goal.returns-in-GlobalRequest-clause-full
returns-in-GlobalRequest-clause-full c = rw c.in-GlobalRequest.is c.global_request.ensures.full

pub returns-in-RequestSuccess-clause-full : goal.returns-in-RequestSuccess-clause-full
returns-in-RequestSuccess-clause-full c = rw c.in-RequestSuccess.is c.request_success.ensures.full

pub returns-in-RequestFailure-clause-full : goal.returns-in-RequestFailure-clause-full
returns-in-RequestFailure-clause-full c = rw c.in-RequestFailure.is c.request_failure.ensures.full

pub returns-in-ChannelOpen-clause-full : goal.returns-in-ChannelOpen-clause-full
returns-in-ChannelOpen-clause-full c = rw c.in-ChannelOpen.is c.channel_open.ensures.full

pub returns-in-ChannelOpenConfirmation-clause-full : goal.returns-in-ChannelOpenConfirmation-clause-full
returns-in-ChannelOpenConfirmation-clause-full c = rw c.in-ChannelOpenConfirmation.is c.channel_open_confirmation.ensures.full

pub returns-in-ChannelOpenFailure-clause-full : goal.returns-in-ChannelOpenFailure-clause-full
returns-in-ChannelOpenFailure-clause-full c = rw c.in-ChannelOpenFailure.is c.channel_open_failure.ensures.full

pub returns-in-ChannelWindowAdjust-clause-full : goal.returns-in-ChannelWindowAdjust-clause-full
returns-in-ChannelWindowAdjust-clause-full c = rw c.in-ChannelWindowAdjust.is c.channel_window_adjust.ensures.full

pub returns-in-ChannelData-clause-full : goal.returns-in-ChannelData-clause-full
returns-in-ChannelData-clause-full c = rw c.in-ChannelData.is c.channel_data.ensures.full

pub returns-in-ChannelExtendedData-clause-full : goal.returns-in-ChannelExtendedData-clause-full
returns-in-ChannelExtendedData-clause-full c = rw c.in-ChannelExtendedData.is c.channel_extended_data.ensures.full

pub returns-in-ChannelEof-clause-full : goal.returns-in-ChannelEof-clause-full
returns-in-ChannelEof-clause-full c = rw c.in-ChannelEof.is c.channel_eof.ensures.full

pub returns-in-ChannelClose-clause-full : goal.returns-in-ChannelClose-clause-full
returns-in-ChannelClose-clause-full c = rw c.in-ChannelClose.is c.channel_close.ensures.full

pub returns-in-ChannelRequest-clause-full : goal.returns-in-ChannelRequest-clause-full
returns-in-ChannelRequest-clause-full c = rw c.in-ChannelRequest.is c.channel_request.ensures.full

pub returns-in-ChannelSuccess-clause-full : goal.returns-in-ChannelSuccess-clause-full
returns-in-ChannelSuccess-clause-full c = rw c.in-ChannelSuccess.is c.channel_success.ensures.full

pub returns-in-ChannelFailure-clause-full : goal.returns-in-ChannelFailure-clause-full
returns-in-ChannelFailure-clause-full c = rw c.in-ChannelFailure.is c.channel_failure.ensures.full

pub returns-in-Unknown-clause-full : goal.returns-in-Unknown-clause-full
returns-in-Unknown-clause-full c = rw c.in-Unknown.is c.unknown.ensures.full

pub returns-in-ExtInfo-clause-written : goal.returns-in-ExtInfo-clause-written
returns-in-ExtInfo-clause-written c = rw c.in-ExtInfo.is c.ext_info.ensures.written

pub returns-in-ExtInfo-clause-full : goal.returns-in-ExtInfo-clause-full
returns-in-ExtInfo-clause-full c = rw c.in-ExtInfo.is c.ext_info.ensures.full
