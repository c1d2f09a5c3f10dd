use Rattle.ssh_message.proofs.Payloads.{in_context, is_in_context}
use Rattle.ssh_message.proofs.decoding.body.Goals as goal

pub returns-in-1-clause-found : goal.returns-in-1-clause-found
returns-in-1-clause-found c = in_context c.args.probing c.disconnect.result c.args.fields.now c.in-1.is c.disconnect.ensures.found

pub returns-in-2-clause-found : goal.returns-in-2-clause-found
returns-in-2-clause-found c = in_context c.args.probing c.ignore.result c.args.fields.now c.in-2.is c.ignore.ensures.found

pub returns-in-3-clause-found : goal.returns-in-3-clause-found
returns-in-3-clause-found c = in_context c.args.probing c.unimplemented.result c.args.fields.now c.in-3.is c.unimplemented.ensures.found

pub returns-in-4-clause-found : goal.returns-in-4-clause-found
returns-in-4-clause-found c = in_context c.args.probing c.debug.result c.args.fields.now c.in-4.is c.debug.ensures.found

pub returns-in-5-clause-found : goal.returns-in-5-clause-found
returns-in-5-clause-found c = in_context c.args.probing c.service_request.result c.args.fields.now c.in-5.is c.service_request.ensures.found

pub returns-in-6-clause-found : goal.returns-in-6-clause-found
returns-in-6-clause-found c = in_context c.args.probing c.service_accept.result c.args.fields.now c.in-6.is c.service_accept.ensures.found

pub returns-in-20-clause-found : goal.returns-in-20-clause-found
returns-in-20-clause-found c = in_context c.args.probing c.kexinit.result c.args.fields.now c.in-20.is c.kexinit.ensures.found

pub returns-in-21-clause-found : goal.returns-in-21-clause-found
returns-in-21-clause-found c = in_context c.args.probing c.newkeys.result c.args.fields.now c.in-21.is c.newkeys.ensures.found

pub returns-in-30-clause-found : goal.returns-in-30-clause-found
returns-in-30-clause-found c = in_context c.args.probing c.kex_ecdh_init.result c.args.fields.now c.in-30.is c.kex_ecdh_init.ensures.found

pub returns-in-31-clause-found : goal.returns-in-31-clause-found
returns-in-31-clause-found c = in_context c.args.probing c.kex_ecdh_reply.result c.args.fields.now c.in-31.is c.kex_ecdh_reply.ensures.found

pub returns-in-50-clause-found : goal.returns-in-50-clause-found
returns-in-50-clause-found c = in_context c.args.probing c.request.result c.args.fields.now c.in-50.is c.request.ensures.found

pub returns-in-51-clause-found : goal.returns-in-51-clause-found
returns-in-51-clause-found c = in_context c.args.probing c.failure.result c.args.fields.now c.in-51.is c.failure.ensures.found

pub returns-in-52-clause-found : goal.returns-in-52-clause-found
returns-in-52-clause-found c = in_context c.args.probing c.success.result c.args.fields.now c.in-52.is c.success.ensures.found

pub returns-in-53-clause-found : goal.returns-in-53-clause-found
returns-in-53-clause-found c = in_context c.args.probing c.banner.result c.args.fields.now c.in-53.is c.banner.ensures.found

pub returns-in-80-clause-found : goal.returns-in-80-clause-found
returns-in-80-clause-found c = in_context c.args.probing c.global_request.result c.args.fields.now c.in-80.is c.global_request.ensures.found

pub returns-in-81-clause-found : goal.returns-in-81-clause-found
returns-in-81-clause-found c = is_in_context c.args.probing c.request_success.result c.args.fields.now c.in-81.is c.request_success.ensures.found

pub returns-in-82-clause-found : goal.returns-in-82-clause-found
returns-in-82-clause-found c = in_context c.args.probing c.request_failure.result c.args.fields.now c.in-82.is c.request_failure.ensures.found

pub returns-in-90-clause-found : goal.returns-in-90-clause-found
returns-in-90-clause-found c = in_context c.args.probing c.channel_open.result c.args.fields.now c.in-90.is c.channel_open.ensures.found

pub returns-in-91-clause-found : goal.returns-in-91-clause-found
returns-in-91-clause-found c = in_context c.args.probing c.channel_open_confirmation.result c.args.fields.now c.in-91.is c.channel_open_confirmation.ensures.found

pub returns-in-92-clause-found : goal.returns-in-92-clause-found
returns-in-92-clause-found c = in_context c.args.probing c.channel_open_failure.result c.args.fields.now c.in-92.is c.channel_open_failure.ensures.found

pub returns-in-93-clause-found : goal.returns-in-93-clause-found
returns-in-93-clause-found c = in_context c.args.probing c.channel_window_adjust.result c.args.fields.now c.in-93.is c.channel_window_adjust.ensures.found

pub returns-in-94-clause-found : goal.returns-in-94-clause-found
returns-in-94-clause-found c = in_context c.args.probing c.channel_data.result c.args.fields.now c.in-94.is c.channel_data.ensures.found

pub returns-in-95-clause-found : goal.returns-in-95-clause-found
returns-in-95-clause-found c = in_context c.args.probing c.channel_extended_data.result c.args.fields.now c.in-95.is c.channel_extended_data.ensures.found

pub returns-in-96-clause-found : goal.returns-in-96-clause-found
returns-in-96-clause-found c = in_context c.args.probing c.channel_eof.result c.args.fields.now c.in-96.is c.channel_eof.ensures.found

pub returns-in-97-clause-found : goal.returns-in-97-clause-found
returns-in-97-clause-found c = in_context c.args.probing c.channel_close.result c.args.fields.now c.in-97.is c.channel_close.ensures.found

pub returns-in-98-clause-found : goal.returns-in-98-clause-found
returns-in-98-clause-found c = in_context c.args.probing c.channel_request.result c.args.fields.now c.in-98.is c.channel_request.ensures.found

pub returns-in-99-clause-found : goal.returns-in-99-clause-found
returns-in-99-clause-found c = in_context c.args.probing c.channel_success.result c.args.fields.now c.in-99.is c.channel_success.ensures.found

pub returns-in-100-clause-found : goal.returns-in-100-clause-found
returns-in-100-clause-found c = in_context c.args.probing c.channel_failure.result c.args.fields.now c.in-100.is c.channel_failure.ensures.found

pub returns-in-7-clause-found : goal.returns-in-7-clause-found
returns-in-7-clause-found c = in_context c.args.probing c.ext_info.result c.args.fields.now c.in-7.is c.ext_info.ensures.found
