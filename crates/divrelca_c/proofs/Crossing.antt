-- What may go to another thread: an end where its role, its layers, its keys and its padding may, and the handle of an end that may.
use mathlib.Core.Path.{◌∙◌, subst, sym}
use base.Shift.{Keyless}
use denote.RattleType.{RattleType}
use denote.Param.Send.{IsSend, sendable, view_send}
use Rattle.std.proofs.Crossing.{Box-send, crosses}
use Rattle.ciphers.specs.contracts.aes_gcm.gcm.GcmKey as gcm_key
use Rattle.ciphers.specs.contracts.aes_gcm.gcm.GcmKey.TheInside as gcm_key_inside
use Rattle.ciphers.specs.contracts.aes_gcm.gcm.KeyParts as key_parts
use Rattle.ciphers.specs.contracts.aes_gcm.lanes.Vectors as vectors
use Rattle.ciphers.specs.contracts.aes_gcm.planes.Planes as planes
use Rattle.ciphers.specs.contracts.aes_gcm.vector_rounds.MoreVectors as more_vectors
use Rattle.ciphers.specs.contracts.aes_gcm.vector_rounds.VectorKeys as vector_keys
use Rattle.ssh_packet.specs.contracts.line_reader.LineReader as line_reader
use Rattle.ssh_packet.specs.contracts.reader.PacketReader as packet_reader
use Rattle.ssh_packet.specs.declared.sealing.Sealing
use Rattle.ssh_packet.specs.declared.writer.Filler
use Rattle.ssh_transport.specs.declared.role.Role
use Rattle.ssh_packet.specs.contracts.packets.receiver.PacketReceiver as receiver
use Rattle.ssh_packet.specs.contracts.packets.receiver.PacketReceiver.TheInside as receiver_inside
use Rattle.ssh_transport_machine.specs.contracts.machine.Machine as machine
use Rattle.ssh_transport_machine.specs.contracts.machine.Machine.TheInside as machine_inside
use Rattle.ssh_transport_machine.specs.contracts.parts.Outgoing as outgoing
use Rattle.ssh_transport.specs.contracts.transport.Transport as transport
use Rattle.ssh_transport.specs.contracts.transport.Transport.TheInside as transport_inside
use Rattle.ssh_end_machine.specs.contracts.end.End as end
use Rattle.ssh_end_machine.specs.contracts.end.End.TheInside as end_inside
use Rattle.ssh_end_machine.specs.declared.role.EndRole
use Rattle.ssh_end_machine.specs.contracts.layers.stack.Layers as layers
use Rattle.ssh_held.specs.contracts.signing.GivenSignature as given
use Rattle.ssh_held.specs.contracts.signing.GivenSignatures as signatures
use Rattle.divrelca.specs.contracts.user_key.UserKey as user_key
use Rattle.divrelca.specs.contracts.parts.packet_key.PacketKey as packet_key
use Rattle.divrelca.specs.contracts.keys.PaddingSource as padding
use Rattle.divrelca_c.specs.contracts.embedded.any_end.AnyEnd as any_end
use Rattle.divrelca_c.specs.contracts.embedded.state.Embedded as embedded
use Rattle.divrelca_c.specs.contracts.embedded.hosts.TrustedHosts as hosts
use Rattle.divrelca_c.specs.contracts.embedded.noted.Noted as noted
use Rattle.divrelca_c.specs.contracts.embedded.users.Users as users
use Rattle.divrelca_c.specs.contracts.embedded.waiting.Waiting as waiting
use Rattle.divrelca_c.specs.contracts.embedded.waiting.Queued as queued
use Rattle.divrelca_c.proofs.Handling.{Handle}
use Rattle.divrelca_c.proofs.EndHandle.{end_handle}

line_reader_send : IsSend line_reader.the_row
line_reader_send = search (sendable, crosses) depth 40 fits 20000

packet_reader_send : IsSend packet_reader.the_row
packet_reader_send = search (sendable, crosses) depth 40 fits 20000

waiting_send : IsSend waiting.the_row
waiting_send = search (sendable, crosses) depth 40 fits 20000

queued_send : IsSend (queued.the_field).row
queued_send = search (sendable, crosses, waiting_send) depth 40 fits 20000

noted_send : IsSend (noted.the_field).row
noted_send = search (sendable, crosses) depth 40 fits 20000

padding_send : IsSend padding.the_row
padding_send = search (sendable, crosses) depth 40 fits 20000

users_send : IsSend (users.the_field).row
users_send = search (sendable, crosses) depth 40 fits 20000

hosts_send : IsSend (hosts.the_field).row
hosts_send = search (sendable, crosses) depth 40 fits 20000

given_send : IsSend (given.the_field).row
given_send = search (sendable, crosses) depth 40 fits 20000

user_key_send : IsSend (user_key.the_field).row
user_key_send = search (sendable, crosses) depth 40 fits 20000

module _ (U : RattleType) where
  signatures_send : IsSend U → IsSend (signatures.the_field U).row
  signatures_send u = search (sendable, crosses, given_send) depth 60 fits 30000

planes_send : IsSend (planes.the_field).row
planes_send = search (sendable, crosses) depth 40 fits 20000

vectors_send : IsSend (vectors.the_field).row
vectors_send = search (sendable, crosses) depth 40 fits 20000

parts_send : IsSend (key_parts.the_field).row
parts_send = search (sendable, crosses, planes_send) depth 60 fits 30000

more_vectors_send : IsSend (more_vectors.the_field).row
more_vectors_send = search (sendable, vectors_send) depth 60 fits 30000

vector_keys_send : IsSend (vector_keys.the_field).row
vector_keys_send = search (sendable, vectors_send, more_vectors_send) depth 60 fits 30000

gcm_key_send : IsSend gcm_key.the_row
gcm_key_send = view_send gcm_key_inside.the_row _ _ _ _ (search (sendable, crosses, parts_send, vector_keys_send) depth 60 fits 30000)

key_send : IsSend packet_key.the_row
key_send = search (sendable, crosses, gcm_key_send) depth 60 fits 30000

layers_send : IsSend layers.the_row
layers_send = search (sendable, crosses) depth 60 fits 30000

module _ (S Key : RattleType) (sealing : Sealing.Ghosts S.Denot Key.Denot) where
  receiver_send : IsSend Key → IsSend (receiver.the_row S Key sealing)
  receiver_send key = view_send (receiver_inside.the_row S Key sealing) _ _ _ _ (search (sendable, crosses, packet_reader_send) depth 40 fits 20000)

  pub machine_send : IsSend Key → IsSend (machine.the_row S Key sealing)
  machine_send key =
      view_send (machine_inside.the_row S Key sealing) _ _ _ _ (search (sendable, crosses, line_reader_send, receiver_send) depth 100 fits 50000)

  module _ (F : RattleType) (filler : Filler.Ghosts F.Denot) where
    outgoing_send : IsSend F → IsSend (outgoing.the_field F).row
    outgoing_send f = search (sendable, crosses) depth 40 fits 20000

    module _ (Exchange : RattleType) (exchange : Role.Ghosts Exchange.Denot S.Denot F.Denot Key.Denot) where
      transport_send : IsSend Exchange → IsSend Key → IsSend F → IsSend (transport.the_row Exchange S F Key exchange sealing filler)
      transport_send x key f =
          view_send (transport_inside.the_row Exchange S F Key exchange sealing filler) _ _ _ _ (search (sendable, crosses, machine_send, outgoing_send) depth 100 fits 50000)

      module _ (R : RattleType) (role : EndRole.Ghosts R.Denot Exchange.Denot S.Denot F.Denot Key.Denot) where
        pub end_send : IsSend R → IsSend Exchange → IsSend Key → IsSend F → IsSend (end.the_row R Exchange S F Key role exchange sealing filler)
        end_send r x key f =
            view_send (end_inside.the_row R Exchange S F Key role exchange sealing filler) _ _ _ _ (search (sendable, crosses, transport_send, layers_send) depth 100 fits 50000)

        pub embedded_send : IsSend R → IsSend Exchange → IsSend Key → IsSend F → IsSend (embedded.the_field R Exchange S F Key role exchange sealing filler).row
        embedded_send r x key f = search (sendable, crosses, end_send, queued_send, noted_send) depth 100 fits 50000

-- what a handle owns is what its box owns
handle_send : (K : Handle) → IsSend K.end → IsSend K.row
handle_send K s = record {
  owned = λ h vs. subst Keyless (sym (K.owns h vs ∙ K.boxes (K.box_of h) vs)) ((Box-send K.end s).owned (K.box_of h) vs);
  leaving = λ k h w. subst Keyless (sym (K.silent k h w)) tt;
}

any_end_send : IsSend any_end.the_row
any_end_send = search (sendable, crosses, embedded_send, key_send, padding_send, users_send, hosts_send, signatures_send, user_key_send) depth 100 fits 50000

pub end_handle_send : IsSend end_handle.row
end_handle_send = handle_send end_handle any_end_send
