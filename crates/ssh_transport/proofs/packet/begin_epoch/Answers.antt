use Rattle.ssh_transport.proofs.Newkeys.{newkeys_shown}
use Rattle.ssh_transport.proofs.Replying.{epoch_left, newkeys_taken}
use Rattle.ssh_transport.proofs.packet.begin_epoch.Goals as goal

pub take_newkeys-requires-clause-pending : goal.take_newkeys-requires-clause-pending
take_newkeys-requires-clause-pending g c = c.requires.live.kept.pending (newkeys_shown _ _ c.requires.shown).phase

pub take_newkeys-requires-clause-shown : goal.take_newkeys-requires-clause-shown
take_newkeys-requires-clause-shown g c = (newkeys_shown _ _ c.requires.shown).payload_is

pub take_newkeys-requires-clause-epoch : goal.take_newkeys-requires-clause-epoch
take_newkeys-requires-clause-epoch g c = epoch_left _ c.requires.live (newkeys_shown _ _ c.requires.shown).phase

pub returns : goal.returns
returns g c = newkeys_taken _ _ (c.requires.live.kept.pending (newkeys_shown _ _ c.requires.shown).phase) c.take_newkeys.ensures
