use Rattle.ciphers.proofs.AesGcmLemmas.StreamLanes.{high_ok, low_ok, with_entry_lane, with_entry_long}
use Rattle.ciphers.proofs.aes_gcm.streams.with_entry.Goals as goal

pub swizzle : goal.swizzle
swizzle c = low_ok c.args.x c.fits-x

pub swizzle-2 : goal.swizzle-2
swizzle-2 c = high_ok c.args.x c.fits-x

pub returns : goal.returns
returns c = record {
  lanes = λ l h. with_entry_lane c.args.table.now c.args.x c.args.sum c.args.at l c.fits-x c.fits-sum.0 h;
  long = with_entry_long c.args.table.now c.args.x c.args.sum c.args.at c.fits-x c.fits-sum.0;
}
