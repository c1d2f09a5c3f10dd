use Rattle.std.proofs.Common.{◌≡◌, ◌+◌, ◌*◌, slice_index, refl, ap, arith}
use Rattle.ciphers.proofs.AesGcmLemmas.StreamLanes.{below_16}
use Rattle.ciphers.proofs.aes_gcm.streams.row.Goals as goal

pub returns : goal.returns
returns c =
    let e : c.args.at ≡ c.args.at + 16 * 0 = omega arith in
    record {
      lanes = below_16 _ (ap (slice_index c.args.bytes.now) e) refl refl refl refl refl refl refl refl refl refl refl refl refl refl refl;
      long = refl;
    }
