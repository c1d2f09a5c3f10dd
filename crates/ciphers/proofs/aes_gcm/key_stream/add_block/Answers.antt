use Rattle.std.proofs.Common.{◌≡◌, ℕ, length, bit_xor, ap₂, ◌∙◌, arith}
use Rattle.std.proofs.lemmas.Simd.{get_or-chunk, get_or-put_chunk_above, get_or-put_chunk_at, get_or-put_chunk_below, length-chunk}
use lib.Lanes.{chunk, zip2}
use Rattle.ciphers.proofs.AesGcmLemmas.VectorLanes.{xor_lane, xor_long}
use Rattle.ciphers.proofs.aes_gcm.key_stream.add_block.Goals as goal

pub returns-else-text-at-lt16-clause-here : goal.returns-else-text-at-lt16-clause-here
returns-else-text-at-lt16-clause-here c i h fits =
    let text = c.args.text.now in
    let at : ℕ = c.args.at in
    let a = chunk at 16 text in
    let b = chunk c.args.from 16 c.args.bytes.now in
    let la : length a ≡ 16 = length-chunk at 16 text (omega (arith, c.if-text-at-lt16.false)) in
    let lb : length b ≡ 16 = length-chunk c.args.from 16 c.args.bytes.now c.requires.bytes in
    let ls : length (zip2 bit_xor a b) ≡ 16 = xor_long a b la lb in
    get_or-put_chunk_at at text (zip2 bit_xor a b) i 0 (omega (arith, ls)) (omega (arith, ls, c.if-text-at-lt16.false))
    ∙ xor_lane a b i la lb h ∙ ap₂ bit_xor (get_or-chunk at 16 text i 0 h) (get_or-chunk c.args.from 16 c.args.bytes.now i 0 h)

pub returns-else-text-at-lt16-clause-before : goal.returns-else-text-at-lt16-clause-before
returns-else-text-at-lt16-clause-before c i h = get_or-put_chunk_below c.args.at c.args.text.now _ i 0 h

pub returns-else-text-at-lt16-clause-after : goal.returns-else-text-at-lt16-clause-after
returns-else-text-at-lt16-clause-after c i h =
    let text = c.args.text.now in
    let at : ℕ = c.args.at in
    let a = chunk at 16 text in
    let b = chunk c.args.from 16 c.args.bytes.now in
    let la : length a ≡ 16 = length-chunk at 16 text (omega (arith, c.if-text-at-lt16.false)) in
    let lb : length b ≡ 16 = length-chunk c.args.from 16 c.args.bytes.now c.requires.bytes in
    let ls : length (zip2 bit_xor a b) ≡ 16 = xor_long a b la lb in
    get_or-put_chunk_above at text (zip2 bit_xor a b) i 0 (omega (arith, ls, h))
