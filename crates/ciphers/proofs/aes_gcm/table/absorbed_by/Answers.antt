use Rattle.std.proofs.Common.{◌≡◌, ℕ, ◌-◌, ◌/◌, ◌<◌, List, drop, length, subst, ◌∙◌, arith, length-drop}
use Rattle.std.proofs.lemmas.List.{take_all}
use Rattle.ciphers.specs.AesGcm.Streams.{byte_in, stream}
use Rattle.ciphers.proofs.AesGcmLemmas.Joined.{streams_of_text}
use Rattle.ciphers.proofs.aes_gcm.table.absorbed_by.Goals as goal

pub returns : goal.returns
returns c =
    let t = c.args.table.now in
    let b = c.args.bytes.now in
    let all = c.begin.new.all in
    let done = c.gather.new.all in
    let whole = take_all (length b - 256) (drop 256 b) (omega (arith, length-drop 256 b)) in
    let made = subst (λ (r : List ℕ). (l j : ℕ) → l < 16 → j < 16 → byte_in done l j ≡ stream t (byte_in all) r (length r / 256) l j) whole c.gather.ensures.bytes in
    c.absorbed_from.ensures c.args.sum
    (c.absorbed_streams-sum.ensures ∙ streams_of_text t b all done c.args.key c.args.sum c.requires.table (λ i. (c.type_inv.table i).fits) (λ i. (c.type_inv.bytes i).fits) c.begin.ensures.fits
    (omega (arith, c.if-bytes-lt512.false)) c.begin.ensures.turned made)
