use Rattle.std.proofs.Common.{◌≡◌, ◌∷◌, ℕ, length, take, subst, refl, rules, arith}
use Rattle.ssh_model.specs.Protocol.Wire.DataTypes.{number}
use Rattle.ssh_model.specs.Protocol.KeyExchange.Exchange.{blocks, key_front}
use Rattle.ssh_kex.specs.Values.{letter_of}
use Rattle.ssh_kex.proofs.Blocks.{filled_up}
use Rattle.ssh_kex.proofs.keys.derive.Goals as goal

pub returns : goal.returns
returns c =
    let front = key_front (number c.args.shared.now) c.args.hash.now in
    let begin = letter_of c.args.letter ∷ c.args.session_id.now in
    let l = c.loop-out in
    subst (λ (n : ℕ). c.put_at-2.new.out ≡ take n (blocks front begin n)) l.auto.out
    (filled_up front begin l.out l.block c.put_at-2.new.out l.chain l.filled (length l.out) l.invariant.blocks l.invariant.within (omega arith) refl (search rules) c.put_at-2.ensures)
