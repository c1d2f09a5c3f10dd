use Rattle.ciphers.proofs.ed25519.scalar.scalar_of.Goals as goal
use Rattle.ciphers.specs.X25519.Values.{four_words}

pub returns : goal.returns
returns c = rw (c.word_of.ensures, c.word_of-2.ensures, c.word_of-3.ensures, c.word_of-4.ensures) (four_words c.args.bytes.now c.told-bytes)
