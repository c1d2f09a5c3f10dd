use Rattle.std.proofs.Common.{refl}
use Rattle.std.proofs.lemmas.Str.Ascii.{trim_ascii_is}
use Rattle.divrelca.specs.PrivateKeys.{from_text, trimmed}
use Rattle.divrelca.proofs.key_files.armor.trimmed.Goals as goal

pub returns : goal.returns
unfolding trimmed from_text
returns c = trim_ascii_is c.args.line.now c.trim_ascii.result.now (from_text c.args.line.now) refl c.trim_ascii.ensures.value
