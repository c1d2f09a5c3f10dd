use Rattle.ssh_auth.proofs.SignedTexts.{no_long_text}
use Rattle.ssh_auth.proofs.laws.signed_texts_fit.Goals as goal

pub returns : goal.returns
returns c = λ judge session server probing message payload id read most x. no_long_text judge session server probing message payload id read most x
