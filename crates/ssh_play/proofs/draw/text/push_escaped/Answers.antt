use Rattle.std.proofs.Common.{flat_map, sym, ap, ◌∙◌, ◌++◌, map-id, string_bytes}
use Rattle.std.proofs.lemmas.Iterator.{YieldsList-from_chars}
use Rattle.std.proofs.lemmas.Iterator.Consumers.{YieldsList-end}
use Rattle.ssh_play.specs.Texts.{escaped_char}
use Rattle.ssh_play.proofs.draw.text.push_escaped.Goals as goal

pub returns : goal.returns
returns c =
    let end = YieldsList-end (YieldsList-from_chars c.args.text.now c.utf8.text cc) c.loop-letter.yielded _ c.loop-letter.yielded_by _ _ c.in-None.is c.next.ensures.steps in
    c.loop-letter.invariant ∙ ap (λ letters. string_bytes c.args.out.now ++ flat_map escaped_char letters) (sym (map-id c.loop-letter.yielded) ∙ end.0)
