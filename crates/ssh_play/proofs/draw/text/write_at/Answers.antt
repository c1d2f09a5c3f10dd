use Rattle.std.proofs.Common.{◌≡◌, ℕ, List, ◌∙◌, ◌++◌, ap, append_assoc, rules}
use Rattle.ssh_play.proofs.draw.text.write_at.Goals as goal

joined : (s₀ s₁ s₂ s₃ tag text end : List ℕ) → s₁ ≡ s₀ ++ tag → s₂ ≡ s₁ ++ text → s₃ ≡ s₂ ++ end → s₃ ≡ s₀ ++ (tag ++ (text ++ end))
joined s₀ s₁ s₂ s₃ tag text end a b c = c ∙ ap (λ s. s ++ end) (b ∙ ap (λ s. s ++ text) a) ∙ simp append_assoc

pub returns : goal.returns
returns c =
    let tag = rw (c.anchor_of-x.ensures.x, c.anchor_of-x.ensures.word, c.in-Some.ensures.place) at c.in_ok-write.ensures.bytes in
    record {
      there = λ _. record {
        shown = c.cut.result.0.now;
        mark = c.cut.result.1.now;
        cut = rw c.in-Some.ensures.place at c.cut.ensures;
        written = joined _ _ _ _ _ _ _ tag c.in_ok-push_escaped.ensures c.in_ok-writeln.ensures.bytes;
      };
      nowhere = λ none. absurd (none (search rules));
    }
