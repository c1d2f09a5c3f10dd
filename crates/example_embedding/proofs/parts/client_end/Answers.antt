use Rattle.example_embedding.proofs.parts.client_end.Goals as goal

pub returns-clause-opened : goal.returns-clause-opened
returns-clause-opened g c = record {
  padding = c.in_ok-padding.field-0;
  between = c.padding.new.self.source;
  seeded = c.in_ok-padding.ensures.seeded;
  fresh = rw c.in_ok-config.ensures at c.in_ok-open.ensures.fresh;
}
