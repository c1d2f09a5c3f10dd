use Rattle.ssh_held.specs.Book.{is_about, is_on_signature}
use Rattle.ssh_held.specs.declared.book.Verdict.{Verdict}
use Rattle.ssh_held.proofs.Finding.{first_found, found_before, found_no_later, no_later}
use Rattle.ssh_held.proofs.laws.first_verdict_counts.Goals as goal

pub returns : goal.returns
returns c = record {
  kept = λ verdicts more user method.
      found_before (λ (v : Verdict). is_about user method v.asked) (λ (v : Verdict). v.accepts) verdicts more;
  other = λ verdicts verdict user method.
      found_no_later (λ (v : Verdict). is_about user method v.asked) (λ (v : Verdict). v.accepts) verdicts verdict;
  kept_signature = λ verdicts more algorithm key signature.
      first_found (λ (v : Verdict). is_on_signature algorithm key signature v.asked) verdicts more;
  other_signature = λ verdicts verdict algorithm key signature.
      no_later (λ (v : Verdict). is_on_signature algorithm key signature v.asked) verdicts verdict;
}
