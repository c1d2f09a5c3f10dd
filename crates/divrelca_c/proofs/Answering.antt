-- What C is answered where the program says something.
use Rattle.std.proofs.Common.{◌≡◌, ℕ, Bool, true, false, Err, IfOk, List, None, Ok, OnErr, Option, Result, Some, ap, refl}
use Rattle.ssh_held.specs.Hosts.{Signed}
use Rattle.divrelca_c.specs.Codes.{answered_code}
use Rattle.divrelca_c.specs.Embedded.Deciding.{Answered, HostAnswered, OnlyHosts, OnlyUsers, StandsSettled, StandsTrusting, is_open}
use Rattle.divrelca_c.specs.Embedded.Ends.{Client, Server}
use Rattle.divrelca_c.specs.Wanted.{AnswersHost, AnswersRequest, host_shown}

pub answers_request : {E : Type 0} (accepts : Bool) (given : Result Bool E) (old new : Server) →
    IfOk given (λ done. done ≡ true → Answered accepts old new) → (given ≡ Ok false → new ≡ old) →
    OnErr given (new.end.role.own.judge.book.list.items ≡ old.end.role.own.judge.book.list.items) →
    new.end.role.own.judge.list ≡ old.end.role.own.judge.list → (is_open old.ahead ≡ false → given ≡ Ok false) →
    IfOk given (λ done. done ≡ true → StandsSettled old new) → OnlyUsers old new → new ≡ record old { end = new.end; ahead = new.ahead } →
    AnswersRequest accepts (answered_code given) old new
answers_request accepts (Ok true) old new answered unchanged kept entries none stands rest same = record {
  answered = λ is. answered refl;
  unchanged = λ is. absurd (cc is);
  unasked = λ shut. absurd (cc (none shut));
  memory = λ done none. absurd (done refl);
  kept = λ done. absurd (done refl);
  entries = entries;
  stands = λ is. stands refl;
  rest = rest;
  same = same;
}
answers_request accepts (Ok false) old new answered unchanged kept entries none stands rest same = record {
  answered = λ is. absurd (cc is);
  unchanged = λ is. unchanged refl;
  unasked = λ shut. refl;
  memory = λ done none. absurd (none refl);
  kept = λ done. ap (λ (s : Server). s.end.role.own.judge.book.list.items) (unchanged refl);
  entries = entries;
  stands = λ is. absurd (cc is);
  rest = rest;
  same = same;
}
answers_request accepts (Err why) old new answered unchanged kept entries none stands rest same = record {
  answered = λ is. absurd (cc is);
  unchanged = λ is. absurd (cc is);
  unasked = λ shut. absurd (cc (none shut));
  memory = λ done none. refl;
  kept = λ done. kept;
  entries = entries;
  stands = λ is. absurd (cc is);
  rest = rest;
  same = same;
}

pub answers_host : {E : Type 0} (accepts : Bool) (given : Result Bool E) (old new : Client) →
    IfOk given (λ done. done ≡ true → HostAnswered accepts old new) → (given ≡ Ok false → new ≡ old) →
    OnErr given (new.end.role.exchange.host_trust.book.list.items ≡ old.end.role.exchange.host_trust.book.list.items) →
    new.end.role.exchange.host_trust.keys ≡ old.end.role.exchange.host_trust.keys → (is_open old.ahead ≡ false → given ≡ Ok false) →
    IfOk given (λ done. done ≡ true → StandsTrusting old new) → OnlyHosts old new → new ≡ record old { end = new.end; ahead = new.ahead } →
    AnswersHost accepts (answered_code given) old new
answers_host accepts (Ok true) old new answered unchanged kept keys none stands rest same = record {
  answered = λ is. answered refl;
  unchanged = λ is. absurd (cc is);
  unasked = λ shut. absurd (cc (none shut));
  memory = λ done none. absurd (done refl);
  kept = λ done. absurd (done refl);
  keys = keys;
  stands = λ is. stands refl;
  rest = rest;
  same = same;
}
answers_host accepts (Ok false) old new answered unchanged kept keys none stands rest same = record {
  answered = λ is. absurd (cc is);
  unchanged = λ is. unchanged refl;
  unasked = λ shut. refl;
  memory = λ done none. absurd (none refl);
  kept = λ done. ap (λ (s : Client). s.end.role.exchange.host_trust.book.list.items) (unchanged refl);
  keys = keys;
  stands = λ is. absurd (cc is);
  rest = rest;
  same = same;
}
answers_host accepts (Err why) old new answered unchanged kept keys none stands rest same = record {
  answered = λ is. absurd (cc is);
  unchanged = λ is. absurd (cc is);
  unasked = λ shut. absurd (cc (none shut));
  memory = λ done none. refl;
  kept = λ done. kept;
  keys = keys;
  stands = λ is. absurd (cc is);
  rest = rest;
  same = same;
}

-- ---- what is shown

-- The algorithm is shown, whichever question on a host it is.
pub algorithm_shown : (algorithm key : List ℕ) (signed : Option Signed) → (host_shown algorithm key signed).algorithm ≡ algorithm
algorithm_shown algorithm key None = refl
algorithm_shown algorithm key (Some signed) = refl
