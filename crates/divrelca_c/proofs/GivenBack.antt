-- What is due is asked for, and counts as given back.
use Rattle.std.proofs.Common.{◌≡◌, ◌++◌, ◌∷◌, ℕ, List, [], Some, false, subst}
use Rattle.ssh_model.specs.Protocol.Sessions.Items as session
use Rattle.ssh_end_machine.specs.Asking.{ask_of}
use Rattle.ssh_end_machine.specs.declared.asking.Ask.{Ask}
use Rattle.divrelca_c.specs.Embedded.Flows.{FlowCounts, due_on, finished, given_back}
use Rattle.divrelca_c.specs.Embedded.Queues.{GivesBack, PutsUnless, giving_back, left_by, put_in}
use Rattle.divrelca_c.specs.declared.embedded.waiting.Queued.{Queued}
use Rattle.divrelca_c.specs.declared.embedded.waiting.Waiting.TheVariants as waiting

pub gives_back : (channel bytes due : ℕ) (flows later last : List FlowCounts) (old new : List Queued) (ask : Ask) →
    later ≡ finished channel bytes flows → Some due ≡ due_on later channel → ask_of ask ≡ session.Ask.AskAdjust channel due →
    new ≡ old ++ put_in (waiting.Known ask) later ∷ [] → last ≡ given_back channel later →
    GivesBack channel bytes flows false old new last
gives_back channel bytes due flows later last old new ask done is asks put given =
    let queued : PutsUnless false (giving_back channel (due_on later channel)) later old new =
    subst (λ it. PutsUnless false (giving_back channel it) later old new) is (record { ask = ask; is = asks; last = put }) in
    let left : last ≡ left_by false (due_on later channel) channel later = subst (λ it. last ≡ left_by false it channel later) is given in
    record {
      put = subst (λ (it : List FlowCounts). PutsUnless false (giving_back channel (due_on it channel)) it old new) done queued;
      flows_are = subst (λ (it : List FlowCounts). last ≡ left_by false (due_on it channel) channel it) done left;
    }
