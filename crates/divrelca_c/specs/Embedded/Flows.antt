-- The account of what goes to and fro on the channels of an end.
--     FlowCounts, flows_of         what is kept of a channel, and of each, at its number
--     changed_at                   this is changed of one channel
--     heard                        the account after a fact that the end told
--     after_ask                    the account after an ask that the end answered
--     finished, due_on             bytes are done with, and what is given back then
--     given_back                   that was given back
--     begun_on                     how many channels began at a number
use Rattle.std.specs.Prelude.{◌+◌, ◌%◌, ◌^◌, ℕ, Option, Some, None, List, Result, Ok, Err, length, map, option_map, slice_get, slice_set}
use Rattle.ssh_model.specs.Protocol.Sessions.Items as session
use Rattle.ssh_model.specs.Protocol.Sessions.Items.{Fact, Fact.Confirmed, Fact.GotData, Fact.Opened}
use Rattle.ssh_end_machine.specs.declared.asking.outcome.AskStep.{AskStep}
use Rattle.ssh_end_machine.specs.declared.asking.outcome.Fault.{Fault}
use Rattle.divrelca.specs.Windows.{Counts, after_finishing, after_giving_back, after_taking, counts_of, due_of, offered}
use Rattle.divrelca_c.specs.declared.embedded.flows.Flow.{Flow}
use Rattle.divrelca_c.specs.declared.embedded.flows.Flows.{Flows}

-- the largest data of one packet that the peer takes on a channel, 0 before it said so; what the window counts that it was given; and how
-- many channels began at its number so far, with it
pub record FlowCounts : Type 0 where
  pub max_packet : ℕ
  pub window : Counts
  pub begun : ℕ

abbrev pub flow_of : Flow → FlowCounts
flow_of flow = record { max_packet = flow.max_packet; window = counts_of flow.window; begun = flow.begun }

abbrev pub flows_of : Flows → List FlowCounts
flows_of flows = map flow_of flows.list.items

-- what is kept of a number at which no channel began
abbrev pub no_flow : FlowCounts
no_flow = record { max_packet = 0; window = offered 0; begun = 0 }

-- A channel begins at the number, and nothing went on it yet. It is one more than began there before, counted up to 2^64.
abbrev pub begun_flow : (max_packet window : ℕ) → FlowCounts → FlowCounts
begun_flow max_packet window flow = record { max_packet = max_packet; window = offered window; begun = (flow.begun + 1) % 2 ^ 64 }

-- This is kept of a channel, where it is one.
abbrev pub put_at : (channel : ℕ) → Option FlowCounts → List FlowCounts → List FlowCounts
put_at channel None flows = flows
put_at channel (Some flow) flows = slice_set flows channel flow

-- What is kept of the channel with this number is changed, where there is one. All others stay.
abbrev pub changed_at : (channel : ℕ) → (FlowCounts → FlowCounts) → List FlowCounts → List FlowCounts
changed_at channel change flows = put_at channel (option_map change (slice_get flows channel)) flows

-- ---- what an end told

-- The peer opened a channel, or confirmed one, and said how much it takes at once; or data came.
abbrev pub heard_of : Fact → List FlowCounts → List FlowCounts
heard_of (Opened channel kind window most rest) flows = changed_at channel (begun_flow most 0) flows
heard_of (Confirmed channel window most rest) flows = changed_at channel (λ flow. record flow { max_packet = most }) flows
heard_of (GotData channel kind body) flows =
    changed_at channel (λ flow. record flow { window = after_taking (length body) flow.window }) flows
heard_of _ flows = flows

-- the same where something was told
abbrev pub heard : Option Fact → List FlowCounts → List FlowCounts
heard None flows = flows
heard (Some fact) flows = heard_of fact flows

-- ---- what an end did on an ask

-- It opened a channel with this window, or confirmed one of the peer's with it.
abbrev pub opened_by : session.Ask → (opening : Option ℕ) → List FlowCounts → List FlowCounts
opened_by (session.Ask.AskOpen kind window most rest) (Some channel) flows = changed_at channel (begun_flow 0 window) flows
opened_by (session.Ask.AskConfirm channel window most rest) opening flows =
    changed_at channel (λ flow. record flow { window = offered window }) flows
opened_by asked opening flows = flows

-- A refused ask changes nothing.
abbrev pub after_ask : session.Ask → Result AskStep Fault → List FlowCounts → List FlowCounts
after_ask asked (Ok step) flows = opened_by asked step.opening flows
after_ask asked (Err why) flows = flows

-- ---- what a program is done with

-- So many bytes that came on the channel are done with.
abbrev pub finished : (channel bytes : ℕ) → List FlowCounts → List FlowCounts
finished channel bytes flows = changed_at channel (λ flow. record flow { window = after_finishing bytes flow.window }) flows

-- what is given back now of the window that is kept, if one is
abbrev pub due_in : Option FlowCounts → Option ℕ
due_in None = None
due_in (Some flow) = due_of flow.window.size flow.window.done

-- what is given back now on the channel with this number
abbrev pub due_on : List FlowCounts → (channel : ℕ) → Option ℕ
due_on flows channel = due_in (slice_get flows channel)

-- What was done with was given back.
abbrev pub given_back : (channel : ℕ) → List FlowCounts → List FlowCounts
given_back channel flows = changed_at channel (λ flow. record flow { window = after_giving_back flow.window }) flows

-- ---- what a packet takes

-- the largest data of one packet that the peer takes on a channel, 0 where there is no such channel
abbrev pub most_in : Option FlowCounts → ℕ
most_in None = 0
most_in (Some flow) = flow.max_packet

abbrev pub most_on : List FlowCounts → (channel : ℕ) → ℕ
most_on flows channel = most_in (slice_get flows channel)

-- ---- whose number it is

-- how many channels began at the number with this account, none where there is no account
abbrev pub begun_in : Option FlowCounts → ℕ
begun_in None = 0
begun_in (Some flow) = flow.begun

-- how many channels began at this number so far; 0 where there is no number
abbrev pub begun_on : List FlowCounts → (channel : Option ℕ) → ℕ
begun_on flows None = 0
begun_on flows (Some channel) = begun_in (slice_get flows channel)
