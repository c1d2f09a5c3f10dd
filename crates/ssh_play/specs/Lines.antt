-- The lines of a transcript, each without the letter of its side: the words by which they name what was asked and told, and the numbers
-- after the words.
use Rattle.std.specs.Prelude.{ℕ, Bool, if◌then◌else◌, List, ◌++◌, codes, decimal, length, Some, None}
use Rattle.ssh_model.specs.Protocol.Sessions.Turns.{number_of}
use Rattle.ssh_model.specs.Protocol.Wire.Message.{message_name}
use Rattle.ssh_end_machine.specs.declared.ask_kind.AskKind.{AskKind}
use Rattle.ssh_end_machine.specs.declared.ask_kind.AskKind.TheVariants as kind
use Rattle.ssh_end_machine.specs.declared.told_kind.ToldKind.{ToldKind}
use Rattle.ssh_end_machine.specs.declared.told_kind.ToldKind.TheVariants as fact

-- the word by which a script asks for this
abbrev pub word_of_ask : AskKind → List ℕ
word_of_ask kind.Service = codes "service"
word_of_ask kind.None = codes "none"
word_of_ask kind.Password = codes "password"
word_of_ask kind.Probe = codes "probe"
word_of_ask kind.Sign = codes "sign"
word_of_ask kind.Rekey = codes "rekey"
word_of_ask kind.Open = codes "open"
word_of_ask kind.Confirm = codes "confirm"
word_of_ask kind.Refuse = codes "refuse"
word_of_ask kind.Data = codes "data"
word_of_ask kind.Extended = codes "extended"
word_of_ask kind.Adjust = codes "adjust"
word_of_ask kind.Eof = codes "eof"
word_of_ask kind.Close = codes "close"
word_of_ask kind.Request = codes "request"
word_of_ask kind.Reply = codes "reply"
word_of_ask kind.Global = codes "global"
word_of_ask kind.GlobalReply = codes "globalreply"
word_of_ask kind.Disconnect = codes "disconnect"

-- the word by which a line tells this
abbrev pub word_of_fact : ToldKind → List ℕ
word_of_fact (fact.Completed position) = codes "completed"
word_of_fact fact.Service = codes "service"
word_of_fact fact.Accepted = codes "accepted"
word_of_fact (fact.Authenticated request) = codes "authenticated"
word_of_fact fact.Failed = codes "failure"
word_of_fact fact.Banner = codes "banner"
word_of_fact fact.KeyOk = codes "key_ok"
word_of_fact fact.Ignored = codes "ignored"
word_of_fact fact.Extensions = codes "ext_info"
word_of_fact fact.Debugged = codes "debug"
word_of_fact (fact.Unimplemented number) = codes "unimplemented"
word_of_fact (fact.Disconnected reason) = codes "disconnected"
word_of_fact fact.Global = codes "global"
word_of_fact (fact.GlobalDone success) = codes "global_done"
word_of_fact (fact.Opening channel) = codes "opening"
word_of_fact (fact.Opened channel) = codes "open"
word_of_fact (fact.Confirmed channel) = codes "confirmed"
word_of_fact (fact.OpenFailed channel reason) = codes "open_failed"
word_of_fact (fact.GotData channel None size) = codes "data"
word_of_fact (fact.GotData channel (Some type) size) = codes "extended"
word_of_fact (fact.Adjusted channel bytes) = codes "adjusted"
word_of_fact (fact.Ended channel) = codes "eof"
word_of_fact (fact.Closed channel) = codes "closed"
word_of_fact (fact.Requested channel) = codes "request"
word_of_fact (fact.RequestDone channel success) = codes "request_done"

-- an answer in a word
abbrev pub yes_or_no : Bool → List ℕ
yes_or_no success = if success then codes "yes" else codes "no"

-- a space, a word, and the end of the line
abbrev pub last_word : List ℕ → List ℕ
last_word word = codes " " ++ (word ++ codes "\n")

-- a number before other words
abbrev pub one_number : ℕ → List ℕ → List ℕ
one_number n rest = codes " " ++ (decimal n ++ rest)

-- a word before others
abbrev pub one_word : List ℕ → List ℕ → List ℕ
one_word word rest = codes " " ++ (word ++ rest)

-- the end of a line that tells this, after its word: the numbers, and a count of extensions or an answer
abbrev pub after_word : ToldKind → (extensions : ℕ) → List ℕ
after_word (fact.Completed position) extensions = last_word (decimal position)
after_word (fact.Unimplemented number) extensions = last_word (decimal number)
after_word (fact.Disconnected reason) extensions = last_word (decimal reason)
after_word (fact.Opening channel) extensions = last_word (decimal channel)
after_word (fact.Opened channel) extensions = last_word (decimal channel)
after_word (fact.Confirmed channel) extensions = last_word (decimal channel)
after_word (fact.Ended channel) extensions = last_word (decimal channel)
after_word (fact.Closed channel) extensions = last_word (decimal channel)
after_word (fact.Requested channel) extensions = last_word (decimal channel)
after_word fact.Extensions extensions = last_word (decimal extensions)
after_word (fact.GlobalDone success) extensions = last_word (yes_or_no success)
after_word (fact.OpenFailed channel reason) extensions = one_number channel (last_word (decimal reason))
after_word (fact.GotData channel None size) extensions = one_number channel (last_word (decimal size))
after_word (fact.GotData channel (Some type) size) extensions = one_number channel (one_number type (last_word (decimal size)))
after_word (fact.Adjusted channel bytes) extensions = one_number channel (last_word (decimal bytes))
after_word (fact.RequestDone channel success) extensions = one_number channel (last_word (yes_or_no success))
after_word _ extensions = codes "\n"

-- the line of a message that was sent or taken: its number, its name and how many bytes it has
abbrev pub message_line : (verb payload : List ℕ) → List ℕ
message_line verb payload =
    verb ++ one_number (number_of payload) (one_word (message_name (number_of payload)) (last_word (decimal (length payload))))
