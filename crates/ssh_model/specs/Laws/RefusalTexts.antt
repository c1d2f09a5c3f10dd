-- The words in which a refusal of a peer, or of an ask, is told to people.
use Rattle.std.specs.Prelude.{ℕ, List, codes}
use Rattle.ssh_model.specs.declared.refusal.Refusal.{Refusal}
use Rattle.ssh_model.specs.declared.refusal.Refusal.TheVariants as refusals
use Rattle.ssh_model.specs.declared.ask_refusal.AskRefusal.{AskRefusal}
use Rattle.ssh_model.specs.declared.ask_refusal.AskRefusal.TheVariants as ask_refusals

-- why an end refuses its peer
abbrev pub refusal_text : Refusal → List ℕ
refusal_text refusals.BadLine = codes "a line before the first packet is malformed"
refusal_text refusals.BadVersion = codes "the version of the protocol is not accepted"
refusal_text refusals.BadLength = codes "a packet's length is none that a packet can have"
refusal_text refusals.BadPadding = codes "a packet's padding is too short, or leaves no payload"
refusal_text refusals.BadTag = codes "a packet's MAC does not verify"
refusal_text refusals.BadMessage = codes "a message is malformed"
refusal_text refusals.Unexpected = codes "a message came that may not come here"
refusal_text refusals.NoCommon = codes "the two ends have no algorithm in common"
refusal_text refusals.NotStrict = codes "the peer does not offer strict key exchange"
refusal_text refusals.BadPoint = codes "a public point is not valid"
refusal_text refusals.BadHost = codes "the host is not trusted"
refusal_text refusals.NoMaterial = codes "no cookie and secret are kept for a key exchange"
refusal_text refusals.NoService = codes "the service is not available"
refusal_text refusals.NumberSpent = codes "all sequence numbers of the epoch are used"
refusal_text refusals.TooManyTries = codes "too many requests for authentication failed"
refusal_text refusals.UnknownChannel = codes "a message is for a channel that is not there"
refusal_text refusals.WindowOverrun = codes "data overrun a window"
refusal_text refusals.WindowTooLarge = codes "a window would pass 2^32 - 1 bytes"
refusal_text refusals.OwedFull = codes "too many replies are owed"

-- why an end refuses an ask
abbrev pub ask_refusal_text : AskRefusal → List ℕ
ask_refusal_text ask_refusals.NotYet = codes "the ask comes too early"
ask_refusal_text ask_refusals.Busy = codes "another request is under way"
ask_refusal_text ask_refusals.NoChannel = codes "there is no such channel"
ask_refusal_text ask_refusals.NoRoom = codes "the window is too small"
ask_refusal_text ask_refusals.TooLong = codes "the message would be too long"
ask_refusal_text ask_refusals.Ended = codes "it is over already"
ask_refusal_text ask_refusals.TableFull = codes "no more channels can be opened"
ask_refusal_text ask_refusals.NothingOwed = codes "no request waits for a reply"
ask_refusal_text ask_refusals.RekeyDue = codes "a key exchange is due first"
ask_refusal_text ask_refusals.TooMuch = codes "a window or a packet size is out of its bounds"
ask_refusal_text ask_refusals.WrongSide = codes "it is for the other end"
ask_refusal_text ask_refusals.NoMaterial = codes "no cookie and secret are kept for a key exchange"
