-- What a peer can make an end do: how many messages and bytes it puts out, and the bounds of what it keeps (own).
use Rattle.std.specs.Prelude.{◌≡◌, ℕ, suc, ◌+◌, ◌*◌, ◌≤◌, ◌<◌, List, [], ◌∷◌, length, true}
use Rattle.ssh_model.specs.Protocol.Bounds.{largest_packet, most_channels, most_owed_replies, most_waiting_globals, most_waiting_requests}
use Rattle.ssh_model.specs.declared.side.Side.{Side}
use Rattle.ssh_model.specs.declared.side.Side.TheVariants.{Server}
use Rattle.ssh_model.specs.Protocol.Sessions.Parties.{Parties}
use Rattle.ssh_model.specs.Protocol.Sessions.Items.{Item, Item.Asked, took, messages_sent}
use Rattle.ssh_model.specs.Protocol.Sessions.Phases.{failures}
use Rattle.ssh_model.specs.Protocol.Channels.Connection.{notes, owed_replies, globals_here, globals_there}
use Rattle.ssh_model.specs.Protocol.Channels.Numbers.{waiting_here, waiting_there}
use Rattle.ssh_model.specs.Protocol.Sessions.Claims.{holds}

-- how many asks of its user an end answered or refused
abbrev pub asked : List Item → ℕ
asked [] = 0
asked (Asked ask ∷ h) = suc (asked h)
asked (_ ∷ h) = asked h

-- The messages that an end sent, with the replies that it owes, are at most two, and one for each ask of its user, and three for
-- each packet that it took. The two are its first KEXINIT and its DISCONNECT. So a peer can't make an end put out or keep more and more
-- for the same bytes.
abbrev pub AnswersFew : Side → List Item → Type 0
AnswersFew side h = length (messages_sent h) + length (owed_replies side h) ≤ 2 + asked h + 3 * length (took h)

-- The bounds of what an end keeps, whoever its peer is: the replies that it owes, the numbers of its channels, the global requests
-- and the requests on each channel that wait at either end, and, at a server, the requests for authentication that failed.
pub record KeepsBounds {K : Type 0} (p : Parties K) (side : Side) (h : List Item) : Type 0 where
  pub owed : length (owed_replies side h) ≤ most_owed_replies
  pub channels : (x : ℕ) → holds side h x ≡ true → x < most_channels
  pub globals_here : globals_here h ≤ most_waiting_globals
  pub globals_there : globals_there h ≤ most_waiting_globals
  pub requests_here : (x : ℕ) → waiting_here x (notes side h) ≤ most_waiting_requests
  pub requests_there : (x : ℕ) → waiting_there x (notes side h) ≤ most_waiting_requests
  pub tries : side ≡ Server → failures h ≤ p.server.tries

-- These bytes are no more than a version line with CR LF and, for each message sent, the largest packet.
abbrev pub PutsOutFew : List Item → List ℕ → Type 0
PutsOutFew h bytes = length bytes ≤ 255 + largest_packet * length (messages_sent h)
