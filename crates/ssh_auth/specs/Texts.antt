-- The text that a signature of a request covers.
use Rattle.std.specs.Prelude.{ℕ, ◌+◌, ◌<◌, ◌^◌, List, ◌∷◌, ◌++◌, length, codes}
use Rattle.ssh_model.specs.Protocol.Bounds.{largest_packet}
use Rattle.ssh_model.specs.Protocol.KeyExchange.Exchange.{string_of}
use Rattle.ssh_model.specs.Protocol.Authentication.Requests.{signed_text}
use Rattle.ssh_auth.specs.declared.signed_text.SignedText.{SignedText}

-- The largest text of a request that comes in one packet. The text has a session id before the part that the packet has.
abbrev pub longest_text : ℕ
longest_text = largest_packet + 36

abbrev pub text_of : SignedText → List ℕ
text_of t = signed_text t.session.now t.user.now t.service.now t.algorithm.now t.key.now

-- Each length fits into the uint32 that stands before its string.
pub record IsShortText (t : SignedText) : Type 0 where
  pub user : length t.user.now < 2 ^ 32
  pub service : length t.service.now < 2 ^ 32
  pub algorithm : length t.algorithm.now < 2 ^ 32
  pub key : length t.key.now < 2 ^ 32

-- the two parts of the text, which are written one after the other
abbrev pub front_of : (session user service : List ℕ) → List ℕ
front_of session user service = string_of session ++ 50 ∷ string_of user ++ string_of service

abbrev pub back_of : (algorithm key : List ℕ) → List ℕ
back_of algorithm key = string_of (codes "publickey") ++ 1 ∷ string_of algorithm ++ string_of key
