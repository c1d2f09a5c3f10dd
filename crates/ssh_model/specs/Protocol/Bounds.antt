-- The bounds that an end keeps. Each is defined here once, and checks and claims cite it by its name (own, if nothing else is said).
use Rattle.std.specs.Prelude.{ℕ, ◌-◌, ◌^◌}

-- the bytes of a packet with its length field and its tag; every end has to take at least so many (RFC 4253 section 6.1)
abbrev pub largest_packet : ℕ
largest_packet = 35000

-- the bytes of a payload that is sent, so that its packet never exceeds `largest_packet`
abbrev pub longest_payload : ℕ
longest_payload = 34000

-- the bytes of the tag after a packet
abbrev pub longest_tag : ℕ
longest_tag = 64

-- the bytes of an IV, of a cipher's key and of a MAC's key (RFC 4253 section 7.2, own)
abbrev pub longest_key_material : ℕ
longest_key_material = 64

-- the other lines that a server sends before its version line
abbrev pub most_other_lines : ℕ
most_other_lines = 64

-- the bytes of a name that the standard defines, such as each name of a name-list (RFC 4251 section 6)
abbrev pub longest_name : ℕ
longest_name = 64

-- the bytes of a user's public key, for the server to know the key
abbrev pub longest_user_key : ℕ
longest_user_key = 16384

-- the bytes of the name of such a key's algorithm
abbrev pub longest_algorithm_name : ℕ
longest_algorithm_name = 64

-- the bytes of data in one message, and those that an end lets the peer send in one (RFC 4254 section 5.1, own)
abbrev pub largest_data : ℕ
largest_data = 32768

-- the numbers that an end has for channels, counted from 0
abbrev pub most_channels : ℕ
most_channels = 1024

-- the bytes of a channel's window (RFC 4254 section 5.2)
abbrev pub largest_window : ℕ
largest_window = 2 ^ 32 - 1

-- the requests of one side on one channel that wait for a reply at the same time (RFC 4254 section 5.4, own)
abbrev pub most_waiting_requests : ℕ
most_waiting_requests = 256

-- the global requests of one side that wait for a reply at the same time (RFC 4254 section 4, own)
abbrev pub most_waiting_globals : ℕ
most_waiting_globals = 256

-- the replies that an end owes while it is blocked by a key exchange
abbrev pub most_owed_replies : ℕ
most_owed_replies = 256

-- the bytes of the description in a DISCONNECT that the user asks for
abbrev pub longest_description : ℕ
longest_description = 1024

-- the sequence numbers of an epoch, and so the packets that one key can seal (RFC 4253 section 6.4, RFC 4344 section 3.1)
abbrev pub numbers_of_epoch : ℕ
numbers_of_epoch = 2 ^ 32

-- the key exchanges of one end: each uses fed material of its own
abbrev pub most_exchanges : ℕ
most_exchanges = 2 ^ 32 - 1
