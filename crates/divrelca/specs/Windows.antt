-- The window of a channel: what it counts, and what a call makes of that.
use Rattle.std.specs.Prelude.{◌/◌, ◌&&◌, ◌+◌, ◌-◌, ℕ, if◌then◌else◌, min, nat_le, nat_lt, Option, Some, None}
use Rattle.divrelca.specs.declared.window.Window.{Window}

-- the bytes that are given back now to a window: all that are done with, if they are at least half of the window
abbrev pub due_of : (size done : ℕ) → Option ℕ
due_of size done = if nat_lt 0 done && nat_le (size / 2) done then Some done else None

-- What was offered, what may still come, what came and is not done with, and what is done with and not given back.
pub record Counts : Type 0 where
  pub size : ℕ
  pub granted : ℕ
  pub held : ℕ
  pub done : ℕ

abbrev pub counts_of : Window → Counts
counts_of w = record { size = w.size; granted = w.granted; held = w.held; done = w.done }

-- a window of this size, of which nothing is used
abbrev pub offered : (size : ℕ) → Counts
offered size = record { size = size; granted = size; held = 0; done = 0 }

-- So many bytes came. No more count than may come.
abbrev pub after_taking : (bytes : ℕ) → Counts → Counts
after_taking bytes w = record w { granted = w.granted - min bytes w.granted; held = w.held + min bytes w.granted }

-- So many are done with. No more count than are held.
abbrev pub after_finishing : (bytes : ℕ) → Counts → Counts
after_finishing bytes w = record w { held = w.held - min bytes w.held; done = w.done + min bytes w.held }

-- What is done with was given back.
abbrev pub after_giving_back : Counts → Counts
after_giving_back w = record w { granted = w.granted + w.done; done = 0 }
