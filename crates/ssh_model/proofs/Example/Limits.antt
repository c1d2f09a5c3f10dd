-- What is refused where no more channels or replies fit.
use Rattle.std.specs.Prelude.{◌≡◌, ℕ, ◌∷◌, Bool, true, false, List, [], Some, None, map, ◌&&◌, refl}
use Rattle.ssh_model.specs.Protocol.Bounds.{most_owed_replies, most_waiting_globals, most_waiting_requests}
use Rattle.ssh_model.specs.declared.side.Side.TheVariants.{Client}
use Rattle.ssh_model.specs.Example.Histories.{refusal, ask_refusal, open_message}
use Rattle.ssh_model.specs.Example.Toys.{toy}
use Rattle.ssh_model.specs.Protocol.Wire.Message.{Msg.ChannelClose}
use Rattle.ssh_model.specs.Protocol.Sessions.Items.{Item, Ask.AskOpen}
use Rattle.ssh_model.specs.Protocol.Sessions.Phases.{blocked, authenticated}
use Rattle.ssh_model.specs.Protocol.Channels.Connection.{notes, is_full, is_limit_reached, is_owed_limit_reached, is_rekey_due}
use Rattle.ssh_model.specs.Protocol.Channels.Numbers.{is_confirmed, has_closed}
use Rattle.ssh_model.specs.declared.refusal.Refusal.TheVariants.{OwedFull}
use Rattle.ssh_model.specs.declared.ask_refusal.AskRefusal.TheVariants.{TableFull}
use Rattle.ssh_model.specs.Protocol.Sessions.Refusals.{Check.RefusedWhere, first_refusal}

few_owed : (full many : Bool) → many ≡ false → first_refusal (RefusedWhere (full && many) OwedFull ∷ []) ≡ None
few_owed true many e = rw e refl
few_owed false many e = refl

pub open_refused_while_many_are_owed_row : (h : List Item) → is_full Client h ≡ true → is_owed_limit_reached Client h ≡ true → refusal Client h open_message ≡ Some OwedFull
open_refused_while_many_are_owed_row h full many = rw (full, many) refl

pub open_while_few_are_owed_row : (h : List Item) → is_owed_limit_reached Client h ≡ false → refusal Client h open_message ≡ None
open_while_few_are_owed_row h few = few_owed (is_full Client h) (is_owed_limit_reached Client h) few

pub open_with_place_row : (h : List Item) → is_full Client h ≡ false → refusal Client h open_message ≡ None
open_with_place_row h place = rw place refl

pub close_refused_while_many_are_owed_row : (h : List Item) (x : ℕ) → is_confirmed x (notes Client h) ≡ true → has_closed x (notes Client h) ≡ false → is_owed_limit_reached Client h ≡ true → refusal Client h (ChannelClose x) ≡ Some OwedFull
close_refused_while_many_are_owed_row h x known mine many = rw (known, mine, many) refl

pub close_that_owes_nothing_row : (h : List Item) (x : ℕ) → is_confirmed x (notes Client h) ≡ true → has_closed x (notes Client h) ≡ true → refusal Client h (ChannelClose x) ≡ None
close_that_owes_nothing_row h x known mine = rw (known, mine) refl

pub many_requests_row : map (is_limit_reached most_waiting_requests) (255 ∷ 256 ∷ []) ≡ false ∷ true ∷ []
many_requests_row = refl

pub many_globals_row : map (is_limit_reached most_waiting_globals) (255 ∷ 256 ∷ []) ≡ false ∷ true ∷ []
many_globals_row = refl

pub many_replies_row : map (is_limit_reached most_owed_replies) (255 ∷ 256 ∷ []) ≡ false ∷ true ∷ []
many_replies_row = refl

pub many_are_owed_while_blocked_row : (h : List Item) → blocked h ≡ false → is_owed_limit_reached Client h ≡ false
many_are_owed_while_blocked_row h free = rw free refl

pub open_asked_without_place_row : (h : List Item) (window most : ℕ) → authenticated Client h ≡ true → blocked h ≡ false → is_rekey_due toy Client h ≡ false → is_full Client h ≡ true → ask_refusal Client h (AskOpen [] window most []) ≡ Some TableFull
open_asked_without_place_row h window most known free early full = rw (known, free, early, full) refl
