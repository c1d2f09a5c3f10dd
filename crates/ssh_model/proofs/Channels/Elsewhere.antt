-- An end without channels, items of other layers, and what is shown.
use Rattle.std.proofs.Common.{◌≡◌, ℕ, zero, suc, List, [], ◌∷◌, replicate, refl, ap, sym, ◌∙◌, subst, Option, None}
use lib.ListN.{length-replicate}
use Rattle.ssh_model.specs.Protocol.Bounds.{most_channels}
use Rattle.ssh_model.specs.declared.side.Side.{Side}
use Rattle.ssh_model.specs.Protocol.Wire.Message.{Msg.NewKeys, Msg.GlobalRequest, Msg.RequestSuccess, Msg.RequestFailure, Msg.ChannelOpen, Msg.ChannelOpenConfirmation, Msg.ChannelOpenFailure, Msg.ChannelWindowAdjust, Msg.ChannelData, Msg.ChannelExtendedData, Msg.ChannelEof, Msg.ChannelClose, Msg.ChannelRequest, Msg.ChannelSuccess, Msg.ChannelFailure}
use Rattle.ssh_model.specs.Protocol.Sessions.Items.{Item, Item.Sent, Item.Took}
use Rattle.ssh_model.specs.Protocol.Channels.Notes.{Note}
use Rattle.ssh_model.specs.State.Channels.Rules.{EndRun, EndRun.start}
use Rattle.ssh_model.specs.Protocol.Channels.History as channel
use Rattle.ssh_model.specs.Protocol.Channels.History.{is_owed}
use Rattle.ssh_model.specs.State.Channels.Places.{Place, place, AreOwed, channel_state, room, count, at, shown_state, shown_room}
use Rattle.ssh_model.specs.Protocol.Channels.Connection.{notes, owed_replies, globals_here, globals_there}
use Rattle.ssh_model.specs.State.Channels.Kept.{Channels, no_channels, used}
use Rattle.ssh_model.specs.State.Channels.Summary.{LeavesChannels, IsNoNewkeys, SumsUp}
use Rattle.ssh_model.proofs.Channels.PlaceQueue.{place_none, room_is, state_is}
use Rattle.ssh_model.proofs.Channels.Summing.{count_is}

-- ---- no channel

none_at : (k x : ℕ) → at {A = Place} (replicate k None) x ≡ None
none_at zero x = refl
none_at (suc k) zero = refl
none_at (suc k) (suc x) = none_at k x

pub starts : (s : Side) → SumsUp s [] [] no_channels
starts s = record {
  run = start;
  places = λ x. none_at most_channels x ∙ sym (place_none s x [] [] refl refl);
  size = length-replicate {A = Option Place} most_channels None;
  queue = refl;
  settled = tt;
  here = refl;
  there = refl;
}

-- ---- items of other layers

same_sums : (s : Side) (h later : List Item) (o : List channel.Item) (c : Channels) → SumsUp s h o c → notes s later ≡ notes s h
    → globals_here later ≡ globals_here h → globals_there later ≡ globals_there h → SumsUp s later o c
same_sums s h later o c has e a b =
    let R : List Note → Type 0 = λ n. EndRun s n in
    let P : List Note → Type 0 = λ n. (y : ℕ) → at c.places y ≡ place s n o y in
    let Q : List Note → Type 0 = λ n. AreOwed o n in
    record {
      run = subst R (sym e) has.run;
      places = subst P (sym e) has.places;
      size = has.size;
      queue = has.queue;
      settled = subst Q (sym e) has.settled;
      here = has.here ∙ sym a;
      there = has.there ∙ sym b;
    }

pub kept_elsewhere : (s : Side) (h : List Item) (o : List channel.Item) (c : Channels) (i : Item) → LeavesChannels i → SumsUp s h o c → SumsUp s (i ∷ h) o c
kept_elsewhere s h o c (Sent x (GlobalRequest name want rest) payload) l has = elim l [ ]
kept_elsewhere s h o c (Sent x (RequestSuccess rest) payload) l has = elim l [ ]
kept_elsewhere s h o c (Sent x RequestFailure payload) l has = elim l [ ]
kept_elsewhere s h o c (Sent x (ChannelOpen kind f w k rest) payload) l has = elim l [ ]
kept_elsewhere s h o c (Sent x (ChannelOpenConfirmation t f w k rest) payload) l has = elim l [ ]
kept_elsewhere s h o c (Sent x (ChannelOpenFailure t reason description language) payload) l has = elim l [ ]
kept_elsewhere s h o c (Sent x (ChannelWindowAdjust t bytes) payload) l has = elim l [ ]
kept_elsewhere s h o c (Sent x (ChannelData t body) payload) l has = elim l [ ]
kept_elsewhere s h o c (Sent x (ChannelExtendedData t kind body) payload) l has = elim l [ ]
kept_elsewhere s h o c (Sent x (ChannelEof t) payload) l has = elim l [ ]
kept_elsewhere s h o c (Sent x (ChannelClose t) payload) l has = elim l [ ]
kept_elsewhere s h o c (Sent x (ChannelRequest t name want rest) payload) l has = elim l [ ]
kept_elsewhere s h o c (Sent x (ChannelSuccess t) payload) l has = elim l [ ]
kept_elsewhere s h o c (Sent x (ChannelFailure t) payload) l has = elim l [ ]
kept_elsewhere s h o c (Took x (GlobalRequest name want rest) payload) l has = elim l [ ]
kept_elsewhere s h o c (Took x (RequestSuccess rest) payload) l has = elim l [ ]
kept_elsewhere s h o c (Took x RequestFailure payload) l has = elim l [ ]
kept_elsewhere s h o c (Took x (ChannelOpen kind f w k rest) payload) l has = elim l [ ]
kept_elsewhere s h o c (Took x (ChannelOpenConfirmation t f w k rest) payload) l has = elim l [ ]
kept_elsewhere s h o c (Took x (ChannelOpenFailure t reason description language) payload) l has = elim l [ ]
kept_elsewhere s h o c (Took x (ChannelWindowAdjust t bytes) payload) l has = elim l [ ]
kept_elsewhere s h o c (Took x (ChannelData t body) payload) l has = elim l [ ]
kept_elsewhere s h o c (Took x (ChannelExtendedData t kind body) payload) l has = elim l [ ]
kept_elsewhere s h o c (Took x (ChannelEof t) payload) l has = elim l [ ]
kept_elsewhere s h o c (Took x (ChannelClose t) payload) l has = elim l [ ]
kept_elsewhere s h o c (Took x (ChannelRequest t name want rest) payload) l has = elim l [ ]
kept_elsewhere s h o c (Took x (ChannelSuccess t) payload) l has = elim l [ ]
kept_elsewhere s h o c (Took x (ChannelFailure t) payload) l has = elim l [ ]
kept_elsewhere s h o c i l has = same_sums s h (i ∷ h) o c has refl refl refl

-- owed replies too are kept by them, except for those that NEWKEYS brings
pub owed_elsewhere : (s : Side) (h : List Item) (i : Item) → LeavesChannels i → IsNoNewkeys i → owed_replies s (i ∷ h) ≡ owed_replies s h
owed_elsewhere s h (Sent x (GlobalRequest name want rest) payload) l n = elim l [ ]
owed_elsewhere s h (Sent x (RequestSuccess rest) payload) l n = elim l [ ]
owed_elsewhere s h (Sent x RequestFailure payload) l n = elim l [ ]
owed_elsewhere s h (Sent x (ChannelOpen kind f w k rest) payload) l n = elim l [ ]
owed_elsewhere s h (Sent x (ChannelOpenConfirmation t f w k rest) payload) l n = elim l [ ]
owed_elsewhere s h (Sent x (ChannelOpenFailure t reason description language) payload) l n = elim l [ ]
owed_elsewhere s h (Sent x (ChannelWindowAdjust t bytes) payload) l n = elim l [ ]
owed_elsewhere s h (Sent x (ChannelData t body) payload) l n = elim l [ ]
owed_elsewhere s h (Sent x (ChannelExtendedData t kind body) payload) l n = elim l [ ]
owed_elsewhere s h (Sent x (ChannelEof t) payload) l n = elim l [ ]
owed_elsewhere s h (Sent x (ChannelClose t) payload) l n = elim l [ ]
owed_elsewhere s h (Sent x (ChannelRequest t name want rest) payload) l n = elim l [ ]
owed_elsewhere s h (Sent x (ChannelSuccess t) payload) l n = elim l [ ]
owed_elsewhere s h (Sent x (ChannelFailure t) payload) l n = elim l [ ]
owed_elsewhere s h (Took x (GlobalRequest name want rest) payload) l n = elim l [ ]
owed_elsewhere s h (Took x (RequestSuccess rest) payload) l n = elim l [ ]
owed_elsewhere s h (Took x RequestFailure payload) l n = elim l [ ]
owed_elsewhere s h (Took x (ChannelOpen kind f w k rest) payload) l n = elim l [ ]
owed_elsewhere s h (Took x (ChannelOpenConfirmation t f w k rest) payload) l n = elim l [ ]
owed_elsewhere s h (Took x (ChannelOpenFailure t reason description language) payload) l n = elim l [ ]
owed_elsewhere s h (Took x (ChannelWindowAdjust t bytes) payload) l n = elim l [ ]
owed_elsewhere s h (Took x (ChannelData t body) payload) l n = elim l [ ]
owed_elsewhere s h (Took x (ChannelExtendedData t kind body) payload) l n = elim l [ ]
owed_elsewhere s h (Took x (ChannelEof t) payload) l n = elim l [ ]
owed_elsewhere s h (Took x (ChannelClose t) payload) l n = elim l [ ]
owed_elsewhere s h (Took x (ChannelRequest t name want rest) payload) l n = elim l [ ]
owed_elsewhere s h (Took x (ChannelSuccess t) payload) l n = elim l [ ]
owed_elsewhere s h (Took x (ChannelFailure t) payload) l n = elim l [ ]
owed_elsewhere s h (Sent x NewKeys payload) l n = elim n [ ]
owed_elsewhere s h i l n = refl

-- ---- what is shown

module _ (s : Side) (h : List Item) (o : List channel.Item) (c : Channels) (has : SumsUp s h o c) where
  pub room_shown : (x : ℕ) → shown_room (at c.places x) ≡ room (notes s h) o x
  room_shown x = ap shown_room (has.places x) ∙ sym (room_is s x (notes s h) o)

  pub count_shown : used c.places ≡ count (notes s h) o
  count_shown = count_is s h o c has

  pub state_shown : (x : ℕ) → shown_state (at c.places x) ≡ channel_state s (notes s h) o x
  state_shown x = ap shown_state (has.places x) ∙ state_is s x (notes s h) o has.settled has.run
