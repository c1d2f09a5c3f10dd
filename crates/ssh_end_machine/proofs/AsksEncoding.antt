-- What channels send on an ask, and that there is such a message where memory was refused for it.
use Rattle.std.proofs.Common.{◌≡◌, ℕ, zero, suc, ◌+◌, ◌<◌, ◌≤◌, ◌^◌, Bool, List, [], ◌∷◌, length, arith, refl, true, Option, Some, None, is_some, filter}
use Rattle.std.proofs.lemmas.Bool.{leb-false, ltb-false}
use Rattle.std.proofs.lemmas.List.Sums.{length-filter}
use Rattle.std.specs.Option.{option_map}
use Rattle.ssh_model.specs.Protocol.Bounds.{longest_payload, most_channels}
use Rattle.ssh_model.specs.Protocol.Wire.Message.{Msg.ChannelData, Msg.ChannelExtendedData, FitsContext}
use Rattle.ssh_model.specs.Laws.Sizes.{payload_size}
use Rattle.ssh_model.specs.Protocol.Sessions.Items as session
use Rattle.ssh_model.specs.Protocol.Sessions.Items.{Fact.Opening}
use Rattle.ssh_model.specs.Protocol.Sessions.TurnClaims.{HasEncoding}
use Rattle.ssh_model.specs.Protocol.Sessions.Sizes.{string_size}
use Rattle.ssh_model.specs.State.Channels.Places.{Place, at}
use Rattle.ssh_model.specs.State.Channels.Kept as channels
use Rattle.ssh_model.specs.State.Channels.Kept.{Channels, Sends, send_checks, used}
use Rattle.ssh_model.specs.Laws.Checks.{all_passed}
use Rattle.ssh_model.specs.Laws.Written.{adjust_encoded, byte, channel_failure_encoded, channel_success_encoded, close_encoded, confirmation_encoded, ended, eof_encoded, global_request_encoded, open_failure_encoded, open_encoded, request_failure_encoded, request_encoded, request_success_encoded, encoded, string, uint32}
use Rattle.ssh_channels.specs.Rows.{AsksForChannel}
use Rattle.ssh_channels.specs.Values.{ask_of}
use Rattle.ssh_channels.specs.declared.ask.Ask.{Ask}
use Rattle.ssh_channels.specs.declared.ask.Ask.TheVariants as ask
use Rattle.ssh_channels.specs.Facts.{opening_by}
use Rattle.ssh_end_machine.specs.Asking.{AsksUint32s, HasRecipient, HasUint32s, WouldSend}

-- ---- one line a row

module _ (ch : Channels) where
  pub fits_context : (new : Channels) (asked : session.Ask) (given : channels.Sent) → Sends ch asked given new → FitsContext true given.message
  fits_context new asked given (Sends.opens x y z u v w q) = tt
  fits_context new asked given (Sends.confirm x y z u v) = tt
  fits_context new asked given (Sends.refuse x y) = tt
  fits_context new asked given (Sends.gives_data x y) = tt
  fits_context new asked given (Sends.gives_extended x y z) = tt
  fits_context new asked given (Sends.adjust x y) = tt
  fits_context new asked given (Sends.eof x) = tt
  fits_context new asked given (Sends.close x) = tt
  fits_context new asked given (Sends.request x y z u) = tt
  fits_context new asked given (Sends.reply_yes x) = tt
  fits_context new asked given (Sends.reply_no x) = tt
  fits_context new asked given (Sends.global x y z) = tt
  fits_context new asked given (Sends.global_yes x) = tt
  fits_context new asked given (Sends.global_no x) = tt

  -- An opening is told, and nothing else.
  pub opening_told : (new : Channels) (asked : session.Ask) (given : channels.Sent) → Sends ch asked given new → given.fact ≡ option_map Opening (opening_by asked given.channel)
  opening_told new asked given (Sends.opens x y z u v w q) = refl
  opening_told new asked given (Sends.confirm x y z u v) = refl
  opening_told new asked given (Sends.refuse x y) = refl
  opening_told new asked given (Sends.gives_data x y) = refl
  opening_told new asked given (Sends.gives_extended x y z) = refl
  opening_told new asked given (Sends.adjust x y) = refl
  opening_told new asked given (Sends.eof x) = refl
  opening_told new asked given (Sends.close x) = refl
  opening_told new asked given (Sends.request x y z u) = refl
  opening_told new asked given (Sends.reply_yes x) = refl
  opening_told new asked given (Sends.reply_no x) = refl
  opening_told new asked given (Sends.global x y z) = refl
  opening_told new asked given (Sends.global_yes x) = refl
  opening_told new asked given (Sends.global_no x) = refl

  data_encoded : (r : ℕ) (body : List ℕ) → r < 2 ^ 32 → payload_size (ChannelData r body) ≤ longest_payload → HasEncoding (ChannelData r body)
  data_encoded r body a n = encoded (ChannelData r body) _ (byte 94 (uint32 r a (string body (omega (arith, n)) ended))) tt (omega (arith, n))

  extended_encoded : (r kind : ℕ) (body : List ℕ) → r < 2 ^ 32 → kind < 2 ^ 32 → payload_size (ChannelExtendedData r kind body) ≤ longest_payload → HasEncoding (ChannelExtendedData r kind body)
  extended_encoded r kind body a b n = encoded (ChannelExtendedData r kind body) _ (byte 95 (uint32 r a (uint32 kind b (string body (omega (arith, n)) ended)))) tt (omega (arith, n))

  pub is_encoded : (new : Channels) (asked : session.Ask) (given : channels.Sent) → Sends ch asked given new → HasUint32s given.message → HasRecipient given.message → payload_size given.message ≤ longest_payload → HasEncoding given.message
  is_encoded new asked given (Sends.opens x kind w m rest v q) u r n = open_encoded kind x w m rest (u.0) (u.1) (u.2) (omega (arith, n))
  is_encoded new asked given (Sends.confirm x w m rest v) u r n = confirmation_encoded _ x w m rest r (u.0) (u.1) (u.2) (omega (arith, n))
  is_encoded new asked given (Sends.refuse x reason) u r n = open_failure_encoded _ reason r u
  is_encoded new asked given (Sends.gives_data x body) u r n = data_encoded _ body r n
  is_encoded new asked given (Sends.gives_extended x kind body) u r n = extended_encoded _ kind body r u n
  is_encoded new asked given (Sends.adjust x bytes) u r n = adjust_encoded _ bytes r u
  is_encoded new asked given (Sends.eof x) u r n = eof_encoded _ r
  is_encoded new asked given (Sends.close x) u r n = close_encoded _ r
  is_encoded new asked given (Sends.request x name want rest) u r n = request_encoded _ name want rest r (omega (arith, n))
  is_encoded new asked given (Sends.reply_yes x) u r n = channel_success_encoded _ r
  is_encoded new asked given (Sends.reply_no x) u r n = channel_failure_encoded _ r
  is_encoded new asked given (Sends.global name want rest) u r n = global_request_encoded name want rest (omega (arith, n))
  is_encoded new asked given (Sends.global_yes rest) u r n = request_success_encoded rest (omega (arith, n))
  is_encoded new asked given (Sends.global_no rest) u r n = request_failure_encoded

-- ---- a number that is free

record Free (places : List (Option Place)) (most : ℕ) : Type 0 where
  number : ℕ
  inside : number < most
  nothing : at places number ≡ None

used_some : (place : Place) (places : List (Option Place)) → used (Some place ∷ places) ≡ 1 + used places
used_some place places =
    let all : suc (length (filter is_some places)) ≡ used (Some place ∷ places) = length-filter is_some (Some place ∷ places) in
    let others : length (filter is_some places) ≡ used places = length-filter is_some places in
    omega (arith, all, others)

free_among : (places : List (Option Place)) (most : ℕ) → used places < most → Free places most
free_among [] most e = record { number = 0; inside = omega (arith, e); nothing = refl }
free_among (None ∷ places) most e = record { number = 0; inside = omega (arith, e); nothing = refl }
free_among (Some place ∷ places) zero e = absurd (omega (arith, e, used_some place places))
free_among (Some place ∷ places) (suc most) e =
    let below = free_among places most (omega (arith, e, used_some place places)) in
    record { number = suc below.number; inside = omega (arith, below.inside); nothing = below.nothing }

-- Where memory was refused for a new channel, an OPEN would have been sent.
pub open_would : (blocked due : Bool) (ch : Channels) (a : Ask) → AsksUint32s (ask_of a) → AsksForChannel blocked due ch (ask_of a) → WouldSend ch (ask_of a)
open_would blocked due ch (ask.Open kind window max rest) u e =
    let passed = all_passed (send_checks blocked due ch (session.Ask.AskOpen kind.now window max rest.now)) e in
    let few = leb-false most_channels (used ch.places) (passed.1.1.0) in
    let free = free_among ch.places most_channels (omega (arith, few)) in
    record {
      given = _;
      kept = _;
      sends = Sends.opens free.number kind.now window max rest.now (record { inside = free.inside; nothing = free.nothing }) (omega (arith, u.0));
      encoding = open_encoded kind.now free.number window max rest.now (omega (arith, free.inside)) (u.0) (u.1) (omega (arith, ltb-false longest_payload (13 + string_size kind.now + length rest.now) (passed.1.1.1.1.0)));
    }
open_would blocked due ch (ask.Confirm channel window max rest) u e = elim e [ ]
open_would blocked due ch (ask.Refuse channel reason) u e = elim e [ ]
open_would blocked due ch (ask.Data channel kind body) u e = elim e [ ]
open_would blocked due ch (ask.Adjust channel bytes) u e = elim e [ ]
open_would blocked due ch (ask.Eof channel) u e = elim e [ ]
open_would blocked due ch (ask.Close channel) u e = elim e [ ]
open_would blocked due ch (ask.Request channel name want rest) u e = elim e [ ]
open_would blocked due ch (ask.Reply channel success) u e = elim e [ ]
open_would blocked due ch (ask.Global name want rest) u e = elim e [ ]
open_would blocked due ch (ask.GlobalReply success rest) u e = elim e [ ]
