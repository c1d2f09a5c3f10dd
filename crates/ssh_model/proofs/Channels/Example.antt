-- A run that meets every premise: a channel, data of both kinds, a request and its reply, an adjust, EOF, a CLOSE that is
-- owed while blocked, the number used again, and an OPEN that is refused for want of a place.
use Rattle.std.proofs.Common.{◌≡◌, ◌≤◌, List, [], ◌∷◌, inl, inr, refl, arith, true, Some, None}
use Rattle.ssh_model.specs.Protocol.Bounds.{largest_window}
use Rattle.ssh_model.specs.declared.side.Side.{Side}
use Rattle.ssh_model.specs.declared.side.Side.TheVariants.{Client, Server}
use Rattle.ssh_model.specs.Protocol.Side.{DoneBy.By, part}
use Rattle.ssh_model.specs.Protocol.Channels.Message.{Message.Open, Message.OpenConfirmation, Message.OpenFailure, Message.WindowAdjust, Message.Data, Message.Eof, Message.Close, Message.Request, Message.Reply}
use Rattle.ssh_model.specs.Protocol.Channels.History.{Item.Sent, Item.Received, Item.KexinitSent, Item.NewkeysSent, some_free, has_place}
use Rattle.ssh_model.specs.ChannelLayer.Rows.{Ask.confirm, Ask.adjust, Ask.give_data, Ask.eof, Ask.close, Ask.request, Ask.reply, Take.confirmed, Take.refused, Take.adjusted, Take.got_data, Take.ended, Take.closed, Take.requested, Take.replied, Turn.opens, Turn.asks, Turn.takes_open, Turn.refuses_open, Turn.takes, Turn.rekeys, Turn.completes, Done, PairRun, PairRun.begins, PairRun.then_turn, Ordered}
use Rattle.ssh_model.specs.ChannelLayer.Claims.{IsExample}

small : 100 ≤ largest_window
small = omega arith

few : 147 ≤ largest_window
few = omega arith

abbrev d1 : List Done
d1 = By Client (Sent (Some 0) (Open 0 100 1000)) ∷ []

abbrev d2 : List Done
d2 = By Server (Received (Some 5) (Open 0 100 1000)) ∷ d1

abbrev d3 : List Done
d3 = By Server (Sent (Some 5) (OpenConfirmation 0 5 100 1000)) ∷ d2

abbrev d4 : List Done
d4 = By Client (Received (Some 0) (OpenConfirmation 0 5 100 1000)) ∷ d3

abbrev d5 : List Done
d5 = By Client (Sent (Some 0) (Data 5 None (7 ∷ []))) ∷ d4

abbrev d6 : List Done
d6 = By Server (Received (Some 5) (Data 5 None (7 ∷ []))) ∷ d5

abbrev d7 : List Done
d7 = By Client (Sent (Some 0) (Data 5 (Some 1) (8 ∷ 9 ∷ []))) ∷ d6

abbrev d8 : List Done
d8 = By Server (Received (Some 5) (Data 5 (Some 1) (8 ∷ 9 ∷ []))) ∷ d7

abbrev d9 : List Done
d9 = By Client (Sent (Some 0) (Request 5 true)) ∷ d8

abbrev d10 : List Done
d10 = By Server (Received (Some 5) (Request 5 true)) ∷ d9

abbrev d11 : List Done
d11 = By Server (Sent (Some 5) (Reply 0 true)) ∷ d10

abbrev d12 : List Done
d12 = By Client (Received (Some 0) (Reply 0 true)) ∷ d11

abbrev d13 : List Done
d13 = By Server (Sent (Some 5) (WindowAdjust 0 50)) ∷ d12

abbrev d14 : List Done
d14 = By Client (Received (Some 0) (WindowAdjust 0 50)) ∷ d13

abbrev d15 : List Done
d15 = By Server KexinitSent ∷ d14

abbrev d16 : List Done
d16 = By Client (Sent (Some 0) (Eof 5)) ∷ d15

abbrev d17 : List Done
d17 = By Server (Received (Some 5) (Eof 5)) ∷ d16

abbrev d18 : List Done
d18 = By Client (Sent (Some 0) (Close 5)) ∷ d17

abbrev d19 : List Done
d19 = By Server (Received (Some 5) (Close 5)) ∷ d18

abbrev d20 : List Done
d20 = By Server (Sent (Some 5) (Close 0)) ∷ By Server NewkeysSent ∷ d19

abbrev d21 : List Done
d21 = By Client (Received (Some 0) (Close 0)) ∷ d20

abbrev d22 : List Done
d22 = By Client (Sent (Some 0) (Open 0 100 1000)) ∷ d21

abbrev d23 : List Done
d23 = By Server (Sent None (OpenFailure 0)) ∷ By Server (Received None (Open 0 100 1000)) ∷ d22

abbrev d24 : List Done
d24 = By Client (Received (Some 0) (OpenFailure 0)) ∷ d23

r1 : PairRun d1
r1 = then_turn Client begins (opens 0 100 1000 refl refl small)

r2 : PairRun d2
r2 = then_turn Server r1 (takes_open 5 0 100 1000 refl)

r3 : PairRun d3
r3 = then_turn Server r2 (asks 5 _ refl (confirm 100 1000 refl small))

r4 : PairRun d4
r4 = then_turn Client r3 (takes 0 _ (confirmed 5 100 1000 refl))

r5 : PairRun d5
r5 = then_turn Client r4 (asks 0 _ refl (give_data None (7 ∷ []) refl refl (omega arith) (omega arith) (omega arith)))

r6 : PairRun d6
r6 = then_turn Server r5 (takes 5 _ (got_data None (7 ∷ []) refl refl (omega arith) (omega arith)))

r7 : PairRun d7
r7 = then_turn Client r6 (asks 0 _ refl (give_data (Some 1) (8 ∷ 9 ∷ []) refl refl (omega arith) (omega arith) (omega arith)))

r8 : PairRun d8
r8 = then_turn Server r7 (takes 5 _ (got_data (Some 1) (8 ∷ 9 ∷ []) refl refl (omega arith) (omega arith)))

r9 : PairRun d9
r9 = then_turn Client r8 (asks 0 _ refl (request true refl refl))

r10 : PairRun d10
r10 = then_turn Server r9 (takes 5 _ (requested true refl))

r11 : PairRun d11
r11 = then_turn Server r10 (asks 5 _ refl (reply true refl refl))

r12 : PairRun d12
r12 = then_turn Client r11 (takes 0 _ (replied true refl))

r13 : PairRun d13
r13 = then_turn Server r12 (asks 5 _ refl (adjust 50 refl refl few))

r14 : PairRun d14
r14 = then_turn Client r13 (takes 0 _ (adjusted 50 refl few))

r15 : PairRun d15
r15 = then_turn Server r14 (rekeys refl)

r16 : PairRun d16
r16 = then_turn Client r15 (asks 0 _ refl (eof refl refl))

r17 : PairRun d17
r17 = then_turn Server r16 (takes 5 _ (ended refl refl))

r18 : PairRun d18
r18 = then_turn Client r17 (asks 0 _ refl (close refl refl))

r19 : PairRun d19
r19 = then_turn Server r18 (takes 5 _ (closed refl))

r20 : PairRun d20
r20 = then_turn Server r19 (completes refl)

r21 : PairRun d21
r21 = then_turn Client r20 (takes 0 _ (closed refl))

r22 : PairRun d22
r22 = then_turn Client r21 (opens 0 100 1000 refl refl small)

r23 : PairRun d23
r23 = then_turn Server r22 (refuses_open 0 100 1000)

r24 : PairRun d24
r24 = then_turn Client r23 (takes 0 _ (refused refl))

of_both : (P : Side → Type 0) → P Client → P Server → (s : Side) → P s
of_both P c v Client = c
of_both P c v Server = v

ordered : Ordered d24
ordered = (of_both _ (inl refl) (inl refl), (of_both _ (inr (inl refl)) (inl refl), (of_both _ (inl refl) (inl refl), (of_both _ (inl refl) (inr (inl refl)), (of_both _ (inl refl) (inl refl), (of_both _ (inr (inl refl)) (inl refl), (of_both _ (inl refl) (inl refl), (of_both _ (inl refl) (inl refl), (of_both _ (inl refl) (inr (inl refl)), (of_both _ (inl refl) (inl refl), (of_both _ (inl refl) (inr (inl refl)), (of_both _ (inl refl) (inl refl), (of_both _ (inl refl) (inl refl), (of_both _ (inr (inl refl)) (inl refl), (of_both _ (inl refl) (inl refl), (of_both _ (inr (inl refl)) (inl refl), (of_both _ (inl refl) (inl refl), (of_both _ (inl refl) (inr (inl refl)), (of_both _ (inl refl) (inl refl), (of_both _ (inl refl) (inr (inl refl)), (of_both _ (inl refl) (inl refl), (of_both _ (inl refl) (inr (inl refl)), (of_both _ (inl refl) (inl refl), (of_both _ (inr (refl)) (inl refl), (of_both _ (refl) (inl refl), (of_both _ (refl) (inr (refl)), tt))))))))))))))))))))))))))

pub example : (run : List Done) × IsExample run
example = (d24, record { goes = r24; ordered = ordered; came = refl; refused = refl; first = inr (inl (refl, refl)); again = inl (refl, refl) })

place : has_place Server (part Server d24) ≡ true
unfolding has_place some_free
place = refl
