-- The rows meet what the runs of notes ask for.
use Rattle.std.proofs.Common.{◌≡◌, ℕ, List, ◌⊎◌, inl, inr, refl, arith, Bool, true, false}
use Rattle.ssh_model.specs.declared.side.Side.{Side}
use Rattle.ssh_model.specs.Protocol.Side.{peer}
use Rattle.ssh_model.specs.Protocol.Channels.Message.{Message, Message.WindowAdjust, Message.Close, Message.Request, Message.Reply, mine, Stage, Stage.Quiet, Stage.Speaking, Stage.Ended, Stage.Closed, Stage.Failed, talked}
use Rattle.ssh_model.specs.State.Channels.Rules.{MayFollow, Says, Takes}
use Rattle.ssh_model.specs.Protocol.Channels.Notes.{Note, channel_at}
use Rattle.ssh_model.specs.ChannelLayer.Rows.{Ask, Ask.confirm, Ask.refuse, Ask.adjust, Ask.give_data, Ask.eof, Ask.close, Ask.request, Ask.reply, Take, Take.confirmed, Take.refused, Take.adjusted, Take.got_data, Take.ended, Take.closed, Take.requested, Take.replied}
use Rattle.ssh_model.proofs.Channels.Local.{Local}
use Rattle.ssh_model.proofs.Channels.State.{confirmed_is, waits_is, offered_is, speaks, peer_speaks, not_closed_at}

flows : (q : Stage) → talked q ≡ true → (q ≡ Closed → ⊥) → (q ≡ Speaking) ⊎ (q ≡ Ended)
flows Speaking t c = inl refl
flows Ended t c = inr refl
flows Quiet t c = absurd (cc t)
flows Failed t c = absurd (cc t)
flows Closed t c = absurd (c refl)

either : (m : Message) (q : Stage) (o : Bool) → MayFollow m Speaking o → MayFollow m Ended o → talked q ≡ true → (q ≡ Closed → ⊥) → MayFollow m q o
either m q o a b t c = go (flows q t c)
  where
    go : (q ≡ Speaking) ⊎ (q ≡ Ended) → MayFollow m q o
    go (inl e) = rw e a
    go (inr e) = rw e b

pub ask_says : (s : Side) (n : List Note) (x : ℕ) (m : Message) → Local s n → Ask s n x m → Says s n x (channel_at x n) m
ask_says s n x m v (confirm w k e small) =
    let g = v.good (channel_at x n) in
    let t = waits_is s x n e in
    record {
      other = refl;
      at = t.at;
      may_follow = rw (t.silent, t.theirs) tt;
      heard = t.heard;
      to = refl;
      from = refl;
      fits = omega (arith, g.said_fits);
      small = omega arith;
      bounded = rw t.silent (omega (arith, small));
    }
ask_says s n x m v (refuse e) =
    let g = v.good (channel_at x n) in
    let t = waits_is s x n e in
    record {
      other = refl;
      at = t.at;
      may_follow = rw (t.silent, t.theirs) tt;
      heard = t.heard;
      to = refl;
      from = tt;
      fits = omega (arith, g.said_fits);
      small = omega arith;
      bounded = omega (arith, g.bounded);
    }
ask_says s n x m v (adjust c e o r) =
    let g = v.good (channel_at x n) in
    let t = confirmed_is x n e in
    record {
      other = refl;
      at = t.at;
      may_follow = either (WindowAdjust 0 0) _ (mine s (channel_at x n)) tt tt t.spoke (not_closed_at x n o);
      heard = t.heard;
      to = refl;
      from = tt;
      fits = omega (arith, g.said_fits);
      small = omega arith;
      bounded = omega (arith, r, g.took_fits);
    }
ask_says s n x m v (give_data k b e o l small fits) =
    let g = v.good (channel_at x n) in
    let t = confirmed_is x n e in
    record {
      other = refl;
      at = t.at;
      may_follow = rw (speaks x n t o) tt;
      heard = t.heard;
      to = refl;
      from = tt;
      fits = omega (arith, fits, g.said_fits);
      small = small;
      bounded = omega (arith, g.bounded);
    }
ask_says s n x m v (eof e o) =
    let g = v.good (channel_at x n) in
    let t = confirmed_is x n e in
    record {
      other = refl;
      at = t.at;
      may_follow = rw (speaks x n t o) tt;
      heard = t.heard;
      to = refl;
      from = tt;
      fits = omega (arith, g.said_fits);
      small = omega arith;
      bounded = omega (arith, g.bounded);
    }
ask_says s n x m v (close e o) =
    let g = v.good (channel_at x n) in
    let t = confirmed_is x n e in
    record {
      other = refl;
      at = t.at;
      may_follow = either (Close 0) _ (mine s (channel_at x n)) tt tt t.spoke (not_closed_at x n o);
      heard = t.heard;
      to = refl;
      from = tt;
      fits = omega (arith, g.said_fits);
      small = omega arith;
      bounded = omega (arith, g.bounded);
    }
ask_says s n x m v (request want e o) =
    let g = v.good (channel_at x n) in
    let t = confirmed_is x n e in
    record {
      other = refl;
      at = t.at;
      may_follow = either (Request 0 false) _ (mine s (channel_at x n)) tt tt t.spoke (not_closed_at x n o);
      heard = t.heard;
      to = refl;
      from = tt;
      fits = omega (arith, g.said_fits);
      small = omega arith;
      bounded = omega (arith, g.bounded);
    }
ask_says s n x m v (reply positive e o) =
    let g = v.good (channel_at x n) in
    let t = confirmed_is x n e in
    record {
      other = refl;
      at = t.at;
      may_follow = either (Reply 0 false) _ (mine s (channel_at x n)) tt tt t.spoke (not_closed_at x n o);
      heard = t.heard;
      to = refl;
      from = tt;
      fits = omega (arith, g.said_fits);
      small = omega arith;
      bounded = omega (arith, g.bounded);
    }

pub take_takes : (s : Side) (n : List Note) (x : ℕ) (m : Message) → Local s n → Take s n x m → Takes s n x (channel_at x n) m
take_takes s n x m v (confirmed f w k e) =
    let g = v.good (channel_at x n) in
    let t = offered_is s x n e in
    record { other = refl; at = t.at; may_follow = rw (t.unanswered, t.ours) tt; spoke = t.spoke; to = refl; fits = omega (arith, g.took_fits); small = omega arith }
take_takes s n x m v (refused e) =
    let g = v.good (channel_at x n) in
    let t = offered_is s x n e in
    record { other = refl; at = t.at; may_follow = rw (t.unanswered, t.ours) tt; spoke = t.spoke; to = refl; fits = omega (arith, g.took_fits); small = omega arith }
take_takes s n x m v (adjusted c e r) =
    let g = v.good (channel_at x n) in
    let t = confirmed_is x n e in
    record {
      other = refl;
      at = t.at;
      may_follow = either (WindowAdjust 0 0) _ (mine (peer s) (channel_at x n)) tt tt t.heard t.lives;
      spoke = t.spoke;
      to = refl;
      fits = omega (arith, g.took_fits);
      small = omega arith;
    }
take_takes s n x m v (got_data k b e o small fits) =
    let g = v.good (channel_at x n) in
    let t = confirmed_is x n e in
    record { other = refl; at = t.at; may_follow = rw (peer_speaks x n t o) tt; spoke = t.spoke; to = refl; fits = omega (arith, fits, g.took_fits); small = small }
take_takes s n x m v (ended e o) =
    let g = v.good (channel_at x n) in
    let t = confirmed_is x n e in
    record { other = refl; at = t.at; may_follow = rw (peer_speaks x n t o) tt; spoke = t.spoke; to = refl; fits = omega (arith, g.took_fits); small = omega arith }
take_takes s n x m v (closed e) =
    let g = v.good (channel_at x n) in
    let t = confirmed_is x n e in
    record {
      other = refl;
      at = t.at;
      may_follow = either (Close 0) _ (mine (peer s) (channel_at x n)) tt tt t.heard t.lives;
      spoke = t.spoke;
      to = refl;
      fits = omega (arith, g.took_fits);
      small = omega arith;
    }
take_takes s n x m v (requested want e) =
    let g = v.good (channel_at x n) in
    let t = confirmed_is x n e in
    record {
      other = refl;
      at = t.at;
      may_follow = either (Request 0 false) _ (mine (peer s) (channel_at x n)) tt tt t.heard t.lives;
      spoke = t.spoke;
      to = refl;
      fits = omega (arith, g.took_fits);
      small = omega arith;
    }
take_takes s n x m v (replied positive e) =
    let g = v.good (channel_at x n) in
    let t = confirmed_is x n e in
    record {
      other = refl;
      at = t.at;
      may_follow = either (Reply 0 false) _ (mine (peer s) (channel_at x n)) tt tt t.heard t.lives;
      spoke = t.spoke;
      to = refl;
      fits = omega (arith, g.took_fits);
      small = omega arith;
    }
