-- What an end makes of a unit of its stream, of a pair that it is fed, and its opening, are those of a session.
use Rattle.std.proofs.Common.{◌≡◌, ℕ, ◌^◌, List, [], ◌∷◌, ◌++◌, refl, sym, ◌∙◌, subst, Bool, true, false, not, ◌&&◌, is_some, Option, Some, None, append-nil, nat_lt}
use Rattle.std.specs.Prelude.{◌-◌}
use Rattle.std.proofs.lemmas.Bool.{leb-true}
use Rattle.ssh_model.specs.declared.side.Side.{Side}
use Rattle.ssh_model.specs.declared.side.Side.TheVariants.{Client, Server}
use Rattle.ssh_model.specs.Protocol.Wire.Message.{Msg.KexInit}
use Rattle.ssh_model.specs.Protocol.Wire.Line.{line_end}
use Rattle.ssh_model.specs.Protocol.Wire.Sealing.{IsSealed}
use Rattle.ssh_model.specs.Protocol.Wire.Outcome.{Outcome.OtherLine, Outcome.VersionLine, Outcome.RefusedLine, Outcome.Opens, Outcome.RefusedPacket}
use Rattle.ssh_model.specs.Protocol.KeyExchange.Exchanges.{Material}
use Rattle.ssh_model.specs.Protocol.Sessions.Parties.{Parties, offer, settings_of}
use Rattle.ssh_model.specs.Protocol.Sessions.Items.{Item, Item.Fed, Item.SentLine, Item.Sent, Item.TookLine, Item.TookOtherLine, Item.Died, Encoded.EncodedBy}
use Rattle.ssh_model.specs.Protocol.Sessions.Events.{PutsOut, PutsOut.other as put_other, PutsOut.packet as put_packet, PutsOut.version as put_version, PutsOut.nothing as put_nothing}
use Rattle.ssh_model.specs.Protocol.Sessions.Turns as session
use Rattle.ssh_model.specs.Protocol.Sessions.Turns.{FeedsTurn, FeedsTurn.feeds, FeedsTurn.answers_false, IsMaterial, IsOpening, OnUnit, can_feed}
use Rattle.ssh_model.specs.State.Channels.Kept.{no_channels}
use Rattle.ssh_model.specs.State.TransportLayer.Directions.{new_direction}
use Rattle.ssh_model.specs.State.TransportLayer.Turns as turns
use Rattle.ssh_model.specs.State.TransportLayer.Turns.{PutsPackets, SaysWhy, refusal_items}
use Rattle.ssh_model.specs.State.End.State.{EndState, new_authentication, new_end}
use Rattle.ssh_model.specs.State.End.Summary.{AboveSumsUp, EndSumsUp, EndTurned, HasOpened}
use Rattle.ssh_model.specs.State.End.Units.{TakesUnit, TakesPair}
use Rattle.ssh_model.specs.State.End.Units as end
use Rattle.ssh_model.proofs.Authentication.Rows.{server_starts, client_starts}
use Rattle.ssh_model.proofs.Channels.Elsewhere.{starts}
use Rattle.ssh_model.proofs.TransportLayer.Checks.{feeds_same}
use Rattle.ssh_model.proofs.Items as layer
use Rattle.ssh_model.proofs.TransportLayer.Rows.{pair_fed}
use Rattle.ssh_model.proofs.TransportLayer.Turning.{unit_refused}
use Rattle.ssh_model.proofs.TransportLayer.Units.{packets_same, lines_same}
use Rattle.ssh_model.proofs.WholeEnd.Deaths.{said, would}
use Rattle.ssh_model.proofs.WholeEnd.Ending.{payload_turned}
use Rattle.ssh_model.proofs.WholeEnd.Kept.{all_kept, one_kept}
use Rattle.ssh_model.proofs.WholeEnd.Payloads.{dead_sums}

module _ {K : Type 0} (p : Parties K) (side : Side) (h : List Item) (e : EndState K) (sums : EndSumsUp p side h e) (alive : e.transport.dead ≡ false) where
  abbrev ByUnit : List ℕ → List Item → List ℕ → EndState K → Type 0
  ByUnit unit items more new = EndTurned p side h (OnUnit p side h unit) items more new

  nothing_out : (i : Item) → (bytes : List ℕ) → PutsOut p side (i ∷ h) bytes → PutsOut p side (i ∷ h) (bytes ++ [])
  nothing_out i bytes z = subst (λ (t : List ℕ). PutsOut p side (i ∷ h) t) (sym (append-nil bytes)) z

  pub unit_turned : (unit : List ℕ) (items : List Item) (more : List ℕ) (new : EndState K) → TakesUnit p side e unit items more new → ByUnit unit items more new
  unit_turned unit items more new (end.TakesUnit.other_line line none u) =
      let live = sums.transport.live alive in
      record {
        turn = session.OnUnit.reads (OtherLine line) (lines_same p side h e.transport sums.transport alive none unit (OtherLine line) u) (session.OnOutcome.other_line line);
        sums = record {
          transport = layer.other_line_taken p side h e.transport line (sym live.lines.found_is ∙ none) sums.transport;
          above = λ z. one_kept side h e.authentication e.channels (TookOtherLine line) (record { server = tt; client = tt; channels = tt; owed = tt }) (sums.above alive);
        };
        puts = λ bytes z. nothing_out (TookOtherLine line) bytes (put_other (TookOtherLine line) tt z);
      }
  unit_turned unit items more new (end.TakesUnit.version_line line none u) = record {
    turn = session.OnUnit.reads (VersionLine line) (lines_same p side h e.transport sums.transport alive none unit (VersionLine line) u) (session.OnOutcome.version_line line);
    sums = record {
      transport = layer.line_taken p side h e.transport line sums.transport;
      above = λ z. one_kept side h e.authentication e.channels (TookLine line) (record { server = tt; client = tt; channels = tt; owed = tt }) (sums.above alive);
    };
    puts = λ bytes z. nothing_out (TookLine line) bytes (put_other (TookLine line) tt z);
  }
  unit_turned unit items more new (end.TakesUnit.refused_line {sent = l} why n none u x d) =
      let r = unit_refused p side h e.transport sums.transport alive why l more new.transport x d in
      record {
        turn = session.OnUnit.reads (RefusedLine why) (lines_same p side h e.transport sums.transport alive none unit (RefusedLine why) u) (session.OnOutcome.refused_line why r.refuses);
        sums = dead_sums p side h (refusal_items why None l) new d refl;
        puts = r.puts;
      }
  unit_turned unit items more new (end.TakesUnit.payload b found u x) =
      let t = payload_turned p side h e sums alive b items more new x in
      record {
        turn = session.OnUnit.reads (Opens b) (packets_same p side h e.transport sums.transport alive found unit (Opens b) u) (session.OnOutcome.opened b t.turn);
        sums = t.sums;
        puts = t.puts;
      }
  unit_turned unit items more new (end.TakesUnit.refused_packet {sent = l} why n found u x d) =
      let r = unit_refused p side h e.transport sums.transport alive why l more new.transport x d in
      record {
        turn = session.OnUnit.reads (RefusedPacket why) (packets_same p side h e.transport sums.transport alive found unit (RefusedPacket why) u) (session.OnOutcome.refused_packet why r.refuses);
        sums = dead_sums p side h (refusal_items why None l) new d refl;
        puts = r.puts;
      }
  unit_turned unit items more new (end.TakesUnit.dies {items = l} b n found u x takes d) = record {
    turn = session.OnUnit.dies (Opens b) (packets_same p side h e.transport sums.transport alive found unit (Opens b) u) (session.OnOutcome.opened b (would p side h e sums alive b l x)) takes;
    sums = dead_sums p side h (Died ∷ []) new d refl;
    puts = λ bytes z. nothing_out Died bytes (put_other Died tt z);
  }
  unit_turned unit items more new (end.TakesUnit.refused_dies why reason b n found u x d) = record {
    turn = session.OnUnit.dies (RefusedPacket why) (packets_same p side h e.transport sums.transport alive found unit (RefusedPacket why) u) (session.OnOutcome.refused_packet why (said p side h e sums alive why None reason b x)) refl;
    sums = dead_sums p side h (Died ∷ []) new d refl;
    puts = λ bytes z. nothing_out Died bytes (put_other Died tt z);
  }

-- ---- a pair that is fed

no_material : (b c : Bool) (m : Option Material) → (not b && not (is_some m) && c) ≡ true → m ≡ None
no_material b c None e = refl
no_material true c (Some m) e = absurd (cc e)
no_material false c (Some m) e = absurd (cc e)

module _ {K : Type 0} (p : Parties K) (side : Side) (h : List Item) (e : EndState K) (sums : EndSumsUp p side h e) where
  pub pair_turned : (cookie secret : List ℕ) (items : List Item) (new : EndState K) → TakesPair e cookie secret items new → EndTurned p side h (FeedsTurn side h cookie secret) items [] new
  pair_turned cookie secret items new (end.TakesPair.fed can m) = record {
    turn = feeds (feeds_same p h e.transport side sums.transport ∙ can) m;
    sums = record {
      transport = pair_fed p side h e.transport cookie secret (no_material e.transport.dead (nat_lt e.transport.fed (2 ^ 32 - 1)) e.transport.material can) sums.transport;
      above = λ z. one_kept side h e.authentication e.channels (Fed cookie secret) (record { server = tt; client = tt; channels = tt; owed = tt }) (sums.above z);
    };
    puts = λ bytes z. subst (λ (t : List ℕ). PutsOut p side (Fed cookie secret ∷ h) t) (sym (append-nil bytes)) (put_other (Fed cookie secret) tt z);
  }
  pair_turned cookie secret items new (end.TakesPair.unfed can) = record {
    turn = answers_false (feeds_same p h e.transport side sums.transport ∙ can);
    sums = sums;
    puts = λ bytes z. subst (λ (t : List ℕ). PutsOut p side h t) (sym (append-nil bytes)) z;
  }

-- ---- the opening

nothing_above : (side : Side) → AboveSumsUp side [] (new_authentication side) no_channels
nothing_above Server = record { authentication_sums = record { sums = server_starts; none_made = refl }; channels_sum = starts Server; few_owed = leb-true 0 256 refl }
nothing_above Client = record { authentication_sums = client_starts; channels_sum = starts Client; few_owed = leb-true 0 256 refl }

module _ {K : Type 0} (p : Parties K) where
  abbrev opening_items : Side → (cookie secret payload : List ℕ) → List Item
  opening_items side cookie secret payload = Sent None (KexInit (offer p side true cookie)) payload ∷ SentLine (settings_of p side).line ∷ Fed cookie secret ∷ []

  first_out : (side : Side) (cookie secret payload wire : List ℕ) → IsSealed p.crypto None 0 payload wire → PutsOut p side (opening_items side cookie secret payload) (((settings_of p side).line ++ line_end) ++ wire)
  first_out Client cookie secret payload wire x = put_packet None (KexInit (offer p Client true cookie)) payload wire x (put_version (settings_of p Client).line (put_other (Fed cookie secret) tt put_nothing))
  first_out Server cookie secret payload wire x = put_packet None (KexInit (offer p Server true cookie)) payload wire x (put_version (settings_of p Server).line (put_other (Fed cookie secret) tt put_nothing))

  pub end_opened : (side : Side) (cookie secret payload more : List ℕ) → IsMaterial cookie secret → PutsPackets p.crypto new_direction (EncodedBy (KexInit (offer p side true cookie)) payload ∷ []) more →
      HasOpened p side (opening_items side cookie secret payload) (((settings_of p side).line ++ line_end) ++ more) (new_end (settings_of p side) side secret payload)
  end_opened side cookie secret payload more m (turns.PutsPackets.packet m2 b wire turns.PutsPackets.nothing encoded few sealed) = record {
    opening = record { cookie = cookie; secret = secret; payload = payload; is_material = m; is_encoded = encoded; items_are = refl };
    sums = record {
      transport = layer.opened p side cookie secret payload;
      above = λ z. all_kept side [] (new_authentication side) no_channels (opening_items side cookie secret payload)
          (record { server = tt; client = tt; channels = tt; owed = tt }, (record { server = tt; client = tt; channels = tt; owed = tt }, (record { server = tt; client = tt; channels = tt; owed = tt }, tt))) (nothing_above side);
    };
    puts = first_out side cookie secret payload wire sealed;
  }
