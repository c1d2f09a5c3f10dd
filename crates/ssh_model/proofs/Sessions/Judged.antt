-- A run with another judge of a server's users: the one case of other supplied parts in which all but the judge are the own.
use Rattle.std.proofs.Common.{◌≡◌, false, List, [], ◌∷◌, Some, refl}
use Rattle.ssh_model.specs.declared.side.Side.{Side}
use Rattle.ssh_model.specs.declared.side.Side.TheVariants.{Client}
use Rattle.ssh_model.specs.Protocol.Wire.Message.{Msg, Msg.KexEcdhInit, Msg.KexEcdhReply, Msg.UserauthRequest, Method.Publickey}
use Rattle.ssh_model.specs.Protocol.Authentication.Requests.{Judge, judge_of}
use Rattle.ssh_model.specs.Protocol.Sessions.Parties.{Parties, AreLawful}
use Rattle.ssh_model.specs.Protocol.Sessions.Items.{Item, Item.Sent, Item.Took, has_died}
use Rattle.ssh_model.specs.Protocol.Sessions.Turns.{EndRun}
use Rattle.ssh_model.specs.State.End.State.{EndState}
use Rattle.ssh_model.specs.State.End.Summary.{EndSumsUp}
use Rattle.ssh_model.specs.Laws.Supplied.{AgreeOnAnswered, AgreeOnJudged, AgreeOnSent, Supplied, supplied_of}
use Rattle.ssh_model.specs.Laws.Verdicts.{AgreeOnAsked, judged_by}
use Rattle.ssh_model.proofs.Sessions.SuppliedParts.{same_exchanges}
use Rattle.ssh_model.proofs.Sessions.Supplied.{supplied_run, supplied_sums, supplied_laws}

module _ {K : Type 0} (p : Parties K) (judge : Judge) where
  abbrev judging : Supplied
  judging = record (supplied_of p) { judge = judge }

  signed_same : (h : List Item) (m : Msg) → AgreeOnSent p judging h m
  signed_same h (UserauthRequest user service (Publickey algorithm key (Some signature))) = rw (same_exchanges p judging Client h) refl
  signed_same h m = tt

  pub agree_on_judged : (h : List Item) → AgreeOnJudged p.server.methods (judge_of p) judge h →
      AgreeOnAnswered p (record (supplied_of p) { judge = judge }) h
  agree_on_judged [] a = tt
  agree_on_judged (Took c (UserauthRequest u s how) b ∷ h) a = (a.0, agree_on_judged h a.1)
  agree_on_judged (Took c (KexEcdhReply k q s) b ∷ h) a = (refl, agree_on_judged h a)
  agree_on_judged (Took c (KexEcdhInit q) b ∷ h) a = (refl, agree_on_judged h a)
  agree_on_judged (Took c m b ∷ h) a = (tt, agree_on_judged h a)
  agree_on_judged (Sent c m b ∷ h) a = (signed_same h m, agree_on_judged h a)
  agree_on_judged (i ∷ h) a = agree_on_judged h a

  on_judged : (h : List Item) → AgreeOnAsked (judge_of p) judge h → AgreeOnJudged p.server.methods (judge_of p) judge h
  on_judged [] a = tt
  on_judged (Took c (UserauthRequest u s how) b ∷ h) a = (λ e. a.0, on_judged h a.1)
  on_judged (i ∷ h) a = on_judged h a

  pub judged_run : (side : Side) (h : List Item) → EndRun p side h → has_died h ≡ false → AgreeOnAsked (judge_of p) judge h →
      EndRun (judged_by judge p) side h
  judged_run side h run alive a = supplied_run p judging side h run alive (agree_on_judged h (on_judged h a))

  pub judged_sums : (side : Side) (h : List Item) (e : EndState K) → EndSumsUp p side h e → EndSumsUp (judged_by judge p) side h e
  judged_sums side h e x = supplied_sums p judging side h e x

  pub judged_laws : AreLawful p → AreLawful (judged_by judge p)
  judged_laws l = supplied_laws p judging l

  pub judge_is : judge_of (judged_by judge p) ≡ judge
  judge_is = refl
