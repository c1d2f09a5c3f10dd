-- What the layers above the transport keep goes on summing up a history with items that they leave.
use Rattle.std.proofs.Common.{◌≡◌, ℕ, List, [], ◌∷◌, ◌++◌, refl, sym, ◌∙◌, subst, Option}
use Rattle.ssh_model.specs.declared.side.Side.{Side}
use Rattle.ssh_model.specs.declared.side.Side.TheVariants.{Client, Server}
use Rattle.ssh_model.specs.Protocol.Wire.Message.{Msg, Msg.UserauthRequest, Msg.UserauthFailure, Msg.UserauthSuccess, Msg.UserauthPkOk}
use Rattle.ssh_model.specs.Protocol.Sessions.Parties.{Parties}
use Rattle.ssh_model.specs.Protocol.Sessions.Items.{Item, Item.Sent, Item.Took, Item.Told}
use Rattle.ssh_model.specs.Protocol.Sessions.Phases.{outstanding}
use Rattle.ssh_model.specs.State.Authentication.Summary.{LeavesServer, LeavesClient}
use Rattle.ssh_model.specs.Protocol.Channels.Connection.{owed_replies}
use Rattle.ssh_model.specs.Protocol.Channels.History as channel
use Rattle.ssh_model.specs.State.Channels.Kept.{Channels}
use Rattle.ssh_model.specs.State.Channels.Summary.{LeavesChannels, IsNoNewkeys}
use Rattle.ssh_model.specs.State.Channels.Summary as channels
use Rattle.ssh_model.specs.State.TransportLayer.Kept.{Transport}
use Rattle.ssh_model.specs.State.TransportLayer.Summary.{IsPlain}
use Rattle.ssh_model.specs.State.TransportLayer.Summary as transport
use Rattle.ssh_model.specs.State.End.State.{Authentication, Authentication.OfServer, Authentication.OfClient, after_above, after_item, after_items}
use Rattle.ssh_model.specs.State.End.Summary.{AuthenticationSumsUp, AboveSumsUp}
use Rattle.ssh_model.proofs.Authentication.Rows.{server_kept, client_kept}
use Rattle.ssh_model.proofs.Channels.Elsewhere.{kept_elsewhere, owed_elsewhere}
use Rattle.ssh_model.proofs.Items as items

-- ---- authentication

outstanding_kept : (h : List Item) (i : Item) → LeavesClient i → outstanding (i ∷ h) ≡ outstanding h
outstanding_kept h (Sent c (UserauthRequest user service how) b) l = elim l [ ]
outstanding_kept h (Took c (UserauthFailure methods partial) b) l = elim l [ ]
outstanding_kept h (Took c UserauthSuccess b) l = elim l [ ]
outstanding_kept h (Took c (UserauthPkOk algorithm key) b) l = elim l [ ]
outstanding_kept h i l = refl

pub authentication_kept : (side : Side) (h : List Item) (a : Authentication) (i : Item) → LeavesServer i → LeavesClient i → AuthenticationSumsUp side h a → AuthenticationSumsUp side (i ∷ h) a
authentication_kept Server h (OfServer server) i l k has = record { sums = server_kept h server i l has.sums; none_made = outstanding_kept h i k ∙ has.none_made }
authentication_kept Client h (OfClient client) i l k has = client_kept h client i k has
authentication_kept Server h (OfClient client) i l k has = elim has [ ]
authentication_kept Client h (OfServer server) i l k has = elim has [ ]

-- ---- both layers

-- an item that both leave, also what is owed
pub record Leaves (i : Item) : Type 0 where
  pub server : LeavesServer i
  pub client : LeavesClient i
  pub channels : LeavesChannels i
  pub owed : IsNoNewkeys i

abbrev pub AreLeft : List Item → Type 0
AreLeft [] = Unit {0}
AreLeft (i ∷ l) = Leaves i × AreLeft l

-- an item of which the channels keep nothing, also of what is owed
pub record Off (i : Item) : Type 0 where
  pub channels : LeavesChannels i
  pub owed : IsNoNewkeys i

abbrev pub AreOff : List Item → Type 0
AreOff [] = Unit {0}
AreOff (i ∷ l) = Off i × AreOff l

pub channels_one : (side : Side) (h : List Item) (c : Channels) (i : Item) → Off i → channels.SumsUp side h (owed_replies side h) c → channels.SumsUp side (i ∷ h) (owed_replies side (i ∷ h)) c
channels_one side h c i l has =
    let P : List channel.Item → Type 0 = λ o. channels.SumsUp side (i ∷ h) o c in
    subst P (sym (owed_elsewhere side h i l.channels l.owed)) (kept_elsewhere side h (owed_replies side h) c i l.channels has)

pub channels_kept : (side : Side) (h : List Item) (c : Channels) (l : List Item) → AreOff l → channels.SumsUp side h (owed_replies side h) c → channels.SumsUp side (l ++ h) (owed_replies side (l ++ h)) c
channels_kept side h c [] n has = has
channels_kept side h c (i ∷ l) n has = channels_one side (l ++ h) c i n.0 (channels_kept side h c l n.1 has)

pub one_kept : (side : Side) (h : List Item) (a : Authentication) (c : Channels) (i : Item) → Leaves i → AboveSumsUp side h a c → AboveSumsUp side (i ∷ h) a c
one_kept side h a c i l has = record {
  authentication_sums = authentication_kept side h a i l.server l.client has.authentication_sums;
  channels_sum = channels_one side h c i (record { channels = l.channels; owed = l.owed }) has.channels_sum;
  few_owed = has.few_owed;
}

pub all_kept : (side : Side) (h : List Item) (a : Authentication) (c : Channels) (l : List Item) → AreLeft l → AboveSumsUp side h a c → AboveSumsUp side (l ++ h) a c
all_kept side h a c [] n has = has
all_kept side h a c (i ∷ l) n has = one_kept side (l ++ h) a c i n.0 (all_kept side h a c l n.1 has)

-- ---- the transport

-- an item of the layers above in an answer
abbrev pub IsUpper : Side → Item → Type 0
IsUpper Server (Sent c UserauthSuccess b) = Unit {0}
IsUpper side (Sent c m b) = IsPlain m
IsUpper side (Told fact) = Unit {0}
IsUpper side i = ⊥

abbrev pub AreUpper : Side → List Item → Type 0
AreUpper side [] = Unit {0}
AreUpper side (i ∷ l) = IsUpper side i × AreUpper side l

-- a message that a layer above takes
abbrev pub IsTakenAbove : Side → Msg → Type 0
IsTakenAbove Client UserauthSuccess = Unit {0}
IsTakenAbove side m = IsPlain m

module _ {K : Type 0} (p : Parties K) where
  upper_one : (side : Side) (h : List Item) (s : Transport K) (i : Item) → IsUpper side i → transport.SumsUp p side h s → transport.SumsUp p side (i ∷ h) (after_item side i s)
  upper_one Server h s (Sent c UserauthSuccess b) u has = items.success_sent p h s c b has
  upper_one Client h s (Sent c UserauthSuccess b) u has = elim u [ ]
  upper_one Server h s (Sent c m b) u has = items.plain_sent p Server h s c m b u has
  upper_one Client h s (Sent c m b) u has = items.plain_sent p Client h s c m b u has
  upper_one side h s (Told fact) u has = items.left p side h s (Told fact) tt has
  upper_one side h s i u has = elim u [ ]

  pub upper : (side : Side) (h : List Item) (s : Transport K) (l : List Item) → AreUpper side l → transport.SumsUp p side h s → transport.SumsUp p side (l ++ h) (after_items side l s)
  upper side h s [] u has = has
  upper side h s (i ∷ l) u has = upper_one side (l ++ h) (after_items side l s) i u.0 (upper side h s l u.1 has)

  pub above_taken : (side : Side) (h : List Item) (s : Transport K) (c : Option ℕ) (m : Msg) (b : List ℕ) → IsTakenAbove side m → transport.SumsUp p side h s → transport.SumsUp p side (Took c m b ∷ h) (after_above side m s)
  above_taken Client h s c UserauthSuccess b u has = items.success_taken p h s c b has
  above_taken Server h s c UserauthSuccess b u has = elim u [ ]
  above_taken Client h s c m b u has = items.plain_taken p Client h s c m b u has
  above_taken Server h s c m b u has = items.plain_taken p Server h s c m b u has
