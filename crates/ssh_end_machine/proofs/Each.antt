-- Which layer each message is for, and what the other layers say of it.
use Rattle.std.proofs.Common.{◌≡◌, Bool, true, false, not, List, [], ◌∷◌, refl, sym, subst}
use Rattle.std.proofs.lemmas.Bool.{false≢true}
use Rattle.std.specs.Prelude.{nat_lt, Result, Ok, Err, IfErr}
use Rattle.std.specs.Result.{IsErrAnd}
use Rattle.ssh_model.specs.Protocol.Wire.Message.{Msg, Msg.GlobalRequest, Msg.RequestSuccess, Msg.RequestFailure, Msg.ChannelOpen, Msg.ChannelOpenConfirmation, Msg.ChannelOpenFailure, Msg.ChannelWindowAdjust, Msg.ChannelData, Msg.ChannelExtendedData, Msg.ChannelEof, Msg.ChannelClose, Msg.ChannelRequest, Msg.ChannelSuccess, Msg.ChannelFailure, Msg.Unknown, message_number}
use Rattle.ssh_model.specs.State.Channels.Kept.{Channels, take_checks}
use Rattle.ssh_model.specs.declared.refusal.Refusal.{Refusal}
use Rattle.ssh_model.specs.Protocol.Sessions.Refusals.{Check, Check.RefusedWhere, first_refusal}
use Rattle.ssh_auth.specs.Serving as serving
use Rattle.ssh_channels.specs.Rows.{is_connection}
use Rattle.ssh_end_machine.specs.Layer.{layer_of}
use Rattle.ssh_end_machine.specs.declared.layers.layer.Layer.TheVariants as layer

-- ---- one line a message

pub no_channel : (blocked : Bool) (c : Channels) (m : Msg) → layer_of m ≡ layer.Authentication → take_checks blocked c m ≡ []
no_channel blocked c (GlobalRequest name want rest) e = absurd (cc e)
no_channel blocked c (RequestSuccess rest) e = absurd (cc e)
no_channel blocked c RequestFailure e = absurd (cc e)
no_channel blocked c (ChannelOpen kind sender window max rest) e = absurd (cc e)
no_channel blocked c (ChannelOpenConfirmation recipient sender window max rest) e = absurd (cc e)
no_channel blocked c (ChannelOpenFailure recipient reason description language) e = absurd (cc e)
no_channel blocked c (ChannelWindowAdjust recipient bytes) e = absurd (cc e)
no_channel blocked c (ChannelData recipient body) e = absurd (cc e)
no_channel blocked c (ChannelExtendedData recipient kind body) e = absurd (cc e)
no_channel blocked c (ChannelEof recipient) e = absurd (cc e)
no_channel blocked c (ChannelClose recipient) e = absurd (cc e)
no_channel blocked c (ChannelRequest recipient name want rest) e = absurd (cc e)
no_channel blocked c (ChannelSuccess recipient) e = absurd (cc e)
no_channel blocked c (ChannelFailure recipient) e = absurd (cc e)
no_channel blocked c (Unknown number) e = absurd (cc e)
no_channel blocked c _ e = refl

pub of_connection : (m : Msg) → layer_of m ≡ layer.Channels → is_connection m ≡ true
of_connection (GlobalRequest name want rest) e = refl
of_connection (RequestSuccess rest) e = refl
of_connection RequestFailure e = refl
of_connection (ChannelOpen kind sender window max rest) e = refl
of_connection (ChannelOpenConfirmation recipient sender window max rest) e = refl
of_connection (ChannelOpenFailure recipient reason description language) e = refl
of_connection (ChannelWindowAdjust recipient bytes) e = refl
of_connection (ChannelData recipient body) e = refl
of_connection (ChannelExtendedData recipient kind body) e = refl
of_connection (ChannelEof recipient) e = refl
of_connection (ChannelClose recipient) e = refl
of_connection (ChannelRequest recipient name want rest) e = refl
of_connection (ChannelSuccess recipient) e = refl
of_connection (ChannelFailure recipient) e = refl
of_connection _ e = absurd (cc e)

pub known : (m : Msg) → layer_of m ≡ layer.Authentication → serving.IsUnknown m → ⊥
known (GlobalRequest name want rest) e x = cc e
known (RequestSuccess rest) e x = cc e
known RequestFailure e x = cc e
known (ChannelOpen kind sender window max rest) e x = cc e
known (ChannelOpenConfirmation recipient sender window max rest) e x = cc e
known (ChannelOpenFailure recipient reason description language) e x = cc e
known (ChannelWindowAdjust recipient bytes) e x = cc e
known (ChannelData recipient body) e x = cc e
known (ChannelExtendedData recipient kind body) e x = cc e
known (ChannelEof recipient) e x = cc e
known (ChannelClose recipient) e x = cc e
known (ChannelRequest recipient name want rest) e x = cc e
known (ChannelSuccess recipient) e x = cc e
known (ChannelFailure recipient) e x = cc e
known (Unknown number) e x = cc e
known _ e x = x

pub below_80 : (m : Msg) → layer_of m ≡ layer.Authentication → nat_lt (message_number m) 80 ≡ true
below_80 (GlobalRequest name want rest) e = absurd (cc e)
below_80 (RequestSuccess rest) e = absurd (cc e)
below_80 RequestFailure e = absurd (cc e)
below_80 (ChannelOpen kind sender window max rest) e = absurd (cc e)
below_80 (ChannelOpenConfirmation recipient sender window max rest) e = absurd (cc e)
below_80 (ChannelOpenFailure recipient reason description language) e = absurd (cc e)
below_80 (ChannelWindowAdjust recipient bytes) e = absurd (cc e)
below_80 (ChannelData recipient body) e = absurd (cc e)
below_80 (ChannelExtendedData recipient kind body) e = absurd (cc e)
below_80 (ChannelEof recipient) e = absurd (cc e)
below_80 (ChannelClose recipient) e = absurd (cc e)
below_80 (ChannelRequest recipient name want rest) e = absurd (cc e)
below_80 (ChannelSuccess recipient) e = absurd (cc e)
below_80 (ChannelFailure recipient) e = absurd (cc e)
below_80 (Unknown number) e = absurd (cc e)
below_80 _ e = refl

-- ---- results

-- what the exit of a `?` returns
pub given_err : {A E : Type 0} (P : E → Type 0) (r : Result A E) (x : E) → IsErrAnd r (λ given. given ≡ x) → P x → IfErr r P
given_err P (Ok a) x is y = tt
given_err P (Err e) x is y = subst P (sym is) y

-- ---- checks

pub passes : (b : Bool) (why : Refusal) (l : List (Check Refusal)) → b ≡ true → first_refusal (RefusedWhere (not b) why ∷ l) ≡ first_refusal l
passes true why l e = refl
passes false why l e = absurd (false≢true e)
