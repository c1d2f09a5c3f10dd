-- What an end did when it was made, and how that is recorded.
use Rattle.std.proofs.Common.{◌≡◌, ℕ, true, Option, None, List, [], ◌∷◌, ap, sym, ◌∙◌, subst}
use Rattle.ssh_model.specs.Protocol.KeyExchange.Exchanges.{Material}
use Rattle.ssh_model.specs.Protocol.Sessions.Items.{Item, Item.Fed, Item.Sent, Item.SentLine, messages_sent}
use Rattle.ssh_model.specs.Protocol.Sessions.Parties.{Parties, Settings, offer, settings_of}
use Rattle.ssh_model.specs.declared.side.Side.{Side}
use Rattle.ssh_model.specs.Protocol.Wire.Message.{Msg.KexInit}
use Rattle.ssh_model.specs.Protocol.Wire.Sealing.{Crypto}
use Rattle.ssh_transport_machine.specs.Opening.{IsOpened}
use Rattle.ssh_transport_machine.specs.Puts.{Outs, payloads_of}
use Rattle.ssh_transport_machine.specs.State.{State}
use Rattle.ssh_end_machine.specs.WithChannels.{channels_with}
use Rattle.ssh_end_machine.specs.Stands.{MadeAt}
use Rattle.ssh_end.specs.TwoEnds.Items.{Records}
use Rattle.ssh_end.specs.TwoEnds.Recording.{Adds, AddsSent}
use Rattle.ssh_end.specs.TwoEnds.Playing.{Opens}
use Rattle.ssh_end.specs.TwoEnds.Standing.{Standing, kept_bytes, state_in}
use Rattle.ssh_end.specs.declared.item.Done as declared
use Rattle.ssh_end.proofs.TwoEnds.Recording.{adds_more}

-- an end that put out its first KEXINIT holds no byte
pub begins_with_nothing : {K : Type 0} (c : Crypto K) (settings : Settings) (side : Side) (cookie secret : List ℕ) (machine : State K) (o : Outs) → IsOpened c settings side cookie secret machine o → kept_bytes machine ≡ []
begins_with_nothing c settings side cookie secret machine o x = ap (λ s. kept_bytes s) x.state_is

pub opens : {K : Type 0} (p : Parties K) (side : Side) (v : Standing K) (material : Material) (log_old log_mid log_new : List declared.Done) (out_old out_new : List ℕ) (sent : List (List ℕ)) (channels : List (Option ℕ)) →
    MadeAt p side (v.parts p) (v.layers p) material v.machine (state_in v) out_old out_new sent → Adds side (SentLine (settings_of p side).line ∷ []) log_old log_mid → AddsSent side sent channels log_mid log_new →
    channels ≡ channels_with sent (None ∷ []) → kept_bytes v.machine ≡ [] → Opens p side material v log_old log_new out_old out_new sent
opens p side v material log_old log_mid log_new out_old out_new sent channels made line says on buffered =
    let x = made.opened.opening in
    let kexinit : Item = Sent None (KexInit (offer p side true x.cookie)) x.payload in
    let before : List Item = SentLine (settings_of p side).line ∷ Fed x.cookie x.secret ∷ [] in
    let fed : Adds side (Fed x.cookie x.secret ∷ []) log_old log_old = λ run n. Records.fed side x.cookie x.secret n in
    let early : Adds side before log_old log_mid = adds_more side (Fed x.cookie x.secret ∷ []) (SentLine (settings_of p side).line ∷ []) log_old log_old log_mid fed line in
    let lists : sent ≡ x.payload ∷ [] = made.lists ∙ ap (λ (items : List Item). payloads_of (messages_sent items)) x.items_are in
    record {
      made = made;
      records = subst (λ (items : List Item). Adds side items log_old log_new) (sym x.items_are)
          (adds_more side before (kexinit ∷ []) log_old log_mid log_new early (says (kexinit ∷ []) tt lists (on ∙ ap (λ (l : List (List ℕ)). channels_with l (None ∷ [])) lists)));
      buffered = buffered;
    }
