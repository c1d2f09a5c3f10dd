-- The channels of payloads that were sent.
use Rattle.std.proofs.Common.{◌≡◌, ℕ, List, [], ◌∷◌, refl, ap, ◌∙◌, Option, Some, None}
use Rattle.ssh_auth.specs.declared.answer.ClientAnswer.{ClientAnswer}
use Rattle.ssh_auth.specs.declared.answer.ClientAnswer.TheVariants as to_client
use Rattle.ssh_auth.specs.declared.answer.ServerAnswer.{ServerAnswer}
use Rattle.ssh_auth.specs.declared.answer.ServerAnswer.TheVariants as request
use Rattle.ssh_model.specs.State.Channels.Kept.{DueReply}
use Rattle.ssh_model.specs.Protocol.Sessions.Items as session
use Rattle.ssh_model.specs.Protocol.Sessions.Items.{Item, messages_sent}
use Rattle.ssh_transport_machine.specs.Puts.{payloads_of}
use Rattle.ssh_end_machine.specs.Asking.{AreAskChannels, ShowsAsk}
use Rattle.ssh_end_machine.specs.WithChannels.{channels_with, channels_given}
use Rattle.ssh_end_machine.specs.Owed.{channels_sent}
use Rattle.ssh_end_machine.specs.Told.{client_kind_of, event_kind_of}
use Rattle.ssh_end_machine.specs.declared.asking.outcome.AskStep.{AskStep}

-- ---- asks

asked_with : (asked : session.Ask) (step : AskStep) (items : List Item) → ShowsAsk asked step items → channels_with (payloads_of (messages_sent items)) (step.channel ∷ []) ≡ channels_sent items
asked_with asked _ _ (ShowsAsk.sent channel None message payload) = refl
asked_with asked _ _ (ShowsAsk.sent channel (Some opening) message payload) = refl
asked_with asked _ _ (ShowsAsk.disconnected description payload is) = refl
asked_with asked _ _ ShowsAsk.spent = refl

-- the single channel that is noted is that of what was sent on an ask
pub ask_channels : (asked : session.Ask) (step : AskStep) (payloads : List (List ℕ)) (channels : List (Option ℕ)) → channels ≡ channels_with payloads (step.channel ∷ []) → AreAskChannels asked step payloads channels
ask_channels asked step payloads channels e = λ items shows sent. e ∙ (ap (λ (l : List (List ℕ)). channels_with l (step.channel ∷ [])) sent ∙ asked_with asked step items shows)

-- ---- steps

-- what a server answers is told of no exchange
pub telling_later : (g : ServerAnswer) (owed : List DueReply) → channels_given (event_kind_of g) owed ≡ []
telling_later request.Accepted owed = refl
telling_later request.Ignored owed = refl
telling_later (request.KeyOk algorithm key) owed = refl
telling_later request.Failed owed = refl
telling_later request.Unimplemented owed = refl

-- nor is what a client answers
pub client_telling_later : (g : ClientAnswer) (owed : List DueReply) → channels_given (client_kind_of g) owed ≡ []
client_telling_later to_client.Failed owed = refl
client_telling_later (to_client.Authenticated request) owed = refl
client_telling_later to_client.Banner owed = refl
client_telling_later to_client.KeyOk owed = refl
client_telling_later to_client.Unimplemented owed = refl
