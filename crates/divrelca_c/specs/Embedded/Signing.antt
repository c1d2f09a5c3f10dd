-- The logins of a client by keys, and what its program signs for them.
--     signatures_by, is_signed_by      the signatures of its user, and which texts have one
--     IsSignedAsk, LacksSignature      an ask is for a login that it can sign, or cannot
--     oldest_asks                      what the oldest of the asks that wait asks for
--     StandsSigning                    where it stands that is given a signature
use Rattle.std.specs.Prelude.{◌≡◌, ℕ, Bool, false, true, List, [], ◌∷◌, None, Option, Some}
use Rattle.ssh_model.specs.Protocol.Sessions.Items as session
use Rattle.ssh_model.specs.Protocol.Sessions.Items.{Item}
use Rattle.ssh_model.specs.Protocol.Sessions.Parties.{Parties}
use Rattle.ssh_end_machine.specs.Asking.{UserSignatures}
use Rattle.ssh_held.specs.Signing.{IsSettledAsk, SigningAt, fits, is_known_in, is_known_to, longest_text, signatures_of}
use Rattle.ssh_held.specs.declared.login_text.TextRefusal.TheVariants as refusal
use Rattle.ssh_held.specs.declared.signing.GivenSignatures.{GivenSignatures}
use Rattle.divrelca.specs.Parts.AesGcm.{aes_gcm}
use Rattle.divrelca.specs.Parts.Curve25519.{x25519_agreement}
use Rattle.divrelca.specs.UserKey.{signature_by}
use Rattle.divrelca.specs.declared.parts.packet_key.PacketKey.{PacketKey}
use Rattle.divrelca.specs.declared.user_key.UserKey.{UserKey}
use Rattle.divrelca_c.specs.Embedded.Ends.{Client}
use Rattle.divrelca_c.specs.Embedded.Hosts.{trusts_of}
use Rattle.divrelca_c.specs.Embedded.Queues.{asked_by}
use Rattle.divrelca_c.specs.declared.embedded.signing.SignatureLack.{SignatureLack}
use Rattle.divrelca_c.specs.declared.embedded.signing.SignatureLack.TheVariants as lack
use Rattle.divrelca_c.specs.declared.embedded.waiting.Queued.{Queued}

-- the signatures by the key pair of a client's user
abbrev pub own_signatures : UserKey → UserSignatures
own_signatures key = signature_by key.signer

-- those of the user of a client: by its key pair, or given by the program
abbrev pub signatures_by : GivenSignatures UserKey → UserSignatures
signatures_by = signatures_of own_signatures

-- There is one of a text.
abbrev pub is_signed_by : GivenSignatures UserKey → (user algorithm key text : List ℕ) → Bool
is_signed_by = is_known_to own_signatures

-- If it is an ask for a login by a key, a live client has a signature of the text of that login in its session.
abbrev pub IsSignedAsk : Client → Option session.Ask → Type 0
IsSignedAsk client None = Unit {0}
IsSignedAsk client (Some asked) =
    client.end.machine.kept.dead ≡ false →
    IsSettledAsk (is_signed_by client.end.role.own.signer) client.end.machine.kept.session asked

-- why a login of this user by this key has no signature
abbrev pub IsLack : Client → (user algorithm key : List ℕ) → SignatureLack → Type 0
IsLack client user algorithm key (lack.Text refusal.NotYet) = client.end.machine.kept.session ≡ None
IsLack client user algorithm key (lack.Text refusal.TooLong) = fits longest_text user algorithm key ≡ false
IsLack client user algorithm key lack.Unknown =
    is_known_in (is_signed_by client.end.role.own.signer) client.end.machine.kept.session user algorithm key ≡ false

-- It is an ask for a login by a key, and the live client has no signature for it.
pub record LacksSignature (client : Client) (asked : Option session.Ask) (why : SignatureLack) : Type 0 where
  pub user : List ℕ
  pub algorithm : List ℕ
  pub key : List ℕ
  pub is : asked ≡ Some (session.Ask.AskSign user algorithm key)
  pub alive : client.end.machine.kept.dead ≡ false
  pub lacks : IsLack client user algorithm key why

-- what the oldest of these asks that wait asks for, of an end whose user has this key
abbrev pub oldest_asks : List Queued → (key : Option (List ℕ)) → Option session.Ask
oldest_asks [] key = None
oldest_asks (oldest ∷ others) key = asked_by oldest.ask key

-- Whether the text of the login may still come.
abbrev pub is_still_early : SignatureLack → Bool
is_still_early (lack.Text refusal.NotYet) = true
is_still_early why = false

-- Where a client stands that has a signature of each text that it signed, it stands with what it is given, and goes on so.
abbrev pub StandsSigning : (old new : Client) → Type 0
StandsSigning old new = (p : Parties PacketKey) (history : List Item) →
    SigningAt aes_gcm (λ agreement. x25519_agreement) trusts_of own_signatures p old.end history →
    SigningAt aes_gcm (λ agreement. x25519_agreement) trusts_of own_signatures p new.end history

-- The client has this signer in place of the one that it had. Nothing else of its end changes.
abbrev pub OnlySigner : (old new : Client) → Type 0
OnlySigner old new = new.end ≡ record old.end {
  role = record old.end.role { own = record old.end.role.own { signer = new.end.role.own.signer } };
}
