-- Which rows a number leaves: a payload with a number is a message of that number's row, and of no other.
use Rattle.std.proofs.Common.{◌≡◌, ℕ, Bool, true, false, List, ◌∷◌, ◌++◌, refl, sym, ap, subst, ◌∙◌}
use Rattle.std.specs.Prelude.{◌==◌, IsTrue}
use Rattle.ssh_model.specs.Protocol.Wire.DataTypes.{IsByte, IsBoolean, IsUint32, IsString, IsNameList}
use Rattle.ssh_model.specs.Protocol.Wire.Message.{Msg, Then, IsRest, IsMethod, IsProposal, IsPayload, is_unknown, Disconnect, Ignore, Unimplemented, Debug, ServiceRequest, ServiceAccept, ExtInfo, KexInit, NewKeys, KexEcdhInit, KexEcdhReply, UserauthRequest, UserauthFailure, UserauthSuccess, UserauthBanner, UserauthPkOk, GlobalRequest, RequestSuccess, RequestFailure, ChannelOpen, ChannelOpenConfirmation, ChannelOpenFailure, ChannelWindowAdjust, ChannelData, ChannelExtendedData, ChannelEof, ChannelClose, ChannelRequest, ChannelSuccess, ChannelFailure, Unknown}
use Rattle.ssh_message.specs.Announced.{IsAnnounced}
use Rattle.ssh_message.specs.Meaning.{NoMessage, IsNone}
use Rattle.ssh_message.specs.Parts.{Both, IsNothing, NoWhole}
use Rattle.ssh_message.proofs.Fields.{ProposalFields, proposal_of, values_of}

-- The message is made of values, and the bytes after the number encode them.
pub record IsMade {V : Type 0} (make : V → Msg) (Encodes : V → List ℕ → Type 0) (rest : List ℕ) (m : Msg) : Type 0 where
  pub value : V
  pub is : m ≡ make value
  pub encoded : Encodes value rest

abbrev pub Choose : Bool → Type 0 → Type 0 → Type 0
Choose true A B = A
Choose false A B = B

-- what a message with this number is made of, where the number is known
abbrev pub KnownRowAt : ℕ → List ℕ → Msg → Type 0
KnownRowAt n rest m =
    Choose (n == 1) (IsMade (λ v. Disconnect v.0 v.1.0 v.1.1.0) (Both IsUint32 (Both IsString (Both IsString IsNothing))) rest m) (
    Choose (n == 2) (IsMade (λ v. Ignore v.0) (Both IsString IsNothing) rest m) (
    Choose (n == 3) (IsMade (λ v. Unimplemented v.0) (Both IsUint32 IsNothing) rest m) (
    Choose (n == 4) (IsMade (λ v. Debug v.0 v.1.0 v.1.1.0) (Both IsBoolean (Both IsString (Both IsString IsNothing))) rest m) (
    Choose (n == 5) (IsMade (λ v. ServiceRequest v.0) (Both IsString IsNothing) rest m) (
    Choose (n == 6) (IsMade (λ v. ServiceAccept v.0) (Both IsString IsNothing) rest m) (
    Choose (n == 7) (IsMade (λ v. ExtInfo v) IsAnnounced rest m) (
    Choose (n == 20) (IsMade (λ v. KexInit (proposal_of v)) ProposalFields rest m) (
    Choose (n == 21) (IsMade (λ v. NewKeys) IsNothing rest m) (
    Choose (n == 30) (IsMade (λ v. KexEcdhInit v.0) (Both IsString IsNothing) rest m) (
    Choose (n == 31) (IsMade (λ v. KexEcdhReply v.0 v.1.0 v.1.1.0) (Both IsString (Both IsString (Both IsString IsNothing))) rest m) (
    Choose (n == 50) (IsMade (λ v. UserauthRequest v.0 v.1.0 v.1.1) (Both IsString (Both IsString (IsMethod IsBoolean))) rest m) (
    Choose (n == 51) (IsMade (λ v. UserauthFailure v.0 v.1.0) (Both IsNameList (Both IsBoolean IsNothing)) rest m) (
    Choose (n == 52) (IsMade (λ v. UserauthSuccess) IsNothing rest m) (
    Choose (n == 53) (IsMade (λ v. UserauthBanner v.0 v.1.0) (Both IsString (Both IsString IsNothing)) rest m) (
    Choose (n == 60) (IsMade (λ v. UserauthPkOk v.0 v.1.0) (Both IsString (Both IsString IsNothing)) rest m) (
    Choose (n == 80) (IsMade (λ v. GlobalRequest v.0 v.1.0 v.1.1) (Both IsString (Both IsBoolean IsRest)) rest m) (
    Choose (n == 81) (IsMade (λ v. RequestSuccess v) IsRest rest m) (
    Choose (n == 82) (IsMade (λ v. RequestFailure) IsNothing rest m) (
    Choose (n == 90) (IsMade (λ v. ChannelOpen v.0 v.1.0 v.1.1.0 v.1.1.1.0 v.1.1.1.1) (Both IsString (Both IsUint32 (Both IsUint32 (Both IsUint32 IsRest)))) rest m) (
    Choose (n == 91) (IsMade (λ v. ChannelOpenConfirmation v.0 v.1.0 v.1.1.0 v.1.1.1.0 v.1.1.1.1) (Both IsUint32 (Both IsUint32 (Both IsUint32 (Both IsUint32 IsRest)))) rest m) (
    Choose (n == 92) (IsMade (λ v. ChannelOpenFailure v.0 v.1.0 v.1.1.0 v.1.1.1.0) (Both IsUint32 (Both IsUint32 (Both IsString (Both IsString IsNothing)))) rest m) (
    Choose (n == 93) (IsMade (λ v. ChannelWindowAdjust v.0 v.1.0) (Both IsUint32 (Both IsUint32 IsNothing)) rest m) (
    Choose (n == 94) (IsMade (λ v. ChannelData v.0 v.1.0) (Both IsUint32 (Both IsString IsNothing)) rest m) (
    Choose (n == 95) (IsMade (λ v. ChannelExtendedData v.0 v.1.0 v.1.1.0) (Both IsUint32 (Both IsUint32 (Both IsString IsNothing))) rest m) (
    Choose (n == 96) (IsMade (λ v. ChannelEof v.0) (Both IsUint32 IsNothing) rest m) (
    Choose (n == 97) (IsMade (λ v. ChannelClose v.0) (Both IsUint32 IsNothing) rest m) (
    Choose (n == 98) (IsMade (λ v. ChannelRequest v.0 v.1.0 v.1.1.0 v.1.1.1) (Both IsUint32 (Both IsString (Both IsBoolean IsRest))) rest m) (
    Choose (n == 99) (IsMade (λ v. ChannelSuccess v.0) (Both IsUint32 IsNothing) rest m) (
    Choose (n == 100) (IsMade (λ v. ChannelFailure v.0) (Both IsUint32 IsNothing) rest m) ⊥)))))))))))))))))))))))))))))

-- what a message with this number is made of
abbrev pub RowAt : Bool → ℕ → List ℕ → Msg → Type 0
RowAt probing n rest m = Choose (is_unknown probing n) (m ≡ Unknown n) (KnownRowAt n rest m)

-- with no row the number is unknown
chosen : (b : Bool) (A B : Type 0) → IsTrue b → A → Choose b A B
chosen true A B t a = a
chosen false A B t a = absurd cc

-- the number in front
byte_front : (k n : ℕ) (Q : List ℕ → Type 0) (rest : List ℕ) → Then (IsByte k) Q (n ∷ rest) → (n ≡ k) × Q rest
byte_front k n Q rest t =
    let e : n ∷ rest ≡ k ∷ t.back = t.parts ∙ ap (λ (f : List ℕ). f ++ t.back) t.first in
    let tail : t.back ≡ rest = cc in
    (cc, subst Q tail t.second)

pub row_at : (probing : Bool) (m : Msg) (n : ℕ) (rest : List ℕ) → IsPayload probing m (n ∷ rest) → RowAt probing n rest m
row_at probing (Disconnect reason description language) n rest h =
    let e = byte_front 1 n _ rest h.row in
    subst (λ (k : ℕ). RowAt probing k rest (Disconnect reason description language)) (sym e.0) (record { value = (reason, (description, (language, tt))); is = refl; encoded = e.1 })
row_at probing (Ignore body) n rest h =
    let e = byte_front 2 n _ rest h.row in
    subst (λ (k : ℕ). RowAt probing k rest (Ignore body)) (sym e.0) (record { value = (body, tt); is = refl; encoded = e.1 })
row_at probing (Unimplemented number) n rest h =
    let e = byte_front 3 n _ rest h.row in
    subst (λ (k : ℕ). RowAt probing k rest (Unimplemented number)) (sym e.0) (record { value = (number, tt); is = refl; encoded = e.1 })
row_at probing (Debug display message language) n rest h =
    let e = byte_front 4 n _ rest h.row in
    subst (λ (k : ℕ). RowAt probing k rest (Debug display message language)) (sym e.0) (record { value = (display, (message, (language, tt))); is = refl; encoded = e.1 })
row_at probing (ServiceRequest service) n rest h =
    let e = byte_front 5 n _ rest h.row in
    subst (λ (k : ℕ). RowAt probing k rest (ServiceRequest service)) (sym e.0) (record { value = (service, tt); is = refl; encoded = e.1 })
row_at probing (ServiceAccept service) n rest h =
    let e = byte_front 6 n _ rest h.row in
    subst (λ (k : ℕ). RowAt probing k rest (ServiceAccept service)) (sym e.0) (record { value = (service, tt); is = refl; encoded = e.1 })
row_at probing (ExtInfo all) n rest h =
    let e = byte_front 7 n (IsAnnounced all) rest h.row in
    subst (λ (k : ℕ). RowAt probing k rest (ExtInfo all)) (sym e.0) (record { value = all; is = refl; encoded = e.1 })
row_at probing (KexInit p) n rest h =
    let e = byte_front 20 n (IsProposal IsBoolean p) rest h.row in
    subst (λ (k : ℕ). RowAt probing k rest (KexInit p)) (sym e.0) (record { value = values_of p; is = refl; encoded = e.1 })
row_at probing NewKeys n rest h =
    let e = byte_front 21 n _ rest h.row in
    subst (λ (k : ℕ). RowAt probing k rest NewKeys) (sym e.0) (record { value = tt; is = refl; encoded = e.1 })
row_at probing (KexEcdhInit q_c) n rest h =
    let e = byte_front 30 n _ rest h.row in
    subst (λ (k : ℕ). RowAt probing k rest (KexEcdhInit q_c)) (sym e.0) (record { value = (q_c, tt); is = refl; encoded = e.1 })
row_at probing (KexEcdhReply k_s q_s signature) n rest h =
    let e = byte_front 31 n _ rest h.row in
    subst (λ (k : ℕ). RowAt probing k rest (KexEcdhReply k_s q_s signature)) (sym e.0) (record { value = (k_s, (q_s, (signature, tt))); is = refl; encoded = e.1 })
row_at probing (UserauthRequest user service method) n rest h =
    let e = byte_front 50 n _ rest h.row in
    subst (λ (k : ℕ). RowAt probing k rest (UserauthRequest user service method)) (sym e.0) (record { value = (user, (service, method)); is = refl; encoded = e.1 })
row_at probing (UserauthFailure methods partial) n rest h =
    let e = byte_front 51 n _ rest h.row in
    subst (λ (k : ℕ). RowAt probing k rest (UserauthFailure methods partial)) (sym e.0) (record { value = (methods, (partial, tt)); is = refl; encoded = e.1 })
row_at probing UserauthSuccess n rest h =
    let e = byte_front 52 n _ rest h.row in
    subst (λ (k : ℕ). RowAt probing k rest UserauthSuccess) (sym e.0) (record { value = tt; is = refl; encoded = e.1 })
row_at probing (UserauthBanner message language) n rest h =
    let e = byte_front 53 n _ rest h.row in
    subst (λ (k : ℕ). RowAt probing k rest (UserauthBanner message language)) (sym e.0) (record { value = (message, (language, tt)); is = refl; encoded = e.1 })
row_at true (UserauthPkOk algorithm key) n rest h =
    let e = byte_front 60 n _ rest h.row in
    subst (λ (k : ℕ). RowAt true k rest (UserauthPkOk algorithm key)) (sym e.0) (record { value = (algorithm, (key, tt)); is = refl; encoded = e.1 })
row_at false (UserauthPkOk algorithm key) n rest h = absurd (let s : false ≡ true = h.context in cc)
row_at probing (GlobalRequest name want left) n rest h =
    let e = byte_front 80 n _ rest h.row in
    subst (λ (k : ℕ). RowAt probing k rest (GlobalRequest name want left)) (sym e.0) (record { value = (name, (want, left)); is = refl; encoded = e.1 })
row_at probing (RequestSuccess left) n rest h =
    let e = byte_front 81 n _ rest h.row in
    subst (λ (k : ℕ). RowAt probing k rest (RequestSuccess left)) (sym e.0) (record { value = left; is = refl; encoded = e.1 })
row_at probing RequestFailure n rest h =
    let e = byte_front 82 n _ rest h.row in
    subst (λ (k : ℕ). RowAt probing k rest RequestFailure) (sym e.0) (record { value = tt; is = refl; encoded = e.1 })
row_at probing (ChannelOpen kind sender window max left) n rest h =
    let e = byte_front 90 n _ rest h.row in
    subst (λ (k : ℕ). RowAt probing k rest (ChannelOpen kind sender window max left)) (sym e.0) (record { value = (kind, (sender, (window, (max, left)))); is = refl; encoded = e.1 })
row_at probing (ChannelOpenConfirmation recipient sender window max left) n rest h =
    let e = byte_front 91 n _ rest h.row in
    subst (λ (k : ℕ). RowAt probing k rest (ChannelOpenConfirmation recipient sender window max left)) (sym e.0) (record { value = (recipient, (sender, (window, (max, left)))); is = refl; encoded = e.1 })
row_at probing (ChannelOpenFailure recipient reason description language) n rest h =
    let e = byte_front 92 n _ rest h.row in
    subst (λ (k : ℕ). RowAt probing k rest (ChannelOpenFailure recipient reason description language)) (sym e.0) (record { value = (recipient, (reason, (description, (language, tt)))); is = refl; encoded = e.1 })
row_at probing (ChannelWindowAdjust recipient bytes) n rest h =
    let e = byte_front 93 n _ rest h.row in
    subst (λ (k : ℕ). RowAt probing k rest (ChannelWindowAdjust recipient bytes)) (sym e.0) (record { value = (recipient, (bytes, tt)); is = refl; encoded = e.1 })
row_at probing (ChannelData recipient body) n rest h =
    let e = byte_front 94 n _ rest h.row in
    subst (λ (k : ℕ). RowAt probing k rest (ChannelData recipient body)) (sym e.0) (record { value = (recipient, (body, tt)); is = refl; encoded = e.1 })
row_at probing (ChannelExtendedData recipient kind body) n rest h =
    let e = byte_front 95 n _ rest h.row in
    subst (λ (k : ℕ). RowAt probing k rest (ChannelExtendedData recipient kind body)) (sym e.0) (record { value = (recipient, (kind, (body, tt))); is = refl; encoded = e.1 })
row_at probing (ChannelEof recipient) n rest h =
    let e = byte_front 96 n _ rest h.row in
    subst (λ (k : ℕ). RowAt probing k rest (ChannelEof recipient)) (sym e.0) (record { value = (recipient, tt); is = refl; encoded = e.1 })
row_at probing (ChannelClose recipient) n rest h =
    let e = byte_front 97 n _ rest h.row in
    subst (λ (k : ℕ). RowAt probing k rest (ChannelClose recipient)) (sym e.0) (record { value = (recipient, tt); is = refl; encoded = e.1 })
row_at probing (ChannelRequest recipient name want left) n rest h =
    let e = byte_front 98 n _ rest h.row in
    subst (λ (k : ℕ). RowAt probing k rest (ChannelRequest recipient name want left)) (sym e.0) (record { value = (recipient, (name, (want, left))); is = refl; encoded = e.1 })
row_at probing (ChannelSuccess recipient) n rest h =
    let e = byte_front 99 n _ rest h.row in
    subst (λ (k : ℕ). RowAt probing k rest (ChannelSuccess recipient)) (sym e.0) (record { value = (recipient, tt); is = refl; encoded = e.1 })
row_at probing (ChannelFailure recipient) n rest h =
    let e = byte_front 100 n _ rest h.row in
    subst (λ (k : ℕ). RowAt probing k rest (ChannelFailure recipient)) (sym e.0) (record { value = (recipient, tt); is = refl; encoded = e.1 })
row_at probing (Unknown number) n rest h =
    let e = byte_front number n _ rest h.row in
    subst (λ (k : ℕ). RowAt probing k rest (Unknown number)) (sym e.0) (chosen (is_unknown probing number) _ (KnownRowAt number rest (Unknown number)) h.context refl)

pub no_disconnect : (rest : List ℕ) → NoWhole (Both IsUint32 (Both IsString (Both IsString IsNothing))) rest → IsNone (1 ∷ rest)
no_disconnect rest h = λ probing. record { none = λ m p. let row = row_at probing m 1 rest p in h.none row.value row.encoded }

pub no_ignore : (rest : List ℕ) → NoWhole (Both IsString IsNothing) rest → IsNone (2 ∷ rest)
no_ignore rest h = λ probing. record { none = λ m p. let row = row_at probing m 2 rest p in h.none row.value row.encoded }

pub no_unimplemented : (rest : List ℕ) → NoWhole (Both IsUint32 IsNothing) rest → IsNone (3 ∷ rest)
no_unimplemented rest h = λ probing. record { none = λ m p. let row = row_at probing m 3 rest p in h.none row.value row.encoded }

pub no_debug : (rest : List ℕ) → NoWhole (Both IsBoolean (Both IsString (Both IsString IsNothing))) rest → IsNone (4 ∷ rest)
no_debug rest h = λ probing. record { none = λ m p. let row = row_at probing m 4 rest p in h.none row.value row.encoded }

pub no_service_request : (rest : List ℕ) → NoWhole (Both IsString IsNothing) rest → IsNone (5 ∷ rest)
no_service_request rest h = λ probing. record { none = λ m p. let row = row_at probing m 5 rest p in h.none row.value row.encoded }

pub no_service_accept : (rest : List ℕ) → NoWhole (Both IsString IsNothing) rest → IsNone (6 ∷ rest)
no_service_accept rest h = λ probing. record { none = λ m p. let row = row_at probing m 6 rest p in h.none row.value row.encoded }

pub no_ext_info : (rest : List ℕ) → NoWhole IsAnnounced rest → IsNone (7 ∷ rest)
no_ext_info rest h = λ probing. record { none = λ m p. let row = row_at probing m 7 rest p in h.none row.value row.encoded }

pub no_kex_init : (rest : List ℕ) → NoWhole ProposalFields rest → IsNone (20 ∷ rest)
no_kex_init rest h = λ probing. record { none = λ m p. let row = row_at probing m 20 rest p in h.none row.value row.encoded }

pub no_new_keys : (rest : List ℕ) → NoWhole IsNothing rest → IsNone (21 ∷ rest)
no_new_keys rest h = λ probing. record { none = λ m p. let row = row_at probing m 21 rest p in h.none row.value row.encoded }

pub no_kex_ecdh_init : (rest : List ℕ) → NoWhole (Both IsString IsNothing) rest → IsNone (30 ∷ rest)
no_kex_ecdh_init rest h = λ probing. record { none = λ m p. let row = row_at probing m 30 rest p in h.none row.value row.encoded }

pub no_kex_ecdh_reply : (rest : List ℕ) → NoWhole (Both IsString (Both IsString (Both IsString IsNothing))) rest → IsNone (31 ∷ rest)
no_kex_ecdh_reply rest h = λ probing. record { none = λ m p. let row = row_at probing m 31 rest p in h.none row.value row.encoded }

pub no_userauth_request : (rest : List ℕ) → NoWhole (Both IsString (Both IsString (IsMethod IsBoolean))) rest → IsNone (50 ∷ rest)
no_userauth_request rest h = λ probing. record { none = λ m p. let row = row_at probing m 50 rest p in h.none row.value row.encoded }

pub no_userauth_failure : (rest : List ℕ) → NoWhole (Both IsNameList (Both IsBoolean IsNothing)) rest → IsNone (51 ∷ rest)
no_userauth_failure rest h = λ probing. record { none = λ m p. let row = row_at probing m 51 rest p in h.none row.value row.encoded }

pub no_userauth_success : (rest : List ℕ) → NoWhole IsNothing rest → IsNone (52 ∷ rest)
no_userauth_success rest h = λ probing. record { none = λ m p. let row = row_at probing m 52 rest p in h.none row.value row.encoded }

pub no_userauth_banner : (rest : List ℕ) → NoWhole (Both IsString (Both IsString IsNothing)) rest → IsNone (53 ∷ rest)
no_userauth_banner rest h = λ probing. record { none = λ m p. let row = row_at probing m 53 rest p in h.none row.value row.encoded }

pub no_userauth_pk_ok : (rest : List ℕ) → NoWhole (Both IsString (Both IsString IsNothing)) rest → NoMessage true (60 ∷ rest)
no_userauth_pk_ok rest h = record { none = λ m p. let row = row_at true m 60 rest p in h.none row.value row.encoded }

pub no_global_request : (rest : List ℕ) → NoWhole (Both IsString (Both IsBoolean IsRest)) rest → IsNone (80 ∷ rest)
no_global_request rest h = λ probing. record { none = λ m p. let row = row_at probing m 80 rest p in h.none row.value row.encoded }

pub no_request_failure : (rest : List ℕ) → NoWhole IsNothing rest → IsNone (82 ∷ rest)
no_request_failure rest h = λ probing. record { none = λ m p. let row = row_at probing m 82 rest p in h.none row.value row.encoded }

pub no_channel_open : (rest : List ℕ) → NoWhole (Both IsString (Both IsUint32 (Both IsUint32 (Both IsUint32 IsRest)))) rest → IsNone (90 ∷ rest)
no_channel_open rest h = λ probing. record { none = λ m p. let row = row_at probing m 90 rest p in h.none row.value row.encoded }

pub no_channel_open_confirmation : (rest : List ℕ) → NoWhole (Both IsUint32 (Both IsUint32 (Both IsUint32 (Both IsUint32 IsRest)))) rest → IsNone (91 ∷ rest)
no_channel_open_confirmation rest h = λ probing. record { none = λ m p. let row = row_at probing m 91 rest p in h.none row.value row.encoded }

pub no_channel_open_failure : (rest : List ℕ) → NoWhole (Both IsUint32 (Both IsUint32 (Both IsString (Both IsString IsNothing)))) rest → IsNone (92 ∷ rest)
no_channel_open_failure rest h = λ probing. record { none = λ m p. let row = row_at probing m 92 rest p in h.none row.value row.encoded }

pub no_channel_window_adjust : (rest : List ℕ) → NoWhole (Both IsUint32 (Both IsUint32 IsNothing)) rest → IsNone (93 ∷ rest)
no_channel_window_adjust rest h = λ probing. record { none = λ m p. let row = row_at probing m 93 rest p in h.none row.value row.encoded }

pub no_channel_data : (rest : List ℕ) → NoWhole (Both IsUint32 (Both IsString IsNothing)) rest → IsNone (94 ∷ rest)
no_channel_data rest h = λ probing. record { none = λ m p. let row = row_at probing m 94 rest p in h.none row.value row.encoded }

pub no_channel_extended_data : (rest : List ℕ) → NoWhole (Both IsUint32 (Both IsUint32 (Both IsString IsNothing))) rest → IsNone (95 ∷ rest)
no_channel_extended_data rest h = λ probing. record { none = λ m p. let row = row_at probing m 95 rest p in h.none row.value row.encoded }

pub no_channel_eof : (rest : List ℕ) → NoWhole (Both IsUint32 IsNothing) rest → IsNone (96 ∷ rest)
no_channel_eof rest h = λ probing. record { none = λ m p. let row = row_at probing m 96 rest p in h.none row.value row.encoded }

pub no_channel_close : (rest : List ℕ) → NoWhole (Both IsUint32 IsNothing) rest → IsNone (97 ∷ rest)
no_channel_close rest h = λ probing. record { none = λ m p. let row = row_at probing m 97 rest p in h.none row.value row.encoded }

pub no_channel_request : (rest : List ℕ) → NoWhole (Both IsUint32 (Both IsString (Both IsBoolean IsRest))) rest → IsNone (98 ∷ rest)
no_channel_request rest h = λ probing. record { none = λ m p. let row = row_at probing m 98 rest p in h.none row.value row.encoded }

pub no_channel_success : (rest : List ℕ) → NoWhole (Both IsUint32 IsNothing) rest → IsNone (99 ∷ rest)
no_channel_success rest h = λ probing. record { none = λ m p. let row = row_at probing m 99 rest p in h.none row.value row.encoded }

pub no_channel_failure : (rest : List ℕ) → NoWhole (Both IsUint32 IsNothing) rest → IsNone (100 ∷ rest)
no_channel_failure rest h = λ probing. record { none = λ m p. let row = row_at probing m 100 rest p in h.none row.value row.encoded }
