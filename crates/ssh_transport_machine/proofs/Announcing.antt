-- The extensions of a config fit a payload.
use Rattle.std.proofs.Common.{◌≡◌, ◌≤◌, ◌+◌, ◌*◌, ◌==◌, ℕ, Bool, true, false, ◌&&◌, List, [], ◌∷◌, length, arith, refl, subst, leb-true, Some, None}
use Rattle.std.specs.Prelude.{nat_le}
use Rattle.std.specs.List.{count_by, list_all}
use Rattle.ssh_model.specs.Protocol.Bounds.{longest_payload}
use Rattle.ssh_model.specs.Protocol.Wire.DataTypes.{is_name, is_name_byte}
use Rattle.ssh_model.specs.Protocol.Wire.Message.{Msg, Msg.ExtInfo, Extension, IsExtensions, IsWrittenPayload}
use Rattle.ssh_model.specs.Laws.Sizes.{HasPayloadSize, extensions_size, payload_size}
use Rattle.ssh_model.specs.Protocol.Sessions.TurnClaims.{HasEncoding}
use Rattle.ssh_model.specs.State.TransportLayer.Kept.{Transport, is_announcing}
use Rattle.ssh_model.specs.Laws.Written.{Made, byte, ended, encoded, string, uint32}
use Rattle.ssh_config.specs.Config.{AreExtensions, Given, extension_names, is_short_value}
use Rattle.ssh_transport_machine.specs.Finishing.{HasAnnouncement}
use Rattle.ssh_transport_machine.specs.State.{State}

left : (a b : Bool) → (a && b) ≡ true → a ≡ true
left true b e = refl
left false b e = absurd (cc e)

right : (a b : Bool) → (a && b) ≡ true → b ≡ true
right true b e = e
right false b e = absurd (cc e)

short_name : (name : List ℕ) → is_name name ≡ true → length name ≤ 64
short_name name e =
    let size = nat_le 1 (length name) && nat_le (length name) 64 in
    let bytes = list_all is_name_byte name in
    let one = nat_le (count_by (λ c. c == 64) name) 1 in
    leb-true (length name) 64 (right (nat_le 1 (length name)) (nat_le (length name) 64) (left size bytes (left (size && bytes) one e)))

sized : (l : List Extension) → list_all is_name (extension_names l) ≡ true → list_all is_short_value l ≡ true → extensions_size l ≤ length l * 1096
sized [] n v = omega arith
sized (x ∷ l) n v =
    let name = short_name x.name (left (is_name x.name) (list_all is_name (extension_names l)) n) in
    let value = leb-true (length x.value) 1024 (left (is_short_value x) (list_all is_short_value l) v) in
    let rest = sized l (right (is_name x.name) (list_all is_name (extension_names l)) n) (right (is_short_value x) (list_all is_short_value l) v) in
    omega (arith, name, value, rest)

pub fits : (g : Given) → AreExtensions g → payload_size (ExtInfo g.extensions) ≤ longest_payload
fits g x = let s = sized g.extensions x.names x.values in omega (arith, s, x.most)

-- ---- it has an encoding

made : (l : List Extension) → extensions_size l ≤ longest_payload → Made (IsExtensions l) (extensions_size l)
made [] n = ended
made (x ∷ l) n = string x.name (omega (arith, n)) (string x.value (omega (arith, n)) (made l (omega (arith, n))))

row : (g : Given) → AreExtensions g → Made (IsWrittenPayload (ExtInfo g.extensions)) (1 + (4 + extensions_size g.extensions))
row g x = byte 7 (uint32 (length g.extensions) (omega (arith, x.most)) (made g.extensions (omega (arith, fits g x))))

abbrev Sized : Type 0
Sized = (message : Msg) (payload : List ℕ) → IsWrittenPayload message payload → HasPayloadSize message payload

module _ (sized_by : Sized) {K : Type 0} (s : Transport K) (g : Given) (same : g.extensions ≡ s.settings.extensions) (x : AreExtensions g) where
  encoding : HasEncoding (ExtInfo s.settings.extensions)
  encoding = subst (λ (l : List Extension). HasEncoding (ExtInfo l)) same (encoded (ExtInfo g.extensions) _ (row g x) tt (fits g x))

  size : length encoding.payload ≡ payload_size (ExtInfo s.settings.extensions)
  size = sized_by (ExtInfo s.settings.extensions) encoding.payload encoding.encodes.row

  announced : (b : Bool) → is_announcing s ≡ b → HasAnnouncement s
  announced true e = record { announcement = Some encoding.payload; announcement_is = record { due = e; encoded = encoding.encodes; some = omega (arith, size); most = encoding.encodes.size } }
  announced false e = record { announcement = None; announcement_is = e }

pub has_announcement : {K : Type 0} → Sized → (s : State K) (now : State K) (g : Given) → s ≡ now → g.extensions ≡ s.kept.settings.extensions → AreExtensions g → HasAnnouncement now.kept
has_announcement {K = K} sized_by s now g is same x = subst (λ (w : State K). HasAnnouncement w.kept) is (announced sized_by s.kept g same x (is_announcing s.kept) refl)
