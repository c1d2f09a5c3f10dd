-- A later KEXINIT of an end with good settings fits a packet.
use Rattle.std.proofs.Common.{◌≡◌, ℕ, ◌<◌, ◌≤◌, ◌^◌, List, [], ◌∷◌, length, arith, refl, subst, false}
use Rattle.std.specs.Prelude.{codes}
use Rattle.std.specs.List.{join_with_byte}
use Rattle.ssh_model.specs.declared.side.Side.{Side}
use Rattle.ssh_model.specs.Protocol.Wire.Message.{Msg.KexInit}
use Rattle.ssh_model.specs.Protocol.Sessions.Parties.{Settings, offer_of}
use Rattle.ssh_model.specs.Protocol.Sessions.TurnClaims.{HasEncoding}
use Rattle.ssh_model.specs.Laws.Names.{joined_length}
use Rattle.ssh_model.specs.Laws.Written.{byte, cookie, ended, names, encoded, truth, uint32}
use Rattle.ssh_config.specs.Config.{IsList}
use Rattle.ssh_transport_machine.specs.State.{State}

text_most : (l : List (List ℕ)) → IsList l → length (join_with_byte 44 l) ≤ 1040
text_most l list = omega (arith, joined_length l list.names, list.most)

module _ (s : Settings) (side : Side) (c : List ℕ) (size : length c ≡ 16) (kex : IsList s.kex) (host : IsList s.host) (encryption : IsList s.encryption) (mac : IsList s.mac) where
  short : (l : List (List ℕ)) → IsList l → length (join_with_byte 44 l) < 2 ^ 32
  short l list = omega (arith, text_most l list)

  pub offer_encoded : HasEncoding (KexInit (offer_of s side false c))
  offer_encoded = encoded (KexInit (offer_of s side false c)) _
      (byte 20 (cookie c size (names s.kex kex.names (short s.kex kex) (names s.host host.names (short s.host host)
      (names s.encryption encryption.names (short s.encryption encryption) (names s.encryption encryption.names (short s.encryption encryption)
      (names s.mac mac.names (short s.mac mac) (names s.mac mac.names (short s.mac mac)
      (names (codes "none" ∷ []) refl (omega arith) (names (codes "none" ∷ []) refl (omega arith) (names [] refl (omega arith) (names [] refl (omega arith)
      (truth false (uint32 0 (omega arith) ended))))))))))))))
      tt (omega (arith, text_most s.kex kex, text_most s.host host, text_most s.encryption encryption, text_most s.mac mac))

pub offer_at : {K : Type 0} (seen now : State K) (c : List ℕ) → seen ≡ now → HasEncoding (KexInit (offer_of seen.kept.settings seen.kept.side false c)) → HasEncoding (KexInit (offer_of now.kept.settings now.kept.side false c))
offer_at {K} seen now c same x = subst (λ (t : State K). HasEncoding (KexInit (offer_of t.kept.settings t.kept.side false c))) same x
