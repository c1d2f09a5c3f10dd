-- The toy parts keep what is promised of parts, and the toy settings are good.
use Rattle.std.proofs.Common.{◌≡◌, ℕ, Bool, true, false, List, length, refl, arith}
use Rattle.ssh_model.specs.declared.side.Side.{Side}
use Rattle.ssh_model.specs.declared.side.Side.TheVariants.{Client, Server}
use Rattle.ssh_model.specs.Protocol.Wire.Message.{Msg.KexInit, Msg.UserauthFailure, Msg.ExtInfo}
use Rattle.ssh_model.specs.Protocol.Sessions.Parties.{AreLawful, offer, settings_of}
use Rattle.ssh_model.specs.Protocol.Sessions.TurnClaims.{HasEncoding}
use Rattle.ssh_model.specs.Laws.Turns.{AreGood}
use Rattle.ssh_model.specs.Example.Toys.{toy}
use Rattle.ssh_model.specs.Laws.MacOnly.{mac_only_laws}
use Rattle.ssh_model.specs.Laws.Written.{encoded, byte, cookie, ended, names, truth, uint32}

pub toy_is_lawful : AreLawful toy
toy_is_lawful = record { sealing = mac_only_laws; client_line = omega arith; server_line = omega arith }

offers_good : (side : Side) (first : Bool) (c : List ℕ) → length c ≡ 16 → HasEncoding (KexInit (offer toy side first c))
offers_good Client true c n = encoded (KexInit (offer toy Client true c)) _ (byte 20 (cookie c n (names (offer toy Client true c).kex refl (omega arith) (names (offer toy Client true c).host refl (omega arith) (names (offer toy Client true c).enc_cs refl (omega arith) (names (offer toy Client true c).enc_sc refl (omega arith) (names (offer toy Client true c).mac_cs refl (omega arith) (names (offer toy Client true c).mac_sc refl (omega arith) (names (offer toy Client true c).comp_cs refl (omega arith) (names (offer toy Client true c).comp_sc refl (omega arith) (names (offer toy Client true c).lang_cs refl (omega arith) (names (offer toy Client true c).lang_sc refl (omega arith) (truth false (uint32 0 (omega arith) ended)))))))))))))) tt (omega arith)
offers_good Client false c n = encoded (KexInit (offer toy Client false c)) _ (byte 20 (cookie c n (names (offer toy Client false c).kex refl (omega arith) (names (offer toy Client false c).host refl (omega arith) (names (offer toy Client false c).enc_cs refl (omega arith) (names (offer toy Client false c).enc_sc refl (omega arith) (names (offer toy Client false c).mac_cs refl (omega arith) (names (offer toy Client false c).mac_sc refl (omega arith) (names (offer toy Client false c).comp_cs refl (omega arith) (names (offer toy Client false c).comp_sc refl (omega arith) (names (offer toy Client false c).lang_cs refl (omega arith) (names (offer toy Client false c).lang_sc refl (omega arith) (truth false (uint32 0 (omega arith) ended)))))))))))))) tt (omega arith)
offers_good Server true c n = encoded (KexInit (offer toy Server true c)) _ (byte 20 (cookie c n (names (offer toy Server true c).kex refl (omega arith) (names (offer toy Server true c).host refl (omega arith) (names (offer toy Server true c).enc_cs refl (omega arith) (names (offer toy Server true c).enc_sc refl (omega arith) (names (offer toy Server true c).mac_cs refl (omega arith) (names (offer toy Server true c).mac_sc refl (omega arith) (names (offer toy Server true c).comp_cs refl (omega arith) (names (offer toy Server true c).comp_sc refl (omega arith) (names (offer toy Server true c).lang_cs refl (omega arith) (names (offer toy Server true c).lang_sc refl (omega arith) (truth false (uint32 0 (omega arith) ended)))))))))))))) tt (omega arith)
offers_good Server false c n = encoded (KexInit (offer toy Server false c)) _ (byte 20 (cookie c n (names (offer toy Server false c).kex refl (omega arith) (names (offer toy Server false c).host refl (omega arith) (names (offer toy Server false c).enc_cs refl (omega arith) (names (offer toy Server false c).enc_sc refl (omega arith) (names (offer toy Server false c).mac_cs refl (omega arith) (names (offer toy Server false c).mac_sc refl (omega arith) (names (offer toy Server false c).comp_cs refl (omega arith) (names (offer toy Server false c).comp_sc refl (omega arith) (names (offer toy Server false c).lang_cs refl (omega arith) (names (offer toy Server false c).lang_sc refl (omega arith) (truth false (uint32 0 (omega arith) ended)))))))))))))) tt (omega arith)

pub toy_is_good : (side : Side) → AreGood toy side
toy_is_good Client = record {
  offers = offers_good Client;
  methods = encoded (UserauthFailure (settings_of toy Client).methods false) _ (byte 51 (names (settings_of toy Client).methods refl (omega arith) (truth false ended))) tt (omega arith);
  extensions = encoded (ExtInfo (settings_of toy Client).extensions) _ (byte 7 (uint32 0 (omega arith) ended)) tt (omega arith);
}
toy_is_good Server = record {
  offers = offers_good Server;
  methods = encoded (UserauthFailure (settings_of toy Server).methods false) _ (byte 51 (names (settings_of toy Server).methods refl (omega arith) (truth false ended))) tt (omega arith);
  extensions = encoded (ExtInfo (settings_of toy Server).extensions) _ (byte 7 (uint32 0 (omega arith) ended)) tt (omega arith);
}
