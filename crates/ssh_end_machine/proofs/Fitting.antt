-- What a server says of settings that are good fits into a packet.
use Rattle.std.proofs.Common.{ℕ, ◌<◌, ◌≤◌, ◌^◌, List, [], ◌∷◌, ◌++◌, length, length-append, arith, refl, false}
use Rattle.std.specs.List.{join_with_byte}
use Rattle.std.specs.Int.{w32, to_be_bytes}
use Rattle.ssh_model.specs.Laws.Names.{joined_length}
use Rattle.ssh_model.specs.Protocol.Wire.DataTypes.{IsNameList, IsUint32}
use Rattle.ssh_model.specs.Protocol.Wire.Message.{Msg.UserauthFailure}
use Rattle.ssh_model.specs.Protocol.Sessions.TurnClaims.{HasEncoding}
use Rattle.ssh_config.specs.Config.{IsList}

is_uint32 : (n : ℕ) → n < 2 ^ 32 → IsUint32 n (to_be_bytes w32 n)
is_uint32 n small = record { are_bytes = (omega arith, (omega arith, (omega arith, (omega arith, tt)))); count = refl; value = omega arith }

-- 1 to 16 methods as a USERAUTH_FAILURE
pub failure_encoded : (methods : List (List ℕ)) → IsList methods → HasEncoding (UserauthFailure methods false)
failure_encoded methods list =
    let text : List ℕ = join_with_byte 44 methods in
    let most : length text ≤ 1040 = omega (arith, joined_length methods list.names, list.most) in
    let small : length text < 2 ^ 32 = omega (arith, most) in
    let front : List ℕ = to_be_bytes w32 (length text) in
    let names : IsNameList methods (front ++ text) = record { body = text; text = record { all = list.names; joined = refl }; string = record { front = front; size = is_uint32 (length text) small; parts = refl } } in
    record {
      payload = 51 ∷ ((front ++ text) ++ 0 ∷ []);
      encodes = record {
        context = tt;
        row = record {
          front = 51 ∷ [];
          back = (front ++ text) ++ 0 ∷ [];
          first = refl;
          second = record { front = front ++ text; back = 0 ∷ []; first = names; second = record { front = 0 ∷ []; back = []; first = refl; second = refl; parts = refl }; parts = refl };
          parts = refl;
        };
        size = omega (arith, most, length-append (front ++ text) (0 ∷ []), length-append front text);
      };
    }
