-- Which numbers from 50 to 79 an end takes, by what its layer of authentication keeps.
use Rattle.std.proofs.Common.{◌≡◌, ℕ, ◌<◌, ◌≤◌, List, refl, ap, sym, ◌∙◌, arith, Bool, true, false, not, ◌&&◌, ◌||◌, ◌==◌, eqb-true, nat_le, is_some}
use Rattle.std.proofs.lemmas.Bool.{lt-leb}
use Rattle.ssh_model.specs.declared.side.Side.{Side}
use Rattle.ssh_model.specs.declared.side.Side.TheVariants.{Client, Server}
use Rattle.ssh_model.specs.Protocol.Sessions.Parties.{Parties, is_required, settings_of}
use Rattle.ssh_model.specs.Protocol.Sessions.Items.{Item}
use Rattle.ssh_model.specs.Protocol.Sessions.Phases.{Phase, Phase.Normal, phase, may_take, may_take_in, may_take_normally, may_take_extensions, is_generic_transport, is_connection, is_unassigned, authenticated, took_service_request, sent_service_accept, sent_service_request, took_service_accept, took_success, outstanding, probing}
use Rattle.ssh_model.specs.State.Authentication.Kept as kept
use Rattle.ssh_model.specs.State.Authentication.Kept.{server_takes, client_takes, is_key_probe}
use Rattle.ssh_model.specs.State.Authentication.Summary.{ServerSumsUp, ClientSumsUp}
use Rattle.ssh_model.proofs.Authentication.Rows.{requested_is, probing_is}

not_number : (n k : ℕ) → (n ≡ k → ⊥) → (n == k) ≡ false
not_number n k d = go (n == k) refl
  where
    go : (b : Bool) → (n == k) ≡ b → b ≡ false
    go false e = refl
    go true e = absurd (d (eqb-true n k e))

and_off : (b c : Bool) → b ≡ false → (b && c) ≡ false
and_off b c e = rw e refl

or_off : (b c : Bool) → b ≡ false → c ≡ false → (b || c) ≡ false
or_off b c e f = rw (e, f) refl

-- neither a general number, nor 7, nor of the transport or the connection
between : (general five fifty seven high spare : Bool) → general ≡ false → five ≡ false → seven ≡ false → high ≡ false
    → ((((general || (five || fifty)) || seven) || high) || spare) ≡ (fifty || spare)
between general five true seven high spare a b c d = rw (a, b) refl
between general five false seven high spare a b c d = rw (a, b, c, d) refl

client_between : (general six answers banner probe seven high spare : Bool) → general ≡ false → six ≡ false → seven ≡ false → high ≡ false
    → ((((general || (((six || answers) || banner) || probe)) || seven) || high) || spare) ≡ (((answers || banner) || probe) || spare)
client_between general six answers banner probe seven high spare a b c d = rw (a, b, c, d) (plain ((answers || banner) || probe))
  where
    plain : (e : Bool) → (((e || false) || false) || spare) ≡ (e || spare)
    plain true = refl
    plain false = refl

module _ (n : ℕ) (from : 50 ≤ n) (to : n < 80) where
  general_off : is_generic_transport n ≡ false
  general_off = go (nat_le 1 n) (nat_le n 4) (lt-leb n 4 (omega (arith, from)))
    where
      go : (b c : Bool) → c ≡ false → (b && c) ≡ false
      go true c e = e
      go false c e = refl

  high_off : (b : Bool) → ((n == 20 || is_connection n) && b) ≡ false
  high_off b = and_off (n == 20 || is_connection n) b (or_off (n == 20) (is_connection n) (not_number n 20 (λ e. omega (arith, e, from))) (lt-leb 80 n to))

  module _ {K : Type 0} (p : Parties K) (h : List Item) where
    extensions_off : (side : Side) → (n == 7 && may_take_extensions side h) ≡ false
    extensions_off side = and_off (n == 7) (may_take_extensions side h) (not_number n 7 (λ e. omega (arith, e, from)))

    in_phase : (side : Side) → phase p side h ≡ Normal → may_take p side h n ≡ may_take_normally side h n
    in_phase side e = ap (λ (q : Phase). may_take_in q (is_required (settings_of p side).strictness) side h n) e

    pub server_number : (server : kept.Server) → ServerSumsUp h server → phase p Server h ≡ Normal → may_take p Server h n ≡ server_takes server n
    server_number server has e =
        in_phase Server e
        ∙ (between (is_generic_transport n) (n == 5 && not (took_service_request h)) (n == 50 && sent_service_accept h) (n == 7 && may_take_extensions Server h) ((n == 20 || is_connection n) && authenticated Server h) (is_unassigned n)
        general_off (and_off (n == 5) (not (took_service_request h)) (not_number n 5 (λ f. omega (arith, f, from)))) (extensions_off Server) (high_off (authenticated Server h))
        ∙ ap (λ b. (n == 50 && b) || is_unassigned n) (sym has.opened))

    pub client_number : (client : kept.Client) → ClientSumsUp h client → phase p Client h ≡ Normal → may_take p Client h n ≡ client_takes client n
    client_number client has e =
        in_phase Client e
        ∙ (inside ∙ (ap (λ b. ((((n == 51 || n == 52) && b) || (n == 53 && took_service_accept h && not (took_success h))) || (n == 60 && probing h)) || is_unassigned n) (requested_is h client has)
        ∙ (ap (λ b. ((((n == 51 || n == 52) && is_some client.outstanding) || (n == 53 && b && not (took_success h))) || (n == 60 && probing h)) || is_unassigned n) (sym has.opened)
        ∙ (ap (λ b. ((((n == 51 || n == 52) && is_some client.outstanding) || (n == 53 && client.opened && not b)) || (n == 60 && probing h)) || is_unassigned n) (sym has.authenticated)
        ∙ ap (λ b. ((((n == 51 || n == 52) && is_some client.outstanding) || (n == 53 && client.opened && not client.authenticated)) || (n == 60 && b)) || is_unassigned n) (probing_is h client has)))))
      where
        answers : Bool
        answers = (n == 51 || n == 52) && is_some (outstanding h)

        banner : Bool
        banner = n == 53 && took_service_accept h && not (took_success h)

        probe : Bool
        probe = n == 60 && probing h

        six_off : (n == 6 && sent_service_request h && not (took_service_accept h)) ≡ false
        six_off = ap (λ b. b && sent_service_request h && not (took_service_accept h)) (not_number n 6 (λ f. omega (arith, f, from)))

        inside : may_take_normally Client h n ≡ (((answers || banner) || probe) || is_unassigned n)
        inside =
            client_between (is_generic_transport n) (n == 6 && sent_service_request h && not (took_service_accept h)) answers banner probe (n == 7 && may_take_extensions Client h) ((n == 20 || is_connection n) && authenticated Client h) (is_unassigned n)
            general_off six_off (extensions_off Client) (high_off (authenticated Client h))
