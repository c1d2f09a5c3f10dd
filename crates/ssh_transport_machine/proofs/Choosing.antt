-- What is chosen by a KEXINIT that was found to have a choice.
use Rattle.std.proofs.Common.{◌≡◌, ℕ, List, ◌∷◌, refl, ap, sym, ◌∙◌, subst, arith}
use Rattle.std.specs.Prelude.{IsSome}
use Rattle.std.specs.List.{Contains}
use Rattle.std.proofs.lemmas.List.Elements.{Contains-append_right}
use Rattle.ssh_model.specs.declared.side.Side.{Side}
use Rattle.ssh_model.specs.declared.side.Side.TheVariants.{Client, Server}
use Rattle.ssh_model.specs.Protocol.Wire.Message.{Msg, Msg.KexInit, Proposal}
use Rattle.ssh_model.specs.Protocol.Wire.Sealing.{Crypto}
use Rattle.ssh_model.specs.Protocol.KeyExchange.Choice.{Chosen, Lists}
use Rattle.ssh_model.specs.Laws.KeyExchange.{IsFirstCommon}
use Rattle.ssh_model.specs.Protocol.KeyExchange.Exchanges.{no_offer}
use Rattle.ssh_model.specs.Protocol.Sessions.Parties.{Settings, lists_of}
use Rattle.ssh_model.specs.State.TransportLayer.Kept.{Transport, own_offer}
use Rattle.ssh_config.specs.Config.{AreLists, Given, settings_given}
use Rattle.ssh_transport_machine.specs.Finishing.{AreKnown, HasChoice, IsChoiceOf, is_choice_with}

proposal_of : Msg → Proposal
proposal_of (KexInit theirs) = theirs
proposal_of _ = no_offer.proposal

pub choice_of : {K : Type 0} (s : Transport K) (h : HasChoice s) (theirs : Proposal) → KexInit theirs ≡ KexInit h.theirs → IsChoiceOf s theirs
unfolding proposal_of
choice_of s h theirs e = subst (λ (t : Proposal). IsChoiceOf s t) (sym (ap proposal_of e)) (record { read = h.read; chooses = h.chooses })

in_first : (client server : List (List ℕ)) (name : List ℕ) → IsFirstCommon client server name → Contains client name
in_first client server name x = subst (λ (l : List (List ℕ)). Contains l name) (sym x.place) (Contains-append_right x.earlier (name ∷ x.later) name (0, omega arith, refl))

module _ {K : Type 0} (c : Crypto K) (g : Given) (lists : AreLists c g) where
  pair : (encryption mac : List ℕ) (encryptions macs : List (List ℕ)) → encryptions ≡ g.encryption → macs ≡ g.mac → Contains encryptions encryption → Contains macs mac → IsSome (c.lengths encryption mac)
  pair encryption mac encryptions macs e m x y = lists.known_pair encryption mac (subst (λ (l : List (List ℕ)). Contains l encryption) e x) (subst (λ (l : List (List ℕ)). Contains l mac) m y)

  pub known_by : (settings : Settings) → settings_given g ≡ settings → (side : Side) (own theirs : Lists) (chosen : Chosen) → own ≡ lists_of (own_offer settings side) → is_choice_with side own theirs chosen → AreKnown c chosen
  known_by settings given Client own theirs chosen e is =
      let enc = ap (λ (s : Settings). s.encryption) (sym given) in
      let mac = ap (λ (s : Settings). s.mac) (sym given) in
      record {
        from_client = pair chosen.enc_cs chosen.mac_cs own.enc_cs own.mac_cs (ap (λ (l : Lists). l.enc_cs) e ∙ enc) (ap (λ (l : Lists). l.mac_cs) e ∙ mac)
            (in_first _ _ _ is.enc_cs) (in_first _ _ _ is.mac_cs);
        from_server = pair chosen.enc_sc chosen.mac_sc own.enc_sc own.mac_sc (ap (λ (l : Lists). l.enc_sc) e ∙ enc) (ap (λ (l : Lists). l.mac_sc) e ∙ mac)
            (in_first _ _ _ is.enc_sc) (in_first _ _ _ is.mac_sc);
      }
  known_by settings given Server own theirs chosen e is =
      let enc = ap (λ (s : Settings). s.encryption) (sym given) in
      let mac = ap (λ (s : Settings). s.mac) (sym given) in
      record {
        from_client = pair chosen.enc_cs chosen.mac_cs own.enc_cs own.mac_cs (ap (λ (l : Lists). l.enc_cs) e ∙ enc) (ap (λ (l : Lists). l.mac_cs) e ∙ mac) is.enc_cs.in_both is.mac_cs.in_both;
        from_server = pair chosen.enc_sc chosen.mac_sc own.enc_sc own.mac_sc (ap (λ (l : Lists). l.enc_sc) e ∙ enc) (ap (λ (l : Lists). l.mac_sc) e ∙ mac) is.enc_sc.in_both is.mac_sc.in_both;
      }
