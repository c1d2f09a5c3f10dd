-- The values of the types of this crate.
use Rattle.std.specs.Prelude.{ℕ}
use Rattle.ssh_model.specs.Protocol.Wire.DataTypes.{number}
use Rattle.ssh_model.specs.Protocol.KeyExchange.Exchange.{Inputs}
use Rattle.ssh_model.specs.Protocol.KeyExchange.Choice as model
use Rattle.ssh_types.specs.Values.{name_text, names, owned_text}
use Rattle.ssh_kex.specs.declared.choice.Choice.{Choice}
use Rattle.ssh_kex.specs.declared.owned_choice.OwnedChoice.{OwnedChoice}
use Rattle.ssh_kex.specs.declared.kind.Kind.{Kind}
use Rattle.ssh_kex.specs.declared.kind.Kind.TheVariants.{Kex, HostKey, EncCs, EncSc, MacCs, MacSc, CompCs, CompSc}
use Rattle.ssh_message.specs.declared.message.Proposal.{Proposal}
use Rattle.ssh_kex.specs.declared.lists.KexLists.{KexLists}
use Rattle.ssh_kex.specs.declared.inputs.ExchangeInputs.{ExchangeInputs}
use Rattle.ssh_kex.specs.declared.keys.KeyPurpose.{KeyPurpose}
use Rattle.ssh_kex.specs.declared.keys.KeyPurpose.TheVariants.{A, B, C, D, E, F}

abbrev pub inputs_of : ExchangeInputs → Inputs
inputs_of x = record {
  client_version = x.client_version.now;
  server_version = x.server_version.now;
  client_init = x.client_init.now;
  server_init = x.server_init.now;
  host_key = x.host_key.now;
  client_point = x.client_point.now;
  server_point = x.server_point.now;
  shared = number x.shared.now;
}

-- the letters in US-ASCII
abbrev pub letter_of : KeyPurpose → ℕ
letter_of A = 65
letter_of B = 66
letter_of C = 67
letter_of D = 68
letter_of E = 69
letter_of F = 70

abbrev pub kind_of : Kind → model.Kind
kind_of Kex = model.Kex
kind_of HostKey = model.HostKey
kind_of EncCs = model.EncCs
kind_of EncSc = model.EncSc
kind_of MacCs = model.MacCs
kind_of MacSc = model.MacSc
kind_of CompCs = model.CompCs
kind_of CompSc = model.CompSc

-- the lists from which the algorithms are chosen
abbrev pub lists_of : KexLists → model.Lists
lists_of lists = record {
  kex = names lists.kex;
  host = names lists.host;
  enc_cs = names lists.enc_cs;
  enc_sc = names lists.enc_sc;
  mac_cs = names lists.mac_cs;
  mac_sc = names lists.mac_sc;
  comp_cs = names lists.comp_cs;
  comp_sc = names lists.comp_sc;
}

abbrev pub chosen_of : Choice → model.Chosen
chosen_of choice = record {
  kex = name_text choice.kex;
  host = name_text choice.host;
  enc_cs = name_text choice.enc_cs;
  enc_sc = name_text choice.enc_sc;
  mac_cs = name_text choice.mac_cs;
  mac_sc = name_text choice.mac_sc;
  comp_cs = name_text choice.comp_cs;
  comp_sc = name_text choice.comp_sc;
}

-- the chosen names, of a choice that owns their bytes
abbrev pub owned_chosen : OwnedChoice → model.Chosen
owned_chosen choice = record {
  kex = owned_text choice.kex;
  host = owned_text choice.host;
  enc_cs = owned_text choice.enc_cs;
  enc_sc = owned_text choice.enc_sc;
  mac_cs = owned_text choice.mac_cs;
  mac_sc = owned_text choice.mac_sc;
  comp_cs = owned_text choice.comp_cs;
  comp_sc = owned_text choice.comp_sc;
}

-- the lists of the KEXINIT message that one end sent
abbrev pub proposed : Proposal → KexLists
proposed p = record {
  kex = p.kex;
  host = p.host;
  enc_cs = p.enc_cs;
  enc_sc = p.enc_sc;
  mac_cs = p.mac_cs;
  mac_sc = p.mac_sc;
  comp_cs = p.comp_cs;
  comp_sc = p.comp_sc;
  lang_cs = p.lang_cs;
  lang_sc = p.lang_sc;
}
