use Rattle.ssh_transport.proofs.Kexinits.{kexinit_stands}
use Rattle.ssh_transport.proofs.laws.kexinit.kexinits_stand.Goals as goal

pub returns : goal.returns
returns g c = kexinit_stands (record {
  sent = c.exchanges_live.ensures.sent;
  own = c.exchanges_live.ensures.own;
  noted = c.exchanges_live.ensures.noted;
  others = c.live_machines.ensures.others;
  chooses = c.choices_kept.ensures.kexinits;
})
