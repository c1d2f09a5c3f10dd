use Rattle.ciphers.proofs.AesGcmLemmas.VectorLanes.{xor_long}
use Rattle.ciphers.proofs.aes_gcm.lanes.added.Goals as goal

pub returns-clause-long : goal.returns-clause-long
returns-clause-long c = record {
  p0 = xor_long c.args.a.p0 c.args.b.p0 c.requires.a.p0 c.requires.b.p0;
  p1 = xor_long c.args.a.p1 c.args.b.p1 c.requires.a.p1 c.requires.b.p1;
  p2 = xor_long c.args.a.p2 c.args.b.p2 c.requires.a.p2 c.requires.b.p2;
  p3 = xor_long c.args.a.p3 c.args.b.p3 c.requires.a.p3 c.requires.b.p3;
  p4 = xor_long c.args.a.p4 c.args.b.p4 c.requires.a.p4 c.requires.b.p4;
  p5 = xor_long c.args.a.p5 c.args.b.p5 c.requires.a.p5 c.requires.b.p5;
  p6 = xor_long c.args.a.p6 c.args.b.p6 c.requires.a.p6 c.requires.b.p6;
  p7 = xor_long c.args.a.p7 c.args.b.p7 c.requires.a.p7 c.requires.b.p7;
}
