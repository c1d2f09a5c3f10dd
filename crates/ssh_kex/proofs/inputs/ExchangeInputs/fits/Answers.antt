use Rattle.std.proofs.Common.{◌≡◌, ◌<◌, ◌^◌, length, arith, true}
use Rattle.std.proofs.lemmas.Bool.{ltb-true, lt-ltb}
use Rattle.ssh_model.specs.Laws.KeyExchange.{Fits}
use Rattle.ssh_kex.proofs.inputs.ExchangeInputs.fits.Goals as goal

pub returns : goal.returns
returns c =
    let lines = c.are_short.ensures.0 c.if-not-are_short.false in
    let inits = c.are_short-2.ensures.0 c.if-not-are_short-2.false in (
      λ t. record {
        client_version = lines.0;
        server_version = lines.1;
        client_init = inits.0;
        server_init = inits.1;
        host_key = ltb-true _ _ t;
        client_point = omega (arith, c.has_32_bytes.ensures);
        server_point = omega (arith, c.has_32_bytes-2.ensures);
        shared = omega (arith, c.short_number.ensures);
      },
      λ fits. lt-ltb _ _ fits.host_key,
    )
