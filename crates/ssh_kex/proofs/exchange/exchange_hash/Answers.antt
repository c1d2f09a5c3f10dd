use Rattle.std.proofs.Common.{ap, ◌∙◌}
use Rattle.sha2.specs.Sha256.{sha256}
use Rattle.ssh_model.specs.Protocol.KeyExchange.Exchange.{string_of, mpint_of}
use Rattle.ssh_model.specs.Protocol.Wire.DataTypes.{number}
use Rattle.ssh_kex.proofs.Strings.{eight_pieces}
use Rattle.ssh_kex.proofs.exchange.exchange_hash.Goals as goal

pub returns : goal.returns
returns c =
    let x = c.args.inputs.now in
    let versions = c.hash_string-2.ensures _ (c.hash_string.ensures _ c.new-hasher.ensures) in
    let inits = c.hash_string-4.ensures _ (c.hash_string-3.ensures _ versions) in
    let points = c.hash_string-7.ensures _ (c.hash_string-6.ensures _ (c.hash_string-5.ensures _ inits)) in
    let whole = eight_pieces (string_of x.client_version.now) (string_of x.server_version.now) (string_of x.client_init.now) (string_of x.server_init.now) (string_of x.host_key.now) (string_of x.client_point.now) (string_of x.server_point.now) (mpint_of (number x.shared.now)) in
    c.finalize.ensures _ (c.hash_mpint.ensures _ points) ∙ ap sha256 whole
