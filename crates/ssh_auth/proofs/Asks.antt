-- The checks of an ask go by its size.
use Rattle.std.proofs.Common.{◌≡◌, is_some, refl}
use Rattle.ssh_model.specs.Protocol.Authentication.Rows.{request_checks}
use Rattle.ssh_model.specs.State.Authentication.Kept.{Client, client_checks}
use Rattle.ssh_auth.specs.Asking.{ask_of, ask_size}
use Rattle.ssh_auth.specs.declared.ask.UserAsk.{UserAsk}
use Rattle.ssh_auth.specs.declared.ask.UserAsk.TheVariants.{None, Password, Probe, Sign}

pub checks_are : (client : Client) (ask : UserAsk) → client_checks client (ask_of ask) ≡ request_checks client.opened (is_some client.outstanding) client.authenticated (ask_size ask)
checks_are client (None user) = refl
checks_are client (Password user password) = refl
checks_are client (Probe user algorithm key) = refl
checks_are client (Sign user algorithm key) = refl
