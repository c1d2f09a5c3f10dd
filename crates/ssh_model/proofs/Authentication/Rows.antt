-- Each row over what a layer of authentication keeps is one of a session.
use Rattle.std.proofs.Common.{◌≡◌, ℕ, ◌+◌, List, [], ◌∷◌, refl, ap, sym, ◌∙◌, arith, is_some, Option, Some, None, subst}
use Rattle.std.specs.Option.{option_map}
use Rattle.ssh_model.specs.declared.request_kind.RequestKind.{RequestKind}
use Rattle.ssh_model.specs.declared.side.Side.TheVariants.{Client, Server}
use Rattle.ssh_model.specs.Protocol.Wire.Message.{Msg, Msg.ServiceAccept, Msg.UserauthRequest, Msg.UserauthFailure, Msg.UserauthSuccess, Msg.UserauthPkOk, Method, Method.NoMethod, Method.Password, Method.Publickey}
use Rattle.ssh_model.specs.Protocol.Sessions.Refusals.{first_refusal}
use Rattle.ssh_model.specs.Protocol.Sessions.Parties.{Parties, user_signature_by}
use Rattle.ssh_model.specs.Protocol.Sessions.Items.{Ask, Ask.AskNone, Ask.AskPassword, Ask.AskProbe, Ask.AskSign, Fact.Authenticated, Item, Item.Sent, Item.Took, Item.Told, kind_of}
use Rattle.ssh_model.specs.Protocol.Sessions.Phases.{probing, outstanding, is_probe}
use Rattle.ssh_model.specs.Protocol.KeyExchange.Exchanges.{exchanges, session_id}
use Rattle.ssh_model.specs.Protocol.Authentication.Requests.{judge_of}
use Rattle.ssh_model.specs.Protocol.Authentication.Rows.{AuthenticationAnswer, AuthenticationAnswer.request_too_late, AuthenticationAnswer.request_accepted, AuthenticationAnswer.request_probed, AuthenticationAnswer.request_failed, authentication_checks, authentication_ask_checks}
use Rattle.ssh_model.specs.Protocol.Authentication.Rows as row
use Rattle.ssh_model.specs.State.Authentication.Kept as kept
use Rattle.ssh_model.specs.State.Authentication.Kept.{Answered, new_server, new_client, opened_server, opened_client, server_checks, ServerTakes, ServerTakes.too_late, ServerTakes.accepted, ServerTakes.probed, ServerTakes.failed, ClientTakes, ClientTakes.failure, ClientTakes.success, ClientTakes.banner, ClientTakes.key_ok, client_checks, ClientSends, ClientSends.none, ClientSends.password, ClientSends.probe, ClientSends.sign, is_key_probe}
use Rattle.ssh_model.specs.State.Authentication.Summary.{ServerSumsUp, ClientSumsUp, ServerAccepts, ClientAccepts, ClientAllows, LeavesServer, LeavesClient}

-- ---- an end that did nothing yet

pub server_starts : ServerSumsUp [] new_server
server_starts = record { opened = refl; failed = refl; authenticated = refl }

pub client_starts : ClientSumsUp [] new_client
client_starts = record { opened = refl; requested = refl; authenticated = refl }

-- ---- SERVICE_ACCEPT

pub server_opened : (h : List Item) (server : kept.Server) (c : Option ℕ) (service payload : List ℕ) → ServerSumsUp h server → ServerSumsUp (Sent c (ServiceAccept service) payload ∷ h) (opened_server server)
server_opened h server c service payload has = record { opened = refl; failed = has.failed; authenticated = has.authenticated }

pub client_opened : (h : List Item) (client : kept.Client) (c : Option ℕ) (service payload : List ℕ) → ClientSumsUp h client → ClientSumsUp (Took c (ServiceAccept service) payload ∷ h) (opened_client client)
client_opened h client c service payload has = record { opened = refl; requested = has.requested; authenticated = has.authenticated }

-- ---- a server

module _ {K : Type 0} (p : Parties K) (h : List Item) (server : kept.Server) (has : ServerSumsUp h server) where
  session : List ℕ
  session = session_id (exchanges p Server h)

  pub server_refused : (m : Msg) → first_refusal (authentication_checks p Server h m) ≡ first_refusal (server_checks (judge_of p) p.server.tries p.server.methods (session_id (exchanges p Server h)) server m)
  server_refused (UserauthRequest user service how) = rw (has.authenticated, has.failed) refl
  server_refused m = refl

  pub server_accepted : (m : Msg) (a : Answered) (new : kept.Server) → ServerTakes (judge_of p) p.server.methods (session_id (exchanges p Server h)) server m a new → ServerAccepts p h m a new
  server_accepted m a new (too_late user service method e) = record {
    answer = λ payload. request_too_late user service method (sym has.authenticated ∙ e);
    sums = λ taken payload. record { opened = has.opened; failed = has.failed; authenticated = has.authenticated };
  }
  server_accepted m a new (accepted user service method e f) = record {
    answer = λ payload. request_accepted user service method payload (sym has.authenticated ∙ e) f;
    sums = λ taken payload. record { opened = has.opened; failed = has.failed; authenticated = refl };
  }
  server_accepted m a new (probed user service algorithm key e f) = record {
    answer = λ payload. request_probed user service algorithm key payload (sym has.authenticated ∙ e) f;
    sums = λ taken payload. record { opened = has.opened; failed = has.failed; authenticated = has.authenticated };
  }
  server_accepted m a new (failed user service method e f) = record {
    answer = λ payload. request_failed user service method payload (sym has.authenticated ∙ e) f;
    sums = λ taken payload. record { opened = has.opened; failed = ap (λ (n : ℕ). n + 1) has.failed ∙ omega arith; authenticated = has.authenticated };
  }

-- ---- a client

outstanding_same : (o : Option Method) → is_some o ≡ is_some (option_map kind_of o)
outstanding_same None = refl
outstanding_same (Some m) = refl

-- the method of the outstanding request, by its kind
method_of : (o : Option Method) (request : RequestKind) → option_map kind_of o ≡ Some request → (m : Method) × (o ≡ Some m) × (request ≡ kind_of m)
method_of None request e = absurd (cc e)
method_of (Some m) request e = (m, refl, cc e)

probe_same : (o : Option Method) → is_probe o ≡ is_key_probe (option_map kind_of o)
probe_same None = refl
probe_same (Some NoMethod) = refl
probe_same (Some (Password word new)) = refl
probe_same (Some (Publickey algorithm key None)) = refl
probe_same (Some (Publickey algorithm key (Some signature))) = refl
probe_same (Some m) = refl

module _ (h : List Item) (client : kept.Client) (has : ClientSumsUp h client) where
  pub requested_is : is_some (outstanding h) ≡ is_some client.outstanding
  requested_is = outstanding_same (outstanding h) ∙ sym (ap is_some has.requested)

  pub probing_is : probing h ≡ is_key_probe client.outstanding
  probing_is = probe_same (outstanding h) ∙ sym (ap is_key_probe has.requested)

  pub client_refused : (a : Ask) → first_refusal (authentication_ask_checks Client h a) ≡ first_refusal (client_checks client a)
  client_refused (AskNone user) = rw (has.opened, sym requested_is, has.authenticated) refl
  client_refused (AskPassword user word) = rw (has.opened, sym requested_is, has.authenticated) refl
  client_refused (AskProbe user algorithm key) = rw (has.opened, sym requested_is, has.authenticated) refl
  client_refused (AskSign user algorithm key) = rw (has.opened, sym requested_is, has.authenticated) refl
  client_refused a = refl

module _ {K : Type 0} (p : Parties K) (h : List Item) (client : kept.Client) (has : ClientSumsUp h client) where
  success_row : {request : RequestKind} → (m : Method) × (outstanding h ≡ Some m) × (request ≡ kind_of m)
      → AuthenticationAnswer p Client h UserauthSuccess (Told (Authenticated request) ∷ [])
  success_row x =
      let P : RequestKind → Type 0 = λ k. AuthenticationAnswer p Client h UserauthSuccess (Told (Authenticated k) ∷ []) in
      subst P (sym (x.2)) (row.AuthenticationAnswer.success (x.0) (x.1))

  pub client_accepted : (m : Msg) (a : Answered) (new : kept.Client) → ClientTakes client m a new → ClientAccepts p h m a new
  client_accepted m a new (failure methods partial) = record {
    answer = λ payload. row.AuthenticationAnswer.failure methods partial;
    sums = λ taken payload. record { opened = has.opened; requested = refl; authenticated = has.authenticated };
  }
  client_accepted m a new (success request e) = record {
    answer = λ payload. success_row (method_of (outstanding h) request (sym has.requested ∙ e));
    sums = λ taken payload. record { opened = has.opened; requested = refl; authenticated = refl };
  }
  client_accepted m a new (banner message language) = record {
    answer = λ payload. row.AuthenticationAnswer.banner message language;
    sums = λ taken payload. record { opened = has.opened; requested = has.requested; authenticated = has.authenticated };
  }
  client_accepted m a new (key_ok algorithm key) = record {
    answer = λ payload. row.AuthenticationAnswer.key_ok algorithm key;
    sums = λ taken payload. record { opened = has.opened; requested = refl; authenticated = has.authenticated };
  }

  pub client_allowed : (a : Ask) (m : Msg) (new : kept.Client) → ClientSends (user_signature_by p) (session_id (exchanges p Client h)) client a m new → ClientAllows p h a m new
  client_allowed a m new (none user) = record {
    row = λ payload. row.AuthenticationAsk.none user payload;
    sums = λ payload. record { opened = has.opened; requested = refl; authenticated = has.authenticated };
  }
  client_allowed a m new (password user word) = record {
    row = λ payload. row.AuthenticationAsk.password user word payload;
    sums = λ payload. record { opened = has.opened; requested = refl; authenticated = has.authenticated };
  }
  client_allowed a m new (probe user algorithm key) = record {
    row = λ payload. row.AuthenticationAsk.probe user algorithm key payload;
    sums = λ payload. record { opened = has.opened; requested = refl; authenticated = has.authenticated };
  }
  client_allowed a m new (sign user algorithm key) = record {
    row = λ payload. row.AuthenticationAsk.sign user algorithm key payload;
    sums = λ payload. record { opened = has.opened; requested = refl; authenticated = has.authenticated };
  }

-- ---- items of other layers

pub server_kept : (h : List Item) (server : kept.Server) (i : Item) → LeavesServer i → ServerSumsUp h server → ServerSumsUp (i ∷ h) server
server_kept h server (Sent c (ServiceAccept service) payload) l has = elim l [ ]
server_kept h server (Sent c (UserauthFailure methods partial) payload) l has = elim l [ ]
server_kept h server (Sent c UserauthSuccess payload) l has = elim l [ ]
server_kept h server i l has = record { opened = has.opened; failed = has.failed; authenticated = has.authenticated }

pub client_kept : (h : List Item) (client : kept.Client) (i : Item) → LeavesClient i → ClientSumsUp h client → ClientSumsUp (i ∷ h) client
client_kept h client (Sent c (UserauthRequest user service how) payload) l has = elim l [ ]
client_kept h client (Took c (ServiceAccept service) payload) l has = elim l [ ]
client_kept h client (Took c (UserauthFailure methods partial) payload) l has = elim l [ ]
client_kept h client (Took c UserauthSuccess payload) l has = elim l [ ]
client_kept h client (Took c (UserauthPkOk algorithm key) payload) l has = elim l [ ]
client_kept h client i l has = record { opened = has.opened; requested = has.requested; authenticated = has.authenticated }
