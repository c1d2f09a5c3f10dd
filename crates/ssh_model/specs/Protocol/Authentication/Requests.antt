-- How a server judges a request for authentication (own, if nothing else is said).
use Rattle.std.specs.Prelude.{ℕ, Bool, false, not, ◌&&◌, nat_le, Some, None, is_some, find, List, ◌∷◌, ◌++◌, length}
use Rattle.std.specs.Prelude.{codes}
use Rattle.ssh_model.specs.Protocol.Bounds.{longest_algorithm_name, longest_user_key}
use Rattle.ssh_model.specs.declared.side.Side.TheVariants.{Server}
use Rattle.ssh_model.specs.Protocol.Wire.Message.{Method, Method.NoMethod, Method.Password, Method.Publickey}
use Rattle.ssh_model.specs.Protocol.Wire.DataTypes.{is_text}
use Rattle.ssh_model.specs.Protocol.KeyExchange.Exchange.{string_of}
use Rattle.ssh_model.specs.Protocol.Sessions.Parties.{Parties}
use Rattle.ssh_model.specs.Protocol.Sessions.Items.{Item}
use Rattle.ssh_model.specs.Protocol.KeyExchange.Exchanges.{exchanges, session_id}

-- The verdicts that a server is given: on a user without a credential, on a password, on a key, and on a signature of a text.
pub record Judge : Type 0 where
  pub admits : (user : List ℕ) → Bool
  pub password_is_right : (user password : List ℕ) → Bool
  pub knows_key : (user algorithm key : List ℕ) → Bool
  pub signature_is_right : (algorithm key text signature : List ℕ) → Bool

-- the judge of a session, made of the verdicts that its server was supplied with
abbrev pub judge_of : {K : Type 0} → Parties K → Judge
judge_of p =
    record {
      admits = p.admits;
      password_is_right = p.password_is_right;
      knows_key = p.knows_key;
      signature_is_right = p.signature_is_right;
    }

-- ---- one request, by a judge, the methods that the server names, and the session id

-- The service of a request is ssh-connection.
abbrev pub is_for_connection : List ℕ → Bool
is_for_connection service = is_text service (codes "ssh-connection")

-- The server names this method in its settings.
abbrev pub is_configured : (methods : List (List ℕ)) → List ℕ → Bool
is_configured methods method = is_some (find (λ name. is_text name method) methods)

-- The judge knows the key, and neither the key nor the name of its algorithm is too long (own).
abbrev pub is_known_key : Judge → (user algorithm key : List ℕ) → Bool
is_known_key judge user algorithm key =
    nat_le (length key) longest_user_key && nat_le (length algorithm) longest_algorithm_name
    && judge.knows_key user algorithm key

-- the text that a client signs (RFC 4252 section 7)
abbrev pub signed_text : (session user service algorithm key : List ℕ) → List ℕ
signed_text session user service algorithm key =
    string_of session ++ 50 ∷ string_of user ++ string_of service ++ string_of (codes "publickey") ++ 1
    ∷ string_of algorithm ++ string_of key

-- The judge finds a request with this method right. A request that would change a password, or of another method, is not right
-- (RFC 4252 sections 5.2, 7 and 8).
abbrev pub is_right : Judge → (methods : List (List ℕ)) → (session user service : List ℕ) → Method → Bool
is_right judge methods session user service NoMethod = judge.admits user
is_right judge methods session user service (Password password None) =
    is_configured methods (codes "password") && judge.password_is_right user password
is_right judge methods session user service (Publickey algorithm key (Some signature)) =
    is_configured methods (codes "publickey") && is_known_key judge user algorithm key
    && judge.signature_is_right algorithm key (signed_text session user service algorithm key) signature
is_right judge methods session user service _ = false

-- The request is accepted: it is for ssh-connection, and right (RFC 4252 section 5.1).
abbrev pub accepts : Judge → (methods : List (List ℕ)) → (session user service : List ℕ) → Method → Bool
accepts judge methods session user service method =
    is_for_connection service && is_right judge methods session user service method

-- The request asks whether a key would do, and it would (RFC 4252 section 7).
abbrev pub approves : Judge → (methods : List (List ℕ)) → (user service : List ℕ) → Method → Bool
approves judge methods user service (Publickey algorithm key None) =
    is_for_connection service && is_configured methods (codes "publickey") && is_known_key judge user algorithm key
approves judge methods user service _ = false

-- The request fails: it is not accepted, and it is no good probe (RFC 4252 section 5.1).
abbrev pub fails : Judge → (methods : List (List ℕ)) → (session user service : List ℕ) → Method → Bool
fails judge methods session user service method =
    not (accepts judge methods session user service method) && not (approves judge methods user service method)

-- ---- of the server of a session

-- The request is accepted by the judge of the session, under its session id.
abbrev pub is_accepted : {K : Type 0} → Parties K → List Item → (user service : List ℕ) → Method → Bool
is_accepted p h user service method =
    accepts (judge_of p) p.server.methods (session_id (exchanges p Server h)) user service method

-- The request asks whether a key would do, and by the judge of the session it would.
abbrev pub is_good_probe : {K : Type 0} → Parties K → (user service : List ℕ) → Method → Bool
is_good_probe p user service method = approves (judge_of p) p.server.methods user service method

-- The request fails by the judge of the session, under its session id.
abbrev pub is_failing : {K : Type 0} → Parties K → List Item → (user service : List ℕ) → Method → Bool
is_failing p h user service method =
    fails (judge_of p) p.server.methods (session_id (exchanges p Server h)) user service method
