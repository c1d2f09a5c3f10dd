-- Whether a payload is a message, and which: it is found or there is none.
use Rattle.std.proofs.Common.{◌≡◌, ℕ, Bool, true, false, List, [], ◌∷◌, ◌++◌, length, ◌⊎◌, inl, inr, refl, ap, ◌∙◌, subst, arith, length-append}
use Rattle.std.specs.Prelude.{IsTrue}
use Rattle.ssh_model.specs.Protocol.Wire.DataTypes.{IsBoolean, number}
use Rattle.ssh_model.specs.Protocol.Wire.Message.{IsRow, IsPayload, Method, Extension, Proposal, is_unknown, Msg, Msg.Disconnect, Msg.Ignore, Msg.Unimplemented, Msg.Debug, Msg.ServiceRequest, Msg.ServiceAccept, Msg.NewKeys, Msg.KexEcdhInit, Msg.KexEcdhReply, Msg.UserauthFailure, Msg.UserauthSuccess, Msg.UserauthBanner, Msg.GlobalRequest, Msg.RequestSuccess, Msg.RequestFailure, Msg.ChannelOpen, Msg.ChannelOpenConfirmation, Msg.ChannelOpenFailure, Msg.ChannelWindowAdjust, Msg.ChannelData, Msg.ChannelExtendedData, Msg.ChannelEof, Msg.ChannelClose, Msg.ChannelRequest, Msg.ChannelSuccess, Msg.ChannelFailure, Msg.ExtInfo, Msg.KexInit, Msg.UserauthRequest, Msg.UserauthPkOk, Msg.Unknown}
use Rattle.ssh_model.proofs.Wire.FieldsDecided.{Whole, Decided, Decides, then, fixed, ended, rest_of, eq_number, by_truth, byte, boolean, uint32, string, names, cookie, step, method, extensions}

-- ---- the rows

disconnect : Decides (λ (x : (Unit {0} × (ℕ × (List ℕ × (List ℕ × Unit {0}))))). IsRow IsBoolean (Disconnect (x.1.0) (x.1.1.0) (x.1.1.1.0)))
disconnect = then (fixed byte eq_number 1) (then uint32 (then string (then string ended)))

ignore : Decides (λ (x : (Unit {0} × (List ℕ × Unit {0}))). IsRow IsBoolean (Ignore (x.1.0)))
ignore = then (fixed byte eq_number 2) (then string ended)

unimplemented : Decides (λ (x : (Unit {0} × (ℕ × Unit {0}))). IsRow IsBoolean (Unimplemented (x.1.0)))
unimplemented = then (fixed byte eq_number 3) (then uint32 ended)

debug : Decides (λ (x : (Unit {0} × (Bool × (List ℕ × (List ℕ × Unit {0}))))). IsRow IsBoolean (Debug (x.1.0) (x.1.1.0) (x.1.1.1.0)))
debug = then (fixed byte eq_number 4) (then boolean (then string (then string ended)))

service_request : Decides (λ (x : (Unit {0} × (List ℕ × Unit {0}))). IsRow IsBoolean (ServiceRequest (x.1.0)))
service_request = then (fixed byte eq_number 5) (then string ended)

service_accept : Decides (λ (x : (Unit {0} × (List ℕ × Unit {0}))). IsRow IsBoolean (ServiceAccept (x.1.0)))
service_accept = then (fixed byte eq_number 6) (then string ended)

new_keys : Decides (λ (x : (Unit {0} × Unit {0})). IsRow IsBoolean NewKeys)
new_keys = then (fixed byte eq_number 21) ended

kex_ecdh_init : Decides (λ (x : (Unit {0} × (List ℕ × Unit {0}))). IsRow IsBoolean (KexEcdhInit (x.1.0)))
kex_ecdh_init = then (fixed byte eq_number 30) (then string ended)

kex_ecdh_reply : Decides (λ (x : (Unit {0} × (List ℕ × (List ℕ × (List ℕ × Unit {0}))))). IsRow IsBoolean (KexEcdhReply (x.1.0) (x.1.1.0) (x.1.1.1.0)))
kex_ecdh_reply = then (fixed byte eq_number 31) (then string (then string (then string ended)))

userauth_failure : Decides (λ (x : (Unit {0} × (List (List ℕ) × (Bool × Unit {0})))). IsRow IsBoolean (UserauthFailure (x.1.0) (x.1.1.0)))
userauth_failure = then (fixed byte eq_number 51) (then names (then boolean ended))

userauth_success : Decides (λ (x : (Unit {0} × Unit {0})). IsRow IsBoolean UserauthSuccess)
userauth_success = then (fixed byte eq_number 52) ended

userauth_banner : Decides (λ (x : (Unit {0} × (List ℕ × (List ℕ × Unit {0})))). IsRow IsBoolean (UserauthBanner (x.1.0) (x.1.1.0)))
userauth_banner = then (fixed byte eq_number 53) (then string (then string ended))

global_request : Decides (λ (x : (Unit {0} × (List ℕ × (Bool × List ℕ)))). IsRow IsBoolean (GlobalRequest (x.1.0) (x.1.1.0) (x.1.1.1)))
global_request = then (fixed byte eq_number 80) (then string (then boolean rest_of))

request_success : Decides (λ (x : (Unit {0} × List ℕ)). IsRow IsBoolean (RequestSuccess (x.1)))
request_success = then (fixed byte eq_number 81) rest_of

request_failure : Decides (λ (x : (Unit {0} × Unit {0})). IsRow IsBoolean RequestFailure)
request_failure = then (fixed byte eq_number 82) ended

channel_open : Decides (λ (x : (Unit {0} × (List ℕ × (ℕ × (ℕ × (ℕ × List ℕ)))))). IsRow IsBoolean (ChannelOpen (x.1.0) (x.1.1.0) (x.1.1.1.0) (x.1.1.1.1.0) (x.1.1.1.1.1)))
channel_open = then (fixed byte eq_number 90) (then string (then uint32 (then uint32 (then uint32 rest_of))))

channel_open_confirmation : Decides (λ (x : (Unit {0} × (ℕ × (ℕ × (ℕ × (ℕ × List ℕ)))))). IsRow IsBoolean (ChannelOpenConfirmation (x.1.0) (x.1.1.0) (x.1.1.1.0) (x.1.1.1.1.0) (x.1.1.1.1.1)))
channel_open_confirmation = then (fixed byte eq_number 91) (then uint32 (then uint32 (then uint32 (then uint32 rest_of))))

channel_open_failure : Decides (λ (x : (Unit {0} × (ℕ × (ℕ × (List ℕ × (List ℕ × Unit {0})))))). IsRow IsBoolean (ChannelOpenFailure (x.1.0) (x.1.1.0) (x.1.1.1.0) (x.1.1.1.1.0)))
channel_open_failure = then (fixed byte eq_number 92) (then uint32 (then uint32 (then string (then string ended))))

channel_window_adjust : Decides (λ (x : (Unit {0} × (ℕ × (ℕ × Unit {0})))). IsRow IsBoolean (ChannelWindowAdjust (x.1.0) (x.1.1.0)))
channel_window_adjust = then (fixed byte eq_number 93) (then uint32 (then uint32 ended))

channel_data : Decides (λ (x : (Unit {0} × (ℕ × (List ℕ × Unit {0})))). IsRow IsBoolean (ChannelData (x.1.0) (x.1.1.0)))
channel_data = then (fixed byte eq_number 94) (then uint32 (then string ended))

channel_extended_data : Decides (λ (x : (Unit {0} × (ℕ × (ℕ × (List ℕ × Unit {0}))))). IsRow IsBoolean (ChannelExtendedData (x.1.0) (x.1.1.0) (x.1.1.1.0)))
channel_extended_data = then (fixed byte eq_number 95) (then uint32 (then uint32 (then string ended)))

channel_eof : Decides (λ (x : (Unit {0} × (ℕ × Unit {0}))). IsRow IsBoolean (ChannelEof (x.1.0)))
channel_eof = then (fixed byte eq_number 96) (then uint32 ended)

channel_close : Decides (λ (x : (Unit {0} × (ℕ × Unit {0}))). IsRow IsBoolean (ChannelClose (x.1.0)))
channel_close = then (fixed byte eq_number 97) (then uint32 ended)

channel_request : Decides (λ (x : (Unit {0} × (ℕ × (List ℕ × (Bool × List ℕ))))). IsRow IsBoolean (ChannelRequest (x.1.0) (x.1.1.0) (x.1.1.1.0) (x.1.1.1.1)))
channel_request = then (fixed byte eq_number 98) (then uint32 (then string (then boolean rest_of)))

channel_success : Decides (λ (x : (Unit {0} × (ℕ × Unit {0}))). IsRow IsBoolean (ChannelSuccess (x.1.0)))
channel_success = then (fixed byte eq_number 99) (then uint32 ended)

channel_failure : Decides (λ (x : (Unit {0} × (ℕ × Unit {0}))). IsRow IsBoolean (ChannelFailure (x.1.0)))
channel_failure = then (fixed byte eq_number 100) (then uint32 ended)

-- the fields of a proposal, one after the other
abbrev Proposed : Type 0
Proposed = (List ℕ × (List (List ℕ) × (List (List ℕ) × (List (List ℕ) × (List (List ℕ) × (List (List ℕ) × (List (List ℕ) × (List (List ℕ) × (List (List ℕ) × (List (List ℕ) × (List (List ℕ) × (Bool × (Unit {0} × Unit {0})))))))))))))

abbrev proposal_of : Proposed → Proposal
proposal_of x = record { cookie = x.0; kex = x.1.0; host = x.1.1.0; enc_cs = x.1.1.1.0; enc_sc = x.1.1.1.1.0; mac_cs = x.1.1.1.1.1.0; mac_sc = x.1.1.1.1.1.1.0; comp_cs = x.1.1.1.1.1.1.1.0; comp_sc = x.1.1.1.1.1.1.1.1.0; lang_cs = x.1.1.1.1.1.1.1.1.1.0; lang_sc = x.1.1.1.1.1.1.1.1.1.1.0; follows = x.1.1.1.1.1.1.1.1.1.1.1.0 }

kex_init : Decides (λ (x : (Unit {0} × Proposed)). IsRow IsBoolean (KexInit (proposal_of (x.1))))
kex_init = then (fixed byte eq_number 20) (then cookie (then names (then names (then names (then names (then names (then names (then names (then names (then names (then names (then boolean (then (fixed uint32 eq_number 0) ended)))))))))))))

ext_info : Decides (λ (x : (Unit {0} × List Extension)). IsRow IsBoolean (ExtInfo (x.1)))
ext_info = then (fixed byte eq_number 7) extensions

userauth_request : Decides (λ (x : (Unit {0} × (List ℕ × (List ℕ × Method)))). IsRow IsBoolean (UserauthRequest (x.1.0) (x.1.1.0) (x.1.1.1)))
userauth_request = then (fixed byte eq_number 50) (then string (then string method))

userauth_pk_ok : Decides (λ (x : (Unit {0} × (List ℕ × (List ℕ × Unit {0})))). IsRow IsBoolean (UserauthPkOk (x.1.0) (x.1.1.0)))
userauth_pk_ok = then (fixed byte eq_number 60) (then string (then string ended))

-- 60 has its row only while the client waits for the answer to a key probe
pk_ok_here : (probing : Bool) (payload : List ℕ) → Decided (IsTrue probing × Whole (λ (x : (Unit {0} × (List ℕ × (List ℕ × Unit {0})))). IsRow IsBoolean (UserauthPkOk (x.1.0) (x.1.1.0))) payload)
pk_ok_here false payload = inr (λ w. let e = w.0 in cc e)
pk_ok_here true payload = go (userauth_pk_ok payload)
  where
    go : Decided (Whole (λ (x : (Unit {0} × (List ℕ × (List ℕ × Unit {0})))). IsRow IsBoolean (UserauthPkOk (x.1.0) (x.1.1.0))) payload) → Decided (IsTrue true × Whole (λ (x : (Unit {0} × (List ℕ × (List ℕ × Unit {0})))). IsRow IsBoolean (UserauthPkOk (x.1.0) (x.1.1.0))) payload)
    go (inl w) = inl (refl, w)
    go (inr n) = inr (λ w. n (w.1))

unknown_here : (probing : Bool) (payload : List ℕ) → Decided ((n : ℕ) × IsTrue (is_unknown probing n) × IsRow IsBoolean (Unknown n) payload)
unknown_here probing [] = inr (λ w. let h = w.2 in omega (arith, ap length h.parts, ap length h.first, length-append h.front h.back))
unknown_here probing (b ∷ payload) = go (by_truth (is_unknown probing b))
  where
    head_is : (n : ℕ) → IsRow IsBoolean (Unknown n) (b ∷ payload) → n ≡ b
    head_is n h = let e : b ∷ payload ≡ n ∷ h.back = h.parts ∙ ap (λ l. l ++ h.back) h.first in cc e

    go : Decided (is_unknown probing b ≡ true) → Decided ((n : ℕ) × IsTrue (is_unknown probing n) × IsRow IsBoolean (Unknown n) (b ∷ payload))
    go (inl e) = inl (b, e, record { front = b ∷ []; back = payload; first = refl; second = tt; parts = refl })
    go (inr n) = inr (λ w. n (subst (λ k. is_unknown probing k ≡ true) (head_is (w.0) (w.2)) (w.1)))

-- ---- which message a payload is

-- none of the rows with a fixed number but that of 60
record NoRow (payload : List ℕ) : Type 0 where
  disconnect_no : Whole (λ (x : (Unit {0} × (ℕ × (List ℕ × (List ℕ × Unit {0}))))). IsRow IsBoolean (Disconnect (x.1.0) (x.1.1.0) (x.1.1.1.0))) payload → ⊥
  ignore_no : Whole (λ (x : (Unit {0} × (List ℕ × Unit {0}))). IsRow IsBoolean (Ignore (x.1.0))) payload → ⊥
  unimplemented_no : Whole (λ (x : (Unit {0} × (ℕ × Unit {0}))). IsRow IsBoolean (Unimplemented (x.1.0))) payload → ⊥
  debug_no : Whole (λ (x : (Unit {0} × (Bool × (List ℕ × (List ℕ × Unit {0}))))). IsRow IsBoolean (Debug (x.1.0) (x.1.1.0) (x.1.1.1.0))) payload → ⊥
  service_request_no : Whole (λ (x : (Unit {0} × (List ℕ × Unit {0}))). IsRow IsBoolean (ServiceRequest (x.1.0))) payload → ⊥
  service_accept_no : Whole (λ (x : (Unit {0} × (List ℕ × Unit {0}))). IsRow IsBoolean (ServiceAccept (x.1.0))) payload → ⊥
  new_keys_no : Whole (λ (x : (Unit {0} × Unit {0})). IsRow IsBoolean NewKeys) payload → ⊥
  kex_ecdh_init_no : Whole (λ (x : (Unit {0} × (List ℕ × Unit {0}))). IsRow IsBoolean (KexEcdhInit (x.1.0))) payload → ⊥
  kex_ecdh_reply_no : Whole (λ (x : (Unit {0} × (List ℕ × (List ℕ × (List ℕ × Unit {0}))))). IsRow IsBoolean (KexEcdhReply (x.1.0) (x.1.1.0) (x.1.1.1.0))) payload → ⊥
  userauth_failure_no : Whole (λ (x : (Unit {0} × (List (List ℕ) × (Bool × Unit {0})))). IsRow IsBoolean (UserauthFailure (x.1.0) (x.1.1.0))) payload → ⊥
  userauth_success_no : Whole (λ (x : (Unit {0} × Unit {0})). IsRow IsBoolean UserauthSuccess) payload → ⊥
  userauth_banner_no : Whole (λ (x : (Unit {0} × (List ℕ × (List ℕ × Unit {0})))). IsRow IsBoolean (UserauthBanner (x.1.0) (x.1.1.0))) payload → ⊥
  global_request_no : Whole (λ (x : (Unit {0} × (List ℕ × (Bool × List ℕ)))). IsRow IsBoolean (GlobalRequest (x.1.0) (x.1.1.0) (x.1.1.1))) payload → ⊥
  request_success_no : Whole (λ (x : (Unit {0} × List ℕ)). IsRow IsBoolean (RequestSuccess (x.1))) payload → ⊥
  request_failure_no : Whole (λ (x : (Unit {0} × Unit {0})). IsRow IsBoolean RequestFailure) payload → ⊥
  channel_open_no : Whole (λ (x : (Unit {0} × (List ℕ × (ℕ × (ℕ × (ℕ × List ℕ)))))). IsRow IsBoolean (ChannelOpen (x.1.0) (x.1.1.0) (x.1.1.1.0) (x.1.1.1.1.0) (x.1.1.1.1.1))) payload → ⊥
  channel_open_confirmation_no : Whole (λ (x : (Unit {0} × (ℕ × (ℕ × (ℕ × (ℕ × List ℕ)))))). IsRow IsBoolean (ChannelOpenConfirmation (x.1.0) (x.1.1.0) (x.1.1.1.0) (x.1.1.1.1.0) (x.1.1.1.1.1))) payload → ⊥
  channel_open_failure_no : Whole (λ (x : (Unit {0} × (ℕ × (ℕ × (List ℕ × (List ℕ × Unit {0})))))). IsRow IsBoolean (ChannelOpenFailure (x.1.0) (x.1.1.0) (x.1.1.1.0) (x.1.1.1.1.0))) payload → ⊥
  channel_window_adjust_no : Whole (λ (x : (Unit {0} × (ℕ × (ℕ × Unit {0})))). IsRow IsBoolean (ChannelWindowAdjust (x.1.0) (x.1.1.0))) payload → ⊥
  channel_data_no : Whole (λ (x : (Unit {0} × (ℕ × (List ℕ × Unit {0})))). IsRow IsBoolean (ChannelData (x.1.0) (x.1.1.0))) payload → ⊥
  channel_extended_data_no : Whole (λ (x : (Unit {0} × (ℕ × (ℕ × (List ℕ × Unit {0}))))). IsRow IsBoolean (ChannelExtendedData (x.1.0) (x.1.1.0) (x.1.1.1.0))) payload → ⊥
  channel_eof_no : Whole (λ (x : (Unit {0} × (ℕ × Unit {0}))). IsRow IsBoolean (ChannelEof (x.1.0))) payload → ⊥
  channel_close_no : Whole (λ (x : (Unit {0} × (ℕ × Unit {0}))). IsRow IsBoolean (ChannelClose (x.1.0))) payload → ⊥
  channel_request_no : Whole (λ (x : (Unit {0} × (ℕ × (List ℕ × (Bool × List ℕ))))). IsRow IsBoolean (ChannelRequest (x.1.0) (x.1.1.0) (x.1.1.1.0) (x.1.1.1.1))) payload → ⊥
  channel_success_no : Whole (λ (x : (Unit {0} × (ℕ × Unit {0}))). IsRow IsBoolean (ChannelSuccess (x.1.0))) payload → ⊥
  channel_failure_no : Whole (λ (x : (Unit {0} × (ℕ × Unit {0}))). IsRow IsBoolean (ChannelFailure (x.1.0))) payload → ⊥
  kex_init_no : Whole (λ (x : (Unit {0} × Proposed)). IsRow IsBoolean (KexInit (proposal_of (x.1)))) payload → ⊥
  ext_info_no : Whole (λ (x : (Unit {0} × List Extension)). IsRow IsBoolean (ExtInfo (x.1))) payload → ⊥
  userauth_request_no : Whole (λ (x : (Unit {0} × (List ℕ × (List ℕ × Method)))). IsRow IsBoolean (UserauthRequest (x.1.0) (x.1.1.0) (x.1.1.1))) payload → ⊥

no_message : (probing : Bool) (payload : List ℕ) → NoRow payload
    → ((IsTrue probing × Whole (λ (x : (Unit {0} × (List ℕ × (List ℕ × Unit {0})))). IsRow IsBoolean (UserauthPkOk (x.1.0) (x.1.1.0))) payload) → ⊥)
    → (((n : ℕ) × IsTrue (is_unknown probing n) × IsRow IsBoolean (Unknown n) payload) → ⊥) → (m : Msg) → IsPayload probing m payload → ⊥
no_message probing payload none sixty unknown (Disconnect reason description language) h = none.disconnect_no ((tt, (reason, (description, (language, tt)))), h.row)
no_message probing payload none sixty unknown (Ignore body) h = none.ignore_no ((tt, (body, tt)), h.row)
no_message probing payload none sixty unknown (Unimplemented number) h = none.unimplemented_no ((tt, (number, tt)), h.row)
no_message probing payload none sixty unknown (Debug display message language) h = none.debug_no ((tt, (display, (message, (language, tt)))), h.row)
no_message probing payload none sixty unknown (ServiceRequest service) h = none.service_request_no ((tt, (service, tt)), h.row)
no_message probing payload none sixty unknown (ServiceAccept service) h = none.service_accept_no ((tt, (service, tt)), h.row)
no_message probing payload none sixty unknown NewKeys h = none.new_keys_no ((tt, tt), h.row)
no_message probing payload none sixty unknown (KexEcdhInit q_c) h = none.kex_ecdh_init_no ((tt, (q_c, tt)), h.row)
no_message probing payload none sixty unknown (KexEcdhReply k_s q_s signature) h = none.kex_ecdh_reply_no ((tt, (k_s, (q_s, (signature, tt)))), h.row)
no_message probing payload none sixty unknown (UserauthFailure methods partial) h = none.userauth_failure_no ((tt, (methods, (partial, tt))), h.row)
no_message probing payload none sixty unknown UserauthSuccess h = none.userauth_success_no ((tt, tt), h.row)
no_message probing payload none sixty unknown (UserauthBanner message language) h = none.userauth_banner_no ((tt, (message, (language, tt))), h.row)
no_message probing payload none sixty unknown (GlobalRequest name want rest) h = none.global_request_no ((tt, (name, (want, rest))), h.row)
no_message probing payload none sixty unknown (RequestSuccess rest) h = none.request_success_no ((tt, rest), h.row)
no_message probing payload none sixty unknown RequestFailure h = none.request_failure_no ((tt, tt), h.row)
no_message probing payload none sixty unknown (ChannelOpen kind sender window max rest) h = none.channel_open_no ((tt, (kind, (sender, (window, (max, rest))))), h.row)
no_message probing payload none sixty unknown (ChannelOpenConfirmation recipient sender window max rest) h = none.channel_open_confirmation_no ((tt, (recipient, (sender, (window, (max, rest))))), h.row)
no_message probing payload none sixty unknown (ChannelOpenFailure recipient reason description language) h = none.channel_open_failure_no ((tt, (recipient, (reason, (description, (language, tt))))), h.row)
no_message probing payload none sixty unknown (ChannelWindowAdjust recipient bytes) h = none.channel_window_adjust_no ((tt, (recipient, (bytes, tt))), h.row)
no_message probing payload none sixty unknown (ChannelData recipient body) h = none.channel_data_no ((tt, (recipient, (body, tt))), h.row)
no_message probing payload none sixty unknown (ChannelExtendedData recipient kind body) h = none.channel_extended_data_no ((tt, (recipient, (kind, (body, tt)))), h.row)
no_message probing payload none sixty unknown (ChannelEof recipient) h = none.channel_eof_no ((tt, (recipient, tt)), h.row)
no_message probing payload none sixty unknown (ChannelClose recipient) h = none.channel_close_no ((tt, (recipient, tt)), h.row)
no_message probing payload none sixty unknown (ChannelRequest recipient name want rest) h = none.channel_request_no ((tt, (recipient, (name, (want, rest)))), h.row)
no_message probing payload none sixty unknown (ChannelSuccess recipient) h = none.channel_success_no ((tt, (recipient, tt)), h.row)
no_message probing payload none sixty unknown (ChannelFailure recipient) h = none.channel_failure_no ((tt, (recipient, tt)), h.row)
no_message probing payload none sixty unknown (KexInit p) h = none.kex_init_no ((tt, (p.cookie, (p.kex, (p.host, (p.enc_cs, (p.enc_sc, (p.mac_cs, (p.mac_sc, (p.comp_cs, (p.comp_sc, (p.lang_cs, (p.lang_sc, (p.follows, (tt, tt)))))))))))))), h.row)
no_message probing payload none sixty unknown (ExtInfo l) h = none.ext_info_no ((tt, l), h.row)
no_message probing payload none sixty unknown (UserauthRequest user service m) h = none.userauth_request_no ((tt, (user, (service, m))), h.row)
no_message probing payload none sixty unknown (UserauthPkOk algorithm key) h = sixty (h.context, ((tt, (algorithm, (key, tt))), h.row))
no_message probing payload none sixty unknown (Unknown n) h = unknown (n, h.context, h.row)

-- The payload is a message, or it is none.
pub payload_decided : (probing : Bool) (payload : List ℕ) → ((m : Msg) × IsPayload probing m payload) ⊎ ((m : Msg) → IsPayload probing m payload → ⊥)
payload_decided probing payload = spread (
    step (λ w. ((Disconnect (w.0.1.0) (w.0.1.1.0) (w.0.1.1.1.0)), record { context = tt; row = w.1 })) (disconnect payload) (λ n0.
    step (λ w. ((Ignore (w.0.1.0)), record { context = tt; row = w.1 })) (ignore payload) (λ n1.
    step (λ w. ((Unimplemented (w.0.1.0)), record { context = tt; row = w.1 })) (unimplemented payload) (λ n2.
    step (λ w. ((Debug (w.0.1.0) (w.0.1.1.0) (w.0.1.1.1.0)), record { context = tt; row = w.1 })) (debug payload) (λ n3.
    step (λ w. ((ServiceRequest (w.0.1.0)), record { context = tt; row = w.1 })) (service_request payload) (λ n4.
    step (λ w. ((ServiceAccept (w.0.1.0)), record { context = tt; row = w.1 })) (service_accept payload) (λ n5.
    step (λ w. (NewKeys, record { context = tt; row = w.1 })) (new_keys payload) (λ n6.
    step (λ w. ((KexEcdhInit (w.0.1.0)), record { context = tt; row = w.1 })) (kex_ecdh_init payload) (λ n7.
    step (λ w. ((KexEcdhReply (w.0.1.0) (w.0.1.1.0) (w.0.1.1.1.0)), record { context = tt; row = w.1 })) (kex_ecdh_reply payload) (λ n8.
    step (λ w. ((UserauthFailure (w.0.1.0) (w.0.1.1.0)), record { context = tt; row = w.1 })) (userauth_failure payload) (λ n9.
    step (λ w. (UserauthSuccess, record { context = tt; row = w.1 })) (userauth_success payload) (λ n10.
    step (λ w. ((UserauthBanner (w.0.1.0) (w.0.1.1.0)), record { context = tt; row = w.1 })) (userauth_banner payload) (λ n11.
    step (λ w. ((GlobalRequest (w.0.1.0) (w.0.1.1.0) (w.0.1.1.1)), record { context = tt; row = w.1 })) (global_request payload) (λ n12.
    step (λ w. ((RequestSuccess (w.0.1)), record { context = tt; row = w.1 })) (request_success payload) (λ n13.
    step (λ w. (RequestFailure, record { context = tt; row = w.1 })) (request_failure payload) (λ n14.
    step (λ w. ((ChannelOpen (w.0.1.0) (w.0.1.1.0) (w.0.1.1.1.0) (w.0.1.1.1.1.0) (w.0.1.1.1.1.1)), record { context = tt; row = w.1 })) (channel_open payload) (λ n15.
    step (λ w. ((ChannelOpenConfirmation (w.0.1.0) (w.0.1.1.0) (w.0.1.1.1.0) (w.0.1.1.1.1.0) (w.0.1.1.1.1.1)), record { context = tt; row = w.1 })) (channel_open_confirmation payload) (λ n16.
    step (λ w. ((ChannelOpenFailure (w.0.1.0) (w.0.1.1.0) (w.0.1.1.1.0) (w.0.1.1.1.1.0)), record { context = tt; row = w.1 })) (channel_open_failure payload) (λ n17.
    step (λ w. ((ChannelWindowAdjust (w.0.1.0) (w.0.1.1.0)), record { context = tt; row = w.1 })) (channel_window_adjust payload) (λ n18.
    step (λ w. ((ChannelData (w.0.1.0) (w.0.1.1.0)), record { context = tt; row = w.1 })) (channel_data payload) (λ n19.
    step (λ w. ((ChannelExtendedData (w.0.1.0) (w.0.1.1.0) (w.0.1.1.1.0)), record { context = tt; row = w.1 })) (channel_extended_data payload) (λ n20.
    step (λ w. ((ChannelEof (w.0.1.0)), record { context = tt; row = w.1 })) (channel_eof payload) (λ n21.
    step (λ w. ((ChannelClose (w.0.1.0)), record { context = tt; row = w.1 })) (channel_close payload) (λ n22.
    step (λ w. ((ChannelRequest (w.0.1.0) (w.0.1.1.0) (w.0.1.1.1.0) (w.0.1.1.1.1)), record { context = tt; row = w.1 })) (channel_request payload) (λ n23.
    step (λ w. ((ChannelSuccess (w.0.1.0)), record { context = tt; row = w.1 })) (channel_success payload) (λ n24.
    step (λ w. ((ChannelFailure (w.0.1.0)), record { context = tt; row = w.1 })) (channel_failure payload) (λ n25.
    step (λ w. ((KexInit (proposal_of (w.0.1))), record { context = tt; row = w.1 })) (kex_init payload) (λ n26.
    step (λ w. ((ExtInfo (w.0.1)), record { context = tt; row = w.1 })) (ext_info payload) (λ n27.
    step (λ w. ((UserauthRequest (w.0.1.0) (w.0.1.1.0) (w.0.1.1.1)), record { context = tt; row = w.1 })) (userauth_request payload) (λ n28.
    step (λ w. (UserauthPkOk (w.1.0.1.0) (w.1.0.1.1.0), record { context = w.0; row = w.1.1 })) (pk_ok_here probing payload) (λ sixty.
    step (λ w. (Unknown (w.0), record { context = w.1; row = w.2 })) (unknown_here probing payload) (λ unknown.
    inr (λ w. no_message probing payload (record { disconnect_no = n0; ignore_no = n1; unimplemented_no = n2; debug_no = n3; service_request_no = n4; service_accept_no = n5; new_keys_no = n6; kex_ecdh_init_no = n7; kex_ecdh_reply_no = n8; userauth_failure_no = n9; userauth_success_no = n10; userauth_banner_no = n11; global_request_no = n12; request_success_no = n13; request_failure_no = n14; channel_open_no = n15; channel_open_confirmation_no = n16; channel_open_failure_no = n17; channel_window_adjust_no = n18; channel_data_no = n19; channel_extended_data_no = n20; channel_eof_no = n21; channel_close_no = n22; channel_request_no = n23; channel_success_no = n24; channel_failure_no = n25; kex_init_no = n26; ext_info_no = n27; userauth_request_no = n28 }) sixty unknown (w.0) (w.1))))))))))))))))))))))))))))))))))
  where
    spread : Decided ((m : Msg) × IsPayload probing m payload) → ((m : Msg) × IsPayload probing m payload) ⊎ ((m : Msg) → IsPayload probing m payload → ⊥)
    spread (inl w) = inl w
    spread (inr n) = inr (λ m h. n (m, h))
