-- What an end answers is fixed by its history, the message and the number of the channel, except for the payloads.
use Rattle.std.proofs.Common.{◌≡◌, ℕ, suc, Bool, true, false, not, ◌&&◌, List, [], ◌∷◌, ◌++◌, map, refl, ap, sym, ◌∙◌, Option, Some, None}
use Rattle.std.specs.Prelude.{unwrap_or}
use Rattle.std.proofs.lemmas.List.{map-append}
use Rattle.ssh_model.specs.declared.side.Side.{Side}
use Rattle.ssh_model.specs.Protocol.Wire.Message.{Msg, Msg.NewKeys, Method}
use Rattle.ssh_model.specs.Protocol.Sessions.Parties.{Parties}
use Rattle.ssh_model.specs.Protocol.Sessions.Items.{Fact.Authenticated, Fact.Completed, Fact.Closed, Fact.Opened, kind_of, Item, Item.Sent, Item.Told, sent}
use Rattle.ssh_model.specs.Protocol.Channels.History as channel
use Rattle.ssh_model.specs.Protocol.Sessions.Epochs.{epoch}
use Rattle.ssh_model.specs.Protocol.Sessions.Transport.{reply_now, TransportAnswer, TransportAnswer.disconnect, TransportAnswer.ignore, TransportAnswer.unimplemented, TransportAnswer.debug, TransportAnswer.unknown, TransportAnswer.service_request, TransportAnswer.service_accept, TransportAnswer.extensions, IsAnnounced, IsAnnounced.extensions as announced, IsAnnounced.nothing as unannounced, TransportAnswer.kexinit_at_server, TransportAnswer.kexinit_at_client, TransportAnswer.answered_at_server, TransportAnswer.answered_at_client, CompletingAnswer.init, CompletingAnswer.reply, TransportAnswer.newkeys, CompletingAnswer}
use Rattle.ssh_model.specs.Protocol.Authentication.Rows.{AuthenticationAnswer.request_too_late, AuthenticationAnswer.request_accepted, AuthenticationAnswer.request_probed, AuthenticationAnswer.request_failed, AuthenticationAnswer.failure, AuthenticationAnswer.success, AuthenticationAnswer.banner, AuthenticationAnswer.key_ok, AuthenticationAnswer}
use Rattle.ssh_model.specs.Protocol.Channels.Connection.{reply_message, AreReplies, AreReplies.none, AreReplies.reply as one_reply, ConnectionAnswer, ConnectionAnswer.global, ConnectionAnswer.global_success, ConnectionAnswer.global_failure, ConnectionAnswer.opened, ConnectionAnswer.not_opened, ConnectionAnswer.confirmation, ConnectionAnswer.failure as open_failed, ConnectionAnswer.adjust, ConnectionAnswer.got_data, ConnectionAnswer.got_extended, ConnectionAnswer.eof, ConnectionAnswer.close, ConnectionAnswer.request, ConnectionAnswer.success as replied, ConnectionAnswer.no_success}
use Rattle.ssh_model.specs.Protocol.Sessions.Turns.{Answer, Answer.of_transport, Answer.of_completion, Answer.of_authentication, Answer.of_connection}
use Rattle.ssh_model.proofs.Sessions.Kinds.{plain_completing, plain_authenticating, plain_connecting, completing_authenticating, completing_connecting, authenticating_connecting}
use Rattle.ssh_model.specs.Laws.Turns.{shown}

apart : {A : Type 0} (b : Bool) → b ≡ true → b ≡ false → A
apart true e f = absurd (let g : true ≡ false = f in cc g)
apart false e f = absurd (let g : false ≡ true = e in cc g)

-- a request that fails is neither accepted nor a good probe
not_accepted : {A : Type 0} (accepted probe : Bool) → (not accepted && not probe) ≡ true → accepted ≡ true → A
not_accepted true probe f e = absurd (let g : false ≡ true = f in cc g)
not_accepted false probe f e = absurd (let g : false ≡ true = e in cc g)

not_probed : {A : Type 0} (accepted probe : Bool) → (not accepted && not probe) ≡ true → probe ≡ true → A
not_probed true probe f e = absurd (let g : false ≡ true = f in cc g)
not_probed false true f e = absurd (let g : false ≡ true = f in cc g)
not_probed false false f e = absurd (let g : false ≡ true = e in cc g)

-- nor is a probe accepted
never : {A : Type 0} (b : Bool) → (b && false) ≡ true → A
never true e = absurd (let g : false ≡ true = e in cc g)
never false e = absurd (let g : false ≡ true = e in cc g)

over : (owed more tail other : List Item) → map shown owed ≡ map shown more → map shown tail ≡ map shown other → map shown (owed ++ tail) ≡ map shown (more ++ other)
over owed more tail other e f = map-append shown owed tail ∙ ap (λ l. l ++ map shown tail) e ∙ ap (λ l. map shown more ++ l) f ∙ sym (map-append shown more other)

same_replies : {l : List channel.Item} {items others : List Item} → AreReplies l items → AreReplies l others → map shown items ≡ map shown others
same_replies none none = refl
same_replies (one_reply at m a r) (one_reply at2 m2 b s) = ap (λ (l : List Item). Sent at (reply_message m) [] ∷ l) (same_replies r s)

same_announced : {K : Type 0} {p : Parties K} {side : Side} {h items others : List Item} → IsAnnounced p side h items → IsAnnounced p side h others → map shown items ≡ map shown others
same_announced (announced b e) (announced c f) = refl
same_announced (announced b e) (unannounced f) = apart _ e f
same_announced (unannounced e) (announced c f) = apart _ f e
same_announced (unannounced e) (unannounced f) = refl

same_transport : {K : Type 0} {p : Parties K} {side : Side} {h items others : List Item} {message : Msg}
    → TransportAnswer p side h message items → TransportAnswer p side h message others → map shown items ≡ map shown others
same_transport (disconnect a b c) (disconnect a2 b2 c2) = refl
same_transport (ignore a) (ignore a2) = refl
same_transport (unimplemented a) (unimplemented a2) = refl
same_transport (debug a b c) (debug a2 b2 c2) = refl
same_transport (unknown a b) (unknown a2 b2) = refl
same_transport (service_request a b) (service_request a2 b2) = refl
same_transport (service_accept a) (service_accept a2) = refl
same_transport (kexinit_at_server a b) (kexinit_at_server a2 b2) = refl
same_transport (kexinit_at_server a b) (answered_at_server a2 b2 c2) = apart _ b c2
same_transport (kexinit_at_client a b c) (kexinit_at_client a2 b2 c2) = refl
same_transport (kexinit_at_client a b c) (answered_at_client a2 b2 c2 d2) = apart _ c d2
same_transport (answered_at_server a b c) (answered_at_server a2 b2 c2) = refl
same_transport (answered_at_server a b c) (kexinit_at_server a2 b2) = apart _ b2 c
same_transport (answered_at_client a b c d) (answered_at_client a2 b2 c2 d2) = refl
same_transport (answered_at_client a b c d) (kexinit_at_client a2 b2 c2) = apart _ c2 d
same_transport (extensions a) (extensions a2) = refl
same_transport newkeys newkeys = refl

same_completion : {K : Type 0} {p : Parties K} {owed more : List Item} {side : Side} {h items others : List Item} {message : Msg} → map shown owed ≡ map shown more
    → CompletingAnswer p owed side h message items → CompletingAnswer p more side h message others → map shown items ≡ map shown others
same_completion {p = p} {owed = owed} {more = more} {h = h} e (init {announced = x} a b c n) (init {announced = y} a2 b2 c2 n2) =
    ap (λ (l : List Item). Told (Completed (suc (epoch (sent h)))) ∷ l)
    (over owed more (x ++ (Sent None NewKeys c ∷ Sent None (reply_now p h a) b ∷ [])) (y ++ (Sent None NewKeys c2 ∷ Sent None (reply_now p h a) b2 ∷ [])) e
    (over x y (Sent None NewKeys c ∷ Sent None (reply_now p h a) b ∷ []) (Sent None NewKeys c2 ∷ Sent None (reply_now p h a) b2 ∷ []) (same_announced n n2) refl))
same_completion {owed = owed} {more = more} {h = h} e (reply {announced = x} a b c d n) (reply {announced = y} a2 b2 c2 d2 n2) =
    ap (λ (l : List Item). Told (Completed (suc (epoch (sent h)))) ∷ l)
    (over owed more (x ++ (Sent None NewKeys d ∷ [])) (y ++ (Sent None NewKeys d2 ∷ [])) e (over x y (Sent None NewKeys d ∷ []) (Sent None NewKeys d2 ∷ []) (same_announced n n2) refl))

same_authentication : {K : Type 0} {p : Parties K} {side : Side} {h items others : List Item} {message : Msg}
    → AuthenticationAnswer p side h message items → AuthenticationAnswer p side h message others → map shown items ≡ map shown others
same_authentication (request_too_late a b c d) (request_too_late a2 b2 c2 d2) = refl
same_authentication (request_too_late a b c d) (request_accepted a2 b2 c2 d2 e2 f2) = apart _ d e2
same_authentication (request_too_late a b c d) (request_probed a2 b2 c2 d2 e2 f2 g2) = apart _ d f2
same_authentication (request_too_late a b c d) (request_failed a2 b2 c2 d2 e2 f2) = apart _ d e2
same_authentication (request_accepted a b c d f g) (request_too_late a2 b2 c2 d2) = apart _ d2 f
same_authentication (request_accepted a b c d f g) (request_accepted a2 b2 c2 d2 e2 f2) = refl
same_authentication (request_accepted a b c d f g) (request_probed a2 b2 c2 d2 e2 f2 g2) = never _ g
same_authentication (request_accepted a b c d f g) (request_failed a2 b2 c2 d2 e2 f2) = not_accepted _ _ f2 g
same_authentication (request_probed a b c d f g k) (request_too_late a2 b2 c2 d2) = apart _ d2 g
same_authentication (request_probed a b c d f g k) (request_accepted a2 b2 c2 d2 e2 f2) = never _ f2
same_authentication (request_probed a b c d f g k) (request_probed a2 b2 c2 d2 e2 f2 g2) = refl
same_authentication (request_probed a b c d f g k) (request_failed a2 b2 c2 d2 e2 f2) = not_probed _ _ f2 k
same_authentication (request_failed a b c d f g) (request_too_late a2 b2 c2 d2) = apart _ d2 f
same_authentication (request_failed a b c d f g) (request_accepted a2 b2 c2 d2 e2 f2) = not_accepted _ _ g f2
same_authentication (request_failed a b c d f g) (request_probed a2 b2 c2 d2 e2 f2 g2) = not_probed _ _ g g2
same_authentication (request_failed a b c d f g) (request_failed a2 b2 c2 d2 e2 f2) = refl
same_authentication (failure a b) (failure a2 b2) = refl
same_authentication (success m e) (success n f) =
    let same : Some m ≡ Some n = sym e ∙ f in
    ap (λ (way : Method). Told (Authenticated (kind_of way)) ∷ []) (cc same)
same_authentication (banner a b) (banner a2 b2) = refl
same_authentication (key_ok a b) (key_ok a2 b2) = refl

some_inj : {a b : ℕ} → Some a ≡ Some b → a ≡ b
some_inj {a = a} e = ap (λ (o : Option ℕ). unwrap_or o a) e

same_connection : {side : Side} {h items others : List Item} {at other : Option ℕ} {message : Msg} → at ≡ other → ConnectionAnswer side h at message items → ConnectionAnswer side h other message others → map shown items ≡ map shown others
same_connection e (global a b c) (global a2 b2 c2) = refl
same_connection e (global_success a) (global_success a2) = refl
same_connection e global_failure global_failure = refl
same_connection e (opened a b c d f g k) (opened a2 b2 c2 d2 e2 f2 g2) = ap (λ (x : ℕ). Told (Opened x b d f g) ∷ []) (some_inj e)
same_connection e (opened a b c d f g k) (not_opened a2 b2 c2 d2 e2 f2 g2) = absurd (cc e)
same_connection e (not_opened a b c d f g k) (opened a2 b2 c2 d2 e2 f2 g2) = absurd (cc e)
same_connection e (not_opened a b c d f g k) (not_opened a2 b2 c2 d2 e2 f2 g2) = same_replies k g2
same_connection e (confirmation a b c d f) (confirmation a2 b2 c2 d2 e2) = refl
same_connection e (open_failed a b c d) (open_failed a2 b2 c2 d2) = refl
same_connection e (adjust a b) (adjust a2 b2) = refl
same_connection e (got_data a b) (got_data a2 b2) = refl
same_connection e (got_extended a b c) (got_extended a2 b2 c2) = refl
same_connection e (eof a) (eof a2) = refl
same_connection e (close a b) (close a2 b2) = ap (λ (l : List Item). Told (Closed a) ∷ l) (same_replies b b2)
same_connection e (request a b c d) (request a2 b2 c2 d2) = refl
same_connection e (replied a) (replied a2) = refl
same_connection e (no_success a) (no_success a2) = refl

pub same_answer : {K : Type 0} (p : Parties K) (side : Side) (h : List Item) (at : Option ℕ) (message : Msg) (items others : List Item) → Answer p side h at message items → Answer p side h at message others
    → map shown items ≡ map shown others
same_answer p side h at message items others (of_transport t) (of_transport u) = same_transport t u
same_answer p side h at message items others (of_transport t) (of_completion r u) = plain_completing t u
same_answer p side h at message items others (of_transport t) (of_authentication u) = plain_authenticating t u
same_answer p side h at message items others (of_transport t) (of_connection u) = plain_connecting t u
same_answer p side h at message items others (of_completion r t) (of_transport u) = plain_completing u t
same_answer p side h at message items others (of_completion r t) (of_completion s u) = same_completion (same_replies r s) t u
same_answer p side h at message items others (of_completion r t) (of_authentication u) = completing_authenticating t u
same_answer p side h at message items others (of_completion r t) (of_connection u) = completing_connecting t u
same_answer p side h at message items others (of_authentication t) (of_transport u) = plain_authenticating u t
same_answer p side h at message items others (of_authentication t) (of_completion s u) = completing_authenticating u t
same_answer p side h at message items others (of_authentication t) (of_authentication u) = same_authentication t u
same_answer p side h at message items others (of_authentication t) (of_connection u) = authenticating_connecting {p = p} t u
same_answer p side h at message items others (of_connection t) (of_transport u) = plain_connecting u t
same_answer p side h at message items others (of_connection t) (of_completion s u) = completing_connecting u t
same_answer p side h at message items others (of_connection t) (of_authentication u) = authenticating_connecting {p = p} u t
same_answer p side h at message items others (of_connection t) (of_connection u) = same_connection refl t u
