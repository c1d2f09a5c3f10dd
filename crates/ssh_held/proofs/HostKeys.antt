-- A message that is the reply of a server.
use Rattle.std.proofs.Common.{◌≡◌, false, true, ℕ, List, [], Option, None, Some, IfSome, IsSomeAnd, is_some, option_map, unwrap_or, ap, refl, sym, subst, ◌∙◌}
use Rattle.ssh_model.specs.Protocol.Wire.Message.{IsPayload, Msg, Msg.KexEcdhReply}
use Rattle.ssh_held.specs.HeldHosts.{HasReply}
use Rattle.ssh_held.specs.HostKeys.{reply_of, texts_of}
use Rattle.ssh_held.specs.declared.host_key.HostReply.{HostReply}

abbrev none_given : List ℕ × List ℕ
none_given = ([], [])

same_in : (x y : List ℕ × List ℕ) → Some x ≡ Some y → x ≡ y
same_in x y e = ap (λ (o : Option (List ℕ × List ℕ)). unwrap_or o none_given) e

has_reply : (payload : List ℕ) (x : List ℕ × List ℕ) (m : Msg) → IsPayload false m payload → Some x ≡ reply_of m → HasReply payload x.0 x.1
has_reply payload x (KexEcdhReply k q s) is e =
    subst (λ (given : List ℕ × List ℕ). HasReply payload given.0 given.1) (sym (same_in x (k, s) e)) (record { point = q; is = is })
has_reply payload x m is e = absurd (cc e)

pub reply_found : (payload : List ℕ) (m : Msg) → IsPayload false m payload → (result : Option HostReply) →
    option_map texts_of result ≡ reply_of m → IfSome result (λ reply. HasReply payload reply.key.now reply.signature.now)
reply_found payload m is None e = tt
reply_found payload m is (Some reply) e = has_reply payload (texts_of reply) m is e

pub reply_only : (m : Msg) (key point signature : List ℕ) → m ≡ KexEcdhReply key point signature → (result : Option HostReply) →
    option_map texts_of result ≡ reply_of m → IsSomeAnd result (λ reply. (reply.key.now ≡ key) × (reply.signature.now ≡ signature))
reply_only m key point signature is None e = absurd (cc (e ∙ ap (λ (n : Msg). reply_of n) is))
reply_only m key point signature is (Some found) e =
    let same = same_in (texts_of found) (key, signature) (e ∙ ap (λ (n : Msg). reply_of n) is) in
    (ap (λ (x : List ℕ × List ℕ). x.0) same, ap (λ (x : List ℕ × List ℕ). x.1) same)

pub some_before : {A B : Type 0} (view : A → B) (o : Option A) → is_some (option_map view o) ≡ true → is_some o ≡ true
some_before view (Some x) e = refl
some_before view None e = absurd (cc e)

pub none_if : {A : Type 0} (o : Option A) → is_some o ≡ false → o ≡ None
none_if (Some x) e = absurd (cc e)
none_if None e = refl
