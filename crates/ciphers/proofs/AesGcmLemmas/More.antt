-- The four rounds that a key of 256 bits has more.
use Rattle.std.proofs.Common.{◌≡◌, ℕ, Option, Some, None}
use Rattle.ciphers.specs.declared.aes_gcm.aes.MoreKeys.{MoreKeys}
use Rattle.ciphers.specs.declared.aes_gcm.lanes.Vectors.{Vectors}
use Rattle.ciphers.specs.declared.aes_gcm.planes.Planes.{Planes}
use Rattle.ciphers.specs.declared.aes_gcm.vector_rounds.MoreVectors.{MoreVectors}
use Rattle.ciphers.specs.AesGcm.Aes.{further}
use Rattle.ciphers.specs.AesGcm.Same.{Same}
use Rattle.ciphers.specs.AesGcm.SameBytes.{SameFour, SameMore}

pub some_more : (b : ℕ) (a : Planes) (k : Option MoreKeys) (v : MoreVectors) (t : Vectors) → ((m : MoreKeys) → SameFour b m v → Same b (further (Some m) a) t)
    → SameMore b k (Some v) → Same b (further k a) t
some_more b a None v t f s = absurd s
some_more b a (Some m) v t f s = f m s

pub none_more : (b : ℕ) (a : Planes) (k : Option MoreKeys) (t : Vectors) → Same b a t → SameMore b k None → Same b (further k a) t
none_more b a None t same s = same
none_more b a (Some m) t same s = absurd s

pub same_more : (b : ℕ) (k : MoreKeys) (v : MoreVectors) (o : Option MoreKeys) → o ≡ Some k → SameFour b k v → SameMore b o (Some v)
same_more b k v o e s = rw e s

pub same_none : (b : ℕ) (o : Option MoreKeys) → o ≡ None → SameMore b o None
same_none b o e = rw e tt
