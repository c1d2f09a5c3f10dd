pub mod AesGcmLemmas
pub mod X25519Lemmas
pub mod Ed25519Lemmas
