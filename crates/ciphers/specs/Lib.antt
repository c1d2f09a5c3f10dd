pub mod AesGcm
pub mod X25519
pub mod Ed25519
