pub mod Power
pub mod Divisors
pub mod Binomial
pub mod Fermat
pub mod Pocklington
pub mod Prime
pub mod Laws
