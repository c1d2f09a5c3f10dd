pub mod Choice
pub mod Exchange
pub mod Exchanges
