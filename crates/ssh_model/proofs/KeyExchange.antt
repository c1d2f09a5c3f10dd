pub mod Texts
pub mod Choices
pub mod Offers
pub mod Firsts
pub mod OneChoice
