pub mod History
pub mod Message
pub mod Notes
pub mod Claims
pub mod Numbers
pub mod Connection
