pub mod Protocol
pub mod State
pub mod Laws
pub mod OneEpoch
pub mod ChannelLayer
pub mod Example
