pub mod Reactions
pub mod Delivery
pub mod Puts
pub mod Examples
