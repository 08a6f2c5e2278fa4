pub mod Frames
pub mod Devices
pub mod Slots
pub mod Refusals
pub mod Lending
pub mod Examples
