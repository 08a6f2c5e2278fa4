pub mod Indexes
pub mod Drawers
pub mod Controllers
pub mod Display
pub mod Views
pub mod Rule
pub mod Seats
