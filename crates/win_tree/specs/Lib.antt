pub mod Links
pub mod Forests
pub mod Trees
pub mod Refusals
pub mod Examples
