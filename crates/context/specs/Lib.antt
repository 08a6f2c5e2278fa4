pub mod Contexts
pub mod Lending
