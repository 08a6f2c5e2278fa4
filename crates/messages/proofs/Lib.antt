mod WindowLemmas
mod DeliveryLemmas
mod KeepingLemmas
mod LawLemmas
mod DamageLemmas
pub mod CallerLemmas
