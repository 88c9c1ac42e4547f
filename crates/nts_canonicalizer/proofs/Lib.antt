pub mod AddingLeaves
pub mod Canonizing
pub mod Gathering
pub mod Handed
pub mod Having
pub mod Leafless
