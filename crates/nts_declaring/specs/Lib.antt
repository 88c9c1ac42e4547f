pub mod Declaring
pub mod Heads
pub mod Held
pub mod ImplLines
pub mod Origins
pub mod Posing
pub mod Reasons
