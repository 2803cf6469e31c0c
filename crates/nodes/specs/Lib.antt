pub mod Meaning
pub mod Made
pub mod Put
pub mod Spine
