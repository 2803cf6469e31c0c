pub mod Steps
pub mod Marking
pub mod Admitting
pub mod Adding
pub mod Naming
pub mod PresentNodes
pub mod PresentStrings
