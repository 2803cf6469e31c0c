pub mod Wording
pub mod Words
pub mod Numbers
pub mod Units
pub mod Places
pub mod Arity
pub mod Calls
pub mod Lines
