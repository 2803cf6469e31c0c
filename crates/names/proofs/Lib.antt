mod Finds
pub mod Tables
