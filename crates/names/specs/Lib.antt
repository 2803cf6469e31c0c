pub mod Table
pub mod Listings
