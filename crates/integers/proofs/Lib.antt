mod Fields
mod Words
mod Operators
mod Values
mod Tens
mod Made
