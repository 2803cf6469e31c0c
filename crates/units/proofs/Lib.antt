pub mod CodePoints
pub mod Encodings
pub mod Sinks
pub mod Spans
