pub mod CodePoints
pub mod Sinks
pub mod Spans
