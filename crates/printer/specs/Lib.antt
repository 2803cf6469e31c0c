pub mod Numbers
pub mod Views
pub mod Shapes
pub mod Fitted
