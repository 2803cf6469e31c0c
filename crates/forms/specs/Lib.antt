pub mod Form
pub mod Parens
pub mod Quoted
pub mod Show
pub mod Printed
pub mod Numerals
pub mod Examples
