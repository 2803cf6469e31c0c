pub mod Operators
pub mod Written
pub mod Expr
pub mod Names
