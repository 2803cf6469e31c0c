pub mod Raw
pub mod Claims
pub mod Worked
pub mod Machine
