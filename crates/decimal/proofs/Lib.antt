-- The laws of `decimal` that belong to no one function
pub mod Loop
pub mod Signs
pub mod Demand
pub mod Filled
pub mod Printed
pub mod Once
