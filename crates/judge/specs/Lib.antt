pub mod Change
pub mod Judge
pub mod Demand
