pub mod Kinds
pub mod Granted
pub mod Tables
pub mod Calls
pub mod Statements
pub mod Transactions
pub mod Look
pub mod Creating
