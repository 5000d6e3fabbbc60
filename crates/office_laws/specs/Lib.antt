pub mod Named
pub mod Own
pub mod Signers
pub mod Lists
pub mod Bodies
pub mod Counting
