pub mod Sets
pub mod Format
pub mod Faults
pub mod Reading
pub mod Published
pub mod Lengths
pub mod Contents
pub mod Fronts
