pub mod ByteLemmas
