pub mod DatabaseFiles
