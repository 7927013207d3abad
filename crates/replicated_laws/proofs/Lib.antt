pub mod Replicating
