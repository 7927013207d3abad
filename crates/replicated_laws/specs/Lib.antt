pub mod Replicated
