pub mod Entries
pub mod Keys
pub mod Seeking
pub mod Putting
