pub mod Lists
pub mod Places
pub mod Numbering
pub mod Wanted
pub mod Replaying
pub mod Applying
pub mod Appending
pub mod Snapshots
