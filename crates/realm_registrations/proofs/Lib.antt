pub mod Calling
pub mod Changes
pub mod Cursor
pub mod Grouped
pub mod Registering
pub mod SoundRegistrations
pub mod PutRegistrations
