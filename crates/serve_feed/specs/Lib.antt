pub mod Signs
pub mod Tells
pub mod Steps
pub mod Saw
pub mod Feeds
pub mod Hears
pub mod Says
