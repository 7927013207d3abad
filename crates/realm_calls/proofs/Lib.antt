pub mod SoundCalls
pub mod EndedCalls
pub mod Ending
pub mod Indexes
pub mod Found
pub mod PutCalls
