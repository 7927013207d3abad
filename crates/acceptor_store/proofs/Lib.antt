mod Texts
mod Puts
mod Founding
mod Votes
mod Trees
mod Putting
mod Deleting
mod Forgetting
mod Reading
mod Meaning
mod Telling
mod Refusing
mod Writing
mod Keeping
mod Changing
mod Calling
pub mod Files
