pub mod Changes
pub mod Fault
pub mod Gained
pub mod Hearing
pub mod Learned
pub mod Learner
pub mod Tallies
