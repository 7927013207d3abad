pub mod Events
pub mod Answers
pub mod Runs
pub mod Seen
pub mod RoundRuns
