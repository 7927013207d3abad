pub mod Allowance
pub mod Backlog
pub mod Due
pub mod Handing
pub mod Lines
pub mod Requests
pub mod Taken
