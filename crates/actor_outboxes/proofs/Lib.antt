pub mod Filing
pub mod Dues
