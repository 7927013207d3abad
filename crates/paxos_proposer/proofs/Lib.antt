pub mod Drafting
pub mod InTurn
pub mod Listing
pub mod Majority
pub mod NextBallot
pub mod Reporting
