pub mod Casting
pub mod Coursing
pub mod Ending
pub mod Fitting
pub mod Lacking
pub mod Levelling
pub mod Listing
