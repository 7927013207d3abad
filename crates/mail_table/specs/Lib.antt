pub mod Views
pub mod Covered
pub mod Boxes
pub mod Offices
pub mod Seats
pub mod Gathered
pub mod Laws
pub mod Examples
