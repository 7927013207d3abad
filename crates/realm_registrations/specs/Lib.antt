pub mod Callees
pub mod Registration
pub mod Registrations
pub mod Laws
pub mod Turning
pub mod Restoring
