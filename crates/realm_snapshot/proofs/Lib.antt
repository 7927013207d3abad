mod Taking
pub mod RoundTrip
pub mod PartsBack
pub mod RealmBack
pub mod Listing
pub mod AsMachine
pub mod Only
pub mod Determined
