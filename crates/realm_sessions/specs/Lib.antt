pub mod Fault
pub mod Links
pub mod Members
pub mod Sessions
pub mod Connected
pub mod Laws
pub mod Apart
pub mod Restoring
