pub mod Unheard
pub mod Along
pub mod Limited
pub mod Filled
