pub mod Parts
pub mod Text
pub mod Read
pub mod Act
pub mod Again
pub mod Laws
