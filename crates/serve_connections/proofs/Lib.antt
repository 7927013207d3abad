pub mod Crossing
mod Handing
