pub mod Number
pub mod Order
pub mod Usage
pub mod Program
