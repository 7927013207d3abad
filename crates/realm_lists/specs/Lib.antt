pub mod OrderedList
pub mod Finding
pub mod PlaceIndex
pub mod Tally
