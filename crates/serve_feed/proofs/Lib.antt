mod Giving
mod Hearing
