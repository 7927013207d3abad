mod Json
mod Tokens
mod Flagged
mod Values
mod RoundTrip
mod FirstFault
