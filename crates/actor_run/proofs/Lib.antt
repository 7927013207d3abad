mod Lists
mod ManyEvents
mod RoundActs
mod Going
mod Making
mod Gathering
mod RoundGoing
mod RoundTaking
