mod Answering
mod Numbers
mod Parsing
mod Spelling
mod Walking
