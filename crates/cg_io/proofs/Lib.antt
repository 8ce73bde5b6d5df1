mod Entries
mod Known
mod Walks
