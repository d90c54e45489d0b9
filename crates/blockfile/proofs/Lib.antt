mod Accepting
mod Leaving
mod Chunks
mod Unsound
