mod Broken
mod Counted
mod Steps
