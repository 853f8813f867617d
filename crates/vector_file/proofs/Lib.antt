mod Groups
mod Places
mod Readable
mod Splits
