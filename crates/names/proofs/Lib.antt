mod Chains
mod Held
mod Buckets
