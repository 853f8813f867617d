mod Accepting
mod Resolving
mod LayOne
mod LayAll
mod Refusing
mod Ordering
mod Making
mod Listing
