mod Applies
mod Raising
