mod Lists
mod Change
mod Named
mod Disk
mod Promise
mod OpenFacts
mod LogFacts
