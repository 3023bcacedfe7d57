mod Masks
mod Rows
mod Tickets
mod Admission
mod Submits
mod Collects
mod Turns
