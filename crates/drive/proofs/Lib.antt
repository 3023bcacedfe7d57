mod Finding
mod Keeping
mod Laws
mod Steps
mod Turning
mod Sparing
