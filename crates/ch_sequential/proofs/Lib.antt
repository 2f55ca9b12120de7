mod Turns
mod Ordered
