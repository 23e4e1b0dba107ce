mod Turns
mod Orders
