mod Writing
mod Digits
mod Nameless
