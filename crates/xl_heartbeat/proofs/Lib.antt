pub mod Writing
pub mod Pulses
pub mod SameLists
pub mod Firsts
pub mod Telling
pub mod Leading
pub mod Recording
