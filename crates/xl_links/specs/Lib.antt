pub mod Tellings
pub mod Ways
pub mod Links
pub mod Doors
pub mod Requests
pub mod Scripts
pub mod Hubs
pub mod Memory
