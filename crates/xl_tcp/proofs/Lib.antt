pub mod Fronts
pub mod Granting
pub mod Doors
