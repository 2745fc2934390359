pub mod Plausible
pub mod Declaring
pub mod Naming
pub mod Fitting
pub mod Sounding
pub mod Alike
pub mod Aloud
pub mod Steps
