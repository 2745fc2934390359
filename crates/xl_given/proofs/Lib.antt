pub mod Noting
pub mod CutOff
pub mod Keeping
pub mod Entering
pub mod CuttingBack
