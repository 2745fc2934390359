pub mod Nodes
pub mod Parts
pub mod Tellings
pub mod OwnLines
pub mod Before
pub mod Echoes
