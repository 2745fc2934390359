pub mod Programs
pub mod Commands
pub mod Help
