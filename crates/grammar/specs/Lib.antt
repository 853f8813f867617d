pub mod Lines
pub mod Grammar
pub mod Rules
pub mod Reading
pub mod Proper
pub mod Scan
