pub mod Rules
pub mod WorkerView
pub mod Book
pub mod NodeView
pub mod Record
pub mod PrivateSteps
pub mod Records
pub mod Installed
