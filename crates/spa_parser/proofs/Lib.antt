pub mod NextPods
pub mod AcceptedPods
pub mod Values
pub mod WorkedRows
