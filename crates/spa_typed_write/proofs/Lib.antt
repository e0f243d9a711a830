pub mod OpenPods
pub mod OpenArrays
pub mod Completing
