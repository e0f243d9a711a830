pub mod FixationSteps
pub mod FoundValues
mod ReadElements
mod SaidTexts
pub mod SettledPods
pub mod ViewedPods
