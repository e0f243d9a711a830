pub mod Counting
pub mod CountingLaws
pub mod Whole
pub mod ErrorTexts
