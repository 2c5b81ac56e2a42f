pub mod StrayBits
pub mod Packing
pub mod Receiving
pub mod GroupJudged
