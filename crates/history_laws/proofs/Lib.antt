pub mod Placed
pub mod Merging
pub mod Extended
pub mod Documents
pub mod Growth
pub mod MergedLegal
pub mod LegalByKeys
