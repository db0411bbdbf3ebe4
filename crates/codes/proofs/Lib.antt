pub mod Cases
pub mod Walking
