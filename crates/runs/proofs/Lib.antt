-- What the proofs of several functions use (document 01, "Memory and the history machine"; "Operations": Run).
mod Replies
mod FullCases
mod OverCases
mod StepCases
mod RunCases
mod MainCases
mod MaskFreeCases
