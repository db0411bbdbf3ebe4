-- Request K10 (document 02): the proof (Laws), and the example executed.
pub mod Laws
pub mod Executed
