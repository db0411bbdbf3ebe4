-- What the checks of domains, labels and functions answer and enter (Entering, Rows), what filled tables declare (Declaring), the bounds of tables (Bounds),
-- the directory and what is noted in it (Directory, Noting), and the laws of these (Laws).
-- Document 01, "Blocks and the rule stream", items 2 to 5; refusals 4 and 5.
pub mod Entering
pub mod Declaring
pub mod Rows
pub mod Directory
pub mod Noting
pub mod Bounds
pub mod Laws
