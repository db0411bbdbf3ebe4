-- That eb3's operations meet the demands, and that none others do (document 01, "Operations" and "Four questions about contracts").
pub mod Laws
