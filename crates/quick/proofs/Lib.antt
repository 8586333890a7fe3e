pub mod Positions
pub mod Marks
pub mod Pieces
pub mod FixedFields
pub mod Accepting
pub mod AcceptingTables
