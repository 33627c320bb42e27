pub mod Calls
pub mod Pieces
pub mod PieceLaws
pub mod Leaves
pub mod FileText
pub mod QueryName
