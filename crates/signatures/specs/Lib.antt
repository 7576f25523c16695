pub mod Books
pub mod Orders
pub mod Ledgers
pub mod InlineSigners
