pub mod Exact
pub mod Laws
pub mod RowLaws
pub mod Grammar
pub mod AtExit
pub mod Room
pub mod Examples
pub mod Digits
mod Bytes
mod Texts
mod Words
mod Plain
mod Fields
mod Numbers
mod OfText
mod Behind
mod Rows
mod Sheets
mod Quoting
mod Following
mod Made
mod Sizing
mod Writing
mod Converting
