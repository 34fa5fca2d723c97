pub mod Packed
pub mod PackedSheet
