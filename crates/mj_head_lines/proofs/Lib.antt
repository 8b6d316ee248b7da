pub mod Bits
pub mod Count
pub mod FieldEnds
pub mod PlainLines
