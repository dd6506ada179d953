-- What follows of sheets and their readings: every sheet has one or is refused, long sheets, one sheet computed.
pub mod SomeAnswer
pub mod Decided
pub mod LongSheet
pub mod Samples
