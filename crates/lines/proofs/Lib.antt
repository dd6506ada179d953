-- Laws of what the lines of a sheet say.
pub mod Texts
pub mod DigitRuns
pub mod Signs
pub mod Rounding
pub mod Samples
pub mod Ends
pub mod SignedOnce
pub mod Coefficients
pub mod Lines
pub mod FurtherLines
pub mod Dates
pub mod FirstLines
pub mod Powers
pub mod Quotients
pub mod OneLine
pub mod Answers
pub mod OneReading
