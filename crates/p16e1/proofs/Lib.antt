pub mod ByNumber
pub mod CheckedPoints
pub mod TwoAnswers
