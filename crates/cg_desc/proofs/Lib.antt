pub mod Answers
pub mod Clashes
pub mod OneAnswer
