pub mod AnswerLaws
pub mod CheckLaws
pub mod NumberLaws
pub mod Table
