pub mod AnswerTexts
pub mod Faults
pub mod Reading
pub mod ReplyTexts
pub mod Script
pub mod View
pub mod Words
