pub mod Plain
pub mod Statuses
pub mod Running
pub mod Headline
pub mod Stepped
pub mod TopAnswers
pub mod Ends
