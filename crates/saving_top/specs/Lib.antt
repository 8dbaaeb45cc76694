pub mod Asked
pub mod AskedRead
pub mod Closing
pub mod TopAnswers
pub mod Ends
pub mod Laws
