mod Common
pub mod MessagesLaws
pub mod ReasonLaws
mod ShownNames
pub mod Written
