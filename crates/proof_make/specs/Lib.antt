pub mod Answers
pub mod Offers
