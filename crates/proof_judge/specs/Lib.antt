pub mod Meetings
pub mod Numbers
pub mod Laying
pub mod PartsMet
pub mod Coming
pub mod Judging
pub mod Seeking
