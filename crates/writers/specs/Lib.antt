pub mod Model
pub mod WriterLaws
pub mod Memory
pub mod Opening
pub mod Answers
pub mod Deeds
