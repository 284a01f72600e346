mod CommandLemmas
pub mod CommandWords
mod KeywordLemmas
mod LineLemmas
mod NumberLemmas
mod ReplyLemmas
mod SaidLemmas
mod SendingLemmas
mod ShapeLemmas
mod WordLemmas
