pub mod SmallAnswers
