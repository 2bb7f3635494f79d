pub mod ImageLemmas
pub mod MomentsLemmas
pub mod WritingLemmas
