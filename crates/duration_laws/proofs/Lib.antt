mod EndLemmas
mod FloatLemmas
mod InfoLemmas
mod CueLemmas
mod ChangeLemmas
