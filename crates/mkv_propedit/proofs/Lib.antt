pub mod PropeditLemmas
pub mod RecoverLemmas
pub mod ReindexLemmas
