pub mod PlaceLemmas
pub mod ClustersLemmas
pub mod ScaleLemmas
pub mod PointsLemmas
pub mod StandardFacts
pub mod IndexLemmas
pub mod PlanFacts
