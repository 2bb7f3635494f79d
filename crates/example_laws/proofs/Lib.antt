pub mod ExtractExamples
pub mod InfoExamples
pub mod PlanExamples
