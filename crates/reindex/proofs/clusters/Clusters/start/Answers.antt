-- No Element is passed yet.
use Rattle.std.proofs.Common.{refl}
use Rattle.mkv_schema.specs.Outline.{segment_bound, segment_run}
use Rattle.mkv_schema.proofs.ElementsLemmas.{level_1-ascends}
use Rattle.reindex.proofs.ClustersLemmas.{HasComeTo-begins}
use Rattle.reindex.proofs.clusters.Clusters.start.Goals as goal

pub returns-clause-come : goal.returns-clause-come
returns-clause-come c =
    let h = c.args.outline.now.segment in
    λ bytes total. HasComeTo-begins bytes (segment_run bytes h).list h.body _ (level_1-ascends bytes h.size h.body (segment_bound bytes h)) (c.start.ensures.left bytes total) refl refl
