-- A Duration changes only Info and positions after it.
use Rattle.std.proofs.Common.{◌≡◌, ℕ, ◌+◌, Bool, true, false, List, ◌∷◌, map, take, Option, Some, None, length-append, refl, ap, ◌∙◌, arith}
use Rattle.std.proofs.lemmas.List.{take-map}
use Rattle.tree_format.specs.Node.{Node, IsMaster}
use Rattle.output_model.specs.Element.{Element, octets_of, joined}
use Rattle.output_model.specs.declared.TheConstants.{MAX_CUES}
use Rattle.output_model.specs.declared.heads.ClusterLimits.{ClusterLimits}
use Rattle.output_model.specs.declared.rule.CueRule.{CueRule}
use Rattle.output_model.specs.OutputBlock.{OutputBlock}
use Rattle.output_model.specs.Cluster.{OutputCluster, clusters}
use Rattle.output_model.specs.Cues.{points_from}
use Rattle.output_model.specs.Cued.{is_cue}
use Rattle.output_model.specs.Duration.{durations_of, end_of_blocks}
use Rattle.output_model.specs.Document.{Front, tree_element, info_element, attachments_elements, clusters_at, cues_for}
use Rattle.duration_laws.specs.Changes.{added_by, later_by, document_lasting, DiffersOnlyInInfo}
use Rattle.duration_laws.proofs.InfoLemmas.{info-longer, info-inserted}
use Rattle.duration_laws.proofs.CueLemmas.{points_from-later}

-- The first Cluster begins later by the bytes that Info has gained.
clusters-later : (f : Front) (end : ℕ) → IsMaster f.info → clusters_at (record f { lasting = Some end }) ≡ clusters_at (record f { lasting = None }) + added_by f.info end
clusters-later f end is =
    let rest : List Element = tree_element f.tracks ∷ attachments_elements f.attachments in
    let longer = info-longer f.info end is in
    let own = length-append (octets_of (info_element f.info (Some end))) (joined rest) in
    let without = length-append (octets_of (tree_element f.info)) (joined rest) in
    omega arith

cues-later : (cued : OutputBlock → Bool) (f : Front) (end : ℕ) (cs : List OutputCluster) → IsMaster f.info
    → cues_for cued (record f { lasting = Some end }) cs ≡ map (later_by (added_by f.info end)) (cues_for cued (record f { lasting = None }) cs)
cues-later cued f end cs is =
    let k : ℕ = added_by f.info end in
    let first : ℕ = clusters_at (record f { lasting = None }) in
    ap (λ p. take MAX_CUES (points_from cued p cs)) (clusters-later f end is)
    ∙ ap (take MAX_CUES) (points_from-later cued k first cs)
    ∙ take-map (later_by k) MAX_CUES (points_from cued first cs)

pub only-info : (limits : ClusterLimits) (rules : List CueRule) (f : Front) (chapters tags : Option Node) (blocks : List OutputBlock) → IsMaster f.info
    → DiffersOnlyInInfo (end_of_blocks (durations_of limits.scale f.tracks) blocks) (document_lasting false limits rules f chapters tags blocks) (document_lasting true limits rules f chapters tags blocks)
only-info limits rules f chapters tags blocks is =
    let end : ℕ = end_of_blocks (durations_of limits.scale f.tracks) blocks in
    record {
      front = refl;
      info = info-inserted f.info end is;
      clusters = refl;
      begin = clusters-later f end is;
      cues = cues-later (is_cue rules) f end (clusters limits blocks) is;
      chapters = refl;
      tags = refl;
    }
