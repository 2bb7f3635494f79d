-- An output while it is written, one block at a time.
use Rattle.std.proofs.Common.{◌≡◌, ◌≤◌, ◌<◌, ℕ, ◌+◌, List, [], ◌∷◌, ◌++◌, length, take, refl, sym, ap, subst, ◌∙◌, append_assoc, append-nil, arith, nat_eq, Option, Some, None, true, false, if◌then◌else◌, ◌⊎◌, inl, inr}
use Rattle.std.proofs.lemmas.List.{length-append, map-append}
use Rattle.std.proofs.lemmas.List.Concat.{flat_map-append}
use Rattle.std.proofs.lemmas.Bool.{cases_lt}
use Rattle.std.proofs.lemmas.Bool.Decides.{nat_tests}
use Rattle.std.specs.Prelude.{Bool, is_none}
use Rattle.mkv_io.specs.Contents.{with_appended}
use Rattle.mkv_io.specs.Faults.{counted}
use Rattle.mkv_io.specs.Names.{Names, with_change, with_content}
use Rattle.mkv_io.specs.declared.reads.Reads.{Ghosts}
use Rattle.mkv_io.specs.declared.files.Files as writing
use Rattle.mkv_outputs.specs.Written.{PassesSome}
use Rattle.output_model.specs.Element.{joined, octets_of}
use Rattle.output_model.specs.declared.TheConstants.{MAX_CUES}
use Rattle.output_model.specs.declared.heads.ClusterLimits.{ClusterLimits}
use Rattle.output_model.specs.declared.places.CuePoint.{CuePoint}
use Rattle.output_model.specs.OutputBlock.{OutputBlock}
use Rattle.output_model.specs.Cluster.{OutputCluster, begun, cluster_element, cut_from, joins, with_block}
use Rattle.output_model.specs.Cues.{point_of, points_from, points_where}
use Rattle.output_model.specs.Document.{Document, back_elements, clusters_at, clusters_elements, cues_for, opened, opened_with}
use Rattle.cluster_writer.specs.Gathered.{Gathered, Holds, cluster_with, gathered_with, is_empty, joins_next, place_in, with_next}
use Rattle.cues_seekhead.specs.Draft.{StandsDrafted, draft_of}
use Rattle.cues_seekhead.specs.OpenOutput.{OpenOutput, IsOpen, StandsOpen, grown, with_cue}
use Rattle.cues_seekhead.proofs.AppendingLemmas.{PassesSome-more, PassesSome-none}
use Rattle.cues_seekhead.proofs.DraftLemmas.{StandsDrafted-begun}
use Rattle.cues_seekhead.proofs.LayoutLemmas.{opened-more}
use Rattle.cues_seekhead.proofs.OpenLemmas.{StandsOpen-cued, StandsOpen-grown}
use Rattle.output_model.specs.Cued.{is_cue}
use Rattle.remuxer.specs.Stands.{AreCounts, HasAll, Stands, counted_with, cut_on, clusters_held, with_point}
use Rattle.remuxer.specs.declared.counts.Counts.{Counts}
use Rattle.output_model.specs.declared.rule.CueRule.{CueRule}
use Rattle.remuxer.proofs.PointLemmas.{kept-more, points_from-push}

pub empty-octets : (bytes : List ℕ) → nat_eq (length bytes) 0 ≡ true → bytes ≡ []
empty-octets [] none = refl
empty-octets (x ∷ bytes) none = absurd (grind (arith, nat_tests, none))

-- ---- the ends of Clusters

cut-joins : (limits : ClusterLimits) (cl : Option OutputCluster) (left : List OutputBlock) (b : OutputBlock) → joins_next limits cl b ≡ true → cut_on limits (Some (with_next cl b)) left ≡ cut_on limits cl (b ∷ left)
cut-joins limits None left b fits = refl
cut-joins limits (Some c) left b fits = sym (ap (λ t. if t then cut_from limits (with_block c b) left else c ∷ cut_from limits (begun b) left) fits)

cut-breaks : (limits : ClusterLimits) (c : OutputCluster) (left : List OutputBlock) (b : OutputBlock) → joins limits c b ≡ false → cut_on limits (Some c) (b ∷ left) ≡ c ∷ cut_on limits None (b ∷ left)
cut-breaks limits c left b never = ap (λ t. if t then cut_from limits (with_block c b) left else c ∷ cut_from limits (begun b) left) never

-- ---- counts

-- Without a block the buffer has no Cluster.
none-held : (g : Gathered) (cl : Option OutputCluster) → Holds cl g → is_empty g ≡ is_none cl
none-held g None holds = ap (λ (x : Gathered). is_empty x) holds
none-held g (Some c) holds = ap (λ (x : Gathered). is_empty x) holds

-- A block begins a Cluster if the buffer has none.
count-begun : (n : ℕ) (g : Gathered) (done : List OutputCluster) (cl : Option OutputCluster) (b : OutputBlock) (begins : Bool) → Holds cl g → begins ≡ is_empty g
    → n ≡ counted 0 (length (done ++ clusters_held cl)) → (if begins then counted n 1 else n) ≡ counted 0 (length (done ++ clusters_held (Some (with_next cl b))))
count-begun n g done cl b begins holds empties count = ap (λ (t : Bool). if t then counted n 1 else n) (empties ∙ none-held g cl holds) ∙ by-cluster cl count
  where
    by-cluster : (it : Option OutputCluster) → n ≡ counted 0 (length (done ++ clusters_held it)) → (if is_none it then counted n 1 else n) ≡ counted 0 (length (done ++ clusters_held (Some (with_next it b))))
    by-cluster None count = let one = length-append done [] in let other = length-append done (begun b ∷ []) in grind (arith, one, other, count)
    by-cluster (Some c) count = count ∙ ap (counted 0) (length-append done (c ∷ []) ∙ sym (length-append done (with_block c b ∷ [])))

-- A cue point counts up to the limit.
count-point : (old new : List CuePoint) (p : CuePoint) → (length old < MAX_CUES → new ≡ old ++ p ∷ []) → (MAX_CUES ≤ length old → new ≡ old) → with_point (length old) ≡ length new
count-point old new p added full = either (cases_lt (length old) MAX_CUES)
  where
    either : (length old < MAX_CUES) ⊎ (MAX_CUES ≤ length old) → with_point (length old) ≡ length new
    either (inl less) = let all = ap length (added less) ∙ length-append old (p ∷ []) in grind (arith, nat_tests, less, all)
    either (inr more) = let same = ap length (full more) in grind (arith, nat_tests, more, same)

-- ---- bytes of Clusters

clusters-append : (xs ys : List OutputCluster) → joined (clusters_elements (xs ++ ys)) ≡ joined (clusters_elements xs) ++ joined (clusters_elements ys)
clusters-append xs ys = ap joined (map-append cluster_element xs ys) ∙ flat_map-append octets_of (clusters_elements xs) (clusters_elements ys)

clusters-push : (xs : List OutputCluster) (c : OutputCluster) → joined (clusters_elements xs) ++ octets_of (cluster_element c) ≡ joined (clusters_elements (xs ++ c ∷ []))
clusters-push xs c = sym (clusters-append xs (c ∷ []) ∙ ap (λ w. joined (clusters_elements xs) ++ w) (append-nil (octets_of (cluster_element c))))

-- An output with some of its Clusters is a prefix of the open one.
open-part : (d : Document) (done rest : List OutputCluster) → done ++ rest ≡ d.clusters → opened_with d.front (joined (clusters_elements done)) ++ (joined (clusters_elements rest) ++ joined (back_elements d)) ≡ opened d
open-part d done rest cut =
    let first = joined (clusters_elements done) in
    opened-more d.front first (joined (clusters_elements rest) ++ joined (back_elements d))
    ∙ ap (λ w. opened_with d.front w) (sym (append_assoc first (joined (clusters_elements rest)) (joined (back_elements d)))
    ∙ ap (λ w. w ++ joined (back_elements d)) (sym (clusters-append done rest) ∙ ap (λ cs. joined (clusters_elements cs)) cut))

module _ {S : Type 0} (r : Ghosts S) (f : writing.Ghosts S) (before : Names) (name : List ℕ) (rules : List CueRule) (d : Document) where
  -- A prefix of a Cluster was appended.
  drafted : (old now : Names) (done rest : List OutputCluster) (bytes more : List ℕ) → done ++ rest ≡ d.clusters → bytes ++ more ≡ joined (clusters_elements rest) ++ joined (back_elements d)
      → old ≡ with_content before name (opened_with d.front (joined (clusters_elements done))) → PassesSome old now name bytes → StandsDrafted before now (draft_of name d)
  drafted old now done rest bytes more cut whole had some =
      let P : List ℕ → Type 0 = λ w. StandsDrafted before now (record { name = name; appended = w; patches = (draft_of name d).patches }) in
      subst P (ap (λ w. opened_with d.front (joined (clusters_elements done)) ++ w) whole ∙ open-part d done rest cut)
      (StandsDrafted-begun before old now name (opened_with d.front (joined (clusters_elements done))) (bytes ++ more) (draft_of name d).patches had (PassesSome-more old now name bytes more some))

  -- The content is one of the draft.
  pub stands-drafted : (files : S) (o : OpenOutput) (g : Gathered) (n : Counts) (left : List OutputBlock) → Stands r f before name rules d files o g n left → StandsDrafted before (f.names files) (draft_of name d)
  stands-drafted files o g n left stands =
      let rest = cut_on g.limits stands.cluster left in
      drafted (f.names files) (f.names files) stands.done rest [] (joined (clusters_elements rest) ++ joined (back_elements d)) stands.cut refl stands.stands.names (PassesSome-none (f.names files) (f.names files) name [] refl)

  -- Room was made in the buffer.
  pub stands-room : (files : S) (o : OpenOutput) (old new : Gathered) (n : Counts) (left : List OutputBlock) → ((c : Option OutputCluster) → Holds c old → Holds c new) → new.limits ≡ old.limits
      → Stands r f before name rules d files o old n left → Stands r f before name rules d files o new n left
  stands-room files o old new n left same limits stands = record {
    done = stands.done;
    cluster = stands.cluster;
    cut = ap (λ l. stands.done ++ cut_on l stands.cluster left) limits ∙ stands.cut;
    cues = stands.cues;
    holds = same stands.cluster stands.holds;
    counts = stands.counts;
    stands = stands.stands;
  }

  -- ---- a Cluster is written

  module _ (old new : S) (o : OpenOutput) (g g' : Gathered) (bytes : List ℕ) (b : OutputBlock) (n : Counts) (left : List OutputBlock) where
    pub stands-broken : Stands r f before name rules d old o g n (b ∷ left) → ((c : Option OutputCluster) → Holds c g → joins_next g.limits c b ≡ false) → ((c : OutputCluster) → Holds (Some c) g → bytes ≡ octets_of (cluster_element c))
        → f.names new ≡ with_change (f.names old) (f.holder old o.file.n) (with_appended bytes) → f.holder new o.file.n ≡ f.holder old o.file.n → IsOpen r new (grown o (length bytes)) → Holds None g' → g'.limits ≡ g.limits
        → Stands r f before name rules d new (grown o (length bytes)) g' n (b ∷ left)
    stands-broken stands never is added holder is_open empty limits = by-cluster stands.cluster stands.cut stands.cues stands.holds stands.counts
      where
        by-cluster : (cl : Option OutputCluster) → stands.done ++ cut_on g.limits cl (b ∷ left) ≡ d.clusters → o.cues ≡ cues_for (is_cue rules) d.front (stands.done ++ clusters_held cl) → Holds cl g → AreCounts (stands.done ++ clusters_held cl) (length o.cues) n
            → Stands r f before name rules d new (grown o (length bytes)) g' n (b ∷ left)
        by-cluster None cut cues holds counts = absurd (let no : joins_next g.limits None b ≡ false = never None holds in cc)
        by-cluster (Some c) cut cues holds counts =
            let octets : joined (clusters_elements stands.done) ++ bytes ≡ joined (clusters_elements (stands.done ++ c ∷ [])) =
            ap (λ w. joined (clusters_elements stands.done) ++ w) (is c holds) ∙ clusters-push stands.done c in
            let grows = StandsOpen-grown r f before name d.front (joined (clusters_elements stands.done)) bytes old new o stands.stands added holder is_open in
            record {
              done = stands.done ++ c ∷ [];
              cluster = None;
              cut = ap (λ l. (stands.done ++ c ∷ []) ++ cut_on l None (b ∷ left)) limits ∙ append_assoc stands.done (c ∷ []) (cut_on g.limits None (b ∷ left))
                  ∙ ap (λ cs. stands.done ++ cs) (sym (cut-breaks g.limits c left b (never (Some c) holds))) ∙ cut;
              cues = cues ∙ ap (cues_for (is_cue rules) d.front) (sym (append-nil (stands.done ++ c ∷ [])));
              holds = empty;
              counts = subst (λ (cs : List OutputCluster). AreCounts cs (length o.cues) n) (sym (append-nil (stands.done ++ c ∷ []))) counts;
              stands = subst (λ (w : List ℕ). StandsOpen r f before name d.front w new (grown o (length bytes))) octets grows;
            }

    -- A prefix of the Cluster is written.
    pub broken-drafted : Stands r f before name rules d old o g n (b ∷ left) → ((c : Option OutputCluster) → Holds c g → joins_next g.limits c b ≡ false) → ((c : OutputCluster) → Holds (Some c) g → bytes ≡ octets_of (cluster_element c))
        → PassesSome (f.names old) (f.names new) (f.holder old o.file.n) bytes → StandsDrafted before (f.names new) (draft_of name d)
    broken-drafted stands never is some = by-cluster stands.cluster stands.cut stands.holds
      where
        by-cluster : (cl : Option OutputCluster) → stands.done ++ cut_on g.limits cl (b ∷ left) ≡ d.clusters → Holds cl g → StandsDrafted before (f.names new) (draft_of name d)
        by-cluster None cut holds = absurd (let no : joins_next g.limits None b ≡ false = never None holds in cc)
        by-cluster (Some c) cut holds =
            let rest = cut_on g.limits None (b ∷ left) in
            let behind = joined (clusters_elements rest) ++ joined (back_elements d) in
            drafted (f.names old) (f.names new) stands.done (c ∷ rest) bytes behind
            (ap (λ cs. stands.done ++ cs) (sym (cut-breaks g.limits c left b (never (Some c) holds))) ∙ cut)
            (ap (λ w. w ++ behind) (is c holds) ∙ sym (append_assoc (octets_of (cluster_element c)) (joined (clusters_elements rest)) (joined (back_elements d))))
            stands.stands.names (subst (λ (h : List ℕ). PassesSome (f.names old) (f.names new) h bytes) stands.stands.holder some)

  -- ---- a block is put into the buffer

  module _ (files : S) (o : OpenOutput) (old new : Gathered) (b : OutputBlock) (n : Counts) (left : List OutputBlock) where
    cut-held : (stands : Stands r f before name rules d files o old n (b ∷ left)) → joins_next old.limits stands.cluster b ≡ true → new.limits ≡ old.limits → stands.done ++ cut_on new.limits (Some (with_next stands.cluster b)) left ≡ d.clusters
    cut-held stands fits limits =
        ap (λ l. stands.done ++ cut_on l (Some (with_next stands.cluster b)) left) limits ∙ ap (λ cs. stands.done ++ cs) (cut-joins old.limits stands.cluster left b fits) ∙ stands.cut

    pub stands-kept : (begins : Bool) (stands : Stands r f before name rules d files o old n (b ∷ left)) → begins ≡ is_empty old → joins_next old.limits stands.cluster b ≡ true → ((c : Option OutputCluster) → Holds c old → Holds (Some (with_next c b)) new) → new.limits ≡ old.limits → is_cue rules b ≡ false
        → Stands r f before name rules d files o new (counted_with begins false n) left
    stands-kept begins stands empties fits puts limits plain =
        let cued = is_cue rules in
        let c = clusters_at d.front in
        let ps = points_from cued c (stands.done ++ clusters_held stands.cluster) in
        record {
          done = stands.done;
          cluster = Some (with_next stands.cluster b);
          cut = cut-held stands fits limits;
          cues = stands.cues ∙ ap (take MAX_CUES) (sym (points_from-push cued old.limits old.spare c stands.done stands.cluster b
              ∙ ap (λ t. ps ++ points_where t (point_of (c + length (joined (clusters_elements stands.done))) (place_in (gathered_with old.limits old.spare stands.cluster) b.tick) b)) plain ∙ append-nil ps));
          holds = puts stands.cluster stands.holds;
          counts = record { clusters = count-begun n.clusters old stands.done stands.cluster b begins stands.holds empties stands.counts.clusters; cues = stands.counts.cues };
          stands = stands.stands;
        }

    -- The block gets a cue point.
    pub stands-cued : (begins : Bool) (o' : OpenOutput) (relative : ℕ) (stands : Stands r f before name rules d files o old n (b ∷ left)) → begins ≡ is_empty old → joins_next old.limits stands.cluster b ≡ true → ((c : Option OutputCluster) → Holds c old → Holds (Some (with_next c b)) new) → new.limits ≡ old.limits → is_cue rules b ≡ true
        → relative ≡ place_in old b.tick → (length o.cues < MAX_CUES → o' ≡ with_cue o (record { tick = b.tick; lane = b.lane; cluster = o.len; relative = relative })) → (MAX_CUES ≤ length o.cues → o' ≡ o)
        → Stands r f before name rules d files o' new (counted_with begins true n) left
    stands-cued begins o' relative stands empties fits puts limits cue is added full =
        let cued = is_cue rules in
        let c = clusters_at d.front in
        let at = c + length (joined (clusters_elements stands.done)) in
        let ps = points_from cued c (stands.done ++ clusters_held stands.cluster) in
        let place = place_in (gathered_with old.limits old.spare stands.cluster) b.tick in
        let there : o.len ≡ at = stands.stands.known.len in
        let inside : relative ≡ place = is ∙ ap (λ (g : Gathered). place_in g b.tick) stands.holds in
        let p : CuePoint = record { tick = b.tick; lane = b.lane; cluster = o.len; relative = relative } in
        let point : p ≡ point_of at place b = λ i. record { tick = b.tick; lane = b.lane; cluster = there i; relative = inside i } in
        record {
          done = stands.done;
          cluster = Some (with_next stands.cluster b);
          cut = cut-held stands fits limits;
          cues = kept-more MAX_CUES ps o.cues o'.cues p stands.cues (λ less. ap (λ (each : OpenOutput). each.cues) (added less)) (λ most. ap (λ (each : OpenOutput). each.cues) (full most))
              ∙ ap (λ (each : CuePoint). take MAX_CUES (ps ++ each ∷ [])) point
              ∙ ap (take MAX_CUES) (sym (points_from-push cued old.limits old.spare c stands.done stands.cluster b ∙ ap (λ t. ps ++ points_where t (point_of at place b)) cue));
          holds = puts stands.cluster stands.holds;
          counts = record {
            clusters = count-begun n.clusters old stands.done stands.cluster b begins stands.holds empties stands.counts.clusters;
            cues = ap with_point stands.counts.cues ∙ count-point o.cues o'.cues p (λ less. ap (λ (each : OpenOutput). each.cues) (added less)) (λ most. ap (λ (each : OpenOutput). each.cues) (full most));
          };
          stands = either (cases_lt (length o.cues) MAX_CUES);
        }
      where
        P : OpenOutput → Type 0
        P = λ each. StandsOpen r f before name d.front (joined (clusters_elements stands.done)) files each

        either : (length o.cues < MAX_CUES) ⊎ (MAX_CUES ≤ length o.cues) → StandsOpen r f before name d.front (joined (clusters_elements stands.done)) files o'
        either (inl less) = subst P (sym (added less)) (StandsOpen-cued r f before name d.front (joined (clusters_elements stands.done)) files o (record { tick = b.tick; lane = b.lane; cluster = o.len; relative = relative }) stands.stands)
        either (inr more) = subst P (sym (full more)) stands.stands

  -- ---- the last Cluster

  clusters_held-octets : (cl : Option OutputCluster) (g : Gathered) → Holds cl g → cluster_with g.timestamp g.elements ≡ joined (clusters_elements (clusters_held cl))
  clusters_held-octets None g holds = ap (λ (x : Gathered). cluster_with x.timestamp x.elements) holds
  clusters_held-octets (Some c) g holds = ap (λ (x : Gathered). cluster_with x.timestamp x.elements) holds ∙ sym (append-nil (octets_of (cluster_element c)))

  clusters_held-cut : (limits : ClusterLimits) (cl : Option OutputCluster) → cut_on limits cl [] ≡ clusters_held cl
  clusters_held-cut limits None = refl
  clusters_held-cut limits (Some c) = refl

  module _ (old : S) (o : OpenOutput) (g : Gathered) (bytes : List ℕ) (n : Counts) (stands : Stands r f before name rules d old o g n []) (is : bytes ≡ cluster_with g.timestamp g.elements) where
    all : stands.done ++ clusters_held stands.cluster ≡ d.clusters
    all = ap (λ cs. stands.done ++ cs) (sym (clusters_held-cut g.limits stands.cluster)) ∙ stands.cut

    octets : joined (clusters_elements stands.done) ++ bytes ≡ joined (clusters_elements d.clusters)
    octets =
        ap (λ w. joined (clusters_elements stands.done) ++ w) (is ∙ clusters_held-octets stands.cluster g stands.holds)
        ∙ sym (clusters-append stands.done (clusters_held stands.cluster)) ∙ ap (λ cs. joined (clusters_elements cs)) all

    cues : d.cues ≡ cues_for (is_cue rules) d.front d.clusters → d.cues ≡ o.cues
    cues points = points ∙ sym (ap (cues_for (is_cue rules) d.front) all) ∙ sym stands.cues

    counts : d.cues ≡ cues_for (is_cue rules) d.front d.clusters → AreCounts d.clusters (length d.cues) n
    counts points = record { clusters = stands.counts.clusters ∙ ap (λ (cs : List OutputCluster). counted 0 (length cs)) all; cues = stands.counts.cues ∙ sym (ap length (cues points)) }

    -- The last Cluster is written.
    pub all-written : (new : S) → d.cues ≡ cues_for (is_cue rules) d.front d.clusters → f.names new ≡ with_change (f.names old) (f.holder old o.file.n) (with_appended bytes) → f.holder new o.file.n ≡ f.holder old o.file.n → IsOpen r new (grown o (length bytes))
        → HasAll r f before name d new (grown o (length bytes)) n
    all-written new points added holder is_open = record {
      cues = cues points;
      counts = counts points;
      stands = subst (λ (w : List ℕ). StandsOpen r f before name d.front w new (grown o (length bytes))) octets
          (StandsOpen-grown r f before name d.front (joined (clusters_elements stands.done)) bytes old new o stands.stands added holder is_open);
    }

    -- There is none.
    pub all-stand : d.cues ≡ cues_for (is_cue rules) d.front d.clusters → bytes ≡ [] → HasAll r f before name d old o n
    all-stand points none = record {
      cues = cues points;
      counts = counts points;
      stands = subst (λ (w : List ℕ). StandsOpen r f before name d.front w old o) (sym (append-nil (joined (clusters_elements stands.done))) ∙ ap (λ w. joined (clusters_elements stands.done) ++ w) (sym none) ∙ octets) stands.stands;
    }

    -- A prefix of the Cluster is written.
    pub rest-drafted : (new : S) → PassesSome (f.names old) (f.names new) (f.holder old o.file.n) bytes → StandsDrafted before (f.names new) (draft_of name d)
    rest-drafted new some =
        drafted (f.names old) (f.names new) stands.done (clusters_held stands.cluster) bytes (joined (back_elements d)) all (ap (λ w. w ++ joined (back_elements d)) (is ∙ clusters_held-octets stands.cluster g stands.holds))
        stands.stands.names (subst (λ (h : List ℕ). PassesSome (f.names old) (f.names new) h bytes) stands.stands.holder some)
