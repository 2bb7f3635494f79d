-- An output from its first byte to its last.
use Rattle.std.proofs.Common.{◌≡◌, ◌≢◌, ◌≤◌, ◌<◌, ℕ, zero, suc, ◌+◌, Bool, true, false, List, [], ◌∷◌, ◌++◌, All, length, Option, None, Result, Ok, Err, inl, inr, refl, sym, ◌∙◌, ap, ap₂, subst, arith}
use Rattle.std.proofs.lemmas.List.{take_all}
use Rattle.std.specs.Prelude.{slice_index_or, if◌then◌else◌}
use Rattle.std.specs.Option.{IfSome, option_and_then, option_map}
use Rattle.mkv_io.specs.declared.outside.FileId.{FileId}
use Rattle.mkv_io.specs.Faults.{counted, last_count}
use Rattle.mkv_io.specs.LiveFiles.{IsSameFile, LiveFiles}
use Rattle.mkv_io.specs.Names.{AreOthers, Names}
use Rattle.mkv_io.specs.Sources.{live_files}
use Rattle.mkv_io.specs.Writing.{KeepsOthers}
use Rattle.mkv_io.proofs.WritingLemmas.{IsSameFile-twice}
use Rattle.tree_format.specs.Node.{Node}
use Rattle.mkv_io.specs.declared.reads.Reads.{Ghosts}
use Rattle.mkv_io.specs.declared.files.Files as writing
use Rattle.mkv_io.specs.declared.remux_end.RemuxEnd.{RemuxEnd}
use Rattle.mkv_outputs.specs.Drafts.{AreDrafted, AreWrittenInOrder}
use Rattle.mkv_outputs.specs.Outputs.{Output}
use Rattle.mkv_outputs.specs.Sinks.{EndsOnly, IsNoneOf}
use Rattle.mkv_outputs.specs.Starts.{AreBegun, ArePrefixes}
use Rattle.mkv_outputs.proofs.StartsLemmas.{IsStart-then}
use Rattle.output_model.specs.Element.{joined}
use Rattle.output_model.specs.declared.TheConstants.{MAX_CUES}
use Rattle.output_model.specs.declared.heads.ClusterLimits.{ClusterLimits}
use Rattle.output_model.specs.declared.places.CuePoint.{CuePoint}
use Rattle.output_model.specs.Duration.{durations_of, end_of_blocks}
use Rattle.output_model.specs.Front.{front_with}
use Rattle.output_model.specs.OutputBlock.{OutputBlock}
use Rattle.output_model.specs.Cluster.{clusters}
use Rattle.output_model.specs.Document.{Document, Front, layout, back_elements, clusters_elements, ending_at, lasting_if, opened, opened_with}
use Rattle.output_model.specs.declared.durations.Durations.{Durations}
use Rattle.output_model.specs.declared.front.Front.{Front as GivenFront}
use Rattle.cluster_writer.specs.Gathered.{Gathered, Holds}
use Rattle.cues_seekhead.specs.Draft.{StandsDrafted, draft_of}
use Rattle.cues_seekhead.specs.Finished.{Finishes, HoldsLayout, IsReady}
use Rattle.cues_seekhead.specs.OpenOutput.{IsOpen, OpenOutput, StandsOpen}
use Rattle.cues_seekhead.proofs.LayoutLemmas.{opened-more}
use Rattle.cues_seekhead.proofs.OpenLemmas.{StandsOpen-ending, opened-ending}
use Rattle.cues_seekhead.specs.Made.{MakesFile, WritesAndEnds}
use Rattle.cues_seekhead.proofs.MadeLemmas.{MakesFile-ended, MakesFile-finished, MakesFile-kept}
use Rattle.remuxer.specs.Stands.{HasAll, Stands}
use Rattle.remuxer.proofs.ShortLemmas.{HoldsOfFiles, ended-short}
use Rattle.remuxer.specs.declared.counts.Counts.{Counts}
use Rattle.output_model.specs.declared.rule.CueRule.{CueRule}
use Rattle.merge_model.specs.FileLinks.{IsOpenLink, KeepsLink}
use Rattle.merge_model.specs.declared.link.Link.{Link}
use Rattle.merge_model.specs.declared.link.Link.TheVariants.{Track, Entries}
use Rattle.time_merge.specs.Laws.{IsApart, IsApartLink, StandsAmong}
use Rattle.time_merge.specs.Merge.{IsTold, KeepsMerge, due, files_length, left}
use Rattle.time_merge.proofs.KeptLemmas.{stands-kept}
use Rattle.time_merge.proofs.QueueLemmas.{links-kept}
use Rattle.splitter.specs.Sections.{Part}
use Rattle.record_changes.specs.Cut as chapters
use Rattle.remux_plan.specs.Parts.{chapters_of, document_with, stretch_of}
use Rattle.remux_plan.specs.declared.output.OutputSpec.{OutputSpec}
use Rattle.remuxer.specs.Durations.{durations_for}
use Rattle.remuxer.specs.Places.{CanGive, part_in}
use Rattle.remuxer.specs.Output.{CountsPart, FillsPart, Writes, WritesLayout, chapters_cut, chapters_in}
use Rattle.remuxer.proofs.StepLemmas.{gives-same, part-same, parts-same}
use Rattle.remuxer.proofs.TakingLemmas.{among-goes, goes-more}
use Rattle.remuxer.specs.Taking.{CanTake, Goes, GoesOn, end_with}
use Rattle.remuxer.specs.declared.placed.PlacedBlocks.{PlacedBlocks}
use Rattle.remuxer.specs.declared.writer.BlockWriter.{BlockWriter}

-- ---- one draft of one output

pub drafted-in_turn : (before now : Names) (name : List ℕ) (d : Document) → StandsDrafted before now (draft_of name d) → AreWrittenInOrder before now (draft_of name d ∷ [])
drafted-in_turn before now name d stands = record { stand = stands.output ∷ []; drafted = inr stands.drafted; names = stands.names }

pub whole-in_turn : (before now : Names) (name : List ℕ) (d : Document) → WritesLayout before now name d → AreWrittenInOrder before now (draft_of name d ∷ [])
whole-in_turn before now name d writes = record { stand = (let o : Output = record { name = name; content = layout d } in o) ∷ []; drafted = inl (sym writes.becomes); names = writes.names }

-- A failure at the start leaves a content of the draft.
pub begun-in_turn : (before now : Names) (name : List ℕ) (d : Document) (front : Front) (end : ℕ) → d.front ≡ ending_at end front → ArePrefixes before now (record { name = name; content = opened_with front [] } ∷ []) → AreWrittenInOrder before now (draft_of name d ∷ [])
begun-in_turn before now name d front end ends stands = record { stand = stands.stand; drafted = step stands.stand begun; names = stands.names }
  where
    more : List ℕ
    more = joined (clusters_elements d.clusters) ++ joined (back_elements d)

    same : opened_with front [] ≡ opened_with d.front []
    same = sym (opened-ending end front []) ∙ ap (λ (each : Front). opened_with each []) (sym ends)

    begun : AreBegun stands.stand (record { name = name; content = opened_with d.front [] } ∷ [])
    begun = subst (λ (bytes : List ℕ). AreBegun stands.stand (record { name = name; content = bytes } ∷ [])) same stands.begun

    step : (os : List Output) → AreBegun os (record { name = name; content = opened_with d.front [] } ∷ []) → AreDrafted os (draft_of name d ∷ [])
    step [] begun = tt
    step (o ∷ []) begun = inr (record {
      name = begun.0.name;
      content = inl (IsStart-then o.content (opened_with d.front []) (opened d) begun.0.content (record { rest = more; whole = sym (opened-more d.front [] more) }));
    })
    step (o ∷ (p ∷ os)) begun = absurd begun.1

-- the counts of an output without blocks
abbrev pub none_counted : Counts
none_counted = record { clusters = 0; cues = 0 }

module _ {S : Type 0} (r : Ghosts S) (f : writing.Ghosts S) (before : Names) (name : List ℕ) (d : Document) where
  -- The output was begun: all its blocks are left.
  pub stands-begun : (rules : List CueRule) (limits : ClusterLimits) (files : S) (o : OpenOutput) (g : Gathered) (blocks : List OutputBlock) → clusters limits blocks ≡ d.clusters → o.cues ≡ [] → Holds None g → g.limits ≡ limits
      → StandsOpen r f before name d.front [] files o → Stands r f before name rules d files o g none_counted blocks
  stands-begun rules limits files o g blocks is cues holds same stands = record {
    done = [];
    cluster = None;
    cut = ap (λ l. clusters l blocks) same ∙ is;
    cues = cues ∙ sym (take_all MAX_CUES (let none : List CuePoint = [] in none) (omega arith));
    holds = holds;
    counts = record { clusters = grind arith; cues = sym (ap length cues) };
    stands = stands;
  }

  -- The output has all its Clusters, and is finished.
  pub finishes-all : (old new : S) (o : OpenOutput) (end : ℕ) (chapters tags : Option Node) (result : Result ℕ RemuxEnd) → IfSome d.front.lasting (λ known. known ≡ end) → d.chapters ≡ chapters → d.tags ≡ tags → HoldsOfFiles r f
      → Finishes r f o end chapters tags old new result → WritesAndEnds r f o.file old new → (n : Counts) → HasAll r f before name d old o n → Writes before (f.names new) name d result
  finishes-all old new o end chapters tags result lasting its_chapters its_tags of_files finishes ended n all = step result finishes
    where
      named : f.holder old o.file.n ≡ name
      named = all.stands.holder

      ready : IsReady r f before d old o end chapters tags
      ready =
          let P : List ℕ → Type 0 = λ n. StandsOpen r f before n d.front (joined (clusters_elements d.clusters)) old o in
          record { stands = subst P (sym named) all.stands; cues = all.cues; lasting = lasting; chapters = its_chapters; tags = its_tags }

      step : (answer : Result ℕ RemuxEnd) → Finishes r f o end chapters tags old new answer → Writes before (f.names new) name d answer
      step (Ok len) ends =
          let P : List ℕ → Type 0 = λ n. HoldsLayout before (f.names new) n d len in
          let holds = subst P named (ends before d ready) in
          record { names = holds.names; becomes = holds.becomes; short = ended-short r f before name (layout d) o.file old new of_files all.stands.is_open.live named holds.names ended }
      step (Err end) ends =
          let P : List ℕ → Type 0 = λ n. AreWrittenInOrder before (f.names new) (draft_of n d ∷ []) in
          subst P named (drafted-in_turn before (f.names new) (f.holder old o.file.n) d (ends before d ready))

-- ---- the merge while the output is begun

module _ {S : Type 0} (r : Ghosts S) (f : writing.Ghosts S) (a b : S) (name : List ℕ) (file : FileId) (p : PlacedBlocks) (made : MakesFile r f name file a b) (gives : CanGive (live_files r a) p) (apart : IsApart (f.holder a) (name ∷ []) p.merge) where
  begun-keeps : KeepsMerge (live_files r a) (live_files r b) p.merge
  begun-keeps = λ k d lt. λ j e inside. one (slice_index_or (slice_index_or p.merge.queues k d).lane.links j e) ((gives.ready k d lt).files j e inside) (apart k d lt j e inside)
    where
      one : (link : Link) → IsOpenLink (live_files r a) link → IsApartLink (f.holder a) (name ∷ []) link → KeepsLink (live_files r a) (live_files r b) link
      one (Track t) opened others = made.others t.file.n (opened.live, others)
      one (Entries e) opened others = tt

  begun-among : StandsAmong (live_files r a) (live_files r b) p.merge
  begun-among = stands-kept (live_files r a) (live_files r b) p.merge begun-keeps gives.ready

  pub begun-left : left (live_files r b) p.merge ≡ left (live_files r a) p.merge
  begun-left = begun-among.left

  begun-apart : IsApart (f.holder b) (f.holder b file.n ∷ []) p.merge
  begun-apart = subst (λ (n : List ℕ). IsApart (f.holder b) (n ∷ []) p.merge) (sym made.holder)
      (λ k d lt. λ j e inside. one (slice_index_or (slice_index_or p.merge.queues k d).lane.links j e) ((gives.ready k d lt).files j e inside) (apart k d lt j e inside))
    where
      one : (link : Link) → IsOpenLink (live_files r a) link → IsApartLink (f.holder a) (name ∷ []) link → IsApartLink (f.holder b) (name ∷ []) link
      one (Track t) opened others = subst (λ (n : List ℕ). AreOthers n (name ∷ [])) (sym (made.holders t.file.n opened.live)) others
      one (Entries e) opened others = tt

  -- The output can take its blocks.
  pub begun-can : (w : BlockWriter) → w.out.file ≡ file → IsOpen r b w.out → 1 ≤ w.durations.scale → CanTake r f b w p
  begun-can w same is_open scale = record {
    is_open = is_open;
    gives = gives-same (live_files r a) (live_files r b) p p gives refl begun-among.ready refl refl;
    apart = subst (λ (id : FileId). IsApart (f.holder b) (f.holder b id.n ∷ []) p.merge) (sym same) begun-apart;
    scale = scale;
  }

  -- At most `more` bytes were read.
  pub begun-goes : (more : ℕ) → r.octets_read b ≤ r.octets_read a + more → GoesOn r more a b p p
  begun-goes more octets = among-goes r more a b p gives begun-among octets

  pub begun-told : IsTold (live_files r a) p.merge → IsTold (live_files r b) p.merge
  begun-told told = begun-among.told told

-- ---- the output's file was closed

module _ {S : Type 0} (r : Ghosts S) (f : writing.Ghosts S) (a b c e : S) (name : List ℕ) (file its : FileId) (numbered : (other : ℕ) → (live_files r a).live other ≡ true → other < f.given a) (made : MakesFile r f name file a b) (kept : KeepsOthers r f (f.holder b file.n ∷ []) b c) (same : its ≡ file) where
  written : MakesFile r f name its a c
  written =
      let P : List ℕ → Type 0 = λ n. KeepsOthers r f (n ∷ []) b c in
      subst (λ (id : FileId). MakesFile r f name id a c) (sym same) (MakesFile-kept r f name file a b c numbered made (subst P made.holder kept))

  pub finished-keeps : WritesAndEnds r f its c e → KeepsOthers r f (name ∷ []) a e
  finished-keeps ends = MakesFile-finished r f name its a c e numbered written ends

  pub abandoned-keeps : EndsOnly r f c e (its ∷ []) → KeepsOthers r f (name ∷ []) a e
  abandoned-keeps ends = MakesFile-ended r f name its a c e numbered written ends

  -- The merge is unchanged while it is closed.
  module _ (p p' : PlacedBlocks) (gives : CanGive (live_files r a) p) (apart : IsApart (f.holder a) (name ∷ []) p.merge) (goes : GoesOn r 0 b c p p') (ends : WritesAndEnds r f its c e) where
    ending-keeps : KeepsMerge (live_files r c) (live_files r e) p'.merge
    ending-keeps = λ k d lt. λ j x inside. one (slice_index_or (slice_index_or p'.merge.queues k d).lane.links j x) ((goes.gives.ready k d lt).files j x inside)
        (links-kept (All (IsApartLink (f.holder a) (name ∷ []))) p.merge.queues p'.merge.queues goes.lanes apart k d lt j x inside)
        (links-kept (All (IsOpenLink (live_files r a))) p.merge.queues p'.merge.queues goes.lanes (λ i y small. (gives.ready i y small).files) k d lt j x inside)
      where
        alone : (n : ℕ) → its.n ≢ n → IsNoneOf n (its ∷ [])
        alone n differs zero d inside = differs
        alone n differs (suc k) d inside = absurd (omega arith)

        -- A file of another name isn't the output's.
        other : (n : ℕ) → (live_files r a).live n ≡ true → AreOthers (f.holder a n) (name ∷ []) → IsSameFile (live_files r c) (live_files r e) n
        other n live others =
            let holder : f.holder c n ≡ f.holder a n = written.holders n live in
            let apart_is : AreOthers (f.holder c n) (f.holder c its.n ∷ []) = (λ equal. others.0 (sym written.holder ∙ equal ∙ holder), tt) in
            let differs : its.n ≢ n = λ equal. others.0 (sym written.holder ∙ ap (f.holder c) equal ∙ holder) in
            IsSameFile-twice (live_files r c) (live_files r ends.before) (live_files r e) n (ends.written.kept.others n apart_is) (ends.ended.others n (alone n differs))

        one : (link : Link) → IsOpenLink (live_files r c) link → IsApartLink (f.holder a) (name ∷ []) link → IsOpenLink (live_files r a) link → KeepsLink (live_files r c) (live_files r e) link
        one (Track t) opened others was = other t.file.n was.live others
        one (Entries entries) opened others was = tt

    ending-among : StandsAmong (live_files r c) (live_files r e) p'.merge
    ending-among = stands-kept (live_files r c) (live_files r e) p'.merge ending-keeps goes.gives.ready

    pub ending-left : left (live_files r e) p'.merge ≡ left (live_files r c) p'.merge
    ending-left = ending-among.left

    pub ending-goes : GoesOn r 0 c e p' p'
    ending-goes = among-goes r 0 c e p' goes.gives ending-among (let one = ends.written.octets in let other = ends.ended.octets in omega (arith, one, other))

-- ---- written counts

-- A count of 64 bits is exact.
pub counted-all : (blocks n : ℕ) → blocks ≤ last_count → counted blocks 0 ≡ n → blocks ≡ n
counted-all blocks n few is = grind arith

-- The Chapters of the part are the cut ones.
pub chapters-are : (o : OutputSpec) (f : LiveFiles) (part : Part) (cut : Option Node) → cut ≡ chapters_cut o part.start part.end → (document_with f o part).chapters ≡ chapters_in o cut
chapters-are o f part cut is = by_split o.split ∙ sym (ap (chapters_in o) is)
  where
    by_split : (split : Bool) → chapters_of split o.chapters (stretch_of o.limits.scale part.start part.end)
        ≡ (if split then (if split then option_and_then (chapters.cut (stretch_of o.limits.scale part.start part.end)) o.chapters else None) else o.chapters)
    by_split true = refl
    by_split false = refl

-- ---- the end of an output

-- The durations of frames have the output's ticks.
pub durations-scale : (scale : ℕ) (front : GivenFront) → (durations_for scale front).scale ≡ scale
durations-scale scale front = by_duration front.duration
  where
    by_duration : (asked : Bool) → (if asked then durations_of scale front.tracks else record { scale = scale; frames = [] }).scale ≡ scale
    by_duration true = refl
    by_duration false = refl

-- If the document has a Duration, it is the end that was kept.
lasting-known : (scale : ℕ) (front : GivenFront) (blocks : List OutputBlock) (end : ℕ) → end ≡ end_with (durations_for scale front) 0 blocks
    → IfSome (option_map (λ known. end_of_blocks (durations_of scale front.tracks) blocks) (lasting_if front.duration)) (λ known. known ≡ end)
lasting-known scale front blocks end is = by_duration front.duration is
  where
    by_duration : (asked : Bool) → end ≡ end_with (if asked then durations_of scale front.tracks else record { scale = scale; frames = [] }) 0 blocks
        → IfSome (option_map (λ known. end_of_blocks (durations_of scale front.tracks) blocks) (lasting_if asked)) (λ known. known ≡ end)
    by_duration true last = omega (arith, last)
    by_duration false last = tt

-- ---- a part in its output

module _ {S : Type 0} (r : Ghosts S) (f : writing.Ghosts S) (o : OutputSpec) (name : List ℕ) (a b : S) (p : PlacedBlocks) (same : left (live_files r b) p.merge ≡ left (live_files r a) p.merge) where
  abbrev its : Document
  its = document_with (live_files r a) o (part_in (live_files r a) p)

  -- The part is the same while the output is begun.
  here : part_in (live_files r b) p ≡ part_in (live_files r a) p
  here = part-same (live_files r a) (live_files r b) p same

  -- The output was begun.
  pub begun-stands : (out : OpenOutput) (buffer : Gathered) → StandsOpen r f (f.names a) name (front_with (live_files r a) o.front) [] b out → out.cues ≡ [] → Holds None buffer → buffer.limits ≡ o.limits
      → Stands r f (f.names a) name o.rules its b out buffer none_counted (part_in (live_files r b) p).blocks
  begun-stands out buffer opened cues holds limits =
      stands-begun r f (f.names a) name its o.rules o.limits b out buffer (part_in (live_files r b) p).blocks
      (ap (λ (each : Part). clusters o.limits each.blocks) here) cues holds limits
      (StandsOpen-ending r f (f.names a) name (front_with (live_files r a) o.front) (end_of_blocks (durations_of o.limits.scale o.front.tracks) (part_in (live_files r a) p).blocks) [] b out opened)

  module _ (c e : S) (w w' : BlockWriter) (p' : PlacedBlocks) (cut : Option Node) (fills : FillsPart r f o b c w w' p p' cut) (stands : Stands r f (f.names a) name o.rules its b w.out w.buffer w.counts (part_in (live_files r b) p).blocks) where
    -- The output was filled, and is finished.
    pub filled-finishes : (chapters : Option Node) (result : Result ℕ RemuxEnd) → w.durations ≡ durations_for o.limits.scale o.front → w.end ≡ 0 → chapters ≡ chapters_in o cut → HoldsOfFiles r f → Finishes r f w'.out w'.end chapters o.tags c e result → WritesAndEnds r f w'.out.file c e
        → Writes (f.names a) (f.names e) name its result
    filled-finishes chapters result durations none its_chapters of_files finishes ended =
        let is : cut ≡ chapters_cut o (part_in (live_files r a) p).start (part_in (live_files r a) p).end = fills.chapters_are ∙ ap (λ (each : Part). chapters_cut o each.start each.end) here in
        let last : w'.end ≡ end_with (durations_for o.limits.scale o.front) 0 (part_in (live_files r a) p).blocks =
        fills.end ∙ ap (λ (each : Part). end_with w.durations w.end each.blocks) here ∙ ap₂ (λ (d : Durations) (n : ℕ). end_with d n (part_in (live_files r a) p).blocks) durations none in
        finishes-all r f (f.names a) name its c e w'.out w'.end chapters o.tags result (lasting-known o.limits.scale o.front (part_in (live_files r a) p).blocks w'.end last) (chapters-are o (live_files r a) (part_in (live_files r a) p) cut is ∙ sym its_chapters) refl of_files finishes ended
        w'.counts (fills.all (f.names a) name its refl stands)

    -- The output's counts are right, and the parts after it are left.
    pub filled-counts : w.blocks ≡ 0 → left (live_files r e) p'.merge ≡ left (live_files r c) p'.merge → CountsPart (live_files r a) (live_files r e) o p p' (record { blocks = w'.blocks; counts = w'.counts })
    filled-counts none later = record {
      counts = (fills.all (f.names a) name its refl stands).counts;
      count = counted-all w'.blocks (counted 0 (length (part_in (live_files r a) p).blocks)) (fills.few (omega (arith, none)))
          (fills.count ∙ ap₂ (λ (n : ℕ) (each : Part). counted n (length each.blocks)) none here);
      behind = parts-same (live_files r c) (live_files r e) p' later ∙ fills.behind ∙ parts-same (live_files r a) (live_files r b) p same;
    }

-- The bytes for the attachments and for the blocks add up.
pub goes-whole : {S : Type 0} (r : Ghosts S) (more : ℕ) (a b c e : S) (p p' : PlacedBlocks) → GoesOn r more a b p p → GoesOn r 0 b c p p' → GoesOn r 0 c e p' p' → GoesOn r more a e p p'
goes-whole r more a b c e p p' first next last = goes-more r more a c e p p' p' (goes-more r more a b c p p p' first next) last

-- The bytes also add up if reading blocks failed, since nothing is read afterwards.
pub goes-refused : {S T E : Type 0} (r : Ghosts S) (more : ℕ) (a b c e : S) (p p' : PlacedBlocks) (result : Result T E) → GoesOn r more a b p p → Goes r 0 b c p p' result → r.octets_read e ≤ r.octets_read c
    → r.octets_read e ≤ r.octets_read a + due (live_files r a) p.merge + files_length (live_files r a) p.merge + more
goes-refused r more a b c e p p' (Ok done) first next same = let one = first.paid in let other = next.paid in omega (arith, one, other, same)
goes-refused r more a b c e p p' (Err end) first next same = let one = first.paid in let long = first.length in omega (arith, one, long, next, same)
