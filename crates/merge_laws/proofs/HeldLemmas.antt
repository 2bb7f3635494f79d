-- Facts about the selected tracks of each source of a merge.
use Rattle.std.proofs.Common.{◌≡◌, ℕ, suc, Bool, not, List, [], ◌∷◌, map, Option, None, Some, Ok, subst}
use Rattle.std.specs.List.{All, zip}
use Rattle.std.proofs.lemmas.List.Elements.{All-append, All-cons, All-head, All-map, All-nil, All-tail}
use Rattle.mkv_io.specs.Faults.{counted}
use Rattle.tree_format.specs.Node.{Node}
use Rattle.input_files.specs.declared.chapter_file.ChapterFile.{ChapterFile}
use Rattle.input_files.specs.declared.chapter_file.ChapterFile.TheVariants as file
use Rattle.input_files.specs.declared.times_file.TimesFile.{TimesFile}
use Rattle.requests.specs.declared.merge.AttachedWords.{AttachedWords}
use Rattle.requests.specs.declared.merge.FileWords.{FileWords}
use Rattle.requests.specs.declared.merge.MergeWords.{MergeWords}
use Rattle.merge_inputs.specs.Input.{InputRead, input_of}
use Rattle.merge_inputs.specs.Select.{kept_one}
use Rattle.merge_inputs.specs.declared.taken.TakenTrack.{TakenTrack}
use Rattle.merge_plan.specs.Attached.{attached_source, attached_sources}
use Rattle.merge_plan.specs.Places.{begun_at, end_of, in_place, in_place_from}
use Rattle.merge_plan.specs.Plan.{Source}
use Rattle.mkv_merge.specs.Chapters.{chaptered, first_with, with_chapters}
use Rattle.mkv_merge.specs.Merge.{sources_of}
use Rattle.mkv_merge.specs.Read.{attached_held, contents_held, inputs_from, numbered}
use Rattle.mkv_merge.specs.Texts.{listings_at, timed_from, with_listings}
use Rattle.merge_laws.proofs.SourceLemmas.{numbered-ok, then-ok, were-read}

-- A fact `P` about the number of an input's tracks and the selected ones, which holds without tracks.
module _ (P : ℕ → List TakenTrack → Type 0) (none : P 0 []) where
  -- It holds for the input `i`; below, for the source `s`.
  abbrev pub Have : InputRead → Type 0
  Have i = P i.count i.taken

  abbrev pub HasTracks : Source → Type 0
  HasTracks s = Have s.1

  -- ---- what is done with inputs after they are read

  first-held : (chapters : Option Node) (reads : List InputRead) → All Have reads → All Have (first_with with_chapters chapters reads)
  first-held chapters [] each = each
  first-held chapters (r ∷ rs) each =
      All-cons Have (with_chapters chapters r) (map (with_chapters None) rs) (All-head Have r rs each) (All-map Have (with_chapters None) rs (All-tail Have r rs each))

  chaptered-held : (webm : Bool) (f : ChapterFile) (reads : List InputRead) → All Have reads → All Have (chaptered with_chapters webm f reads)
  chaptered-held webm file.Absent reads each = each
  chaptered-held webm file.Missing reads each = each
  chaptered-held webm (file.Refused why) reads each = each
  chaptered-held webm (file.Read chapters) reads each = first-held (kept_one (not webm) (Some chapters)) reads each

  timed-held : (files : List TimesFile) (input : ℕ) (reads : List InputRead) → All Have reads → All Have (timed_from files input reads)
  timed-held files input [] each = each
  timed-held files input (r ∷ rs) each =
      All-cons Have (with_listings (listings_at input files) r) (timed_from files (suc input) rs) (All-head Have r rs each)
      (timed-held files (suc input) rs (All-tail Have r rs each))

  zipped-held : (contents : List (List ℕ)) (reads : List InputRead) → All Have reads → All HasTracks (zip contents reads)
  zipped-held [] reads each = All-nil HasTracks
  zipped-held (c ∷ cs) [] each = All-nil HasTracks
  zipped-held (c ∷ cs) (r ∷ rs) each = All-cons HasTracks (c, r) (zip cs rs) (All-head Have r rs each) (zipped-held cs rs (All-tail Have r rs each))

  placed-held : (time : ℕ) (sources : List Source) → All HasTracks sources → All HasTracks (in_place_from time sources)
  placed-held time [] each = All-nil HasTracks
  placed-held time (s ∷ ss) each =
      All-cons HasTracks (begun_at time s) (in_place_from (end_of (begun_at time s)) ss) (All-head HasTracks s ss each)
      (placed-held (end_of (begun_at time s)) ss (All-tail HasTracks s ss each))

  -- Files that the merge attaches have no tracks.
  attached-held : (webm : Bool) (attached : List AttachedWords) (contents : List (List ℕ)) → All HasTracks (attached_sources webm attached contents)
  attached-held webm [] contents = All-nil HasTracks
  attached-held webm (w ∷ ws) [] = All-nil HasTracks
  attached-held webm (w ∷ ws) (c ∷ cs) = All-cons HasTracks (attached_source webm (w, c)) (attached_sources webm ws cs) none (attached-held webm ws cs)

  -- ---- all sources

  -- It holds for each input that is read with options that have the property `Q`.
  module _ (Q : FileWords → Type 0) (each : (words : FileWords) (webm : Bool) (held : ℕ) (bytes : List ℕ) (read : InputRead) → Q words → input_of words webm held bytes ≡ Ok read → Have read) where
    inputs-held : (webm : Bool) (k held : ℕ) (files : List FileWords) (contents : List (List ℕ)) (reads : List InputRead) → All Q files
        → inputs_from webm k held (zip files contents) ≡ Ok reads → All Have reads
    inputs-held webm k held [] contents reads good is = let same : [] ≡ reads = cc in subst (All Have) same (All-nil Have)
    inputs-held webm k held (f ∷ fs) [] reads good is = let same : [] ≡ reads = cc in subst (All Have) same (All-nil Have)
    inputs-held webm k held (f ∷ fs) (c ∷ cs) reads good is =
        let first = then-ok (numbered k (input_of f webm held c)) _ reads is in
        let read : InputRead = first.0 in
        let others = then-ok (inputs_from webm (suc k) (counted held read.held) (zip fs cs)) _ reads first.1.1 in
        let made : read ∷ others.0 ≡ reads = (let last = others.1.1 in cc) in
        let own = each f webm held c read (All-head Q f fs good) (numbered-ok k (input_of f webm held c) read first.1.0) in
        let rest = inputs-held webm (suc k) (counted held read.held) fs cs others.0 (All-tail Q f fs good) others.1.0 in
        subst (All Have) made (All-cons Have read others.0 own rest)

    pub sources-held : (world : List ℕ → Option (List ℕ)) (words : MergeWords) (sources : List Source) → All Q words.files → sources_of world words ≡ Ok sources → All HasTracks sources
    sources-held world words sources good is =
        let were = were-read world words sources is in
        let contents = contents_held world words in
        let attached = attached_sources words.webm words.attached (attached_held world words) in
        let headed = chaptered with_chapters words.webm were.given.chapters were.found in
        let timed = timed_from were.given.times 0 headed in
        let found = inputs-held words.webm 0 0 words.files contents were.found good were.read in
        let all = timed-held were.given.times 0 headed (chaptered-held words.webm were.given.chapters were.found found) in
        subst (All HasTracks) were.placed
        (All-append HasTracks (in_place (zip contents timed)) attached (placed-held 0 (zip contents timed) (zipped-held contents timed all)) (attached-held words.webm words.attached (attached_held world words)))
