-- The bytes that are read while the files of `generate` are made.
use Rattle.std.proofs.Common.{◌≡◌, ◌≢◌, ℕ, ◌+◌, ◌≤◌, List, [], ◌∷◌, ◌++◌, length, map, Option, Some, Result, Ok, sym, ◌∙◌, ap, ap₂, subst, arith}
use Rattle.std.specs.Prelude.{sum_by, unwrap_or}
use Rattle.mkv_io.specs.Names.{Names}
use Rattle.output_model.specs.Document.{layout}
use Rattle.requests.specs.declared.merge.FileWords.{FileWords}
use Rattle.requests.specs.declared.merge.MergeWords.{MergeWords}
use Rattle.merge_plan.specs.Plan.{Source}
use Rattle.remux_plan.specs.Parts.{PlannedOutput}
use Rattle.remux_plan.specs.declared.summary.Summary.{Summary}
use Rattle.remuxer.specs.Output.{WritesAll, laid_out}
use Rattle.remuxer.proofs.OutputsLemmas.{world_with}
use Rattle.mkv_merge.specs.Bound.{contents_length, contents_walked, most_of, opened_length, walked_size}
use Rattle.mkv_merge.specs.Joined.{Merges, sources_alone, sources_apart}
use Rattle.mkv_merge.specs.Merge.{outputs_of as merge_outputs}
use Rattle.mkv_io.specs.Results.{and_then}
use Rattle.mkv_merge.specs.declared.joining.Merged.TheVariants as merged
use Rattle.mkv_merge.specs.declared.refusal.Refusal.{Refusal}
use Rattle.mkv_merge.proofs.MergingLemmas.{same-lengths}
use Rattle.mkv_generate.specs.declared.blocks.MediaKind.TheVariants.{Pictures, Sounds}
use Rattle.mkv_generate.specs.declared.names.Names as own
use Rattle.mkv_generate.specs.Files.{file_of}
use Rattle.mkv_generate.specs.Bound.{ReadsBoth, ReadsMerged, layouts, most_behind, most_merged}
use Rattle.mkv_generate.specs.Generate.{both_words, made_file, made_of, merge_of, parts_words, two_files}
use Rattle.requests.specs.Plain.{plain_file}
use Rattle.mkv_generate.proofs.MakingLemmas.{both-found, both-one, both-there, parts-found, told-then}
use Rattle.mkv_generate.proofs.TurnLemmas.{first-told, last-told, written-behind}

-- The inputs have the lengths of the contents.
abbrev HaveLengths : (List ℕ → Option (List ℕ)) → List FileWords → List (List ℕ) → Type 0
HaveLengths world files contents =
    (contents_length world files ≡ sum_by (λ (bytes : List ℕ). length bytes) contents) × (contents_walked world files ≡ walked_size files (map (λ (bytes : List ℕ). length bytes) contents))

-- The contents of inputs that are visible to the proof have their lengths.
one-length : (world : List ℕ → Option (List ℕ)) (a x : List ℕ) → world a ≡ Some x → HaveLengths world (plain_file a ∷ []) (x ∷ [])
one-length world a x is =
    same-lengths (λ (w : FileWords). length (unwrap_or (world w.name) [])) (λ (bytes : List ℕ). length bytes) (plain_file a ∷ []) (plain_file a ∷ []) (x ∷ [])
    (ap (λ (o : Option (List ℕ)). length (unwrap_or o []) ∷ []) is)

two-lengths : (world : List ℕ → Option (List ℕ)) (a b x y : List ℕ) → world a ≡ Some x → world b ≡ Some y → HaveLengths world (plain_file a ∷ (plain_file b ∷ [])) (x ∷ (y ∷ []))
two-lengths world a b x y first second =
    same-lengths (λ (w : FileWords). length (unwrap_or (world w.name) [])) (λ (bytes : List ℕ). length bytes) (plain_file a ∷ (plain_file b ∷ [])) (plain_file a ∷ (plain_file b ∷ [])) (x ∷ (y ∷ []))
    (ap₂ (λ (o p : Option (List ℕ)). length (unwrap_or o []) ∷ (length (unwrap_or p []) ∷ [])) first second)

-- ---- the merge of the two files

module _ (mid : Names) (names : own.Names) (words : MergeWords) (same : words ≡ both_words names) (old now : ℕ)
    (reads : (world : List ℕ → Option (List ℕ)) → mid ≡ Some world → now ≤ old + most_of (sources_alone world words) (opened_length world words) (contents_walked world words.files)) where
  both-most : (n : ℕ) (before : Names) (world : List ℕ → Option (List ℕ)) → before ≡ Some world → names.pictures ≢ names.sounds → WritesAll before mid (two_files n names) → now ≤ old + most_merged (both_words names) (layouts (two_files n names))
  both-most n before world told apart writes =
      let files = two_files n names in
      let all = map laid_out files in
      let world' = world_with world all in
      let P : MergeWords → Type 0 = λ w. now ≤ old + most_of (sources_alone world' w) (opened_length world' w) (contents_walked world' w.files) in
      let long = two-lengths world' names.pictures names.sounds (layout (file_of Pictures n)) (layout (file_of Sounds n))
      (first-told world (laid_out (made_file Pictures n names.pictures)) (laid_out (made_file Sounds n names.sounds)) apart)
      (last-told world (laid_out (made_file Pictures n names.pictures) ∷ []) (laid_out (made_file Sounds n names.sounds))) in
      let Q : Result (List Source) Refusal → ℕ → ℕ → Type 0 = λ found size walked. now ≤ old + most_of found size walked in
      let found = sources_apart (both_words names) (layouts files) in
      let none : opened_length world' (both_words names) ≡ contents_length world' (both_words names).files = omega arith in
      subst (Q found (sum_by (λ (bytes : List ℕ). length bytes) (layouts files))) long.1
      (subst (λ (size : ℕ). Q found size (contents_walked world' (both_words names).files)) long.0
      (subst (λ (r : Result (List Source) Refusal). Q r (contents_length world' (both_words names).files) (contents_walked world' (both_words names).files)) (both-found world n names apart)
      (subst (λ (size : ℕ). Q (sources_alone world' (both_words names)) size (contents_walked world' (both_words names).files)) none
      (subst P same (reads world' (told-then before mid world files told writes))))))

  -- The merge is refused or stopped.
  pub both-alone : ReadsBoth mid names old now
  both-alone = λ n before world told apart writes.
      let most = both-most n before world told apart writes in
      omega (arith, most)

  -- The merge was done, and then the parts are made.
  pub both-more : (mid' : Names) (s : Summary) (new : ℕ) → ((world : List ℕ → Option (List ℕ)) → mid ≡ Some world → Merges mid mid' words (sources_alone world words) (Ok (merged.Written s))) → ReadsMerged mid' names now new → ReadsBoth mid names old new
  both-more mid' s new merges parts = λ n before world told apart writes.
      let files = two_files n names in
      let world' = world_with world (map laid_out files) in
      let P : MergeWords → Type 0 = λ w. Merges mid mid' w (sources_alone world' w) (Ok (merged.Written s)) in
      let m : P (both_words names) = subst P same (merges world' (told-then before mid world files told writes)) in
      let made = made_of (both_words names) m.sources in
      let r : merge_of (both_words names) files ≡ Ok made =
      ap (λ (f : Result (List Source) Refusal). and_then f (λ sources. Ok (made_of (both_words names) sources))) (sym (both-found world n names apart) ∙ m.are) in
      let first = both-most n before world told apart writes in
      let second = parts n before world made told r (both-one names m.sources) (written-behind before mid mid' files (merge_outputs (both_words names) m.sources) writes m.writes) in
      let behind : most_behind names (merge_of (both_words names) files) ≡ most_merged (parts_words names) (layouts made.outputs) = ap (most_behind names) r in
      omega (arith, first, second, behind)

-- ---- the split of the merged file

pub parts-alone : (mid : Names) (names : own.Names) (words : MergeWords) (old now : ℕ) → words ≡ parts_words names
    → ((world : List ℕ → Option (List ℕ)) → mid ≡ Some world → now ≤ old + most_of (sources_alone world words) (opened_length world words) (contents_walked world words.files)) → ReadsMerged mid names old now
parts-alone mid names words old now same reads = λ n before world made told is one writes.
    let files = two_files n names in
    let world' = world_with world (map laid_out (files ++ made.outputs)) in
    let P : MergeWords → Type 0 = λ w. now ≤ old + most_of (sources_alone world' w) (opened_length world' w) (contents_walked world' w.files) in
    let L : List PlannedOutput → Type 0 = λ os. HaveLengths (world_with world (map laid_out (files ++ os))) (plain_file names.both ∷ []) (layouts os) in
    let alone : L (one.file ∷ []) = one-length (world_with world (map laid_out (files ++ one.file ∷ []))) names.both (layout one.file.document) (both-there world n names one.file one.named) in
    let long : L made.outputs = subst L (sym one.alone) alone in
    let Q : Result (List Source) Refusal → ℕ → ℕ → Type 0 = λ found size walked. now ≤ old + most_of found size walked in
    let found = sources_apart (parts_words names) (layouts made.outputs) in
    let none : opened_length world' (parts_words names) ≡ contents_length world' (parts_words names).files = omega arith in
    subst (Q found (sum_by (λ (bytes : List ℕ). length bytes) (layouts made.outputs))) long.1
    (subst (λ (size : ℕ). Q found size (contents_walked world' (parts_words names).files)) long.0
    (subst (λ (r : Result (List Source) Refusal). Q r (contents_length world' (parts_words names).files) (contents_walked world' (parts_words names).files)) (parts-found world n names made.outputs one.file one.alone one.named)
    (subst (λ (size : ℕ). Q (sources_alone world' (parts_words names)) size (contents_walked world' (parts_words names).files)) none
    (subst P same (reads world' (told-then before mid world (files ++ made.outputs) told writes))))))
