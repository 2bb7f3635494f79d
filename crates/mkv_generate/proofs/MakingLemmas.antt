-- The files of `generate`, one merge after another.
use Rattle.std.proofs.Common.{◌≡◌, ◌≢◌, ℕ, cond, ◌||◌, Bool, List, [], ◌∷◌, ◌++◌, length, map, append-nil, append_assoc, Option, Some, None, Result, Ok, Err, refl, sym, ◌∙◌, ap, ap₂, subst}
use Rattle.std.specs.List.{enumerate_from}
use Rattle.std.specs.Prelude.{is_none, option_map, unwrap_or}
use Rattle.std.proofs.lemmas.List.{length-map}
use Rattle.mkv_io.specs.Names.{Names}
use Rattle.mkv_outputs.specs.Drafts.{AreWrittenInOrder}
use Rattle.mkv_outputs.specs.Outputs.{with_outputs}
use Rattle.mkv_outputs.proofs.DraftsLemmas.{AreWrittenInOrder-none}
use Rattle.output_model.specs.Document.{layout}
use Rattle.input_files.specs.Inputs.{attached_names, file_names, first_missing}
use Rattle.requests.specs.declared.merge.AttachedWords.{AttachedWords}
use Rattle.requests.specs.declared.merge.MergeWords.{MergeWords}
use Rattle.merge_plan.specs.Plan.{Source}
use Rattle.remux_plan.specs.Parts.{PlannedOutput}
use Rattle.remux_plan.specs.Summary.{written_of}
use Rattle.remux_plan.specs.declared.summary.Summary.{Summary}
use Rattle.remux_plan.specs.declared.summary.Written.{Written}
use Rattle.remuxer.specs.Output.{WritesAll, drafts_of, laid_out}
use Rattle.mkv_lines.specs.Verdict.{Leaves, WrittenOutputs, Verdict, in_turn}
use Rattle.mkv_lines.specs.declared.status.CommandEnd.{CommandEnd}
use Rattle.mkv_merge.specs.declared.joining.Merged.TheVariants as merged
use Rattle.splitter.specs.Sections.{Part}
use Rattle.splitter.proofs.SectionLemmas.{whole-part}
use Rattle.mkv_merge.specs.Joined.{Merges, no_texts, outputs_found, sources_alone, sources_apart}
use Rattle.mkv_merge.specs.Merge.{blocks_of, output_at, refusals_read, sources_in, split_of, warned_if}
use Rattle.mkv_merge.specs.Merge.{outputs_of as merge_outputs}
use Rattle.mkv_merge.specs.Read.{contents_held, first_written as name_written}
use Rattle.mkv_merge.specs.Refused.{first_cause}
use Rattle.mkv_io.specs.Results.{and_then, unless}
use Rattle.mkv_merge.specs.declared.refusal.Refusal.{Refusal}
use Rattle.mkv_merge.specs.declared.refusal.Refusal.TheVariants.{Missing, MissingAttached, OutputIsInput}
use Rattle.mkv_generate.specs.declared.making.Done.{Done}
use Rattle.mkv_generate.specs.declared.making.Outcome.{Outcome}
use Rattle.mkv_generate.specs.declared.making.Outcome.TheVariants.{Made, Refused}
use Rattle.mkv_generate.specs.declared.names.Names as own
use Rattle.mkv_generate.specs.declared.blocks.MediaKind.TheVariants.{Pictures, Sounds}
use Rattle.mkv_generate.specs.Files.{file_of}
use Rattle.mkv_generate.specs.Generate.{MergeMade, both_words, first_written, line_for, made_file, made_of, made_outputs, merge_of, parts_words, two_files, verdict_of, with_both, with_parts}
use Rattle.mkv_generate.specs.Outcome.{HasMade, IsOneFile, Makes, MakesBoth, MakesParts}
use Rattle.remuxer.proofs.OutputsLemmas.{told-with, world_with}
use Rattle.mkv_generate.proofs.TurnLemmas.{drafts-append, first-told, in_turn-more, last-told, stopped-behind, written-behind}

-- ---- the contents of the inputs

-- If the files have the inputs, a merge that attaches no file is the merge of their contents.
pub alone-is : (world : List ℕ → Option (List ℕ)) (words : MergeWords) (contents : List (List ℕ)) → words.attached ≡ [] → (first_missing world (file_names words.files) ≡ None) × (contents_held world words ≡ contents) → sources_alone world words ≡ sources_apart words contents
alone-is world words contents none is =
    ap (found (name_written words) (first_missing world (file_names words.files)) (contents_held world words)) none
    ∙ ap₂ (λ (missing : Option ℕ) (all : List (List ℕ)). found (name_written words) missing all []) is.0 is.1 ∙ by_name (name_written words)
  where
    found : Option (List ℕ) → Option ℕ → List (List ℕ) → List AttachedWords → Result (List Source) Refusal
    found written missing all attached =
        let held : List (List ℕ) = map (λ (name : List ℕ). unwrap_or (world name) []) (attached_names attached) in
        let before : List (Option Refusal) = option_map OutputIsInput written ∷ option_map Missing missing ∷ option_map MissingAttached (first_missing world (attached_names attached)) ∷ [] in
        unless (first_cause (before ++ refusals_read words no_texts all held)) (sources_in words no_texts all held)

    by_name : (written : Option (List ℕ)) → found written None contents [] ≡ unless (first_cause (option_map OutputIsInput written ∷ refusals_read words no_texts contents [])) (sources_in words no_texts contents [])
    by_name None = refl
    by_name (Some name) = refl

two-held : (world : List ℕ → Option (List ℕ)) (a b x y : List ℕ) → world a ≡ Some x → world b ≡ Some y → (first_missing world (a ∷ (b ∷ [])) ≡ None) × (map (λ name. unwrap_or (world name) []) (a ∷ (b ∷ [])) ≡ x ∷ (y ∷ []))
two-held world a b x y first second = (
  ap₂ (λ (p q : Option (List ℕ)). cond (is_none p) (Some 0) (cond (is_none q) (Some 1) None)) first second,
  ap₂ (λ (p q : Option (List ℕ)). unwrap_or p [] ∷ (unwrap_or q [] ∷ [])) first second,
)

one-held : (world : List ℕ → Option (List ℕ)) (a x : List ℕ) → world a ≡ Some x → (first_missing world (a ∷ []) ≡ None) × (map (λ name. unwrap_or (world name) []) (a ∷ []) ≡ x ∷ [])
one-held world a x is = (ap (λ (p : Option (List ℕ)). cond (is_none p) (Some 0) None) is, ap (λ (p : Option (List ℕ)). unwrap_or p [] ∷ []) is)

-- The files after outputs were written.
pub told-then : (before now : Names) (world : List ℕ → Option (List ℕ)) (done : List PlannedOutput) → before ≡ Some world → WritesAll before now done → now ≡ Some (world_with world (map laid_out done))
told-then before now world done told writes = writes.names ∙ ap (λ (names : Names). with_outputs names (map laid_out done)) told ∙ told-with world (map laid_out done)

-- The merge of the two files.
pub both-found : (world : List ℕ → Option (List ℕ)) (n : ℕ) (names : own.Names) → names.pictures ≢ names.sounds
    → sources_alone (world_with world (map laid_out (two_files n names))) (both_words names) ≡ sources_apart (both_words names) (map (λ (o : PlannedOutput). layout o.document) (two_files n names))
both-found world n names apart =
    let all = map laid_out (two_files n names) in
    alone-is (world_with world all) (both_words names) (map (λ (o : PlannedOutput). layout o.document) (two_files n names)) refl
    (two-held (world_with world all) names.pictures names.sounds (layout (file_of Pictures n)) (layout (file_of Sounds n))
    (first-told world (laid_out (made_file Pictures n names.pictures)) (laid_out (made_file Sounds n names.sounds)) apart)
    (last-told world (laid_out (made_file Pictures n names.pictures) ∷ []) (laid_out (made_file Sounds n names.sounds))))

-- ---- merges

-- The outputs are the outputs of the sources that were found.
made-found : (words : MergeWords) (found : Result (List Source) Refusal) → made_outputs (and_then found (λ sources. Ok (made_of words sources))) ≡ outputs_found words found
made-found words (Ok sources) = refl
made-found words (Err why) = refl

-- A merge that isn't split has one output.
pub both-one : (names : own.Names) (sources : List Source) → IsOneFile names.both (made_of (both_words names) sources)
both-one names sources =
    let words = both_words names in
    let one = whole-part (split_of words sources) (blocks_of words sources) refl refl in
    record {
      file = output_at words sources (1, record { start = 0; end = None; blocks = blocks_of words sources });
      alone = ap (λ (ps : List Part). map (output_at words sources) (enumerate_from 1 ps)) one;
      named = refl;
    }

-- The merged file has its name.
pub both-there : (world : List ℕ → Option (List ℕ)) (n : ℕ) (names : own.Names) (file : PlannedOutput) → file.name ≡ names.both → world_with world (map laid_out (two_files n names ++ file ∷ [])) names.both ≡ Some (layout file.document)
both-there world n names file named =
    ap (world_with world (map laid_out (two_files n names ++ file ∷ []))) (sym named)
    ∙ last-told world (map laid_out (two_files n names)) (laid_out file)

-- The split of the merged file.
pub parts-found : (world : List ℕ → Option (List ℕ)) (n : ℕ) (names : own.Names) (outputs : List PlannedOutput) (file : PlannedOutput) → outputs ≡ file ∷ [] → file.name ≡ names.both
    → sources_alone (world_with world (map laid_out (two_files n names ++ outputs))) (parts_words names) ≡ sources_apart (parts_words names) (map (λ (o : PlannedOutput). layout o.document) outputs)
parts-found world n names outputs file alone named = subst P (sym alone) base
  where
    P : List PlannedOutput → Type 0
    P os = sources_alone (world_with world (map laid_out (two_files n names ++ os))) (parts_words names) ≡ sources_apart (parts_words names) (map (λ (o : PlannedOutput). layout o.document) os)

    base : P (file ∷ [])
    base = alone-is (world_with world (map laid_out (two_files n names ++ file ∷ []))) (parts_words names) (layout file.document ∷ []) refl (one-held (world_with world (map laid_out (two_files n names ++ file ∷ []))) names.both (layout file.document) (both-there world n names file named))

-- ---- files on the way

-- the outputs of the result after the merged file
abbrev parts_behind : own.Names → Result MergeMade Refusal → List PlannedOutput
parts_behind names (Ok both) = made_outputs (merge_of (parts_words names) both.outputs)
parts_behind names (Err why) = []

parts-outputs : (n : ℕ) (names : own.Names) (files : List PlannedOutput) (both : MergeMade) (r : Result MergeMade Refusal) → (with_parts n names files both r).outputs ≡ in_turn (drafts_of ((files ++ both.outputs) ++ made_outputs r))
parts-outputs n names files both (Ok parts) = refl
parts-outputs n names files both (Err why) = ap (λ (os : List PlannedOutput). in_turn (drafts_of os)) (sym (append-nil (files ++ both.outputs)))

both-outputs : (n : ℕ) (names : own.Names) (files : List PlannedOutput) (r : Result MergeMade Refusal) → (with_both n names files r).outputs ≡ in_turn (drafts_of ((files ++ made_outputs r) ++ parts_behind names r))
both-outputs n names files (Ok both) = parts-outputs n names files both (merge_of (parts_words names) both.outputs)
both-outputs n names files (Err why) = ap (λ (os : List PlannedOutput). in_turn (drafts_of os)) (sym (append-nil (files ++ []) ∙ append-nil files))

-- Some first outputs of the result are written.
leaves-first : (before new : Names) (v : WrittenOutputs) (os more : List PlannedOutput) → v ≡ in_turn (drafts_of (os ++ more)) → AreWrittenInOrder before new (drafts_of os) → Leaves before new v
leaves-first before new v os more is stands =
    subst (Leaves before new) (sym is) (subst (AreWrittenInOrder before new) (sym (drafts-append os more)) (in_turn-more before new (drafts_of os) (drafts_of more) stands))

-- The two files are complete, or some first ones are.
pub files-left : (before new : Names) (n : ℕ) (names : own.Names) → AreWrittenInOrder before new (drafts_of (two_files n names)) → Leaves before new (verdict_of n names).outputs
files-left before new n names stands =
    let files = two_files n names in
    let r = merge_of (both_words names) files in
    leaves-first before new (verdict_of n names).outputs files (made_outputs r ++ parts_behind names r)
    (both-outputs n names files r ∙ ap (λ (os : List PlannedOutput). in_turn (drafts_of os)) (append_assoc files (made_outputs r) (parts_behind names r))) stands

-- Some first outputs of the merge are complete, too.
both-left : (before mid new : Names) (n : ℕ) (names : own.Names) → WritesAll before mid (two_files n names) → AreWrittenInOrder mid new (drafts_of (made_outputs (merge_of (both_words names) (two_files n names)))) → Leaves before new (verdict_of n names).outputs
both-left before mid new n names writes stands =
    let files = two_files n names in
    let r = merge_of (both_words names) files in
    leaves-first before new (verdict_of n names).outputs (files ++ made_outputs r) (parts_behind names r) (both-outputs n names files r) (stopped-behind before mid new files (made_outputs r) writes stands)

-- Some first parts are complete, too.
parts-left : (before mid new : Names) (n : ℕ) (names : own.Names) (both : MergeMade) → merge_of (both_words names) (two_files n names) ≡ Ok both → WritesAll before mid (two_files n names ++ both.outputs)
    → AreWrittenInOrder mid new (drafts_of (made_outputs (merge_of (parts_words names) both.outputs))) → Leaves before new (verdict_of n names).outputs
parts-left before mid new n names both is writes stands =
    let files = two_files n names in
    let r = merge_of (parts_words names) both.outputs in
    subst (λ (v : Verdict). Leaves before new v.outputs) (sym (ap (with_both n names files) is))
    (subst (Leaves before new) (sym (parts-outputs n names files both r)) (stopped-behind before mid new (files ++ both.outputs) (made_outputs r) writes stands))

-- ---- the merge of the two files

module _ (mid new : Names) (names : own.Names) (words : MergeWords) (same : words ≡ both_words names) where
  -- Memory ran out.
  pub both-begun : (why : CommandEnd) → new ≡ mid → MakesBoth mid new names (Err why)
  both-begun why still = λ n before world told apart writes.
      both-left before mid new n names writes (subst (λ (now : Names). AreWrittenInOrder mid now (drafts_of (made_outputs (merge_of (both_words names) (two_files n names))))) (sym still) (AreWrittenInOrder-none mid _))

  -- The merge is refused.
  pub both-refused : (why : Refusal) → ((world : List ℕ → Option (List ℕ)) → mid ≡ Some world → Merges mid new words (sources_alone world words) (Ok (merged.Refused why))) → MakesBoth mid new names (Ok (Refused words why))
  both-refused why merges = λ n before world told apart writes.
      let files = two_files n names in
      let now = told-then before mid world files told writes in
      let world' = world_with world (map laid_out files) in
      let P : MergeWords → Type 0 = λ w. Merges mid new w (sources_alone world' w) (Ok (merged.Refused why)) → HasMade before new n (Refused w why) (verdict_of n names) in
      let base : P (both_words names) = λ m.
      let r = ap (λ (f : Result (List Source) Refusal). and_then f (λ sources. Ok (made_of (both_words names) sources))) (sym (both-found world n names apart) ∙ m.0) in
      subst (HasMade before new n (Refused (both_words names) why)) (sym (ap (with_both n names files) r)) (record {
        whole = m.1 ∙ writes.names ∙ sym (ap (with_outputs before) writes.become);
        lines = refl;
        status = refl;
      }) in
      subst P (sym same) base (merges world' now)

  -- The merge is stopped.
  pub both-stopped : (why : CommandEnd) → ((world : List ℕ → Option (List ℕ)) → mid ≡ Some world → Merges mid new words (sources_alone world words) (Err why)) → MakesBoth mid new names (Err why)
  both-stopped why merges = λ n before world told apart writes.
      let files = two_files n names in
      let now = told-then before mid world files told writes in
      let world' = world_with world (map laid_out files) in
      let P : MergeWords → Type 0 = λ w. Merges mid new w (sources_alone world' w) (Err why) → Leaves before new (verdict_of n names).outputs in
      let base : P (both_words names) = λ m.
      let os = ap (outputs_found (both_words names)) (both-found world n names apart) ∙ sym (made-found (both_words names) (sources_apart (both_words names) (map (λ (o : PlannedOutput). layout o.document) files))) in
      both-left before mid new n names writes (subst (λ (o : List PlannedOutput). AreWrittenInOrder mid new (drafts_of o)) os m) in
      subst P (sym same) base (merges world' now)

  -- The merge was done, and then the parts are made.
  pub both-made : (mid' : Names) (s : Summary) (result : Result Outcome CommandEnd) → ((world : List ℕ → Option (List ℕ)) → mid ≡ Some world → Merges mid mid' words (sources_alone world words) (Ok (merged.Written s)))
      → MakesParts mid' new names (record { words = words; summary = s }) result → MakesBoth mid new names result
  both-made mid' s result merges parts = λ n before world told apart writes.
      let files = two_files n names in
      let now = told-then before mid world files told writes in
      let world' = world_with world (map laid_out files) in
      let P : MergeWords → Type 0 = λ w. Merges mid mid' w (sources_alone world' w) (Ok (merged.Written s)) → MakesParts mid' new names (record { words = w; summary = s }) result → Makes before new n names result in
      let base : P (both_words names) = λ m more.
      let r = ap (λ (f : Result (List Source) Refusal). and_then f (λ sources. Ok (made_of (both_words names) sources))) (sym (both-found world n names apart) ∙ m.are) in
      more n before world (made_of (both_words names) m.sources) told r (record { outputs = m.summary.outputs; warned = m.summary.warned; damaged = m.summary.damaged }) (both-one names m.sources)
      (written-behind before mid mid' files (merge_outputs (both_words names) m.sources) writes m.writes) in
      subst P (sym same) base (merges world' now) parts

-- ---- the split of the merged file

module _ (mid new : Names) (names : own.Names) (words : MergeWords) (same : words ≡ parts_words names) (both : Done) where
  -- Memory ran out.
  pub parts-begun : (why : CommandEnd) → new ≡ mid → MakesParts mid new names both (Err why)
  parts-begun why still = λ n before world made told is done one writes.
      parts-left before mid new n names made is writes (subst (λ (now : Names). AreWrittenInOrder mid now (drafts_of (made_outputs (merge_of (parts_words names) made.outputs)))) (sym still) (AreWrittenInOrder-none mid _))

  -- The merge is refused.
  pub parts-refused : (why : Refusal) → ((world : List ℕ → Option (List ℕ)) → mid ≡ Some world → Merges mid new words (sources_alone world words) (Ok (merged.Refused why))) → MakesParts mid new names both (Ok (Refused words why))
  parts-refused why merges = λ n before world made told is done one writes.
      let files = two_files n names in
      let now = told-then before mid world (files ++ made.outputs) told writes in
      let world' = world_with world (map laid_out (files ++ made.outputs)) in
      let P : MergeWords → Type 0 = λ w. Merges mid new w (sources_alone world' w) (Ok (merged.Refused why)) → HasMade before new n (Refused w why) (verdict_of n names) in
      let base : P (parts_words names) = λ m.
      let r = ap (λ (f : Result (List Source) Refusal). and_then f (λ sources. Ok (made_of (parts_words names) sources))) (sym (parts-found world n names made.outputs one.file one.alone one.named) ∙ m.0) in
      let v = ap (with_both n names files) is ∙ ap (with_parts n names files made) r in
      subst (HasMade before new n (Refused (parts_words names) why)) (sym v) (record {
        whole = m.1 ∙ writes.names ∙ sym (ap (with_outputs before) writes.become);
        lines = refl;
        status = refl;
      }) in
      subst P (sym same) base (merges world' now)

  -- The merge is stopped.
  pub parts-stopped : (why : CommandEnd) → ((world : List ℕ → Option (List ℕ)) → mid ≡ Some world → Merges mid new words (sources_alone world words) (Err why)) → MakesParts mid new names both (Err why)
  parts-stopped why merges = λ n before world made told is done one writes.
      let files = two_files n names in
      let now = told-then before mid world (files ++ made.outputs) told writes in
      let world' = world_with world (map laid_out (files ++ made.outputs)) in
      let P : MergeWords → Type 0 = λ w. Merges mid new w (sources_alone world' w) (Err why) → Leaves before new (verdict_of n names).outputs in
      let base : P (parts_words names) = λ m.
      let os = ap (outputs_found (parts_words names)) (parts-found world n names made.outputs one.file one.alone one.named) ∙ sym (made-found (parts_words names) (sources_apart (parts_words names) (map (λ (o : PlannedOutput). layout o.document) made.outputs))) in
      parts-left before mid new n names made is writes (subst (λ (o : List PlannedOutput). AreWrittenInOrder mid new (drafts_of o)) os m) in
      subst P (sym same) base (merges world' now)

  -- The merge was done.
  pub parts-made : (s : Summary) → ((world : List ℕ → Option (List ℕ)) → mid ≡ Some world → Merges mid new words (sources_alone world words) (Ok (merged.Written s))) → MakesParts mid new names both (Ok (Made both (record { words = words; summary = s })))
  parts-made s merges = λ n before world made told is done one writes.
      let files = two_files n names in
      let now = told-then before mid world (files ++ made.outputs) told writes in
      let world' = world_with world (map laid_out (files ++ made.outputs)) in
      let P : MergeWords → Type 0 = λ w. Merges mid new w (sources_alone world' w) (Ok (merged.Written s)) → HasMade before new n (Made both (record { words = w; summary = s })) (verdict_of n names) in
      let base : P (parts_words names) = λ m.
      let r = ap (λ (f : Result (List Source) Refusal). and_then f (λ sources. Ok (made_of (parts_words names) sources))) (sym (parts-found world n names made.outputs one.file one.alone one.named) ∙ m.are) in
      let v = ap (with_both n names files) is ∙ ap (with_parts n names files made) r in
      let all = written-behind before mid new (files ++ made.outputs) (merge_outputs (parts_words names) m.sources) writes m.writes in
      let first = ap first_written done.outputs in
      let many = ap (λ (ws : List Written). length ws) m.summary.outputs ∙ length-map (merge_outputs (parts_words names) m.sources) written_of in
      subst (HasMade before new n (Made both (record { words = parts_words names; summary = s }))) (sym v) (record {
        whole = all.names ∙ sym (ap (with_outputs before) all.become);
        lines = ap₂ (λ (w : Written) (k : ℕ). line_for n w k ∷ made.warned ++ (made_of (parts_words names) m.sources).warned) (sym first) (sym many)
            ∙ ap₂ (λ (xs ys : List (List ℕ)). line_for n (first_written both.summary.outputs) (length s.outputs) ∷ xs ++ ys) (sym done.warned) (sym m.summary.warned);
        status = ap₂ (λ (one two : Bool). warned_if (one || two)) (sym done.damaged) (sym m.summary.damaged);
      }) in
      subst P (sym same) base (merges world' now)
