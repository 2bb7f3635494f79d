-- The document of a merge that isn't split.
use Rattle.std.proofs.Common.{◌≡◌, ◌≤◌, ℕ, zero, suc, nat_lt, Bool, true, false, ◌||◌, if◌then◌else◌, List, [], ◌∷◌, ◌++◌, length, map, Option, None, Some, IfSome, is_some, refl, ap, ◌∙◌, arith}
use Rattle.std.specs.List.{enumerate_from}
use Rattle.std.specs.Option.{option_map, option_or}
use Rattle.std.proofs.lemmas.Bool.Decides.{nat_tests}
use Rattle.mkv_schema.specs.declared.ids.TheConstants.{INFO, CHAPTERS, TAGS, TIMESTAMP_SCALE, MUXING_APP, WRITING_APP, TRACKS}
use Rattle.mkv_schema.specs.declared.limits.TheConstants.{MAX_MASTER_LEN}
use Rattle.tree_format.specs.declared.limits.TheConstants.{MAX_NODES}
use Rattle.tree_format.specs.Children.{uint_leaf}
use Rattle.tree_format.specs.Node.{Node, leaf, master, nodes_of}
use Rattle.tree_format.specs.NormalForm.{content}
use Rattle.tree_format.specs.Standing.{kept}
use Rattle.tree_format.proofs.NodeLemmas.{list-nodes}
use Rattle.output_model.specs.Cued.{document_of}
use Rattle.splitter.specs.Sections.{Part}
use Rattle.splitter.specs.Words.{size_of, spec_of}
use Rattle.splitter.proofs.SectionLemmas.{whole-part}
use Rattle.remux_plan.specs.Parts.{PlannedOutput, name_of, stretch_of}
use Rattle.remux_plan.specs.Parts.{chapters_of as chapters_within}
use Rattle.remux_plan.specs.Uuids.{uuids_at, with_uuids}
use Rattle.requests.specs.declared.split.SplitWords.{SplitWords}
use Rattle.requests.specs.declared.merge.MergeWords.{MergeWords}
use Rattle.merge_inputs.specs.Input.{InputRead}
use Rattle.output_records.specs.Info.{application, output_info, title_elements}
use Rattle.output_records.specs.Limits.{first_too_large, too_large}
use Rattle.merge_plan.specs.Front.{attachments_of, front_of, reads_of}
use Rattle.merge_plan.specs.Plan.{Source, limits_of, rules_given, starts_in}
use Rattle.merge_plan.specs.Records.{chapters_of, tags_of, title_of, tracks_of_output, tracks_ordered, tracks_taken}
use Rattle.merge_plan.specs.Refusal.{lanes_refusal, plan_refusal, records_refusal}
use Rattle.merge_plan.specs.declared.refusal.PlanRefusal.TheVariants.{HeaderTooLarge}
use Rattle.output_model.specs.Document.{info_told}
use Rattle.mkv_merge.specs.Merge.{blocks_of, output_at, parts_of, split_of}
use Rattle.remerge_laws.specs.Outline.{KeepsReaderLimits}
use Rattle.remerge_laws.specs.Whole.{WholeMergesHaveSmallRecords, WholeMergesHaveOneDocument, whole_document}

-- ---- one output

-- the part from the start without an end
abbrev whole_of : MergeWords → List Source → Part
whole_of words sources = record { start = 0; end = None; blocks = blocks_of words sources }

one-part : (words : MergeWords) (sources : List Source) → words.split ≡ None → parts_of words sources ≡ whole_of words sources ∷ []
one-part words sources whole =
    whole-part (split_of words sources) (blocks_of words sources) (ap (λ (o : Option SplitWords). spec_of o (starts_in (chapters_of (reads_of sources)))) whole) (ap size_of whole)

-- An Info without identifiers is unchanged.
own-info : (link : Bool) (scale : ℕ) (title : List ℕ) → with_uuids (uuids_at [] link 1) (output_info scale title) ≡ output_info scale title
unfolding with_uuids
own-info true scale title =
    ap (λ (ns : List Node). master INFO 0 (nodes_of (uint_leaf TIMESTAMP_SCALE scale ∷ ns)))
    (list-nodes (title_elements title ++ (leaf MUXING_APP 0 application ∷ leaf WRITING_APP 0 application ∷ [])))
own-info false scale title =
    ap (λ (ns : List Node). master INFO 0 (nodes_of (uint_leaf TIMESTAMP_SCALE scale ∷ ns)))
    (list-nodes (title_elements title ++ (leaf MUXING_APP 0 application ∷ leaf WRITING_APP 0 application ∷ [])))

-- the output of a part, by whether it is split and its Info
abbrev output_with : MergeWords → List Source → Bool → Node → PlannedOutput
output_with words sources split info = record {
  name = name_of split words.output 1;
  blocks = blocks_of words sources;
  document =
      document_of (limits_of words) (rules_given words.order (reads_of sources)) (record (front_of words sources) { info = info; attachments = attachments_of sources })
      (chapters_within split (chapters_of (reads_of sources)) (stretch_of words.scale 0 None)) (tags_of words.order (reads_of sources)) (blocks_of words sources);
}

pub one-document : WholeMergesHaveOneDocument
one-document words sources whole plain =
    let info : Node = output_info words.scale (title_of words (reads_of sources)) in
    ap (λ (ps : List Part). map (output_at words sources) (enumerate_from 1 ps)) (one-part words sources whole)
    ∙ ap (λ (o : Option SplitWords). output_with words sources (is_some o) (with_uuids (uuids_at words.uuids words.link 1) info) ∷ []) whole
    ∙ ap (λ (n : Node). output_with words sources false n ∷ []) (ap (λ (us : List ℕ). with_uuids (uuids_at us words.link 1) info) plain ∙ own-info words.link words.scale (title_of words (reads_of sources)))

-- ---- its records

-- If neither value is present, the first one is absent; below, the second one is absent.
pub first-none : {A : Type 0} → (a b : Option A) → option_or a b ≡ None → a ≡ None
first-none None b none = refl
first-none (Some x) b none = none

pub second-none : {A : Type 0} → (a b : Option A) → option_or a b ≡ None → b ≡ None
second-none None b none = none
second-none (Some x) b none = absurd (cc)

none-made : {A B : Type 0} → (f : A → B) (o : Option A) → option_map f o ≡ None → o ≡ None
none-made f None none = refl
none-made f (Some x) none = absurd (cc)

not-large : (id : ℕ) (n : Node) → too_large id (Some n) ≡ None → KeepsReaderLimits n
not-large id n none = of (nat_lt MAX_MASTER_LEN (length (content n))) (nat_lt MAX_NODES (kept n)) refl refl none
  where
    of : (a b : Bool) → nat_lt MAX_MASTER_LEN (length (content n)) ≡ a → nat_lt MAX_NODES (kept n) ≡ b → (if a || b then Some id else None) ≡ None → KeepsReaderLimits n
    of true b long many never = absurd (cc)
    of false true long many never = absurd (cc)
    of false false long many never = record { short = grind (arith, nat_tests); few = grind (arith, nat_tests) }

none-large : (id : ℕ) (o : Option Node) → too_large id o ≡ None → IfSome o KeepsReaderLimits
none-large id None none = tt
none-large id (Some n) none = not-large id n none

-- An Info has a few Elements, also with a Duration.
few-info : (scale : ℕ) (title : List ℕ) (lasting : Option ℕ) → kept (info_told (output_info scale title) lasting) ≤ MAX_NODES
few-info scale [] None = omega arith
few-info scale [] (Some zero) = omega arith
few-info scale [] (Some (suc n)) = omega arith
few-info scale (octet ∷ octets) None = omega arith
few-info scale (octet ∷ octets) (Some zero) = omega arith
few-info scale (octet ∷ octets) (Some (suc n)) = omega arith

module _ (words : MergeWords) (reads : List InputRead) (unrefused : plan_refusal words reads ≡ None) where
  none-too-large : first_too_large (tracks_of_output words.order reads) (chapters_of reads) (tags_of words.order reads) ≡ None
  none-too-large =
      none-made HeaderTooLarge (first_too_large (tracks_of_output words.order reads) (chapters_of reads) (tags_of words.order reads))
      (second-none (lanes_refusal words.webm (tracks_taken reads) (tracks_ordered words.order reads)) (records_refusal words.order reads) unrefused)

  large-behind : option_or (too_large CHAPTERS (chapters_of reads)) (too_large TAGS (tags_of words.order reads)) ≡ None
  large-behind = second-none (too_large TRACKS (Some (tracks_of_output words.order reads))) (option_or (too_large CHAPTERS (chapters_of reads)) (too_large TAGS (tags_of words.order reads))) none-too-large

pub whole-planned : WholeMergesHaveSmallRecords
whole-planned words sources unrefused =
    let reads : List InputRead = reads_of sources in
    record {
      lasting = refl;
      info = few-info words.scale (title_of words reads) (whole_document words sources).front.lasting;
      tracks = not-large TRACKS (tracks_of_output words.order reads) (first-none (too_large TRACKS (Some (tracks_of_output words.order reads))) (option_or (too_large CHAPTERS (chapters_of reads)) (too_large TAGS (tags_of words.order reads))) (none-too-large words reads unrefused));
      chapters = none-large CHAPTERS (chapters_of reads) (first-none (too_large CHAPTERS (chapters_of reads)) (too_large TAGS (tags_of words.order reads)) (large-behind words reads unrefused));
      tags = none-large TAGS (tags_of words.order reads) (second-none (too_large CHAPTERS (chapters_of reads)) (too_large TAGS (tags_of words.order reads)) (large-behind words reads unrefused));
    }
