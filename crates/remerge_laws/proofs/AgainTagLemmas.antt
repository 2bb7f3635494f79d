-- The Tags of an output are merged again as they were.
use Rattle.std.proofs.Common.{◌≡◌, ◌≤◌, ◌<◌, ℕ, ◌+◌, ◌==◌, nat_eq, Bool, true, false, if◌then◌else◌, List, [], ◌∷◌, ◌++◌, length, map, flat_map, zip, All, Contains, Option, None, Some, inl, inr, refl, sym, ap, ap₂, subst, ◌∙◌, append-nil, length-append, arith, zero, suc, is_some}
use Rattle.std.specs.Map.{lookup}
use Rattle.std.specs.Option.{option_map}
use Rattle.std.proofs.lemmas.Bool.{eqb-false, eqb-true, cases_Bool}
use Rattle.std.proofs.lemmas.List.Elements.{All-head, All-weaker, Contains-append_cases}
use Rattle.mkv_schema.specs.declared.ids.TheConstants.{CHAPTERS, TAG, TAGS, TAG_TRACK_UID, TAG_EDITION_UID, TAG_CHAPTER_UID, TAG_ATTACHMENT_UID}
use Rattle.tree_format.specs.Node.{Node, leaf, master, nodes_of, list_of, id_of, children}
use Rattle.tree_format.specs.NormalForm.{content, is_filler, octets, octets_all}
use Rattle.tree_format.specs.Standing.{placed}
use Rattle.tree_format.specs.Values.{integer_of}
use Rattle.ebml_numbers.specs.Number.{uint_width}
use Rattle.ebml_numbers.proofs.WidthLemmas.{uint_width-IsLeast}
use Rattle.tree_format.proofs.WrittenLemmas.{length-kept_octets, octets-kept}
use Rattle.tree_format.proofs.NodeLemmas.{list-nodes}
use Rattle.meta_records.specs.Attached.{AttachedFile}
use Rattle.record_changes.specs.Atoms.{chapter_uids, edition_uids}
use Rattle.record_changes.specs.Identifiers.{renumbered}
use Rattle.record_changes.specs.Tags.{written_child, written_tag, written_tags}
use Rattle.record_changes.proofs.GivenLemmas.{numbers-settle}
use Rattle.record_laws.specs.Tags.{KeepsTarget, TagsStay, keep_all, targets_of}
use Rattle.record_changes.specs.declared.uid_map.TagKeep.{TagKeep}
use Rattle.output_records.specs.declared.inputs.InputRecords.{InputRecords}
use Rattle.output_records.specs.Attachments.{file_numbers, file_uids, files_of}
use Rattle.output_records.specs.Chapters.{chapter_numbers, edition_numbers, joined_chapters, later}
use Rattle.output_records.specs.Inputs.{children_in, uids_in, unless_empty, with_some}
use Rattle.output_records.specs.Tags.{all_uids, joined_tags, merged_tags, numbers_for, numbers_of, tags_from}
use Rattle.output_records.specs.Tags.{number_of as number_among, uids_of as uids_given}
use Rattle.merge_inputs.specs.Input.{InputRead}
use Rattle.merge_inputs.specs.declared.taken.TakenTrack.{TakenTrack}
use Rattle.merge_plan.specs.Identifiers.{Have64Bits, Identifiers, identifiers_of}
use Rattle.merge_plan.specs.Order.{picked}
use Rattle.merge_plan.specs.Records.{anywhere, is_begun_by, key_of, records_of, tags_of, tracks_ordered, uids_of}
use Rattle.merge_plan.proofs.RecordLemmas.{length-uids}
use Rattle.remerge_laws.specs.Again.{HasIdentifiersOf, TagsAreAlikeAgain}
use Rattle.remerge_laws.specs.Alike.{MayBeAlike}
use Rattle.remerge_laws.specs.Joined.{IsWrittenTag}
use Rattle.remerge_laws.specs.Named.{NamesOneOf, tags_joined}
use Rattle.remerge_laws.specs.Placed.{MayStandAs, StandsAs}
use Rattle.remerge_laws.proofs.ContentLemmas.{same-body}
use Rattle.remerge_laws.proofs.JoinedLemmas.{joined-stay}
use Rattle.remerge_laws.proofs.NamedLemmas.{joined-named}
use Rattle.remerge_laws.proofs.StandLemmas.{children-decide}

-- ---- a list paired with itself

itself-there : (xs : List ℕ) (v : ℕ) → Contains xs v → lookup (nat_eq v) (zip xs xs) ≡ Some v
itself-there [] v among = absurd (omega (arith, among.1))
itself-there (x ∷ xs) v among = elim (cases_Bool (nat_eq v x)) [
  | inl is ↦ rw is (ap (λ (k : ℕ). Some k) (sym (eqb-true v x is)))
  | inr is ↦ elim (Contains-append_cases (x ∷ []) xs v among) [
    | inl first ↦ absurd (eqb-false v x is (sym (only first)))
    | inr rest ↦ rw is (itself-there xs v rest)
  ]
]
  where
    only : Contains (x ∷ []) v → x ≡ v
    only (zero, below, at) = at
    only (suc k, below, at) = absurd (omega (arith, below))

-- ---- an input with the identifiers of a merge

module _ (order : List (ℕ × ℕ)) (reads : List InputRead) (again : InputRead) (has : HasIdentifiersOf order reads again) where
  abbrev own : Identifiers
  own = identifiers_of order reads

  abbrev pub one : InputRecords
  one = record {
    track_uids = map (λ (t : TakenTrack). t.track.uid) again.taken;
    output_uids = own.tracks;
    attachments = map anywhere again.attachments;
    chapters = again.chapters;
    shift = None;
    tags = again.tags;
    keep = keep_all;
  }

  -- Settled identifiers stay.
  stays : (ids : List ℕ) → renumbered (renumbered ids) ≡ renumbered ids
  stays ids = numbers-settle.stays (renumbered ids) (numbers-settle.settled ids)

  read-editions : (c : Option Node) → edition_uids (master CHAPTERS 0 (nodes_of (children_in (option_map (later None) c) ++ []))) ≡ uids_in edition_uids c
  read-editions None = refl
  read-editions (Some n) = ap (λ (ns : List Node). edition_uids (master CHAPTERS 0 (nodes_of ns))) (append-nil (children n)) ∙ children-decide.editions n

  read-chapters : (c : Option Node) → chapter_uids (master CHAPTERS 0 (nodes_of (children_in (option_map (later None) c) ++ []))) ≡ uids_in chapter_uids c
  read-chapters None = refl
  read-chapters (Some n) = ap (λ (ns : List Node). chapter_uids (master CHAPTERS 0 (nodes_of ns))) (append-nil (children n)) ∙ children-decide.chapters n

  read-files : (files : List AttachedFile) → file_uids (map anywhere files) ≡ map (λ (a : AttachedFile). a.uid) files
  read-files [] = refl
  read-files (a ∷ files) = ap (λ (uids : List ℕ). a.uid ∷ uids) (read-files files)

  -- Its tracks, editions, chapters and files get their own identifiers.
  pub own-editions : edition_numbers (one ∷ []) ≡ own.editions
  own-editions = ap renumbered (read-editions again.chapters ∙ has.editions) ∙ stays (edition_uids (joined_chapters (records_of order reads)))

  pub own-chapters : chapter_numbers (one ∷ []) ≡ own.chapters
  own-chapters = ap renumbered (read-chapters again.chapters ∙ has.chapters) ∙ stays (chapter_uids (joined_chapters (records_of order reads)))

  own-files : file_numbers (one ∷ []) ≡ own.files
  own-files =
      ap renumbered (ap file_uids (append-nil (map anywhere again.attachments)) ∙ read-files again.attachments ∙ has.files) ∙ stays (file_uids (files_of (records_of order reads)))

  -- The input begins all output tracks.
  all-picked : (taken : List TakenTrack) (uids : List ℕ) → length uids ≡ length taken → picked (is_begun_by 0) (map (key_of 0) taken ++ []) uids ≡ uids
  all-picked [] [] many = refl
  all-picked [] (u ∷ uids) many = absurd (omega arith)
  all-picked (t ∷ taken) [] many = refl
  all-picked (t ∷ taken) (u ∷ uids) many = ap (λ (l : List ℕ). u ∷ l) (all-picked taken uids (omega arith))

  own-tracks : picked (is_begun_by 0) (map (key_of 0) again.taken ++ []) (uids_of (again.taken ++ [])) ≡ own.tracks
  own-tracks =
      let taken : List TakenTrack = again.taken in
      all-picked taken (uids_of (taken ++ [])) (length-uids (taken ++ []) ∙ ap length (append-nil taken))
      ∙ ap renumbered (ap (map (λ (t : TakenTrack). t.track.uid)) (append-nil taken) ∙ has.tracks)
      ∙ stays (map (λ (t : TakenTrack). t.track.uid) (tracks_ordered order reads))

  -- the records of the input, by its append offset
  abbrev given_at : Option ℕ → TagKeep → List InputRecords
  given_at shift keep =
      let taken : List TakenTrack = if is_some shift then [] else again.taken in
      let numbers : List ℕ = picked (is_begun_by (if is_some shift then 0 else 0)) (map (key_of 0) taken ++ []) (uids_of (taken ++ [])) in
      record {
        track_uids = map (λ (t : TakenTrack). t.track.uid) again.taken;
        output_uids = numbers;
        attachments = map anywhere again.attachments;
        chapters = again.chapters;
        shift = shift;
        tags = again.tags;
        keep = keep;
      } ∷ []

  abbrev numbered_by : List ℕ → List InputRecords
  numbered_by numbers = record one { output_uids = numbers } ∷ []

  pub given-one : records_of [] (again ∷ []) ≡ one ∷ []
  given-one = ap₂ given_at has.alone has.keep ∙ ap numbered_by own-tracks

  abbrev pub again_numbers : ℕ → ℕ → Option ℕ
  again_numbers = numbers_for one (all_uids own.editions own.chapters own.files)

  -- The targets keep their identifiers.
  target-keeps : (target : Node) → NamesOneOf own target → KeepsTarget again_numbers target
  target-keeps target = split (id_of target == TAG_TRACK_UID) (id_of target == TAG_EDITION_UID) (id_of target == TAG_CHAPTER_UID) (id_of target == TAG_ATTACHMENT_UID)
    where
      uid : ℕ
      uid = integer_of target

      at : (source ids : List ℕ) → source ≡ ids → Contains ids uid → number_among source ids uid ≡ Some uid
      at source ids same among = ap (λ (l : List ℕ). lookup (nat_eq uid) (zip l ids)) same ∙ itself-there ids uid among

      split : (a b c d : Bool)
          → Contains (if a then own.tracks else (if b then own.editions else (if c then own.chapters else (if d then own.files else [])))) uid
          → (if a then number_among one.track_uids own.tracks uid else (if b then number_among (uids_given one).editions own.editions uid else
          (if c then number_among (uids_given one).chapters own.chapters uid else (if d then number_among (uids_given one).attachments own.files uid else None))))
          ≡ Some uid
      split true b c d among = at one.track_uids own.tracks has.tracks among
      split false true c d among = at (uids_given one).editions own.editions has.editions among
      split false false true d among = at (uids_given one).chapters own.chapters has.chapters among
      split false false false true among = at (uids_given one).attachments own.files (read-files again.attachments ∙ has.files) among
      split false false false false among = absurd (omega (arith, among.1))

  -- ---- the Tags

  -- the written Tags, if the input has any
  abbrev pub written_again : Option Node → List Node
  written_again tags = children_in (option_map (written_tags keep_all again_numbers) tags) ++ []

  pub tags-made : tags_of [] (again ∷ []) ≡ with_some (master TAGS 0 (nodes_of (written_again again.tags)))
  tags-made =
      ap merged_tags given-one
      ∙ ap (λ (editions : List ℕ). with_some (joined_tags (all_uids editions (chapter_numbers (one ∷ [])) (file_numbers (one ∷ []))) (one ∷ []))) own-editions
      ∙ ap₂ (λ (chapters files : List ℕ). with_some (joined_tags (all_uids own.editions chapters files) (one ∷ []))) own-chapters own-files

  module _ (stay : TagsStay) (short : Have64Bits own) where
    abbrev first : List Node
    first = tags_from (numbers_of (records_of order reads)) (records_of order reads)

    first-written : All IsWrittenTag first
    first-written = joined-named.written order reads short

    kept-at : (place : ℕ) → octets (written_tags keep_all again_numbers (placed place (tags_joined order reads))) ≡ octets (tags_joined order reads)
    kept-at place =
        joined-stay stay again_numbers first place first-written
        (All-weaker (NamesOneOf own) (KeepsTarget again_numbers) target-keeps (targets_of (placed place (tags_joined order reads))) (joined-named.named order reads place short))

    -- A Tag has at least one byte.
    some-octets : (k : Node) → IsWrittenTag k → 0 < length (octets k)
    some-octets k is =
        let own_id : id_of k ≡ TAG = ap id_of is.written ∙ written-id is.numbers is.tag ∙ is.is in
        let keeps : is_filler (id_of k) ≡ false = ap is_filler own_id in
        let long = ap length (octets-kept k) ∙ length-kept_octets (id_of k) (content k) (length (content k)) refl keeps in
        let least = uint_width-IsLeast TAG (omega arith) in
        let some : 1 ≤ uint_width (id_of k) = subst (λ (i : ℕ). 1 ≤ uint_width i) (sym own_id) least.some in
        omega (arith, long, some)
      where
        written-id : (numbers : ℕ → ℕ → Option ℕ) (n : Node) → id_of (written_tag numbers n) ≡ id_of n
        written-id numbers (leaf id at body) = refl
        written-id numbers (master id at kids) = refl

    -- If Tags are written alike, both have only Tags.
    both : (tags list : List Node) → All IsWrittenTag tags → octets (master TAGS 0 (nodes_of list)) ≡ octets (master TAGS 0 (nodes_of tags)) → list ≡ [] → tags ≡ []
    both [] list are same empty = refl
    both (k ∷ ks) list are same empty =
        let bodies : [] ≡ octets k ++ octets_all (nodes_of ks) =
        same-body TAGS [] (octets k ++ octets_all (nodes_of ks)) refl (omega arith) (ap (λ (l : List Node). octets (master TAGS 0 (nodes_of l))) (sym empty) ∙ same) in
        let some = some-octets k (All-head IsWrittenTag k ks are) in
        let long : 0 ≡ length (octets k) + length (octets_all (nodes_of ks)) = ap length bodies ∙ length-append (octets k) (octets_all (nodes_of ks)) in
        absurd (omega (arith, long, some))

    alike-tags : (t : Node) → StandsAs (tags_joined order reads) t → (first ≡ [] → ⊥) → MayBeAlike (Some (tags_joined order reads)) (with_some (master TAGS 0 (nodes_of (written_again (Some t)))))
    alike-tags t stands some =
        let tree : Node = placed stands.0 (tags_joined order reads) in
        let list : List Node = flat_map (written_child keep_all again_numbers) (children tree) in
        let is : written_again (Some t) ≡ list = ap (λ (n : Node). children (written_tags keep_all again_numbers n) ++ []) stands.1 ∙ append-nil (list_of (nodes_of list)) ∙ list-nodes list in
        let same : octets (master TAGS 0 (nodes_of list)) ≡ octets (tags_joined order reads) = kept-at stands.0 in
        subst (λ (l : List Node). MayBeAlike (Some (tags_joined order reads)) (with_some (master TAGS 0 (nodes_of l)))) (sym is)
        (subst (λ (l : List Node). MayBeAlike (Some (tags_joined order reads)) (unless_empty (master TAGS 0 (nodes_of list)) l)) (sym (list-nodes list)) (of list refl same))
      where
        of : (l : List Node) → l ≡ flat_map (written_child keep_all again_numbers) (children (placed stands.0 (tags_joined order reads))) → octets (master TAGS 0 (nodes_of l)) ≡ octets (tags_joined order reads)
            → MayBeAlike (Some (tags_joined order reads)) (unless_empty (master TAGS 0 (nodes_of l)) l)
        of [] is same = absurd (some (both first [] first-written same refl))
        of (m ∷ ms) is same = record { id = refl; some = refl; same = sym same }

    by-first : (ns : List Node) → ns ≡ first → (o : Option Node) → MayStandAs (unless_empty (tags_joined order reads) ns) o
        → MayBeAlike (unless_empty (tags_joined order reads) ns) (with_some (master TAGS 0 (nodes_of (written_again o))))
    by-first [] is None stands = tt
    by-first [] is (Some t) stands = absurd stands
    by-first (n ∷ ns) is None stands = absurd stands
    by-first (n ∷ ns) is (Some t) stands = alike-tags t stands (λ empty. let never : n ∷ ns ≡ [] = is ∙ empty in absurd (cc))

    tags-are : MayStandAs (tags_of order reads) again.tags → MayBeAlike (tags_of order reads) (tags_of [] (again ∷ []))
    tags-are stands =
        let is : list_of (nodes_of first) ≡ first = list-nodes first in
        subst (MayBeAlike (tags_of order reads)) (sym tags-made) (by-first (list_of (nodes_of first)) is again.tags stands)

pub tags-again : TagsStay → TagsAreAlikeAgain
tags-again stay order reads again short has stands = tags-are order reads again has stay short stands
