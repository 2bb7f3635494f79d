-- The targets of joined Tags name Elements that the output has.
use Rattle.std.proofs.Common.{◌≡◌, ◌<◌, ℕ, ◌+◌, ◌^◌, ◌==◌, Bool, true, false, ◌&&◌, if◌then◌else◌, List, [], ◌∷◌, length, map, filter, flat_map, drop, zip, All, Contains, Option, None, Some, IfSome, refl, sym, ap, subst, ◌∙◌, inl, inr, slice_index_or, option_map}
use Rattle.std.specs.Map.{lookup}
use Rattle.std.proofs.lemmas.Bool.{eqb-true, cases_Bool, and_parts}
use Rattle.std.proofs.lemmas.List.Elements.{All-append, All-cons, All-contains_itself, All-drop, All-head, All-nil, All-tail, All-map}
use Rattle.ebml_numbers.specs.Number.{uint_octets}
use Rattle.mkv_schema.specs.declared.ids.TheConstants.{TAG, TAGS, TARGETS, TAG_TRACK_UID, TAG_EDITION_UID, TAG_CHAPTER_UID, TAG_ATTACHMENT_UID}
use Rattle.tree_format.specs.Node.{Node, Nodes, leaf, master, none, node, nodes_of, list_of, id_of, children}
use Rattle.tree_format.specs.NormalForm.{header_octets, is_filler, octets, octets_all}
use Rattle.tree_format.specs.Standing.{placed, placed_all}
use Rattle.tree_format.specs.Values.{integer_of}
use Rattle.tree_format.specs.Children.{given, uint_leaf}
use Rattle.tree_format.proofs.NodeLemmas.{list-nodes}
use Rattle.tree_format.proofs.ValueLemmas.{uint_value-octets}
use Rattle.record_changes.specs.Tags.{aims_in, are_kept, is_target, number_of, targets_in, written_child, written_part, written_tag, written_tags, written_target}
use Rattle.record_changes.specs.declared.uid_map.TagKeep.{TagKeep}
use Rattle.record_laws.specs.Tags.{AreSmall, targets_of}
use Rattle.output_records.specs.declared.inputs.InputRecords.{InputRecords}
use Rattle.output_records.specs.Inputs.{children_in}
use Rattle.output_records.specs.Tags.{all_uids, behind, numbers_for, numbers_of, tags_from, tags_in}
use Rattle.output_records.specs.Tags.{number_of as number_among, uids_of as uids_given}
use Rattle.merge_inputs.specs.Input.{InputRead}
use Rattle.merge_plan.specs.Identifiers.{Have64Bits, Identifiers, identifiers_of}
use Rattle.merge_plan.specs.Order.{in_order}
use Rattle.merge_plan.specs.Records.{Kept, LaneUids, is_begun_by, kept_anywhere, lane_uids, owner_at, records_from, records_in, records_of, track_uids_at, uids_at}
use Rattle.merge_plan.proofs.OrderLemmas.{picked-all}
use Rattle.remerge_laws.specs.Joined.{IsWrittenTag}
use Rattle.remerge_laws.specs.Named.{JoinedTagsNameTheOutput, NamesOneOf, named_by, tags_joined}
use Rattle.record_laws.proofs.TagLemmas.{all-made}

-- ---- Elements after reading

-- Each Element keeps the fact at its place.
list-placed : (P : Node → Type 0) → ((n : Node) (q : ℕ) → P n → P (placed q n)) → (ns : Nodes) (q : ℕ) → All P (list_of ns) → All P (list_of (placed_all q ns))
list-placed P keep none q all = All-nil P
list-placed P keep (node n ns) q all =
    let rest = All-tail P n (list_of ns) all in
    elim (cases_Bool (is_filler (id_of n))) [
      | inl filler ↦ rw filler (list-placed P keep ns q rest)
      | inr kept ↦
          let p : ℕ = q + length (octets n) in
          rw kept (All-cons P (placed q n) (list_of (placed_all p ns)) (keep n q (All-head P n (list_of ns) all)) (list-placed P keep ns p rest))
    ]

-- ---- targets that name one of the identifiers

module _ (ids : Identifiers) where
  abbrev Names : Node → Type 0
  Names n = is_target n ≡ true → NamesOneOf ids n

  abbrev NamesInside : Node → Type 0
  NamesInside p = id_of p ≡ TARGETS → All Names (children p)

  abbrev NamesOfTag : Node → Type 0
  NamesOfTag t = All NamesInside (children t)

  target-placed : (n : Node) (q : ℕ) → Names n → Names (placed q n)
  target-placed (leaf id at body) q names = names
  target-placed (master id at kids) q names = names

  part-placed : (n : Node) (q : ℕ) → NamesInside n → NamesInside (placed q n)
  part-placed (leaf id at body) q names = names
  part-placed (master id at kids) q names = λ is. list-placed Names target-placed kids (q + length (header_octets id (length (octets_all kids)))) (names is)

  tag-placed : (n : Node) (q : ℕ) → NamesOfTag n → NamesOfTag (placed q n)
  tag-placed (leaf id at body) q names = names
  tag-placed (master id at kids) q names = list-placed NamesInside part-placed kids (q + length (header_octets id (length (octets_all kids)))) names

  -- ---- all targets

  filter-names : (ns : List Node) → All Names ns → All (NamesOneOf ids) (filter is_target ns)
  filter-names [] all = All-nil (NamesOneOf ids)
  filter-names (n ∷ ns) all =
      let rest = filter-names ns (All-tail Names n ns all) in
      elim (cases_Bool (is_target n)) [
        | inl is ↦ rw is (All-cons (NamesOneOf ids) n (filter is_target ns) (All-head Names n ns all is) rest)
        | inr is ↦ rw is rest
      ]

  inside-names : (p : Node) → NamesInside p → All (NamesOneOf ids) (targets_in p)
  inside-names p names = elim (cases_Bool (id_of p == TARGETS)) [
    | inl is ↦ rw is (filter-names (children p) (names (eqb-true (id_of p) TARGETS is)))
    | inr is ↦ rw is (All-nil (NamesOneOf ids))
  ]

  flat-all : (P : Node → Type 0) (f : Node → List Node) → ((n : Node) → P n → All (NamesOneOf ids) (f n)) → (ns : List Node) → All P ns → All (NamesOneOf ids) (flat_map f ns)
  flat-all P f each [] all = All-nil (NamesOneOf ids)
  flat-all P f each (n ∷ ns) all = All-append (NamesOneOf ids) (f n) (flat_map f ns) (each n (All-head P n ns all)) (flat-all P f each ns (All-tail P n ns all))

  tags-name : (tags : Node) → All NamesOfTag (children tags) → All (NamesOneOf ids) (targets_of tags)
  tags-name tags all =
      flat-all NamesOfTag (λ (tag : Node). flat_map targets_in (children tag)) (λ tag names. flat-all NamesInside targets_in inside-names (children tag) names) (children tags) all

  -- ---- written Tags

  -- the identifier has 64 bits and is one of the output's
  abbrev Gives : ℕ → ℕ → Type 0
  Gives id v = (v < 2 ^ 64) × Contains (named_by ids id) v

  abbrev GivesAll : (ℕ → ℕ → Option ℕ) → Type 0
  GivesAll numbers = (id uid : ℕ) → IfSome (numbers id uid) (Gives id)

  -- The numbers have 64 bits.
  gives-small : (numbers : ℕ → ℕ → Option ℕ) → GivesAll numbers → AreSmall numbers
  gives-small numbers gives id uid = of (numbers id uid) (gives id uid)
    where
      of : (o : Option ℕ) → IfSome o (Gives id) → IfSome o (λ n. n < 2 ^ 64)
      of None is = tt
      of (Some v) is = is.0

  module _ (numbers : ℕ → ℕ → Option ℕ) (gives : GivesAll numbers) where
    target-names : (n : Node) → All Names (written_target numbers n)
    target-names n = elim (cases_Bool (is_target n)) [
      | inl is ↦ rw is (made (number_of numbers n) (gives (id_of n) (integer_of n)))
      | inr is ↦ rw is (All-cons Names n [] (λ target. absurd (let never : true ≡ false = sym target ∙ is in cc)) (All-nil Names))
    ]
      where
        made : (o : Option ℕ) → IfSome o (Gives (id_of n)) → All Names (given (uint_leaf (id_of n)) o)
        made None is = All-nil Names
        made (Some v) is =
            All-cons Names (uint_leaf (id_of n) v) []
            (λ target. subst (Contains (named_by ids (id_of n))) (sym (uint_value-octets (id_of n) v (uint_octets v) is.0 refl)) is.1) (All-nil Names)

    part-names : (n : Node) → NamesInside (written_part numbers n)
    part-names (leaf id at body) = elim (cases_Bool (id == TARGETS)) [ inl is ↦ rw is (λ same. All-nil Names) | inr is ↦ rw is (λ same. All-nil Names) ]
    part-names (master id at kids) = elim (cases_Bool (id == TARGETS)) [
      | inl is ↦
          let list : List Node = flat_map (written_target numbers) (list_of kids) in
          rw is (λ same. subst (All Names) (sym (list-nodes list)) (all-made Names (written_target numbers) (list_of kids) target-names))
      | inr is ↦ rw is (λ same. absurd (let never : (TARGETS == TARGETS) ≡ false = sym (ap (λ (k : ℕ). k == TARGETS) same) ∙ is in cc))
    ]

    tag-names : (n : Node) → NamesOfTag (written_tag numbers n)
    tag-names (leaf id at body) = All-nil NamesInside
    tag-names (master id at kids) = subst (All NamesInside) (sym (list-nodes (map (written_part numbers) (list_of kids)))) (All-map NamesInside (written_part numbers) (list_of kids) (λ k d less. part-names (slice_index_or (list_of kids) k d)))

  -- `n` is a Tag that was written, and its targets name one of the identifiers.
  record IsNamingTag (n : Node) : Type 0 where
    written : IsWrittenTag n
    names : NamesOfTag n

  module _ (keep : TagKeep) (numbers : ℕ → ℕ → Option ℕ) (gives : GivesAll numbers) where
    child-names : (n : Node) → All IsNamingTag (written_child keep numbers n)
    child-names n = elim (cases_Bool (id_of n == TAG && are_kept keep (aims_in numbers n))) [
      | inl is ↦
          let own : id_of n ≡ TAG = eqb-true (id_of n) TAG (and_parts (id_of n == TAG) (are_kept keep (aims_in numbers n)) is).0 in
          rw is (All-cons IsNamingTag (written_tag numbers n) []
          (record { written = record { numbers = numbers; small = gives-small numbers gives; tag = n; is = own; written = refl }; names = tag-names numbers gives n }) (All-nil IsNamingTag))
      | inr is ↦ rw is (All-nil IsNamingTag)
    ]

    written-names : (tags : Option Node) → All IsNamingTag (children_in (option_map (written_tags keep numbers) tags))
    written-names None = All-nil IsNamingTag
    written-names (Some (leaf id at body)) = All-nil IsNamingTag
    written-names (Some (master id at kids)) =
        subst (All IsNamingTag) (sym (list-nodes (flat_map (written_child keep numbers) (list_of kids)))) (all-made IsNamingTag (written_child keep numbers) (list_of kids) child-names)

  -- ---- inputs

  abbrev AreAmong : List ℕ → List ℕ → Type 0
  AreAmong whole some = All (λ v. (v < 2 ^ 64) × Contains whole v) some

  -- The numbers, or the remaining ones, are among the output's.
  record AreNumbers (editions chapters files : List ℕ) : Type 0 where
    of_editions : AreAmong ids.editions editions
    of_chapters : AreAmong ids.chapters chapters
    of_files : AreAmong ids.files files

  looked-up : (P : ℕ → Type 0) (test : ℕ → Bool) (source numbers : List ℕ) → All P numbers → IfSome (lookup test (zip source numbers)) P
  looked-up P test [] numbers all = tt
  looked-up P test (s ∷ source) [] all = tt
  looked-up P test (s ∷ source) (n ∷ numbers) all =
      let rest = looked-up P test source numbers (All-tail P n numbers all) in
      elim (cases_Bool (test s)) [ inl is ↦ rw is (All-head P n numbers all) | inr is ↦ rw is rest ]

  input-gives : (i : InputRecords) (editions chapters files : List ℕ) → AreAmong ids.tracks i.output_uids → AreNumbers editions chapters files → GivesAll (numbers_for i (all_uids editions chapters files))
  input-gives i editions chapters files own are id uid = split (id == TAG_TRACK_UID) (id == TAG_EDITION_UID) (id == TAG_CHAPTER_UID) (id == TAG_ATTACHMENT_UID)
    where
      split : (a b c d : Bool)
          → IfSome (if a then number_among i.track_uids i.output_uids uid else (if b then number_among (uids_given i).editions editions uid else
          (if c then number_among (uids_given i).chapters chapters uid else (if d then number_among (uids_given i).attachments files uid else None))))
          (λ v. (v < 2 ^ 64) × Contains (if a then ids.tracks else (if b then ids.editions else (if c then ids.chapters else (if d then ids.files else [])))) v)
      split true b c d = looked-up (λ v. (v < 2 ^ 64) × Contains ids.tracks v) (λ k. uid == k) i.track_uids i.output_uids own
      split false true c d = looked-up (λ v. (v < 2 ^ 64) × Contains ids.editions v) (λ k. uid == k) (uids_given i).editions editions are.of_editions
      split false false true d = looked-up (λ v. (v < 2 ^ 64) × Contains ids.chapters v) (λ k. uid == k) (uids_given i).chapters chapters are.of_chapters
      split false false false true = looked-up (λ v. (v < 2 ^ 64) × Contains ids.files v) (λ k. uid == k) (uids_given i).attachments files are.of_files
      split false false false false = tt

  abbrev HasAmong : InputRecords → Type 0
  HasAmong i = AreAmong ids.tracks i.output_uids

  from-names : (editions chapters files : List ℕ) (inputs : List InputRecords) → AreNumbers editions chapters files → All HasAmong inputs → All IsNamingTag (tags_from (all_uids editions chapters files) inputs)
  from-names editions chapters files [] are all = All-nil IsNamingTag
  from-names editions chapters files (i ∷ inputs) are all =
      All-append IsNamingTag (tags_in i (all_uids editions chapters files)) (tags_from (behind (uids_given i) (all_uids editions chapters files)) inputs)
      (written-names i.keep (numbers_for i (all_uids editions chapters files)) (input-gives i editions chapters files (All-head HasAmong i inputs all) are) i.tags)
      (from-names (drop (length (uids_given i).editions) editions) (drop (length (uids_given i).chapters) chapters) (drop (length (uids_given i).attachments) files) inputs
      (record {
        of_editions = All-drop (λ v. (v < 2 ^ 64) × Contains ids.editions v) (length (uids_given i).editions) editions are.of_editions;
        of_chapters = All-drop (λ v. (v < 2 ^ 64) × Contains ids.chapters v) (length (uids_given i).chapters) chapters are.of_chapters;
        of_files = All-drop (λ v. (v < 2 ^ 64) × Contains ids.files v) (length (uids_given i).attachments) files are.of_files;
      })
      (All-tail HasAmong i inputs all))

  -- The numbers of an input's tracks are among the output's.
  records-among : (lanes : LaneUids) (before number : ℕ) (ks : List Kept) → AreAmong ids.tracks lanes.uids → All HasAmong (records_from lanes before number ks)
  records-among lanes before number [] among = All-nil HasAmong
  records-among lanes before number (k ∷ ks) among =
      let owner : ℕ = owner_at before number k.1 in
      All-cons HasAmong (records_in (track_uids_at lanes owner k.1) (uids_at lanes owner) k) (records_from lanes owner (number + 1) ks)
      (picked-all (λ v. (v < 2 ^ 64) × Contains ids.tracks v) (is_begun_by owner) (in_order lanes.order lanes.keys lanes.keys) lanes.uids among)
      (records-among lanes owner (number + 1) ks among)

-- Identifiers of 64 bits are among themselves.
among-itself : (ids : List ℕ) → All (λ v. v < 2 ^ 64) ids → All (λ v. (v < 2 ^ 64) × Contains ids v) ids
among-itself ids small = λ k d below. (small k d below, All-contains_itself ids k d below)

-- The numbers of an input with these identifiers have 64 bits.
pub own-small : (ids : Identifiers) (i : InputRecords) → Have64Bits ids → i.output_uids ≡ ids.tracks → AreSmall (numbers_for i (all_uids ids.editions ids.chapters ids.files))
own-small ids i short own =
    gives-small ids (numbers_for i (all_uids ids.editions ids.chapters ids.files))
    (input-gives ids i ids.editions ids.chapters ids.files (subst (All (λ v. (v < 2 ^ 64) × Contains ids.tracks v)) (sym own) (among-itself ids.tracks short.tracks))
    (record { of_editions = among-itself ids.editions short.editions; of_chapters = among-itself ids.chapters short.chapters; of_files = among-itself ids.files short.files }))

joined-names : (order : List (ℕ × ℕ)) (reads : List InputRead) → Have64Bits (identifiers_of order reads) → All (IsNamingTag (identifiers_of order reads)) (tags_from (numbers_of (records_of order reads)) (records_of order reads))
joined-names order reads short =
    let ids : Identifiers = identifiers_of order reads in
    from-names ids ids.editions ids.chapters ids.files (records_of order reads)
    (record { of_editions = among-itself ids.editions short.editions; of_chapters = among-itself ids.chapters short.chapters; of_files = among-itself ids.files short.files })
    (records-among ids (lane_uids order reads) 0 0 (map kept_anywhere reads) (among-itself ids.tracks short.tracks))

pub joined-named : JoinedTagsNameTheOutput
joined-named = record {
  written = λ order reads short k d below. (joined-names order reads short k d below).written;
  named = λ order reads place short.
      let ids : Identifiers = identifiers_of order reads in
      let tags : List Node = tags_from (numbers_of (records_of order reads)) (records_of order reads) in
      let each : All (NamesOfTag ids) tags = λ k d below. (joined-names order reads short k d below).names in
      tags-name ids (placed place (tags_joined order reads))
      (list-placed (NamesOfTag ids) (tag-placed ids) (nodes_of tags) (place + length (header_octets TAGS (length (octets_all (nodes_of tags)))))
      (subst (All (NamesOfTag ids)) (sym (list-nodes tags)) each));
}
