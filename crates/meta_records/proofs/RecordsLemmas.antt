-- The first elements of a file with an outline, and values from them.
use Rattle.std.proofs.Common.{◌≡◌, ℕ, zero, suc, ◌+◌, ◌<◌, ◌≤◌, ◌==◌, nat_lt, Bool, true, false, ◌&&◌, ◌||◌, if◌then◌else◌, List, [], ◌∷◌, ◌++◌, length, get_or, map, Option, Some, None, Result, Ok, Err, refl, sym, ◌∙◌, ap, subst, arith}
use Rattle.std.specs.List.{All}
use Rattle.std.specs.Option.{option_map_or}
use Rattle.std.proofs.lemmas.Bool.{cond-false}
use Rattle.std.proofs.lemmas.Bool.Decides.{nat_tests}
use Rattle.mkv_schema.specs.Schema.{entry_of}
use Rattle.mkv_schema.specs.Table.{table}
use Rattle.mkv_schema.specs.declared.ids.TheConstants.{CHAPTERS, CLUSTER, INFO, TAGS, TRACKS}
use Rattle.mkv_io.specs.declared.damage.Damage.{Damage}
use Rattle.mkv_io.specs.declared.damage.Kind.TheVariants.{HeaderTooLarge}
use Rattle.mkv_schema.specs.declared.element.Header.{Header}
use Rattle.mkv_schema.specs.Element.{damage, known}
use Rattle.mkv_schema.specs.declared.limits.TheConstants.{MAX_MASTERS_LEN, MAX_MASTER_LEN}
use Rattle.mkv_schema.specs.Outline.{described, first_damage, first_refusal, is_described, limits_from, over, passes_count, passes_size, segment_run, where_it}
use Rattle.mkv_io.specs.Results.{and_then, unless}
use Rattle.mkv_schema.specs.Value.{body_of, first_of}
use Rattle.tree_format.specs.declared.limits.TheConstants.{MAX_NODES}
use Rattle.tree_format.specs.Node.{HasRoom, Node}
use Rattle.tree_format.specs.Reading.{tree_of}
use Rattle.element_reader.specs.Collected.{others_of}
use Rattle.element_reader.specs.Load.{limit_of, too_large}
use Rattle.element_reader.specs.Outline.{FileOutline, first_in, outline_in}
use Rattle.element_reader.proofs.OutlineLemmas.{Outlines, Outlines-shown, first_in-others, outline_of-limits}
use Rattle.mkv_schema.proofs.OutlineLemmas.{and_then-ok, unless-ok}
use Rattle.file_format.specs.Info.{file_scale, first_info, info_refusal, info_tree, scale_at, scale_in, scale_of}
use Rattle.file_format.specs.Entry.{entries_of}
use Rattle.file_format.specs.Refusal.{refusal_of}
use Rattle.file_format.specs.Tracks.{AreTracks, IsTrack}
use Rattle.track_records.specs.Sound.{IsEntry}
use Rattle.track_records.specs.Track.{track_of, tracks_of}
use Rattle.track_records.specs.declared.track.Track.{Track}
use Rattle.meta_records.specs.Attached.{first_attached}
use Rattle.meta_records.specs.Records.{AreRead, FileRecords, IsHeld, file_records, first_tree, good_info, good_tracks, scale_of_info, tree_at}

-- Info, Tracks, Chapters and Tags are read whole.
pub record AreHeld : Type 0 where
  pub info : IsHeld INFO
  pub tracks : IsHeld TRACKS
  pub chapters : IsHeld CHAPTERS
  pub tags : IsHeld TAGS

pub held : AreHeld
unfolding entry_of table
held = record {
  info = record { master = refl; described = refl; limit = refl; other = refl };
  tracks = record { master = refl; described = refl; limit = refl; other = refl };
  chapters = record { master = refl; described = refl; limit = refl; other = refl };
  tags = record { master = refl; described = refl; limit = refl; other = refl };
}

-- ---- an element in an outline is small enough to be read

-- Without a refusal the first cause doesn't apply.
no_first : (a b : Option Damage) → first_refusal a b ≡ None → a ≡ None
no_first None b none = refl
no_first (Some d) b none = absurd (cc)

no_second : (a b : Option Damage) → first_refusal a b ≡ None → b ≡ None
no_second None b none = none
no_second (Some d) b none = absurd (cc)

-- A test that refuses nothing is false.
test_fails : (test more : Bool) (d e : Damage) → first_damage (where_it test d ∷ where_it more e ∷ []) ≡ None → test ≡ false
test_fails true more d e none = absurd (cc)
test_fails false more d e none = refl

-- An element within the limits is small.
small_where : (held : ℕ) (before : List Header) (h : Header) → is_described h.id ≡ true → passes_size held before h ≡ false → known h.size ≤ MAX_MASTER_LEN
small_where held before h is passes =
    small (nat_lt MAX_MASTER_LEN (known h.size)) (nat_lt MAX_MASTERS_LEN (held + described (before ++ h ∷ []))) refl
    (sym (ap (λ test. test && (nat_lt MAX_MASTER_LEN (known h.size) || nat_lt MAX_MASTERS_LEN (held + described (before ++ h ∷ [])))) is) ∙ passes)
  where
    small : (large more : Bool) → nat_lt MAX_MASTER_LEN (known h.size) ≡ large → (large || more) ≡ false → known h.size ≤ MAX_MASTER_LEN
    small true more large_is none = absurd (cc)
    small false more large_is none = grind arith

small_first : (id held : ℕ) (before list : List Header) (h : Header) → is_described id ≡ true → limits_from held before list ≡ None → first_of id list ≡ Some h → (h.id ≡ id) × (known h.size ≤ MAX_MASTER_LEN)
small_first id held before [] h is limits found = absurd (cc)
small_first id held before (k ∷ ks) h is limits found = here (small_first id held (before ++ k ∷ []) ks h is (no_second _ _ limits)) (k.id == id) refl found
  where
    here : (first_of id ks ≡ Some h → (h.id ≡ id) × (known h.size ≤ MAX_MASTER_LEN)) → (test : Bool) → (k.id == id) ≡ test → (if test then Some k else first_of id ks) ≡ Some h → (h.id ≡ id) × (known h.size ≤ MAX_MASTER_LEN)
    here later true test_is some =
        let same : k ≡ h = cc in
        let named : k.id ≡ id = grind (arith, nat_tests) in
        let within = small_where held before k (ap is_described named ∙ is) (test_fails (passes_size held before k) (passes_count before k) _ _ (no_first _ _ limits)) in
        subst (λ (e : Header). (e.id ≡ id) × (known e.size ≤ MAX_MASTER_LEN)) same (named, within)
    here later false test_is some = later some

-- `h` is the first element with this ID in a file with this outline, and is small enough to be read.
pub record IsFirst (id : ℕ) (bytes : List ℕ) (v : FileOutline) (h : Header) : Type 0 where
  pub first : first_of id (segment_run bytes v.segment).list ≡ Some h
  pub own : h.id ≡ id
  pub small : too_large h ≡ None

-- The outline has the first element of the list.
first_listed : (id before : ℕ) (bytes : List ℕ) (v : FileOutline) → (id == CLUSTER) ≡ false → (of : Outlines before bytes v) → first_in id v ≡ first_of id of.outlined.list
first_listed id before bytes v other of =
    ap (λ (w : FileOutline). first_in id w) of.shows
    ∙ cond-false (id == CLUSTER) (first_of CLUSTER of.outlined.list) (first_of id (others_of of.outlined.list)) other
    ∙ first_in-others id of.outlined.list other

-- The outline has the first element of the Segment.
pub first_same : (id before : ℕ) (bytes : List ℕ) (v : FileOutline) → (id == CLUSTER) ≡ false → (of : Outlines before bytes v) → first_in id v ≡ first_of id (segment_run bytes v.segment).list
first_same id before bytes v other of =
    first_listed id before bytes v other of ∙ ap (first_of id) of.list
    ∙ ap (λ (w : FileOutline). first_of id (segment_run bytes w.segment).list) (sym of.shows)

pub IsFirst-shown : (id before : ℕ) (bytes : List ℕ) (v : FileOutline) (h : Header) → IsHeld id → outline_in before bytes ≡ Ok v → first_in id v ≡ Some h → IsFirst id bytes v h
IsFirst-shown id before bytes v h held outline found =
    let of = Outlines-shown before bytes v outline in
    let o = of.outlined in
    let first : first_of id o.list ≡ Some h = sym (first_listed id before bytes v held.other of) ∙ found in
    let small = small_first id before [] o.list h held.described (outline_of-limits before bytes o of.is) first in
    record {
      first = sym (first_same id before bytes v held.other of) ∙ found;
      own = small.0;
      small = limited h small.0 small.1;
    }
  where
    none_over : (n : ℕ) (d : Damage) → n ≤ MAX_MASTER_LEN → where_it (nat_lt MAX_MASTER_LEN n) d ≡ None
    none_over n d within = let test : nat_lt MAX_MASTER_LEN n ≡ false = grind arith in rw test refl

    limited : (k : Header) → k.id ≡ id → known k.size ≤ MAX_MASTER_LEN → too_large k ≡ None
    limited k is within =
        ap (λ (limit : Option ℕ). option_map_or (λ (most : ℕ). over most k) limit None) (ap limit_of is ∙ held.limit)
        ∙ none_over (known k.size) (damage HeaderTooLarge k.id k.offset) within

-- ---- as a tree

-- There is no such element.
pub first_tree-none : (id before : ℕ) (bytes : List ℕ) (v : FileOutline) → IsHeld id → outline_in before bytes ≡ Ok v → first_in id v ≡ None → first_tree id bytes v.segment ≡ Ok None
first_tree-none id before bytes v held outline found = ap (tree_at bytes) (sym (first_same id before bytes v held.other (Outlines-shown before bytes v outline)) ∙ found)

-- There is such an element.
pub first_tree-some : (id : ℕ) (bytes : List ℕ) (v : FileOutline) (h : Header) (body : List ℕ) → IsFirst id bytes v h → body ≡ body_of bytes h → first_tree id bytes v.segment ≡ and_then (tree_of id h.offset body h.body MAX_NODES) (λ (tree : Node). Ok (Some tree))
first_tree-some id bytes v h body is same =
    ap (tree_at bytes) is.first
    ∙ ap (λ (own : ℕ). and_then (tree_of own h.offset (body_of bytes h) h.body MAX_NODES) (λ (tree : Node). Ok (Some tree))) is.own
    ∙ ap (λ (octets : List ℕ). and_then (tree_of id h.offset octets h.body MAX_NODES) (λ (tree : Node). Ok (Some tree))) (sym same)

-- ---- scale

-- A valid Info gives the file's scale.
scale_of-tree : (bytes : List ℕ) (h : Header) (read : Result Node Damage) (info : Option Node) → and_then (and_then read (λ (tree : Node). Ok (Some tree))) good_info ≡ Ok info → scale_of_info info ≡ scale_in read
scale_of-tree bytes h (Err d) info is = absurd (cc)
scale_of-tree bytes h (Ok tree) info is = step (info_refusal tree) is
  where
    step : (refusal : Option Damage) → unless refusal (Some tree) ≡ Ok info → scale_of_info info ≡ scale_of tree
    step None made = let same : Some tree ≡ info = cc in ap scale_of_info (sym same)
    step (Some d) made = absurd (cc)

scale_of-first : (bytes : List ℕ) (first : Option Header) (info : Option Node) → and_then (tree_at bytes first) good_info ≡ Ok info → scale_of_info info ≡ scale_at (info_tree bytes) first
scale_of-first bytes None info is = let same : None ≡ info = cc in ap scale_of_info (sym same)
scale_of-first bytes (Some h) info is = scale_of-tree bytes h (info_tree bytes h) info is

pub file_records-scale : (bytes : List ℕ) (segment : Header) (r : FileRecords) → file_records bytes segment ≡ Ok r → scale_of_info r.info ≡ file_scale bytes segment
unfolding file_scale
file_records-scale bytes segment r is =
    let info = and_then-ok (and_then (first_tree INFO bytes segment) good_info) _ r is in
    let tracks = and_then-ok (and_then (first_tree TRACKS bytes segment) (good_tracks segment)) _ r info.1.1 in
    let attached = and_then-ok (first_attached bytes segment) _ r tracks.1.1 in
    let chapters = and_then-ok (first_tree CHAPTERS bytes segment) _ r attached.1.1 in
    let tags = and_then-ok (first_tree TAGS bytes segment) _ r chapters.1.1 in
    let made : record { info = info.0; tracks = tracks.0; attachments = attached.0; chapters = chapters.0; tags = tags.0 } ≡ r = cc (tags.1.1) in
    ap (λ (each : FileRecords). scale_of_info each.info) (sym made) ∙ scale_of-first bytes (first_info bytes segment) info.0 info.1.0

-- ---- tracks

-- The tracks of valid entries are valid.
pub AreRead-made : (tree : Node) (tracks : List Track) → tracks_of tree ≡ Ok tracks → AreTracks (entries_of tree) → All (λ (t : Track). IsEntry t.entry) tracks → All (λ (t : Track). HasRoom t.entry) tracks → AreRead tracks
AreRead-made tree tracks is are sound room =
    let same : map track_of (entries_of tree) ≡ tracks = (unless-ok (refusal_of tree) (map track_of (entries_of tree)) tracks is).1 in
    record {
      said = subst (All (λ (t : Track). t ≡ track_of t.entry)) same (said_all (entries_of tree));
      sound = sound;
      each = subst (All (λ (t : Track). IsTrack t.entry)) same (each_all (entries_of tree) are.each);
      room = room;
    }
  where
    said_all : (entries : List Node) → All (λ (t : Track). t ≡ track_of t.entry) (map track_of entries)
    said_all [] = λ k d below. absurd (omega arith)
    said_all (e ∷ es) = at (said_all es)
      where
        at : All (λ (t : Track). t ≡ track_of t.entry) (map track_of es) → (k : ℕ) (d : Track) → k < suc (length (map track_of es)) → get_or (track_of e ∷ map track_of es) k d ≡ track_of (get_or (track_of e ∷ map track_of es) k d).entry
        at rest zero d below = refl
        at rest (suc k) d below = rest k d (omega arith)

    each_all : (entries : List Node) → All IsTrack entries → All (λ (t : Track). IsTrack t.entry) (map track_of entries)
    each_all [] each = λ k d below. absurd (omega arith)
    each_all (e ∷ es) each = at (each_all es (λ k d below. each (suc k) d (omega arith)))
      where
        at : All (λ (t : Track). IsTrack t.entry) (map track_of es) → (k : ℕ) (d : Track) → k < suc (length (map track_of es)) → IsTrack (get_or (track_of e ∷ map track_of es) k d).entry
        at rest zero d below = each 0 e (omega arith)
        at rest (suc k) d below = rest k d (omega arith)
