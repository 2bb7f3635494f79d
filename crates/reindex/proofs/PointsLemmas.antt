-- The points of blocks in sequence.
use Rattle.std.proofs.Common.{◌≡◌, ◌≤◌, ◌<◌, ℕ, ◌+◌, Bool, true, false, if◌then◌else◌, List, [], ◌∷◌, ◌++◌, length, filter, take, Some, None, Ok, refl, sym, ◌∙◌, ap, subst, append_assoc, append-nil, length-append, inl, inr, max, arith}
use Rattle.std.specs.Prelude.{slice_get}
use Rattle.std.specs.List.{flat_map}
use Rattle.std.specs.Option.{option_map_or}
use Rattle.std.proofs.lemmas.Bool.{cases_lt}
use Rattle.std.proofs.lemmas.List.{length-map, length-take-le, take-append-le, take-take, take_all, map-append}
use Rattle.std.proofs.lemmas.List.Concat.{flat_map-append}
use Rattle.std.proofs.lemmas.List.Elements.{filter-append}
use Rattle.mkv_io.specs.declared.damage.Damage.{Damage}
use Rattle.mkv_schema.specs.declared.element.Header.{Header}
use Rattle.mkv_schema.specs.Outline.{outline_of, segment_run}
use Rattle.mkv_io.specs.Results.{unless}
use Rattle.mkv_schema.proofs.OutlineLemmas.{and_then-ok}
use Rattle.element_reader.specs.Outline.{FileOutline, outline_in, shown}
use Rattle.tree_format.specs.Node.{Node}
use Rattle.file_format.specs.FileBlocks.{file_events}
use Rattle.file_format.specs.Info.{file_scale}
use Rattle.block_format.specs.Block.{Block}
use Rattle.block_reader.specs.Buffered.{Buffered, block_of}
use Rattle.block_reader.specs.Front.{head_of}
use Rattle.block_reader.specs.Made.{block_with}
use Rattle.block_reader.specs.declared.head.BlockHead.{BlockHead}
use Rattle.block_format.specs.Elements.{with_limits}
use Rattle.block_format.specs.Events.{Event, block, blocks_of, damages_of, events_of}
use Rattle.elements.specs.Window.{ReadAhead, HasNotPassed, MovesTo, end_ahead}
use Rattle.cluster_reader.specs.Reading.{Reading, read_to}
use Rattle.output_model.specs.declared.TheConstants.{MAX_CUES}
use Rattle.output_model.specs.declared.places.CuePoint.{CuePoint}
use Rattle.reindex.specs.Clusters.{HasComeTo}
use Rattle.reindex.specs.Index.{file_damage, points_of}
use Rattle.reindex.specs.Points.{cluster_before, indexed_tracks, is_indexed, point_in, points_among, points_to}
use Rattle.reindex.specs.Reading.{AddsPoint, BlocksAscend, cue_of, cues_of, points_for, points_in}
use Rattle.reindex.specs.declared.clusters.Clusters.{Clusters}
use Rattle.reindex.specs.declared.indexing.Indexing.{Indexing}
use Rattle.reindex.specs.declared.point.Point.{Point}
use Rattle.reindex.proofs.PlaceLemmas.{BlocksAscend-later}

-- ---- the points with one more block

-- the points of one block
points-one : (i : Indexing) (list : List Header) (b : Block) → points_among i.scale i.base list i.tracks (b ∷ []) ≡ points_for i list b
points-one i list b = split (is_indexed i.tracks b)
  where
    split : (t : Bool) → flat_map (points_to i.scale i.base list) (if t then b ∷ [] else []) ≡ (if t then points_to i.scale i.base list b else [])
    split true = append-nil (points_to i.scale i.base list b)
    split false = refl

-- The points with one more block are the points before and its point.
pub points-more : (i : Indexing) (list : List Header) (passed : List Block) (b : Block) → points_among i.scale i.base list i.tracks (passed ++ b ∷ []) ≡ points_among i.scale i.base list i.tracks passed ++ points_for i list b
points-more i list passed b =
    ap (flat_map (points_to i.scale i.base list)) (filter-append (is_indexed i.tracks) passed (b ∷ []))
    ∙ flat_map-append (points_to i.scale i.base list) (filter (is_indexed i.tracks) passed) (filter (is_indexed i.tracks) (b ∷ []))
    ∙ ap (λ ps. points_among i.scale i.base list i.tracks passed ++ ps) (points-one i list b)

-- Cutting a list twice is cutting it once.
take-front : {A : Type 0} (n : ℕ) (xs ys : List A) → take n (take n xs ++ ys) ≡ take n (xs ++ ys)
take-front n xs ys =
    elim (cases_lt (length xs) n) [
      | inl short ↦ ap (λ zs. take n (zs ++ ys)) (take_all n xs (omega arith))
      | inr long ↦
          take-append-le n (take n xs) ys (let is = length-take-le n xs long in omega arith)
          ∙ take-take n n xs (omega arith)
          ∙ sym (take-append-le n xs ys long)
    ]

-- ---- the points that are kept

-- A block without a point adds none.
pub adds-none : (old : List Point) (more : List CuePoint) → more ≡ [] → length old ≤ MAX_CUES → cues_of old ≡ take MAX_CUES (cues_of old ++ more)
adds-none old more none few =
    sym (ap (λ ps. take MAX_CUES (cues_of old ++ ps)) none
    ∙ ap (take MAX_CUES) (append-nil (cues_of old))
    ∙ take_all MAX_CUES (cues_of old) (let is = length-map old cue_of in omega arith))

-- Without room a point is left out.
pub adds-full : (old : List Point) (more : List CuePoint) → MAX_CUES ≤ length old → length old ≤ MAX_CUES → cues_of old ≡ take MAX_CUES (cues_of old ++ more)
adds-full old more full few =
    let is = length-map old cue_of in
    sym (take-append-le MAX_CUES (cues_of old) more (omega arith) ∙ take_all MAX_CUES (cues_of old) (omega arith))

-- A point is appended.
pub adds-one : (old : List Point) (p : Point) (more : List CuePoint) → more ≡ cue_of p ∷ [] → length old < MAX_CUES → cues_of (old ++ p ∷ []) ≡ take MAX_CUES (cues_of old ++ more)
adds-one old p more one room =
    let is = length-map old cue_of in
    let behind = length-append (cues_of old) (cue_of p ∷ []) in
    map-append cue_of old (p ∷ [])
    ∙ sym (ap (λ ps. take MAX_CUES (cues_of old ++ ps)) one ∙ take_all MAX_CUES (cues_of old ++ cue_of p ∷ []) (omega arith))

-- A block that isn't selected has no point.
pub points_for-none : (i : Indexing) (list : List Header) (b : Block) → is_indexed i.tracks b ≡ false → points_for i list b ≡ []
points_for-none i list b is = ap (λ t. if t then points_to i.scale i.base list b else []) is

pub points_for-nowhere : (i : Indexing) (list : List Header) (b : Block) → is_indexed i.tracks b ≡ true → cluster_before b.offset list ≡ None → points_for i list b ≡ []
points_for-nowhere i list b is none =
    ap (λ t. if t then points_to i.scale i.base list b else []) is ∙ ap (λ c. option_map_or (λ h. point_in i.scale i.base b h ∷ []) c []) none

pub points_for-one : (i : Indexing) (list : List Header) (b : Block) (h : Header) (p : Point) → is_indexed i.tracks b ≡ true → cluster_before b.offset list ≡ Some h → cue_of p ≡ point_in i.scale i.base b h → points_for i list b ≡ cue_of p ∷ []
points_for-one i list b h p is some own =
    ap (λ t. if t then points_to i.scale i.base list b else []) is
    ∙ ap (λ c. option_map_or (λ h. point_in i.scale i.base b h ∷ []) c []) some
    ∙ ap (λ q. q ∷ []) (sym own)

-- When the walk has reached the block, it keeps the block's Cluster.
pub kept-before : (list : List Header) (c : Clusters) (before at : ℕ) → c.last ≡ cluster_before c.reached list → c.reached ≡ max before at → before ≤ at → cluster_before at list ≡ c.last
kept-before list c before at last reached on =
    let is : c.reached ≡ at = omega arith in
    sym (last ∙ ap (λ n. cluster_before n list) is)

-- The points are the points of the blocks that were passed and of one more.
pub cues-more : (i : Indexing) (list : List Header) (passed : List Block) (b : Block) (old new : List Point) → cues_of old ≡ take MAX_CUES (points_among i.scale i.base list i.tracks passed) → cues_of new ≡ take MAX_CUES (cues_of old ++ points_for i list b)
    → cues_of new ≡ take MAX_CUES (points_among i.scale i.base list i.tracks (passed ++ b ∷ []))
cues-more i list passed b old new so is =
    is
    ∙ ap (λ ps. take MAX_CUES (ps ++ points_for i list b)) so
    ∙ take-front MAX_CUES (points_among i.scale i.base list i.tracks passed) (points_for i list b)
    ∙ ap (take MAX_CUES) (sym (points-more i list passed b))

-- ---- the events of a file

-- The blocks in the events that were passed are `passed`, and there was no damage.
pub record HavePassed (all rest : List Event) (passed : List Block) : Type 0 where
  pub blocks : blocks_of all ≡ passed ++ blocks_of rest
  pub damages : damages_of all ≡ damages_of rest

pub HavePassed-none : (all : List Event) → HavePassed all all []
HavePassed-none all = record { blocks = refl; damages = refl }

pub HavePassed-more : (all rest next : List Event) (passed : List Block) (b : Block) → HavePassed all rest passed → rest ≡ block b ∷ next → HavePassed all next (passed ++ b ∷ [])
HavePassed-more all rest next passed b so is = record {
  blocks = so.blocks ∙ ap (λ es. passed ++ blocks_of es) is ∙ sym (append_assoc passed (b ∷ []) (blocks_of next));
  damages = so.damages ∙ ap damages_of is;
}

-- Without damage the points are the points of all blocks.
pub points-whole : (i : Indexing) (list : List Header) (all rest : List Event) (passed : List Block) → HavePassed all rest passed → rest ≡ [] → points_in i list all ≡ Ok (take MAX_CUES (points_among i.scale i.base list i.tracks passed))
points-whole i list all rest passed so is =
    ap (λ (ds : List Damage). unless (slice_get ds 0) (take MAX_CUES (points_among i.scale i.base list i.tracks (blocks_of all)))) (so.damages ∙ ap damages_of is)
    ∙ ap (λ (bs : List Block). Ok (take MAX_CUES (points_among i.scale i.base list i.tracks bs))) (so.blocks ∙ ap (λ es. passed ++ blocks_of es) is ∙ append-nil passed)

-- ---- the offsets of the remaining blocks

-- The first remaining block is after `p`, and the others are after it.
pub BlocksAscend-first : (p : ℕ) (rest next : List Event) (b : Block) → BlocksAscend p (blocks_of rest) → rest ≡ block b ∷ next → (p ≤ b.offset) × BlocksAscend b.offset (blocks_of next)
BlocksAscend-first p rest next b ascends is =
    let P : List Event → Type 0 = λ es. BlocksAscend p (blocks_of es) in
    let both = subst P is ascends in
    (both.0, later (blocks_of next) both.1)
  where
    later : (bs : List Block) → BlocksAscend (b.offset + 1) bs → BlocksAscend b.offset bs
    later [] ascends = tt
    later (c ∷ cs) ascends = (omega (arith, ascends.0), ascends.1)

-- ---- the walk

-- The points are the points of the blocks passed, and the walk hasn't passed the Clusters before the next block.
pub record Come (i : Indexing) (list : List Header) (bytes : List ℕ) (clusters : Clusters) (rest : List Event) (found : List Point) (passed : List Block) : Type 0 where
  pub come : HasComeTo bytes list clusters
  pub ascend : BlocksAscend clusters.reached (blocks_of rest)
  pub points : cues_of found ≡ take MAX_CUES (points_among i.scale i.base list i.tracks passed)

-- `Come` holds if it did at the start.
pub HaveCome : Indexing → List Header → List ℕ → Clusters → Clusters → List Event → List Event → List Point → List Block → Type 0
HaveCome i list bytes old new all rest points passed = HasComeTo bytes list old → BlocksAscend old.reached (blocks_of all) → Come i list bytes new rest points passed

pub HaveCome-begins : (i : Indexing) (list : List Header) (bytes : List ℕ) (c : Clusters) (all : List Event) (points : List Point) → points ≡ [] → HaveCome i list bytes c c all all points []
unfolding HaveCome
HaveCome-begins i list bytes c all points none = λ come ascend. record { come = come; ascend = ascend; points = ap cues_of none }

-- A block was passed.
pub HaveCome-more : (i : Indexing) (list : List Header) (bytes : List ℕ) (old mid new : Clusters) (all rest next : List Event) (points more : List Point) (passed : List Block) (b : Block)
    → HaveCome i list bytes old mid all rest points passed → rest ≡ block b ∷ next → new.reached ≤ max mid.reached b.offset
    → (HasComeTo bytes list mid → mid.reached ≤ b.offset → AddsPoint i list bytes b points more new)
    → HaveCome i list bytes old new all next more (passed ++ b ∷ [])
unfolding HaveCome
HaveCome-more i list bytes old mid new all rest next points more passed b so is reached adds = λ come ascend.
    let here = so come ascend in
    let first = BlocksAscend-first mid.reached rest next b here.ascend is in
    let add = adds here.come first.0 in
    let from = first.0 in
    record {
      come = add.come;
      ascend = BlocksAscend-later new.reached b.offset (blocks_of next) (omega arith) first.1;
      points = cues-more i list passed b points more here.points add.points;
    }

-- Without damage the result is the definition's.
pub HaveCome-whole : (i : Indexing) (list : List Header) (bytes : List ℕ) (old new : Clusters) (all rest : List Event) (points : List Point) (passed : List Block)
    → HaveCome i list bytes old new all rest points passed → HavePassed all rest passed → rest ≡ [] → HasComeTo bytes list old → BlocksAscend old.reached (blocks_of all) → points_in i list all ≡ Ok (cues_of points)
unfolding HaveCome
HaveCome-whole i list bytes old new all rest points passed so passes none come ascend =
    points-whole i list all rest passed passes none ∙ ap (λ ps. Ok ps) (sym (so come ascend).points)

-- ---- a block that is known by its head

-- A point depends only on the head of its block.
points-by_head : (i : Indexing) (list : List Header) (b : Block) (lent : Buffered) → head_of b ≡ lent.head → points_for i list b ≡ points_for i list (block_of lent)
points-by_head i list b lent says = ap (λ (h : BlockHead). points_for i list (block_with h [] [] [])) says

-- A number of blocks were passed, and the points are their points.
pub record HaveRead (i : Indexing) (bytes : List ℕ) (old new : Clusters) (all rest : List Event) (points : List Point) : Type 0 where
  pub passed : List Block
  pub met : HavePassed all rest passed
  pub come : (list : List Header) → HaveCome i list bytes old new all rest points passed

pub HaveRead-begins : (i : Indexing) (bytes : List ℕ) (c : Clusters) (all : List Event) (points : List Point) → points ≡ [] → HaveRead i bytes c c all all points
HaveRead-begins i bytes c all points none = record {
  passed = [];
  met = HavePassed-none all;
  come = λ list. HaveCome-begins i list bytes c all points none;
}

-- A block with a known head was passed.
pub HaveRead-more : (i : Indexing) (bytes : List ℕ) (old mid new : Clusters) (all rest next : List Event) (points more : List Point) (b : Block) (lent : Buffered)
    → HaveRead i bytes old mid all rest points → rest ≡ block b ∷ next → head_of b ≡ lent.head → new.reached ≤ max mid.reached lent.head.offset
    → ((list : List Header) → HasComeTo bytes list mid → mid.reached ≤ lent.head.offset → AddsPoint i list bytes (block_of lent) points more new)
    → HaveRead i bytes old new all next more
HaveRead-more i bytes old mid new all rest next points more b lent so is says reached adds = record {
  passed = so.passed ++ b ∷ [];
  met = HavePassed-more all rest next so.passed b so.met is;
  come = λ list. HaveCome-more i list bytes old mid new all rest next points more so.passed b (so.come list) is (omega (arith, reached, place)) (λ there before.
      let add = adds list there (omega (arith, before, place)) in
      record { come = add.come; points = add.points ∙ ap (λ ps. take MAX_CUES (cues_of points ++ ps)) (sym (points-by_head i list b lent says)) });
}
  where
    place : b.offset ≡ lent.head.offset
    place = ap (λ (h : BlockHead). h.offset) says

-- ---- the points of a file

pub outline-total : (held : ℕ) (bytes : List ℕ) (o : FileOutline) → outline_in held bytes ≡ Ok o → o.total ≡ length bytes
outline-total held bytes o is =
    let found = and_then-ok (outline_of held bytes) (λ found. Ok (shown bytes found)) o is in
    let made : shown bytes found.0 ≡ o = cc (found.1.1) in
    sym (ap (λ (v : FileOutline). v.total) made)

-- The points of a file are the points of its events.
pub points_in-file : (i : Indexing) (bytes : List ℕ) (segment : Header) (tracks : List Node) (events : List Event) → i.tracks ≡ indexed_tracks tracks → i.scale ≡ file_scale bytes segment → i.base ≡ segment.body → events ≡ events_of (with_limits i.scale) bytes segment
    → points_in i (segment_run bytes segment).list events ≡ points_of bytes segment tracks
points_in-file i bytes segment tracks events numbers scale base all =
    let is : events ≡ file_events true bytes segment = all ∙ ap (λ n. events_of (with_limits n) bytes segment) scale in
    ap (points_in i (segment_run bytes segment).list) is
    ∙ ap (λ n. unless (file_damage bytes segment) (take MAX_CUES (points_among n i.base (segment_run bytes segment).list i.tracks (blocks_of (file_events true bytes segment))))) scale
    ∙ ap (λ n. unless (file_damage bytes segment) (take MAX_CUES (points_among (file_scale bytes segment) n (segment_run bytes segment).list i.tracks (blocks_of (file_events true bytes segment))))) base
    ∙ ap (λ ns. unless (file_damage bytes segment) (take MAX_CUES (points_among (file_scale bytes segment) segment.body (segment_run bytes segment).list ns (blocks_of (file_events true bytes segment))))) numbers

-- ---- the bytes that were read

-- The advances of both walks bound the bytes that were read.
pub record HavePaid (size : ℕ) (first cursor : Reading) (list ahead : ReadAhead) (at before now : ℕ) : Type 0 where
  pub place : HasNotPassed ahead at size
  pub pays : now + read_to first + end_ahead list ≤ before + read_to cursor + end_ahead ahead

-- One more block was read, and then the Clusters up to it.
pub pays-both : (size there before mid between now : ℕ) (first old new : Reading) (list mid_ahead ahead : ReadAhead) (p q : ℕ) → there ≡ size
    → mid + read_to first + end_ahead list ≤ before + read_to old + end_ahead mid_ahead
    → between + read_to old ≤ mid + read_to new
    → HasNotPassed mid_ahead p size → (HasNotPassed mid_ahead p there → MovesTo there q mid_ahead ahead between now)
    → HavePaid size first new list ahead q before now
pays-both size there before mid between now first old new list mid_ahead ahead p q list_same so read place goes =
    let Q : ℕ → Type 0 = λ n. HasNotPassed mid_ahead p n → MovesTo n q mid_ahead ahead between now in
    let moves = subst Q list_same goes place in
    record { place = moves.place; pays = sums (read_to first) (end_ahead list) (read_to old) (end_ahead mid_ahead) (read_to new) (end_ahead ahead) so read moves.pays }
  where
    sums : (a b c d e f : ℕ) → mid + a + b ≤ before + c + d → between + c ≤ mid + e → now + d ≤ between + f → now + a + b ≤ before + e + f
    sums a b c d e f so read moves = omega arith
