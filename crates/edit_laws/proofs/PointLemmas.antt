-- Each cue point of a file that can be indexed points at a block of it.
use Rattle.std.proofs.Common.{◌≡◌, ◌≤◌, ℕ, zero, suc, ◌+◌, ◌-◌, ◌/◌, ◌==◌, Bool, true, false, ◌&&◌, if◌then◌else◌, List, [], ◌∷◌, ◌++◌, filter, take, Some, None, Ok, ℤ, pos, negsuc, refl, sym, ap, subst, arith}
use Rattle.std.specs.Prelude.{is_some, slice_get, unwrap_or}
use Rattle.std.specs.List.{All, AllZip, flat_map, list_any}
use Rattle.std.specs.Option.{option_map_or}
use Rattle.std.proofs.lemmas.List.Elements.{All-nil, All-cons, All-append, All-head, All-tail, All-filter, All-same, All-take}
use Rattle.mkv_io.specs.declared.damage.Damage.{Damage}
use Rattle.mkv_schema.specs.declared.element.Header.{Header}
use Rattle.mkv_schema.specs.Element.{in_segment, element_at}
use Rattle.mkv_schema.specs.Outline.{segment_bound, segment_run}
use Rattle.mkv_schema.proofs.OutlineLemmas.{and_then-ok, unless-ok}
use Rattle.element_reader.specs.Outline.{outline_in}
use Rattle.file_format.specs.Info.{file_scale}
use Rattle.file_format.specs.FileBlocks.{file_events}
use Rattle.block_format.specs.Block.{Block, nanoseconds}
use Rattle.block_format.specs.Elements.{with_limits, without_limits}
use Rattle.block_format.specs.Events.{blocks_of, damages_of, events_of}
use Rattle.output_model.specs.Ticks.{since_start}
use Rattle.output_model.specs.declared.TheConstants.{MAX_CUES}
use Rattle.output_model.specs.declared.places.CuePoint.{CuePoint}
use Rattle.output_laws.specs.Points.{PointsAt, PointsAtBlock}
use Rattle.output_laws.proofs.LimitLemmas.{limits-change_nothing}
use Rattle.edit_changes.specs.Records.{EditableFile, trees_of}
use Rattle.reindex.specs.Index.{file_damage, indexable}
use Rattle.reindex.specs.Points.{index_points, indexed_tracks, is_indexed, point_in, points_among, points_to}
use Rattle.reindex.proofs.ScaleLemmas.{trees-scale}
use Rattle.edit_laws.specs.IndexLaws.{EachBlockHasItsPoint, IsPointOf, LimitsHideNothing, PointsPointAtBlocks, StandsIn, indexed_blocks}
use Rattle.edit_laws.proofs.StandLemmas.{blocks-stand}
use Rattle.edit_laws.proofs.TickLemmas.{times-ticks}

-- ---- a file that can be indexed

-- The file `f` was read from `bytes`, no damage is reported for it, and its scale is at least 1.
pub record IsWhole (bytes : List ℕ) (f : EditableFile) : Type 0 where
  pub outline : outline_in 0 bytes ≡ Ok f.outline
  pub trees : trees_of bytes f.outline.segment ≡ Ok f.trees
  pub undamaged : damages_of (file_events true bytes f.outline.segment) ≡ []
  pub scale : 1 ≤ file_scale bytes f.outline.segment

none-first : (ds : List Damage) → slice_get ds 0 ≡ None → ds ≡ []
none-first [] none = refl
none-first (d ∷ ds) none = absurd (cc)

pub indexable-whole : (bytes : List ℕ) (f : EditableFile) → indexable bytes ≡ Ok f → IsWhole bytes f
indexable-whole bytes f is =
    let outline = and_then-ok (outline_in 0 bytes) _ f is in
    let trees = and_then-ok (trees_of bytes outline.0.segment) _ f outline.1.1 in
    let made = unless-ok (file_damage bytes outline.0.segment) (record { outline = outline.0; trees = trees.0 }) f trees.1.1 in
    let P : EditableFile → Type 0 = λ g. IsWhole bytes g in
    subst P made.1 (record {
      outline = outline.1.0;
      trees = trees.1.0;
      undamaged = none-first (damages_of (file_events true bytes outline.0.segment)) made.0;
      scale = (trees-scale bytes outline.0.segment trees.0 trees.1.0).some;
    })

-- Limits change nothing for such a file.
pub hidden-none : LimitsHideNothing
hidden-none bytes f is =
    limits-change_nothing (file_scale bytes f.outline.segment) bytes f.outline.segment (indexable-whole bytes f is).undamaged

-- ---- cue point of a block

-- The block `b` is in a Cluster, at a whole tick.
pub record IsAtTick (bytes : List ℕ) (segment : Header) (b : Block) : Type 0 where
  pub cluster : Header
  pub stands : StandsIn (without_limits (file_scale bytes segment)) bytes segment b cluster
  pub time : (t : ℕ) → since_start b.time ≡ Some t → b.time ≡ nanoseconds (file_scale bytes segment) (pos (t / file_scale bytes segment))

second : (a b c : Bool) → (a && b && c) ≡ true → b ≡ true
second true true c is = refl
second true false c is = absurd (cc)
second false b c is = absurd (cc)

since : (z : ℤ) → is_some (since_start z) ≡ true → since_start z ≡ Some (unwrap_or (since_start z) 0)
since (pos t) is = refl
since (negsuc n) is = absurd (cc)

-- The timestamp of an indexed block.
pub indexed-time : (bytes : List ℕ) (segment : Header) (numbers : List ℕ) (b : Block) (at : IsAtTick bytes segment b) → is_indexed numbers b ≡ true
    → b.time ≡ nanoseconds (file_scale bytes segment) (pos (unwrap_or (since_start b.time) 0 / file_scale bytes segment))
indexed-time bytes segment numbers b at is = at.time _ (since b.time (second b.key (is_some (since_start b.time)) (list_any (λ n. n == b.track) numbers) is))

point-at : (bytes : List ℕ) (segment : Header) (numbers : List ℕ) (b : Block) (at : IsAtTick bytes segment b) → is_indexed numbers b ≡ true
    → PointsAt (file_scale bytes segment) bytes segment (point_in (file_scale bytes segment) segment.body b at.cluster) at.cluster b
point-at bytes segment numbers b at is =
    let behind = at.stands.behind in
    let inside = at.stands.inside in
    let place : segment.body + (at.cluster.offset - segment.body) ≡ at.cluster.offset = omega arith in
    let P : ℕ → Type 0 = λ n. element_at in_segment bytes n (segment_bound bytes segment) ≡ Ok at.cluster in
    record {
      stands = subst P (sym place) at.stands.place;
      is_cluster = at.stands.is_cluster;
      found = at.stands.found;
      place = omega arith;
      track = refl;
      time = indexed-time bytes segment numbers b at is;
    }

-- A fact about each cue point of indexed blocks.
points-have : (P : CuePoint → Type 0) (bytes : List ℕ) (segment : Header) (numbers : List ℕ) (blocks : List Block) → All (IsAtTick bytes segment) blocks
    → ((b : Block) (at : IsAtTick bytes segment b) → is_indexed numbers b ≡ true → P (point_in (file_scale bytes segment) segment.body b at.cluster))
    → All P (points_among (file_scale bytes segment) segment.body (segment_run bytes segment).list numbers blocks)
points-have P bytes segment numbers [] each has = All-nil P
points-have P bytes segment numbers (b ∷ bs) each has = split (points-have P bytes segment numbers bs (All-tail (IsAtTick bytes segment) b bs each) has) (is_indexed numbers b) refl
  where
    here : is_indexed numbers b ≡ true → All P (points_to (file_scale bytes segment) segment.body (segment_run bytes segment).list b)
    here is =
        let at = All-head (IsAtTick bytes segment) b bs each in
        let own : points_to (file_scale bytes segment) segment.body (segment_run bytes segment).list b ≡ point_in (file_scale bytes segment) segment.body b at.cluster ∷ [] = ap (λ c. option_map_or (λ h. point_in (file_scale bytes segment) segment.body b h ∷ []) c []) at.stands.before in
        All-same P _ _ own (All-cons P (point_in (file_scale bytes segment) segment.body b at.cluster) [] (has b at is) (All-nil P))

    split : All P (points_among (file_scale bytes segment) segment.body (segment_run bytes segment).list numbers bs) → (t : Bool) → is_indexed numbers b ≡ t → All P (flat_map (points_to (file_scale bytes segment) segment.body (segment_run bytes segment).list) (if t then b ∷ filter (is_indexed numbers) bs else filter (is_indexed numbers) bs))
    split rest true is = All-append P _ _ (here is) rest
    split rest false is = rest

-- ---- each block has its cue point

take-zip : {A B : Type 0} (R : A → B → Type 0) (n : ℕ) (xs : List A) (ys : List B) → AllZip R xs ys → AllZip R (take n xs) (take n ys)
take-zip R zero xs ys zip = tt
take-zip R (suc n) [] [] zip = tt
take-zip R (suc n) [] (y ∷ ys) zip = zip
take-zip R (suc n) (x ∷ xs) [] zip = zip
take-zip R (suc n) (x ∷ xs) (y ∷ ys) zip = (zip.0, take-zip R n xs ys zip.1)

each-point : (bytes : List ℕ) (segment : Header) (bs : List Block) → All (λ (b : Block). (cluster : Header) × StandsIn (with_limits (file_scale bytes segment)) bytes segment b cluster) bs
    → AllZip (IsPointOf bytes segment) bs (flat_map (points_to (file_scale bytes segment) segment.body (segment_run bytes segment).list) bs)
each-point bytes segment [] each = tt
each-point bytes segment (b ∷ bs) each =
    let scale = file_scale bytes segment in
    let list = (segment_run bytes segment).list in
    let S : Block → Type 0 = λ x. (cluster : Header) × StandsIn (with_limits (file_scale bytes segment)) bytes segment x cluster in
    let first = All-head S b bs each in
    let own : points_to scale segment.body list b ≡ point_in scale segment.body b first.0 ∷ [] = ap (λ c. option_map_or (λ h. point_in scale segment.body b h ∷ []) c []) first.1.before in
    let P : List CuePoint → Type 0 = λ ps. AllZip (IsPointOf bytes segment) (b ∷ bs) (ps ++ flat_map (points_to scale segment.body list) bs) in
    subst P (sym own) (record { cluster = first.0; stands = first.1; point = refl }, each-point bytes segment bs (All-tail S b bs each))

-- The cue points of a file belong to the first indexed blocks.
pub block-point : EachBlockHasItsPoint
block-point bytes segment tracks =
    let S : Block → Type 0 = λ x. (cluster : Header) × StandsIn (with_limits (file_scale bytes segment)) bytes segment x cluster in
    take-zip (IsPointOf bytes segment) MAX_CUES (indexed_blocks bytes segment tracks) _
    (each-point bytes segment (indexed_blocks bytes segment tracks)
    (All-filter (is_indexed (indexed_tracks tracks)) S (blocks_of (file_events true bytes segment)) (blocks-stand (with_limits (file_scale bytes segment)) bytes segment)))

-- ---- each cue point has its block

-- Two facts about each block give a third one.
both : (P Q R : Block → Type 0) → ((b : Block) → P b → Q b → R b) → (bs : List Block) → All P bs → All Q bs → All R bs
both P Q R more [] ps qs = All-nil R
both P Q R more (b ∷ bs) ps qs = All-cons R b bs (more b (All-head P b bs ps) (All-head Q b bs qs)) (both P Q R more bs (All-tail P b bs ps) (All-tail Q b bs qs))

-- A fact about each cue point of a file that can be indexed.
pub each-has : (P : CuePoint → Type 0) (bytes : List ℕ) (f : EditableFile) → indexable bytes ≡ Ok f
    → ((b : Block) (at : IsAtTick bytes f.outline.segment b) → is_indexed (indexed_tracks f.trees.tracks) b ≡ true → P (point_in (file_scale bytes f.outline.segment) f.outline.segment.body b at.cluster))
    → All P (index_points bytes f.outline.segment f.trees.tracks)
each-has P bytes f is has =
    let whole = indexable-whole bytes f is in
    let segment = f.outline.segment in
    let scale = file_scale bytes segment in
    let numbers = indexed_tracks f.trees.tracks in
    let unlimited = events_of (without_limits scale) bytes segment in
    let at = both (λ (b : Block). (cluster : Header) × StandsIn (without_limits scale) bytes segment b cluster)
    (λ (b : Block). (t : ℕ) → since_start b.time ≡ Some t → b.time ≡ nanoseconds scale (pos (t / scale))) (IsAtTick bytes segment)
    (λ b stands time. record { cluster = stands.0; stands = stands.1; time = time }) (blocks_of unlimited)
    (blocks-stand (without_limits scale) bytes segment) (times-ticks (without_limits scale) bytes segment whole.scale) in
    All-take P MAX_CUES (points_among scale segment.body (segment_run bytes segment).list numbers (blocks_of (file_events true bytes segment)))
    (points-have P bytes segment numbers (blocks_of (file_events true bytes segment))
    (All-same (IsAtTick bytes segment) (blocks_of (file_events true bytes segment)) (blocks_of unlimited) (sym (ap blocks_of (hidden-none bytes f is))) at) has)

-- Each cue point of a file that can be indexed points at a block of it.
pub points-point_at : PointsPointAtBlocks
points-point_at bytes f is =
    each-has (PointsAtBlock (file_scale bytes f.outline.segment) bytes f.outline.segment) bytes f is
    (λ b at indexed. (at.cluster, b, point-at bytes f.outline.segment (indexed_tracks f.trees.tracks) b at indexed))
