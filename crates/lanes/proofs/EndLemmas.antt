-- The end of a file, one block at a time.
use Rattle.std.proofs.Common.{◌≡◌, ◌≤◌, ℕ, zero, suc, ◌+◌, max, Bool, true, false, if◌then◌else◌, List, [], ◌∷◌, ◌++◌, ◌<◌, length, take, drop, get_or, filter, replicate, Option, Some, None, refl, sym, ◌∙◌, ap, ap₂, add-zero, append-nil, eq-eqb, arith}
use Rattle.std.specs.List.{All}
use Rattle.std.proofs.Math.ListN.{set}
use Rattle.std.proofs.lemmas.List.{length-replicate, take_all}
use Rattle.std.proofs.lemmas.List.Elements.{All-cons, All-head, All-nil, All-tail}
use Rattle.std.specs.Prelude.{◌==◌, is_some, ◌||◌}
use Rattle.mkv_io.specs.declared.damage.Damage.{Damage}
use Rattle.block_format.specs.Block.{Block}
use Rattle.block_format.specs.Events.{Event, block, blocks_of, last_of}
use Rattle.block_format.specs.Content.{frames_cut}
use Rattle.block_reader.specs.Buffered.{Buffered, block_of}
use Rattle.block_reader.specs.Lendable.{IsLendable}
use Rattle.block_reader.specs.Front.{head_of}
use Rattle.block_reader.specs.Made.{block_with}
use Rattle.block_reader.specs.declared.head.BlockHead.{BlockHead}
use Rattle.cluster_reader.specs.Reading.{damage_event}
use Rattle.cluster_reader.specs.Takes.{IsKnown}
use Rattle.cluster_reader.specs.declared.filter.BlockFilter.TheVariants as takes
use Rattle.ext_times.specs.Listing.{Listing}
use Rattle.merge_model.specs.Links.{Placing, delayed}
use Rattle.merge_model.specs.Ends.{block_end, end_at, last_end}
use Rattle.merge_model.specs.FileLinks.{listing_of, placing_of}
use Rattle.merge_model.specs.Timed.{time_for, timed}
use Rattle.merge_model.specs.declared.link.Link.{Link}
use Rattle.merge_model.specs.declared.link.Link.TheVariants.{Track, Entries}
use Rattle.merge_model.specs.declared.link.TrackLink.{TrackLink}
use Rattle.lanes.specs.Frames.{by_head, counted_for, frames_of, link_frames}
use Rattle.lanes.specs.Placed.{at_time}
use Rattle.lanes.specs.Ends.{end_of, ends_of, lasting_for, link_end, text_end, texts_end, track_end}

-- ---- one link

-- Without blocks the end is 0.
last_end-none : (p : Placing) (times : Option Listing) (k : ℕ) → last_end p (timed times k []) ≡ 0
last_end-none p None k = refl
last_end-none p (Some l) k = refl

last_end-first : (p : Placing) (times : Option Listing) (k : ℕ) (b : Block) (bs : List Block) → last_end p (timed times k (b ∷ bs)) ≡ max (block_end p (record b { time = time_for times k b.time })) (last_end p (timed times (k + length b.frames) bs))
last_end-first p None k b bs = refl
last_end-first p (Some l) k b bs = refl

-- the blocks of a track
abbrev of_track : TrackLink → List Block → List Block
of_track t bs = filter (λ (x : Block). x.track == t.number) bs

-- the end of a track's blocks, after `k` frames
abbrev end_from : TrackLink → ℕ → List Block → ℕ
end_from t k bs = last_end (placing_of t) (timed (listing_of t) k (of_track t bs))

least : (n : ℕ) → n ≡ max 0 n
least n = omega arith

last_end-block : (t : TrackLink) (k : ℕ) (b : Block) (bs : List Block) → end_from t k (b ∷ bs) ≡ max (track_end t k b) (end_from t (k + frames_of t b) bs)
last_end-block t k b bs = split (b.track == t.number)
  where
    split : (is : Bool) → last_end (placing_of t) (timed (listing_of t) k (if is then b ∷ filter (λ (x : Block). x.track == t.number) bs else filter (λ (x : Block). x.track == t.number) bs))
        ≡ max (if is then block_end (placing_of t) (at_time t k b) else 0) (last_end (placing_of t) (timed (listing_of t) (k + (if is then length b.frames else 0)) (filter (λ (x : Block). x.track == t.number) bs)))
    split true = last_end-first (placing_of t) (listing_of t) k b (of_track t bs)
    split false =
        ap (λ (n : ℕ). last_end (placing_of t) (timed (listing_of t) n (filter (λ (x : Block). x.track == t.number) bs))) (sym (add-zero k))
        ∙ least (last_end (placing_of t) (timed (listing_of t) (k + 0) (filter (λ (x : Block). x.track == t.number) bs)))

max-mix : (a b c d : ℕ) → max (max a b) (max c d) ≡ max (max a c) (max b d)
max-mix a b c d = omega arith

-- ---- all links

-- the end of a link, after `k` frames of its track
abbrev end_behind : List Event → ℕ → Link → ℕ
end_behind es k (Track t) = end_from t k (blocks_of es)
end_behind es k (Entries e) = text_end e

-- the end of the rest of a file, after these numbers of frames
abbrev pub ends_from : List Event → List ℕ → List Link → ℕ
ends_from es [] links = 0
ends_from es (k ∷ counts) [] = 0
ends_from es (k ∷ counts) (link ∷ links) = max (end_behind es k link) (ends_from es counts links)

-- No frame was counted.
pub ends-whole : (es : List Event) (links : List Link) → ends_from es (replicate (length links) 0) links ≡ end_of es links
ends-whole es [] = refl
ends-whole es (Track t ∷ links) = ap (λ (n : ℕ). max (end_from t 0 (blocks_of es)) n) (ends-whole es links)
ends-whole es (Entries e ∷ links) = ap (λ (n : ℕ). max (text_end e) n) (ends-whole es links)

ends-block : (b : Block) (es : List Event) (counts : List ℕ) (links : List Link) → ends_from (block b ∷ es) counts links ≡ max (ends_of b counts links) (ends_from es (counted_for b counts links) links)
ends-block b es [] links = refl
ends-block b es (k ∷ counts) [] = refl
ends-block b es (k ∷ counts) (Track t ∷ links) =
    ap (λ (n : ℕ). max n (ends_from (block b ∷ es) counts links)) (last_end-block t k b (blocks_of es))
    ∙ ap (λ (n : ℕ). max (max (track_end t k b) (end_from t (k + frames_of t b) (blocks_of es))) n) (ends-block b es counts links)
    ∙ max-mix (track_end t k b) (end_from t (k + frames_of t b) (blocks_of es)) (ends_of b counts links) (ends_from es (counted_for b counts links) links)
ends-block b es (k ∷ counts) (Entries e ∷ links) =
    ap (λ (n : ℕ). max (text_end e) n) (ends-block b es counts links)
    ∙ mix (text_end e) (ends_of b counts links) (ends_from es (counted_for b counts links) links)
  where
    mix : (a x y : ℕ) → max a (max x y) ≡ max (max 0 x) (max a y)
    mix a x y = omega arith

ends-damage : (last : Bool) (d : Damage) (es : List Event) (counts : List ℕ) (links : List Link) → ends_from (damage_event last d ∷ es) counts links ≡ ends_from es counts links
ends-damage last d es [] links = refl
ends-damage last d es (k ∷ counts) [] = refl
ends-damage true d es (k ∷ counts) (Track t ∷ links) = ap (λ (n : ℕ). max (end_from t k (blocks_of es)) n) (ends-damage true d es counts links)
ends-damage false d es (k ∷ counts) (Track t ∷ links) = ap (λ (n : ℕ). max (end_from t k (blocks_of es)) n) (ends-damage false d es counts links)
ends-damage last d es (k ∷ counts) (Entries e ∷ links) = ap (λ (n : ℕ). max (text_end e) n) (ends-damage last d es counts links)

pub texts-track : (t : TrackLink) (links : List Link) → texts_end (Track t ∷ links) ≡ texts_end links
texts-track t links = let none : last_end (placing_of t) (timed (listing_of t) 0 []) ≡ 0 = last_end-none (placing_of t) (listing_of t) 0 in omega arith

-- If nothing is left, only the texts count.
ends-none : (counts : List ℕ) (links : List Link) → length counts ≡ length links → ends_from [] counts links ≡ texts_end links
ends-none [] [] each = refl
ends-none [] (link ∷ links) each = absurd (omega arith)
ends-none (k ∷ counts) [] each = absurd (omega arith)
ends-none (k ∷ counts) (Track t ∷ links) each =
    let none : last_end (placing_of t) (timed (listing_of t) k []) ≡ 0 = last_end-none (placing_of t) (listing_of t) k in
    let rest : ends_from [] counts links ≡ texts_end links = ends-none counts links (omega arith) in
    let texts : texts_end (Track t ∷ links) ≡ texts_end links = texts-track t links in
    omega arith
ends-none (k ∷ counts) (Entries e ∷ links) each = ap (λ (n : ℕ). max (text_end e) n) (ends-none counts links (omega arith))

-- The texts end at the file's end or before.
ends-texts : (es : List Event) (links : List Link) → texts_end links ≤ end_of es links
ends-texts es [] = omega arith
ends-texts es (Track t ∷ links) =
    let rest : texts_end links ≤ end_of es links = ends-texts es links in
    let texts : texts_end (Track t ∷ links) ≡ texts_end links = texts-track t links in
    omega arith
ends-texts es (Entries e ∷ links) = let rest : texts_end links ≤ end_of es links = ends-texts es links in omega arith

-- ---- counts

pub none-counted : (count most : ℕ) → All (λ n. n ≤ most) (replicate count 0)
none-counted zero most = All-nil (λ n. n ≤ most)
none-counted (suc count) most = All-cons (λ n. n ≤ most) 0 (replicate count 0) (omega arith) (none-counted count most)

pub more-counted : (counts : List ℕ) (most more : ℕ) → most ≤ more → All (λ n. n ≤ most) counts → All (λ n. n ≤ more) counts
more-counted counts most more room all = λ k d lt. let small = all k d lt in omega arith

-- The number of counts is unchanged.
pub counted-length : (b : Block) (counts : List ℕ) (links : List Link) → length (counted_for b counts links) ≡ length counts
counted-length b [] links = refl
counted-length b (n ∷ counts) [] = refl
counted-length b (n ∷ counts) (link ∷ links) = ap suc (counted-length b counts links)

-- A count that stays small keeps all counts small.
pub set-few : (counts : List ℕ) (k v most : ℕ) → All (λ n. n ≤ most) counts → v ≤ most → All (λ n. n ≤ most) (set counts k v)
set-few [] k v most all few = all
set-few (n ∷ counts) zero v most all few = All-cons (λ m. m ≤ most) v counts few (All-tail (λ m. m ≤ most) n counts all)
set-few (n ∷ counts) (suc k) v most all few = All-cons (λ m. m ≤ most) n (set counts k v) (All-head (λ m. m ≤ most) n counts all) (set-few counts k v most (All-tail (λ m. m ≤ most) n counts all) few)

-- The counts grow one after another.
pub count-one : (b : Block) (counts : List ℕ) (links : List Link) (k : ℕ) (link : Link) (v : ℕ) → k < length counts → k < length links → link ≡ get_or links k link → v ≡ get_or counts k 0 + link_frames b link
    → take (suc k) (set counts k v) ++ counted_for b (drop (suc k) (set counts k v)) (drop (suc k) links) ≡ take k counts ++ counted_for b (drop k counts) (drop k links)
count-one b [] links k link v inside there is value = absurd (omega arith)
count-one b (n ∷ counts) [] k link v inside there is value = absurd (omega arith)
count-one b (n ∷ counts) (l ∷ links) zero link v inside there is value = ap (λ (x : ℕ). x ∷ counted_for b counts links) (value ∙ ap (λ (each : Link). n + link_frames b each) is)
count-one b (n ∷ counts) (l ∷ links) (suc k) link v inside there is value = ap (λ (rest : List ℕ). n ∷ rest) (count-one b counts links k link v (omega arith) (omega arith) is value)

pub left-one : (counts start : List ℕ) (k v : ℕ) → k < length counts → k < length start → drop k counts ≡ drop k start → drop (suc k) (set counts k v) ≡ drop (suc k) start
left-one [] start k v inside there same = absurd (omega arith)
left-one (n ∷ counts) [] k v inside there same = absurd (omega arith)
left-one (n ∷ counts) (m ∷ start) zero v inside there same = cc
left-one (n ∷ counts) (m ∷ start) (suc k) v inside there same = left-one counts start k v (omega arith) (omega arith) same

pub value-left : (counts start : List ℕ) (k : ℕ) → k < length counts → k < length start → drop k counts ≡ drop k start → get_or counts k 0 ≡ get_or start k 0
value-left [] start k inside there same = absurd (omega arith)
value-left (n ∷ counts) [] k inside there same = absurd (omega arith)
value-left (n ∷ counts) (m ∷ start) zero inside there same = cc
value-left (n ∷ counts) (m ∷ start) (suc k) inside there same = value-left counts start k (omega arith) (omega arith) same

none-behind : (counts : List ℕ) (k : ℕ) → length counts ≤ k → drop k counts ≡ []
none-behind [] zero most = refl
none-behind [] (suc k) most = refl
none-behind (n ∷ counts) zero most = absurd (omega arith)
none-behind (n ∷ counts) (suc k) most = none-behind counts k (omega arith)

pub count-all : (b : Block) (counts : List ℕ) (links : List Link) (k : ℕ) → length counts ≤ k → take k counts ++ counted_for b (drop k counts) (drop k links) ≡ counts
count-all b counts links k most =
    ap₂ (λ (front left : List ℕ). front ++ counted_for b left (drop k links)) (take_all k counts most) (none-behind counts k most) ∙ append-nil counts

-- ---- a block by its head

pub by_head-count : (b : Buffered) → length (by_head b).frames ≡ b.frames
by_head-count b = length-replicate b.frames []

here : (t : TrackLink) (k : ℕ) (b : Buffered) → b.head.track ≡ t.number → track_end t k (by_head b) ≡ block_end (placing_of t) (at_time t k (by_head b))
here t k b is = ap (λ (x : Bool). if x then block_end (placing_of t) (at_time t k (by_head b)) else 0) (eq-eqb b.head.track t.number is)

pub end-taken : (t : TrackLink) (k : ℕ) (b : Buffered) (time n frames : ℕ) → b.head.track ≡ t.number → delayed (placing_of t) (at_time t k (by_head b)) ≡ Some time → n ≡ lasting_for b.head.duration t.default_duration frames → frames ≡ b.frames → track_end t k (by_head b) ≡ time + n
end-taken t k b time n frames is at lasts long =
    here t k b is
    ∙ ap (end_at (placing_of t) (at_time t k (by_head b))) at
    ∙ ap (λ (m : ℕ). time + lasting_for b.head.duration t.default_duration m) (by_head-count b ∙ sym long)
    ∙ ap (λ (m : ℕ). time + m) (sym lasts)

-- The head has the number of a track's frames.
pub frames-here : (t : TrackLink) (b : Buffered) → b.head.track ≡ t.number → frames_of t (by_head b) ≡ b.frames
frames-here t b is = ap (λ (x : Bool). if x then length (by_head b).frames else 0) (eq-eqb b.head.track t.number is) ∙ by_head-count b

-- ---- a block of a file, and its head

-- Blocks with equal heads and frame counts have equal ends and frames of a track.
frames-alike : (t : TrackLink) (a b : Block) → a.track ≡ b.track → length a.frames ≡ length b.frames → frames_of t a ≡ frames_of t b
frames-alike t a b track count =
    ap (λ (n : ℕ). if n == t.number then length a.frames else 0) track
    ∙ ap (λ (n : ℕ). if b.track == t.number then n else 0) count

-- A block has one size for each frame.
frames-long : (sizes body : List ℕ) → length (frames_cut sizes body) ≡ length sizes
frames-long [] body = refl
frames-long (s ∷ sizes) body = ap suc (frames-long sizes (drop s body))

pub frames-lent : (t : TrackLink) (b : Buffered) → IsLendable b → frames_of t (block_of b) ≡ frames_of t (by_head b)
frames-lent t b lends = frames-alike t (block_of b) (by_head b) refl
    (frames-long b.sizes b.body ∙ sym lends.count ∙ sym (by_head-count b))

-- The end depends only on the frame count.
end-count : (t : TrackLink) (k : ℕ) (b : Block) (fs : List (List ℕ)) → length fs ≡ length b.frames → track_end t k (block_with (head_of b) fs [] []) ≡ track_end t k b
end-count t k b fs count = split (b.track == t.number)
  where
    at : (o : Option ℕ) → end_at (placing_of t) (at_time t k (block_with (head_of b) fs [] [])) o ≡ end_at (placing_of t) (at_time t k b) o
    at None = refl
    at (Some time) = ap (λ (n : ℕ). time + lasting_for b.duration t.default_duration n) count

    split : (is : Bool) → (if is then block_end (placing_of t) (at_time t k (block_with (head_of b) fs [] [])) else 0) ≡ (if is then block_end (placing_of t) (at_time t k b) else 0)
    split true = at (delayed (placing_of t) (at_time t k b))
    split false = refl

-- The head and frame count of `lent` give the ends and frames of the block `b`.
pub record IsByHead (b : Block) (lent : Buffered) : Type 0 where
  pub ends : (t : TrackLink) (k : ℕ) → track_end t k (by_head lent) ≡ track_end t k b
  pub frames : (t : TrackLink) → frames_of t (by_head lent) ≡ frames_of t b

pub known-head : (b : Block) (lent : Buffered) → IsKnown takes.Heads b lent → IsByHead b lent
known-head b lent known =
    let count : length (by_head lent).frames ≡ length b.frames = by_head-count lent ∙ sym known.frames in
    record {
      ends = λ t k.
          ap (λ (h : BlockHead). track_end t k (block_with h (by_head lent).frames [] [])) (sym known.head)
          ∙ end-count t k b (by_head lent).frames count;
      frames = λ t. frames-alike t (by_head lent) b (sym (ap (λ (h : BlockHead). h.track) known.head)) count;
    }

-- The head and frame count give the ends and counts of all links.
link-ends : (b : Block) (lent : Buffered) → IsByHead b lent → (k : ℕ) (link : Link) → link_end (by_head lent) k link ≡ link_end b k link
link-ends b lent is k (Track t) = is.ends t k
link-ends b lent is k (Entries e) = refl

link-frames : (b : Block) (lent : Buffered) → IsByHead b lent → (link : Link) → link_frames (by_head lent) link ≡ link_frames b link
link-frames b lent is (Track t) = is.frames t
link-frames b lent is (Entries e) = refl

pub ends-by_head : (b : Block) (lent : Buffered) → IsByHead b lent → (counts : List ℕ) (links : List Link) → ends_of (by_head lent) counts links ≡ ends_of b counts links
ends-by_head b lent is [] links = refl
ends-by_head b lent is (k ∷ counts) [] = refl
ends-by_head b lent is (k ∷ counts) (link ∷ links) = ap₂ (λ (m n : ℕ). max m n) (link-ends b lent is k link) (ends-by_head b lent is counts links)

pub counted-by_head : (b : Block) (lent : Buffered) → IsByHead b lent → (counts : List ℕ) (links : List Link) → counted_for (by_head lent) counts links ≡ counted_for b counts links
counted-by_head b lent is [] links = refl
counted-by_head b lent is (n ∷ counts) [] = refl
counted-by_head b lent is (n ∷ counts) (link ∷ links) = ap₂ (λ (m : ℕ) (ms : List ℕ). m ∷ ms) (ap (λ (m : ℕ). n + m) (link-frames b lent is link)) (counted-by_head b lent is counts links)

-- ---- one step of the walk

pub end-start : (start : List Event) (links : List Link) → max (texts_end links) (ends_from start (replicate (length links) 0) links) ≡ end_of start links
end-start start links =
    let less : texts_end links ≤ end_of start links = ends-texts start links in
    let whole : ends_from start (replicate (length links) 0) links ≡ end_of start links = ends-whole start links in
    omega arith

pub end-block : (end now : ℕ) (b : Block) (old new start : List Event) (counts : List ℕ) (links : List Link) → max end (ends_from old counts links) ≡ end_of start links → old ≡ block b ∷ new → now ≡ max end (ends_of b counts links) → max now (ends_from new (counted_for b counts links) links) ≡ end_of start links
end-block end now b old new start counts links sofar gives is =
    let whole : ends_from old counts links ≡ max (ends_of b counts links) (ends_from new (counted_for b counts links) links) = ap (λ (es : List Event). ends_from es counts links) gives ∙ ends-block b new counts links in
    (let same : max now (ends_from new (counted_for b counts links) links) ≡ max end (ends_from old counts links) = omega arith in same) ∙ sofar

-- The head of a block is enough for a step.
pub end-step : (end now : ℕ) (b : Block) (lent : Buffered) (old new start : List Event) (counts after : List ℕ) (links : List Link) → IsByHead b lent → max end (ends_from old counts links) ≡ end_of start links → old ≡ block b ∷ new
    → now ≡ max end (ends_of (by_head lent) counts links) → after ≡ counted_for (by_head lent) counts links → max now (ends_from new after links) ≡ end_of start links
end-step end now b lent old new start counts after links known sofar gives is counted =
    ap (λ (ns : List ℕ). max now (ends_from new ns links)) (counted ∙ counted-by_head b lent known counts links)
    ∙ end-block end now b old new start counts links sofar gives (is ∙ ap (λ (n : ℕ). max end n) (ends-by_head b lent known counts links))

pub end-damage : (end : ℕ) (last : Bool) (d : Damage) (old new start : List Event) (counts : List ℕ) (links : List Link) → max end (ends_from old counts links) ≡ end_of start links → old ≡ damage_event last d ∷ new → max end (ends_from new counts links) ≡ end_of start links
end-damage end last d old new start counts links sofar gives =
    ap (λ (n : ℕ). max end n) (sym (ap (λ (es : List Event). ends_from es counts links) gives ∙ ends-damage last d new counts links)) ∙ sofar

pub end-all : (end : ℕ) (old start : List Event) (counts : List ℕ) (links : List Link) → length counts ≡ length links → texts_end links ≤ end → max end (ends_from old counts links) ≡ end_of start links → old ≡ [] → end ≡ end_of start links
end-all end old start counts links each texts sofar none =
    let rest : ends_from old counts links ≡ texts_end links = ap (λ (es : List Event). ends_from es counts links) none ∙ ends-none counts links each in
    (let same : end ≡ max end (ends_from old counts links) = omega arith in same) ∙ sofar

pub stopped-block : (s : Bool) (b : Block) (old new start : List Event) → (s || is_some (last_of old)) ≡ is_some (last_of start) → old ≡ block b ∷ new → (s || is_some (last_of new)) ≡ is_some (last_of start)
stopped-block s b old new start sofar gives = ap (λ (es : List Event). s || is_some (last_of es)) (sym gives) ∙ sofar

or-told : (s last : Bool) (d : Damage) (new : List Event) → ((last || s) || is_some (last_of new)) ≡ (s || is_some (last_of (damage_event last d ∷ new)))
or-told true true d new = refl
or-told true false d new = refl
or-told false true d new = refl
or-told false false d new = refl

pub stopped-damage : (s now last : Bool) (d : Damage) (old new start : List Event) → (s || is_some (last_of old)) ≡ is_some (last_of start) → old ≡ damage_event last d ∷ new → now ≡ (last || s) → (now || is_some (last_of new)) ≡ is_some (last_of start)
stopped-damage s now last d old new start sofar gives is =
    ap (λ (b : Bool). b || is_some (last_of new)) is ∙ or-told s last d new ∙ ap (λ (es : List Event). s || is_some (last_of es)) (sym gives) ∙ sofar

pub stopped-all : (s : Bool) (old start : List Event) → (s || is_some (last_of old)) ≡ is_some (last_of start) → old ≡ [] → s ≡ is_some (last_of start)
stopped-all true old start sofar none = sofar
stopped-all false old start sofar none = sym (ap (λ (es : List Event). is_some (last_of es)) none) ∙ sofar
