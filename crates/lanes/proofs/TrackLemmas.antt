-- A turn at a link, for each result of its cursor: its block, its distance, and the bytes it reads.
use Rattle.std.proofs.Common.{◌≡◌, ℕ, suc, zero, ◌+◌, ◌-◌, ◌*◌, ◌<◌, ◌≤◌, Bool, true, false, List, [], ◌∷◌, ◌++◌, length, drop, Option, Some, None, Result, Ok, Err, refl, sym, ◌∙◌, ap, subst, add-one, arith}
use Rattle.std.specs.Prelude.{◌||◌, ◌&&◌, ◌==◌, not}
use Rattle.std.specs.Result.{IsErr}
use Rattle.std.specs.List.{All, slice_get}
use Rattle.std.proofs.Math.ListN.{set}
use Rattle.std.proofs.lemmas.Bool.{cond-false}
use Rattle.std.proofs.lemmas.Bool.Decides.{nat_tests}
use Rattle.std.proofs.lemmas.Option.{slice_get_within}
use Rattle.mkv_io.specs.declared.damage.Damage.{Damage}
use Rattle.mkv_io.specs.declared.outside.ReadEnd.{ReadEnd}
use Rattle.mkv_io.specs.LiveFiles.{LiveFiles}
use Rattle.mkv_io.specs.Told.{IfVisible}
use Rattle.block_format.specs.Block.{Block}
use Rattle.block_reader.specs.Buffered.{Buffered, block_of}
use Rattle.block_reader.specs.Lendable.{IsLendable}
use Rattle.block_format.specs.Events.{Event, block, events_of}
use Rattle.block_format.specs.Elements.{with_limits}
use Rattle.mkv_schema.specs.declared.element.Header.{Header}
use Rattle.cluster_reader.specs.Reading.{CanRead, GivesWanted, Reading, damage_event, left_of, read_to}
use Rattle.cluster_reader.specs.Takes.{IsKnown}
use Rattle.cluster_reader.specs.ToldDamages.{ToldDamages, with_damage}
use Rattle.cluster_reader.specs.declared.step.Step.{Step}
use Rattle.cluster_reader.specs.declared.filter.BlockFilter.TheVariants as takes
use Rattle.output_model.specs.OutputBlock.{IsLent, Lent}
use Rattle.merge_model.specs.Links.{given_blocks}
use Rattle.mkv_io.specs.declared.entry.Entry.{Entry}
use Rattle.lanes.specs.Lent.{HasFewTicks, IsPlaced, lent_ordered}
use Rattle.merge_model.specs.FileLinks.{IsToldLink, given_in, octets_in, text_with, track_events}
use Rattle.lanes.specs.Placed.{entry_placed, text_lent, track_lent, track_placed}
use Rattle.merge_model.specs.declared.link.Link.{Link}
use Rattle.merge_model.specs.declared.link.Link.TheVariants.{Track, Entries}
use Rattle.merge_model.specs.declared.link.TextLink.{TextLink}
use Rattle.merge_model.specs.declared.link.TrackLink.{TrackLink}
use Rattle.lanes.specs.Turns.{GivesFirst, LendsBlock, Pays, Turns}
use Rattle.lanes.specs.Frames.{by_head, frames_of}
use Rattle.lanes.specs.Walks.{HasCounted, IsAt, IsReady, due, files_length, left, lent_by, lent_by_track, lent_in, links_left, text_of, told_in_all, track_behind, track_due, track_left, track_way, way}
use Rattle.lanes.specs.declared.lane.LaneStep.{LaneStep}
use Rattle.lanes.specs.declared.lane.LaneStep.TheVariants.{Block as ABlock}
use Rattle.lanes.specs.declared.walk.Walk.{Walk}
use Rattle.lanes.proofs.EndLemmas.{frames-lent}
use Rattle.lanes.proofs.LinkLemmas.{damage-blocks, damage-stops, damage-told, end-blocks, end-stops, track-block}
use Rattle.lanes.proofs.ListLemmas.{drop-at, drop-past}
use Rattle.lanes.proofs.ToldLemmas.{told-damage, told-leaves, told-passes}
use Rattle.lanes.proofs.WalkLemmas.{HasLeft, Leaves, Stays, later, left-gives, left-leaves, left-passes, links_left-at}
use Rattle.lanes.proofs.WayLemmas.{due-leaves, due-stays, length-at, way-leaves, way-stays}
pub use Rattle.lemmas.proofs.PlainLemmas.{All-get as all-at}

-- ---- the current link

-- There is an element at an index of the list.
pub element-at : {X : Type 0} (xs : List X) (k : ℕ) → k < length xs → (x : X) × (slice_get xs k ≡ Some x)
element-at [] k inside = absurd (omega arith)
element-at (x ∷ xs) zero inside = (x, refl)
element-at (x ∷ xs) (suc k) inside = element-at xs k (omega arith)

-- The cursor is in the file of the track.
pub at-track : (f : LiveFiles) (links : List Link) (w : Walk) (t : TrackLink) (c : Reading) → IsReady f links w → slice_get links w.at ≡ Some (Track t) → w.cursor ≡ Some c → CanRead f c × (c.file ≡ t.file)
at-track f links w t c ready is cursor =
    let here : IsAt f (Some c) (slice_get links w.at) = subst (λ each. IsAt f each (slice_get links w.at)) cursor ready.here in
    subst (IsAt f (Some c)) is here

-- The cursor's result is right for the visible bytes.
pub cursor-gives : (f : LiveFiles) (links : List Link) (k : ℕ) (t : TrackLink) (c d : Reading) (result : Result Step ReadEnd) → All (IsToldLink f) links → slice_get links k ≡ Some (Track t) → c.file ≡ t.file → IfVisible (f.content c.file.n) (λ bytes. GivesWanted (takes.Track t.number) bytes c d result) → GivesWanted (takes.Track t.number) (octets_in f t.file.n) c d result
cursor-gives f links k t c d result all is file gives =
    gives (octets_in f t.file.n) (ap (λ each. f.content each.n) file ∙ all-at (IsToldLink f) links k (Track t) all is)

-- the events of a track's file, with this Segment
abbrev pub events_with : LiveFiles → TrackLink → Header → List Event
events_with f t segment = events_of (with_limits t.scale) (octets_in f t.file.n) segment

-- The content of the current file is visible.
pub content-at : (f : LiveFiles) (links : List Link) (k : ℕ) (t : TrackLink) → All (IsToldLink f) links → slice_get links k ≡ Some (Track t) → f.content t.file.n ≡ Some (octets_in f t.file.n)
content-at f links k t all is = all-at (IsToldLink f) links k (Track t) all is

-- Bytes that were read aren't due any more.
sums : (before now total c d : ℕ) → now + c ≤ before + d → d ≤ total → now + (total - d) ≤ before + (total - c)
sums before now total c d pays most = omega arith

-- Without a cursor no frame was counted.
pub none-counted : (f : LiveFiles) (links : List Link) (w : Walk) → IsReady f links w → w.cursor ≡ None → w.frames ≡ 0
none-counted f links w ready none = subst (HasCounted w.frames) none ready.frames

pub few-counted : (f : LiveFiles) (links : List Link) (w : Walk) (c : Reading) → IsReady f links w → w.cursor ≡ Some c → w.frames ≤ 256 * c.place.at
few-counted f links w c ready is = subst (HasCounted w.frames) is ready.frames

-- The block `b` and its visible parts give the same placed block and frame count.
pub record IsSame (t : TrackLink) (b : Block) (lent : Buffered) : Type 0 where
  pub placed : (scale k : ℕ) → track_placed scale t k b ≡ track_placed scale t k (block_of lent)
  pub frames : frames_of t b ≡ frames_of t (by_head lent)

pub known-same : (t : TrackLink) (b : Block) (lent : Buffered) → IsKnown (takes.Track t.number) b lent → (lent.head.track ≡ t.number → IsLendable lent) → IsSame t b lent
known-same t b lent known lends = split (lent.head.track == t.number) refl
  where
    split : (is : Bool) → (lent.head.track == t.number) ≡ is → IsSame t b lent
    split true is =
        let own : lent.head.track ≡ t.number = grind (arith, nat_tests, is) in
        let whole = known.whole own in
        record { placed = λ scale k. ap (track_placed scale t k) whole; frames = ap (frames_of t) whole ∙ frames-lent t lent (lends own) }
    split false is =
        let other : (b.track == t.number) ≡ false = ap (λ (n : ℕ). n == t.number) known.track ∙ is in
        record {
          placed = λ scale k. cond-false (b.track == t.number) _ _ other ∙ sym (cond-false (lent.head.track == t.number) _ _ is);
          frames = cond-false (b.track == t.number) _ _ other ∙ sym (cond-false (lent.head.track == t.number) _ _ is);
        }

-- ---- a turn in the file of a track, with its cursor `c` before and `d` after

pub record Reads (links : List Link) (t : TrackLink) (old new : Walk) (c d : Reading) : Type 0 where
  pub at : slice_get links old.at ≡ Some (Track t)
  pub same : new.at ≡ old.at
  pub before : old.cursor ≡ Some c
  pub now : new.cursor ≡ Some d

module _ {links : List Link} {t : TrackLink} {old new : Walk} {c d : Reading} (is : Reads links t old new c d) where
  at_new : slice_get links new.at ≡ Some (Track t)
  at_new = ap (slice_get links) is.same ∙ is.at

  -- The walk can be advanced.
  pub ready-reads : (f g : LiveFiles) → g ≡ f → IsReady f links old → CanRead g d → d.file ≡ t.file → length new.told.items ≡ length old.told.items → new.frames ≤ 256 * d.place.at → IsReady g links new
  ready-reads f g same was can file told few =
      let ready = subst (λ (each : LiveFiles). IsReady each links old) (sym same) was in
      record {
        files = ready.files;
        here =
            let there : IsAt g (Some d) (slice_get links new.at) = subst (IsAt g (Some d)) (sym at_new) (can, file) in
            subst (λ each. IsAt g each (slice_get links new.at)) (sym is.now) there;
        told = told ∙ ready.told;
        stopped = λ none. let now = is.now in absurd (cc);
        frames = subst (HasCounted new.frames) (sym is.now) few;
      }

  -- The last block is the cursor's.
  pub lent-here : lent_in links new ≡ track_lent t d.block new.placed
  lent-here = ap (lent_by new) at_new ∙ ap (lent_by_track new.placed t) is.now

  pub reads-on : c.place.at < d.place.at → d.place.at ≤ d.place.end → d.place.end ≡ c.place.end → way links new < way links old
  reads-on on inside end = way-stays links (Track t) old new is.at is.same
      (let was : track_way t old.cursor ≡ track_way t (Some c) = ap (track_way t) is.before in
      let will : track_way t new.cursor ≡ track_way t (Some d) = ap (track_way t) is.now in
      omega arith)

module _ (f : LiveFiles) (scale : ℕ) {links : List Link} {t : TrackLink} {old new : Walk} {c d : Reading} (is : Reads links t old new c d) where
  -- The cursor has the rest of the link.
  was : links_left f links old ≡ track_behind t old.frames old.stopped (left_of (octets_in f t.file.n) c) ∷ later f links old.at
  was = links_left-at f links old (Track t) is.at ∙ ap (λ each. track_left f t old.frames old.stopped each ∷ later f links old.at) is.before

  now : links_left f links new ≡ track_behind t new.frames new.stopped (left_of (octets_in f t.file.n) d) ∷ later f links old.at
  now = links_left-at f links new (Track t) (at_new is)
      ∙ ap (λ each. track_left f t new.frames new.stopped each ∷ later f links new.at) is.now
      ∙ ap (λ (k : ℕ). track_behind t new.frames new.stopped (left_of (octets_in f t.file.n) d) ∷ later f links k) is.same

  stays : (track_behind t old.frames old.stopped (left_of (octets_in f t.file.n) c)).stops ≡ (track_behind t new.frames new.stopped (left_of (octets_in f t.file.n) d)).stops
      → Stays f links old new (track_behind t old.frames old.stopped (left_of (octets_in f t.file.n) c)) (track_behind t new.frames new.stopped (left_of (octets_in f t.file.n) d))
  stays stops = record { rest = later f links old.at; was = was; now = now; stops = stops; at = is.same }

  -- The call returns no event.
  pub turns-same : new.frames ≡ old.frames → new.stopped ≡ old.stopped → new.greatest ≡ old.greatest → new.told ≡ old.told → left_of (octets_in f t.file.n) d ≡ left_of (octets_in f t.file.n) c → (result : Result (Option LaneStep) ReadEnd) → IsErr result → Turns f scale links old new result
  turns-same frames stopped greatest told gives result err = record {
    blocks = refused result err (left-passes f scale links old new _ _ (stays (ap (λ g. g.stops) same)) (ap (given_blocks scale) same) greatest);
    damages = told-passes f links old new _ _ (stays (ap (λ g. g.stops) same)) (ap (λ g. g.damages) same) told;
  }
    where
      same : track_behind t old.frames old.stopped (left_of (octets_in f t.file.n) c) ≡ track_behind t new.frames new.stopped (left_of (octets_in f t.file.n) d)
      same =
          ap (λ es. track_behind t old.frames old.stopped es) (sym gives)
          ∙ ap (λ st. track_behind t old.frames st (left_of (octets_in f t.file.n) d)) (sym stopped)
          ∙ ap (λ (k : ℕ). track_behind t k new.stopped (left_of (octets_in f t.file.n) d)) (sym frames)

      refused : (r : Result (Option LaneStep) ReadEnd) → IsErr r → left f scale links new ≡ left f scale links old → GivesFirst (left f scale links old) (left f scale links new) (lent_in links new) r
      refused (Ok turn) err passes = absurd (cc)
      refused (Err end) err passes = passes

  -- ---- a block

  module _ (b : Block) (frames : new.frames ≡ old.frames + frames_of t b) (stopped : new.stopped ≡ old.stopped) (told : new.told ≡ old.told) (gives : left_of (octets_in f t.file.n) c ≡ block b ∷ left_of (octets_in f t.file.n) d) where
    block-stays : Stays f links old new (track_behind t old.frames old.stopped (left_of (octets_in f t.file.n) c)) (track_behind t new.frames new.stopped (left_of (octets_in f t.file.n) d))
    block-stays = stays (
        ap (λ es. (track_behind t old.frames old.stopped es).stops) gives
        ∙ ap (λ st. (track_behind t old.frames st (left_of (octets_in f t.file.n) d)).stops) (sym stopped))

    block-blocks : given_blocks scale (track_behind t old.frames old.stopped (left_of (octets_in f t.file.n) c)) ≡ track_placed scale t old.frames b ++ given_blocks scale (track_behind t new.frames new.stopped (left_of (octets_in f t.file.n) d))
    block-blocks = ap (λ es. given_blocks scale (track_behind t old.frames old.stopped es)) gives
        ∙ track-block scale t old.frames old.stopped b (left_of (octets_in f t.file.n) d)
        ∙ ap (λ (k : ℕ). track_placed scale t old.frames b ++ given_blocks scale (track_behind t k new.stopped (left_of (octets_in f t.file.n) d))) (sym frames)

    block-told : told_in_all f links new ≡ told_in_all f links old
    block-told = told-passes f links old new _ _ block-stays (ap (λ es. (track_behind t old.frames old.stopped es).damages) gives) told

    -- The block is dropped.
    pub turns-other : new.greatest ≡ old.greatest → track_placed scale t old.frames b ≡ [] → Turns f scale links old new (Ok None)
    turns-other greatest none = record {
      blocks = left-passes f scale links old new _ _ block-stays
          (block-blocks ∙ ap (λ bs. bs ++ given_blocks scale (track_behind t new.frames new.stopped (left_of (octets_in f t.file.n) d))) none) greatest;
      damages = block-told;
    }

    -- The block is placed.
    pub turns-gives : IsPlaced (track_placed scale t old.frames b) old.greatest (track_lent t d.block new.placed) → new.greatest ≡ new.placed.head.order → Turns f scale links old new (Ok (Some ABlock))
    turns-gives placed greatest = record {
      blocks =
          left-gives f scale links old new _ _ (track_lent t d.block new.placed) block-stays
          (block-blocks ∙ ap (λ bs. bs ++ given_blocks scale (track_behind t new.frames new.stopped (left_of (octets_in f t.file.n) d))) placed.block) placed.order greatest
          ∙ ap (λ l. lent_ordered l ∷ left f scale links new) (sym (lent-here is));
      damages = block-told;
    }

  -- ---- a damaged place

  pub turns-damage : (last : Bool) (x : Damage) (r : ToldDamages) → new.frames ≡ old.frames → new.stopped ≡ ((not t.goes_on && last) || old.stopped) → new.greatest ≡ old.greatest → left_of (octets_in f t.file.n) c ≡ damage_event last x ∷ left_of (octets_in f t.file.n) d
      → slice_get old.told.items old.at ≡ Some r → old.at < length old.told.items → new.told.items ≡ set old.told.items old.at (with_damage r x) → Turns f scale links old new (Ok None)
  turns-damage last x r frames stopped greatest gives here inside told = record {
    blocks = left-passes f scale links old new _ _ damage-stays
        (ap (λ es. given_blocks scale (track_behind t old.frames old.stopped es)) gives
        ∙ damage-blocks scale t old.frames old.stopped last new.stopped x (left_of (octets_in f t.file.n) d)
        ∙ ap (λ (k : ℕ). given_blocks scale (track_behind t k new.stopped (left_of (octets_in f t.file.n) d))) (sym frames)) greatest;
    damages = told-damage f links old new _ _ x r damage-stays
        (ap (λ es. (track_behind t old.frames old.stopped es).damages) gives ∙ damage-told t old.frames old.stopped last new.stopped x (left_of (octets_in f t.file.n) d)) here inside told;
  }
    where
      damage-stays : Stays f links old new (track_behind t old.frames old.stopped (left_of (octets_in f t.file.n) c)) (track_behind t new.frames new.stopped (left_of (octets_in f t.file.n) d))
      damage-stays = stays (
          ap (λ es. (track_behind t old.frames old.stopped es).stops) gives
          ∙ damage-stops t old.frames old.stopped last x (left_of (octets_in f t.file.n) d)
          ∙ ap (λ st. (track_behind t old.frames st (left_of (octets_in f t.file.n) d)).stops) (sym stopped))

  -- ---- distance, and bytes that are read

  due-both : (track_due f t old.cursor ≡ f.size t.file.n - read_to c) × (track_due f t new.cursor ≡ f.size t.file.n - read_to d)
  due-both = (ap (track_due f t) is.before, ap (track_due f t) is.now)

  pub reads-pays : c.file ≡ t.file → (before now : ℕ) → now + read_to c ≤ before + read_to d → read_to d ≤ f.size c.file.n → now + due f links new ≤ before + due f links old
  reads-pays file before now pays most =
      let both = due-both in
      let size : f.size c.file.n ≡ f.size t.file.n = ap (λ each. f.size each.n) file in
      let most_here : read_to d ≤ f.size t.file.n = subst (λ (n : ℕ). read_to d ≤ n) size most in
      let less : now + (f.size t.file.n - read_to d) ≤ before + (f.size t.file.n - read_to c) = sums before now (f.size t.file.n) (read_to c) (read_to d) pays most_here in
      due-stays f links (Track t) old new before now is.at is.same (omega (arith, less, both.0, both.1))

  -- The call fails.
  pub refused-pays : c.file ≡ t.file → (before now : ℕ) (result : Result (Option LaneStep) ReadEnd) → IsErr result → now + read_to c ≤ before + read_to d + f.size c.file.n → read_to d ≤ f.size c.file.n → Pays f links old new before now result
  refused-pays file before now (Ok turn) err pays most = absurd (cc)
  refused-pays file before now (Err end) err pays most =
      let size : f.size c.file.n ≡ f.size t.file.n = ap (λ each. f.size each.n) file in
      let small : f.size t.file.n ≤ files_length f links = length-at f links old.at (Track t) is.at in
      let less : now + due f links new ≤ before + f.size c.file.n + due f links old = reads-pays file (before + f.size c.file.n) now (omega arith) most in
      omega arith

-- ---- end of its file

module _ (f : LiveFiles) (scale : ℕ) (links : List Link) (t : TrackLink) (old new : Walk) (c : Reading) (at : slice_get links old.at ≡ Some (Track t)) (cursor : old.cursor ≡ Some c) (has : HasLeft (length links) old new) where
  pub turns-ends : (r : ToldDamages) → left_of (octets_in f t.file.n) c ≡ [] → slice_get old.told.items old.at ≡ Some r → length old.told.items ≡ length links → Turns f scale links old new (Ok None)
  turns-ends r none here long = record {
    blocks = left-leaves f scale links old new (track_behind t old.frames old.stopped (left_of (octets_in f t.file.n) c)) leaves
        (ap (λ es. given_blocks scale (track_behind t old.frames old.stopped es)) none ∙ end-blocks scale t old.frames old.stopped);
    damages = told-leaves f links old new (track_behind t old.frames old.stopped (left_of (octets_in f t.file.n) c)) r leaves (ap (λ es. (track_behind t old.frames old.stopped es).damages) none) here long;
  }
    where
      leaves : Leaves f links old new (track_behind t old.frames old.stopped (left_of (octets_in f t.file.n) c))
      leaves = record {
        was = links_left-at f links old (Track t) at ∙ ap (λ each. track_left f t old.frames old.stopped each ∷ later f links old.at) cursor;
        left = has;
        stops = ap (λ es. (track_behind t old.frames old.stopped es).stops) none ∙ end-stops t old.frames old.stopped;
      }

  pub ends-on : way links new < way links old
  ends-on = way-leaves links (Track t) old new at has (let was : track_way t old.cursor ≡ track_way t (Some c) = ap (track_way t) cursor in omega arith)

  pub ends-pays : (d : Reading) → c.file ≡ t.file → (before now : ℕ) → now + read_to c ≤ before + read_to d → read_to d ≤ f.size c.file.n → now + due f links new ≤ before + due f links old
  ends-pays d file before now pays most =
      let was : track_due f t old.cursor ≡ f.size t.file.n - read_to c = ap (track_due f t) cursor in
      let size : f.size c.file.n ≡ f.size t.file.n = ap (λ each. f.size each.n) file in
      due-leaves f links (Track t) old new before now at has (omega (arith, pays, most, size, was))

-- ---- start of its file

module _ (f : LiveFiles) (scale : ℕ) (links : List Link) (t : TrackLink) (old new : Walk) (d : Reading) (at : slice_get links old.at ≡ Some (Track t)) (before : old.cursor ≡ None) (is : new ≡ record old { cursor = Some d }) where
  opened_same : new.at ≡ old.at
  opened_same = ap (λ (w : Walk). w.at) is

  opened_at : slice_get links new.at ≡ Some (Track t)
  opened_at = ap (slice_get links) opened_same ∙ at

  opened_now : new.cursor ≡ Some d
  opened_now = ap (λ (w : Walk). w.cursor) is

  pub turns-opened : old.frames ≡ 0 → old.stopped ≡ false → left_of (octets_in f t.file.n) d ≡ track_events f t → Turns f scale links old new (Ok None)
  turns-opened frames stopped begins = record {
    blocks = left-passes f scale links old new (given_in f (Track t)) (given_in f (Track t)) stays refl (ap (λ (w : Walk). w.greatest) is);
    damages = told-passes f links old new (given_in f (Track t)) (given_in f (Track t)) stays refl (ap (λ (w : Walk). w.told) is);
  }
    where
      stays : Stays f links old new (given_in f (Track t)) (given_in f (Track t))
      stays = record {
        rest = later f links old.at;
        was = links_left-at f links old (Track t) at ∙ ap (λ each. track_left f t old.frames old.stopped each ∷ later f links old.at) before;
        now =
            links_left-at f links new (Track t) opened_at
            ∙ ap (λ each. track_left f t new.frames new.stopped each ∷ later f links new.at) opened_now
            ∙ ap (λ (k : ℕ). track_behind t new.frames new.stopped (left_of (octets_in f t.file.n) d) ∷ later f links k) opened_same
            ∙ ap (λ (st : Bool). track_behind t new.frames st (left_of (octets_in f t.file.n) d) ∷ later f links old.at) (ap (λ (w : Walk). w.stopped) is ∙ stopped)
            ∙ ap (λ (k : ℕ). track_behind t k false (left_of (octets_in f t.file.n) d) ∷ later f links old.at) (ap (λ (w : Walk). w.frames) is ∙ frames)
            ∙ ap (λ (es : List Event). track_behind t 0 false es ∷ later f links old.at) begins;
        stops = refl;
        at = opened_same;
      }

  pub opened-on : d.place.end ≤ t.outline.value.total → way links new < way links old
  opened-on within = way-stays links (Track t) old new at opened_same
      (let was : track_way t old.cursor ≡ track_way t None = ap (track_way t) before in
      let will : track_way t new.cursor ≡ track_way t (Some d) = ap (track_way t) opened_now in
      omega arith)

  pub opened-pays : (read : ℕ) → read + due f links new ≤ read + due f links old
  opened-pays read = due-stays f links (Track t) old new read read at opened_same
      (let was : track_due f t old.cursor ≡ f.size t.file.n = ap (track_due f t) before in
      let will : track_due f t new.cursor ≡ f.size t.file.n - read_to d = ap (track_due f t) opened_now in
      omega arith)

  pub ready-opened : IsReady f links old → CanRead f d → d.file ≡ t.file → IsReady f links new
  ready-opened ready can file = record {
    files = ready.files;
    here =
        let there : IsAt f (Some d) (slice_get links new.at) = subst (IsAt f (Some d)) (sym opened_at) (can, file) in
        subst (λ each. IsAt f each (slice_get links new.at)) (sym opened_now) there;
    told = ap (λ (w : Walk). length w.told.items) is ∙ ready.told;
    stopped = λ none. absurd (cc);
    frames =
        let none : old.frames ≡ 0 = subst (HasCounted old.frames) before ready.frames in
        let same : new.frames ≡ old.frames = ap (λ (w : Walk). w.frames) is in
        let few : new.frames ≤ 256 * d.place.at = omega arith in
        subst (HasCounted new.frames) (sym opened_now) few;
  }

-- ---- a turn in a text

-- The walk went on by one entry of the text.
pub record ReadsText (links : List Link) (t : TextLink) (old new : Walk) (e : Entry) : Type 0 where
  pub at : slice_get links old.at ≡ Some (Entries t)
  pub same : new.at ≡ old.at
  pub here : slice_get t.entries old.next ≡ Some e
  pub next : new.next ≡ old.next + 1
  pub told : new.told ≡ old.told

module _ {links : List Link} {t : TextLink} {old new : Walk} {e : Entry} (is : ReadsText links t old new e) where
  text_new : slice_get links new.at ≡ Some (Entries t)
  text_new = ap (slice_get links) is.same ∙ is.at

  -- The last block is the entry.
  pub text-here : lent_in links new ≡ text_lent e.text new.placed
  text-here =
      ap (lent_by new) text_new
      ∙ ap (λ (k : ℕ). text_lent (text_of (slice_get t.entries k)) new.placed) (let one : new.next - 1 ≡ old.next = omega (arith, is.next) in one)
      ∙ ap (λ each. text_lent (text_of each) new.placed) is.here

  pub text-on : way links new < way links old
  text-on = way-stays links (Entries t) old new is.at is.same (let inside : old.next < length t.entries = slice_get_within t.entries old.next e is.here in omega (arith, is.next))

  pub text-pays : (f : LiveFiles) → due f links new ≤ due f links old
  text-pays f = let less : 0 + due f links new ≤ 0 + due f links old = due-stays f links (Entries t) old new 0 0 is.at is.same (omega arith) in omega arith

module _ (f : LiveFiles) (scale : ℕ) {links : List Link} {t : TextLink} {old new : Walk} {e : Entry} (is : ReadsText links t old new e) where
  text-stays : Stays f links old new (text_with t (e ∷ drop (suc old.next) t.entries)) (text_with t (drop (suc old.next) t.entries))
  text-stays = record {
    rest = later f links old.at;
    was = links_left-at f links old (Entries t) is.at ∙ ap (λ es. text_with t es ∷ later f links old.at) (drop-at t.entries old.next e is.here);
    now =
        links_left-at f links new (Entries t) (text_new is)
        ∙ ap (λ (k : ℕ). text_with t (drop k t.entries) ∷ later f links new.at) (is.next ∙ add-one old.next)
        ∙ ap (λ (k : ℕ). text_with t (drop (suc old.next) t.entries) ∷ later f links k) is.same;
    stops = refl;
    at = is.same;
  }

  -- The entry is dropped.
  pub text-other : new.greatest ≡ old.greatest → entry_placed scale t e ≡ [] → Turns f scale links old new (Ok None)
  text-other greatest none = record {
    blocks = left-passes f scale links old new _ _ text-stays (ap (λ bs. bs ++ given_blocks scale (text_with t (drop (suc old.next) t.entries))) none) greatest;
    damages = told-passes f links old new _ _ text-stays refl is.told;
  }

  -- The entry is placed.
  pub text-gives : IsPlaced (entry_placed scale t e) old.greatest (text_lent e.text new.placed) → new.greatest ≡ new.placed.head.order → Turns f scale links old new (Ok (Some ABlock))
  text-gives placed greatest = record {
    blocks =
        left-gives f scale links old new _ _ (text_lent e.text new.placed) text-stays (ap (λ bs. bs ++ given_blocks scale (text_with t (drop (suc old.next) t.entries))) placed.block) placed.order greatest
        ∙ ap (λ l. lent_ordered l ∷ left f scale links new) (sym (text-here is));
    damages = told-passes f links old new _ _ text-stays refl is.told;
  }

-- ---- end of a text

module _ (f : LiveFiles) (scale : ℕ) (links : List Link) (t : TextLink) (old new : Walk) (at : slice_get links old.at ≡ Some (Entries t)) (past : slice_get t.entries old.next ≡ None) (has : HasLeft (length links) old new) where
  pub turns-text_ends : (r : ToldDamages) → old.stopped ≡ false → slice_get old.told.items old.at ≡ Some r → length old.told.items ≡ length links → Turns f scale links old new (Ok None)
  turns-text_ends r stopped here long = record {
    blocks = left-leaves f scale links old new (text_with t []) leaves refl;
    damages = told-leaves f links old new (text_with t []) r leaves refl here long;
  }
    where
      leaves : Leaves f links old new (text_with t [])
      leaves = record {
        was = links_left-at f links old (Entries t) at ∙ ap (λ es. text_with t es ∷ later f links old.at) (drop-past t.entries old.next past);
        left = has;
        stops = sym stopped;
      }

pub text_ends-on : (links : List Link) (t : TextLink) (old new : Walk) → slice_get links old.at ≡ Some (Entries t) → HasLeft (length links) old new → way links new < way links old
text_ends-on links t old new at has = way-leaves links (Entries t) old new at has (omega arith)

pub text_ends-pays : (f : LiveFiles) (links : List Link) (t : TextLink) (old new : Walk) → slice_get links old.at ≡ Some (Entries t) → HasLeft (length links) old new → due f links new ≤ due f links old
text_ends-pays f links t old new at has = let less : 0 + due f links new ≤ 0 + due f links old = due-leaves f links (Entries t) old new 0 0 at has (omega arith) in omega arith

-- ---- the last block can be written

pub lends-here : (scale : ℕ) (links : List Link) (w : Walk) (l : Lent) → lent_in links w ≡ l → IsLent l → HasFewTicks scale w.placed → w.greatest ≡ w.placed.head.order → LendsBlock scale links w
lends-here scale links w l here lends ticks greatest = record { lent = subst IsLent (sym here) lends; ticks = ticks; order = sym greatest }
