-- An output that takes the blocks of a merge: the block ahead is written, then the next one is read.
use Rattle.std.proofs.Common.{◌≡◌, ◌≤◌, ◌<◌, ◌^◌, max, IfSome, ℕ, ◌+◌, Bool, true, false, List, [], ◌∷◌, length, Option, Some, None, Result, Ok, Err, refl, sym, ◌∙◌, ap, subst, arith, map, ap₂, ◌++◌, take, append-nil, ◌*◌}
use Rattle.std.specs.Prelude.{if◌then◌else◌, is_some}
use Rattle.std.proofs.lemmas.List.{drop_all, length-map, take_all}
use Rattle.std.specs.List.{All}
use Rattle.std.specs.Option.{option_map}
use Rattle.std.proofs.lemmas.List.Elements.{All-head, All-tail}
use Rattle.mkv_io.specs.Faults.{counted, last_count}
use Rattle.mkv_io.specs.LiveFiles.{LiveFiles}
use Rattle.mkv_io.specs.Names.{Names}
use Rattle.mkv_io.specs.Sources.{live_files}
use Rattle.mkv_io.specs.Writing.{KeepsOthers}
use Rattle.mkv_io.specs.declared.outside.FileId.{FileId}
use Rattle.tree_format.specs.Node.{Node}
use Rattle.mkv_io.specs.declared.reads.Reads.{Ghosts}
use Rattle.mkv_io.specs.declared.files.Files as writing
use Rattle.mkv_io.proofs.WritingLemmas.{KeepsOthers-then, UsesOnly-standing}
use Rattle.mkv_io.specs.declared.remux_end.RemuxEnd.{RemuxEnd}
use Rattle.output_model.specs.Duration.{end_of_block, end_of_blocks}
use Rattle.output_model.specs.OutputBlock.{OutputBlock}
use Rattle.output_model.specs.Document.{Document}
use Rattle.cues_seekhead.specs.OpenOutput.{IsOpen, OpenOutput}
use Rattle.cues_seekhead.specs.Draft.{StandsDrafted, draft_of}
use Rattle.cues_seekhead.proofs.OpenLemmas.{StandsOpen-read}
use Rattle.cluster_writer.specs.Gathered.{Gathered}
use Rattle.output_model.specs.Cued.{is_cue}
use Rattle.remuxer.specs.Stands.{Adds, HasAll, Stands, counted_with}
use Rattle.remuxer.specs.Stands as runs
use Rattle.remuxer.proofs.StandsLemmas.{stands-drafted}
use Rattle.output_model.specs.declared.durations.Durations.{Durations}
use Rattle.output_model.specs.declared.rule.CueRule.{CueRule}
use Rattle.cluster_reader.specs.ToldDamages.{ToldDamages}
use Rattle.lanes.specs.Lane.{LaneSeen}
use Rattle.lanes.specs.Lane as lanes
use Rattle.lanes.specs.Told.{with_all}
use Rattle.merge_model.specs.Lanes.{lane_damages}
use Rattle.lanes.specs.Walks.{links_left}
use Rattle.time_merge.specs.Laws.{IsApart, StandsAmong}
use Rattle.time_merge.specs.Merge.{IsEnded, MergeSeen, damages_of, left}
use Rattle.time_merge.specs.declared.queue.Queue.{Queue}
use Rattle.time_merge.proofs.KeptLemmas.{apart-kept, keeps-merge, stands-kept}
use Rattle.time_merge.proofs.QueueLemmas.{apart-same, count-kept}
use Rattle.splitter.specs.Sections.{in_part, within}
use Rattle.splitter.specs.Steps.{CutsSeen, start_of}
use Rattle.splitter.specs.declared.cuts.Place.{Place}
use Rattle.splitter.specs.declared.cuts.Place.TheVariants.{Same, Next, Out}
use Rattle.remuxer.specs.declared.counts.Counts.{Counts}
use Rattle.remuxer.specs.declared.placed.Ahead.{Ahead}
use Rattle.remuxer.specs.Places.{CanGive, IsEnd, StandsAhead, StandsAt, ahead_at, ahead_of, block_lent, first_tick, is_same, is_within, lent_ahead, part_in, rest_of_part, split_in, start_in, turns_with}
use Rattle.remux_plan.specs.declared.output.OutputSpec.{OutputSpec}
use Rattle.remuxer.specs.Output.{Ends, FillsPart, chapters_cut}
use Rattle.remuxer.specs.Taking.{BeginsNone, CanTake, Goes, GoesOn, IsOver, Leaves, StaysDraft, StaysOnTheWay, TakesNext, TakesSome, WritesInto, end_with, left_of_part}
use Rattle.remuxer.specs.declared.placed.PlacedBlocks.{PlacedBlocks}
use Rattle.remuxer.specs.declared.writer.BlockWriter.{BlockWriter}
use Rattle.remuxer.proofs.PartLemmas.{is-end}
use Rattle.remuxer.proofs.StepLemmas.{behind-ahead, behind-same, gives-same, lent-one, parts-same, rest-none, rest-same, rest-within}

-- ---- files that were only read

-- The files' state, names, holders and requests are unchanged.
pub record OnlyRead {S : Type 0} (r : Ghosts S) (f : writing.Ghosts S) (old new : S) : Type 0 where
  pub standing : r.standing new ≡ r.standing old
  pub names : f.names new ≡ f.names old
  pub holders : (file : ℕ) → f.holder new file ≡ f.holder old file
  pub given : f.given new ≡ f.given old
  pub asked : f.asked new ≡ f.asked old

-- The files' names, holders and requests are functions of the state that reading keeps.
pub only-read : {S : Type 0} (r : Ghosts S) (f : writing.Ghosts S) (old new : S) → r.standing new ≡ r.standing old → ((a b : S) → r.standing a ≡ r.standing b → f.names a ≡ f.names b)
    → ((a b : S) → r.standing a ≡ r.standing b → (file : ℕ) → f.holder a file ≡ f.holder b file) → ((a b : S) → r.standing a ≡ r.standing b → f.given a ≡ f.given b)
    → ((a b : S) → r.standing a ≡ r.standing b → f.asked a ≡ f.asked b) → OnlyRead r f old new
only-read r f old new same names holders given asked = record { standing = same; names = names new old same; holders = holders new old same; given = given new old same; asked = asked new old same }

module _ {S : Type 0} (r : Ghosts S) (f : writing.Ghosts S) (old new : S) (read : OnlyRead r f old new) where
  pub files-same : live_files r new ≡ live_files r old
  files-same = ap r.files read.standing

  pub read-keeps : (names : List (List ℕ)) → KeepsOthers r f names old new
  read-keeps names = UsesOnly-standing r f [] names old new read.standing read.given (λ file live. read.holders file) read.asked

  -- Nothing was written to an open output.
  pub read-writes : {T : Type 0} (w : BlockWriter) (done : T) → IsOpen r old w.out → WritesInto r f old new w w (Ok done)
  read-writes w done is_open = record {
    file = refl;
    durations = refl;
    is_open = record {
      live = ap (λ (s : LiveFiles). s.live w.out.file.n) files-same ∙ is_open.live;
      size = ap (λ (s : LiveFiles). s.size w.out.file.n) files-same ∙ is_open.size;
    };
    kept = read-keeps (f.holder old w.out.file.n ∷ []);
  }

  -- The output is unchanged.
  stands-read : (before : Names) (name : List ℕ) (rules : List CueRule) (d : Document) (o : OpenOutput) (g : Gathered) (n : Counts) (left : List OutputBlock) → Stands r f before name rules d old o g n left → Stands r f before name rules d new o g n left
  stands-read before name rules d o g n left stands = record {
    done = stands.done;
    cluster = stands.cluster;
    cut = stands.cut;
    cues = stands.cues;
    holds = stands.holds;
    counts = stands.counts;
    stands = StandsOpen-read r f before name d.front _ old new o read.standing read.names (read.holders o.file.n) stands.stands;
  }

-- ---- a block is added

pub takes-lent : {S T : Type 0} (r : Ghosts S) (f : writing.Ghosts S) (rules : List CueRule) (b lent : OutputBlock) (cued begins : Bool) (old new : S) (w w' : BlockWriter) (done : T) → b ≡ lent → cued ≡ is_cue rules lent
    → w'.counts ≡ counted_with begins cued w.counts → Adds {E = RemuxEnd} r f b cued old new w.out w'.out w.buffer w'.buffer (Ok begins) → TakesNext r f rules lent old new w w' (Ok done)
takes-lent r f rules b lent cued begins old new w w' done same cue counts adds = λ left before name d stands.
    let P : OutputBlock → Type 0 = λ x. Stands r f before name rules d old w.out w.buffer w.counts (x ∷ left) in
    let Q : Counts → Type 0 = λ n. Stands r f before name rules d new w'.out w'.buffer n left in
    subst Q (sym counts) (adds before name rules d w.counts left (cue ∙ ap (is_cue rules) (sym same)) (subst P (sym same) stands))

-- The block couldn't be added.
pub refused-lent : {S : Type 0} (T : Type 0) (r : Ghosts S) (f : writing.Ghosts S) (rules : List CueRule) (b lent : OutputBlock) (cued : Bool) (old new : S) (w w' : BlockWriter) (end : RemuxEnd) → b ≡ lent
    → Adds r f b cued old new w.out w'.out w.buffer w'.buffer (Err end) → TakesNext {T = T} r f rules lent old new w w' (Err end)
refused-lent T r f rules b lent cued old new w w' end same adds = λ left before name d stands.
    let P : OutputBlock → Type 0 = λ x. Stands r f before name rules d old w.out w.buffer w.counts (x ∷ left) in
    adds before name rules d w.counts left (subst P (sym same) stands)

-- A read failed.
pub read-drafted : {S : Type 0} (r : Ghosts S) (f : writing.Ghosts S) (rules : List CueRule) (a b : S) (w : BlockWriter) (was : List OutputBlock) → OnlyRead r f a b → StaysDraft r f rules was a b w
read-drafted r f rules a b w was read before name d stands =
    let P : Names → Type 0 = λ names. StandsDrafted before names (draft_of name d) in
    subst P (sym read.names) (stands-drafted r f before name rules d a w.out w.buffer w.counts was stands)

-- ---- the block ahead is written, and the next one is read

-- Counts add up.
counted-next : (n k : ℕ) → counted (counted n 1) k ≡ counted n (1 + k)
counted-next n k = grind arith

counted-few : (n k : ℕ) → counted n k ≤ last_count
counted-few n k = grind arith

few-more : (n m k : ℕ) → m ≡ counted n k → m ≤ last_count
few-more n m k is = let few = counted-few n k in omega (arith, is, few)

-- The greatest end is found one block at a time.
later-end : (d : Durations) (end : ℕ) (b : OutputBlock) (bs : List OutputBlock) → end_with d (end_with d end (b ∷ [])) bs ≡ end_with d end (b ∷ bs)
later-end d end b bs = latest end (end_of_block d b) (end_of_blocks d bs)
  where
    latest : (x y z : ℕ) → max (max x (max y 0)) z ≡ max x (max y z)
    latest x y z = omega arith

-- A block of the current part begins none.
within-begins : (o : Option Ahead) → is_within o ≡ true → BeginsNone o
within-begins None is = absurd (cc)
within-begins (Some a) is = either a.place is
  where
    either : (place : Place) → is_some (if is_same place then Some a.lane else None) ≡ true → start_in place ≡ None
    either Same in_it = refl
    either (Next start) in_it = absurd (cc)
    either Out in_it = refl

module _ {S : Type 0} (r : Ghosts S) (f : writing.Ghosts S) (rules : List CueRule) (start n : ℕ) (starts : start ≡ n) (a b : S) (w w' : BlockWriter) (p : PlacedBlocks) (x : OutputBlock) (in_it : is_within p.ahead ≡ true) (one : lent_ahead p ≡ x ∷ []) where
  -- the next blocks of its part
  others : List OutputBlock
  others = map (in_part n) (within (split_in p) (start_of p.cuts) p.cuts.load (left (live_files r a) p.merge))

  first-left : left_of_part (live_files r a) n p ≡ in_part start x ∷ others
  unfolding others
  first-left =
      ap (map (in_part n)) (rest-within (live_files r a) p in_it ∙ ap (λ (first : List OutputBlock). first ++ within (split_in p) (start_of p.cuts) p.cuts.load (left (live_files r a) p.merge)) one)
      ∙ ap (λ (k : ℕ). in_part k x ∷ others) (sym starts)

  -- The block couldn't be written.
  pub lent-drafted : ((more : List OutputBlock) → StaysDraft r f rules (in_part start x ∷ more) a b w) → StaysDraft r f rules (left_of_part (live_files r a) n p) a b w
  lent-drafted drafted before name d stands =
      let P : List OutputBlock → Type 0 = λ bs. Stands r f before name rules d a w.out w.buffer w.counts bs in
      drafted others before name d (subst P first-left stands)

  module _ (takes : (more : List OutputBlock) → StaysOnTheWay r f rules (in_part start x ∷ more) more a b w w') (c : S) (read : OnlyRead r f b c) where
    -- The next one couldn't be read.
    pub next-drafted : StaysDraft r f rules (left_of_part (live_files r a) n p) a c w
    next-drafted before name d stands =
        let P : List OutputBlock → Type 0 = λ bs. Stands r f before name rules d a w.out w.buffer w.counts bs in
        read-drafted r f rules b c w' others read before name d (takes others before name d (subst P first-left stands))

    -- The next one was read.
    pub some-next : (p' : PlacedBlocks) → left (live_files r b) p.merge ≡ left (live_files r a) p.merge → w'.blocks ≡ counted w.blocks 1 → w'.durations ≡ w.durations → w'.end ≡ end_with w.durations w.end (in_part start x ∷ [])
        → Leaves (live_files r b) (live_files r c) p p' → TakesSome r f rules n a c w w' p p'
    some-next p' same count durations end leaves =
        let rest = rest_of_part (live_files r c) p' in
        let is : rest_of_part (live_files r a) p ≡ x ∷ rest = sym (rest-same (live_files r a) (live_files r b) p same) ∙ leaves.rest in_it ∙ ap (λ (first : List OutputBlock). first ++ rest) one in
        let first : left_of_part (live_files r a) n p ≡ in_part start x ∷ map (in_part n) rest = ap (map (in_part n)) is ∙ ap (λ (k : ℕ). in_part k x ∷ map (in_part n) rest) (sym starts) in
        record {
          stands = λ before name d stands.
              let P : List OutputBlock → Type 0 = λ bs. Stands r f before name rules d a w.out w.buffer w.counts bs in
              stands-read r f b c read before name rules d w'.out w'.buffer w'.counts (map (in_part n) rest) (takes (map (in_part n) rest) before name d (subst P first stands));
          behind = leaves.behind in_it ∙ behind-same (live_files r a) (live_files r b) p same;
          parts = leaves.parts (within-begins p.ahead in_it) ∙ parts-same (live_files r a) (live_files r b) p same;
          count =
              ap (λ (k : ℕ). counted k (length rest)) count ∙ counted-next w.blocks (length rest)
              ∙ sym (ap (λ (bs : List OutputBlock). counted w.blocks (length bs)) is ∙ ap (counted w.blocks) (let more : length (x ∷ rest) ≡ 1 + length rest = omega arith in more));
          few = λ le. few-more w.blocks w'.blocks 1 count;
          end =
              ap₂ (λ (d : Durations) (k : ℕ). end_with d k (map (in_part n) rest)) durations end ∙ later-end w.durations w.end (in_part start x) (map (in_part n) rest)
              ∙ ap (end_with w.durations w.end) (sym first);
        }

-- ---- turns

pub within-turns : (n : ℕ) (o : Option Ahead) → is_within o ≡ true → turns_with n o ≡ n + 1
within-turns n None is = absurd (cc)
within-turns n (Some a) is = refl

pub none-turns : (n : ℕ) (o : Option Ahead) → is_within o ≡ is_some o → is_within o ≡ false → turns_with n o ≡ n
none-turns n None is isnt = refl
none-turns n (Some a) is isnt = let some : true ≡ false = sym is ∙ isnt in absurd (cc)

pub least-turns : (n : ℕ) (o : Option Ahead) → n ≤ turns_with n o
least-turns n None = omega arith
least-turns n (Some a) = omega arith

-- ---- after some calls

-- The output can take more blocks.
pub can-again : {S : Type 0} (r : Ghosts S) (f : writing.Ghosts S) (a b : S) (w w' : BlockWriter) (p p' : PlacedBlocks) → CanTake r f a w p → {T : Type 0} (done : T) → WritesInto r f a b w w' (Ok done) → GoesOn r 0 a b p p' → CanTake r f b w' p'
can-again r f a b w w' p p' can done writes goes =
    let P : List ℕ → Type 0 = λ name. IsApart (f.holder b) (name ∷ []) p'.merge in
    let named : f.holder b w'.out.file.n ≡ f.holder a w.out.file.n = ap (λ id. f.holder b id.n) writes.file ∙ writes.kept.holders w.out.file.n can.is_open.live in
    record {
      is_open = writes.is_open;
      gives = goes.gives;
      apart = subst P (sym named) (apart-same (f.holder b) (f.holder a w.out.file.n ∷ []) p.merge p'.merge goes.lanes (apart-kept r f (f.holder a w.out.file.n ∷ []) a b p.merge writes.kept can.gives.ready can.apart));
      scale = let some = can.scale in let same = ap (λ (d : Durations). d.scale) writes.durations in omega (arith, some, same);
    }

-- Two calls make one.
pub goes-then : {S : Type 0} (r : Ghosts S) (m n : ℕ) (a b c : S) (p q q' : PlacedBlocks) → GoesOn r m a b p q → GoesOn r n b c q q' → GoesOn r (m + n) a c p q'
goes-then r m n a b c p q q' first next = record {
  lanes = next.lanes ∙ first.lanes;
  split = next.split ∙ first.split;
  gives = next.gives;
  length = next.length ∙ first.length;
  paid = let one = first.paid in let other = next.paid in omega (arith, one, other);
  told = λ told.
      let here = first.told told in
      let there = next.told here.told in
      record { told = there.told; damages = there.damages ∙ here.damages };
}

-- The second call reads only bytes that are due.
pub goes-more : {S : Type 0} (r : Ghosts S) (more : ℕ) (a b c : S) (p q q' : PlacedBlocks) → GoesOn r more a b p q → GoesOn r 0 b c q q' → GoesOn r more a c p q'
goes-more r more a b c p q q' first next =
    let same : more + 0 ≡ more = omega arith in
    subst (λ (n : ℕ). GoesOn r n a c p q') same (goes-then r more 0 a b c p q q' first next)

-- Blocks were taken by two calls.
pub some-then : {S : Type 0} (r : Ghosts S) (f : writing.Ghosts S) (rules : List CueRule) (start : ℕ) (a b c : S) (w v u : BlockWriter) (l m n : PlacedBlocks)
    → TakesSome r f rules start a b w v l m → TakesSome r f rules start b c v u m n → TakesSome r f rules start a c w u l n
some-then r f rules start a b c w v u l m n first next = record {
  stands = λ before name d stands. next.stands before name d (first.stands before name d stands);
  behind = next.behind ∙ first.behind;
  parts = next.parts ∙ first.parts;
  count = next.count ∙ first.count;
  few = λ le. next.few (first.few le);
  end = next.end ∙ first.end;
}

-- No block was taken.
pub some-none : {S : Type 0} (r : Ghosts S) (f : writing.Ghosts S) (rules : List CueRule) (start : ℕ) (a : S) (w : BlockWriter) (p : PlacedBlocks) → TakesSome r f rules start a a w w p p
some-none r f rules start a w p = record { stands = λ before name d stands. stands; behind = refl; parts = refl; count = refl; few = λ le. le; end = refl }

-- ---- all output tracks have ended

-- An output track that has ended has reported all its damaged places.
lane-told : (f : LiveFiles) (l : LaneSeen) → lanes.IsReady f l → lanes.IsEnded l → lanes.told_in_all f l ≡ l.walk.told.items
lane-told f l ready ended =
    let told = l.walk.told.items in
    let past : length told ≤ l.walk.at = omega (arith, ready.told, ended) in
    ap (λ ts. take l.walk.at told ++ with_all ts (lane_damages (links_left f l.links l.walk))) (drop_all l.walk.at told past) ∙ append-nil (take l.walk.at told) ∙ take_all l.walk.at told past

ended-told : (f : LiveFiles) (qs : List Queue) → All (λ (q : Queue). lanes.IsReady f q.lane) qs → All (λ (q : Queue). lanes.IsEnded q.lane) qs → map (λ (q : Queue). q.lane.walk.told.items) qs ≡ damages_of f qs
ended-told f [] ready ended = refl
ended-told f (q ∷ qs) ready ended =
    let here = All-head (λ (each : Queue). lanes.IsReady f each.lane) q qs ready in
    ap₂ (λ (d : List ToldDamages) ds. d ∷ ds) (sym (lane-told f q.lane here (All-head (λ (each : Queue). lanes.IsEnded each.lane) q qs ended)))
    (ended-told f qs (All-tail (λ (each : Queue). lanes.IsReady f each.lane) q qs ready) (All-tail (λ (each : Queue). lanes.IsEnded each.lane) q qs ended))

pub merge-ends : {S : Type 0} (r : Ghosts S) (more : ℕ) (a b : S) (p p' : PlacedBlocks) → GoesOn r more a b p p' → IsEnded p'.merge → Ends (live_files r a) p.merge p'.merge
merge-ends r more a b p p' goes ended = record {
  lanes = count-kept p.merge.queues p'.merge.queues goes.lanes;
  damages = λ told. ended-told (live_files r b) p'.merge.queues goes.gives.ready ended ∙ (goes.told told).damages;
}

-- ---- writes after the last block

-- The merge is unchanged.
pub among-goes : {S : Type 0} (r : Ghosts S) (more : ℕ) (a b : S) (p : PlacedBlocks) → CanGive (live_files r a) p → StandsAmong (live_files r a) (live_files r b) p.merge → r.octets_read b ≤ r.octets_read a + more → GoesOn r more a b p p
among-goes r more a b p gives among octets = record {
  lanes = refl;
  split = refl;
  gives = gives-same (live_files r a) (live_files r b) p p gives refl among.ready refl refl;
  length = among.length;
  paid = let due = among.due in omega (arith, due, octets);
  told = λ told. record { told = among.told told; damages = among.damages };
}

module _ {S : Type 0} (r : Ghosts S) (f : writing.Ghosts S) (a b : S) (w : BlockWriter) (p : PlacedBlocks) (can : CanTake r f a w p) (kept : KeepsOthers r f (f.holder a w.out.file.n ∷ []) a b) (octets : r.octets_read b ≡ r.octets_read a) where
  rest-among : StandsAmong (live_files r a) (live_files r b) p.merge
  rest-among = stands-kept (live_files r a) (live_files r b) p.merge (keeps-merge r f (f.holder a w.out.file.n ∷ []) a b p.merge kept can.apart) can.gives.ready

  pub rest-left : left (live_files r b) p.merge ≡ left (live_files r a) p.merge
  rest-left = rest-among.left

  pub rest-goes : GoesOn r 0 a b p p
  rest-goes = among-goes r 0 a b p can.gives rest-among (omega (arith, octets))

-- A call is followed by one that may fail.
pub goes-result : {S T E : Type 0} (r : Ghosts S) (a b c : S) (p q q' : PlacedBlocks) (result : Result T E) → GoesOn r 0 a b p q → Goes r 0 b c q q' result → Goes r 0 a c p q' result
goes-result r a b c p q q' (Ok done) first next = goes-then r 0 0 a b c p q q' first next
goes-result r a b c p q q' (Err end) first next = let paid = first.paid in let long = first.length in omega (arith, paid, long, next)

-- Two calls write to one output.
pub writes-then : {S T U : Type 0} (r : Ghosts S) (f : writing.Ghosts S) (a b c : S) (w v u : BlockWriter) (done : T) (result : Result U RemuxEnd) → IsOpen r a w.out → WritesInto r f a b w v (Ok done) → WritesInto r f b c v u result → WritesInto r f a c w u result
writes-then r f a b c w v u done result is_open first next =
    let named : f.holder b v.out.file.n ≡ f.holder a w.out.file.n = ap (λ (id : FileId). f.holder b id.n) first.file ∙ first.kept.holders w.out.file.n is_open.live in
    let P : List ℕ → Type 0 = λ name. KeepsOthers r f (name ∷ []) b c in
    record {
      file = next.file ∙ first.file;
      durations = next.durations ∙ first.durations;
      is_open = next.is_open;
      kept = KeepsOthers-then r f (f.holder a w.out.file.n ∷ []) a b c first.kept (subst P named next.kept);
    }

-- The block after a part decides its end.
first-ahead : (m : MergeSeen) (c : CutsSeen) (o : Option Ahead) (bs : List OutputBlock) → StandsAt m c o → first_tick (ahead_of m o bs) ≡ first_tick (ahead_at m o)
first-ahead m c None bs stands = refl
first-ahead m c (Some a) bs ahead =
    let one = lent-one m a.lane ahead.lends.queue ahead.lends.here in
    ap (λ (first : List OutputBlock). first_tick (first ++ bs)) one ∙ sym (ap first_tick one)

-- The end isn't before the start.
pub ahead-end : (b : PlacedBlocks) (start : ℕ) → start * b.cuts.scale < 2 ^ 64 → StandsAhead b → IfSome (option_map (max start) (first_tick (lent_ahead b))) (IsEnd b.cuts.scale start)
ahead-end b start early stands = either b.ahead stands
  where
    either : (o : Option Ahead) → StandsAt b.merge b.cuts o → IfSome (option_map (max start) (first_tick (ahead_at b.merge o))) (IsEnd b.cuts.scale start)
    either None ended = tt
    either (Some a) ahead =
        subst (λ (bs : List OutputBlock). IfSome (option_map (max start) (first_tick bs)) (IsEnd b.cuts.scale start)) (sym (lent-one b.merge a.lane ahead.lends.queue ahead.lends.here))
        (is-end b.cuts.scale start (block_lent a.lane ahead.lends.queue.lane).tick early ahead.lends.early)

module _ {S : Type 0} (r : Ghosts S) (f : writing.Ghosts S) (o : OutputSpec) (rules : List CueRule) (a b : S) (w v : BlockWriter) (p p' : PlacedBlocks) (are : rules ≡ o.rules) (taken : TakesSome r f rules (start_of p.cuts) a b w v p p') (over : IsOver p p') where
  -- All blocks of a part were taken.
  all-taken : StaysOnTheWay r f o.rules (part_in (live_files r a) p).blocks [] a b w v
  all-taken before name d stands =
      let P : List CueRule → Type 0 = λ each. Stands r f before name each d a w.out w.buffer w.counts (part_in (live_files r a) p).blocks in
      let Q : List CueRule → Type 0 = λ each. Stands r f before name each d b v.out v.buffer v.counts [] in
      let L : List OutputBlock → Type 0 = λ bs. Stands r f before name rules d b v.out v.buffer v.counts (map (in_part (start_of p.cuts)) bs) in
      subst Q are (subst L (rest-none (live_files r b) p' over.behind) (taken.stands before name d (subst P (sym are) stands)))

  max-zero : (n : ℕ) → max n 0 ≡ n
  max-zero n = omega arith

  -- The last Cluster is written.
  pub fills-part : (c : S) (u : BlockWriter) (start : ℕ) (chapters : Option Node) (end : Option ℕ) → start ≡ start_of p.cuts → end ≡ option_map (max start) (first_tick (lent_ahead p')) → chapters ≡ chapters_cut o start end
      → left (live_files r c) p'.merge ≡ left (live_files r b) p'.merge → runs.Ends {T = Unit {0}} {E = RemuxEnd} r f b c v.out u.out v.buffer (Ok tt) → u.blocks ≡ v.blocks → u.counts ≡ v.counts → u.end ≡ v.end
      → FillsPart r f o a c w u p p' chapters
  fills-part c u start chapters end starts at cut same ends blocks counts lasts = record {
    all = λ before name d cues stands.
        subst (HasAll r f before name d c u.out) (sym counts) (ends before name o.rules d v.counts (all-taken before name d stands) cues);
    chapters_are =
        cut ∙ ap₂ (chapters_cut o) starts
        (at ∙ ap₂ (λ (n : ℕ) (tick : Option ℕ). option_map (max n) tick) starts
        (sym (ap first_tick (sym taken.behind ∙ behind-ahead (live_files r b) p' over.behind) ∙ first-ahead p'.merge p'.cuts p'.ahead (left (live_files r b) p'.merge) over.stands)));
    count =
        ap (λ (n : ℕ). counted n 0) blocks ∙ sym (ap (λ (bs : List OutputBlock). counted v.blocks (length bs)) (rest-none (live_files r b) p' over.behind)) ∙ taken.count
        ∙ ap (counted w.blocks) (sym (length-map (rest_of_part (live_files r a) p) (in_part (start_of p.cuts))));
    behind = parts-same (live_files r b) (live_files r c) p' same ∙ taken.parts;
    few = λ le. let most = taken.few le in omega (arith, blocks, most);
    end =
        lasts ∙ sym (max-zero v.end) ∙ sym (ap (λ (bs : List OutputBlock). end_with v.durations v.end (map (in_part (start_of p.cuts)) bs)) (rest-none (live_files r b) p' over.behind)) ∙ taken.end;
  }

  -- The last Cluster couldn't be written.
  pub fills-none : (now : S) → ((before : Names) (name : List ℕ) (d : Document) → Stands r f before name o.rules d b v.out v.buffer v.counts [] → StandsDrafted before (f.names now) (draft_of name d)) → StaysDraft r f o.rules (part_in (live_files r a) p).blocks a now w
  fills-none now drafted = λ before name d stands. drafted before name d (all-taken before name d stands)
