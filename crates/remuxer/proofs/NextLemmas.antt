-- The next block of a merge is ahead, or the next part was begun.
use Rattle.std.proofs.Common.{◌≡◌, ◌≤◌, ℕ, ◌+◌, ◌*◌, Bool, true, false, ◌&&◌, List, [], ◌∷◌, ◌++◌, Option, Some, None, Result, Ok, Err, refl, sym, ◌∙◌, ap, subst, arith}
use Rattle.std.specs.Prelude.{if◌then◌else◌, is_none, is_some}
use Rattle.std.specs.Option.{unwrap_or}
use Rattle.mkv_io.specs.declared.outside.ReadEnd.{ReadEnd}
use Rattle.mkv_io.specs.LiveFiles.{LiveFiles}
use Rattle.mkv_io.specs.Sources.{live_files}
use Rattle.mkv_io.specs.declared.reads.Reads.{Ghosts}
use Rattle.output_model.specs.OutputBlock.{OutputBlock}
use Rattle.time_merge.specs.Merge.{Gives, IsReady, IsTold, MergeSeen, Moves, damages, due, files_length, left, way}
use Rattle.time_merge.proofs.QueueLemmas.{length-same, told-kept}
use Rattle.splitter.specs.Sections.{Part, beyond, parts, parts_in, sections_at, within}
use Rattle.splitter.specs.Split.{keeps}
use Rattle.splitter.specs.declared.cuts.Place.{Place}
use Rattle.splitter.specs.declared.cuts.Place.TheVariants.{Same}
use Rattle.splitter.specs.Steps.{CutsSeen, is_kept, place_at, start_of}
use Rattle.cluster_writer.specs.Lengths.{octets_taken}
use Rattle.remuxer.proofs.PlacedLemmas.{PlacesOne}
use Rattle.remuxer.specs.declared.placed.Ahead.{Ahead}
use Rattle.remuxer.specs.Places.{CanGive, IsAhead, IsPartBegun, IsFresh, StandsAt, ahead_of, block_lent, is_same, is_within, lent_ahead, part_in, parts_from, parts_left, split_in, start_in, turns_with}
use Rattle.remuxer.specs.Taking.{Advances, BeginsNone, GoesOn, Leaves, LeavesAll}
use Rattle.remuxer.specs.Output.{FindsBehind, FindsFirst, FindsPart}
use Rattle.remuxer.specs.declared.placed.PlacedBlocks.{PlacedBlocks}
use Rattle.remuxer.proofs.PartLemmas.{fits-of, no-limit, part_from, parts-first, parts-passed, without-load}
use Rattle.remuxer.proofs.StepLemmas.{behind-within, gives-same, left-now, lent-one, on_to, parts-ahead, parts-on, parts-within, passed-kept, rest-within, step-ahead, step-all, step-gives, step-left, step-split, within-kept}

-- ---- a step that only reads

-- The merge goes on after it.
pub read-goes : {S : Type 0} (r : Ghosts S) (a b : S) (p p' : PlacedBlocks) (result : Option ℕ) → r.standing b ≡ r.standing a → Moves p.merge p'.merge (Ok result) → (IsTold (live_files r a) p.merge → Gives (live_files r a) p.merge p'.merge (Ok result))
    → split_in p' ≡ split_in p → CanGive (live_files r b) p' → r.octets_read b + due (live_files r a) p'.merge ≤ r.octets_read a + due (live_files r a) p.merge → GoesOn r 0 a b p p'
read-goes r a b p p' result same moves gives split can paid =
    let files : live_files r b ≡ live_files r a = ap r.files same in
    record {
      lanes = moves.keeps;
      split = split;
      gives = can;
      length = ap (λ (h : LiveFiles). files_length h p'.merge) files ∙ length-same (live_files r a) p.merge.queues p'.merge.queues moves.keeps;
      paid = let owed : due (live_files r b) p'.merge ≡ due (live_files r a) p'.merge = ap (λ (h : LiveFiles). due h p'.merge) files in omega arith;
      told = λ told. record {
        told = subst (λ (h : LiveFiles). IsTold h p'.merge) (sym files) (told-kept (live_files r a) p.merge.queues p'.merge.queues moves.keeps told);
        damages = ap (λ (h : LiveFiles). damages h p'.merge) files ∙ (gives told).damages;
      };
    }

-- The block ahead and the start don't decide whether blocks can be taken.
pub goes-idle : {S : Type 0} (r : Ghosts S) (a : S) (p : PlacedBlocks) (next : Option Ahead) (start : ℕ) → CanGive (live_files r a) p → GoesOn r 0 a a p (record p { ahead = next; start = start })
goes-idle r a p next start gives = record {
  lanes = refl;
  split = refl;
  gives = gives-same (live_files r a) (live_files r a) p (record p { ahead = next; start = start }) gives refl gives.ready refl refl;
  length = refl;
  paid = omega arith;
  told = λ told. record { told = told; damages = refl };
}

-- ---- the next block is ahead

-- The parts after a block that begins no part are the same.
parts-past : (f : LiveFiles) (p : PlacedBlocks) (was : Ahead) → CanGive f p → p.ahead ≡ Some was → IsAhead p.merge p.cuts was → start_in was.place ≡ None
    → parts_left f p ≡ parts_in (split_in p) (sections_at (split_in p) (beyond (split_in p) (start_of p.cuts) p.cuts.load (left f p.merge)))
parts-past f p was can is ahead none = either (is_within (Some was)) refl
  where
    either : (q : Bool) → is_within (Some was) ≡ q → parts_left f p ≡ parts_in (split_in p) (sections_at (split_in p) (beyond (split_in p) (start_of p.cuts) p.cuts.load (left f p.merge)))
    either true in_it = parts-within f p (ap is_within is ∙ in_it)
    either false isnt =
        let x = block_lent was.lane ahead.lends.queue.lane in
        let s = split_in p in
        let bs = left f p.merge in
        let out = passed-kept p.merge p.cuts was ahead none isnt in
        parts-ahead f p (ap is_within is ∙ isnt)
        ∙ ap (λ (o : Option Ahead). parts_from s (start_of p.cuts) (ahead_of p.merge o bs)) is
        ∙ ap (λ (first : List OutputBlock). parts_from s (start_of p.cuts) (first ++ bs)) (lent-one p.merge was.lane ahead.lends.queue ahead.lends.here)
        ∙ parts-passed s (start_of p.cuts) x bs out
        ∙ ap (λ (behind : List OutputBlock). parts_in s (sections_at s behind)) (without-load s (no-limit p.cuts.size p.cuts.spec (start_of p.cuts * p.cuts.scale) can.limit out) (start_of p.cuts) (octets_taken x) p.cuts.load bs)

-- Without a block, the section at the start is a part if it is written.
parts-none : (f h : LiveFiles) (p : PlacedBlocks) (m' : MergeSeen) (c' : CutsSeen) → IsFresh p → left f p.merge ≡ [] → c' ≡ p.cuts → LeavesAll f h p (on_to p m' c' None)
parts-none f h p m' c' fresh none same =
    ap (λ (c : CutsSeen). if keeps c.spec (start_of c * c.scale) then (let x : Part = record { start = start_of c; end = None; blocks = [] } in x) ∷ [] else []) same
    ∙ ap (λ (o : Option ℕ). if keeps p.cuts.spec (unwrap_or o 0 * p.cuts.scale) then (let x : Part = record { start = unwrap_or o 0; end = None; blocks = [] } in x) ∷ [] else []) fresh.placed
    ∙ sym (ap (parts (split_in p)) none)

module _ {S : Type 0} (r : Ghosts S) (a b : S) (p : PlacedBlocks) (m' : MergeSeen) (c' : CutsSeen) (same : r.standing b ≡ r.standing a) (can : CanGive (live_files r a) p) (ready : IsReady (live_files r b) m') where
  files : live_files r b ≡ live_files r a
  files = ap r.files same

  -- No block was ahead.
  leaves-none : (next : Option Ahead) → p.ahead ≡ None → Leaves (live_files r a) (live_files r b) p (on_to p m' c' next)
  leaves-none next is = record {
    rest = λ in_it. let isnt : is_within p.ahead ≡ false = ap is_within is in absurd (cc);
    behind = λ in_it. let isnt : is_within p.ahead ≡ false = ap is_within is in absurd (cc);
    parts = λ none. absurd (subst BeginsNone is none);
  }

  -- The merge has no more blocks.
  module _ (moves : Moves p.merge m' (Ok None)) (gives : IsTold (live_files r a) p.merge → Gives (live_files r a) p.merge m' (Ok None)) (same_cuts : c' ≡ p.cuts) where
    leaves-ended : (was : Option Ahead) → p.ahead ≡ was → StandsAt p.merge p.cuts was → left (live_files r a) p.merge ≡ [] → Leaves (live_files r a) (live_files r b) p (on_to p m' c' None)
    leaves-ended None is stands ended = leaves-none None is
    leaves-ended (Some was) is ahead ended =
        let s = split_in p in
        record {
          rest = λ in_it. rest-within (live_files r a) p in_it ∙ ap (λ (bs : List OutputBlock). lent_ahead p ++ within s (start_of p.cuts) p.cuts.load bs) ended;
          behind = λ in_it. sym (behind-within (live_files r a) p in_it ∙ ap (beyond s (start_of p.cuts) p.cuts.load) ended);
          parts = λ none. sym (parts-past (live_files r a) p was can is ahead (subst BeginsNone is none) ∙ ap (λ (bs : List OutputBlock). parts_in s (sections_at s (beyond s (start_of p.cuts) p.cuts.load bs))) ended);
        }

    pub advances-ended : Advances (live_files r a) (live_files r b) p (on_to p m' c' None)
    advances-ended = record {
      stands = moves.steps.ended;
      start = refl;
      on = moves.steps.on;
      same = λ none. same_cuts;
      left = λ stands told. leaves-ended p.ahead refl stands (gives told).blocks.0;
      all = λ fresh told. parts-none (live_files r a) (live_files r b) p m' c' fresh (gives told).blocks.0 same_cuts;
    }

    pub goes-ended : r.octets_read b + due (live_files r a) m' ≤ r.octets_read a + due (live_files r a) p.merge → GoesOn r 0 a b p (on_to p m' c' None)
    goes-ended paid =
        read-goes r a b p (on_to p m' c' None) None same moves gives (ap (λ (c : CutsSeen). split_in (on_to p m' c None)) same_cuts)
        (gives-same (live_files r a) (live_files r b) p (on_to p m' c' None) can moves.keeps ready refl same_cuts) paid

  -- The merge has a next block.
  module _ (next : Ahead) (moves : Moves p.merge m' (Ok (Some next.lane))) (gives : IsTold (live_files r a) p.merge → Gives (live_files r a) p.merge m' (Ok (Some next.lane))) (places : PlacesOne p.drives moves.steps.queue.lane p.cuts c' next) where
    leaves-next : (was : Option Ahead) → p.ahead ≡ was → StandsAt p.merge p.cuts was → IsTold (live_files r a) p.merge → Leaves (live_files r a) (live_files r b) p (on_to p m' c' (Some next))
    leaves-next None is stands told = leaves-none (Some next) is
    leaves-next (Some was) is ahead told =
        let f = live_files r a in
        let h = live_files r b in
        let s = split_in p in
        let bs = left f m' in
        let now : left h m' ≡ bs = ap (λ (each : LiveFiles). left each m') files in
        let started = ap (λ (o : Option ℕ). is_none o) ahead.started in
        let first = step-left f p m' c' next can moves.keeps moves.steps places (gives told).blocks in
        let kept = λ (in_it : is_within p.ahead ≡ true). within-kept p.merge p.cuts was ahead (sym (ap is_within is) ∙ in_it) in
        let behind = λ (k : is_kept p.cuts ≡ true). left-now f p m' c' next can moves.keeps moves.steps places h bs now started k in
        record {
          rest = λ in_it. rest-within f p in_it ∙ ap (λ (them : List OutputBlock). lent_ahead p ++ within s (start_of p.cuts) p.cuts.load them) first ∙ ap (λ (them : List OutputBlock). lent_ahead p ++ them) (behind (kept in_it)).rest;
          behind = λ in_it. sym (behind-within f p in_it ∙ ap (beyond s (start_of p.cuts) p.cuts.load) first ∙ (behind (kept in_it)).behind);
          parts = λ none. sym (parts-past f p was can is ahead (subst BeginsNone is none) ∙ ap (λ (them : List OutputBlock). parts_in s (sections_at s (beyond s (start_of p.cuts) p.cuts.load them))) first ∙ parts-on f p m' c' next can moves.keeps moves.steps places h bs now started);
        }

    pub advances-next : Advances (live_files r a) (live_files r b) p (on_to p m' c' (Some next))
    advances-next = record {
      stands = step-ahead (live_files r a) p m' c' next can moves.keeps moves.steps places;
      start = refl;
      on = let less = moves.steps.on in omega (arith, less);
      same = λ none. absurd (cc);
      left = λ stands told. leaves-next p.ahead refl stands told;
      all = λ fresh told.
          step-all (live_files r a) p m' c' next can moves.keeps moves.steps places (live_files r b) (left (live_files r a) m') (ap (λ (each : LiveFiles). left each m') files) fresh
          ∙ ap (parts (split_in p)) (sym (step-left (live_files r a) p m' c' next can moves.keeps moves.steps places (gives told).blocks));
    }

    pub goes-next : r.octets_read b + due (live_files r a) m' ≤ r.octets_read a + due (live_files r a) p.merge → GoesOn r 0 a b p (on_to p m' c' (Some next))
    goes-next paid =
        read-goes r a b p (on_to p m' c' (Some next)) (Some next.lane) same moves gives (step-split (live_files r a) p m' c' next can moves.keeps moves.steps places)
        (step-gives (live_files r a) p m' c' next can moves.keeps moves.steps places (live_files r b) ready) paid

-- ---- the next part was begun

-- The block ahead begins a part, and is in it afterwards.
module _ (f : LiveFiles) (b : PlacedBlocks) (a : Ahead) (start : ℕ) (can : CanGive f b) (is : b.ahead ≡ Some a) (ahead : IsAhead b.merge b.cuts a) (found : start_in a.place ≡ Some start) where
  abbrev begun_at : PlacedBlocks
  begun_at = record b { ahead = Some (record { lane = a.lane; place = Same }); start = start }

  -- Facts about a block that begins a part.
  record Begins : Type 0 where
    kept : is_kept b.cuts ≡ true
    starts : start ≡ start_of b.cuts
    alone : ahead.begins ≡ true

  begins : Begins
  begins = either (is_kept b.cuts) ahead.begins refl refl ahead.place
    where
      either : (k q : Bool) → is_kept b.cuts ≡ k → ahead.begins ≡ q → a.place ≡ place_at k q (start_of b.cuts) → Begins
      either true true kept q place = let e : Some start ≡ Some (start_of b.cuts) = sym found ∙ ap start_in place in record { kept = kept; starts = cc; alone = q }
      either true false kept q place = let e : Some start ≡ None = sym found ∙ ap start_in place in absurd (cc)
      either false any kept q place = let e : Some start ≡ None = sym found ∙ ap start_in place in absurd (cc)

  pub is-begun : IsPartBegun begun_at
  is-begun = record {
    starts = begins.starts;
    stands = record {
      lends = ahead.lends;
      started = ahead.started;
      begins = false;
      place = ap (λ (k : Bool). place_at k false (start_of b.cuts)) (sym begins.kept);
      counts = λ no. absurd (cc);
    };
    within = refl;
  }

  pub begun-parts : part_in f begun_at ∷ parts_left f begun_at ≡ parts_left f b
  begun-parts =
      let s = split_in b in
      let x = block_lent a.lane ahead.lends.queue.lane in
      let bs = left f b.merge in
      let one = lent-one b.merge a.lane ahead.lends.queue ahead.lends.here in
      let isnt : is_within (Some a) ≡ false = ap (λ (p : Place). is_some (if is_same p then Some a.lane else None)) (ahead.place ∙ ap (λ (k : Bool). place_at k ahead.begins (start_of b.cuts)) begins.kept ∙ ap (λ (q : Bool). place_at true q (start_of b.cuts)) begins.alone) in
      sym (parts-ahead f b (ap is_within is ∙ isnt)
      ∙ ap (λ (o : Option Ahead). parts_from s (start_of b.cuts) (ahead_of b.merge o bs)) is
      ∙ ap (λ (first : List OutputBlock). parts_from s (start_of b.cuts) (first ++ bs)) one
      ∙ parts-first s (fits-of b.cuts.size b.cuts.spec can.limit) (start_of b.cuts) b.cuts.load x bs (ahead.counts begins.alone) begins.kept
      ∙ ap (λ (first : List OutputBlock). part_from s (start_of b.cuts) b.cuts.load first bs ∷ parts_in s (sections_at s (beyond s (start_of b.cuts) b.cuts.load bs))) (sym one))

-- Without a block ahead no part is left.
pub none-left : (f : LiveFiles) (p : PlacedBlocks) → p.ahead ≡ None → parts_left f p ≡ []
none-left f p is = parts-ahead f p (ap is_within is) ∙ ap (λ (o : Option Ahead). parts_from (split_in p) (start_of p.cuts) (ahead_of p.merge o (left f p.merge))) is

-- ---- the first part

module _ {S : Type 0} (r : Ghosts S) (a b : S) (p p' : PlacedBlocks) (fresh : IsFresh p) (advanced : Advances (live_files r a) (live_files r b) p p') (goes : GoesOn r 0 a b p p') where
  abbrev all_parts : List Part
  all_parts = parts (split_in p) (left (live_files r a) p.merge)

  -- The merge has no blocks.
  pub first-none : is_some p'.ahead ≡ false → is_kept p'.cuts ≡ true → FindsPart (live_files r a) (live_files r b) (way p.merge + 1) all_parts p p' true
  first-none none kept = either p'.ahead refl
    where
      either : (o : Option Ahead) → p'.ahead ≡ o → FindsPart (live_files r a) (live_files r b) (way p.merge + 1) all_parts p p' true
      either None is =
          let isnt = ap is_within is in
          record {
            begins = record {
              starts = advanced.start ∙ fresh.start ∙ sym (ap start_of (advanced.same none) ∙ ap (λ (o : Option ℕ). unwrap_or o 0) fresh.placed);
              stands = advanced.stands;
              within = isnt ∙ sym (ap is_some is);
            };
            on = let less = ap (turns_with (way p'.merge)) is in let most = advanced.on in omega (arith, less, most);
            found = λ told.
                ap (λ (more : List Part). part_in (live_files r b) p' ∷ more) (none-left (live_files r b) p' is)
                ∙ ap (λ (q : Bool). if q then part_in (live_files r b) p' ∷ [] else parts_left (live_files r b) p') (sym (ap (λ (o : Option Ahead). is_none o && is_kept p'.cuts) is ∙ kept))
                ∙ advanced.all fresh told;
          }
      either (Some ahead) is = absurd (let some = ap is_some is in cc)

  -- The merge has a block, or the section at the start isn't written.
  pub first-result : (c : S) (p'' : PlacedBlocks) (result : Result Bool ReadEnd) → (is_none p'.ahead && is_kept p'.cuts) ≡ false → FindsBehind r b c p' p'' result → FindsFirst r a c p p'' result
  first-result c p'' (Err end) isnt finds = tt
  first-result c p'' (Ok begun) isnt finds = record {
    begins = finds.begins;
    on = let less = advanced.on in let more = finds.on in omega (arith, less, more);
    found = λ told.
        finds.found (goes.told told).told
        ∙ ap (λ (q : Bool). if q then part_in (live_files r b) p' ∷ [] else parts_left (live_files r b) p') (sym isnt) ∙ advanced.all fresh told;
  }
