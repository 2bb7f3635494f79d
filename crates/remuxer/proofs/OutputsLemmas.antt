-- Outputs that are written in sequence.
use Rattle.std.proofs.Common.{◌≡◌, ◌≤◌, ◌<◌, ℕ, suc, ◌+◌, ◌^◌, Bool, true, false, List, [], ◌∷◌, ◌++◌, All, length, map, Option, Some, ◌⊎◌, inl, inr, refl, sym, ◌∙◌, ap, ap₂, subst, append_assoc, append-nil, arith}
use Rattle.std.specs.Prelude.{◌==◌, if◌then◌else◌, slice_index_or}
use Rattle.std.proofs.lemmas.List.{length-map, map-append}
use Rattle.std.proofs.lemmas.List.Elements.{All-append, All-cons, All-head, All-nil, All-tail}
use Rattle.std.proofs.lemmas.Bool.Decides.{nat_tests}
use Rattle.mkv_io.specs.Asked.{AsksNone, IsNotAmong}
use Rattle.mkv_io.specs.declared.asked.Asked.{Asked}
use Rattle.mkv_io.specs.declared.asked.Asked.TheVariants.{Made, Opened}
use Rattle.mkv_io.specs.LiveFiles.{LiveFiles}
use Rattle.mkv_io.specs.Names.{AreOthers, Names, changed_at, with_content}
use Rattle.mkv_io.specs.Sources.{live_files}
use Rattle.mkv_io.specs.Told.{IfVisible}
use Rattle.mkv_io.specs.Writing.{KeepsOthers}
use Rattle.mkv_io.specs.declared.reads.Reads.{Ghosts}
use Rattle.mkv_io.specs.declared.files.Files as writing
use Rattle.std.proofs.lemmas.Slice.Eq.{bytes_eq-Decides}
use Rattle.mkv_io.proofs.AskedLemmas.{asks-fewer}
use Rattle.mkv_io.proofs.NamesLemmas.{others-behind, others-front}
use Rattle.mkv_io.proofs.WritingLemmas.{KeepsOthers-more, KeepsOthers-none, KeepsOthers-then}
use Rattle.mkv_outputs.specs.Drafts.{AreDrafted, Draft, IsDrafted, AreWrittenInOrder, output_of, outputs_of}
use Rattle.mkv_outputs.specs.Outputs.{Output, with_outputs}
use Rattle.mkv_outputs.proofs.DraftsLemmas.{AreWrittenInOrder-next, AreWrittenInOrder-whole}
use Rattle.mkv_outputs.proofs.OutputsLemmas.{with_outputs-added}
use Rattle.output_model.specs.declared.attachment.Attachment.{Attachment}
use Rattle.output_model.specs.Front.{front_with}
use Rattle.output_model.specs.Document as model
use Rattle.output_model.specs.Cued.{document_of}
use Rattle.cues_seekhead.specs.Draft.{draft_of}
use Rattle.cues_seekhead.specs.OpenOutput.{CanAttach}
use Rattle.merge_model.specs.FileLinks.{IsOpenLink}
use Rattle.merge_model.specs.declared.link.Link.{Link}
use Rattle.merge_model.specs.declared.link.Link.TheVariants.{Track, Entries}
use Rattle.time_merge.specs.Laws.{IsApart, IsApartLink}
use Rattle.time_merge.specs.Merge.{IsReady, IsTold, MergeSeen, due, files_length, left}
use Rattle.time_merge.specs.Queues.{KeepsQueues}
use Rattle.time_merge.proofs.QueueLemmas.{links-kept}
use Rattle.splitter.specs.Sections.{Part, Split, parts}
use Rattle.splitter.proofs.NameLemmas.{part-names}
use Rattle.remux_plan.specs.Parts.{PlannedOutput, document_with, chapters_of, may_be_written, name_of, output_in, outputs_from, stretch_of}
use Rattle.remux_plan.specs.Summary.{written_of}
use Rattle.remux_plan.specs.Uuids.{uuids_at, with_uuids}
use Rattle.remux_plan.specs.declared.output.OutputSpec.{OutputSpec}
use Rattle.remux_plan.specs.declared.summary.Written.{Written}
use Rattle.remuxer.specs.Places.{part_in, parts_left, split_in}
use Rattle.remuxer.specs.Taking.{GoesOn}
use Rattle.remuxer.specs.declared.placed.PlacedBlocks.{PlacedBlocks}
use Rattle.remuxer.proofs.TakingLemmas.{OnlyRead, files-same, goes-then, read-keeps}
use Rattle.remuxer.specs.Output.{CanBeNext, FindsNext, FindsPart, HasRecords, IsShort, IsNotMade, IsUnwritten, IsUnwrittenLink, KeepsUnwritten, ReadsParts, WritesAll, WritesOne, data_of, drafts_of, laid_out, next_name, next_spec, own_spec, parts_begun}

-- ---- outputs in sequence

outputs-split : (f : LiveFiles) (o : OutputSpec) (number : ℕ) (done more : List Part) → outputs_from f o number (done ++ more) ≡ outputs_from f o number done ++ outputs_from f o (number + length done) more
outputs-split f o number [] more = ap (λ (n : ℕ). outputs_from f o n more) (let same : number ≡ number + 0 = omega arith in same)
outputs-split f o number (p ∷ done) more =
    ap (λ (rest : List PlannedOutput). output_in f o number p ∷ rest)
    (outputs-split f o (suc number) done more ∙ ap (λ (n : ℕ). outputs_from f o (suc number) done ++ outputs_from f o n more) (let same : suc number + length done ≡ number + length (p ∷ done) = omega arith in same))

count-outputs : (f : LiveFiles) (o : OutputSpec) (number : ℕ) (done : List Part) → length (outputs_from f o number done) ≡ length done
count-outputs f o number [] = refl
count-outputs f o number (p ∷ done) = ap suc (count-outputs f o (suc number) done)

-- the contents of names after each of the outputs was written
abbrev pub world_with : (List ℕ → Option (List ℕ)) → List Output → List ℕ → Option (List ℕ)
world_with world [] = world
world_with world (o ∷ os) = world_with (changed_at o.name (λ _. Some o.content) world) os

pub told-with : (world : List ℕ → Option (List ℕ)) (os : List Output) → with_outputs (Some world) os ≡ Some (world_with world os)
told-with world [] = refl
told-with world (o ∷ os) = told-with (changed_at o.name (λ _. Some o.content) world) os

-- The first drafts and one more are complete.
whole-behind : (old mid new : Names) (done : List Draft) (d : Draft) → mid ≡ with_outputs old (outputs_of done) → new ≡ with_content mid (output_of d).name (output_of d).content → new ≡ with_outputs old (outputs_of (done ++ d ∷ []))
whole-behind old mid new done d before names =
    names ∙ ap (λ (n : Names). with_content n (output_of d).name (output_of d).content) before
    ∙ sym (ap (with_outputs old) (map-append output_of done (d ∷ [])) ∙ with_outputs-added old (outputs_of done) (output_of d))

-- The first drafts are complete, and the next one has a content of its draft.
pub in_turn-behind : (old mid new : Names) (done rest : List Draft) (d : Draft) → mid ≡ with_outputs old (outputs_of done) → AreWrittenInOrder mid new (d ∷ []) → AreWrittenInOrder old new (done ++ d ∷ rest)
in_turn-behind old mid new done rest d before stands = step stands.stand stands.drafted stands.names
  where
    one : (o : Output) → (o ≡ output_of d) ⊎ IsDrafted o d → new ≡ with_outputs mid (o ∷ []) → AreWrittenInOrder old new (done ++ d ∷ rest)
    one o (inl whole) names =
        subst (AreWrittenInOrder old new) (append_assoc done (d ∷ []) rest)
        (AreWrittenInOrder-whole old new (done ++ d ∷ []) rest (whole-behind old mid new done d before (names ∙ ap (λ (each : Output). with_outputs mid (each ∷ [])) whole)))
    one o (inr is) names = AreWrittenInOrder-next old mid new done rest d o before names is

    step : (os : List Output) → AreDrafted os (d ∷ []) → new ≡ with_outputs mid os → AreWrittenInOrder old new (done ++ d ∷ rest)
    step [] drafted names = AreWrittenInOrder-whole old new done (d ∷ rest) (names ∙ before)
    step (o ∷ []) drafted names = one o drafted names
    step (o ∷ (other ∷ os)) drafted names = absurd drafted.1

-- ---- names

-- The name of each output may be written.
pub named-so : (split : Bool) (output : List ℕ) (number : ℕ) → number < 2 ^ 64 → may_be_written split output (name_of split output number) ≡ true
named-so true output number few = part-names output number few
named-so false output number few = (bytes_eq-Decides output output).1 refl

-- No file of a link has this name.
pub unwritten-apart : (holder : ℕ → List ℕ) (split : Bool) (output name : List ℕ) (m : MergeSeen) → may_be_written split output name ≡ true → IsUnwritten holder split output m → IsApart holder (name ∷ []) m
unwritten-apart holder split output name m may unwritten = λ k d lt. λ j e inside. one (slice_index_or (slice_index_or m.queues k d).lane.links j e) (unwritten k d lt j e inside)
  where
    one : (link : Link) → IsUnwrittenLink holder split output link → IsApartLink holder (name ∷ []) link
    one (Track t) isnt = (λ same. let both : may_be_written split output (holder t.file.n) ≡ true = sym (ap (may_be_written split output) same) ∙ may in absurd (cc), tt)
    one (Entries entries) isnt = tt

-- Open files keep their names.
pub unwritten-kept : {S : Type 0} (r : Ghosts S) (f : writing.Ghosts S) (split : Bool) (output : List ℕ) (names : List (List ℕ)) (a b : S) (m m' : MergeSeen) → KeepsOthers r f names a b → IsReady (live_files r a) m → KeepsQueues m.queues m'.queues → IsUnwritten (f.holder a) split output m → IsUnwritten (f.holder b) split output m'
unwritten-kept r f split output names a b m m' kept ready lanes unwritten =
    links-kept (All (IsUnwrittenLink (f.holder b) split output)) m.queues m'.queues lanes
    (λ k d lt. λ j e inside. one (slice_index_or (slice_index_or m.queues k d).lane.links j e) ((ready k d lt).files j e inside) (unwritten k d lt j e inside))
  where
    one : (link : Link) → IsOpenLink (live_files r a) link → IsUnwrittenLink (f.holder a) split output link → IsUnwrittenLink (f.holder b) split output link
    one (Track t) opened isnt = ap (may_be_written split output) (kept.holders t.file.n opened.live) ∙ isnt
    one (Entries entries) opened isnt = tt

-- ---- files of other names

module _ {S : Type 0} (r : Ghosts S) (f : writing.Ghosts S) (split : Bool) (output : List ℕ) where
  -- No name was written.
  pub keeps-none : (a : S) → KeepsUnwritten r f split output a a
  keeps-none a = record { names = []; form = All-nil (λ n. may_be_written split output n ≡ true); kept = KeepsOthers-none r f [] a }

  -- The files were only read.
  pub keeps-read : (a b : S) → OnlyRead r f a b → KeepsUnwritten r f split output a b
  keeps-read a b read = record { names = []; form = All-nil (λ n. may_be_written split output n ≡ true); kept = read-keeps r f a b read [] }

  -- One name was written.
  pub keeps-one : (name : List ℕ) (a b : S) → may_be_written split output name ≡ true → KeepsOthers r f (name ∷ []) a b → KeepsUnwritten r f split output a b
  keeps-one name a b may kept = record {
    names = name ∷ [];
    form = All-cons (λ n. may_be_written split output n ≡ true) name [] may (All-nil (λ n. may_be_written split output n ≡ true));
    kept = kept;
  }

  -- Names were written by two calls.
  pub keeps-then : (a b c : S) → KeepsUnwritten r f split output a b → KeepsUnwritten r f split output b c → KeepsUnwritten r f split output a c
  keeps-then a b c first next = record {
    names = first.names ++ next.names;
    form = All-append (λ n. may_be_written split output n ≡ true) first.names next.names first.form next.form;
    kept = KeepsOthers-then r f (first.names ++ next.names) a b c
        (KeepsOthers-more r f first.names (first.names ++ next.names) a b (λ name others. others-front name first.names next.names others) first.kept)
        (KeepsOthers-more r f next.names (first.names ++ next.names) b c (λ name others. others-behind name first.names next.names others) next.kept);
  }

  -- A name that can't be written isn't among the written ones.
  others-unwritten : (name : List ℕ) (names : List (List ℕ)) → may_be_written split output name ≡ false → All (λ n. may_be_written split output n ≡ true) names → AreOthers name names
  others-unwritten name [] isnt form = tt
  others-unwritten name (first ∷ names) isnt form = (
    λ same. let may : may_be_written split output name ≡ true = ap (may_be_written split output) (sym same) ∙ All-head (λ n. may_be_written split output n ≡ true) first names form in absurd (cc),
    others-unwritten name names isnt (All-tail (λ n. may_be_written split output n ≡ true) first names form),
  )

  -- No file is created or opened with such a name.
  pub unwritten-asks : (a b : S) → KeepsUnwritten r f split output a b → AsksNone (IsNotMade split output) (f.asked a) (f.asked b)
  unwritten-asks a b keeps = asks-fewer (IsNotAmong [] keeps.names) (IsNotMade split output) (f.asked a) (f.asked b) each keeps.kept.asks
    where
      each : (name : Asked) → IsNotMade split output name → IsNotAmong [] keeps.names name
      each (Opened name) isnt = tt
      each (Made name) isnt = others-unwritten name keeps.names isnt keeps.form

-- the specification of the output `number`, without its own identifiers
abbrev pub left_at : OutputSpec → ℕ → OutputSpec
left_at o number = record o { front = record o.front { attachments = if number == 1 then o.front.attachments else [] } }

-- ---- while outputs are written

module _ {S : Type 0} (r : Ghosts S) (f : writing.Ghosts S) (o : OutputSpec) (a : S) (p : PlacedBlocks) where
  -- The outputs of the first parts are complete, and the other parts are left.
  pub record Standing (b : S) (o' : OutputSpec) (p' : PlacedBlocks) (written : List Written) (begun : Bool) : Type 0 where
    pub done : List Part
    pub whole : parts (split_in p) (left (live_files r a) p.merge) ≡ done ++ parts_begun (live_files r b) p' begun
    pub written_are : written ≡ map written_of (outputs_from (live_files r a) o 1 done)
    pub names : f.names b ≡ with_outputs (f.names a) (outputs_of (drafts_of (outputs_from (live_files r a) o 1 done)))
    pub become : outputs_of (drafts_of (outputs_from (live_files r a) o 1 done)) ≡ map laid_out (outputs_from (live_files r a) o 1 done)
    pub short : IfVisible (f.names a) (λ world. All (λ (each : PlannedOutput). IsShort each.document) (outputs_from (live_files r a) o 1 done))
    pub front : front_with (live_files r b) o'.front ≡ front_with (live_files r a) o'.front

  -- If the links' files are visible to the proof, the first outputs are complete. The next part can be begun, and `read` bytes of data were read.
  pub record OnTheWay (b : S) (o' : OutputSpec) (p' : PlacedBlocks) (written : List Written) (begun : Bool) : Type 0 where
    pub read : ℕ
    pub data_left : read + data_of o' ≤ data_of o
    pub goes : GoesOn r read a b p p'
    pub begins : CanBeNext p' begun
    pub spec : o' ≡ left_at o (length written + 1)
    pub attached : All (CanAttach r f b (next_name o' written)) o'.front.attachments
    pub kept : KeepsUnwritten r f o.split o.name a b
    pub standing : IsTold (live_files r a) p.merge → Standing b o' p' written begun

  -- ---- the first part was found

  pub way-begins : (b : S) (p' : PlacedBlocks) (begun : Bool) (turns : ℕ) → OnlyRead r f a b → GoesOn r 0 a b p p' → FindsPart (live_files r a) (live_files r b) turns (parts (split_in p) (left (live_files r a) p.merge)) p p' begun
      → All (CanAttach r f a (name_of o.split o.name 1)) o.front.attachments → OnTheWay b o p' [] begun
  way-begins b p' begun turns read goes finds attached = record {
    read = 0;
    data_left = omega arith;
    goes = goes;
    begins = finds.begins;
    spec = refl;
    attached = λ k d inside. attach (slice_index_or o.front.attachments k d) (attached k d inside);
    kept = keeps-read r f o.split o.name a b read;
    standing = λ told. record {
      done = [];
      whole = sym (finds.found told);
      written_are = refl;
      names = read.names;
      become = refl;
      short = λ world is. All-nil (λ (each : PlannedOutput). IsShort each.document);
      front = ap (λ (h : LiveFiles). front_with h o.front) (files-same r f a b read);
    };
  }
    where
      attach : (it : Attachment) → CanAttach r f a (name_of o.split o.name 1) it → CanAttach r f b (name_of o.split o.name 1) it
      attach it can = record {
        id = can.id;
        master = can.master;
        live = ap (λ (h : LiveFiles). h.live it.file.n) (files-same r f a b read) ∙ can.live;
        inside = omega (arith, can.inside, ap (λ (h : LiveFiles). h.size it.file.n) (files-same r f a b read));
        apart = λ same. can.apart (sym (read.holders it.file.n) ∙ same);
      }

  -- ---- one more output

  module _ (b : S) (o' : OutputSpec) (p' : PlacedBlocks) (written : List Written) (way : OnTheWay b o' p' written true) where
    pub way-scale : p.cuts.scale ≡ o.limits.scale → p'.cuts.scale ≡ o'.limits.scale
    way-scale same = ap (λ (s : Split). s.scale) way.goes.split ∙ same ∙ sym (ap (λ (each : OutputSpec). each.limits.scale) way.spec)

    pub way-records : HasRecords r f a (name_of o.split o.name 1) o.front o.chapters o.tags → HasRecords r f b (next_name o' written) o'.front o'.chapters o'.tags
    way-records has =
        let P : OutputSpec → Type 0 = λ each. All (CanAttach r f b (next_name o' written)) each.front.attachments in
        let at : HasRecords r f b (next_name o' written) (left_at o (length written + 1)).front o.chapters o.tags = record {
          info = has.info;
          info_master = has.info_master;
          tracks = has.tracks;
          attached = subst P way.spec way.attached;
          chapters = has.chapters;
          tags = has.tags;
        } in
        subst (λ (each : OutputSpec). HasRecords r f b (next_name o' written) each.front each.chapters each.tags) (sym way.spec) at

    pub way-apart : IsUnwritten (f.holder a) o.split o.name p.merge → IsReady (live_files r a) p.merge → IsUnwritten (f.holder b) o'.split o'.name p'.merge
    way-apart unwritten ready =
        subst (λ (each : OutputSpec). IsUnwritten (f.holder b) each.split each.name p'.merge) (sym way.spec)
        (unwritten-kept r f o.split o.name way.kept.names a b p.merge p'.merge way.kept.kept ready way.goes.lanes unwritten)

    -- Files of other names are unchanged.
    pub way-keeps : (c : S) → KeepsUnwritten r f o'.split o'.name b c → KeepsUnwritten r f o.split o.name a c
    way-keeps c kept = keeps-then r f o.split o.name a b c way.kept (subst (λ (each : OutputSpec). KeepsUnwritten r f each.split each.name b c) way.spec kept)

    -- The bytes that were read stay within the bound.
    pub way-refused : (c : S) → r.octets_read c ≤ r.octets_read b + due (live_files r b) p'.merge + files_length (live_files r b) p'.merge + data_of o' → ReadsParts r a c o p
    way-refused c reads =
        let paid = way.goes.paid in
        let long = way.goes.length in
        let kept = way.data_left in
        omega (arith, paid, long, kept, reads)

    module _ (told : IsTold (live_files r a) p.merge) where
      so_far : Standing b o' p' written true
      so_far = way.standing told

      abbrev here : Part
      here = part_in (live_files r b) p'

      number : length written + 1 ≡ 1 + length so_far.done
      number =
          let count : length written ≡ length so_far.done = ap length so_far.written_are ∙ length-map (outputs_from (live_files r a) o 1 so_far.done) written_of ∙ count-outputs (live_files r a) o 1 so_far.done in
          omega (arith, count)

      -- The written output is the next one of the plan.
      is-next : (let x : PlannedOutput = record { name = next_name o' written; blocks = here.blocks; document = document_with (live_files r b) (next_spec o' written) here } in x) ≡ output_in (live_files r a) o (1 + length so_far.done) here
      is-next =
          ap (λ (fr : model.Front). let x : PlannedOutput = record {
            name = next_name o' written;
            blocks = here.blocks;
            document = document_of o'.limits o'.rules (record fr { info = with_uuids (uuids_at o'.uuids o'.link (length written + 1)) fr.info }) (chapters_of o'.split o'.chapters (stretch_of o'.limits.scale here.start here.end)) o'.tags here.blocks;
          } in x) so_far.front
          ∙ ap (λ (each : OutputSpec). let x : PlannedOutput = record { name = name_of each.split each.name (length written + 1); blocks = here.blocks; document = document_with (live_files r a) (own_spec each (length written + 1)) here } in x) way.spec
          ∙ ap (λ (n : ℕ). output_in (live_files r a) o n here) number

      abbrev rest : List Part
      rest = parts_left (live_files r b) p'

      abbrev done_drafts : List Draft
      done_drafts = drafts_of (outputs_from (live_files r a) o 1 so_far.done)

      abbrev its : PlannedOutput
      its = record { name = next_name o' written; blocks = here.blocks; document = document_with (live_files r b) (next_spec o' written) here }

      all-drafts : drafts_of (outputs_from (live_files r a) o 1 (parts (split_in p) (left (live_files r a) p.merge)))
          ≡ done_drafts ++ draft_of its.name its.document ∷ drafts_of (outputs_from (live_files r a) o (suc (1 + length so_far.done)) rest)
      all-drafts =
          ap (λ (all : List Part). drafts_of (outputs_from (live_files r a) o 1 all)) so_far.whole
          ∙ ap drafts_of (outputs-split (live_files r a) o 1 so_far.done (here ∷ rest))
          ∙ map-append (λ (each : PlannedOutput). draft_of each.name each.document) (outputs_from (live_files r a) o 1 so_far.done) (outputs_from (live_files r a) o (1 + length so_far.done) (here ∷ rest))
          ∙ ap (λ (each : PlannedOutput). done_drafts ++ draft_of each.name each.document ∷ drafts_of (outputs_from (live_files r a) o (suc (1 + length so_far.done)) rest)) (sym is-next)

      -- The next output couldn't be written.
      pub refused-next : (now : Names) → AreWrittenInOrder (f.names b) now (draft_of its.name its.document ∷ []) → AreWrittenInOrder (f.names a) now (drafts_of (outputs_from (live_files r a) o 1 (parts (split_in p) (left (live_files r a) p.merge))))
      refused-next now stands =
          subst (AreWrittenInOrder (f.names a) now) (sym all-drafts)
          (in_turn-behind (f.names a) (f.names b) now done_drafts (drafts_of (outputs_from (live_files r a) o (suc (1 + length so_far.done)) rest)) (draft_of its.name its.document) so_far.names stands)

      -- The next output is complete.
      one-more : outputs_from (live_files r a) o 1 (so_far.done ++ here ∷ []) ≡ outputs_from (live_files r a) o 1 so_far.done ++ its ∷ []
      one-more =
          outputs-split (live_files r a) o 1 so_far.done (here ∷ [])
          ∙ ap (λ (each : PlannedOutput). outputs_from (live_files r a) o 1 so_far.done ++ each ∷ []) (sym is-next)

      pub stands-next : (e : S) (o'' : OutputSpec) (p'' : PlacedBlocks) (written' : List Written) (begun : Bool) → WritesOne r f b e o' p' p'' written written' begun
          → o'' ≡ record o' { front = record o'.front { attachments = [] } } → Standing e o'' p'' written' begun
      stands-next e o'' p'' written' begun writes spec = record {
        done = so_far.done ++ here ∷ [];
        whole = so_far.whole ∙ ap (λ (more : List Part). so_far.done ++ here ∷ more) (sym writes.behind) ∙ sym (append_assoc so_far.done (here ∷ []) (parts_begun (live_files r e) p'' begun));
        written_are =
            writes.added ∙ ap (λ (ws : List Written). ws ++ written_of its ∷ []) so_far.written_are
            ∙ sym (map-append written_of (outputs_from (live_files r a) o 1 so_far.done) (its ∷ [])) ∙ ap (map written_of) (sym one-more);
        names =
            whole-behind (f.names a) (f.names b) (f.names e) done_drafts (draft_of its.name its.document) so_far.names
            (writes.writes.names ∙ sym (ap (λ (x : Output). with_content (f.names b) x.name x.content) writes.writes.becomes))
            ∙ ap (λ (ds : List Draft). with_outputs (f.names a) (outputs_of ds)) (drafts-more ∙ ap drafts_of (sym one-more));
        become =
            ap (λ (os : List PlannedOutput). outputs_of (drafts_of os)) one-more
            ∙ ap outputs_of (sym drafts-more)
            ∙ map-append output_of done_drafts (draft_of its.name its.document ∷ [])
            ∙ ap₂ (λ (before : List Output) (x : Output). before ++ x ∷ []) so_far.become writes.writes.becomes
            ∙ sym (map-append laid_out (outputs_from (live_files r a) o 1 so_far.done) (its ∷ []))
            ∙ ap (map laid_out) (sym one-more);
        short = λ world is.
            let told-then = so_far.names ∙ ap (λ (names : Names). with_outputs names (outputs_of done_drafts)) is ∙ told-with world (outputs_of done_drafts) in
            subst (All (λ (each : PlannedOutput). IsShort each.document)) (sym one-more)
            (All-append (λ (each : PlannedOutput). IsShort each.document) (outputs_from (live_files r a) o 1 so_far.done) (its ∷ []) (so_far.short world is)
            (All-cons (λ (each : PlannedOutput). IsShort each.document) its [] (writes.writes.short (world_with world (outputs_of done_drafts)) told-then) (All-nil (λ (each : PlannedOutput). IsShort each.document))));
        front = subst (λ (each : OutputSpec). front_with (live_files r e) each.front ≡ front_with (live_files r a) each.front) (sym spec) refl;
      }
        where
          drafts-more : done_drafts ++ draft_of its.name its.document ∷ [] ≡ drafts_of (outputs_from (live_files r a) o 1 so_far.done ++ its ∷ [])
          drafts-more = sym (map-append (λ (each : PlannedOutput). draft_of each.name each.document) (outputs_from (live_files r a) o 1 so_far.done) (its ∷ []))

    -- The next part follows.
    pub way-next : (e : S) (o'' : OutputSpec) (p'' : PlacedBlocks) (written' : List Written) (begun : Bool) → FindsNext o' o'' p' p'' written written' begun → GoesOn r (data_of o') b e p' p'' → KeepsUnwritten r f o'.split o'.name b e
        → (IsTold (live_files r b) p'.merge → WritesOne r f b e o' p' p'' written written' begun) → OnTheWay e o'' p'' written' begun
    way-next e o'' p'' written' begun finds goes kept writes = record {
      read = way.read + data_of o';
      data_left = let none : data_of o'' ≡ 0 = ap data_of finds.spec in let before = way.data_left in omega (arith, none, before);
      goes = goes-then r way.read (data_of o') a b e p p' p'' way.goes goes;
      begins = finds.begins;
      spec = finds.spec ∙ ap (λ (each : OutputSpec). let x : OutputSpec = record each { front = record each.front { attachments = [] } } in x) way.spec ∙ later ∙ ap (λ (n : ℕ). left_at o (n + 1)) (sym finds.count);
      attached = subst (λ (each : OutputSpec). All (CanAttach r f e (next_name o'' written')) each.front.attachments) (sym finds.spec) (All-nil (CanAttach r f e (next_name o'' written')));
      kept = way-keeps e kept;
      standing = λ told. stands-next told e o'' p'' written' begun (writes (way.goes.told told).told) finds.spec;
    }
      where
        later : (let x : OutputSpec = record o { front = record o.front { attachments = [] } } in x) ≡ left_at o (length written + 1 + 1)
        later = ap (λ (q : Bool). let x : OutputSpec = record o { front = record o.front { attachments = if q then o.front.attachments else [] } } in x) (sym (more (length written)))
          where
            more : (n : ℕ) → (n + 1 + 1 == 1) ≡ false
            more n = grind (arith, nat_tests)

-- The result decides whether a part was begun.
module _ {S : Type 0} {r : Ghosts S} {f : writing.Ghosts S} {o o' : OutputSpec} {a b : S} {p p' : PlacedBlocks} {written : List Written} {begun is : Bool} (same : begun ≡ is) (way : OnTheWay r f o a p b o' p' written begun) where
  pub way-at : OnTheWay r f o a p b o' p' written is
  way-at = subst (OnTheWay r f o a p b o' p' written) same way

-- ---- no part is left

pub all-written : {S : Type 0} (r : Ghosts S) (f : writing.Ghosts S) (o : OutputSpec) (a b : S) (p p' : PlacedBlocks) (o' : OutputSpec) (written : List Written) → Standing r f o a p b o' p' written false
    → WritesAll (f.names a) (f.names b) (outputs_from (live_files r a) o 1 (parts (split_in p) (left (live_files r a) p.merge)))
all-written r f o a b p p' o' written standing =
    let whole : parts (split_in p) (left (live_files r a) p.merge) ≡ standing.done = standing.whole ∙ append-nil standing.done in
    subst (λ (all : List Part). WritesAll (f.names a) (f.names b) (outputs_from (live_files r a) o 1 all)) (sym whole)
    (record { names = standing.names ∙ ap (with_outputs (f.names a)) standing.become; become = standing.become; short = standing.short })

pub all-summed : {S : Type 0} (r : Ghosts S) (f : writing.Ghosts S) (o : OutputSpec) (a b : S) (p p' : PlacedBlocks) (o' : OutputSpec) (written : List Written) → Standing r f o a p b o' p' written false
    → written ≡ map written_of (outputs_from (live_files r a) o 1 (parts (split_in p) (left (live_files r a) p.merge)))
all-summed r f o a b p p' o' written standing =
    let whole : parts (split_in p) (left (live_files r a) p.merge) ≡ standing.done = standing.whole ∙ append-nil standing.done in
    standing.written_are ∙ ap (λ (all : List Part). map written_of (outputs_from (live_files r a) o 1 all)) (sym whole)

-- If something fails afterwards, all outputs are complete.
pub all-in_turn : (old new : Names) (outputs : List PlannedOutput) → WritesAll old new outputs → AreWrittenInOrder old new (drafts_of outputs)
all-in_turn old new outputs writes =
    subst (AreWrittenInOrder old new) (append-nil (drafts_of outputs))
    (AreWrittenInOrder-whole old new (drafts_of outputs) [] (writes.names ∙ ap (with_outputs old) (sym writes.become)))
