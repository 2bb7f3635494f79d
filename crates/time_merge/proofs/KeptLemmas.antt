-- A merge is unchanged if its links' files are; and the merged list of output tracks at their start.
use Rattle.std.proofs.Common.{◌≡◌, ℕ, ◌+◌, List, [], ◌∷◌, map, refl, sym, ◌∙◌, ap, ap₂, subst}
use Rattle.std.specs.List.{All}
use Rattle.std.proofs.lemmas.List.Elements.{All-head, All-tail}
use Rattle.std.proofs.lemmas.List.Sums.{sum_by-cons}
use Rattle.std.specs.Prelude.{slice_index_or}
use Rattle.mkv_io.specs.LiveFiles.{LiveFiles}
use Rattle.mkv_io.specs.Names.{AreOthers}
use Rattle.mkv_io.specs.Sources.{live_files}
use Rattle.mkv_io.specs.Writing.{KeepsOthers}
use Rattle.mkv_io.specs.declared.reads.Reads.{Ghosts}
use Rattle.mkv_io.specs.declared.files.Files as writing
use Rattle.cluster_reader.specs.ToldDamages.{ToldDamages}
use Rattle.merge_model.specs.Merged.{Ordered, merged, merged_from, ordered}
use Rattle.lanes.specs.Lent.{lent_ordered}
use Rattle.merge_model.specs.FileLinks.{IsOpenLink, KeepsLink}
use Rattle.merge_model.specs.declared.link.Link.{Link}
use Rattle.merge_model.specs.declared.link.Link.TheVariants.{Track, Entries}
use Rattle.lanes.specs.Lane.{LaneSeen, lent}
use Rattle.lanes.specs.Lane as lanes
use Rattle.lanes.specs.Laws as lane_laws
use Rattle.lanes.proofs.KeptLemmas as lane_lemmas
use Rattle.time_merge.specs.Laws.{AreStarted, IsApart, IsApartLink, StandsAmong}
use Rattle.merge_model.specs.FileLinks.{lanes_over}
use Rattle.time_merge.specs.Merge.{IsReady, KeepsMerge, MergeSeen, damages_of, due_of, length_of}
use Rattle.time_merge.specs.Queues.{waiting, waiting_as}
use Rattle.time_merge.specs.declared.queue.Head.{Head}
use Rattle.time_merge.specs.declared.queue.Head.TheVariants.{Due, Waits, Ended}
use Rattle.time_merge.specs.declared.queue.Queue.{Queue}

-- ---- writes to other files

waiting-kept : (old new : LiveFiles) (l : LaneSeen) (h : Head) → lanes.left new l ≡ lanes.left old l → waiting_as new l h ≡ waiting_as old l h
waiting-kept old new l Due same = same
waiting-kept old new l (Waits order) same = ap (λ xs. lent_ordered (lent l) ∷ xs) same
waiting-kept old new l Ended same = refl

-- Each output track is unchanged.
abbrev EachStands : LiveFiles → LiveFiles → List Queue → Type 0
EachStands old new qs = All (λ q. lane_laws.StandsAmong old new q.lane) qs

all-waiting : (old new : LiveFiles) (qs : List Queue) → EachStands old new qs → map (waiting new) qs ≡ map (waiting old) qs
all-waiting old new [] stand = refl
all-waiting old new (q ∷ qs) stand =
    ap₂ (λ l ls. l ∷ ls) (waiting-kept old new q.lane q.head (All-head (λ each. lane_laws.StandsAmong old new each.lane) q qs stand).left)
    (all-waiting old new qs (All-tail (λ each. lane_laws.StandsAmong old new each.lane) q qs stand))

all-damages : (old new : LiveFiles) (qs : List Queue) → EachStands old new qs → damages_of new qs ≡ damages_of old qs
all-damages old new [] stand = refl
all-damages old new (q ∷ qs) stand =
    ap₂ (λ (d : List ToldDamages) ds. d ∷ ds) (All-head (λ each. lane_laws.StandsAmong old new each.lane) q qs stand).damages
    (all-damages old new qs (All-tail (λ each. lane_laws.StandsAmong old new each.lane) q qs stand))

all-due : (old new : LiveFiles) (qs : List Queue) → EachStands old new qs → due_of new qs ≡ due_of old qs
all-due old new [] stand = refl
all-due old new (q ∷ qs) stand =
    sum_by-cons (λ each. lanes.due new each.lane) q qs
    ∙ ap₂ (λ (m n : ℕ). m + n) (All-head (λ each. lane_laws.StandsAmong old new each.lane) q qs stand).due (all-due old new qs (All-tail (λ each. lane_laws.StandsAmong old new each.lane) q qs stand))
    ∙ sym (sum_by-cons (λ each. lanes.due old each.lane) q qs)

all-length : (old new : LiveFiles) (qs : List Queue) → EachStands old new qs → length_of new qs ≡ length_of old qs
all-length old new [] stand = refl
all-length old new (q ∷ qs) stand =
    sum_by-cons (λ each. lanes.files_length new each.lane) q qs
    ∙ ap₂ (λ (m n : ℕ). m + n) (All-head (λ each. lane_laws.StandsAmong old new each.lane) q qs stand).length (all-length old new qs (All-tail (λ each. lane_laws.StandsAmong old new each.lane) q qs stand))
    ∙ sym (sum_by-cons (λ each. lanes.files_length old each.lane) q qs)

-- The merge is unchanged.
pub stands-kept : (old new : LiveFiles) (m : MergeSeen) → KeepsMerge old new m → IsReady old m → StandsAmong old new m
stands-kept old new m keeps ready = record {
  ready = λ k d lt. (stand k d lt).ready;
  told = λ told. λ k d lt. (stand k d lt).told (told k d lt);
  left = ap merged_from (all-waiting old new m.queues stand);
  damages = all-damages old new m.queues stand;
  due = all-due old new m.queues stand;
  length = all-length old new m.queues stand;
}
  where
    stand : EachStands old new m.queues
    stand = λ k d lt. lane_lemmas.stands-kept old new _ (keeps k d lt) (ready k d lt)

-- ---- a call that writes to other names

-- The call keeps the files of a merge.
pub keeps-merge : {S : Type 0} (r : Ghosts S) (f : writing.Ghosts S) (names : List (List ℕ)) (old new : S) (m : MergeSeen) → KeepsOthers r f names old new → IsApart (f.holder old) names m → KeepsMerge (live_files r old) (live_files r new) m
keeps-merge r f names old new m keeps apart = λ k d lt. λ j e inside. one (slice_index_or (slice_index_or m.queues k d).lane.links j e) (apart k d lt j e inside)
  where
    one : (link : Link) → IsApartLink (f.holder old) names link → KeepsLink (live_files r old) (live_files r new) link
    one (Track t) others = keeps.others t.file.n others
    one (Entries e) others = tt

-- The names of a merge's files still differ from the written ones.
pub apart-kept : {S : Type 0} (r : Ghosts S) (f : writing.Ghosts S) (names : List (List ℕ)) (old new : S) (m : MergeSeen) → KeepsOthers r f names old new → IsReady (live_files r old) m → IsApart (f.holder old) names m → IsApart (f.holder new) names m
apart-kept r f names old new m keeps ready apart = λ k d lt. λ j e inside. one (slice_index_or (slice_index_or m.queues k d).lane.links j e) ((ready k d lt).files j e inside) (apart k d lt j e inside)
  where
    one : (link : Link) → IsOpenLink (live_files r old) link → IsApartLink (f.holder old) names link → IsApartLink (f.holder new) names link
    one (Track t) opened others = subst (λ name. AreOthers name names) (sym (keeps.holders t.file.n opened.live)) others
    one (Entries e) opened others = tt

-- ---- the whole merge

started-left : (f : LiveFiles) (scale : ℕ) (specs : List (List Link)) (ls : List LaneSeen) → AreStarted f scale specs ls → map (lanes.left f) ls ≡ map ordered (lanes_over f scale specs)
started-left f scale [] [] are = refl
started-left f scale [] (l ∷ ls) are = absurd are
started-left f scale (links ∷ specs) [] are = absurd are
started-left f scale (links ∷ specs) (l ∷ ls) are = ap₂ (λ (x : List Ordered) xs. x ∷ xs) are.0.left (started-left f scale specs ls are.1)

-- The blocks that are left at the start are the merged list.
pub started-merged : (f : LiveFiles) (scale : ℕ) (specs : List (List Link)) (ls : List LaneSeen) → AreStarted f scale specs ls → merged_from (map (lanes.left f) ls) ≡ merged (lanes_over f scale specs)
started-merged f scale specs ls are = ap merged_from (started-left f scale specs ls are)
