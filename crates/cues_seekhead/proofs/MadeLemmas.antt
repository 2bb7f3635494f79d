-- A file that is created, written and closed.
use Rattle.std.proofs.Common.{◌≡◌, ◌≤◌, ◌<◌, ℕ, zero, suc, List, [], ◌∷◌, true, get_or, sym, ◌∙◌, subst, arith}
use Rattle.mkv_io.specs.declared.outside.FileId.{FileId}
use Rattle.mkv_io.specs.Asked.{IsNotAmong}
use Rattle.mkv_io.specs.Names.{AreOthers}
use Rattle.mkv_io.specs.Sources.{live_files}
use Rattle.mkv_io.specs.Writing.{KeepsOthers}
use Rattle.mkv_io.specs.declared.reads.Reads.{Ghosts}
use Rattle.mkv_io.specs.declared.files.Files as writing
use Rattle.mkv_io.proofs.AskedLemmas.{asks-both}
use Rattle.mkv_io.proofs.WritingLemmas.{IsSameFile-twice}
use Rattle.mkv_outputs.specs.Sinks.{EndsOnly, MadeSince}
use Rattle.mkv_outputs.proofs.FilesLemmas.{KeepsOthers-ended}
use Rattle.cues_seekhead.specs.Made.{MakesFile, WritesAndEnds}

-- The file stays created if only other names are written.
pub MakesFile-kept : {S : Type 0} (r : Ghosts S) (f : writing.Ghosts S) (name : List ℕ) (file : FileId) (a b c : S) → ((other : ℕ) → (live_files r a).live other ≡ true → other < f.given a) → MakesFile r f name file a b → KeepsOthers r f (name ∷ []) b c → MakesFile r f name file a c
MakesFile-kept r f name file a b c numbered made kept = record {
  newer = made.newer;
  live = kept.live file.n ∙ made.live;
  holder = kept.holders file.n made.live ∙ made.holder;
  besides = λ other differs. kept.live other ∙ made.besides other differs;
  given = let earlier = made.given in let later = kept.given in omega arith;
  holders = λ other live. kept.holders other (stays other live) ∙ made.holders other live;
  others = λ other is. IsSameFile-twice (live_files r a) (live_files r b) (live_files r c) other (made.others other is)
      (kept.others other (let P : List ℕ → Type 0 = λ n. AreOthers n (name ∷ []) in subst P (sym (made.holders other is.0)) is.1));
  asks = asks-both (IsNotAmong [] (name ∷ [])) (f.asked a) (f.asked b) (f.asked c) made.asks kept.asks;
}
  where
    stays : (other : ℕ) → (live_files r a).live other ≡ true → (live_files r b).live other ≡ true
    stays other live = made.besides other (λ same. let below = numbered other live in let newer = made.newer in absurd (omega (arith, same))) ∙ live

-- The created file is the only new one.
as_made : {S : Type 0} (r : Ghosts S) (f : writing.Ghosts S) (name : List ℕ) (file : FileId) (a b : S) → MakesFile r f name file a b → MadeSince r f (name ∷ []) a b (record { file = file; waiting = [] } ∷ [])
as_made r f name file a b made = record {
  newer = at;
  besides = λ other none. made.besides other (λ same. none 0 file (omega arith) (sym same));
  given = made.given;
  holders = made.holders;
  others = made.others;
  asks = made.asks;
}
  where
    at : (k : ℕ) (d : FileId) → k < 1 → f.given a ≤ (get_or (file ∷ []) k d).n
    at zero d below = made.newer
    at (suc k) d below = absurd (omega arith)

-- After a created file is closed, the same files are live as before.
pub MakesFile-ended : {S : Type 0} (r : Ghosts S) (f : writing.Ghosts S) (name : List ℕ) (file : FileId) (a b c : S) → ((other : ℕ) → (live_files r a).live other ≡ true → other < f.given a) → MakesFile r f name file a b → EndsOnly r f b c (file ∷ []) → KeepsOthers r f (name ∷ []) a c
MakesFile-ended r f name file a b c numbered made ends =
    KeepsOthers-ended r f (name ∷ []) a b c (record { file = file; waiting = [] } ∷ []) numbered (as_made r f name file a b made) ends

-- The same files are also live if the output was written before.
pub MakesFile-finished : {S : Type 0} (r : Ghosts S) (f : writing.Ghosts S) (name : List ℕ) (file : FileId) (a b c : S) → ((other : ℕ) → (live_files r a).live other ≡ true → other < f.given a) → MakesFile r f name file a b → WritesAndEnds r f file b c → KeepsOthers r f (name ∷ []) a c
MakesFile-finished r f name file a b c numbered made ends =
    let P : List ℕ → Type 0 = λ n. KeepsOthers r f (n ∷ []) b ends.before in
    MakesFile-ended r f name file a ends.before c numbered (MakesFile-kept r f name file a b ends.before numbered made (subst P made.holder ends.written.kept)) ends.ended
