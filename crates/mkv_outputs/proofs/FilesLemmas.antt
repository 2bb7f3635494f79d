-- The live files while some of them are written.
use Rattle.std.proofs.Common.{◌≡◌, ◌≢◌, ℕ, zero, suc, ◌+◌, ◌<◌, ◌≤◌, List, [], ◌∷◌, ◌++◌, length, get_or, Bool, true, false, ◌⊎◌, inl, inr, Result, Ok, Err, OnErr, refl, sym, ◌∙◌, ap, subst, arith, below_more}
use Rattle.std.specs.List.{All, AllPairs, AllWithin}
use Rattle.std.proofs.Math.ListN.{set}
use Rattle.std.proofs.Math.Dec.{eqb}
use Rattle.std.proofs.lemmas.Bool.Decides.{eqb_tells}
use Rattle.std.proofs.lemmas.List.Elements.{All-push}
use Rattle.std.proofs.lemmas.List.Quantifiers.{all_pairs_push}
use Rattle.mkv_io.specs.declared.outside.FileId.{FileId}
use Rattle.mkv_io.specs.Asked.{IsNotAmong}
use Rattle.mkv_io.specs.Names.{AreOthers}
use Rattle.mkv_io.specs.LiveFiles.{IsSameFile}
use Rattle.mkv_io.specs.Sources.{live_files}
use Rattle.mkv_io.specs.Writing.{KeepsOthers, WritesOnly}
use Rattle.mkv_io.specs.declared.reads.Reads.{Ghosts}
use Rattle.mkv_io.specs.declared.files.Files as writing
use Rattle.mkv_io.proofs.AskedLemmas.{asks-both, asks-more, asks-none}
use Rattle.mkv_io.proofs.WritingLemmas.{IsSameFile-twice, KeepsOthers-more, WritesOnly-more, WritesOnly-none, WritesOnly-then}
use Rattle.mkv_outputs.specs.Sinks.{AreLive, AreOpen, ArePassed, AreRising, EndsOnly, IsNoneOf, MadeSince, MakesOnly, WritesOutputs, ids_of, holders_of, names_under}
use Rattle.mkv_outputs.specs.declared.sink.Sink.{Sink}
use Rattle.mkv_outputs.proofs.GivenLemmas.{ids_of-at, holders_of-kept, length-ids_of}
pub use Rattle.lemmas.proofs.PlainLemmas.{OnOk-map}

-- The file of each output is live.
pub AreLive-at : (live : ℕ → Bool) (sinks : List Sink) (k : ℕ) (was : Sink) → AreLive live (ids_of sinks) → k < length sinks → was ≡ get_or sinks k was → live was.file.n ≡ true
AreLive-at live sinks k was are below is =
    ap (λ (s : Sink). live s.file.n) is ∙ ap (λ (f : FileId). live f.n) (sym (ids_of-at sinks k was was.file below)) ∙ are k was.file (omega (arith, length-ids_of sinks))

-- Live files stay live.
pub AreLive-on : (old new : ℕ → Bool) (list : List FileId) → AreLive old list → ((file : ℕ) → new file ≡ old file) → AreLive new list
AreLive-on old new list are alive = λ k d below. alive (get_or list k d).n ∙ are k d below

-- No bytes wait for one more output.
pub ArePassed-more : (sinks : List Sink) (k : ℕ) (next : Sink) → k < length sinks → next.waiting ≡ [] → ArePassed k sinks → ArePassed (k + 1) (set sinks k next)
ArePassed-more [] k next below none are = absurd (omega arith)
ArePassed-more (s ∷ ss) zero next below none are = λ j d low high. at_first j d (omega arith)
  where
    at_first : (j : ℕ) (d : Sink) → j ≡ 0 → (get_or (next ∷ ss) j d).waiting ≡ []
    at_first zero d is = none
    at_first (suc j) d is = absurd (omega arith)
ArePassed-more (s ∷ ss) (suc k) next below none are = at (ArePassed-more ss k next (omega arith) none (λ i e lower higher. are (suc i) e (omega arith) (omega arith)))
  where
    at : ArePassed (k + 1) (set ss k next) → ArePassed (suc k + 1) (s ∷ set ss k next)
    at rest zero d low high = are 0 d (omega arith) (omega arith)
    at rest (suc j) d low high = rest j d (omega arith) (omega arith)

-- ---- one more file

pub ids_of-added : (sinks : List Sink) (s : Sink) → ids_of (sinks ++ s ∷ []) ≡ ids_of sinks ++ s.file ∷ []
ids_of-added [] s = refl
ids_of-added (first ∷ ss) s = ap (λ (fs : List FileId). first.file ∷ fs) (ids_of-added ss s)

pub AreLive-added : (live : ℕ → Bool) (sinks : List Sink) (s : Sink) → AreLive live (ids_of sinks) → live s.file.n ≡ true → AreLive live (ids_of (sinks ++ s ∷ []))
AreLive-added live sinks s are is = subst (AreLive live) (sym (ids_of-added sinks s)) (All-push (λ (f : FileId). live f.n ≡ true) (ids_of sinks) s.file are is)

-- Files below a number stay live.
pub AreLive-below : (old new : ℕ → Bool) (high : ℕ) (list : List FileId) → AreLive old list → ((file : ℕ) → old file ≡ true → file < high) → ((file : ℕ) → file < high → new file ≡ old file) → AreLive new list
AreLive-below old new high list are numbered alive = λ k d below. alive (get_or list k d).n (numbered (get_or list k d).n (are k d below)) ∙ are k d below

-- A further file has a greater number than the others.
pub AreRising-added : (high : ℕ) (sinks : List Sink) (s : Sink) → AreRising (ids_of sinks) → All (λ (f : FileId). f.n < high) (ids_of sinks) → high ≤ s.file.n → AreRising (ids_of (sinks ++ s ∷ []))
AreRising-added high sinks s rising below next = subst AreRising (sym (ids_of-added sinks s))
    (all_pairs_push (λ (a b : FileId). a.n < b.n) (ids_of sinks) s.file rising (λ k d within. let lower = below k d within in omega (arith, lower)))

-- Files with numbers of at least `least`, and one more.
pub AreNewer-added : (least : ℕ) (sinks : List Sink) (s : Sink) → All (λ (f : FileId). least ≤ f.n) (ids_of sinks) → least ≤ s.file.n → All (λ (f : FileId). least ≤ f.n) (ids_of (sinks ++ s ∷ []))
AreNewer-added least sinks s newer next = subst (All (λ (f : FileId). least ≤ f.n)) (sym (ids_of-added sinks s)) (All-push (λ (f : FileId). least ≤ f.n) (ids_of sinks) s.file newer next)

-- A property that always holds is true for any result.
pub OnErr-always : {T E A : Type 0} (result : Result T E) → A → OnErr result A
OnErr-always (Ok value) holds = tt
OnErr-always (Err fault) holds = holds

-- ---- files are closed in sequence

pub closed-more : (old new : ℕ → Bool) (list : List FileId) (i : ℕ) (closed : FileId) → AllPairs (λ (a b : FileId). a.n < b.n) list → i < length list → ((d : FileId) → get_or list i d ≡ closed) → new closed.n ≡ false → ((file : ℕ) → file ≢ closed.n → new file ≡ old file) → AllWithin (λ (f : FileId). old f.n ≡ false) list 0 i → AllWithin (λ (f : FileId). old f.n ≡ true) list i (length list) → AllWithin (λ (f : FileId). new f.n ≡ false) list 0 (i + 1) × AllWithin (λ (f : FileId). new f.n ≡ true) list (i + 1) (length list)
closed-more old new list i closed apart within is ended stays before behind = (
  λ k d low high. below_more (λ j. (e : FileId) → new (get_or list j e).n ≡ false) i
      (λ j less e. stays (get_or list j e).n (lower (get_or list j e).n (get_or list i e).n closed.n (apart j i e less within) (ap (λ (f : FileId). f.n) (is e))) ∙ before j e (omega arith) less)
      (λ e. ap (λ (f : FileId). new f.n) (is e) ∙ ended) k high d,
  λ k d low high. stays (get_or list k d).n (higher (get_or list i d).n (get_or list k d).n closed.n (apart i k d (omega arith) high) (ap (λ (f : FileId). f.n) (is d))) ∙ behind k d (omega arith) high,
)
  where
    lower : (a b c : ℕ) → a < b → b ≡ c → a ≡ c → ⊥
    lower a b c less at same = omega arith

    higher : (a b c : ℕ) → a < b → a ≡ c → b ≡ c → ⊥
    higher a b c less at same = omega arith

-- A live file isn't the one that was closed.
pub still-live : (live : ℕ → Bool) (ended file : ℕ) → live ended ≡ false → live file ≡ true → file ≢ ended
still-live live ended file is are same = let both : true ≡ false = sym are ∙ ap live same ∙ is in absurd (cc)

-- ---- other live files

-- A file that isn't in a longer list isn't in the list.
pub IsNoneOf-added : (sinks : List Sink) (s : Sink) (file : ℕ) → IsNoneOf file (ids_of (sinks ++ s ∷ [])) → IsNoneOf file (ids_of sinks) × (file ≢ s.file.n)
IsNoneOf-added sinks s file none = (first_differ (ids_of sinks) s.file none', λ same. last_differs (ids_of sinks) s.file none' (sym same))
  where
    none' : IsNoneOf file (ids_of sinks ++ s.file ∷ [])
    none' = subst (IsNoneOf file) (ids_of-added sinks s) none

    last_differs : (list : List FileId) (f : FileId) → IsNoneOf file (list ++ f ∷ []) → f.n ≢ file
    last_differs [] f others = others 0 f (omega arith)
    last_differs (first ∷ list) f others = last_differs list f (λ k d below. others (suc k) d (omega arith))

    first_differ : (list : List FileId) (f : FileId) → IsNoneOf file (list ++ f ∷ []) → IsNoneOf file list
    first_differ [] f others = λ k d below. absurd (omega arith)
    first_differ (first ∷ list) f others = λ k d below. at (first_differ list f (λ i e within. others (suc i) e (omega arith))) k d below
      where
        at : IsNoneOf file list → (k : ℕ) (d : FileId) → k < suc (length list) → (get_or (first ∷ list) k d).n ≢ file
        at rest zero d below = others 0 d (omega arith)
        at rest (suc k) d below = rest k d (omega arith)

-- ---- a number among others

-- A number below all others isn't one of them.
pub IsNoneOf-below : (list : List FileId) (least file : ℕ) → All (λ (s : FileId). least ≤ s.n) list → file < least → IsNoneOf file list
IsNoneOf-below list least file newer below k d within same = let high = newer k d within in omega (arith, same)

-- A number isn't one of the closed files, or its file is closed.
pub is_ended : (live : ℕ → Bool) (file : ℕ) (list : List FileId) → All (λ (s : FileId). live s.n ≡ false) list → IsNoneOf file list ⊎ (live file ≡ false)
is_ended live file [] ended = inl (λ k d below. absurd (omega arith))
is_ended live file (f ∷ fs) ended = step (is_ended live file fs (λ k d below. ended (suc k) d (omega arith))) (eqb_tells f.n file)
  where
    at : f.n ≢ file → IsNoneOf file fs → (k : ℕ) (d : FileId) → k < suc (length fs) → (get_or (f ∷ fs) k d).n ≢ file
    at differs none zero d below = differs
    at differs none (suc k) d below = none k d (omega arith)

    step : IsNoneOf file fs ⊎ (live file ≡ false) → ((eqb f.n file ≡ true) × (f.n ≡ file)) ⊎ ((eqb f.n file ≡ false) × (f.n ≢ file)) → IsNoneOf file (f ∷ fs) ⊎ (live file ≡ false)
    step (inr is) tells = inr is
    step (inl none) (inl same) = inr (ap live (sym same.1) ∙ ended 0 f (omega arith))
    step (inl none) (inr differs) = inl (at differs.1 none)

-- ---- outputs stay open

-- Outputs stay open if their files are the same and all live as before.
pub AreOpen-kept : {S : Type 0} (r : Ghosts S) (old new : S) (sinks later : List Sink) → AreOpen r old sinks → ids_of later ≡ ids_of sinks → ((file : ℕ) → (live_files r new).live file ≡ (live_files r old).live file) → AreOpen r new later
AreOpen-kept r old new sinks later outputs same alive = record {
  live = subst (AreLive (live_files r new).live) (sym same) (AreLive-on (live_files r old).live (live_files r new).live (ids_of sinks) outputs.live alive);
  rising = subst AreRising (sym same) outputs.rising;
}

-- The name of one of the outputs is one of their names.
pub AreOthers-at : (holder : ℕ → List ℕ) (list : List FileId) (k : ℕ) (d : FileId) (name : List ℕ) → k < length list → AreOthers name (holders_of holder list) → AreOthers name (holder (get_or list k d).n ∷ [])
AreOthers-at holder [] k d name below others = absurd (omega arith)
AreOthers-at holder (f ∷ fs) zero d name below others = (others.0, tt)
AreOthers-at holder (f ∷ fs) (suc k) d name below others = AreOthers-at holder fs k d name (omega arith) others.1

-- A call that wrote to one of the outputs wrote to them.
pub WritesOnly-sink : {S : Type 0} (r : Ghosts S) (f : writing.Ghosts S) (old new : S) (sinks : List Sink) (k : ℕ) (was : Sink) → k < length sinks → was ≡ get_or sinks k was → WritesOnly r f (f.holder old was.file.n ∷ []) old new → WritesOnly r f (holders_of (f.holder old) (ids_of sinks)) old new
WritesOnly-sink r f old new sinks k was below is only =
    WritesOnly-more r f (f.holder old was.file.n ∷ []) (holders_of (f.holder old) (ids_of sinks)) old new (λ name others.
    let file : get_or (ids_of sinks) k was.file ≡ was.file = ids_of-at sinks k was was.file below ∙ ap (λ (s : Sink). s.file) (sym is) in
    let P : FileId → Type 0 = λ each. AreOthers name (f.holder old each.n ∷ []) in
    subst P file (AreOthers-at (f.holder old) (ids_of sinks) k was.file name (omega (arith, length-ids_of sinks)) others)) only

-- ---- two calls that write

-- Nothing was written.
pub WritesOutputs-none : {S : Type 0} (r : Ghosts S) (f : writing.Ghosts S) (files : S) (sinks : List Sink) → AreOpen r files sinks → WritesOutputs r f files files sinks sinks
WritesOutputs-none r f files sinks outputs = record { same = refl; outputs = outputs; only = WritesOnly-none r f (names_under f files sinks) files }

-- One more call.
pub WritesOutputs-then : {S : Type 0} (r : Ghosts S) (f : writing.Ghosts S) (a b c : S) (sinks now later : List Sink) → AreOpen r a sinks → WritesOutputs r f a b sinks now → WritesOutputs r f b c now later → WritesOutputs r f a c sinks later
WritesOutputs-then r f a b c sinks now later outputs first next = record {
  same = next.same ∙ first.same;
  outputs = next.outputs;
  only = WritesOnly-then r f (names_under f a sinks) a b c first.only
      (subst (λ (names : List (List ℕ)). WritesOnly r f names b c)
      (ap (holders_of (f.holder b)) first.same ∙ holders_of-kept (live_files r a).live (f.holder a) (f.holder b) (ids_of sinks) outputs.live first.only.kept.holders) next.only);
}

-- ---- the files since outputs were first made

-- Another output is made, or the call fails.
pub MadeSince-added : {S : Type 0} (r : Ghosts S) (f : writing.Ghosts S) (names : List (List ℕ)) (name : List ℕ) (a b c : S) (sinks later : List Sink) → ((file : ℕ) → (live_files r a).live file ≡ true → file < f.given a) → ((other : List ℕ) → AreOthers other names → other ≢ name) → MadeSince r f names a b sinks → MakesOnly r f name b c sinks later → MadeSince r f names a c later
MadeSince-added r f names name a b c sinks later numbered among first next = record {
  newer = next.newer (f.given a) first.given first.newer;
  besides = λ file none. next.besides file none ∙ first.besides file (next.among file none);
  given = let earlier = first.given in let more = next.given in omega arith;
  holders = λ file live. next.holders file (stays file live) ∙ first.holders file live;
  others = λ file is. IsSameFile-twice (live_files r a) (live_files r b) (live_files r c) file (first.others file is)
      (next.others file (high file is.0, λ same. among (f.holder a file) is.1 (sym (first.holders file is.0) ∙ same)));
  asks = asks-both (IsNotAmong [] names) (f.asked a) (f.asked b) (f.asked c) first.asks
      (asks-more [] (name ∷ []) [] names (f.asked b) (f.asked c) (λ other others. others) (λ other others. (λ same. among other others (sym same), tt)) next.asks);
}
  where
    high : (file : ℕ) → (live_files r a).live file ≡ true → file < f.given b
    high file live = let below = numbered file live in let more = first.given in omega arith

    stays : (file : ℕ) → (live_files r a).live file ≡ true → (live_files r b).live file ≡ true
    stays file live = first.besides file (IsNoneOf-below (ids_of sinks) (f.given a) file first.newer (numbered file live)) ∙ live

-- Outputs are written, or other files are read.
pub MadeSince-kept : {S : Type 0} (r : Ghosts S) (f : writing.Ghosts S) (names : List (List ℕ)) (a b c : S) (sinks later : List Sink) → ((file : ℕ) → (live_files r a).live file ≡ true → file < f.given a) → MadeSince r f names a b sinks → ids_of later ≡ ids_of sinks → KeepsOthers r f names b c → MadeSince r f names a c later
MadeSince-kept r f names a b c sinks later numbered first same next = record {
  newer = subst (All (λ (s : FileId). f.given a ≤ s.n)) (sym same) first.newer;
  besides = λ file none. next.live file ∙ first.besides file (subst (IsNoneOf file) same none);
  given = let earlier = first.given in let more = next.given in omega arith;
  holders = λ file live. next.holders file (stays file live) ∙ first.holders file live;
  others = λ file is. IsSameFile-twice (live_files r a) (live_files r b) (live_files r c) file (first.others file is)
      (next.others file (let P : List ℕ → Type 0 = λ name. AreOthers name names in subst P (sym (first.holders file is.0)) is.1));
  asks = asks-both (IsNotAmong [] names) (f.asked a) (f.asked b) (f.asked c) first.asks next.asks;
}
  where
    stays : (file : ℕ) → (live_files r a).live file ≡ true → (live_files r b).live file ≡ true
    stays file live = first.besides file (IsNoneOf-below (ids_of sinks) (f.given a) file first.newer (numbered file live)) ∙ live

-- The outputs are closed: the live files are the ones that were live before they were made.
pub KeepsOthers-ended : {S : Type 0} (r : Ghosts S) (f : writing.Ghosts S) (names : List (List ℕ)) (a b c : S) (sinks : List Sink) → ((file : ℕ) → (live_files r a).live file ≡ true → file < f.given a) → MadeSince r f names a b sinks → EndsOnly r f b c (ids_of sinks) → KeepsOthers r f names a c
KeepsOthers-ended r f names a b c sinks numbered first ends = record {
  live = alive;
  given = let earlier = first.given in omega (arith, ends.given);
  holders = λ file live. ends.holders file (alive file ∙ live) ∙ first.holders file live;
  others = λ file other. record {
    alive = alive file;
    size = λ live. (same file other live).size live;
    content = λ live. (same file other live).content live;
  };
  asks = asks-both (IsNotAmong [] names) (f.asked a) (f.asked b) (f.asked c) first.asks (asks-none (IsNotAmong [] names) (f.asked b) (f.asked c) ends.asked);
}
  where
    old : (file : ℕ) → (live_files r a).live file ≡ true → IsNoneOf file (ids_of sinks)
    old file live = IsNoneOf-below (ids_of sinks) (f.given a) file first.newer (numbered file live)

    same : (file : ℕ) → AreOthers (f.holder a file) names → (live_files r a).live file ≡ true → IsSameFile (live_files r a) (live_files r c) file
    same file other live = IsSameFile-twice (live_files r a) (live_files r b) (live_files r c) file (first.others file (live, other)) (ends.others file (old file live))

    -- The number is an output's, whose file is closed and wasn't live before, or it isn't.
    at : (file : ℕ) (was : Bool) → (live_files r a).live file ≡ was → (IsNoneOf file (ids_of sinks) ⊎ ((live_files r c).live file ≡ false)) → (live_files r c).live file ≡ was
    at file true is among = (ends.others file (old file is)).alive ∙ first.besides file (old file is) ∙ is
    at file false is (inl none) = (ends.others file none).alive ∙ first.besides file none ∙ is
    at file false is (inr ended) = ended

    alive : (file : ℕ) → (live_files r c).live file ≡ (live_files r a).live file
    alive file = at file ((live_files r a).live file) refl (is_ended (live_files r c).live file (ids_of sinks) ends.ended) ∙ refl

-- Outputs with names in the list are written.
pub MadeSince-written : {S : Type 0} (r : Ghosts S) (f : writing.Ghosts S) (names : List (List ℕ)) (a b c : S) (sinks later : List Sink) → ((file : ℕ) → (live_files r a).live file ≡ true → file < f.given a) → ((name : List ℕ) → AreOthers name names → AreOthers name (names_under f b sinks)) → MadeSince r f names a b sinks → WritesOutputs r f b c sinks later → MadeSince r f names a c later
MadeSince-written r f names a b c sinks later numbered among first wrote =
    MadeSince-kept r f names a b c sinks later numbered first wrote.same (KeepsOthers-more r f (names_under f b sinks) names b c among wrote.only.kept)
