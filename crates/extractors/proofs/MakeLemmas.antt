-- Outputs are created in sequence.
use Rattle.std.proofs.Common.{◌≡◌, ◌≢◌, true, ℕ, zero, suc, ◌+◌, ◌<◌, ◌≤◌, List, [], ◌∷◌, ◌++◌, length, take, get_or, Result, Ok, Err, IsErr, refl, sym, ◌∙◌, ap, subst, arith, length-append}
use Rattle.mkv_io.specs.Names.{AreApart, AreOthers, Names}
use Rattle.mkv_io.specs.Sources.{live_files}
use Rattle.mkv_io.specs.Writing.{KeepsOthers}
use Rattle.mkv_io.specs.declared.files.Files.{Ghosts}
use Rattle.mkv_io.specs.declared.reads.Reads.{Ghosts as ReadsGhosts}
use Rattle.block_format.specs.Block.{Block}
use Rattle.mkv_outputs.specs.Outputs.{Output, empty, names_of, with_empty, with_end, with_more}
use Rattle.mkv_outputs.specs.Sinks.{HaveBeenGiven, MadeSince, holders_of, ids_of}
use Rattle.mkv_outputs.specs.Starts.{AreBegun, ArePrefixes}
use Rattle.mkv_outputs.specs.declared.sink.Sink.{Sink}
use Rattle.mkv_outputs.proofs.FilesLemmas.{MadeSince-kept}
use Rattle.mkv_outputs.proofs.GivenLemmas.{HaveBeenGiven-apart, HaveBeenGiven-names, length_of_map}
use Rattle.mkv_outputs.proofs.StartsLemmas.{AreBegun-then, IsBegun-whole}
use Rattle.extractors.specs.Content.{names_in, output_of, outputs_of}
use Rattle.extractors.specs.declared.track_output.TrackOutput.{TrackOutput}
use Rattle.extractors.proofs.ContentLemmas.{names_of-outputs, output_of-none}
use Rattle.extractors.specs.Walks.{MakesOutputs, WritesAndReads}
use Rattle.extractors.specs.Whole.{AreWritten}

-- A failure leaves a first part.
pub MakesOutputs-err : {S T E : Type 0} (f : Ghosts S) (old new : S) (later : List Sink) (given : List Output) (result : Result T E) → IsErr result → ArePrefixes (f.names old) (f.names new) given → MakesOutputs f old new later given result
MakesOutputs-err f old new later given (Ok done) is part = absurd (cc)
MakesOutputs-err f old new later given (Err fault) is part = part

-- ---- the first of the outputs

-- The next output has only its first bytes.
first_and : (list : List TrackOutput) (k : ℕ) (d : TrackOutput) → k < length list → outputs_of (take (suc k) list) [] ≡ outputs_of (take k list) [] ++ output_of (get_or list k d) [] ∷ []
first_and [] k d below = absurd (omega arith)
first_and (o ∷ os) zero d below = refl
first_and (o ∷ os) (suc k) d below = ap (λ (rest : List Output). output_of o [] ∷ rest) (first_and os k d (omega arith))

pub outputs_of-next : (list : List TrackOutput) (k : ℕ) (o : TrackOutput) → k < length list → o ≡ get_or list k o → outputs_of (take (k + 1) list) [] ≡ outputs_of (take k list) [] ++ output_of o [] ∷ []
outputs_of-next list k o below is =
    ap (λ (n : ℕ). outputs_of (take n list) []) (one_more k) ∙ first_and list k o below
    ∙ ap (λ (each : TrackOutput). outputs_of (take k list) [] ++ output_of each [] ∷ []) (sym is)
  where
    one_more : (n : ℕ) → n + 1 ≡ suc n
    one_more n = omega arith

pub outputs_of-first : (list : List TrackOutput) (k : ℕ) (blocks : List Block) → AreBegun (outputs_of (take k list) blocks) (outputs_of list blocks)
outputs_of-first [] zero blocks = tt
outputs_of-first [] (suc k) blocks = tt
outputs_of-first (o ∷ os) zero blocks = tt
outputs_of-first (o ∷ os) (suc k) blocks = (IsBegun-whole (output_of o blocks), outputs_of-first os k blocks)

-- Bytes are added to the last output.
with_more-last : (given : List Output) (o : Output) (k : ℕ) (more : List ℕ) → k ≡ length given → with_more k more (given ++ o ∷ []) ≡ given ++ with_end more o ∷ []
with_more-last [] o zero more is = refl
with_more-last [] o (suc k) more is = absurd (omega arith)
with_more-last (first ∷ given) o zero more is = absurd (omega arith)
with_more-last (first ∷ given) o (suc k) more is = ap (λ (rest : List Output). first ∷ rest) (with_more-last given o k more (omega arith))

-- There is one output for each element of the list.
pub length-outputs : (list : List TrackOutput) (blocks : List Block) → length (outputs_of list blocks) ≡ length list
length-outputs list blocks = length_of_map (λ (o : TrackOutput). output_of o blocks) list

length-first : (list : List TrackOutput) (k : ℕ) → k ≤ length list → k ≡ length (outputs_of (take k list) [])
length-first [] zero below = refl
length-first [] (suc k) below = absurd (omega arith)
length-first (o ∷ os) zero below = refl
length-first (o ∷ os) (suc k) below = ap suc (length-first os k (omega arith))

-- There is one output more than before.
pub count-next : (list : List TrackOutput) (k : ℕ) (name : List ℕ) → k < length list → (count : ℕ) → length (with_empty name (outputs_of (take k list) [])) ≡ count → k < count
count-next list k name below count is =
    let first = length-first list k (omega arith) in
    let more = length-append (outputs_of (take k list) []) (empty name ∷ []) in
    omega (arith, first, more, is)

-- A further output is created with its first bytes.
pub made-next : (list : List TrackOutput) (k : ℕ) (o : TrackOutput) → k < length list → o ≡ get_or list k o → with_more k o.head (with_empty o.name (outputs_of (take k list) [])) ≡ outputs_of (take (k + 1) list) []
made-next list k o below is =
    with_more-last (outputs_of (take k list) []) (empty o.name) k o.head (length-first list k (omega arith))
    ∙ ap (λ (last : Output). outputs_of (take k list) [] ++ last ∷ []) (sym (output_of-none o))
    ∙ sym (outputs_of-next list k o below is)

-- A further output is created with its first bytes, if its name and head are known by their bytes.
pub made-next-as : (list : List TrackOutput) (k : ℕ) (o : TrackOutput) (name head : List ℕ) → k < length list → o ≡ get_or list k o → name ≡ o.name → head ≡ o.head → with_more k head (with_empty name (outputs_of (take k list) [])) ≡ outputs_of (take (k + 1) list) []
made-next-as list k o name head below is named headed =
    ap (λ (n : List ℕ). with_more k head (with_empty n (outputs_of (take k list) []))) named
    ∙ ap (λ (h : List ℕ). with_more k h (with_empty o.name (outputs_of (take k list) []))) headed
    ∙ made-next list k o below is

-- Without its first bytes the output is a first part.
pub made-begun : (list : List TrackOutput) (k : ℕ) (o : TrackOutput) → k < length list → o ≡ get_or list k o → AreBegun (with_empty o.name (outputs_of (take k list) [])) (outputs_of list [])
made-begun list k o below is =
    AreBegun-then (with_empty o.name (outputs_of (take k list) [])) (outputs_of (take (k + 1) list) []) (outputs_of list [])
    (subst (AreBegun (with_empty o.name (outputs_of (take k list) []))) (sym (outputs_of-next list k o below is)) (begun (outputs_of (take k list) [])))
    (outputs_of-first list (k + 1) [])
  where
    begun : (first : List Output) → AreBegun (with_empty o.name first) (first ++ output_of o [] ∷ [])
    begun [] = (record { name = refl; content = record { rest = (output_of o []).content; whole = refl } }, tt)
    begun (one ∷ first) = (IsBegun-whole one, begun first)

-- ---- names

AreOthers-at : (name : List ℕ) (list : List TrackOutput) (k : ℕ) (d : TrackOutput) → AreOthers name (names_in list) → k < length list → (get_or list k d).name ≢ name
AreOthers-at name [] k d others below = absurd (omega arith)
AreOthers-at name (o ∷ os) zero d others below = others.0
AreOthers-at name (o ∷ os) (suc k) d others below = AreOthers-at name os k d others.1 (omega arith)

-- A name differs from the names before it.
AreApart-before : (list : List TrackOutput) (k : ℕ) (d : TrackOutput) → AreApart (names_in list) → k < length list → AreOthers (get_or list k d).name (names_in (take k list))
AreApart-before [] k d apart below = absurd (omega arith)
AreApart-before (o ∷ os) zero d apart below = tt
AreApart-before (o ∷ os) (suc k) d apart below = (λ same. AreOthers-at o.name os k d apart.0 (omega arith) (sym same), AreApart-before os k d apart.1 (omega arith))

-- The name of the next output differs from the others.
pub made-apart : (old new : Names) (holder : ℕ → List ℕ) (sinks : List Sink) (list : List TrackOutput) (k : ℕ) (o : TrackOutput) → HaveBeenGiven old new holder sinks (outputs_of (take k list) []) → AreApart (names_in list) → k < length list → o ≡ get_or list k o → AreOthers o.name (holders_of holder (ids_of sinks))
made-apart old new holder sinks list k o has apart below is =
    HaveBeenGiven-apart old new holder sinks (outputs_of (take k list) []) o.name has
    (subst (AreOthers o.name) (sym (names_of-outputs (take k list) []))
    (subst (λ (each : TrackOutput). AreOthers each.name (names_in (take k list))) (sym is) (AreApart-before list k o apart below)))

-- The name of the next output differs from the name of another file.
pub made-other : (list : List TrackOutput) (k : ℕ) (o : TrackOutput) (name : List ℕ) → k < length list → o ≡ get_or list k o → AreOthers name (names_in list) → name ≢ o.name
made-other list k o name below is others same = AreOthers-at name list k o others below (ap (λ (each : TrackOutput). each.name) (sym is) ∙ sym same)

-- The outputs that were created have names of the list.
pub made-among : (old new : Names) (holder : ℕ → List ℕ) (sinks : List Sink) (list : List TrackOutput) (given : List Output) (name : List ℕ) → HaveBeenGiven old new holder sinks given → AreBegun given (outputs_of list []) → AreOthers name (names_in list) → AreOthers name (holders_of holder (ids_of sinks))
made-among old new holder sinks list given name has begun others =
    HaveBeenGiven-apart old new holder sinks given name has (among given (outputs_of list []) begun (subst (AreOthers name) (sym (names_of-outputs list [])) others))
  where
    among : (some all : List Output) → AreBegun some all → AreOthers name (names_of all) → AreOthers name (names_of some)
    among [] all begun others = tt
    among (o ∷ os) [] begun others = absurd begun
    among (o ∷ os) (whole ∷ all) begun others = (λ same. others.0 (sym begun.0.name ∙ same), among os all begun.1 others.1)

-- ---- the other files

-- The outputs that were created have these names.
made-names : (old new : Names) (holder : ℕ → List ℕ) (sinks : List Sink) (list : List TrackOutput) → HaveBeenGiven old new holder sinks (outputs_of list []) → holders_of holder (ids_of sinks) ≡ names_in list
made-names old new holder sinks list has = HaveBeenGiven-names old new holder sinks (outputs_of list []) has ∙ names_of-outputs list []

-- A file with another name isn't one of the outputs.
pub made-input : (old new : Names) (before holder : ℕ → List ℕ) (sinks : List Sink) (list : List TrackOutput) (file : ℕ) → HaveBeenGiven old new holder sinks (outputs_of list []) → holder file ≡ before file → AreOthers (before file) (names_in list) → AreOthers (holder file) (holders_of holder (ids_of sinks))
made-input old new before holder sinks list file has same others =
    let P : List (List ℕ) → Type 0 = λ names. AreOthers (holder file) names in
    subst P (sym (made-names old new holder sinks list has))
    (let Q : List ℕ → Type 0 = λ name. AreOthers name (names_in list) in subst Q (sym same) others)

-- The outputs are written while a file is read.
pub made-walked : {S : Type 0} (r : ReadsGhosts S) (f : Ghosts S) (old : Names) (a b c : S) (list : List TrackOutput) (sinks later : List Sink) → ((file : ℕ) → (live_files r a).live file ≡ true → file < f.given a) → HaveBeenGiven old (f.names b) (f.holder b) sinks (outputs_of list []) → MadeSince r f (names_in list) a b sinks → WritesAndReads r f b c sinks later → MadeSince r f (names_in list) a c later
made-walked r f old a b c list sinks later numbered has made walks =
    MadeSince-kept r f (names_in list) a b c sinks later numbered made walks.same
    (let P : List (List ℕ) → Type 0 = λ names. KeepsOthers r f names b c in subst P (made-names old (f.names b) (f.holder b) sinks list has) walks.kept)

-- A failure leaves a first part.
pub AreWritten-err : {T E : Type 0} (old new : Names) (outputs : List Output) (result : Result T E) → IsErr result → ArePrefixes old new outputs → AreWritten old new outputs result
AreWritten-err old new outputs (Ok done) is part = absurd (cc)
AreWritten-err old new outputs (Err fault) is part = part
