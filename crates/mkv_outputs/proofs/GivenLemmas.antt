-- Laws on the bytes that outputs were given, while their files are written.
use Rattle.std.proofs.Common.{◌≡◌, ◌≢◌, ℕ, zero, suc, ◌<◌, List, [], ◌∷◌, ◌++◌, length, get_or, map, Result, Ok, Err, IsErr, OnOk, OnErr, refl, sym, ◌∙◌, ap, subst, arith, append_assoc, append-nil, Bool, ◌⊎◌, inl, inr}
use Rattle.std.proofs.Math.ListN.{set}
use Rattle.mkv_io.specs.declared.files.Files.{Ghosts}
use Rattle.mkv_io.specs.declared.outside.FileId.{FileId}
use Rattle.mkv_io.specs.LiveFiles.{KeepsHolders}
use Rattle.mkv_io.specs.Contents.{with_appended}
use Rattle.mkv_io.specs.Names.{Names, with_change, with_content}
use Rattle.mkv_io.specs.Names.{AreApart, AreOthers}
use Rattle.mkv_outputs.specs.Outputs.{Output, empty, names_of, with_empty, with_end, with_more, with_outputs}
use Rattle.mkv_outputs.specs.Starts.{AreBegun, ArePrefixes}
use Rattle.mkv_outputs.specs.Sinks.{AreLive, ArePassed, Gives, HaveBeenGiven, ids_of, holders_of, with_waiting}
use Rattle.mkv_outputs.specs.Written.{Passes, PassesOn}
use Rattle.mkv_outputs.specs.declared.sink.Sink.{Sink}
use Rattle.mkv_outputs.proofs.OutputsLemmas.{names_of-more, with_more-none, with_outputs-added, with_outputs-more}
use Rattle.mkv_outputs.proofs.StartsLemmas.{ArePrefixes-before}

-- The content of the files is a prefix of the bytes that were given.
pub with_waiting-begun : (stand : List Output) (sinks : List Sink) → length stand ≡ length sinks → AreBegun stand (with_waiting stand sinks)
with_waiting-begun [] sinks same = tt
with_waiting-begun (o ∷ os) [] same = absurd (omega (arith, same))
with_waiting-begun (o ∷ os) (s ∷ ss) same =
    (record { name = refl; content = record { rest = s.waiting; whole = refl } }, with_waiting-begun os ss (omega (arith, same)))

-- The first of the waiting and new bytes are written, and the others wait.
pub with_waiting-more : (stand : List Output) (sinks : List Sink) (k : ℕ) (d next : Sink) (written more : List ℕ) → length stand ≡ length sinks → (get_or sinks k d).waiting ++ more ≡ written ++ next.waiting → with_waiting (with_more k written stand) (set sinks k next) ≡ with_more k more (with_waiting stand sinks)
with_waiting-more [] sinks k d next written more same is = refl
with_waiting-more (o ∷ os) [] k d next written more same is = absurd (omega (arith, same))
with_waiting-more (o ∷ os) (s ∷ ss) zero d next written more same is =
    ap (λ (content : List ℕ). record { name = o.name; content = content } ∷ with_waiting os ss)
    (append_assoc o.content written next.waiting ∙ ap (λ (octets : List ℕ). o.content ++ octets) (sym is) ∙ sym (append_assoc o.content s.waiting more))
with_waiting-more (o ∷ os) (s ∷ ss) (suc k) d next written more same is =
    ap (λ (rest : List Output). with_end s.waiting o ∷ rest) (with_waiting-more os ss k d next written more (omega (arith, same)) is)

-- ---- the files

-- The files stay the same ones.
pub ids_of-set : (sinks : List Sink) (k : ℕ) (d next : Sink) → next.file ≡ (get_or sinks k d).file → ids_of (set sinks k next) ≡ ids_of sinks
ids_of-set [] k d next is = refl
ids_of-set (s ∷ ss) zero d next is = ap (λ (f : FileId). f ∷ ids_of ss) is
ids_of-set (s ∷ ss) (suc k) d next is = ap (λ (fs : List FileId). s.file ∷ fs) (ids_of-set ss k d next is)

-- The file number `k` of the outputs.
pub ids_of-at : (sinks : List Sink) (k : ℕ) (d : Sink) (f : FileId) → k < length sinks → get_or (ids_of sinks) k f ≡ (get_or sinks k d).file
ids_of-at [] k d f below = absurd (omega arith)
ids_of-at (s ∷ ss) zero d f below = refl
ids_of-at (s ∷ ss) (suc k) d f below = ids_of-at ss k d f (omega arith)

pub holders_of-kept : (live : ℕ → Bool) (old new : ℕ → List ℕ) (list : List FileId) → AreLive live list → KeepsHolders live old new → holders_of new list ≡ holders_of old list
holders_of-kept live old new [] are kept = refl
holders_of-kept live old new (f ∷ fs) are kept =
    ap (λ (name : List ℕ). name ∷ holders_of new fs) (kept f.n (are 0 f (omega arith)))
    ∙ ap (λ (names : List (List ℕ)). old f.n ∷ names) (holders_of-kept live old new fs (λ k d below. are (suc k) d (omega arith)) kept)

-- The name number `k` of the outputs.
pub holders_of-at : (holder : ℕ → List ℕ) (list : List FileId) (k : ℕ) (d : FileId) → k < length list → get_or (holders_of holder list) k [] ≡ holder (get_or list k d).n
holders_of-at holder [] k d below = absurd (omega arith)
holders_of-at holder (f ∷ fs) zero d below = refl
holders_of-at holder (f ∷ fs) (suc k) d below = holders_of-at holder fs k d (omega arith)

-- A map keeps the length of a list.
pub length_of_map : {A B : Type 0} (f : A → B) (xs : List A) → length (map f xs) ≡ length xs
length_of_map f [] = refl
length_of_map f (x ∷ xs) = ap suc (length_of_map f xs)

pub length-ids_of : (sinks : List Sink) → length (ids_of sinks) ≡ length sinks
length-ids_of sinks = length_of_map (λ (s : Sink). s.file) sinks

pub HaveBeenGiven-length : {old new : Names} {holder : ℕ → List ℕ} {sinks : List Sink} {given : List Output} (has : HaveBeenGiven old new holder sinks given) → length has.stand ≡ length sinks
HaveBeenGiven-length {holder = holder} {sinks = sinks} has =
    sym (length_of_map (λ (o : Output). o.name) has.stand) ∙ ap length has.holders ∙ length_of_map (λ (f : FileId). holder f.n) (ids_of sinks) ∙ length-ids_of sinks

-- ---- one output gets more bytes

pub HaveBeenGiven-on : (old mid new : Names) (live : ℕ → Bool) (holder later : ℕ → List ℕ) (sinks : List Sink) (k : ℕ) (d next : Sink) (more : List ℕ) (given : List Output) → HaveBeenGiven old mid holder sinks given → k < length sinks → next.file ≡ (get_or sinks k d).file → AreLive live (ids_of sinks) → KeepsHolders live holder later → PassesOn mid new (holder (get_or sinks k d).file.n) ((get_or sinks k d).waiting ++ more) next.waiting → HaveBeenGiven old new later (set sinks k next) (with_more k more given)
HaveBeenGiven-on old mid new live holder later sinks k d next more given has below same are kept passed =
    let count : length has.stand ≡ length sinks = HaveBeenGiven-length has in
    let named : holders_of later (ids_of (set sinks k next)) ≡ holders_of holder (ids_of sinks) =
    ap (holders_of later) (ids_of-set sinks k d next same) ∙ holders_of-kept live holder later (ids_of sinks) are kept in
    let apart : AreApart (names_of has.stand) = subst AreApart (sym has.holders) has.apart in
    let within : k < length (ids_of sinks) = omega (arith, length-ids_of sinks) in
    let name : holder (get_or sinks k d).file.n ≡ get_or (names_of has.stand) k [] =
    ap (λ (f : FileId). holder f.n) (sym (ids_of-at sinks k d d.file below)) ∙ sym (holders_of-at holder (ids_of sinks) k d.file within) ∙ ap (λ (names : List (List ℕ)). get_or names k []) (sym has.holders) in
    record {
      stand = with_more k passed.written has.stand;
      names = passed.added ∙ ap (λ (names : Names). with_change names (holder (get_or sinks k d).file.n) (with_appended passed.written)) has.names
          ∙ with_outputs-more old has.stand k _ passed.written apart (omega (arith, count)) name;
      whole = ap (with_more k more) has.whole ∙ sym (with_waiting-more has.stand sinks k d next passed.written more count passed.whole);
      holders = names_of-more k passed.written has.stand ∙ has.holders ∙ sym named;
      apart = subst AreApart (sym named) has.apart;
    }

-- The files have a part of the bytes that were given.
pub HaveBeenGiven-part : (old new : Names) (holder : ℕ → List ℕ) (sinks : List Sink) (given : List Output) → HaveBeenGiven old new holder sinks given → ArePrefixes old new given
HaveBeenGiven-part old new holder sinks given has = record {
  stand = has.stand;
  begun = subst (AreBegun has.stand) (sym has.whole) (with_waiting-begun has.stand sinks (HaveBeenGiven-length has));
  names = has.names;
}

-- An output gets more bytes, or a part of them is written.
pub HaveBeenGiven-passes : {T E : Type 0} (result : Result T E) (old mid new : Names) (live : ℕ → Bool) (holder later : ℕ → List ℕ) (sinks : List Sink) (k : ℕ) (d next : Sink) (more : List ℕ) (given : List Output) → HaveBeenGiven old mid holder sinks given → k < length sinks → next.file ≡ (get_or sinks k d).file → AreLive live (ids_of sinks) → KeepsHolders live holder later → Passes mid new (holder (get_or sinks k d).file.n) ((get_or sinks k d).waiting ++ more) next.waiting result → OnOk result (HaveBeenGiven old new later (set sinks k next) (with_more k more given)) × OnErr result (ArePrefixes old new (with_more k more given))
HaveBeenGiven-passes (Ok done) old mid new live holder later sinks k d next more given has below same are kept passes =
    (HaveBeenGiven-on old mid new live holder later sinks k d next more given has below same are kept passes, tt)
HaveBeenGiven-passes (Err fault) old mid new live holder later sinks k d next more given has below same are kept passes =
    (tt, HaveBeenGiven-part old new later _ _ (HaveBeenGiven-on old mid new live holder later sinks k d (record { file = (get_or sinks k d).file; waiting = passes.left }) more given has below refl are kept passes.passed))

-- The output number `k` gets more bytes, or a part of them is written.
pub HaveBeenGiven-wrote : {T E : Type 0} (result : Result T E) (old mid new : Names) (live : ℕ → Bool) (holder later : ℕ → List ℕ) (sinks : List Sink) (k : ℕ) (was next : Sink) (more : List ℕ) (given : List Output) → was ≡ get_or sinks k was → next.file ≡ was.file → k < length sinks → AreLive live (ids_of sinks) → KeepsHolders live holder later → Passes mid new (holder was.file.n) (was.waiting ++ more) next.waiting result → HaveBeenGiven old mid holder sinks given → OnOk result (HaveBeenGiven old new later (set sinks k next) (with_more k more given)) × OnErr result (ArePrefixes old new (with_more k more given))
HaveBeenGiven-wrote result old mid new live holder later sinks k was next more given is same below are kept passes has =
    HaveBeenGiven-passes result old mid new live holder later sinks k was next more given has below (same ∙ ap (λ (s : Sink). s.file) is) are kept
    (subst (λ (s : Sink). Passes mid new (holder s.file.n) (s.waiting ++ more) next.waiting result) is passes)

-- The waiting bytes are written.
pub HaveBeenGiven-flushed : {T E : Type 0} (result : Result T E) (old mid new : Names) (live : ℕ → Bool) (holder later : ℕ → List ℕ) (sinks : List Sink) (k : ℕ) (was next : Sink) (given : List Output) → was ≡ get_or sinks k was → next.file ≡ was.file → k < length sinks → AreLive live (ids_of sinks) → KeepsHolders live holder later → Passes mid new (holder was.file.n) was.waiting next.waiting result → HaveBeenGiven old mid holder sinks given → OnOk result (HaveBeenGiven old new later (set sinks k next) given) × OnErr result (ArePrefixes old new given)
HaveBeenGiven-flushed result old mid new live holder later sinks k was next given is same below are kept passes has =
    subst (λ (outputs : List Output). OnOk result (HaveBeenGiven old new later (set sinks k next) outputs) × OnErr result (ArePrefixes old new outputs)) (with_more-none k given)
    (HaveBeenGiven-wrote result old mid new live holder later sinks k was next [] given is same below are kept
    (subst (λ (octets : List ℕ). Passes mid new (holder was.file.n) octets next.waiting result) (sym (append-nil was.waiting)) passes) has)

-- If no bytes wait, the files have all bytes that were given.
pub with_waiting-none : (stand : List Output) (sinks : List Sink) → length stand ≡ length sinks → ArePassed (length sinks) sinks → with_waiting stand sinks ≡ stand
with_waiting-none [] sinks same none = refl
with_waiting-none (o ∷ os) [] same none = absurd (omega (arith, same))
with_waiting-none (o ∷ os) (s ∷ ss) same none =
    ap (λ (content : List ℕ). record { name = o.name; content = content } ∷ with_waiting os ss) (ap (λ (octets : List ℕ). o.content ++ octets) (none 0 s (omega arith) (omega arith)) ∙ append-nil o.content)
    ∙ ap (λ (rest : List Output). o ∷ rest) (with_waiting-none os ss (omega (arith, same)) (λ k d low high. none (suc k) d (omega arith) (omega arith)))

pub HaveBeenGiven-whole : (old new : Names) (holder : ℕ → List ℕ) (sinks : List Sink) (given : List Output) → HaveBeenGiven old new holder sinks given → ArePassed (length sinks) sinks → new ≡ with_outputs old given
HaveBeenGiven-whole old new holder sinks given has none =
    has.names ∙ ap (with_outputs old) (sym (has.whole ∙ with_waiting-none has.stand sinks (HaveBeenGiven-length has) none))

-- ---- another output is made

pub with_waiting-added : (stand : List Output) (sinks : List Sink) (o : Output) (s : Sink) → length stand ≡ length sinks → with_waiting (stand ++ o ∷ []) (sinks ++ s ∷ []) ≡ with_waiting stand sinks ++ with_end s.waiting o ∷ []
with_waiting-added [] [] o s same = refl
with_waiting-added [] (first ∷ ss) o s same = absurd (omega (arith, same))
with_waiting-added (first ∷ os) [] o s same = absurd (omega (arith, same))
with_waiting-added (first ∷ os) (next ∷ ss) o s same = ap (λ (rest : List Output). with_end next.waiting first ∷ rest) (with_waiting-added os ss o s (omega (arith, same)))

names_of-added : (outputs : List Output) (o : Output) → names_of (outputs ++ o ∷ []) ≡ names_of outputs ++ o.name ∷ []
names_of-added [] o = refl
names_of-added (first ∷ os) o = ap (λ (names : List (List ℕ)). first.name ∷ names) (names_of-added os o)

holders_of-added : (holder : ℕ → List ℕ) (sinks : List Sink) (s : Sink) → holders_of holder (ids_of (sinks ++ s ∷ [])) ≡ holders_of holder (ids_of sinks) ++ holder s.file.n ∷ []
holders_of-added holder [] s = refl
holders_of-added holder (first ∷ ss) s = ap (λ (names : List (List ℕ)). holder first.file.n ∷ names) (holders_of-added holder ss s)

AreOthers-added : (name other : List ℕ) (names : List (List ℕ)) → AreOthers name names → other ≢ name → AreOthers name (names ++ other ∷ [])
AreOthers-added name other [] others is = (is, tt)
AreOthers-added name other (first ∷ names) others is = (others.0, AreOthers-added name other names others.1 is)

-- A further name isn't one of the others.
pub AreApart-added : (names : List (List ℕ)) (name : List ℕ) → AreApart names → AreOthers name names → AreApart (names ++ name ∷ [])
AreApart-added [] name apart others = (tt, tt)
AreApart-added (first ∷ names) name apart others = (AreOthers-added first name names apart.0 (λ is. others.0 (sym is)), AreApart-added names name apart.1 others.1)

pub HaveBeenGiven-added : (old mid new : Names) (live : ℕ → Bool) (holder later : ℕ → List ℕ) (sinks : List Sink) (s : Sink) (given : List Output) (name : List ℕ) → HaveBeenGiven old mid holder sinks given → new ≡ with_content mid name [] → s.waiting ≡ [] → later s.file.n ≡ name → AreLive live (ids_of sinks) → KeepsHolders live holder later → AreOthers name (holders_of holder (ids_of sinks)) → HaveBeenGiven old new later (sinks ++ s ∷ []) (given ++ empty name ∷ [])
HaveBeenGiven-added old mid new live holder later sinks s given name has made none under are kept others =
    let same : holders_of later (ids_of sinks) ≡ holders_of holder (ids_of sinks) = holders_of-kept live holder later (ids_of sinks) are kept in
    let named : holders_of later (ids_of (sinks ++ s ∷ [])) ≡ holders_of holder (ids_of sinks) ++ name ∷ [] =
    holders_of-added later sinks s ∙ ap (λ (names : List (List ℕ)). names ++ later s.file.n ∷ []) same ∙ ap (λ (n : List ℕ). holders_of holder (ids_of sinks) ++ n ∷ []) under in
    record {
      stand = has.stand ++ empty name ∷ [];
      names = made ∙ ap (λ (n : Names). with_content n name []) has.names ∙ sym (with_outputs-added old has.stand (empty name));
      whole = ap (λ (os : List Output). os ++ empty name ∷ []) has.whole
          ∙ ap (λ (octets : List ℕ). with_waiting has.stand sinks ++ with_end octets (empty name) ∷ []) (sym none)
          ∙ sym (with_waiting-added has.stand sinks (empty name) s (HaveBeenGiven-length has));
      holders = names_of-added has.stand (empty name) ∙ ap (λ (names : List (List ℕ)). names ++ name ∷ []) has.holders ∙ sym named;
      apart = subst AreApart (sym named) (AreApart-added (holders_of holder (ids_of sinks)) name has.apart others);
    }

-- Another output, which replaces the content of its file.
AreBegun-added : (stand : List Output) (sinks : List Sink) (o : Output) → length stand ≡ length sinks → AreBegun (stand ++ o ∷ []) (with_waiting stand sinks ++ o ∷ [])
AreBegun-added [] [] o same = (record { name = refl; content = record { rest = []; whole = sym (append-nil o.content) } }, tt)
AreBegun-added [] (s ∷ ss) o same = absurd (omega (arith, same))
AreBegun-added (first ∷ os) [] o same = absurd (omega (arith, same))
AreBegun-added (first ∷ os) (s ∷ ss) o same = (record { name = refl; content = record { rest = s.waiting; whole = refl } }, AreBegun-added os ss o (omega (arith, same)))

-- A `create` that fails.
pub HaveBeenGiven-refused : (old mid new : Names) (holder : ℕ → List ℕ) (sinks : List Sink) (given : List Output) (name : List ℕ) → HaveBeenGiven old mid holder sinks given → (new ≡ mid) ⊎ (new ≡ with_content mid name []) → ArePrefixes old new (given ++ empty name ∷ [])
HaveBeenGiven-refused old mid new holder sinks given name has (inl same) =
    subst (λ (names : Names). ArePrefixes old names (given ++ empty name ∷ [])) (sym same) (ArePrefixes-before old mid given (empty name ∷ []) (HaveBeenGiven-part old mid holder sinks given has))
HaveBeenGiven-refused old mid new holder sinks given name has (inr made) = record {
  stand = has.stand ++ empty name ∷ [];
  begun = subst (λ (os : List Output). AreBegun (has.stand ++ empty name ∷ []) (os ++ empty name ∷ [])) (sym has.whole) (AreBegun-added has.stand sinks (empty name) (HaveBeenGiven-length has));
  names = made ∙ ap (λ (n : Names). with_content n name []) has.names ∙ sym (with_outputs-added old has.stand (empty name));
}

-- The number of files is the same.
pub length-same : (sinks now : List Sink) → ids_of now ≡ ids_of sinks → length now ≡ length sinks
length-same sinks now same = sym (length-ids_of now) ∙ ap length same ∙ length-ids_of sinks

-- ---- the bytes that a call gives, by its result

-- A call that wrote to one of the outputs gives it more bytes.
pub Gives-wrote : {S T E : Type 0} (f : Ghosts S) (old new : S) (result : Result T E) (live : ℕ → Bool) (sinks : List Sink) (k : ℕ) (was next : Sink) (more : List ℕ) → was ≡ get_or sinks k was → next.file ≡ was.file → k < length sinks → AreLive live (ids_of sinks) → KeepsHolders live (f.holder old) (f.holder new) → Passes (f.names old) (f.names new) (f.holder old was.file.n) (was.waiting ++ more) next.waiting result → Gives f old new sinks (set sinks k next) (with_more k more) result
Gives-wrote {T = T} {E = E} f old new (Ok done) live sinks k was next more is same below are kept passes = λ since given has.
    (HaveBeenGiven-wrote {T = T} {E = E} (Ok done) since (f.names old) (f.names new) live (f.holder old) (f.holder new) sinks k was next more given is same below are kept passes has).0
Gives-wrote {T = T} {E = E} f old new (Err fault) live sinks k was next more is same below are kept passes = λ since given has.
    (HaveBeenGiven-wrote {T = T} {E = E} (Err fault) since (f.names old) (f.names new) live (f.holder old) (f.holder new) sinks k was next more given is same below are kept passes has).1

-- A call that wrote waiting bytes gives no more.
pub Gives-flushed : {S T E : Type 0} (f : Ghosts S) (old new : S) (result : Result T E) (live : ℕ → Bool) (sinks : List Sink) (k : ℕ) (was next : Sink) → was ≡ get_or sinks k was → next.file ≡ was.file → k < length sinks → AreLive live (ids_of sinks) → KeepsHolders live (f.holder old) (f.holder new) → Passes (f.names old) (f.names new) (f.holder old was.file.n) was.waiting next.waiting result → Gives f old new sinks (set sinks k next) (λ given. given) result
Gives-flushed {T = T} {E = E} f old new (Ok done) live sinks k was next is same below are kept passes = λ since given has.
    (HaveBeenGiven-flushed {T = T} {E = E} (Ok done) since (f.names old) (f.names new) live (f.holder old) (f.holder new) sinks k was next given is same below are kept passes has).0
Gives-flushed {T = T} {E = E} f old new (Err fault) live sinks k was next is same below are kept passes = λ since given has.
    (HaveBeenGiven-flushed {T = T} {E = E} (Err fault) since (f.names old) (f.names new) live (f.holder old) (f.holder new) sinks k was next given is same below are kept passes has).1

-- A `create` that fails gives an output that may exist and is empty.
pub Gives-refused : {S T E : Type 0} (f : Ghosts S) (old new : S) (result : Result T E) (sinks later : List Sink) (name : List ℕ) → IsErr result → (f.names new ≡ f.names old) ⊎ (f.names new ≡ with_content (f.names old) name []) → Gives f old new sinks later (with_empty name) result
Gives-refused f old new (Ok done) sinks later name is names = absurd (cc)
Gives-refused f old new (Err fault) sinks later name is names = λ since given has. HaveBeenGiven-refused since (f.names old) (f.names new) (f.holder old) sinks given name has names

-- ---- for callers

-- Waiting bytes don't change the names.
names_of-waiting : (stand : List Output) (sinks : List Sink) → length stand ≡ length sinks → names_of (with_waiting stand sinks) ≡ names_of stand
names_of-waiting [] sinks same = refl
names_of-waiting (o ∷ os) [] same = absurd (omega (arith, same))
names_of-waiting (o ∷ os) (s ∷ ss) same = ap (λ (names : List (List ℕ)). o.name ∷ names) (names_of-waiting os ss (omega (arith, same)))

-- The outputs have the names of the outputs that were given bytes.
pub HaveBeenGiven-names : (old new : Names) (holder : ℕ → List ℕ) (sinks : List Sink) (given : List Output) → HaveBeenGiven old new holder sinks given → holders_of holder (ids_of sinks) ≡ names_of given
HaveBeenGiven-names old new holder sinks given has =
    sym has.holders ∙ sym (names_of-waiting has.stand sinks (HaveBeenGiven-length has)) ∙ ap names_of (sym has.whole)

-- The number of outputs that were given bytes is the number of outputs.
pub HaveBeenGiven-count : (old new : Names) (holder : ℕ → List ℕ) (sinks : List Sink) (given : List Output) → HaveBeenGiven old new holder sinks given → length given ≡ length sinks
HaveBeenGiven-count old new holder sinks given has =
    sym (length_of_map (λ (o : Output). o.name) given) ∙ ap length (sym (HaveBeenGiven-names old new holder sinks given has))
    ∙ length_of_map (λ (f : FileId). holder f.n) (ids_of sinks) ∙ length-ids_of sinks

-- A name that none of the outputs has may be used for another one.
pub HaveBeenGiven-apart : (old new : Names) (holder : ℕ → List ℕ) (sinks : List Sink) (given : List Output) (name : List ℕ) → HaveBeenGiven old new holder sinks given → AreOthers name (names_of given) → AreOthers name (holders_of holder (ids_of sinks))
HaveBeenGiven-apart old new holder sinks given name has others = subst (AreOthers name) (sym (HaveBeenGiven-names old new holder sinks given has)) others
