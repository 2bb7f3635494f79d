-- Laws on the bytes that a window keeps, and on the bytes that it reads after them.
use Rattle.std.proofs.Common.{◌≡◌, ◌⊎◌, inl, inr, nat_le, ℕ, zero, suc, ◌+◌, ◌-◌, ◌≤◌, Bool, true, false, nat_lt, min, ◌||◌, if◌then◌else◌, List, [], ◌++◌, length, take, drop, refl, sym, ap, ◌∙◌, arith}
use Rattle.std.proofs.lemmas.List.{drop-take, drop-drop, drop_all, take-append-le, take_at, drop_at, take_all, take_min, length-append, length-take, length-take-le, length-drop, take-take}
use Rattle.std.proofs.lemmas.Bool.Decides.{nat_tests}
use lib.Seq.{take-add}
use borrow.Rule.Slice.PartMut.{put_mid, post_of}
use Rattle.mkv_io.specs.Contents.{octets_from}
use Rattle.std.specs.Prelude.{Result, Ok, Err, OnOk}
use Rattle.mkv_io.specs.declared.outside.FileId.{FileId}
use Rattle.mkv_io.specs.Sources.{file_size}
use Rattle.mkv_io.specs.declared.reads.Reads.{Ghosts}
use Rattle.elements.specs.Looks.{Goes}
use Rattle.elements.specs.Window.{ReadAhead, Holds, HasNotPassed, HasRange, end_ahead, front_from, held_from, kept_from}

-- The last `k` bytes that a buffer holds are its bytes after `d` others.
pub last-held : (buf rest : List ℕ) (end k d : ℕ) → end ≤ length buf → k ≡ end - d → take k (take (end - (end - k)) (drop (end - k) buf) ++ rest) ≡ drop d (take end buf)
last-held buf rest end zero d within is = sym (drop_all d (take end buf) (omega (arith, length-take-le end buf within)))
last-held buf rest end (suc k) d within is =
    let count : end - (end - suc k) ≡ suc k = omega arith in
    let place : end - suc k ≡ d = omega arith in
    let whole : end ≡ d + suc k = omega arith in
    let here : length (take (suc k) (drop d buf)) ≡ suc k = length-take-le (suc k) (drop d buf) (omega (arith, length-drop d buf)) in
    ap (λ n. take (suc k) (take n (drop (end - suc k) buf) ++ rest)) count
    ∙ ap (λ n. take (suc k) (take (suc k) (drop n buf) ++ rest)) place
    ∙ take_at (take (suc k) (drop d buf)) rest (suc k) here
    ∙ sym (ap (λ n. drop d (take n buf)) whole ∙ drop-take d (suc k) buf)

-- The last bytes of the buffer are the kept ones, or there are none.
pub last-kept : (none : Bool) (buf rest : List ℕ) (end k d : ℕ) → end ≤ length buf → k ≡ length (if none then [] else drop d (take end buf))
    → take k (take (end - (end - k)) (drop (end - k) buf) ++ rest) ≡ (if none then [] else drop d (take end buf))
last-kept true buf rest end k d within is = ap (λ n. take n (take (end - (end - k)) (drop (end - k) buf) ++ rest)) is
last-kept false buf rest end k d within is =
    last-held buf rest end k d within (is ∙ length-drop d (take end buf) ∙ ap (λ n. n - d) (length-take-le end buf within))

-- The bytes that a window holds from an offset on are the file's.
rest-held : (bytes : List ℕ) (w : ReadAhead) (at n : ℕ) → w.at ≤ at → n ≡ length w.octets - (at - w.at) → Holds bytes w → drop (at - w.at) w.octets ≡ octets_from bytes at n
rest-held bytes w at zero from none holds = drop_all (at - w.at) w.octets (omega (arith, none))
rest-held bytes w at (suc n) from some holds =
    let whole : length w.octets ≡ (at - w.at) + suc n = omega (arith, some) in
    let place : w.at + (at - w.at) ≡ at = omega (arith, from) in
    ap (drop (at - w.at)) (holds ∙ ap (λ m. octets_from bytes w.at m) whole)
    ∙ drop-take (at - w.at) (suc n) (drop w.at bytes)
    ∙ ap (take (suc n)) (drop-drop (at - w.at) w.at bytes ∙ ap (λ m. drop m bytes) place)

-- The bytes that are kept are the file's.
kept-octets : (before past : Bool) (bytes : List ℕ) (w : ReadAhead) (at : ℕ) → nat_lt at w.at ≡ before → Holds bytes w
    → (if before || past then [] else drop (at - w.at) w.octets) ≡ octets_from bytes at (length (if before || past then [] else drop (at - w.at) w.octets))
kept-octets true past bytes w at is holds = refl
kept-octets false true bytes w at is holds = refl
kept-octets false false bytes w at is holds =
    let from : w.at ≤ at = grind (arith, nat_tests) in
    let long = length-drop (at - w.at) w.octets in
    rest-held bytes w at (length w.octets - (at - w.at)) from refl holds ∙ ap (octets_from bytes at) (sym long)

pub kept-held : (bytes : List ℕ) (w : ReadAhead) (size at : ℕ) → Holds bytes w → kept_from w size at ≡ octets_from bytes at (length (kept_from w size at))
kept-held bytes w size at holds = kept-octets (nat_lt at w.at) (nat_lt size (end_ahead w)) bytes w at refl holds

-- A window that hasn't passed an offset keeps all that it holds from there on.
counted : (before past : Bool) (w : ReadAhead) (size at : ℕ) → nat_lt at w.at ≡ before → nat_lt size (end_ahead w) ≡ past → HasNotPassed w at size
    → length (if before || past then [] else drop (at - w.at) w.octets) ≡ end_ahead w - at
counted true past w size at here there place = let from = place.from in grind (arith, nat_tests)
counted false true w size at here there place = let within = place.within in grind (arith, nat_tests)
counted false false w size at here there place = let long = length-drop (at - w.at) w.octets in omega (arith, long, place.from)

pub kept-count : (w : ReadAhead) (size at : ℕ) → HasNotPassed w at size → length (kept_from w size at) ≡ end_ahead w - at
kept-count w size at place = counted (nat_lt at w.at) (nat_lt size (end_ahead w)) w size at refl refl place

-- Bytes that are read after others of the file continue them.
pub read-behind : (bytes buf sub : List ℕ) (at len k count : ℕ) → len ≤ length buf → count ≤ length sub → take len buf ≡ octets_from bytes at len → take count sub ≡ octets_from bytes (at + len) count
    → take (len + count) (put_mid len k buf sub) ≡ octets_from bytes at (len + count)
read-behind bytes buf sub at len k count within few front next =
    let long = length-take-le len buf within in
    take-add len count (put_mid len k buf sub)
    ∙ (rw (take_at (take len buf) (sub ++ post_of len k buf) len long, drop_at (take len buf) (sub ++ post_of len k buf) len long, take-append-le count sub (post_of len k buf) few, front, next) refl)
    ∙ ap (λ (o : List ℕ). octets_from bytes at len ++ take count o) (sym (drop-drop len at bytes))
    ∙ sym (take-add len count (drop at bytes))

-- A buffer has room for bytes that were read into it after its start.
pub put-length : (buf sub : List ℕ) (len k count : ℕ) → len ≤ length buf → count ≤ length sub → len + count ≤ length (put_mid len k buf sub)
put-length buf sub len k count within few =
    let front = length-take-le len buf within in
    let whole = length-append (take len buf) (sub ++ post_of len k buf) in
    let rest = length-append sub (post_of len k buf) in
    omega (arith, few, front, whole, rest)

-- A buffer that holds bytes of the file, and then reads further ones, holds both.
pub held-behind : (bytes buf sub : List ℕ) (at len k count : ℕ) → len ≤ length buf → count ≤ length sub → Holds bytes (record { at = at; octets = take len buf })
    → take count sub ≡ octets_from bytes (at + len) count → Holds bytes (record { at = at; octets = take (len + count) (put_mid len k buf sub) })
held-behind bytes buf sub at len k count within few front next =
    let held : take len buf ≡ octets_from bytes at len = front ∙ ap (octets_from bytes at) (length-take-le len buf within) in
    read-behind bytes buf sub at len k count within few held next
    ∙ ap (octets_from bytes at) (sym (length-take-le (len + count) (put_mid len k buf sub) (put-length buf sub len k count within few)))

-- The bytes that a window kept, then the bytes that it read, are the file's.
pub read-whole : (bytes into sub : List ℕ) (w : ReadAhead) (size at kept end : ℕ) → Holds bytes w → kept ≡ length (kept_from w size at) → take kept into ≡ kept_from w size at
    → kept ≤ end → end ≤ length into → length sub ≡ length (take (end - kept) (drop kept into)) → sub ≡ octets_from bytes (at + kept) (length (take (end - kept) (drop kept into)))
    → take end (put_mid kept (end - kept) into sub) ≡ octets_from bytes at end
read-whole bytes into sub w size at kept end holds is copied within inside long read =
    let rest = length-drop kept into in
    let few : length (take (end - kept) (drop kept into)) ≡ end - kept = length-take-le (end - kept) (drop kept into) (omega (arith, rest, inside)) in
    let held : take kept into ≡ octets_from bytes at kept = copied ∙ kept-held bytes w size at holds ∙ ap (octets_from bytes at) (sym is) in
    let next : take (end - kept) sub ≡ octets_from bytes (at + kept) (end - kept) =
    take_all (end - kept) sub (omega (arith, long, few)) ∙ read ∙ ap (octets_from bytes (at + kept)) few in
    let whole : kept + (end - kept) ≡ end = omega (arith, within) in
    ap (λ n. take n (put_mid kept (end - kept) into sub)) (sym whole)
    ∙ read-behind bytes into sub at kept (end - kept) (end - kept) (omega (arith, within, inside)) (omega (arith, long, few)) held next
    ∙ ap (octets_from bytes at) whole

-- A buffer has room for the bytes that were read into it up to `end`.
pub read-room : (into sub : List ℕ) (kept end : ℕ) → kept ≤ end → end ≤ length into → length sub ≡ length (take (end - kept) (drop kept into))
    → end ≤ length (put_mid kept (end - kept) into sub)
read-room into sub kept end within inside long =
    let rest = length-drop kept into in
    let few = length-take-le (end - kept) (drop kept into) (omega (arith, rest, inside)) in
    let room = put-length into sub kept (end - kept) (end - kept) (omega (arith, within, inside)) (omega (arith, long, few)) in
    omega (arith, room, within)

-- Bytes of the file up to `end` are bytes of the file up to each earlier place.
pub front-read : (bytes xs : List ℕ) (at len end : ℕ) → len ≤ end → take end xs ≡ octets_from bytes at end → take len xs ≡ octets_from bytes at len
front-read bytes xs at len end within read = sym (take-take len end xs within) ∙ ap (take len) read ∙ take-take len end (drop at bytes) within

-- The bytes after such a place are the file's.
pub rest-read : (bytes xs : List ℕ) (at len end : ℕ) → len ≤ end → end ≤ length xs → take end xs ≡ octets_from bytes at end
    → Holds bytes (record { at = at + len; octets = take (end - len) (drop len xs) })
rest-read bytes xs at len end within inside read =
    let whole : end ≡ len + (end - len) = omega (arith, within) in
    let behind = length-drop len xs in
    sym (ap (λ n. drop len (take n xs)) whole ∙ drop-take len (end - len) xs)
    ∙ ap (drop len) read
    ∙ (ap (λ n. drop len (take n (drop at bytes))) whole ∙ drop-take len (end - len) (drop at bytes))
    ∙ ap (take (end - len)) (drop-drop len at bytes)
    ∙ ap (octets_from bytes (at + len)) (sym (length-take-le (end - len) (drop len xs) (omega (arith, behind, inside))))

-- If a body isn't held whole, fewer bytes than its length are held.
held-less : (short : Bool) (w : ReadAhead) (at len kept : ℕ) → nat_le kept len ≡ short → (HasRange w at len → ⊥) → HasRange w at kept → kept ≤ len
held-less true w at len kept is less range = grind (arith, nat_tests)
held-less false w at len kept is less range =
    let longer : len ≤ kept = grind (arith, nat_tests) in
    absurd (less (record { from = range.from; to = omega (arith, range.to, longer) }))

pub kept-less : (w : ReadAhead) (at len kept : ℕ) → (HasRange w at len → ⊥) → (kept ≡ 0) ⊎ HasRange w at kept → kept ≤ len
kept-less w at len kept less (inl none) = omega (arith, none)
kept-less w at len kept less (inr range) = held-less (nat_le kept len) w at len kept refl less range

-- A window that moved to an offset, and read on, has paid for the bytes that it read.
pub read_on-goes : {S T E : Type 0} (g : Ghosts S) (file : FileId) (at len wanted size start kept count : ℕ) (old new : ReadAhead) (a b : S) (result : Result T E)
    → at + len ≤ file_size g a file → size ≡ file_size g a file → start ≡ at → kept ≡ length (kept_from old size at) → length new.octets ≡ count
    → OnOk result ((new.at ≡ start) × (count ≡ held_from wanted (file_size g a file) start))
    → g.octets_read b + kept ≤ g.octets_read a + held_from wanted (file_size g a file) start
    → Goes g file at (λ _. at) old new a b result
read_on-goes g file at len wanted size start kept count old new a b (Ok x) inside whole from held long read cost = λ place.
    let rest : kept ≡ end_ahead old - at = held ∙ ap (λ n. length (kept_from old n at)) whole ∙ kept-count old (file_size g a file) at place in
    record {
      place = record { from = omega (arith, from, read.0); within = omega (arith, from, long, read.0, read.1, inside) };
      pays = omega (arith, from, long, read.0, read.1, inside, cost, rest, place.within);
    }
read_on-goes g file at len wanted size start kept count old new a b (Err e) inside whole from held long read cost = λ place.
    let rest : kept ≡ end_ahead old - at = held ∙ ap (λ n. length (kept_from old n at)) whole ∙ kept-count old (file_size g a file) at place in
    omega (arith, from, inside, cost, rest, place.within)

-- The bytes that are held from an offset on are the file's.
front-octets : (before : Bool) (bytes : List ℕ) (w : ReadAhead) (at : ℕ) → nat_lt at w.at ≡ before → Holds bytes w
    → (if before then [] else drop (at - w.at) w.octets) ≡ octets_from bytes at (length (if before then [] else drop (at - w.at) w.octets))
front-octets true bytes w at is holds = refl
front-octets false bytes w at is holds = kept-octets false false bytes w at is holds

-- A prefix of bytes of a content is a prefix of the content's bytes.
take-front : (bytes xs : List ℕ) (at most : ℕ) → xs ≡ octets_from bytes at (length xs) → take most xs ≡ octets_from bytes at (length (take most xs))
take-front bytes xs at most is =
    let count : length (take most xs) ≡ min most (length xs) = length-take most xs in
    sym (take_min most xs)
    ∙ ap (take (min most (length xs))) is
    ∙ take-take (min most (length xs)) (length xs) (drop at bytes) (omega arith)
    ∙ ap (octets_from bytes at) (sym count)

pub front-held : (bytes : List ℕ) (w : ReadAhead) (at most : ℕ) (front : List ℕ) → front ≡ take most (front_from w at) → Holds bytes w → front ≡ octets_from bytes at (length front)
front-held bytes w at most front is holds =
    is ∙ take-front bytes (front_from w at) at most (front-octets (nat_lt at w.at) bytes w at refl holds) ∙ ap (λ (o : List ℕ). octets_from bytes at (length o)) (sym is)
