-- Logged calls, and the changes that they made.
use Rattle.std.proofs.Common.{◌≡◌, ◌⊎◌, inl, inr, ℕ, zero, suc, ◌+◌, ◌-◌, ◌<◌, ◌≤◌, ◌&&◌, nat_le, nat_lt, true, false, IsTrue, List, [], ◌∷◌, ◌++◌, length, take, drop, get_or, refl, sym, ◌∙◌, ap, subst, arith, length-append, length-drop, length-take}
use Rattle.std.proofs.lemmas.Bool.{and_parts, cases_lt, le-leb, leb-true, lt-leb, ltb-true, false≢true, true≢false}
use Rattle.std.proofs.lemmas.List.{drop-append-le, drop_more, length-take-le, take-append-le, take_all}
use Rattle.std.specs.Vec.{vec_capacity}
use Rattle.std.specs.declared.alloc.Global.{Global}
use Rattle.std.specs.declared.vec.Vec.{Vec}
use Rattle.mkv_disk.proofs.ImageLemmas.{length-overwritten}
use Rattle.mkv_disk.specs.Image.{DiskFile}
use Rattle.mkv_disk.specs.Pair.{Pair, both, file_of, on}
use Rattle.mkv_memory.specs.Changes.{CanChange, CanReplay, Change, Made, changed_by, cut, first_pair, octets_in, octets_of, pair_of, reads_by, replay, step, synced, written}
use Rattle.mkv_memory.specs.LogIn.{IsLogOf, change_of, is_same, logged, made_by, made_in, octets_by, octets_done}
use Rattle.mkv_memory.specs.Logged.{Logged, and_then, has_room}
use Rattle.mkv_memory.specs.declared.logged_pair.CallBudget.{CallBudget}
use Rattle.mkv_memory.specs.declared.done.Call.{Call}
use Rattle.mkv_memory.specs.declared.done.Done.{Done}
use Rattle.mkv_memory.specs.declared.done.Done.TheVariants.{Wrote, Cut, Synced}

-- ---- logged calls

pub length-made_in : (calls : List Call) (octets : List ℕ) → length (made_in calls octets) ≡ length calls
length-made_in [] octets = refl
length-made_in (call ∷ calls) octets = ap suc (length-made_in calls (drop (octets_done call.done) octets))

octets_of-change_of : (done : Done) (octets : List ℕ) → octets_done done ≤ length octets → octets_of (change_of done octets) ≡ octets_done done
octets_of-change_of (Wrote at len) octets le = length-take-le len octets le
octets_of-change_of (Cut len) octets le = refl
octets_of-change_of Synced octets le = refl

pub octets_in-made_in : (calls : List Call) (octets : List ℕ) → octets_by calls ≤ length octets → octets_in (made_in calls octets) ≡ octets_by calls
octets_in-made_in [] octets le = refl
octets_in-made_in (call ∷ calls) octets le =
    let left = length-drop (octets_done call.done) octets in
    let here = octets_of-change_of call.done octets (omega arith) in
    let more = octets_in-made_in calls (drop (octets_done call.done) octets) (omega arith) in
    omega arith

-- Bytes after a call's own don't matter.
change_of-append : (done : Done) (octets more : List ℕ) → octets_done done ≤ length octets → change_of done (octets ++ more) ≡ change_of done octets
change_of-append (Wrote at len) octets more le = ap (written at) (take-append-le len octets more le)
change_of-append (Cut len) octets more le = refl
change_of-append Synced octets more le = refl

pub octets_by-append : (calls : List Call) (call : Call) → octets_by (calls ++ call ∷ []) ≡ octets_by calls + octets_done call.done
octets_by-append [] call = omega arith
octets_by-append (first ∷ calls) call = let more = octets_by-append calls call in omega arith

-- One more call.
pub made_in-append : (calls : List Call) (call : Call) (octets more : List ℕ) → length octets ≡ octets_by calls → made_in (calls ++ call ∷ []) (octets ++ more) ≡ made_in calls octets ++ made_by call more ∷ []
made_in-append [] call [] more count = refl
made_in-append [] call (octet ∷ octets) more count = absurd (omega arith)
made_in-append (first ∷ calls) call octets more count =
    let n = octets_done first.done in
    let left = length-drop n octets in
    let here : change_of first.done (octets ++ more) ≡ change_of first.done octets = change_of-append first.done octets more (omega arith) in
    ap (λ c. record { file = first.file.n; change = c } ∷ made_in (calls ++ call ∷ []) (drop n (octets ++ more))) here
    ∙ ap (λ rest. made_by first octets ∷ made_in (calls ++ call ∷ []) rest) (drop-append-le n octets more (omega arith))
    ∙ ap (λ rest. made_by first octets ∷ rest) (made_in-append calls call (drop n octets) more (omega arith))

-- ---- its effect on the two files

pub replay-append : (ms : List Made) (m : Made) (p : Pair) → replay (ms ++ m ∷ []) p ≡ step m (replay ms p)
replay-append [] m p = refl
replay-append (first ∷ ms) m p = replay-append ms m (step first p)

pub CanReplay-append : (ms : List Made) (m : Made) (p : Pair) → CanReplay ms p → CanChange m.change (file_of m.file (replay ms p)).reads → CanReplay (ms ++ m ∷ []) p
CanReplay-append [] m p can next = (next, tt)
CanReplay-append (first ∷ ms) m p can next = (can.0, CanReplay-append ms m (step first p) can.1 next)

pub reads-changed_by : (c : Change) (f : DiskFile) → (changed_by c f).reads ≡ reads_by c f.reads
reads-changed_by (written at bytes) f = refl
reads-changed_by (cut len) f = refl
reads-changed_by synced f = refl

-- A change makes a file longer by at most the bytes that it writes.
pub length-reads_by : (c : Change) (reads : List ℕ) → CanChange c reads → length (reads_by c reads) ≤ length reads + octets_of c
length-reads_by (written at bytes) reads can = let size = length-overwritten reads at bytes can.0 in omega arith
length-reads_by (cut len) reads can = let size = length-take len reads in omega arith
length-reads_by synced reads can = omega arith

on-media : (n : ℕ) (change : DiskFile → DiskFile) (p : Pair) → n ≡ 0 → on n change p ≡ on 0 change p
on-media n change p is = ap (λ k. on k change p) is

on-sidecar : (n : ℕ) (change : DiskFile → DiskFile) (p : Pair) → (n ≡ 0 → ⊥) → on n change p ≡ on 1 change p
on-sidecar zero change p isnt = absurd (isnt refl)
on-sidecar (suc n) change p isnt = refl

file_of-sidecar : (n : ℕ) (p : Pair) → (n ≡ 0 → ⊥) → file_of n p ≡ p.sidecar
file_of-sidecar zero p isnt = absurd (isnt refl)
file_of-sidecar (suc n) p isnt = refl

-- It can be made on the stored content.
pub can-media : (n : ℕ) (c : Change) (p : Pair) (reads : List ℕ) → n ≡ 0 → reads ≡ p.media.reads → CanChange c (file_of n p).reads → CanChange c reads
can-media n c p reads is same can = subst (CanChange c) (ap (λ k. (file_of k p).reads) is ∙ sym same) can

pub can-sidecar : (n : ℕ) (c : Change) (p : Pair) (reads : List ℕ) → (n ≡ 0 → ⊥) → reads ≡ p.sidecar.reads → CanChange c (file_of n p).reads → CanChange c reads
can-sidecar n c p reads isnt same can = subst (CanChange c) (ap (λ (f : DiskFile). f.reads) (file_of-sidecar n p isnt) ∙ sym same) can

-- ---- a logged pair

module _ (fm fs : List ℕ) (room : CallBudget) (calls : List Call) (octets : List ℕ) (count : length octets ≡ octets_by calls) where
  -- the stored state
  abbrev pub kept : Logged
  kept = logged fm fs calls octets room

  pub has_room-kept : (n : ℕ) → has_room kept n ≡ (nat_lt (length calls) room.calls && nat_le (length octets + n) room.octets)
  has_room-kept n =
      let made = length-made_in calls octets in let total = octets_in-made_in calls octets (omega arith) in
      ap (λ k. nat_lt k room.calls && nat_le (octets_in (made_in calls octets) + n) room.octets) made
      ∙ ap (λ k. nat_lt (length calls) room.calls && nat_le (k + n) room.octets) (total ∙ sym count)

  pub room-left : (l : Logged) (n : ℕ) → kept ≡ l → IsTrue (has_room l n) → (length calls < room.calls) × (length octets + n ≤ room.octets)
  room-left l n is room_is =
      let both = and_parts (nat_lt (length calls) room.calls) (nat_le (length octets + n) room.octets) (sym (has_room-kept n) ∙ ap (λ k. has_room k n) is ∙ room_is) in
      (ltb-true (length calls) room.calls both.0, leb-true (length octets + n) room.octets both.1)

  -- One more call is logged.
  pub kept-more : (call : Call) (bytes : List ℕ) → logged fm fs (calls ++ call ∷ []) (octets ++ bytes) room ≡ and_then kept call.file.n (change_of call.done bytes)
  kept-more call bytes = ap (λ made. record { history = record { media = fm; sidecar = fs; made = made }; room = room }) (made_in-append calls call octets bytes count)

  pub pair-more : (call : Call) (bytes : List ℕ) → pair_of (and_then kept call.file.n (change_of call.done bytes)).history ≡ on call.file.n (changed_by (change_of call.done bytes)) (pair_of kept.history)
  pair-more call bytes = replay-append (made_in calls octets) (made_by call bytes) (first_pair kept.history)

module _ (fm fs : List ℕ) (room : CallBudget) (media sidecar octets octets' : Vec ℕ Global) (calls calls' : Vec Call Global)
    (was : IsLogOf (logged fm fs calls.items octets.items room) media sidecar octets calls)
    (call : Call) (bytes : List ℕ) (count : length bytes ≡ octets_done call.done) (fits : length octets.items + length bytes ≤ room.octets)
    (octets_are : octets'.items ≡ octets.items ++ bytes) (calls_are : calls'.items ≡ calls.items ++ call ∷ [])
    (octets_grow : vec_capacity octets ≤ vec_capacity octets') (calls_grow : vec_capacity calls ≤ vec_capacity calls')
    (can : CanChange (change_of call.done bytes) (file_of call.file.n (pair_of (logged fm fs calls.items octets.items room).history)).reads) where
  pub logged-more : logged fm fs calls'.items octets'.items room ≡ and_then (logged fm fs calls.items octets.items room) call.file.n (change_of call.done bytes)
  logged-more =
      ap (λ (cs : List Call). logged fm fs cs octets'.items room) calls_are
      ∙ ap (λ (os : List ℕ). logged fm fs (calls.items ++ call ∷ []) os room) octets_are
      ∙ kept-more fm fs room calls.items octets.items was.count call bytes

  pair-is : pair_of (logged fm fs calls'.items octets'.items room).history ≡ on call.file.n (changed_by (change_of call.done bytes)) (pair_of (logged fm fs calls.items octets.items room).history)
  pair-is = ap (λ (l : Logged). pair_of l.history) logged-more ∙ pair-more fm fs room calls.items octets.items was.count call bytes

  can-is : CanReplay (made_in calls'.items octets'.items) (both fm fs)
  can-is =
      subst (λ (ms : List Made). CanReplay ms (both fm fs)) (sym (ap (λ (l : Logged). l.history.made) logged-more))
      (CanReplay-append (made_in calls.items octets.items) (made_by call bytes) (both fm fs) was.can can)

  count-is : length octets'.items ≡ octets_by calls'.items
  count-is =
      let size = ap length octets_are ∙ length-append octets.items bytes in
      let more = ap octets_by calls_are ∙ octets_by-append calls.items call in
      let before = was.count in
      omega arith

  longer : (reads : List ℕ) → CanChange (change_of call.done bytes) reads → length (reads_by (change_of call.done bytes) reads) ≤ length reads + length bytes
  longer reads can = let more = length-reads_by (change_of call.done bytes) reads can in let size = octets_of-change_of call.done bytes (omega arith) in omega arith

  pub media-more : (media' : Vec ℕ Global) → call.file.n ≡ 0 → media'.items ≡ reads_by (change_of call.done bytes) media.items → vec_capacity media ≤ vec_capacity media'
      → IsLogOf (logged fm fs calls'.items octets'.items room) media' sidecar octets' calls'
  media-more media' is reads grow =
      let here_can = can-media call.file.n (change_of call.done bytes) (pair_of (logged fm fs calls.items octets.items room).history) media.items is was.reads_media can in
      let here = pair-is ∙ on-media call.file.n (changed_by (change_of call.done bytes)) (pair_of (logged fm fs calls.items octets.items room).history) is in
      let p = pair_of (logged fm fs calls.items octets.items room).history in
      let size = ap length octets_are ∙ length-append octets.items bytes in
      let long = longer media.items here_can in let same = ap length reads in
      let a = was.calls_room in let b = was.octets_room in let c = was.media_room in let d = was.sidecar_room in
      record {
        reads_media = reads ∙ ap (reads_by (change_of call.done bytes)) was.reads_media ∙ sym (reads-changed_by (change_of call.done bytes) p.media) ∙ sym (ap (λ (q : Pair). q.media.reads) here);
        reads_sidecar = was.reads_sidecar ∙ sym (ap (λ (q : Pair). q.sidecar.reads) here);
        can = can-is;
        count = count-is;
        within = omega arith;
        calls_room = omega arith;
        octets_room = omega arith;
        media_room = omega arith;
        sidecar_room = omega arith;
      }

  pub sidecar-more : (sidecar' : Vec ℕ Global) → (call.file.n ≡ 0 → ⊥) → sidecar'.items ≡ reads_by (change_of call.done bytes) sidecar.items → vec_capacity sidecar ≤ vec_capacity sidecar'
      → IsLogOf (logged fm fs calls'.items octets'.items room) media sidecar' octets' calls'
  sidecar-more sidecar' isnt reads grow =
      let here_can = can-sidecar call.file.n (change_of call.done bytes) (pair_of (logged fm fs calls.items octets.items room).history) sidecar.items isnt was.reads_sidecar can in
      let here = pair-is ∙ on-sidecar call.file.n (changed_by (change_of call.done bytes)) (pair_of (logged fm fs calls.items octets.items room).history) isnt in
      let p = pair_of (logged fm fs calls.items octets.items room).history in
      let size = ap length octets_are ∙ length-append octets.items bytes in
      let long = longer sidecar.items here_can in let same = ap length reads in
      let a = was.calls_room in let b = was.octets_room in let c = was.media_room in let d = was.sidecar_room in
      record {
        reads_media = was.reads_media ∙ sym (ap (λ (q : Pair). q.media.reads) here);
        reads_sidecar = reads ∙ ap (reads_by (change_of call.done bytes)) was.reads_sidecar ∙ sym (reads-changed_by (change_of call.done bytes) p.sidecar) ∙ sym (ap (λ (q : Pair). q.sidecar.reads) here);
        can = can-is;
        count = count-is;
        within = omega arith;
        calls_room = omega arith;
        octets_room = omega arith;
        media_room = omega arith;
        sidecar_room = omega arith;
      }

-- `n` more bytes fit the room that is left.
pub le-left : (n r a : ℕ) → a ≤ r → nat_le n (r - a) ≡ nat_le (a + n) r
le-left n r a within = by_cases (cases_lt r (a + n))
  where
    by_cases : (r < a + n) ⊎ (a + n ≤ r) → nat_le n (r - a) ≡ nat_le (a + n) r
    by_cases (inl over) = lt-leb n (r - a) (omega arith) ∙ sym (lt-leb (a + n) r over)
    by_cases (inr fits) = le-leb n (r - a) (omega arith) ∙ sym (le-leb (a + n) r fits)

-- ---- one of the two files, call by call

-- A change uses no more than its own bytes.
pub change_of-take : (done : Done) (octets : List ℕ) → octets_done done ≤ length octets → change_of done (take (octets_done done) octets) ≡ change_of done octets
change_of-take (Wrote at len) octets le = ap (written at) (take_all len (take len octets) (let size = length-take-le len octets le in omega arith))
change_of-take (Cut len) octets le = refl
change_of-take Synced octets le = refl

pub file_of-same : (n m : ℕ) (change : DiskFile → DiskFile) (p : Pair) → is_same n m ≡ true → file_of m (on n change p) ≡ change (file_of m p)
file_of-same zero zero change p is = refl
file_of-same zero (suc m) change p is = absurd (false≢true is)
file_of-same (suc n) zero change p is = absurd (false≢true is)
file_of-same (suc n) (suc m) change p is = refl

pub file_of-other : (n m : ℕ) (change : DiskFile → DiskFile) (p : Pair) → is_same n m ≡ false → file_of m (on n change p) ≡ file_of m p
file_of-other zero zero change p is = absurd (true≢false is)
file_of-other zero (suc m) change p is = refl
file_of-other (suc n) zero change p is = refl
file_of-other (suc n) (suc m) change p is = absurd (true≢false is)

pub same-file : (n m : ℕ) (p : Pair) → is_same n m ≡ true → file_of n p ≡ file_of m p
same-file zero zero p is = refl
same-file zero (suc m) p is = absurd (false≢true is)
same-file (suc n) zero p is = absurd (false≢true is)
same-file (suc n) (suc m) p is = refl

-- The next call of the remaining ones, and the bytes that it wrote.
module _ (calls : List Call) (i : ℕ) (d : Call) (inside : i < length calls) (rest : List ℕ) (count : length rest ≡ octets_by (drop i calls)) where
  next : drop i calls ≡ get_or calls i d ∷ drop (i + 1) calls
  next = drop_more calls i d inside

  sum : length rest ≡ octets_done (get_or calls i d).done + octets_by (drop (i + 1) calls)
  sum = count ∙ ap octets_by next

  pub turn-fits : octets_done (get_or calls i d).done ≤ length rest
  turn-fits = let all = sum in omega arith

  pub turn-count : length (drop (octets_done (get_or calls i d).done) rest) ≡ octets_by (drop (i + 1) calls)
  turn-count = let all = sum in let left = length-drop (octets_done (get_or calls i d).done) rest in omega arith

  module _ (p : Pair) (can : CanReplay (made_in (drop i calls) rest) p) where
    both-can : CanReplay (made_in (get_or calls i d ∷ drop (i + 1) calls) rest) p
    both-can = subst (λ (cs : List Call). CanReplay (made_in cs rest) p) next can

    pub turn-can : CanChange (change_of (get_or calls i d).done rest) (file_of (get_or calls i d).file.n p).reads
    turn-can = both-can.0

    pub turn-rest : CanReplay (made_in (drop (i + 1) calls) (drop (octets_done (get_or calls i d).done) rest)) (step (made_by (get_or calls i d) rest) p)
    turn-rest = both-can.1

    pub turn-left : (q : Pair) → replay (made_in (drop i calls) rest) p ≡ q → replay (made_in (drop (i + 1) calls) (drop (octets_done (get_or calls i d).done) rest)) (step (made_by (get_or calls i d) rest) p) ≡ q
    turn-left q is = sym (ap (λ (cs : List Call). replay (made_in cs rest) p) next) ∙ is
