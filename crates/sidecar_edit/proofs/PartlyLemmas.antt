-- Laws on writes of the file in sequence, and on the contents that a crash leaves.
use Rattle.std.proofs.Common.{◌≡◌, inl, inr, ⊎_elim, ℕ, zero, suc, ◌+◌, ◌<◌, ◌≤◌, max, List, [], ◌∷◌, ◌++◌, length, take, drop, get_or, refl, sym, ◌∙◌, ap, subst, arith, add-one}
use Rattle.std.proofs.lemmas.List.{drop-drop, take_all, take_more}
use Rattle.sidecar_edit.specs.declared.place.Place.{Place}
use Rattle.sidecar_edit.specs.Fields.{cut_up, sum_of}
use Rattle.mkv_io.specs.Contents.{overwritten}
use Rattle.mkv_disk.specs.Image.{DiskFile, InRanges, IsImage, all_synced, clean, written_at}
use Rattle.mkv_disk.specs.Pair.{Pair, IsPairImage, IsSynced, both, on}
use Rattle.mkv_disk.proofs.ImageLemmas.{clean_image}
use Rattle.sidecar_edit.specs.Writes.{Write, Fits, WritesOctet, Torn, applied, end_of, extent}
use Rattle.sidecar_edit.proofs.RedoLemmas.{extent_grows, length-applied}
use Rattle.sidecar_edit.specs.Partly.{IsPartly, IsWritten}

-- ---- the first writes of a list

applied-append : (file : List ℕ) (ws : List Write) (w : Write) → applied file (ws ++ w ∷ []) ≡ overwritten (applied file ws) w.at w.bytes
applied-append file [] w = refl
applied-append file (v ∷ ws) w = applied-append (overwritten file v.at v.bytes) ws w

extent-append : (n : ℕ) (ws : List Write) (w : Write) → extent n (ws ++ w ∷ []) ≡ max (extent n ws) (end_of w)
extent-append n [] w = refl
extent-append n (v ∷ ws) w = extent-append (max n (end_of v)) ws w

touches-last : (ws : List Write) (w : Write) (k : ℕ) → (w.at ≤ k) × (k < end_of w) → WritesOctet (ws ++ w ∷ []) k
touches-last [] w k here = inl here
touches-last (v ∷ ws) w k here = inr (touches-last ws w k here)

touches-first : (ws : List Write) (w : Write) (k : ℕ) → WritesOctet ws k → WritesOctet (ws ++ w ∷ []) k
touches-first [] w k none = absurd none
touches-first (v ∷ ws) w k (inl here) = inl here
touches-first (v ∷ ws) w k (inr there) = inr (touches-first ws w k there)

touches_take : (i : ℕ) (ws : List Write) (k : ℕ) → WritesOctet (take i ws) k → WritesOctet ws k
touches_take zero ws k none = absurd none
touches_take (suc i) [] k none = absurd none
touches_take (suc i) (w ∷ ws) k (inl here) = inl here
touches_take (suc i) (w ∷ ws) k (inr there) = inr (touches_take i ws k there)

extent_take : (i n : ℕ) (ws : List Write) → extent n (take i ws) ≤ extent n ws
extent_take zero n ws = extent_grows n ws
extent_take (suc i) n [] = omega arith
extent_take (suc i) n (w ∷ ws) = extent_take i (max n (end_of w)) ws

fits_take : (i n : ℕ) (ws : List Write) → Fits n ws → Fits n (take i ws)
fits_take zero n ws fits = tt
fits_take (suc i) n [] fits = tt
fits_take (suc i) n (w ∷ ws) fits = (fits.0, fits_take i (max n (end_of w)) ws fits.1)

fits_at : (ws : List Write) (n i : ℕ) (d : Write) → Fits n ws → i < length ws → (get_or ws i d).at ≤ extent n (take i ws)
fits_at [] n i d fits inside = absurd (omega arith)
fits_at (w ∷ ws) n zero d fits inside = fits.0
fits_at (w ∷ ws) n (suc i) d fits inside = fits_at ws (max n (end_of w)) i d fits.1 (omega arith)

-- ---- steps

-- One write is made in one piece.
pub written_once : (at : ℕ) (bytes : List ℕ) (p : Pair) → IsWritten at bytes p (on 0 (written_at at bytes) p)
written_once at bytes p = record { sidecar = refl; reads = refl; synced = refl; least = refl; greatest = omega arith; within = λ k inside. inside }

pub partly_start : (ws : List Write) (p : Pair) → IsSynced p → IsPartly ws 0 p.media.reads p.sidecar.reads p
partly_start ws p synced = record {
  sidecar = λ i. (synced i).sidecar;
  reads = refl;
  synced = λ i. (synced i).media.synced;
  least = λ i. (synced i).media.least;
  greatest = let same : p.media.greatest ≡ length p.media.reads = λ i. (synced i).media.greatest in omega arith;
  within = λ k inside. subst (λ ranges. InRanges ranges k) (λ i. (synced i).media.written) inside;
}

module _ (ws : List Write) (i : ℕ) (file beside : List ℕ) (p : Pair) (was : IsPartly ws i file beside p) where
  -- A crash leaves the writes torn.
  pub partly_image : (m s : List ℕ) → IsPairImage p m s → Torn ws file m × (s ≡ beside)
  partly_image m s image =
      let least = was.least in let greatest = was.greatest in let low = image.media.no_shorter in let high = image.media.no_longer in
      let more = extent_take i (length file) ws in (
        record {
          no_shorter = omega arith;
          no_longer = omega arith;
          elsewhere = λ k inside untouched.
              image.media.elsewhere k (omega arith) (λ (written : InRanges p.media.written k). untouched (touches_take i ws k (was.within k written)))
              ∙ ap (λ bytes. get_or bytes k 0) was.synced;
        },
        clean_image beside s (subst (λ (f : DiskFile). IsImage f s) was.sidecar image.sidecar),
      )

  -- Once all are made and synced, the file is the edited one.
  pub partly_end : length ws ≤ i → on 0 all_synced p ≡ both (applied file ws) beside
  partly_end all =
      let reads : p.media.reads ≡ applied file ws = was.reads ∙ ap (applied file) (take_all i ws all) in
      λ j. record { media = clean (reads j); sidecar = was.sidecar j }

  -- The next write begins in the content.
  pub partly_reaches : (d : Write) → Fits (length file) ws → i < length ws → (get_or ws i d).at ≤ length p.media.reads
  partly_reaches d fits inside =
      let at = fits_at ws (length file) i d fits inside in
      let size = length-applied file (take i ws) (fits_take i (length file) ws fits) in
      let reads = ap length was.reads in
      omega arith

  -- The next write is made.
  pub partly_more : (q : Pair) (w : Write) → i < length ws → w ≡ get_or ws i w → IsWritten w.at w.bytes p q → IsPartly ws (i + 1) file beside q
  partly_more q w inside is now =
      let next : take (i + 1) ws ≡ take i ws ++ w ∷ [] = take_more ws i w inside ∙ ap (λ (v : Write). take i ws ++ v ∷ []) (sym is) in
      let ext = ap (extent (length file)) next ∙ extent-append (length file) (take i ws) w in
      let greatest = now.greatest in let before = was.greatest in
      record {
        sidecar = now.sidecar ∙ was.sidecar;
        reads = now.reads ∙ ap (λ bytes. overwritten bytes w.at w.bytes) was.reads ∙ sym (ap (applied file) next ∙ applied-append file (take i ws) w);
        synced = now.synced ∙ was.synced;
        least = now.least ∙ was.least;
        greatest = omega arith;
        within = λ k written. subst (λ vs. WritesOctet vs k) (sym next)
            (⊎_elim (λ (here : (w.at ≤ k) × (k < w.at + length w.bytes)). touches-last (take i ws) w k here) (λ (before : InRanges p.media.written k). touches-first (take i ws) w k (was.within k before)) (now.within k written));
      }

-- ---- writes whose bytes are concatenated

length-cut_up : (ps : List Place) (bytes : List ℕ) → length (cut_up ps bytes) ≡ length ps
length-cut_up [] bytes = refl
length-cut_up (p ∷ ps) bytes = ap suc (length-cut_up ps (drop p.len bytes))

cut_at : (ps : List Place) (bytes : List ℕ) (i : ℕ) (d : Place) (e : Write) → i < length ps → get_or (cut_up ps bytes) i e ≡ record { at = (get_or ps i d).at; bytes = take (get_or ps i d).len (drop (sum_of (take i ps)) bytes) }
cut_at [] bytes i d e inside = absurd (omega arith)
cut_at (p ∷ ps) bytes zero d e inside = refl
cut_at (p ∷ ps) bytes (suc i) d e inside =
    cut_at ps (drop p.len bytes) i d e (omega arith)
    ∙ ap (λ rest. record { at = (get_or ps i d).at; bytes = take (get_or ps i d).len rest }) (drop-drop (sum_of (take i ps)) p.len bytes)

pub sum_more : (ps : List Place) (i : ℕ) (d : Place) → i < length ps → sum_of (take (i + 1) ps) ≡ sum_of (take i ps) + (get_or ps i d).len
sum_more [] i d inside = absurd (omega arith)
sum_more (p ∷ ps) zero d inside = omega arith
sum_more (p ∷ ps) (suc i) d inside =
    let more = sum_more ps i d (omega arith) in
    ap (λ n. sum_of (take n (p ∷ ps))) (add-one (suc i)) ∙ ap (λ n. p.len + sum_of (take n ps)) (sym (add-one i)) ∙ omega arith

pub sum_within : (ps : List Place) (i : ℕ) (d : Place) → i < length ps → sum_of (take i ps) + (get_or ps i d).len ≤ sum_of ps
sum_within [] i d inside = absurd (omega arith)
sum_within (p ∷ ps) zero d inside = omega arith
sum_within (p ∷ ps) (suc i) d inside = let more = sum_within ps i d (omega arith) in omega arith

module _ (ps : List Place) (payload M S : List ℕ) (p : Pair) (i : ℕ) (place : Place) (inside : i < length ps) (is : place ≡ get_or ps i place) where
  abbrev pub ws : List Write
  ws = cut_up ps payload

  -- the write of this turn
  abbrev pub turn : Write
  turn = record { at = place.at; bytes = take place.len (drop (sum_of (take i ps)) payload) }

  turn_is : turn ≡ get_or ws i turn
  turn_is = ap (λ (q : Place). record { at = q.at; bytes = take q.len (drop (sum_of (take i ps)) payload) }) is ∙ sym (cut_at ps payload i place turn inside)

  turn_inside : i < length ws
  turn_inside = let size = length-cut_up ps payload in omega arith

  pub turn_state : (q : Pair) → IsPartly ws i M S p → IsWritten turn.at turn.bytes p q → IsPartly ws (i + 1) M S q
  turn_state q was now = partly_more ws i M S p was q turn turn_inside turn_is now

  pub turn_image : (m s : List ℕ) → IsPartly ws i M S p → IsPairImage (on 0 (written_at turn.at turn.bytes) p) m s → Torn ws M m × (s ≡ S)
  turn_image m s was image = partly_image ws (i + 1) M S (on 0 (written_at turn.at turn.bytes) p) (turn_state (on 0 (written_at turn.at turn.bytes) p) was (written_once turn.at turn.bytes p)) m s image

  pub turn_reaches : IsPartly ws i M S p → Fits (length M) ws → place.at ≤ length p.media.reads
  turn_reaches was fits = let at = partly_reaches ws i M S p was turn fits turn_inside in let same = ap (λ (w : Write). w.at) turn_is in omega arith

  pub turn_rest : drop place.len (drop (sum_of (take i ps)) payload) ≡ drop (sum_of (take (i + 1) ps)) payload
  turn_rest =
      let more = sum_more ps i place inside in let len = ap (λ (q : Place). q.len) is in
      drop-drop place.len (sum_of (take i ps)) payload ∙ ap (λ n. drop n payload) (omega arith)

  pub turn_room : sum_of ps ≤ length payload → sum_of (take i ps) + place.len ≤ length payload
  turn_room full = let within = sum_within ps i place inside in let len = ap (λ (q : Place). q.len) is in omega arith

pub all_turns : (ps : List Place) (payload : List ℕ) (i : ℕ) → length ps ≤ i → length (cut_up ps payload) ≤ i
all_turns ps payload i le = let size = length-cut_up ps payload in omega arith
