-- Elements in sequence.
use Rattle.std.proofs.Common.{inl, inr, ◌≡◌, ◌<◌, ◌≤◌, ℕ, Bool, true, false, if◌then◌else◌, List, [], ◌∷◌, Some, None, Result, Ok, Err, refl, sym, ◌∙◌, ap, subst, arith}
use Rattle.std.proofs.lemmas.Bool.{cases_lt}
use Rattle.ebml_numbers.specs.declared.number.Size.{Size}
use Rattle.mkv_io.specs.declared.damage.Damage.{Damage}
use Rattle.mkv_schema.specs.declared.element.Header.{Header}
use Rattle.mkv_schema.specs.Element.{Setting, in_segment, in_master, element_at, end_in}
use Rattle.mkv_schema.specs.Elements.{Run, Next, in_front, behind, step, ends_at, id_of, elements, ends_segment, ends_cluster, behind_in_segment}
use Rattle.mkv_schema.proofs.ElementLemmas.{element_at-placed}
use Rattle.mkv_schema.proofs.ElementsLemmas.{Advances, Advances-known, Advances-segment, elements-more, elements-end}
use Rattle.output_model.specs.Element.{all_in_front}
use Rattle.edit_laws.proofs.AmongLemmas.{IsAmong}

-- The way in which Elements are listed: the setting, the IDs that end the list, the start of the next Element, the content, and the end.
pub record Way : Type 0 where
  pub setting : Setting
  pub stops : ℕ → Bool
  pub next : Next
  pub bytes : List ℕ
  pub end : ℕ

-- the Elements of level 1
abbrev pub level : List ℕ → Size → ℕ → Way
level bytes size e = record { setting = in_segment; stops = ends_segment size; next = behind_in_segment bytes e; bytes = bytes; end = e }

-- the children of a Cluster of unknown size
abbrev pub inner : List ℕ → ℕ → Way
inner bytes e = record { setting = in_master; stops = ends_cluster; next = λ h. Ok (end_in e h); bytes = bytes; end = e }

-- the Elements from a place on
abbrev pub run_of : Way → ℕ → Run
run_of w p = elements w.setting w.stops w.next w.bytes p w.end

abbrev pub AdvancesIn : Way → Type 0
AdvancesIn w = Advances w.setting w.next w.bytes w.end

pub advances-level : (bytes : List ℕ) (size : Size) (e : ℕ) → AdvancesIn (level bytes size e)
advances-level bytes size e = Advances-segment bytes e

pub advances-inner : (bytes : List ℕ) (e : ℕ) → AdvancesIn (inner bytes e)
advances-inner bytes e = Advances-known in_master bytes e

-- The Element `h` is at `p`, and the next one is searched at `q`.
pub record Stands (w : Way) (p : ℕ) (h : Header) (q : ℕ) : Type 0 where
  pub inside : p < w.end
  pub found : element_at w.setting w.bytes p w.end ≡ Ok h
  pub goes : w.stops h.id ≡ false
  pub next : w.next h ≡ Ok q

-- The Elements follow each other from a place up to another.
abbrev pub Tiles : Way → ℕ → List Header → ℕ → Type 0
Tiles w p [] q = p ≡ q
Tiles w p (h ∷ hs) q = (m : ℕ) × Stands w p h m × Tiles w m hs q

-- a run without damage
abbrev pub whole : List Header → ℕ → Run
whole hs q = record { list = hs; damage = None; end = q }

-- One Element, and then the others.
pub run-step : (w : Way) (p q : ℕ) (h : Header) → AdvancesIn w → Stands w p h q → run_of w p ≡ in_front h (run_of w q)
run-step w p q h advances stands =
    elements-more w.setting w.stops w.next w.bytes p w.end advances stands.inside
    ∙ ap (λ f. if w.stops (id_of f) then ends_at p else step p w.next f (run_of w)) stands.found
    ∙ ap (λ (b : Bool). if b then ends_at p else behind p h (w.next h) (run_of w)) stands.goes
    ∙ ap (λ n. behind p h n (run_of w)) stands.next

-- An ID that ends the list lists nothing.
pub run-stops : (w : Way) (p : ℕ) → AdvancesIn w → p < w.end → w.stops (id_of (element_at w.setting w.bytes p w.end)) ≡ true → run_of w p ≡ ends_at p
run-stops w p advances inside stops =
    elements-more w.setting w.stops w.next w.bytes p w.end advances inside
    ∙ ap (λ (b : Bool). if b then ends_at p else step p w.next (element_at w.setting w.bytes p w.end) (run_of w)) stops

-- Elements in sequence are listed first.
pub run-tiled : (w : Way) (p : ℕ) (hs : List Header) (q : ℕ) → AdvancesIn w → Tiles w p hs q → run_of w p ≡ all_in_front hs (run_of w q)
run-tiled w p [] q advances same = ap (run_of w) same
run-tiled w p (h ∷ hs) q advances (m, stands, rest) = run-step w p m h advances stands ∙ ap (in_front h) (run-tiled w m hs q advances rest)

-- ---- listed Elements follow each other

-- the cases of a place in a list
data Place (w : Way) (p : ℕ) (hs : List Header) (q : ℕ) : Type 0 where
  over : hs ≡ [] → p ≡ q → run_of w p ≡ ends_at p → Place w p hs q
  more : (h : Header) (m : ℕ) (rest : List Header) → hs ≡ h ∷ rest → Stands w p h m → run_of w m ≡ whole rest q → Place w p hs q

place-behind : (w : Way) (p q m : ℕ) (h : Header) (hs : List Header) (next : Result ℕ Damage) → p < w.end → element_at w.setting w.bytes p w.end ≡ Ok h → w.stops h.id ≡ false → w.next h ≡ next → behind p h next (run_of w) ≡ whole hs q → Place w p hs q
place-behind w p q m h hs (Err d) inside found goes is run = absurd (let wrong : Some d ≡ None = ap (λ (r : Run). r.damage) run in cc)
place-behind w p q m h hs (Ok k) inside found goes is run =
    let list : h ∷ (run_of w k).list ≡ hs = ap (λ (r : Run). r.list) run in
    let damage : (run_of w k).damage ≡ None = ap (λ (r : Run). r.damage) run in
    let end : (run_of w k).end ≡ q = ap (λ (r : Run). r.end) run in
    more h k (run_of w k).list (sym list) (record { inside = inside; found = found; goes = goes; next = is })
    (ap (λ d. record { list = (run_of w k).list; damage = d; end = (run_of w k).end }) damage ∙ ap (λ n. whole (run_of w k).list n) end)

place-found : (w : Way) (p q : ℕ) (hs : List Header) (found : Result Header Damage) → p < w.end → element_at w.setting w.bytes p w.end ≡ found → w.stops (id_of found) ≡ false → step p w.next found (run_of w) ≡ whole hs q → Place w p hs q
place-found w p q hs (Err d) inside is goes run = absurd (let wrong : Some d ≡ None = ap (λ (r : Run). r.damage) run in cc)
place-found w p q hs (Ok h) inside is goes run = place-behind w p q p h hs (w.next h) inside is goes refl run

place-of : (w : Way) (p q : ℕ) (hs : List Header) → AdvancesIn w → run_of w p ≡ whole hs q → Place w p hs q
place-of w p q hs advances run =
    elim (cases_lt p w.end) [
      | inl inside ↦ stopped inside (w.stops (id_of (element_at w.setting w.bytes p w.end))) refl
      | inr past ↦ ended (elements-end w.setting w.stops w.next w.bytes p w.end past)
    ]
  where
    ended : run_of w p ≡ ends_at p → Place w p hs q
    ended is =
        let same : ends_at p ≡ whole hs q = sym is ∙ run in
        over (sym (ap (λ (r : Run). r.list) same)) (ap (λ (r : Run). r.end) same) is

    stopped : p < w.end → (stop : Bool) → w.stops (id_of (element_at w.setting w.bytes p w.end)) ≡ stop → Place w p hs q
    stopped inside true is = ended (run-stops w p advances inside is)
    stopped inside false is =
        place-found w p q hs (element_at w.setting w.bytes p w.end) inside refl is
        (sym (elements-more w.setting w.stops w.next w.bytes p w.end advances inside
        ∙ ap (λ (b : Bool). if b then ends_at p else step p w.next (element_at w.setting w.bytes p w.end) (run_of w)) is) ∙ run)

-- Elements that are listed without damage follow each other, and the list ends at `q`.
pub record IsTiled (w : Way) (p : ℕ) (hs : List Header) (q : ℕ) : Type 0 where
  pub tiles : Tiles w p hs q
  pub ends : run_of w q ≡ ends_at q

pub tiled : (w : Way) (p q : ℕ) (hs : List Header) → AdvancesIn w → run_of w p ≡ whole hs q → IsTiled w p hs q
tiled w p q [] advances run = of (place-of w p q [] advances run)
  where
    of : Place w p [] q → IsTiled w p [] q
    of (over none same is) = record { tiles = same; ends = subst (λ k. run_of w k ≡ ends_at k) same is }
    of (more h m rest is stands run) = absurd (cc)
tiled w p q (g ∷ gs) advances run = of (λ m is. tiled w m q gs advances is) (place-of w p q (g ∷ gs) advances run)
  where
    same-rest : (h : Header) (rest : List Header) → g ∷ gs ≡ h ∷ rest → (g ≡ h) × (gs ≡ rest)
    same-rest h rest is = (cc, cc)

    of : ((m : ℕ) → run_of w m ≡ whole gs q → IsTiled w m gs q) → Place w p (g ∷ gs) q → IsTiled w p (g ∷ gs) q
    of further (over none same is) = absurd (cc)
    of further (more h m rest is stands run) =
        let both = same-rest h rest is in
        let behind = further m (run ∙ ap (λ l. whole l q) (sym both.1)) in
        record { tiles = (m, subst (λ k. Stands w p k m) (sym both.0) stands, behind.tiles); ends = behind.ends }

-- ---- places of Elements

pub stands-placed : (w : Way) (p q : ℕ) (h : Header) → AdvancesIn w → Stands w p h q → (h.offset ≡ p) × (p < q)
stands-placed w p q h advances stands =
    let placed = element_at-placed w.setting w.bytes p w.end h (omega (arith, stands.inside)) stands.found in
    (placed.offset, advances.on p h q stands.inside stands.found stands.next)

-- A list ends at its start or later.
pub tiles-end : (w : Way) (p q : ℕ) (hs : List Header) → AdvancesIn w → Tiles w p hs q → p ≤ q
tiles-end w p q [] advances same = omega (arith, same)
tiles-end w p q (h ∷ hs) advances (m, stands, rest) =
    let here = stands-placed w p m h advances stands in
    let on = here.1 in
    let later = tiles-end w m q hs advances rest in
    omega arith

pub ahead-later : (w : Way) (p q : ℕ) (hs : List Header) (g : Header) → AdvancesIn w → Tiles w p hs q → IsAmong hs g → p ≤ g.offset
ahead-later w p q [] g advances tiles ahead = absurd ahead
ahead-later w p q (h ∷ hs) g advances (m, stands, rest) (inl same) =
    let here = stands-placed w p m h advances stands in
    let at : h.offset ≡ g.offset = ap (λ (k : Header). k.offset) same in
    omega (arith, here.0)
ahead-later w p q (h ∷ hs) g advances (m, stands, rest) (inr later) =
    let on = (stands-placed w p m h advances stands).1 in
    let behind = ahead-later w m q hs g advances rest later in
    omega arith

-- ---- end of a list

-- Before the end of its parent an ID ends the list.
pub end-stops : (w : Way) (p : ℕ) → AdvancesIn w → run_of w p ≡ ends_at p → p < w.end → w.stops (id_of (element_at w.setting w.bytes p w.end)) ≡ true
end-stops w p advances ended inside = of (w.stops (id_of (element_at w.setting w.bytes p w.end))) refl
  where
    next : (h : Header) (q : Result ℕ Damage) → behind p h q (run_of w) ≡ ends_at p → ⊥
    next h (Ok q) is = let wrong : h ∷ (run_of w q).list ≡ [] = ap (λ (r : Run). r.list) is in absurd (cc)
    next h (Err d) is = let wrong : h ∷ [] ≡ [] = ap (λ (r : Run). r.list) is in absurd (cc)

    found : (f : Result Header Damage) → step p w.next f (run_of w) ≡ ends_at p → ⊥
    found (Ok h) is = next h (w.next h) is
    found (Err d) is = let wrong : Some d ≡ None = ap (λ (r : Run). r.damage) is in absurd (cc)

    of : (stop : Bool) → w.stops (id_of (element_at w.setting w.bytes p w.end)) ≡ stop → stop ≡ true
    of true is = refl
    of false is =
        let more = elements-more w.setting w.stops w.next w.bytes p w.end advances inside ∙ ap (λ (b : Bool). if b then ends_at p else step p w.next (element_at w.setting w.bytes p w.end) (run_of w)) is in
        absurd (found (element_at w.setting w.bytes p w.end) (sym more ∙ ended))

-- If the bytes after the list are the same, and the file is equally long, the other list ends there, too.
pub end-same : (v w : Way) (p : ℕ) → AdvancesIn v → AdvancesIn w → v.end ≡ w.end → element_at w.setting w.bytes p w.end ≡ element_at v.setting v.bytes p v.end → ((id : ℕ) → w.stops id ≡ v.stops id) → run_of v p ≡ ends_at p → run_of w p ≡ ends_at p
end-same v w p left right ends same stops ended =
    elim (cases_lt p w.end) [
      | inl inside ↦ run-stops w p right inside (ap (λ f. w.stops (id_of f)) same ∙ stops (id_of (element_at v.setting v.bytes p v.end)) ∙ end-stops v p left ended (omega arith))
      | inr past ↦ elements-end w.setting w.stops w.next w.bytes p w.end past
    ]

-- Children end within their master.
pub inner-within : (bytes : List ℕ) (e p q : ℕ) (hs : List Header) → Tiles (inner bytes e) p hs q → p ≤ e → q ≤ e
inner-within bytes e p q [] tiles inside = omega (arith, tiles)
inner-within bytes e p q (h ∷ hs) (m, stands, rest) inside =
    let goes : Ok (end_in e h) ≡ Ok m = stands.next in
    let next : end_in e h ≡ m = cc in
    inner-within bytes e m q hs rest (omega arith)
