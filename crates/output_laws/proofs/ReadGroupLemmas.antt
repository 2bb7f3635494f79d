-- The total size of the children of a BlockGroup.
use Rattle.std.proofs.Common.{◌≡◌, ℕ, zero, suc, ◌+◌, ◌-◌, ◌<◌, ◌≤◌, ◌==◌, nat_lt, Bool, true, false, if◌then◌else◌, cond, List, [], ◌∷◌, length, length-append, Some, Result, Ok, Err, refl, ap, arith}
use Rattle.std.specs.List.{filter, flat_map}
use Rattle.std.proofs.lemmas.Bool.Decides.{nat_tests}
use Rattle.mkv_io.specs.declared.damage.Damage.{Damage}
use Rattle.mkv_schema.specs.declared.element.Header.{Header}
use Rattle.mkv_schema.specs.Element.{in_master, element_at, octets_between, stated_end, end_in, known}
use Rattle.mkv_schema.specs.Elements.{elements, elements_within, never, ends_at, step}
use Rattle.mkv_schema.specs.Placed.{StandsAt}
use Rattle.mkv_schema.specs.Value.{body_of, first_of}
use Rattle.mkv_schema.proofs.ElementLemmas.{element_at-placed, element_in-whole, length-octets_between}
use Rattle.block_format.specs.Elements.{element_octets, is_kept, kept_of, group_run}

-- the sum of a value over Elements
abbrev pub weight : (Header → ℕ) → List Header → ℕ
weight f [] = 0
weight f (h ∷ hs) = f h + weight f hs

-- The children of a master have together at most the master's size, if each has at most its own size.
weight-within : (f : Header → ℕ) (bytes : List ℕ) (e : ℕ) → ((p : ℕ) (h : Header) → StandsAt p e h → f h ≤ stated_end h - p) → (n p : ℕ) → weight f (elements_within n in_master never (λ h. Ok (end_in e h)) bytes p e).list ≤ e - p
unfolding elements_within
weight-within f bytes e small zero p = omega arith
weight-within f bytes e small (suc n) p = split (weight-within f bytes e small n) (nat_lt p e) refl
  where
    Rest : Type 0
    Rest = (q : ℕ) → weight f (elements_within n in_master never (λ h. Ok (end_in e h)) bytes q e).list ≤ e - q

    go : Rest → (found : Result Header Damage) → element_at in_master bytes p e ≡ found → p < e → weight f (step p (λ h. Ok (end_in e h)) found (λ q. elements_within n in_master never (λ h. Ok (end_in e h)) bytes q e)).list ≤ e - p
    go rest (Err d) is before = omega arith
    go rest (Ok h) is before =
        let placed = element_at-placed in_master bytes p e h (omega arith) is in
        let whole = (element_in-whole in_master (octets_between bytes p e) (length bytes) p e h is).inside refl in
        let here = small p h placed in
        let later = placed.later in
        let others = rest (end_in e h) in
        omega arith

    split : Rest → (t : Bool) → nat_lt p e ≡ t → weight f (if t then step p (λ h. Ok (end_in e h)) (element_at in_master bytes p e) (λ q. elements_within n in_master never (λ h. Ok (end_in e h)) bytes q e) else ends_at p).list ≤ e - p
    split rest false is = omega arith
    split rest true is = go rest (element_at in_master bytes p e) refl (grind (arith, nat_tests))

-- The children of a group have at most the size of its body.
weight-group : (f : Header → ℕ) (bytes : List ℕ) (h : Header) → ((p : ℕ) (c : Header) → StandsAt p (stated_end h) c → f c ≤ stated_end c - p) → weight f (group_run bytes h).list ≤ known h.size
unfolding elements
weight-group f bytes h small =
    let sum = weight-within f bytes (stated_end h) small (stated_end h - h.body) h.body in
    omega arith

-- The kept children have at most that.
kept-weight : (bytes : List ℕ) (l : List Header) → length (kept_of bytes l) ≤ weight (λ c. length (element_octets bytes c)) l
kept-weight bytes [] = omega arith
kept-weight bytes (c ∷ cs) = split (is_kept c.id) (kept-weight bytes cs)
  where
    split : (t : Bool) → length (kept_of bytes cs) ≤ weight (λ c. length (element_octets bytes c)) cs
        → length (flat_map (λ (c : Header). element_octets bytes c) (if t then c ∷ filter (λ (c : Header). is_kept c.id) cs else filter (λ (c : Header). is_kept c.id) cs)) ≤ length (element_octets bytes c) + weight (λ c. length (element_octets bytes c)) cs
    split true rest = let joined = length-append (element_octets bytes c) (kept_of bytes cs) in omega arith
    split false rest = omega arith

-- The first child with an ID has at most that.
first-weight : (f : Header → ℕ) (id : ℕ) (l : List Header) (b : Header) → first_of id l ≡ Some b → f b ≤ weight f l
first-weight f id [] b is = absurd (cc)
first-weight f id (c ∷ cs) b is = split (c.id == id) is (first-weight f id cs b)
  where
    split : (t : Bool) → cond t (Some c) (first_of id cs) ≡ Some b → (first_of id cs ≡ Some b → f b ≤ weight f cs) → f b ≤ f c + weight f cs
    split true found rest =
        let same : f c ≡ f b = ap f (cc) in
        omega arith
    split false found rest = let less = rest found in omega arith

-- The kept children of a group have at most as many bytes as its body.
pub kept-short : (bytes : List ℕ) (h : Header) → length (kept_of bytes (group_run bytes h).list) ≤ known h.size
kept-short bytes h =
    let kept = kept-weight bytes (group_run bytes h).list in
    let all = weight-group (λ c. length (element_octets bytes c)) bytes h (λ p c placed. let offset = placed.offset in let octets = length-octets_between bytes c.offset (stated_end c) in omega arith) in
    omega arith

-- Its Block has at most as many bytes, too.
pub block-short : (bytes : List ℕ) (h b : Header) (id : ℕ) → first_of id (group_run bytes h).list ≡ Some b → length (body_of bytes b) ≤ known h.size
block-short bytes h b id is =
    let one = first-weight (λ c. length (body_of bytes c)) id (group_run bytes h).list b is in
    let all = weight-group (λ c. length (body_of bytes c)) bytes h (λ p c placed. let later = placed.later in let octets = length-octets_between bytes c.body (stated_end c) in omega arith) in
    omega arith
