-- The Elements of level 1 that are kept, one more at a time.
use Rattle.std.proofs.Common.{◌≡◌, ℕ, zero, suc, IfSome, ◌≤◌, ◌+◌, ◌==◌, nat_lt, Bool, true, false, not, ◌&&◌, ◌||◌, if◌then◌else◌, List, [], ◌∷◌, ◌++◌, length, length-append, Option, Some, None, refl, sym, ◌∙◌, ap, arith}
use Rattle.std.specs.Option.{option_or, is_some}
use Rattle.std.specs.List.{All, filter, find, last_or, sum_by}
use Rattle.std.proofs.lemmas.List.Elements.{All-append, filter-append}
use Rattle.std.proofs.lemmas.List.Folds.{find-append}
use Rattle.std.proofs.lemmas.List.Sums.{sum_by-append, length-filter}
use Rattle.mkv_schema.specs.declared.ids.TheConstants.{CLUSTER}
use Rattle.mkv_io.specs.declared.damage.Damage.{Damage}
use Rattle.mkv_schema.specs.declared.element.Header.{Header}
use Rattle.mkv_schema.specs.Element.{in_segment, known}
use Rattle.mkv_schema.specs.Placed.{IsWhole}
use Rattle.mkv_schema.specs.Value.{first_of}
use Rattle.mkv_schema.specs.declared.limits.TheConstants.{MAX_ELEMENTS}
use Rattle.mkv_schema.specs.Outline.{first_damage, where_it, is_described, described, others, passes_count}
use Rattle.element_reader.specs.Collected.{IsInFile, Keeps, unless_cluster, others_of, described_octets}
use Rattle.element_reader.specs.declared.collected.Collected.{Collected}

-- one more Cluster
abbrev pub cluster_of : Header → Option Header
cluster_of h = if h.id == CLUSTER then Some h else None

pub described-more : (list : List Header) (h : Header) → described (list ++ h ∷ []) ≡ described list + described_octets h
described-more list h =
    ap (sum_by (λ k. known k.size)) (filter-append (λ k. is_described k.id) list (h ∷ []))
    ∙ sum_by-append (λ k. known k.size) (filter (λ k. is_described k.id) list) (filter (λ k. is_described k.id) (h ∷ []))
    ∙ ap (λ n. described list + n) (alone (is_described h.id))
  where
    alone : (test : Bool) → sum_by (λ (k : Header). known k.size) (if test then h ∷ [] else []) ≡ (if test then known h.size else 0)
    alone true = grind arith
    alone false = refl

pub others-more : (list : List Header) (h : Header) → others_of (list ++ h ∷ []) ≡ others_of list ++ unless_cluster h
others-more list h = filter-append (λ k. not (k.id == CLUSTER)) list (h ∷ [])

pub cluster-more : (list : List Header) (h : Header) → first_of CLUSTER (list ++ h ∷ []) ≡ option_or (first_of CLUSTER list) (cluster_of h)
cluster-more list h = find-append (λ k. k.id == CLUSTER) list (h ∷ [])

-- one more Element is the last
last-more : (first : Option Header) (list : List Header) (h : Header) → last_or first (list ++ h ∷ []) ≡ Some h
last-more first [] h = refl
last-more first (k ∷ ks) h = last-more (Some k) ks h

-- one more Element is kept
pub Keeps-more : (held : ℕ) (list : List Header) (before after : Collected) (h : Header) → Keeps held list before → after.others.items ≡ before.others.items ++ unless_cluster h → after.cluster ≡ option_or before.cluster (cluster_of h) → after.last ≡ Some h → after.held ≡ before.held + described_octets h → Keeps held (list ++ h ∷ []) after
Keeps-more held list before after h keeps items first last octets =
    let more = described-more list h in
    record {
      others = items ∙ ap (λ l. l ++ unless_cluster h) keeps.others ∙ sym (others-more list h);
      first = first ∙ ap (λ o. option_or o (cluster_of h)) keeps.first ∙ sym (cluster-more list h);
      last = last ∙ sym (last-more None list h);
      octets = omega (arith, more, octets, keeps.octets);
    }

-- The first of two options is their first if the second is None.
pub option_or-none : {X : Type 0} (first : Option X) → first ≡ option_or first None
option_or-none None = refl
option_or-none (Some x) = refl

-- The first of two options is their first if it isn't None.
pub option_or-first : {X : Type 0} (first later : Option X) → is_some first ≡ true → first ≡ option_or first later
option_or-first None later is = absurd (cc)
option_or-first (Some x) later is = refl

-- The second is their first if the first is None.
pub option_or-later : {X : Type 0} (first later : Option X) → is_some first ≡ false → later ≡ option_or first later
option_or-later None later is = refl
option_or-later (Some x) later is = absurd (cc)

pub passes_count-kept : (held : ℕ) (list : List Header) (kept : Collected) (h : Header) → Keeps held list kept → passes_count list h ≡ (not (h.id == CLUSTER) && nat_lt MAX_ELEMENTS (length kept.others.items + 1))
passes_count-kept held list kept h keeps = by_id (not (h.id == CLUSTER)) refl
  where
    by_id : (test : Bool) → not (h.id == CLUSTER) ≡ test → (test && nat_lt MAX_ELEMENTS (others (list ++ h ∷ []))) ≡ (test && nat_lt MAX_ELEMENTS (length kept.others.items + 1))
    by_id false is = refl
    by_id true is =
        let all : others (list ++ h ∷ []) ≡ length (others_of list ++ h ∷ []) =
        sym (length-filter (λ k. not (k.id == CLUSTER)) (list ++ h ∷ []))
        ∙ ap length (others-more list h ∙ ap (λ test. others_of list ++ (if test then h ∷ [] else [])) is) in
        ap (nat_lt MAX_ELEMENTS) (all ∙ ap (λ (l : List Header). length (l ++ h ∷ [])) (sym keeps.others) ∙ length-append kept.others.items (h ∷ []))

-- Either of two limits is reported by its test.
pub passes-count : (large many : Bool) (a b : Damage) → large ≡ false → many ≡ true → first_damage (where_it large a ∷ where_it many b ∷ []) ≡ Some b
passes-count false many a b large count = rw count refl
passes-count true many a b large count = absurd (cc)

pub passes-none : (large many : Bool) (a b : Damage) → large ≡ false → many ≡ false → first_damage (where_it large a ∷ where_it many b ∷ []) ≡ None
passes-none false false a b large count = refl
passes-none false true a b large count = absurd (cc)
passes-none true many a b large count = absurd (cc)

-- A property of an Element holds for the list of this Element.
All-one : (P : Header → Type 0) (h : Header) → P h → All P (h ∷ [])
All-one P h holds zero d below = holds
All-one P h holds (suc k) d below = absurd (omega arith)

-- A property of each Element holds for the Element that `find` returns.
pub All-find : (P : Header → Type 0) (test : Header → Bool) (list : List Header) → All P list → IfSome (find test list) P
All-find P test [] all = tt
All-find P test (h ∷ hs) all = here (All-find P test hs (λ k d below. all (suc k) d (omega arith))) (test h)
  where
    here : IfSome (find test hs) P → (found : Bool) → IfSome (if found then Some h else find test hs) P
    here later true = all zero h (omega arith)
    here later false = later

-- The kept Elements can be read, and so can one more of a Segment that ends in the file.
pub IsInFile-more : (total bound : ℕ) (list : List Header) (h : Header) → bound ≤ total → All (IsInFile total) list → IsWhole in_segment bound h → All (IsInFile total) (list ++ unless_cluster h)
IsInFile-more total bound list h within before whole = All-append (IsInFile total) list (unless_cluster h) before (alone (h.id == CLUSTER) refl)
  where
    alone : (cluster : Bool) → (h.id == CLUSTER) ≡ cluster → All (IsInFile total) (if not cluster then h ∷ [] else [])
    alone true is = λ k d below. absurd (omega arith)
    alone false is = All-one (IsInFile total) h (record { known = whole.known is; inside = omega (arith, whole.inside is) })
