-- A question on the headers of Elements in a content is a question on the Elements.
use Rattle.std.proofs.Common.{◌≡◌, ℕ, suc, ◌+◌, ◌==◌, not, Bool, true, false, cond, List, [], ◌∷◌, ◌++◌, length, map, filter, flat_map, find, All, Some, None, refl, ◌∙◌, ap, ap₂}
use Rattle.std.specs.List.{AllZip}
use Rattle.std.specs.Option.{option_map}
use Rattle.std.proofs.lemmas.List.Elements.{All-head, All-tail}
use Rattle.mkv_schema.specs.declared.element.Header.{Header}
use Rattle.mkv_schema.specs.Element.{octets_between, stated_end}
use Rattle.mkv_schema.specs.Value.{body_of, first_of}
use Rattle.output_model.specs.Element.{Element, HoldsAt, octets_of, joined, headers_in_place}
use Rattle.output_model.proofs.HeldLemmas.{held-left, held-right}
use Rattle.output_model.proofs.ReadLemmas.{body_of-read, octets-read}

-- The header `h` in the content is a header of the Element `d`.
pub record IsRead (bytes : List ℕ) (h : Header) (d : Element) : Type 0 where
  pub id_is : h.id ≡ d.id
  pub body_is : body_of bytes h ≡ d.body
  pub octets_are : octets_between bytes h.offset (stated_end h) ≡ octets_of d

-- The headers of Elements at their place are the headers in the content.
pub headers-read : (bytes : List ℕ) (ds : List Element) (p : ℕ) → HoldsAt bytes p (joined ds) → AllZip (IsRead bytes) (headers_in_place p ds) ds
headers-read bytes [] p stand = tt
headers-read bytes (d ∷ ds) p stand =
    let here = held-left bytes p (octets_of d) (joined ds) stand in (
      record { id_is = refl; body_is = body_of-read bytes p d here; octets_are = octets-read bytes p d here },
      headers-read bytes ds (p + length (octets_of d)) (held-right bytes p (octets_of d) (joined ds) stand),
    )

-- ---- the first with an ID

pub first_of-read : {A : Type 0} (bytes : List ℕ) (value : List ℕ → A) (id : ℕ) (hs : List Header) (ds : List Element) → AllZip (IsRead bytes) hs ds
    → option_map (λ (h : Header). value (body_of bytes h)) (first_of id hs) ≡ option_map (λ (d : Element). value d.body) (find (λ (d : Element). d.id == id) ds)
first_of-read bytes value id [] [] are = refl
first_of-read bytes value id [] (d ∷ ds) are = absurd are
first_of-read bytes value id (h ∷ hs) [] are = absurd are
first_of-read bytes value id (h ∷ hs) (d ∷ ds) are =
    ap (λ (x : ℕ). option_map (λ (c : Header). value (body_of bytes c)) (cond (x == id) (Some h) (first_of id hs))) are.0.id_is
    ∙ split (d.id == id) (ap value are.0.body_is) (first_of-read bytes value id hs ds are.1)
  where
    split : (test : Bool) → value (body_of bytes h) ≡ value d.body
        → option_map (λ (c : Header). value (body_of bytes c)) (first_of id hs) ≡ option_map (λ (x : Element). value x.body) (find (λ (x : Element). x.id == id) ds)
        → option_map (λ (c : Header). value (body_of bytes c)) (cond test (Some h) (first_of id hs)) ≡ option_map (λ (x : Element). value x.body) (cond test (Some d) (find (λ (x : Element). x.id == id) ds))
    split true same rest = ap (λ v. Some v) same
    split false same rest = rest

-- ---- Elements whose IDs pass a test

pub map-read : {A : Type 0} (bytes : List ℕ) (value : List ℕ → A) (passes : ℕ → Bool) (hs : List Header) (ds : List Element) → AllZip (IsRead bytes) hs ds
    → map (λ (h : Header). value (body_of bytes h)) (filter (λ (h : Header). passes h.id) hs) ≡ map (λ (d : Element). value d.body) (filter (λ (d : Element). passes d.id) ds)
map-read bytes value passes [] [] are = refl
map-read bytes value passes [] (d ∷ ds) are = absurd are
map-read bytes value passes (h ∷ hs) [] are = absurd are
map-read bytes value passes (h ∷ hs) (d ∷ ds) are =
    ap (λ (x : ℕ). map (λ (c : Header). value (body_of bytes c)) (cond (passes x) (h ∷ filter (λ (c : Header). passes c.id) hs) (filter (λ (c : Header). passes c.id) hs))) are.0.id_is
    ∙ split (passes d.id) (ap value are.0.body_is) (map-read bytes value passes hs ds are.1)
  where
    split : (test : Bool) → value (body_of bytes h) ≡ value d.body
        → map (λ (c : Header). value (body_of bytes c)) (filter (λ (c : Header). passes c.id) hs) ≡ map (λ (x : Element). value x.body) (filter (λ (x : Element). passes x.id) ds)
        → map (λ (c : Header). value (body_of bytes c)) (cond test (h ∷ filter (λ (c : Header). passes c.id) hs) (filter (λ (c : Header). passes c.id) hs))
        ≡ map (λ (x : Element). value x.body) (cond test (d ∷ filter (λ (x : Element). passes x.id) ds) (filter (λ (x : Element). passes x.id) ds))
    split true same rest = ap₂ (λ v vs. v ∷ vs) same rest
    split false same rest = rest

pub octets_of-read : (bytes : List ℕ) (passes : ℕ → Bool) (hs : List Header) (ds : List Element) → AllZip (IsRead bytes) hs ds
    → flat_map (λ (h : Header). octets_between bytes h.offset (stated_end h)) (filter (λ (h : Header). passes h.id) hs) ≡ joined (filter (λ (d : Element). passes d.id) ds)
octets_of-read bytes passes [] [] are = refl
octets_of-read bytes passes [] (d ∷ ds) are = absurd are
octets_of-read bytes passes (h ∷ hs) [] are = absurd are
octets_of-read bytes passes (h ∷ hs) (d ∷ ds) are =
    ap (λ (x : ℕ). flat_map (λ (c : Header). octets_between bytes c.offset (stated_end c)) (cond (passes x) (h ∷ filter (λ (c : Header). passes c.id) hs) (filter (λ (c : Header). passes c.id) hs))) are.0.id_is
    ∙ split (passes d.id) are.0.octets_are (octets_of-read bytes passes hs ds are.1)
  where
    split : (test : Bool) → octets_between bytes h.offset (stated_end h) ≡ octets_of d
        → flat_map (λ (c : Header). octets_between bytes c.offset (stated_end c)) (filter (λ (c : Header). passes c.id) hs) ≡ joined (filter (λ (x : Element). passes x.id) ds)
        → flat_map (λ (c : Header). octets_between bytes c.offset (stated_end c)) (cond test (h ∷ filter (λ (c : Header). passes c.id) hs) (filter (λ (c : Header). passes c.id) hs))
        ≡ joined (cond test (d ∷ filter (λ (x : Element). passes x.id) ds) (filter (λ (x : Element). passes x.id) ds))
    split true same rest = ap₂ (λ v vs. v ++ vs) same rest
    split false same rest = rest

pub length-read : (bytes : List ℕ) (passes : ℕ → Bool) (hs : List Header) (ds : List Element) → AllZip (IsRead bytes) hs ds
    → length (filter (λ (h : Header). passes h.id) hs) ≡ length (filter (λ (d : Element). passes d.id) ds)
length-read bytes passes [] [] are = refl
length-read bytes passes [] (d ∷ ds) are = absurd are
length-read bytes passes (h ∷ hs) [] are = absurd are
length-read bytes passes (h ∷ hs) (d ∷ ds) are =
    ap (λ (x : ℕ). length (cond (passes x) (h ∷ filter (λ (c : Header). passes c.id) hs) (filter (λ (c : Header). passes c.id) hs))) are.0.id_is
    ∙ split (passes d.id) (length-read bytes passes hs ds are.1)
  where
    split : (test : Bool) → length (filter (λ (c : Header). passes c.id) hs) ≡ length (filter (λ (x : Element). passes x.id) ds)
        → length (cond test (h ∷ filter (λ (c : Header). passes c.id) hs) (filter (λ (c : Header). passes c.id) hs))
        ≡ length (cond test (d ∷ filter (λ (x : Element). passes x.id) ds) (filter (λ (x : Element). passes x.id) ds))
    split true rest = ap suc rest
    split false rest = rest

-- ---- no Element fails a test

pub find-none : (bytes : List ℕ) (passes : ℕ → List ℕ → Bool) (hs : List Header) (ds : List Element) → AllZip (IsRead bytes) hs ds → All (λ (d : Element). passes d.id d.body ≡ true) ds
    → find (λ (h : Header). not (passes h.id (body_of bytes h))) hs ≡ None
find-none bytes passes [] [] are pass = refl
find-none bytes passes [] (d ∷ ds) are pass = absurd are
find-none bytes passes (h ∷ hs) [] are pass = absurd are
find-none bytes passes (h ∷ hs) (d ∷ ds) are pass =
    let holds : passes h.id (body_of bytes h) ≡ true = ap₂ passes are.0.id_is are.0.body_is ∙ All-head (λ (x : Element). passes x.id x.body ≡ true) d ds pass in
    ap (λ (test : Bool). cond (not test) (Some h) (find (λ (c : Header). not (passes c.id (body_of bytes c))) hs)) holds
    ∙ find-none bytes passes hs ds are.1 (All-tail (λ (x : Element). passes x.id x.body ≡ true) d ds pass)
