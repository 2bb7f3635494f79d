-- Scanned elements, one step at a time.
use Rattle.std.proofs.Common.{◌≡◌, ℕ, ◌+◌, ◌<◌, ◌≤◌, Bool, true, if◌then◌else◌, List, [], ◌∷◌, ◌++◌, length, flat_map, Option, Some, None, Result, Ok, Err, refl, sym, ◌∙◌, ap, subst, arith, append_assoc}
use Rattle.mkv_io.specs.declared.damage.Damage.{Damage}
use Rattle.mkv_schema.specs.declared.element.Header.{Header}
use Rattle.mkv_schema.specs.Element.{in_master, element_at, octets_between, end_in, stated_end}
use Rattle.mkv_schema.specs.Elements.{Run, in_front, breaks_at, step, never, children_in}
use Rattle.mkv_schema.specs.Outline.{first_damage, first_refusal}
use Rattle.mkv_io.specs.Results.{unless}
use Rattle.mkv_schema.proofs.ElementLemmas.{element_in-whole}
use Rattle.mkv_schema.proofs.ElementsLemmas.{elements-end, elements-more, Advances-known}
use Rattle.tree_format.specs.Node.{Node}
use Rattle.meta_records.specs.Attachments.{ScannedElement, at_child, at_part, child_of, children_of, counted_of, ended, is_attached, leaf_of, limits_passed, met_in, no_value, one_too_many, part_of, refused_from, too_large}
use Rattle.meta_records.specs.Walk.{Meets, ReadsAs, leaf_in, met_at}
use Rattle.meta_records.specs.declared.counts.Counts.{Counts}
use Rattle.meta_records.specs.declared.end.MetaEnd.{MetaEnd}
use Rattle.meta_records.specs.declared.end.MetaEnd.TheVariants.{Refused, ReadFault, Memory}

-- ---- elements from an offset on

abbrev pub run_at : List ℕ → ℕ → ℕ → Run
run_at bytes p e = children_in in_master bytes p e

-- the rest of a run, given the element or damage at its start
abbrev pub run_of : List ℕ → ℕ → ℕ → Result Header Damage → Run
run_of bytes p e (Ok h) = in_front h (run_at bytes (stated_end h) e)
run_of bytes p e (Err d) = breaks_at p d

pub run_at-step : (bytes : List ℕ) (p e : ℕ) (found : Result Header Damage) → p < e → element_at in_master bytes p e ≡ found → run_at bytes p e ≡ run_of bytes p e found
run_at-step bytes p e (Err d) inside is =
    elements-more in_master never (λ h. Ok (end_in e h)) bytes p e (Advances-known in_master bytes e) inside
    ∙ ap (λ (r : Result Header Damage). step p (λ h. Ok (end_in e h)) r (λ q. run_at bytes q e)) is
run_at-step bytes p e (Ok h) inside is =
    elements-more in_master never (λ k. Ok (end_in e k)) bytes p e (Advances-known in_master bytes e) inside
    ∙ ap (λ (r : Result Header Damage). step p (λ k. Ok (end_in e k)) r (λ q. run_at bytes q e)) is
    ∙ ap (λ (q : ℕ). in_front h (run_at bytes q e)) ends
  where
    ends : end_in e h ≡ stated_end h
    ends =
        let within : stated_end h ≤ e = (element_in-whole in_master (octets_between bytes p e) (length bytes) p e h is).inside refl in
        omega arith

-- ---- scanned elements

abbrev pub later : (Header → List (Result ScannedElement Damage)) → List ℕ → ℕ → Result Header Damage → List (Result ScannedElement Damage)
later at bytes e (Ok h) = met_in at (run_at bytes (stated_end h) e)
later at bytes e (Err d) = []

-- The element or damage at an offset comes first, then the rest.
pub met_in-step : (at : Header → List (Result ScannedElement Damage)) (bytes : List ℕ) (p e : ℕ) (found : Result Header Damage) → p < e → element_at in_master bytes p e ≡ found → met_in at (run_at bytes p e) ≡ met_at at found ++ later at bytes e found
met_in-step at bytes p e (Err d) inside is = ap (met_in at) (run_at-step bytes p e (Err d) inside is)
met_in-step at bytes p e (Ok h) inside is =
    let rest = run_at bytes (stated_end h) e in
    ap (met_in at) (run_at-step bytes p e (Ok h) inside is)
    ∙ append_assoc (at h) (flat_map at rest.list) (ended rest.damage)

-- At the end nothing is scanned.
pub met_in-end : (at : Header → List (Result ScannedElement Damage)) (bytes : List ℕ) (p e : ℕ) → e ≤ p → met_in at (run_at bytes p e) ≡ []
met_in-end at bytes p e past = ap (met_in at) (elements-end in_master never (λ h. Ok (end_in e h)) bytes p e past)

-- ---- during the scan

-- The elements from `from` up to `p` were scanned, and `new` counts them.
pub record IsMet (at : Header → List (Result ScannedElement Damage)) (bytes : List ℕ) (from p e : ℕ) (old new : Counts) : Type 0 where
  pub on : (more : List (Result ScannedElement Damage)) → refused_from old.octets old.nodes (met_in at (run_at bytes from e) ++ more) ≡ refused_from new.octets new.nodes (met_in at (run_at bytes p e) ++ more)

pub IsMet-none : (at : Header → List (Result ScannedElement Damage)) (bytes : List ℕ) (p e : ℕ) (c : Counts) → IsMet at bytes p p e c c
IsMet-none at bytes p e c = record { on = λ more. refl }

-- After the elements up to `p`, the element at `p` is next.
IsMet-at : (at : Header → List (Result ScannedElement Damage)) (bytes : List ℕ) (from p e : ℕ) (old mid : Counts) (more : List (Result ScannedElement Damage)) → IsMet at bytes from p e old mid → p < e
    → refused_from old.octets old.nodes (met_in at (run_at bytes from e) ++ more)
    ≡ refused_from mid.octets mid.nodes (met_at at (element_at in_master bytes p e) ++ (later at bytes e (element_at in_master bytes p e) ++ more))
IsMet-at at bytes from p e old mid more is inside =
    let found = element_at in_master bytes p e in
    is.on more
    ∙ ap (λ (l : List (Result ScannedElement Damage)). refused_from mid.octets mid.nodes (l ++ more)) (met_in-step at bytes p e found inside refl)
    ∙ ap (refused_from mid.octets mid.nodes) (append_assoc (met_at at found) (later at bytes e found) more)

-- One more element is scanned.
pub IsMet-more : {T : Type 0} (at : Header → List (Result ScannedElement Damage)) (bytes : List ℕ) (from p e next : ℕ) (old mid new : Counts) (h : Header) (x : T) → IsMet at bytes from p e old mid → p < e
    → element_at in_master bytes p e ≡ Ok h → next ≡ stated_end h → Meets (met_at at (element_at in_master bytes p e)) mid new (Ok x) → IsMet at bytes from next e old new
IsMet-more at bytes from p e next old mid new h x is inside found behind meets = record {
  on = λ more.
      IsMet-at at bytes from p e old mid more is inside
      ∙ meets (later at bytes e (element_at in_master bytes p e) ++ more)
      ∙ ap (λ (r : Result Header Damage). refused_from new.octets new.nodes (later at bytes e r ++ more)) found
      ∙ ap (λ (q : ℕ). refused_from new.octets new.nodes (met_in at (run_at bytes q e) ++ more)) (sym behind);
}

-- Damage at the offset refuses all, unless a read failed or memory ran out.
pub IsMet-stops : (T U : Type 0) (at : Header → List (Result ScannedElement Damage)) (bytes : List ℕ) (from p e : ℕ) (old mid new final : Counts) (end : MetaEnd) → IsMet at bytes from p e old mid → p < e
    → Meets {T = T} (met_at at (element_at in_master bytes p e)) mid new (Err end) → Meets {T = U} (met_in at (run_at bytes from e)) old final (Err end)
IsMet-stops T U at bytes from p e old mid new final (Refused d) is inside meets =
    λ more. IsMet-at at bytes from p e old mid more is inside ∙ meets (later at bytes e (element_at in_master bytes p e) ++ more)
IsMet-stops T U at bytes from p e old mid new final ReadFault is inside meets = tt
IsMet-stops T U at bytes from p e old mid new final Memory is inside meets = tt

-- All elements were scanned.
pub IsMet-all : {T : Type 0} (at : Header → List (Result ScannedElement Damage)) (bytes : List ℕ) (from p e : ℕ) (old new : Counts) (x : T) → IsMet at bytes from p e old new → e ≤ p → Meets (met_in at (run_at bytes from e)) old new (Ok x)
IsMet-all at bytes from p e old new x is past =
    λ more. is.on more ∙ ap (λ (l : List (Result ScannedElement Damage)). refused_from new.octets new.nodes (l ++ more)) (met_in-end at bytes p e past)

-- ---- element at one place

-- Damage is scanned.
pub Meets-damage : (T : Type 0) (at : Header → List (Result ScannedElement Damage)) (found : Result Header Damage) (old new : Counts) (end : MetaEnd) → ReadsAs found (Err end) → Meets {T = T} (met_at at found) old new (Err end)
Meets-damage T at found old new (Refused d) is =
    λ more. ap (λ (r : Result Header Damage). refused_from old.octets old.nodes (met_at at r ++ more)) is
Meets-damage T at found old new ReadFault is = tt
Meets-damage T at found old new Memory is = tt

-- An element is scanned.
pub Meets-at : {T : Type 0} (at : Header → List (Result ScannedElement Damage)) (found : Result Header Damage) (h : Header) (old new : Counts) (r : Result T MetaEnd) → found ≡ Ok h → Meets (at h) old new r → Meets (met_at at found) old new r
Meets-at at found h old new r is meets = subst (λ (f : Result Header Damage). Meets (met_at at f) old new r) (sym is) meets

-- ---- first of three causes

first-of_three : (a b c : Option Damage) (d : Damage) → first_damage (a ∷ b ∷ []) ≡ Some d → first_damage (a ∷ b ∷ c ∷ []) ≡ Some d
first-of_three (Some e) b c d is = is
first-of_three None (Some e) c d is = is
first-of_three None None c d is = absurd (cc)

last-of_three : (a b c : Option Damage) → first_damage (a ∷ b ∷ []) ≡ None → first_damage (a ∷ b ∷ c ∷ []) ≡ c
last-of_three (Some e) b c is = absurd (cc)
last-of_three None (Some e) c is = absurd (cc)
last-of_three None None (Some d) is = refl
last-of_three None None None is = refl

module _ (octets nodes : ℕ) (m : ScannedElement) (more : List (Result ScannedElement Damage)) where
  -- The element passes a limit.
  pub refused_from-over : (d : Damage) → first_damage (limits_passed (octets + m.counted) nodes m.header) ≡ Some d → refused_from octets nodes (Ok m ∷ more) ≡ Some d
  refused_from-over d over = ap (λ (r : Option Damage). first_refusal r (refused_from (octets + m.counted) (nodes + 1) more)) (first-of_three (too_large (octets + m.counted) m.header) (one_too_many nodes m.header) (no_value m) d over)

  -- The element passes no limit, so its value decides.
  pub refused_from-within : first_damage (limits_passed (octets + m.counted) nodes m.header) ≡ None → refused_from octets nodes (Ok m ∷ more) ≡ first_refusal (no_value m) (refused_from (octets + m.counted) (nodes + 1) more)
  refused_from-within within = ap (λ (r : Option Damage). first_refusal r (refused_from (octets + m.counted) (nodes + 1) more)) (last-of_three (too_large (octets + m.counted) m.header) (one_too_many nodes m.header) (no_value m) within)

-- A valid element is counted.
pub refused_from-counted : (octets nodes : ℕ) (m : ScannedElement) (new : Counts) (more : List (Result ScannedElement Damage)) → first_damage (limits_passed (octets + m.counted) nodes m.header) ≡ None → no_value m ≡ None → new.octets ≡ octets + m.counted → new.nodes ≡ nodes + 1
    → refused_from octets nodes (Ok m ∷ more) ≡ refused_from new.octets new.nodes more
refused_from-counted octets nodes m new more within good counted one =
    refused_from-within octets nodes m more within
    ∙ ap (λ (r : Option Damage). first_refusal r (refused_from (octets + m.counted) (nodes + 1) more)) good
    ∙ ap (λ (o : ℕ). refused_from o (nodes + 1) more) (sym counted)
    ∙ ap (λ (n : ℕ). refused_from new.octets n more) (sym one)

-- ---- a child of an AttachedFile

value-none : (refusal : Option Damage) (n leaf : Node) → unless refusal n ≡ Ok leaf → refusal ≡ None
value-none None n made is = refl
value-none (Some d) n made is = absurd (cc)

value-some : (refusal : Option Damage) (n : Node) (d : Damage) → unless refusal n ≡ Err d → refusal ≡ Some d
value-some None n d is = absurd (cc)
value-some (Some e) n d is = let same : e ≡ d = cc in ap (λ (x : Damage). Some x) same

pub leaf-is : (refusal : Option Damage) (n leaf : Node) → unless refusal n ≡ Ok leaf → leaf ≡ n
leaf-is None n made is = cc
leaf-is (Some d) n made is = absurd (cc)

pub part-over : (T : Type 0) (bytes : List ℕ) (h : Header) (old new : Counts) (d : Damage) → first_damage (limits_passed (old.octets + counted_of h) old.nodes h) ≡ Some d → Meets {T = T} (at_part bytes h) old new (Err (Refused d))
part-over T bytes h old new d over = λ more. refused_from-over old.octets old.nodes (part_of bytes h) more d over

pub part-bad : (T : Type 0) (bytes : List ℕ) (h : Header) (old new : Counts) (end : MetaEnd) → first_damage (limits_passed (old.octets + counted_of h) old.nodes h) ≡ None → ReadsAs (leaf_in bytes h) (Err end) → Meets {T = T} (at_part bytes h) old new (Err end)
part-bad T bytes h old new (Refused d) within is = λ more.
    let m = part_of bytes h in
    refused_from-within old.octets old.nodes m more within
    ∙ ap (λ (r : Option Damage). first_refusal r (refused_from (old.octets + m.counted) (old.nodes + 1) more)) (value-some (no_value m) (leaf_of bytes h) d is)
part-bad T bytes h old new ReadFault within is = tt
part-bad T bytes h old new Memory within is = tt

pub part-good : {T : Type 0} (bytes : List ℕ) (h : Header) (old new : Counts) (leaf : Node) (x : T) → first_damage (limits_passed (old.octets + counted_of h) old.nodes h) ≡ None → leaf_in bytes h ≡ Ok leaf → new.octets ≡ old.octets + counted_of h → new.nodes ≡ old.nodes + 1
    → Meets (at_part bytes h) old new (Ok x)
part-good bytes h old new made x within is counted one = λ more.
    refused_from-counted old.octets old.nodes (part_of bytes h) new more within (value-none (no_value (part_of bytes h)) (leaf_of bytes h) made is) counted one

-- ---- a child of Attachments

pub child-over : (T : Type 0) (bytes : List ℕ) (h : Header) (old new : Counts) (d : Damage) → first_damage (limits_passed (old.octets + (child_of h).counted) old.nodes h) ≡ Some d → Meets {T = T} (at_child bytes h) old new (Err (Refused d))
child-over T bytes h old new d over = λ more. refused_from-over old.octets old.nodes (child_of h) _ d over

-- The children of an AttachedFile follow it.
module _ (bytes : List ℕ) (h : Header) (old mid : Counts) (file : is_attached h ≡ true) (within : first_damage (limits_passed (old.octets + (child_of h).counted) old.nodes h) ≡ None)
    (counted : mid.octets ≡ old.octets + (child_of h).counted) (one : mid.nodes ≡ old.nodes + 1) where
  pub file-front : (more : List (Result ScannedElement Damage)) → refused_from old.octets old.nodes (at_child bytes h ++ more) ≡ refused_from mid.octets mid.nodes (met_in (at_part bytes) (children_of bytes h) ++ more)
  file-front more =
      refused_from-counted old.octets old.nodes (child_of h) mid _ within refl counted one
      ∙ ap (λ (b : Bool). refused_from mid.octets mid.nodes ((if b then met_in (at_part bytes) (children_of bytes h) else []) ++ more)) file

  pub file-good : {T U : Type 0} (new : Counts) (x : T) (y : U) → Meets (met_in (at_part bytes) (children_of bytes h)) mid new (Ok x) → Meets (at_child bytes h) old new (Ok y)
  file-good new x y meets = λ more. file-front more ∙ meets more

  pub file-bad : (T U : Type 0) (new : Counts) (end : MetaEnd) → Meets {T = T} (met_in (at_part bytes) (children_of bytes h)) mid new (Err end) → Meets {T = U} (at_child bytes h) old new (Err end)
  file-bad T U new (Refused d) meets = λ more. file-front more ∙ meets more
  file-bad T U new ReadFault meets = tt
  file-bad T U new Memory meets = tt

-- A failure doesn't depend on the type of the result.
pub Meets-passed : (T U : Type 0) (list : List (Result ScannedElement Damage)) (old new : Counts) (end : MetaEnd) → Meets {T = T} list old new (Err end) → Meets {T = U} list old new (Err end)
Meets-passed T U list old new (Refused d) meets = meets
Meets-passed T U list old new ReadFault meets = tt
Meets-passed T U list old new Memory meets = tt
