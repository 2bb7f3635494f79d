-- The outline of a file, one part after the other.
use Rattle.std.proofs.Common.{◌≡◌, ℕ, ◌==◌, Bool, true, false, not, if◌then◌else◌, List, [], ◌∷◌, length, Option, Some, None, Result, Ok, Err, refl, sym, ◌∙◌, ap, subst, arith}
use Rattle.std.proofs.lemmas.Bool.Decides.{nat_tests}
use Rattle.mkv_schema.specs.declared.ids.TheConstants.{CLUSTER}
use Rattle.mkv_io.specs.declared.damage.Damage.{Damage}
use Rattle.mkv_schema.specs.declared.element.Header.{Header}
use Rattle.mkv_schema.specs.Element.{stated_end}
use Rattle.mkv_schema.specs.Outline.{Outlined, described, ebml_header, limits_from, outline_of, outlined, segment_of, segment_run, within_limits}
use Rattle.mkv_io.specs.Results.{and_then, unless}
use Rattle.mkv_schema.specs.Value.{first_of}
use Rattle.element_reader.specs.Collected.{last_element, others_of}
use Rattle.element_reader.specs.Level.{HasLevel}
use Rattle.element_reader.specs.Outline.{FileOutline, outline_in, shown}
use Rattle.element_reader.specs.Segment.{segment_from}
use Rattle.element_reader.specs.declared.level.Level.{Level}

-- the part of an outline after the EBML header
behind_ebml : ℕ → List ℕ → Header → Result Outlined Damage
behind_ebml held bytes ebml = and_then (segment_of bytes ebml) (λ segment. within_limits held bytes ebml segment)

-- The EBML header refuses the file.
pub outline_in-ebml : (held : ℕ) (bytes : List ℕ) (d : Damage) → ebml_header bytes ≡ Err d → outline_in held bytes ≡ Err d
unfolding outline_of behind_ebml
outline_in-ebml held bytes d is = ap (λ (found : Result Header Damage). and_then (and_then found (behind_ebml held bytes)) (λ o. Ok (shown bytes o))) is

-- The Segment decides after it.
in_segment : (held : ℕ) (bytes : List ℕ) (ebml : Header) (found : Result Header Damage) → ebml_header bytes ≡ Ok ebml → segment_from bytes (stated_end ebml) ≡ found → outline_in held bytes ≡ and_then (and_then found (λ segment. within_limits held bytes ebml segment)) (λ o. Ok (shown bytes o))
unfolding outline_of segment_of behind_ebml
in_segment held bytes ebml found first second =
    ap (λ (e : Result Header Damage). and_then (and_then e (behind_ebml held bytes)) (λ o. Ok (shown bytes o))) first
    ∙ ap (λ (s : Result Header Damage). and_then (and_then s (λ segment. within_limits held bytes ebml segment)) (λ o. Ok (shown bytes o))) second

-- There is no Segment, or a damage before it.
pub outline_in-segment : (held : ℕ) (bytes : List ℕ) (ebml : Header) (d : Damage) → ebml_header bytes ≡ Ok ebml → segment_from bytes (stated_end ebml) ≡ Err d → outline_in held bytes ≡ Err d
outline_in-segment held bytes ebml d first second = in_segment held bytes ebml (Err d) first second

-- An Element of level 1 passes a limit.
pub outline_in-limit : (held : ℕ) (bytes : List ℕ) (ebml segment : Header) (d : Damage) → ebml_header bytes ≡ Ok ebml → segment_from bytes (stated_end ebml) ≡ Ok segment → limits_from held [] (segment_run bytes segment).list ≡ Some d → outline_in held bytes ≡ Err d
outline_in-limit held bytes ebml segment d first second limit =
    in_segment held bytes ebml (Ok segment) first second
    ∙ ap (λ (refusal : Option Damage). and_then (unless refusal (outlined bytes ebml segment (segment_run bytes segment))) (λ o. Ok (shown bytes o))) limit

-- Nothing refuses the file.
pub outline_in-found : (held : ℕ) (bytes : List ℕ) (ebml segment : Header) (level : Level) (total own : ℕ) → ebml_header bytes ≡ Ok ebml → segment_from bytes (stated_end ebml) ≡ Ok segment → HasLevel held bytes segment level → total ≡ length bytes → own ≡ described (segment_run bytes segment).list → outline_in held bytes ≡ Ok (record { total = total; ebml = ebml; segment = segment; others = level.kept.others.items; cluster = level.kept.cluster; last = level.kept.last; held = own; damage = level.damage; end = level.end })
outline_in-found held bytes ebml segment level total own first second level_is whole octets =
    in_segment held bytes ebml (Ok segment) first second
    ∙ ap (λ (refusal : Option Damage). and_then (unless refusal (outlined bytes ebml segment (segment_run bytes segment))) (λ o. Ok (shown bytes o))) level_is.limits
    ∙ ap Ok same
  where
    made : FileOutline
    made = record { total = total; ebml = ebml; segment = segment; others = level.kept.others.items; cluster = level.kept.cluster; last = level.kept.last; held = own; damage = level.damage; end = level.end }

    same : shown bytes (outlined bytes ebml segment (segment_run bytes segment)) ≡ record { total = total; ebml = ebml; segment = segment; others = level.kept.others.items; cluster = level.kept.cluster; last = level.kept.last; held = own; damage = level.damage; end = level.end }
    same =
        ap (λ n. record { total = n; ebml = ebml; segment = segment; others = others_of (segment_run bytes segment).list; cluster = first_of CLUSTER (segment_run bytes segment).list; last = last_element (segment_run bytes segment).list; held = described (segment_run bytes segment).list; damage = (segment_run bytes segment).damage; end = (outlined bytes ebml segment (segment_run bytes segment)).end }) (sym whole)
        ∙ cc (level_is.kept.others, level_is.kept.first, level_is.kept.last, level_is.damage, level_is.end, octets)

-- An Element that isn't a Cluster is among the others.
pub first_in-others : (id : ℕ) (list : List Header) → (id == CLUSTER) ≡ false → first_of id (others_of list) ≡ first_of id list
first_in-others id [] other = refl
first_in-others id (h ∷ hs) other = by_tests (first_in-others id hs other) (h.id == CLUSTER) (h.id == id) refl refl
  where
    by_tests : first_of id (others_of hs) ≡ first_of id hs → (cluster here : Bool) → (h.id == CLUSTER) ≡ cluster → (h.id == id) ≡ here → first_of id (if not cluster then h ∷ others_of hs else others_of hs) ≡ (if here then Some h else first_of id hs)
    by_tests later true true is_cluster is_here = absurd (grind (arith, nat_tests))
    by_tests later true false is_cluster is_here = later
    by_tests later false true is_cluster is_here = rw is_here refl
    by_tests later false false is_cluster is_here = rw is_here later

-- ---- facts of an outline that was read

-- The outline `v` is the outline of the file, and its Elements are the Segment's.
pub record Outlines (held : ℕ) (bytes : List ℕ) (v : FileOutline) : Type 0 where
  pub outlined : Outlined
  pub is : outline_of held bytes ≡ Ok outlined
  pub shows : v ≡ shown bytes outlined
  pub list : outlined.list ≡ (segment_run bytes outlined.segment).list

-- The list of the outline is the Segment's, and is within the limits.
IsMade : ℕ → List ℕ → Outlined → Type 0
IsMade held bytes o = (o.list ≡ (segment_run bytes o.segment).list) × (limits_from held [] o.list ≡ None)

made_list : (held : ℕ) (bytes : List ℕ) (ebml segment : Header) (o : Outlined) (limits : Option Damage) → limits_from held [] (segment_run bytes segment).list ≡ limits → unless limits (outlined bytes ebml segment (segment_run bytes segment)) ≡ Ok o → IsMade held bytes o
unfolding IsMade
made_list held bytes ebml segment o None none made =
    let same : outlined bytes ebml segment (segment_run bytes segment) ≡ o = cc in
    subst (λ (k : Outlined). (k.list ≡ (segment_run bytes k.segment).list) × (limits_from held [] k.list ≡ None)) same (refl, none)
made_list held bytes ebml segment o (Some d) none made = absurd (cc)

segment_list : (held : ℕ) (bytes : List ℕ) (ebml : Header) (o : Outlined) (found : Result Header Damage) → and_then found (λ segment. within_limits held bytes ebml segment) ≡ Ok o → IsMade held bytes o
segment_list held bytes ebml o (Ok segment) made = made_list held bytes ebml segment o (limits_from held [] (segment_run bytes segment).list) refl made
segment_list held bytes ebml o (Err d) made = absurd (cc)

ebml_list : (held : ℕ) (bytes : List ℕ) (o : Outlined) (found : Result Header Damage) → and_then found (behind_ebml held bytes) ≡ Ok o → IsMade held bytes o
unfolding behind_ebml
ebml_list held bytes o (Ok ebml) made = segment_list held bytes ebml o (segment_of bytes ebml) made
ebml_list held bytes o (Err d) made = absurd (cc)

made_outline : (held : ℕ) (bytes : List ℕ) (o : Outlined) → outline_of held bytes ≡ Ok o → IsMade held bytes o
unfolding outline_of behind_ebml
made_outline held bytes o made = ebml_list held bytes o (ebml_header bytes) made

-- The Elements of an outline are its Segment's.
pub outline_of-list : (held : ℕ) (bytes : List ℕ) (o : Outlined) → outline_of held bytes ≡ Ok o → o.list ≡ (segment_run bytes o.segment).list
unfolding IsMade
outline_of-list held bytes o made = (made_outline held bytes o made).0

-- None of them passes a limit.
pub outline_of-limits : (held : ℕ) (bytes : List ℕ) (o : Outlined) → outline_of held bytes ≡ Ok o → limits_from held [] o.list ≡ None
unfolding IsMade
outline_of-limits held bytes o made = (made_outline held bytes o made).1

-- The outline that a reader returns is the file's.
pub Outlines-shown : (held : ℕ) (bytes : List ℕ) (v : FileOutline) → outline_in held bytes ≡ Ok v → Outlines held bytes v
Outlines-shown held bytes v found = by_outline (outline_of held bytes) refl found
  where
    by_outline : (made : Result Outlined Damage) → outline_of held bytes ≡ made → and_then made (λ o. Ok (shown bytes o)) ≡ Ok v → Outlines held bytes v
    by_outline (Ok o) is same = record {
      outlined = o;
      is = is;
      shows = cc;
      list = outline_of-list held bytes o is;
    }
    by_outline (Err d) is same = absurd (cc)
