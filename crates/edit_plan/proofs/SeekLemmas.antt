-- The SeekHead that is read.
use Rattle.std.proofs.Common.{◌≡◌, ℕ, nat_lt, Bool, true, false, if◌then◌else◌, List, Option, Some, None, Result, refl, sym, ap, ◌∙◌}
use Rattle.std.specs.Option.{option_and_then, option_map_or}
use Rattle.mkv_schema.specs.Schema.{entry_of, is_master}
use Rattle.mkv_schema.specs.Table.{table}
use Rattle.mkv_schema.specs.declared.ids.TheConstants.{SEEK_HEAD}
use Rattle.mkv_io.specs.declared.damage.Damage.{Damage}
use Rattle.mkv_io.specs.declared.damage.Kind.TheVariants.{HeaderTooLarge}
use Rattle.mkv_schema.specs.declared.element.Header.{Header}
use Rattle.mkv_schema.specs.declared.limits.TheConstants.{MAX_MASTER_LEN}
use Rattle.mkv_schema.specs.Element.{known}
use Rattle.mkv_schema.specs.Outline.{over}
use Rattle.mkv_schema.specs.Value.{body_of, first_of}
use Rattle.element_reader.specs.Load.{limit_of, too_large}
use Rattle.element_reader.specs.Outline.{FileOutline}
use Rattle.tree_format.specs.declared.limits.TheConstants.{MAX_NODES}
use Rattle.tree_format.specs.Node.{Node}
use Rattle.tree_format.specs.Reading.{tree_of}
use Rattle.edit_changes.specs.SeekHead.{before_clusters, if_read, if_sound, seek_head_of}
use Rattle.edit_plan.proofs.PartLemmas.{first-own}

pub seek_head-master : is_master SEEK_HEAD ≡ true
unfolding entry_of table
seek_head-master = refl

-- `head` is the first SeekHead, before the Clusters.
abbrev pub IsHead : FileOutline → Option Header → Type 0
IsHead o head = head ≡ option_and_then (before_clusters o.cluster) (first_of SEEK_HEAD o.others)

pub head-own : (o : FileOutline) (h : Header) → IsHead o (Some h) → h.id ≡ SEEK_HEAD
head-own o h is = of (first_of SEEK_HEAD o.others) refl is
  where
    before : (k : Header) (front : Bool) → Some h ≡ (if front then Some k else None) → h ≡ k
    before k true is = cc
    before k false is = absurd (cc)

    of : (first : Option Header) → first_of SEEK_HEAD o.others ≡ first → Some h ≡ option_and_then (before_clusters o.cluster) first → h.id ≡ SEEK_HEAD
    of None found is = absurd (cc)
    of (Some k) found is = ap (λ (x : Header). x.id) (before k _ is) ∙ first-own SEEK_HEAD o.others k found

-- There is no SeekHead.
pub head-none : (bytes : List ℕ) (o : FileOutline) → IsHead o None → seek_head_of bytes o ≡ None
head-none bytes o is = ap (option_and_then (if_sound bytes)) (sym is)

head-some : (bytes : List ℕ) (o : FileOutline) (h : Header) → IsHead o (Some h) → seek_head_of bytes o ≡ if_sound bytes h
head-some bytes o h is = ap (option_and_then (if_sound bytes)) (sym is)

large-is : (h : Header) → h.id ≡ SEEK_HEAD → too_large h ≡ over MAX_MASTER_LEN h
large-is h own = ap (λ id. option_map_or (λ limit. over limit h) (limit_of id) None) own

-- The SeekHead is too long to be read.
pub head-large : (bytes : List ℕ) (o : FileOutline) (h : Header) (d : Damage) → IsHead o (Some h) → too_large h ≡ Some d → seek_head_of bytes o ≡ None
head-large bytes o h d is large = head-some bytes o h is ∙ of (nat_lt MAX_MASTER_LEN (known h.size)) refl
  where
    of : (b : Bool) → nat_lt MAX_MASTER_LEN (known h.size) ≡ b → (if b then None else if_read h (tree_of h.id h.offset (body_of bytes h) h.body MAX_NODES)) ≡ None
    of true test = refl
    of false test =
        let none : over MAX_MASTER_LEN h ≡ None = rw test refl in
        let both : Some d ≡ None = sym large ∙ large-is h (head-own o h is) ∙ none in
        absurd (cc)

-- The SeekHead is read.
pub head-read : (bytes : List ℕ) (o : FileOutline) (h : Header) (body : List ℕ) (tree : Result Node Damage) → IsHead o (Some h) → ((d : Damage) → too_large h ≡ Some d → ⊥)
    → body ≡ body_of bytes h → tree ≡ tree_of SEEK_HEAD h.offset body h.body MAX_NODES → seek_head_of bytes o ≡ if_read h tree
head-read bytes o h body tree is small same read = head-some bytes o h is ∙ of (nat_lt MAX_MASTER_LEN (known h.size)) refl
  where
    of : (b : Bool) → nat_lt MAX_MASTER_LEN (known h.size) ≡ b → (if b then None else if_read h (tree_of h.id h.offset (body_of bytes h) h.body MAX_NODES)) ≡ if_read h tree
    of true test =
        let some : over MAX_MASTER_LEN h ≡ Some (record { kind = HeaderTooLarge; id = h.id; offset = h.offset }) = rw test refl in
        absurd (small _ (large-is h (head-own o h is) ∙ some))
    of false test =
        ap (λ id. if_read h (tree_of id h.offset (body_of bytes h) h.body MAX_NODES)) (head-own o h is)
        ∙ ap (λ octets. if_read h (tree_of SEEK_HEAD h.offset octets h.body MAX_NODES)) (sym same)
        ∙ ap (if_read h) (sym read)
