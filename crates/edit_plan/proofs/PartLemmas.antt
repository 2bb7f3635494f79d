-- The first Element with an ID, rewritten.
use Rattle.std.proofs.Common.{◌≡◌, ℕ, ◌==◌, Bool, true, false, if◌then◌else◌, List, [], ◌∷◌, Option, Some, None, refl, sym, ◌∙◌, ap, arith}
use Rattle.std.specs.Option.{option_map_or}
use Rattle.std.proofs.lemmas.Bool.Decides.{nat_tests}
use Rattle.ebml_numbers.specs.Number.{is_id}
use Rattle.mkv_schema.specs.declared.ids.TheConstants.{CLUSTER, INFO, SEEK_HEAD, TRACKS}
use Rattle.mkv_schema.specs.declared.element.Header.{Header}
use Rattle.mkv_schema.specs.Value.{first_of}
use Rattle.element_reader.specs.Outline.{FileOutline, first_in}
use Rattle.tree_format.specs.Node.{Node}
use Rattle.edit_changes.specs.Plan.{part, part_of}

-- ---- IDs

pub info-valid : is_id INFO ≡ true
unfolding is_id
info-valid = refl

pub tracks-valid : is_id TRACKS ≡ true
unfolding is_id
tracks-valid = refl

pub seek_head-valid : is_id SEEK_HEAD ≡ true
unfolding is_id
seek_head-valid = refl

-- ---- the first with an ID

-- The first Element with an ID has this ID.
pub first-own : (id : ℕ) (list : List Header) (h : Header) → first_of id list ≡ Some h → h.id ≡ id
first-own id [] h found = absurd (cc)
first-own id (k ∷ ks) h found = here (first-own id ks h) (k.id == id) refl found
  where
    here : (first_of id ks ≡ Some h → h.id ≡ id) → (test : Bool) → (k.id == id) ≡ test → (if test then Some k else first_of id ks) ≡ Some h → h.id ≡ id
    here later true is some =
        let same : k ≡ h = cc in
        let named : k.id ≡ id = grind (arith, nat_tests) in
        ap (λ (x : Header). x.id) (sym same) ∙ named
    here later false is some = later some

-- The Element that an outline shows is the first in its list.
pub first-in : (id : ℕ) (o : FileOutline) (h : Option Header) → (id == CLUSTER) ≡ false → first_in id o ≡ h → first_of id o.others ≡ h
first-in id o h other is = of (id == CLUSTER) other is
  where
    of : (cluster : Bool) → cluster ≡ false → (if cluster then o.cluster else first_of id o.others) ≡ h → first_of id o.others ≡ h
    of true other is = absurd (cc)
    of false other is = is

-- Its ID is valid.
pub first-valid : (id : ℕ) (o : FileOutline) (h : Header) → (id == CLUSTER) ≡ false → is_id id ≡ true → first_in id o ≡ Some h → is_id h.id ≡ true
first-valid id o h other valid is = ap is_id (first-own id o.others h (first-in id o (Some h) other is)) ∙ valid

pub part-none : (id : ℕ) (o : FileOutline) (nodes : List Node) → (id == CLUSTER) ≡ false → first_in id o ≡ None → part_of true id o.others nodes ≡ []
part-none id o nodes other is = ap (λ first. option_map_or (λ h. part o.others nodes h ∷ []) first []) (first-in id o None other is)

pub part-some : (id : ℕ) (o : FileOutline) (nodes : List Node) (h : Header) → (id == CLUSTER) ≡ false → first_in id o ≡ Some h → part_of true id o.others nodes ≡ part o.others nodes h ∷ []
part-some id o nodes h other is = ap (λ first. option_map_or (λ h. part o.others nodes h ∷ []) first []) (first-in id o (Some h) other is)

pub ruleset firsts = (first-valid, part-none, part-some)
