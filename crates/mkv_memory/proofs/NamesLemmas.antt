-- The content of one name changes in a map of names.
use Rattle.std.proofs.Common.{◌≡◌, ℕ, List, Result, Ok, Err, OnErr, Option, Some, Bool, true, false, cond, if◌then◌else◌, refl, sym, ◌∙◌, ap, String, Global, string_bytes}
use Rattle.std.specs.BTreeMap.{BTreeMap, UpdatesBy, get_by_text}
use Rattle.std.specs.Cmp.Lexicographic.{slice_cmp}
use Rattle.std.specs.Ordering.{nat_cmp}
use Rattle.std.specs.Str.{bytes_eq}
use Rattle.std.specs.String.{string_cmp}
use Rattle.std.proofs.lemmas.Map.Text.{btree_map_updates_text}
use Rattle.std.proofs.lemmas.Slice.Eq.{bytes_eq-Decides}
use Rattle.mkv_io.specs.Names.{changed_at}
use Rattle.mkv_io.proofs.NamesLemmas.{same_world}

-- the content of each name
abbrev pub Contents : Type 0
Contents = BTreeMap (String Global) (List ℕ)

-- A name whose content is replaced by a change of it is changed.
pub changed_at-set : (name was now : List ℕ) (old new : Contents) (change : Option (List ℕ) → Option (List ℕ)) → get_by_text old name ≡ Some was → change (Some was) ≡ Some now → UpdatesBy string_cmp (λ key. slice_cmp nat_cmp name (string_bytes key)) old new (Some now) → get_by_text new ≡ changed_at name change (get_by_text old)
changed_at-set name was now old new change there becomes updates =
    same_world _ _ (λ other. btree_map_updates_text name old new (Some now) updates other ∙ step other (bytes_eq name other) (bytes_eq-Decides name other).0)
  where
    step : (other : List ℕ) (same : Bool) → (same ≡ true → name ≡ other) → cond same (Some now) (get_by_text old other) ≡ (if same then change (get_by_text old other) else get_by_text old other)
    step other true is = sym (ap change (sym (ap (get_by_text old) (is refl)) ∙ there) ∙ becomes)
    step other false is = refl

-- A name that gets the content that it had changes nothing.
pub same-set : (name was now : List ℕ) (old new : Contents) → get_by_text old name ≡ Some was → now ≡ was → UpdatesBy string_cmp (λ key. slice_cmp nat_cmp name (string_bytes key)) old new (Some now) → get_by_text new ≡ get_by_text old
same-set name was now old new there same updates =
    changed_at-set name was now old new (λ content. content) there (ap Some (sym same)) updates ∙ same_world _ _ (λ other. step other (bytes_eq name other))
  where
    step : (other : List ℕ) (same : Bool) → (if same then get_by_text old other else get_by_text old other) ≡ get_by_text old other
    step other true = refl
    step other false = refl

-- A property that always holds is true after a refusal.
pub OnErr-always : {T E : Type 0} {P : Type 0} (result : Result T E) → P → OnErr result P
OnErr-always (Ok value) holds = tt
OnErr-always (Err fault) holds = holds
