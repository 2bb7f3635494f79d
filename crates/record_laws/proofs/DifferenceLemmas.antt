-- Differences between two entries.
use Rattle.std.proofs.Common.{◌≡◌, ℕ, Bool, true, false, not, cond, List, [], ◌∷◌, All, find, Option, Some, None, refl, ap, ◌∙◌, inl, inr, option_map}
use Rattle.std.proofs.lemmas.List.Elements.{All-nil, All-cons, All-head, All-tail}
use Rattle.std.proofs.lemmas.Slice.Eq.{bytes_eq-Decides}
use Rattle.std.proofs.lemmas.Bool.{cases_Bool}
use Rattle.std.specs.Option.{option_or}
use Rattle.mkv_schema.specs.declared.ids.TheConstants.{CONTENT_ENCODINGS}
use Rattle.tree_format.specs.Node.{Node}
use Rattle.track_records.specs.declared.fields.Field.{Field}
use Rattle.track_records.specs.declared.fields.TheConstants.{FIELDS}
use Rattle.track_records.specs.Difference.{octets_at, are_alike, field_difference, are_kept_alike, kept_encodings, encodings_difference}
use Rattle.record_laws.specs.Entries.{DifferencesAreTold}

alike-same : (p q : Option (List ℕ)) → are_alike p q ≡ true → p ≡ q
alike-same None None is = refl
alike-same (Some p) (Some q) is = ap Some ((bytes_eq-Decides p q).0 is)
alike-same _ _ is = absurd (cc)

same-alike : (p q : Option (List ℕ)) → p ≡ q → are_alike p q ≡ true
same-alike None None is = refl
same-alike (Some p) (Some q) is = let e : p ≡ q = cc in (bytes_eq-Decides p q).1 e
same-alike _ _ is = absurd (cc)

module _ (a b : Node) where
  none-found : (fs : List Field) → option_map (λ (f : Field). f.id) (find (λ f. not (are_alike (octets_at f a) (octets_at f b))) fs) ≡ None → All (λ f. octets_at f a ≡ octets_at f b) fs
  none-found [] is = All-nil (λ f. octets_at f a ≡ octets_at f b)
  none-found (f ∷ fs) is = elim (cases_Bool (are_alike (octets_at f a) (octets_at f b))) [
    | inl alike ↦ All-cons (λ f. octets_at f a ≡ octets_at f b) f fs (alike-same (octets_at f a) (octets_at f b) alike) (none-found fs (rw alike at is))
    | inr other ↦ absurd (let some = rw other at is in cc)
  ]

  all-alike : (fs : List Field) → All (λ f. octets_at f a ≡ octets_at f b) fs → option_map (λ (f : Field). f.id) (find (λ f. not (are_alike (octets_at f a) (octets_at f b))) fs) ≡ None
  all-alike [] all = refl
  all-alike (f ∷ fs) all =
      ap (λ t. option_map (λ (f : Field). f.id) (cond (not t) (Some f) (find (λ f. not (are_alike (octets_at f a) (octets_at f b))) fs))) (same-alike (octets_at f a) (octets_at f b) (All-head (λ f. octets_at f a ≡ octets_at f b) f fs all))
      ∙ all-alike fs (All-tail (λ f. octets_at f a ≡ octets_at f b) f fs all)

-- A first choice that is absent leaves the second one.
first-absent : (p q : Option ℕ) → option_or p q ≡ None → (p ≡ None) × (q ≡ None)
first-absent None q is = (refl, is)
first-absent (Some p) q is = absurd (cc)

kept-alike : (t : Bool) → cond t None (Some CONTENT_ENCODINGS) ≡ None → t ≡ true
kept-alike true is = refl
kept-alike false is = absurd (cc)

pub differences-told : DifferencesAreTold
differences-told a b = (
  λ is.
      let both = first-absent (field_difference a.entry b.entry) (encodings_difference a b) is in
      (none-found a.entry b.entry FIELDS both.0, kept-alike (are_kept_alike (kept_encodings a) (kept_encodings b)) both.1),
  λ are. ap (λ o. option_or o (encodings_difference a b)) (all-alike a.entry b.entry FIELDS are.0) ∙ ap (λ t. cond t None (Some CONTENT_ENCODINGS)) are.1,
)
