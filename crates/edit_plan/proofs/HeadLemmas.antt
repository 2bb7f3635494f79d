-- The Seeks of the new SeekHead are of valid IDs.
use Rattle.std.proofs.Common.{◌≡◌, ℕ, ◌==◌, Bool, true, false, if◌then◌else◌, List, [], ◌∷◌, Option, Some, None, refl, sym, ◌∙◌, ap, arith}
use Rattle.std.specs.Prelude.{find, filter_map}
use Rattle.std.specs.List.{AllPass, cons_option}
use Rattle.std.specs.Option.{option_map, option_or}
use Rattle.std.proofs.lemmas.Bool.Decides.{nat_tests}
use Rattle.std.proofs.lemmas.List.Elements.{All-nil, All-cons, All-head, All-tail}
use Rattle.ebml_numbers.specs.Number.{is_id}
use Rattle.mkv_schema.specs.declared.ids.TheConstants.{CLUSTER, INFO, TRACKS}
use Rattle.mkv_schema.specs.declared.element.Header.{Header}
use Rattle.mkv_schema.specs.Value.{first_of}
use Rattle.element_reader.specs.Outline.{FileOutline}
use Rattle.output_model.specs.declared.places.Seek.{Seek}
use Rattle.cues_seekhead.specs.Places.{AreIds}
use Rattle.edit_changes.specs.Plan.{Part, edit_ids, goes, seek_for, seek_to, seeks}
use Rattle.edit_plan.specs.Sought.{AreSought}
use Rattle.edit_plan.proofs.PartLemmas.{first-own, info-valid, tracks-valid}

found-own : (id : ℕ) (moved : List Seek) (s : Seek) → find (λ (x : Seek). x.id == id) moved ≡ Some s → s.id ≡ id
found-own id [] s is = absurd (cc)
found-own id (m ∷ ms) s is = of (found-own id ms s) (m.id == id) refl is
  where
    of : (find (λ (x : Seek). x.id == id) ms ≡ Some s → s.id ≡ id) → (test : Bool) → (m.id == id) ≡ test → (if test then Some m else find (λ (x : Seek). x.id == id) ms) ≡ Some s → s.id ≡ id
    of later true test is =
        let same : m ≡ s = cc in
        let own : m.id ≡ id = grind (arith, nat_tests) in
        ap (λ (x : Seek). x.id) (sym same) ∙ own
    of later false test is = later is

-- The Seek for an ID has this ID.
seek-own : (moved : List Seek) (o : FileOutline) (ps : List Part) (id : ℕ) (s : Seek) → seek_for moved o ps id ≡ Some s → s.id ≡ id
seek-own moved o ps id s is = of (find (λ (x : Seek). x.id == id) moved) refl is
  where
    first : (found : Option Header) → first_of id o.others ≡ found → option_map (seek_to o.segment.body) found ≡ Some s → s.id ≡ id
    first None there is = absurd (cc)
    first (Some h) there is = let same : seek_to o.segment.body h ≡ s = cc in ap (λ (x : Seek). x.id) (sym same) ∙ first-own id o.others h there

    standing : (gone : Bool) → (if gone then None else option_map (seek_to o.segment.body) (first_of id o.others)) ≡ Some s → s.id ≡ id
    standing true is = absurd (cc)
    standing false is = first (first_of id o.others) refl is

    of : (found : Option Seek) → find (λ (x : Seek). x.id == id) moved ≡ found
        → option_or found (if goes ps id then None else option_map (seek_to o.segment.body) (first_of id o.others)) ≡ Some s → s.id ≡ id
    of None there is = standing (goes ps id) is
    of (Some m) there is = let same : m ≡ s = cc in ap (λ (x : Seek). x.id) (sym same) ∙ found-own id moved m there

all-valid : (seek : ℕ → Option Seek) (ids : List ℕ) → ((id : ℕ) (s : Seek) → seek id ≡ Some s → s.id ≡ id) → AllPass is_id ids → AreIds (filter_map seek ids)
all-valid seek [] own valid = All-nil (λ (s : Seek). is_id s.id ≡ true)
all-valid seek (id ∷ ids) own valid = of (all-valid seek ids own (All-tail (λ (n : ℕ). is_id n ≡ true) id ids valid)) (seek id) refl
  where
    of : AreIds (filter_map seek ids) → (found : Option Seek) → seek id ≡ found → AreIds (cons_option found (filter_map seek ids))
    of rest None is = rest
    of rest (Some s) is = All-cons (λ (x : Seek). is_id x.id ≡ true) s (filter_map seek ids) (ap is_id (own id s is) ∙ All-head (λ (n : ℕ). is_id n ≡ true) id ids valid) rest

pub seeks-valid : (ids : List ℕ) (o : FileOutline) (ps : List Part) → AreSought ids → AreIds (seeks ids o ps)
seeks-valid ids o ps sought = all-valid _ ids (seek-own _ o ps) sought.valid

-- Info and Tracks are valid IDs of level 1.
pub edits-sought : AreSought edit_ids
edits-sought = record {
  valid = All-cons (λ (n : ℕ). is_id n ≡ true) INFO (TRACKS ∷ []) info-valid (All-cons (λ (n : ℕ). is_id n ≡ true) TRACKS [] tracks-valid (All-nil (λ (n : ℕ). is_id n ≡ true)));
  others = All-cons (λ (n : ℕ). (n == CLUSTER) ≡ false) INFO (TRACKS ∷ []) refl (All-cons (λ (n : ℕ). (n == CLUSTER) ≡ false) TRACKS [] refl (All-nil (λ (n : ℕ). (n == CLUSTER) ≡ false)));
}

pub sought-valid : (ids : List ℕ) → AreSought ids → AllPass is_id ids
sought-valid ids sought = sought.valid

pub ruleset heads = (seeks-valid, sought-valid)
