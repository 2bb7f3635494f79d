-- Targets of Tags.
use Rattle.std.proofs.Common.{◌≡◌, ◌≤◌, ℕ, ◌==◌, Bool, true, false, not, ◌&&◌, ◌||◌, length, refl, sym, subst, arith, eqb-true}
use Rattle.std.proofs.lemmas.Bool.Decides.{nat_tests}
use Rattle.ebml_numbers.specs.Number.{is_id}
use Rattle.mkv_schema.specs.declared.ids.TheConstants.{TARGETS, TAG_TRACK_UID, TAG_EDITION_UID, TAG_CHAPTER_UID, TAG_ATTACHMENT_UID}
use Rattle.mkv_schema.specs.declared.kind.ElementKind.TheVariants.{Uint}
use Rattle.mkv_schema.specs.Table.{table}
use Rattle.mkv_schema.specs.Schema.{entry_of}
use Rattle.mkv_schema.specs.Value.{is_value}
use Rattle.tree_format.specs.Node.{Node, id_of, body_of, depth}
use Rattle.tree_format.specs.Standing.{StandsIn}
use Rattle.tree_format.proofs.ChildLemmas.{stands-value}
use Rattle.tree_format.specs.Children.{uint_leaf}
use Rattle.tree_format.specs.Values.{integer_of}
use Rattle.record_changes.specs.Tags.{is_target_id, is_target}
use Rattle.ebml_tree.specs.Building.{IsInPlace}
use Rattle.ebml_tree.specs.Leaves.{IsUintIn}

-- The table has targets as integers.
track : IsUintIn TARGETS TAG_TRACK_UID
unfolding entry_of table is_id
track = record { valid = refl; known = record { stands = refl; kind = refl } }

edition : IsUintIn TARGETS TAG_EDITION_UID
unfolding entry_of table is_id
edition = record { valid = refl; known = record { stands = refl; kind = refl } }

chapter : IsUintIn TARGETS TAG_CHAPTER_UID
unfolding entry_of table is_id
chapter = record { valid = refl; known = record { stands = refl; kind = refl } }

attachment : IsUintIn TARGETS TAG_ATTACHMENT_UID
unfolding entry_of table is_id
attachment = record { valid = refl; known = record { stands = refl; kind = refl } }

pub target-id : (id : ℕ) → is_target_id id ≡ true → IsUintIn TARGETS id
target-id id is = of (id == TAG_TRACK_UID) (id == TAG_EDITION_UID) (id == TAG_CHAPTER_UID) (id == TAG_ATTACHMENT_UID) refl refl refl refl is
  where
    at : (own : ℕ) → (id == own) ≡ true → IsUintIn TARGETS own → IsUintIn TARGETS id
    at own same has = subst (IsUintIn TARGETS) (sym (eqb-true id own same)) has

    of : (a b c d : Bool) → (id == TAG_TRACK_UID) ≡ a → (id == TAG_EDITION_UID) ≡ b → (id == TAG_CHAPTER_UID) ≡ c → (id == TAG_ATTACHMENT_UID) ≡ d → ((a || b) || c) || d ≡ true → IsUintIn TARGETS id
    of true b c d a_is b_is c_is d_is one = at TAG_TRACK_UID a_is track
    of false true c d a_is b_is c_is d_is one = at TAG_EDITION_UID b_is edition
    of false false true d a_is b_is c_is d_is one = at TAG_CHAPTER_UID c_is chapter
    of false false false true a_is b_is c_is d_is one = at TAG_ATTACHMENT_UID d_is attachment
    of false false false false a_is b_is c_is d_is one = absurd (cc)

-- A target is an integer of at most eight bytes.
pub target-short : (n : Node) → StandsIn TARGETS n → is_target_id (id_of n) ≡ true → length (body_of n) ≤ 8
target-short n stands is =
    let has = target-id (id_of n) is in
    let value : is_value Uint (body_of n) ≡ true = stands-value TARGETS Uint n stands has.known.stands has.known.kind in
    grind (arith, nat_tests)

pub target-is : (n : Node) → is_target n ≡ true → is_target_id (id_of n) ≡ true
target-is n is = of (is_target_id (id_of n)) is
  where
    of : (b : Bool) → b && not (integer_of n == 0) ≡ true → b ≡ true
    of true is = refl
    of false is = absurd (cc)

-- An integer has depth 0.
pub in-place : (child n : Node) (id number : ℕ) → n ≡ uint_leaf id number → StandsIn TARGETS n → IsInPlace TARGETS child n
in-place child n id number is stands = record { stands = stands; shallow = let P : Node → Type 0 = λ m. depth m ≤ depth child in subst P (sym is) (omega arith) }
