-- Rules that each row of the table fulfils. A rule is a test that is computed for the whole table.
use Rattle.std.proofs.Common.{◌≡◌, ◌≢◌, ◌==◌, ◌||◌, ◌↔◌, ℕ, Bool, true, false, not, nat_eq, Option, Some, None, IsSome, IfSome, IsTrue, refl, ap, eqb-true, sym, ◌∙◌, ◌&&◌, ◌<◌, ◌^◌, nat_lt, All, slice_index_or}
use borrow.Author.Tests.{ltb-true}
use Rattle.std.proofs.lemmas.List.Sums.{AllPass-from_list_all}
use Rattle.std.specs.Option.{option_map, option_map_or, option_and_then}
use Rattle.std.specs.List.{list_all, IsDistinct}
use Rattle.std.specs.Cmp.{nat_eq_equiv}
use Rattle.std.proofs.lemmas.Map.Made.{IsDistinct-from_count}
use Rattle.ebml_numbers.specs.Number.{is_id, is_written_id}
use Rattle.mkv_schema.specs.declared.ids.TheConstants.{SEGMENT, CHAPTER_DISPLAY}
use Rattle.mkv_schema.specs.declared.kind.ElementKind.{ElementKind}
use Rattle.mkv_schema.specs.declared.kind.ElementKind.TheVariants.{Master, Uint, Ascii}
use Rattle.mkv_schema.specs.declared.parents.Parents.{Parents}
use Rattle.mkv_schema.specs.declared.parents.Parents.TheVariants.{Root, AnyMaster, ChildOf, ChildOfOrItself}
use Rattle.mkv_schema.specs.Table.{Entry, Default, number_value, text_value, table}
use Rattle.mkv_schema.specs.Schema.{table_ids, entry_of, kind_of, is_master_kind, is_master, is_root, is_level0, is_child_of, is_level1, allows, may_stand, number_in, text_in, uint_default, text_default}
use Rattle.mkv_schema.proofs.FindLemmas.{find-passes, find-all_pass}

left_true : (a b : Bool) → (a && b) ≡ true → a ≡ true
left_true true b both = refl
left_true false b both = (cc)

right_true : (a b : Bool) → (a && b) ≡ true → b ≡ true
right_true true b both = both
right_true false b both = (cc)

implied : (a b : Bool) → (not a || b) ≡ true → a ≡ true → b ≡ true
implied true b either holds = either
implied false b either holds = (cc)

-- The row of an ID has this ID.
pub entry_of-id : (id : ℕ) (e : Entry) → entry_of id ≡ Some e → e.id ≡ id
unfolding entry_of
entry_of-id id e found = eqb-true e.id id (find-passes (λ e. e.id == id) table e found)

-- A test that the whole table passes holds of the row of an ID.
pub entry_of-passes : (test : Entry → Bool) → list_all test table ≡ true →
    (id : ℕ) (e : Entry) → entry_of id ≡ Some e → test e ≡ true
unfolding entry_of
entry_of-passes test all id e found = find-all_pass test (λ e. e.id == id) table e all found

-- No two rows share an ID.
pub table_ids-distinct : IsDistinct nat_eq table_ids
unfolding table
table_ids-distinct = IsDistinct-from_count nat_eq_equiv table_ids refl

-- Every ID is a number of 32 bits.
pub table_ids-below : All (λ n. n < 2 ^ 32) table_ids
unfolding table
table_ids-below = λ k d within.
    ltb-true (slice_index_or table_ids k d) (2 ^ 32) (AllPass-from_list_all (λ n. nat_lt n (2 ^ 32)) table_ids refl k d within)

-- ---- Every ID except ChapterDisplay's is valid

abbrev pub has_valid_id : Entry → Bool
has_valid_id e = e.id == CHAPTER_DISPLAY || is_id e.id

pub table-valid : list_all has_valid_id table ≡ true
unfolding table is_id
table-valid = refl

abbrev pub has_written_id : Entry → Bool
has_written_id e = is_written_id e.id

pub table-written : list_all has_written_id table ≡ true
unfolding table is_id
table-written = refl

-- ---- A default fits its kind

abbrev pub fits_kind : ElementKind → Option Default → Bool
fits_kind k None = true
fits_kind Uint (Some (number_value n)) = true
fits_kind Ascii (Some (text_value t)) = true
fits_kind _ _ = false

abbrev pub has_fit_default : Entry → Bool
has_fit_default e = fits_kind e.kind e.default

pub table-defaults : list_all has_fit_default table ≡ true
unfolding table
table-defaults = refl

-- ---- Parents are masters

abbrev pub has_master_parents : ℕ → Parents → Bool
has_master_parents id Root = true
has_master_parents id AnyMaster = true
has_master_parents id (ChildOf own) = is_master own
has_master_parents id (ChildOfOrItself own) = is_master own && is_master id

abbrev pub stands_in_masters : Entry → Bool
stands_in_masters e = has_master_parents e.id e.parents

pub table-parents : list_all stands_in_masters table ≡ true
unfolding table entry_of
table-parents = refl

-- ---- Levels 0 and 1 have masters only

abbrev pub is_master_at_level0 : Entry → Bool
is_master_at_level0 e = not (is_root e.parents) || is_master_kind e.kind

pub table-level0 : list_all is_master_at_level0 table ≡ true
unfolding table
table-level0 = refl

abbrev pub is_master_at_level1 : Entry → Bool
is_master_at_level1 e = not (is_child_of SEGMENT e.parents) || is_master_kind e.kind

pub table-level1 : list_all is_master_at_level1 table ≡ true
unfolding table
table-level1 = refl

-- ---- The rules, for the row of an ID

-- A property holds for the row of an ID if it holds for no row, and for each row that the ID may have.
pub of_entry : (P : Option Entry → Type 0) (id : ℕ) →
    P None → ((e : Entry) → entry_of id ≡ Some e → P (Some e)) → P (entry_of id)
of_entry P id none some = at (entry_of id) refl
  where
    at : (o : Option Entry) → entry_of id ≡ o → P o
    at None found = none
    at (Some e) found = some e found

-- results of the look-ups for a given row
abbrev kind_in : Option Entry → Option ElementKind
kind_in o = option_map (λ e. e.kind) o

abbrev is_master_in : Option Entry → Bool
is_master_in o = option_map_or (λ e. is_master_kind e.kind) o false

abbrev is_level0_in : Option Entry → Bool
is_level0_in o = option_map_or (λ e. is_root e.parents) o false

abbrev is_level1_in : Option Entry → Bool
is_level1_in o = option_map_or (λ e. is_child_of SEGMENT e.parents) o false

abbrev may_stand_in : ℕ → ℕ → Option Entry → Bool
may_stand_in id parent o = option_map_or (λ e. allows e.parents id parent) o false

-- A value with the same ID as the row of `id` has the ID `id`.
pub IfSome-same_id : {A : Type 0} (id_in : A → ℕ) (o : Option A) (id : ℕ) →
    option_map id_in o ≡ option_map (λ (e : Entry). e.id) (entry_of id) → IfSome o (λ x. id_in x ≡ id)
IfSome-same_id id_in None id same = tt
IfSome-same_id id_in (Some x) id same =
    of_entry (λ (o : Option Entry). Some (id_in x) ≡ option_map (λ (e : Entry). e.id) o → id_in x ≡ id) id
    (λ same. (cc))
    (λ e found same. let here : e.id ≡ id = entry_of-id id e found in (cc))
    same

-- Every ID of the table except ChapterDisplay's is a valid Element ID.
pub is_id-kind_of : (id : ℕ) → IsSome (kind_of id) → id ≢ CHAPTER_DISPLAY → IsTrue (is_id id)
is_id-kind_of id known other = of_entry (λ (o : Option Entry). IsSome (kind_in o) → IsTrue (is_id id)) id (λ known. (cc)) at known
  where
    one_of : (a b : Bool) → (a || b) ≡ true → a ≢ true → b ≡ true
    one_of true b either other = absurd (other refl)
    one_of false b either other = either

    at : (e : Entry) → entry_of id ≡ Some e → true ≡ true → IsTrue (is_id id)
    at e found known =
        let same : e.id ≡ id = entry_of-id id e found in
        let valid : has_valid_id e ≡ true = entry_of-passes has_valid_id table-valid id e found in
        let not_display : e.id == CHAPTER_DISPLAY ≢ true = λ is. other (sym same ∙ eqb-true e.id CHAPTER_DISPLAY is) in
        rw (← same) (one_of (e.id == CHAPTER_DISPLAY) (is_id e.id) valid not_display)

-- Every ID of the table may be written.
pub is_written_id-kind_of : (id : ℕ) → IsSome (kind_of id) → IsTrue (is_written_id id)
is_written_id-kind_of id known = of_entry (λ (o : Option Entry). IsSome (kind_in o) → IsTrue (is_written_id id)) id (λ known. (cc)) at known
  where
    at : (e : Entry) → entry_of id ≡ Some e → true ≡ true → IsTrue (is_written_id id)
    at e found known =
        let same : e.id ≡ id = entry_of-id id e found in
        let written : has_written_id e ≡ true = entry_of-passes has_written_id table-written id e found in
        rw (← same) written

-- An ID is a master if and only if its kind is Master.
pub is_master-kind_of : (id : ℕ) → IsTrue (is_master id) ↔ (kind_of id ≡ Some Master)
is_master-kind_of id =
    of_entry (λ (o : Option Entry). IsTrue (is_master_in o) ↔ (kind_in o ≡ Some Master)) id
    (λ is. (cc), λ is. (cc))
    (λ e found. of_kind e.kind)
  where
    of_kind : (k : ElementKind) → IsTrue (is_master_kind k) ↔ (Some k ≡ Some Master)
    of_kind Master = (λ is. refl, λ is. refl)
    of_kind _ = (λ is. (cc), λ is. (cc))

-- Only an Unsigned Integer has a number as its default.
pub kind_of-uint_default : (id : ℕ) → IsSome (uint_default id) → kind_of id ≡ Some Uint
kind_of-uint_default id given =
    of_entry (λ (o : Option Entry). IsSome (option_and_then (λ (e : Entry). option_and_then number_in e.default) o) → kind_in o ≡ Some Uint) id
    (λ given. (cc))
    (λ e found given. ap Some (of_kind e.kind e.default (entry_of-passes has_fit_default table-defaults id e found) given))
    given
  where
    of_kind : (k : ElementKind) (d : Option Default) → fits_kind k d ≡ true → IsSome (option_and_then number_in d) → k ≡ Uint
    of_kind k None fits given = (cc)
    of_kind Uint (Some (number_value n)) fits given = refl
    of_kind k (Some (text_value t)) fits given = (cc)
    of_kind k (Some (number_value n)) fits given = (cc)

-- Only a String has a text as its default.
pub kind_of-text_default : (id : ℕ) → IsSome (text_default id) → kind_of id ≡ Some Ascii
kind_of-text_default id given =
    of_entry (λ (o : Option Entry). IsSome (option_and_then (λ (e : Entry). option_and_then text_in e.default) o) → kind_in o ≡ Some Ascii) id
    (λ given. (cc))
    (λ e found given. ap Some (of_kind e.kind e.default (entry_of-passes has_fit_default table-defaults id e found) given))
    given
  where
    of_kind : (k : ElementKind) (d : Option Default) → fits_kind k d ≡ true → IsSome (option_and_then text_in d) → k ≡ Ascii
    of_kind k None fits given = (cc)
    of_kind Ascii (Some (text_value t)) fits given = refl
    of_kind k (Some (number_value n)) fits given = (cc)
    of_kind k (Some (text_value t)) fits given = (cc)

-- Every parent is a master of the table.
pub is_master-may_stand : (id parent : ℕ) → IsTrue (may_stand id parent) → IsTrue (is_master parent)
is_master-may_stand id parent stands =
    of_entry (λ (o : Option Entry). IsTrue (may_stand_in id parent o) → IsTrue (is_master parent)) id (λ stands. (cc)) at stands
  where
    nested : (own : ℕ) (a b : Bool) → parent == own ≡ a → parent == id ≡ b →
        (is_master own && is_master id) ≡ true → (a || b) ≡ true → is_master parent ≡ true
    nested own true b is_own is_itself masters stands =
        rw (eqb-true parent own is_own) (left_true (is_master own) (is_master id) masters)
    nested own false true is_own is_itself masters stands =
        rw (eqb-true parent id is_itself) (right_true (is_master own) (is_master id) masters)
    nested own false false is_own is_itself masters stands = (cc)

    of_place : (p : Parents) → has_master_parents id p ≡ true → allows p id parent ≡ true → is_master parent ≡ true
    of_place Root masters stands = (cc)
    of_place AnyMaster masters stands = stands
    of_place (ChildOf own) masters stands = rw (eqb-true parent own stands) masters
    of_place (ChildOfOrItself own) masters stands =
        nested own (parent == own) (parent == id) refl refl masters stands

    at : (e : Entry) → entry_of id ≡ Some e → allows e.parents id parent ≡ true → IsTrue (is_master parent)
    at e found stands =
        let masters : has_master_parents e.id e.parents ≡ true = entry_of-passes stands_in_masters table-parents id e found in
        of_place e.parents (rw (entry_of-id id e found) at masters) stands

-- An Element of level 0 is a master.
pub is_master-is_level0 : (id : ℕ) → IsTrue (is_level0 id) → IsTrue (is_master id)
is_master-is_level0 id level =
    of_entry (λ (o : Option Entry). IsTrue (is_level0_in o) → IsTrue (is_master_in o)) id
    (λ level. (cc))
    (λ e found level. implied (is_root e.parents) (is_master_kind e.kind) (entry_of-passes is_master_at_level0 table-level0 id e found) level)
    level

-- An Element of level 1 is a master.
pub is_master-is_level1 : (id : ℕ) → IsTrue (is_level1 id) → IsTrue (is_master id)
is_master-is_level1 id level =
    of_entry (λ (o : Option Entry). IsTrue (is_level1_in o) → IsTrue (is_master_in o)) id
    (λ level. (cc))
    (λ e found level. implied (is_child_of SEGMENT e.parents) (is_master_kind e.kind) (entry_of-passes is_master_at_level1 table-level1 id e found) level)
    level

-- The laws that the prover's search uses.
pub ruleset laws = (
  table_ids-distinct,
  table_ids-below,
  is_id-kind_of,
  is_master-may_stand,
  is_master-is_level0,
  is_master-is_level1,
  kind_of-uint_default,
  kind_of-text_default,
)
