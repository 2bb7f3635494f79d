-- Laws on refusals, and on IDs.
use Rattle.std.proofs.Common.{◌≡◌, ◌≢◌, ℕ, ◌==◌, ◌||◌, Bool, true, false, List, [], ◌∷◌, length, Option, Some, None, IsSome, IsTrue, Result, Ok, Err, IfOk, refl, arith}
use Rattle.std.proofs.lemmas.Bool.Decides.{nat_tests}
use Rattle.ebml_numbers.specs.Number.{is_id, is_written_id}
use Rattle.mkv_schema.specs.declared.ids.TheConstants.{CHAPTER_DISPLAY}
use Rattle.mkv_schema.specs.declared.kind.ElementKind.{ElementKind}
use Rattle.mkv_schema.specs.declared.kind.ElementKind.TheVariants.{Master}
use Rattle.mkv_schema.specs.Schema.{is_master, kind_of}
use Rattle.mkv_schema.proofs.SchemaLemmas.{is_id-kind_of, is_master-kind_of}
use Rattle.mkv_io.specs.declared.damage.Damage.{Damage as Harm}
use Rattle.tree_format.specs.Node.{Node}
use Rattle.ebml_tree.specs.declared.end.TreeEnd.{TreeEnd}
use Rattle.ebml_tree.specs.declared.end.TreeEnd.TheVariants.{Damage, Memory}
use Rattle.ebml_tree.specs.Outcome.{Refuses, ReadsTree}

-- A refusal is passed on if the damage of a part is the damage of the whole.
pub refuses-pass : {A B : Type 0} (end : TreeEnd) (part : Result A Harm) (whole : Result B Harm) → ((d : Harm) → part ≡ Err d → whole ≡ Err d) → Refuses end part → Refuses end whole
refuses-pass (Damage d) part whole pass refuses = pass d refuses
refuses-pass Memory part whole pass refuses = tt

-- A property of each tree of the definition holds for the result.
pub reads-holds : (P : Node → Type 0) (result : Result Node TreeEnd) (read : Result Node Harm) → ReadsTree result read → ((n : Node) → read ≡ Ok n → P n) → IfOk result P
reads-holds P (Ok n) read reads holds = holds n reads
reads-holds P (Err end) read reads holds = tt

-- A property of each tree of the definition holds for the result, given a property of the result that is known.
pub reads-holds_with : (P Q : Node → Type 0) (result : Result Node TreeEnd) (read : Result Node Harm) → ReadsTree result read → IfOk result Q → ((n : Node) → read ≡ Ok n → Q n → P n) → IfOk result P
reads-holds_with P Q (Ok n) read reads known holds = holds n reads known
reads-holds_with P Q (Err end) read reads known holds = tt

pub none-from_length : (l : List ℕ) → length l ≡ 0 → l ≡ []
none-from_length [] is = refl
none-from_length (x ∷ l) is = absurd (omega arith)

-- A master's ID can be written.
pub is_written_id-is_master : (id : ℕ) → IsTrue (is_master id) → is_written_id id ≡ true
is_written_id-is_master id is = split (id == CHAPTER_DISPLAY) refl
  where
    some : (k : Option ElementKind) → k ≡ Some Master → IsSome k
    some None found = absurd (cc)
    some (Some kind) found = refl

    or-right : (b : Bool) → (b || true) ≡ true
    or-right true = refl
    or-right false = refl

    split : (display : Bool) → (id == CHAPTER_DISPLAY) ≡ display → is_written_id id ≡ true
    split true same = rw same (or-right (is_id id))
    split false same =
        let other : id ≢ CHAPTER_DISPLAY = grind (arith, nat_tests) in
        let kind = (is_master-kind_of id).0 is in
        let valid : is_id id ≡ true = is_id-kind_of id (some (kind_of id) kind) other in
        rw valid refl

pub ruleset masters = (is_written_id-is_master)
