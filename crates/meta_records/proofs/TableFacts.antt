-- Facts of the table about Attachments.
use Rattle.std.proofs.Common.{◌≡◌, ℕ, Bool, true, false, ◌&&◌, not, List, [], Option, Some, refl, subst}
use Rattle.std.specs.Option.{option_map_or}
use Rattle.std.specs.List.{list_all}
use Rattle.ebml_numbers.specs.Number.{is_id}
use Rattle.mkv_schema.specs.declared.ids.TheConstants.{ATTACHED_FILE, FILE_DATA, FILE_UID}
use Rattle.mkv_schema.specs.Table.{Entry, table}
use Rattle.mkv_schema.specs.Schema.{allows, entry_of, is_master, is_master_kind}
use Rattle.mkv_schema.proofs.SchemaLemmas.{entry_of-passes, entry_of-id, of_entry}
use Rattle.mkv_schema.specs.Value.{is_known_value}
use Rattle.tree_format.specs.Node.{leaf}
use Rattle.tree_format.specs.Reading.{is_master_in}
use Rattle.tree_format.specs.Standing.{StandsIn}
use Rattle.tree_format.specs.Values.{HasUint}

pub attached-master : is_master ATTACHED_FILE ≡ true
unfolding entry_of table
attached-master = refl

pub file_data-valid : is_id FILE_DATA ≡ true
unfolding is_id
file_data-valid = refl

-- FileData may have any bytes.
pub file_data-value : (body : List ℕ) → is_known_value ATTACHED_FILE FILE_DATA body ≡ true
unfolding entry_of table
file_data-value body = refl

pub file_data-stands : StandsIn ATTACHED_FILE (leaf FILE_DATA 0 [])
unfolding entry_of table is_id
file_data-stands = record { id_stands = refl; no_master = refl; value = refl }

pub uid-known : HasUint ATTACHED_FILE FILE_UID
unfolding entry_of table
uid-known = record { stands = refl; kind = refl }

-- ---- no master is a child of an AttachedFile

abbrev no_master : Entry → Bool
no_master e = not (allows e.parents e.id ATTACHED_FILE && is_master_kind e.kind)

table-no_master : list_all no_master table ≡ true
unfolding table entry_of
table-no_master = refl

not-true : (b : Bool) → not b ≡ true → b ≡ false
not-true true is = cc
not-true false is = refl

pub no_master-in : (id : ℕ) → is_master_in ATTACHED_FILE id ≡ false
no_master-in id =
    of_entry (λ (o : Option Entry). (option_map_or (λ (e : Entry). allows e.parents id ATTACHED_FILE) o false && option_map_or (λ (e : Entry). is_master_kind e.kind) o false) ≡ false) id refl at
  where
    at : (e : Entry) → entry_of id ≡ Some e → (allows e.parents id ATTACHED_FILE && is_master_kind e.kind) ≡ false
    at e found =
        let P : ℕ → Type 0 = λ i. not (allows e.parents i ATTACHED_FILE && is_master_kind e.kind) ≡ true in
        not-true (allows e.parents id ATTACHED_FILE && is_master_kind e.kind) (subst P (entry_of-id id e found) (entry_of-passes no_master table-no_master id e found))
