-- The IDs that a SeekHead gets Seeks for: RFC 9559, section 5.1.1 (SeekHead Element).
use Rattle.std.specs.Prelude.{◌≡◌, ◌==◌, ℕ, false, List}
use Rattle.std.specs.List.{All, AllPass}
use Rattle.ebml_numbers.specs.Number.{is_id}
use Rattle.mkv_schema.specs.declared.ids.TheConstants.{CLUSTER}

-- Seeks can be made for `ids`: they are valid IDs of Elements other than Clusters. Code that plans a new SeekHead requires it.
pub record AreSought (ids : List ℕ) : Type 0 where
  pub valid : AllPass is_id ids
  pub others : All (λ id. (id == CLUSTER) ≡ false) ids
