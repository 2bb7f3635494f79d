-- Readings of a file, which stay true as long as it is unchanged.
use Rattle.std.specs.Prelude.{◌≡◌, true, ℕ}
use Rattle.mkv_io.specs.LiveFiles.{LiveFiles, IsSameFile}
use Rattle.mkv_schema.specs.declared.element.Header.{Header}
use Rattle.element_reader.specs.Collected.{IsInFile}
use Rattle.element_reader.specs.LevelOne.{Listing, CanRead}

-- Law: take states `old` and `new` of the live files between which a file is unchanged. A walk over its Elements at level 1 can go on, and an Element
-- of its outline is still in it.
pub record ReadingsStay : Type 0 where
  pub place : (old new : LiveFiles) (p : Listing) → IsSameFile old new p.file.n → CanRead old p → CanRead new p
  pub element : (old new : LiveFiles) (file : ℕ) (h : Header) → IsSameFile old new file → old.live file ≡ true
      → IsInFile (old.size file) h → IsInFile (new.size file) h
