-- Facts of a file stay true as long as the file is the same.
use Rattle.std.proofs.Common.{◌≡◌, true, ℕ, sym, ◌∙◌, arith}
use Rattle.mkv_io.specs.LiveFiles.{LiveFiles, IsSameFile}
use Rattle.mkv_schema.specs.declared.element.Header.{Header}
use Rattle.element_reader.specs.Collected.{IsInFile}
use Rattle.element_reader.specs.LevelOne.{Listing, CanRead}

-- An iterator can go on.
pub CanRead-kept : (old new : LiveFiles) (p : Listing) → IsSameFile old new p.file.n → CanRead old p → CanRead new p
CanRead-kept old new p same reads =
    let size = same.size reads.live in
    record {
      live = same.alive ∙ reads.live;
      inside = omega (arith, reads.inside, size);
      holds = λ bytes told. reads.holds bytes (sym (same.content reads.live) ∙ told);
    }

-- An Element is in the file.
pub IsInFile-kept : (old new : LiveFiles) (file : ℕ) (h : Header) → IsSameFile old new file → old.live file ≡ true → IsInFile (old.size file) h → IsInFile (new.size file) h
IsInFile-kept old new file h same live stands =
    let size = same.size live in
    record { known = stands.known; inside = omega (arith, stands.inside, size) }
