-- Laws on the contents that a crash may leave of a file, and on written bytes.
use Rattle.std.proofs.Common.{◌≡◌, ◌⊎◌, ℕ, ◌+◌, ◌<◌, ◌≤◌, max, List, length, get_or, arith, length-append, length-take, length-drop}
use Rattle.std.proofs.lemmas.List.{places, ext_get_or}
use Rattle.mkv_io.specs.Contents.{overwritten}
use Rattle.mkv_disk.specs.Image.{IsImage, clean}

pub length-overwritten : (old : List ℕ) (at : ℕ) (bytes : List ℕ) → at ≤ length old → length (overwritten old at bytes) ≡ max (length old) (at + length bytes)
length-overwritten old at bytes le = grind (arith, length-append, length-take, length-drop)

-- Outside the written range the bytes stay.
pub overwritten_outside : (old : List ℕ) (at : ℕ) (bytes : List ℕ) (k : ℕ) → at ≤ length old → (k < at) ⊎ (at + length bytes ≤ k) → get_or (overwritten old at bytes) k 0 ≡ get_or old k 0
overwritten_outside old at bytes k le out = grind (arith, places)

-- A crash leaves exactly the content of a file without pending writes.
pub clean_image : (bytes c : List ℕ) → IsImage (clean bytes) c → c ≡ bytes
clean_image bytes c image =
    let low = image.no_shorter in let high = image.no_longer in
    ext_get_or 0 c bytes (omega arith) (λ k inside. image.elsewhere k (omega arith) (λ (none : ⊥). none))
