-- The contents of outputs that are written one at a time; each is appended first, and then overwritten in places.
use Rattle.std.specs.Prelude.{◌≡◌, ◌⊎◌, ◌<◌, ◌≤◌, ℕ, ◌+◌, List, [], ◌∷◌, length, map, slice_index}
use Rattle.mkv_io.specs.Contents.{overwritten}
use Rattle.mkv_io.specs.Names.{Names}
use Rattle.mkv_outputs.specs.Outputs.{Output, with_outputs}
use Rattle.mkv_outputs.specs.Starts.{IsStart}

-- a patch: bytes that are written over the same number of bytes of a file, from the offset `at` onwards. `merge` writes the SeekHead, the Segment's
-- size and the Duration of an output so, after its blocks.
pub record Patch : Type 0 where
  pub at : ℕ
  pub octets : List ℕ

-- the draft of an output. It has the name of its file, the bytes that are appended to it, and the patches that then overwrite them, in this order.
-- The contract of `merge` describes each output by one.
pub record Draft : Type 0 where
  pub name : List ℕ
  pub appended : List ℕ
  pub patches : List Patch

-- the given bytes after each of the patches was written over them, in order. `output_of` uses them.
abbrev pub patched : List ℕ → List Patch → List ℕ
patched bytes [] = bytes
patched bytes (p ∷ ps) = patched (overwritten bytes p.at p.octets) ps

-- the output that the draft `d` becomes, with all patches written. `outputs_of` uses it.
abbrev pub output_of : Draft → Output
output_of d = record { name = d.name; content = patched d.appended d.patches }

-- the outputs that the drafts `drafts` become, with all patches written. The outcome of `merge` uses them.
abbrev pub outputs_of : List Draft → List Output
outputs_of drafts = map output_of drafts

-- The offset `k`, in bytes, is in one of the patches. Used by `IsPatched`.
abbrev pub IsPatchedAt : ℕ → List Patch → Type 0
IsPatchedAt k [] = ⊥
IsPatchedAt k (p ∷ ps) = ((p.at ≤ k) × (k < p.at + length p.octets)) ⊎ IsPatchedAt k ps

-- The bytes `octets` have the length of the bytes that the draft `d` appends, and differ from them only at offsets in its patches. Used for an output
-- whose patching failed.
pub record IsPatched (octets : List ℕ) (d : Draft) : Type 0 where
  pub count : length octets ≡ length d.appended
  pub each : (k : ℕ) → (slice_index octets k ≡ slice_index d.appended k) ⊎ IsPatchedAt k d.patches

-- The output `o` is an unfinished draft `d`: it has a prefix of the appended bytes, or all of them with changes in the patches. A `merge` that fails
-- while it writes leaves its last output so.
pub record IsDrafted (o : Output) (d : Draft) : Type 0 where
  pub name : o.name ≡ d.name
  pub content : IsStart o.content d.appended ⊎ IsPatched o.content d

-- The outputs are the first drafts of the second list. Each of them is finished, except the last one, which may be unfinished. Used by
-- `AreWrittenInOrder`.
abbrev pub AreDrafted : List Output → List Draft → Type 0
AreDrafted [] all = Unit {0}
AreDrafted (o ∷ os) [] = ⊥
AreDrafted (o ∷ []) (d ∷ ds) = (o ≡ output_of d) ⊎ IsDrafted o d
AreDrafted (o ∷ (next ∷ os)) (d ∷ ds) = (o ≡ output_of d) × AreDrafted (next ∷ os) ds

-- From `old` to `new` some first drafts of the list `all` were written, all finished except possibly the last one. No other name has changed. The
-- contract of `merge` uses it for a failure.
pub record AreWrittenInOrder (old new : Names) (all : List Draft) : Type 0 where
  pub stand : List Output
  pub drafted : AreDrafted stand all
  pub names : new ≡ with_outputs old stand
