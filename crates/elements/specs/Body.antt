-- The data of a master in memory, as a part of the file's content.
use Rattle.std.specs.Prelude.{◌≡◌, ℕ, ◌+◌, ◌≤◌, List, length, Result}
use Rattle.mkv_io.specs.declared.damage.Damage.{Damage}
use Rattle.mkv_schema.specs.declared.element.Header.{Header}
use Rattle.mkv_schema.specs.Element.{element_at, octets_between, Setting}

-- The bytes `body` are the part of the content `bytes` from the offset `base` on; the content has `total` bytes. For `IfBody`, when children of a
-- master in memory are read.
pub record IsBody (bytes : List ℕ) (base total : ℕ) (body : List ℕ) : Type 0 where
  pub whole : length bytes ≡ total
  pub within : base + length body ≤ total
  pub octets : body ≡ octets_between bytes base (base + length body)

-- `P` holds for each content of `total` bytes that has `body` at the offset `base`. For contracts on children of a master in memory.
abbrev pub IfBody : ℕ → ℕ → List ℕ → (List ℕ → Type 0) → Type 0
IfBody base total body P = (bytes : List ℕ) → IsBody bytes base total body → P bytes

-- the offset in the file after the last byte of `body`, which is at the offset `base`. For `IsChildAt`, when children of a master in memory are read.
abbrev pub end_behind : ℕ → List ℕ → ℕ
end_behind base body = base + length body

-- In each content of `total` bytes with `body` at the offset `base`, `found` is the Element at the offset `at`, or its damage. `s` is the kind of its
-- parent. The contract of `child_at` states it.
abbrev pub IsChildAt : Setting → ℕ → ℕ → List ℕ → ℕ → Result Header Damage → Type 0
IsChildAt s base total body at found = IfBody base total body (λ bytes. found ≡ element_at s bytes at (end_behind base body))
