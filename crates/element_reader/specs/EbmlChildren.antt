-- The children of an EBML header, and the damage for which they are refused: RFC 8794, section 11.2 (EBML Header Elements).
use Rattle.std.specs.Prelude.{◌≡◌, true, ℕ, ◌+◌, ◌≤◌, List, [], ◌∷◌, length, Option, None}
use Rattle.mkv_schema.specs.declared.ids.TheConstants.{DOC_TYPE, DOC_TYPE_READ_VERSION, EBML, EBML_MAX_ID_LENGTH, EBML_MAX_SIZE_LENGTH, EBML_READ_VERSION}
use Rattle.mkv_io.specs.declared.damage.Damage.{Damage}
use Rattle.mkv_io.specs.declared.damage.Kind.TheVariants.{ReadVersion, MaxLengths}
use Rattle.mkv_schema.specs.declared.element.Header.{Header}
use Rattle.mkv_schema.specs.Element.{in_tree}
use Rattle.mkv_schema.specs.Elements.{Run, children_in}
use Rattle.mkv_schema.specs.Value.{is_known_value, text_in}
use Rattle.mkv_schema.specs.Outline.{above, bad_value, first_damage, header_causes, header_children, wrong_doc_type}
use Rattle.elements.specs.Body.{IsBody}

-- the children of the EBML header in the content `bytes` of a file, from the offset `p` up to `e`; for `in_body`
abbrev pub children : List ℕ → ℕ → ℕ → Run
children bytes p e = children_in (in_tree EBML) bytes p e

-- the damage of the first child in `run`, the children of an EBML header, that isn't a value of its kind, or the damage that ends them, or None.
-- `bytes` is the content of the file. Used by `IfSound`.
abbrev pub child_refusal : List ℕ → Run → Option Damage
child_refusal bytes run = first_damage (bad_value bytes EBML run.list ∷ run.damage ∷ [])

-- A value with the ID `id` in an EBML header has at most 8 bytes, if it is valid. The readers of its numbers require it. Used by `uint_in` and
-- `above`.
abbrev pub IsShortValue : ℕ → Type 0
IsShortValue id = (body : List ℕ) → is_known_value EBML id body ≡ true → length body ≤ 8

-- the causes that may refuse the values of the children `list` of an EBML header, in the order of the checks; None for a check that passes. `bytes`
-- is the content of the file. Used by `value_refusal`.
abbrev pub value_causes : List ℕ → List Header → List (Option Damage)
value_causes bytes list =
    wrong_doc_type bytes list ∷
    above bytes EBML_READ_VERSION 1 ReadVersion list ∷
    above bytes DOC_TYPE_READ_VERSION 4 ReadVersion list ∷
    above bytes EBML_MAX_ID_LENGTH 4 MaxLengths list ∷
    above bytes EBML_MAX_SIZE_LENGTH 8 MaxLengths list ∷
    []

-- the children in `body`, the data of an EBML header at the offset `base` of the content `bytes` of a file; all contracts on an EBML header are about
-- them
abbrev pub in_body : List ℕ → ℕ → List ℕ → Run
in_body bytes base body = children bytes base (base + length body)

-- `P` holds for each content of `total` bytes that has `body`, the data of an EBML header, at the offset `base`, if the children in it aren't
-- refused.
abbrev pub IfSound : ℕ → ℕ → List ℕ → (List ℕ → Type 0) → Type 0
IfSound base total body P = (bytes : List ℕ) → IsBody bytes base total body → child_refusal bytes (in_body bytes base body) ≡ None → P bytes

-- the damage for which the values of the children `run` of an EBML header are refused, the DocType first, or None; `bytes` is the content of the file
abbrev pub value_refusal : List ℕ → Run → Option Damage
value_refusal bytes run = first_damage (value_causes bytes run.list)

-- the DocType among the children `run` of an EBML header, or its default, or None; `bytes` is the content of the file. Used by the contract of
-- `has_doc_type`.
abbrev pub doc_type_in : List ℕ → Run → Option (List ℕ)
doc_type_in bytes run = text_in bytes DOC_TYPE run.list

-- the damage for which the EBML header `h` of a file with the content `bytes` is refused, or None; the contract of the function of this name
abbrev pub header_refusal : List ℕ → Header → Option Damage
header_refusal bytes h = first_damage (header_causes bytes h (header_children bytes h))
