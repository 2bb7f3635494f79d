-- Lengths of written Elements.
use Rattle.std.proofs.Common.{◌≡◌, ℕ, ◌+◌, List, length, true, false, refl, ap, ap₂, ◌∙◌, length-append}
use Rattle.ebml_numbers.specs.Number.{id_octets, size_octets, least_size_width, uint_width}
use Rattle.ebml_numbers.proofs.NumberLemmas.{length-uint_octets, length-size_octets}
use Rattle.tree_format.specs.Node.{Node, leaf, master, id_of}
use Rattle.tree_format.specs.NormalForm.{is_filler, header_octets, element_octets, kept_octets, octets, content}

pub length-header_octets : (id size : ℕ) → length (header_octets id size) ≡ uint_width id + least_size_width size
length-header_octets id size =
    length-append (id_octets id) (size_octets size (least_size_width size))
    ∙ ap₂ (λ m n. m + n) (length-uint_octets id) (length-size_octets size (least_size_width size))

-- An Element that is written has its header and its body.
pub length-kept_octets : (id : ℕ) (body : List ℕ) (size : ℕ) → length body ≡ size → is_filler id ≡ false → length (kept_octets id body) ≡ uint_width id + least_size_width size + size
length-kept_octets id body size is keeps =
    let whole : length (element_octets id body) ≡ uint_width id + least_size_width size + size =
    length-append (header_octets id (length body)) body ∙ ap₂ (λ m n. m + n) (ap (λ n. length (header_octets id n)) is ∙ length-header_octets id size) is in
    rw keeps whole

-- An Element that isn't written has no bytes.
pub length-filler : (id : ℕ) (body : List ℕ) → is_filler id ≡ true → length (kept_octets id body) ≡ 0
length-filler id body goes = rw goes refl

-- The written bytes are a header and the content, or nothing.
pub octets-kept : (n : Node) → octets n ≡ kept_octets (id_of n) (content n)
octets-kept (leaf id at body) = refl
octets-kept (master id at kids) = refl
