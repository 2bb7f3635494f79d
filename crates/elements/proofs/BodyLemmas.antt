-- Laws on the bytes of a master's body from an offset on.
use Rattle.std.proofs.Common.{◌≡◌, ℕ, ◌+◌, ◌-◌, ◌≤◌, List, length, take, drop, sym, ◌∙◌, ap, arith}
use Rattle.std.proofs.lemmas.List.{drop-drop, drop-take, take-take}
use Rattle.mkv_schema.specs.declared.element.Header.{Header}
use Rattle.mkv_schema.specs.Element.{octets_between, stated_end, known}
use Rattle.mkv_schema.specs.Value.{body_of}
use Rattle.elements.specs.Body.{IsBody}

-- The bytes of a body from an offset on are the content's, up to the body's end.
pub IsBody-rest : (bytes : List ℕ) (base total at : ℕ) (body : List ℕ) → IsBody bytes base total body → base ≤ at → drop (at - base) body ≡ octets_between bytes at (base + length body)
IsBody-rest bytes base total at body is from =
    let place : base + (at - base) ≡ at = omega arith in
    ap (drop (at - base)) is.octets
    ∙ drop-drop (at - base) base (take (base + length body) bytes)
    ∙ ap (λ n. drop n (take (base + length body) bytes)) place

-- The bytes of a child's body are the content's.
pub IsBody-part : (bytes : List ℕ) (base total : ℕ) (body : List ℕ) (h : Header) → IsBody bytes base total body → base ≤ h.body → stated_end h ≤ base + length body → take (known h.size) (drop (h.body - base) body) ≡ body_of bytes h
IsBody-part bytes base total body h is from within =
    ap (take (known h.size)) (IsBody-rest bytes base total h.body body is from)
    ∙ sym (drop-take h.body (known h.size) (take (base + length body) bytes))
    ∙ ap (drop h.body) (take-take (stated_end h) (base + length body) bytes within)
