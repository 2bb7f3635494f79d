-- Children of a BlockGroup while its body is read.
use Rattle.std.proofs.Common.{◌≡◌, ◌⊎◌, inl, inr, ℕ, ◌+◌, ◌-◌, ◌<◌, ◌≤◌, true, false, List, [], ◌∷◌, ◌++◌, append-nil, append_assoc, length, take, drop, Option, Some, None, IfSome, Result, Ok, Err, refl, sym, ◌∙◌, ap, subst, arith}
use Rattle.std.proofs.lemmas.List.{drop-take, take-take}
use Rattle.mkv_schema.specs.declared.ids.TheConstants.{BLOCK_GROUP}
use Rattle.mkv_io.specs.declared.damage.Damage.{Damage}
use Rattle.mkv_io.specs.declared.damage.Kind.TheVariants.{BadValue}
use Rattle.mkv_schema.specs.declared.element.Header.{Header}
use Rattle.mkv_schema.specs.Element.{in_master, element_at, stated_end, end_in, damage}
use Rattle.mkv_schema.specs.Elements.{Run, children_in, step, in_front, ends_at, never}
use Rattle.mkv_schema.specs.Value.{body_of, is_known_value}
use Rattle.mkv_schema.proofs.ElementsLemmas.{elements-end, elements-more, Advances-known}
use Rattle.elements.specs.Body.{IsBody}
use Rattle.elements.proofs.BodyLemmas.{IsBody-rest}
use Rattle.block_format.specs.Elements.{group_refusal, element_octets}
use Rattle.block_reader.specs.declared.gathered.Gathered.{Gathered}
use Rattle.block_reader.specs.Group.{Gathers, IsInside}

-- ---- children of a body, one step at a time

-- No child begins at the body's end.
run-end : (bytes : List ℕ) (p e : ℕ) → e ≤ p → children_in in_master bytes p e ≡ ends_at p
run-end bytes p e past = elements-end in_master never (λ h. Ok (end_in e h)) bytes p e past

-- Before the end, a child or damage follows.
run-step : (bytes : List ℕ) (p e : ℕ) (found : Result Header Damage) → p < e → found ≡ element_at in_master bytes p e → children_in in_master bytes p e ≡ step p (λ h. Ok (end_in e h)) found (λ q. children_in in_master bytes q e)
run-step bytes p e found inside is =
    elements-more in_master never (λ h. Ok (end_in e h)) bytes p e (Advances-known in_master bytes e) inside
    ∙ ap (λ (r : Result Header Damage). step p (λ h. Ok (end_in e h)) r (λ q. children_in in_master bytes q e)) (sym is)

-- ---- during the reading

-- `g` holds the children that were read before `left`, and none of them refuses the group.
pub record IsOnWay (bytes : List ℕ) (whole left : Run) (g : Gathered) : Type 0 where
  pub given : List Header
  pub gathers : Gathers bytes given g
  pub list : whole.list ≡ given ++ left.list
  pub refusal : group_refusal bytes whole ≡ group_refusal bytes left

-- Nothing is gathered at first.
pub IsOnWay-begins : (bytes : List ℕ) (run : Run) (g : Gathered) → Gathers bytes [] g → IsOnWay bytes run run g
IsOnWay-begins bytes run g none = record { given = []; gathers = none; list = refl; refusal = refl }

-- A valid child is added.
pub IsOnWay-more : (bytes : List ℕ) (whole : Run) (g after : Gathered) (p q e : ℕ) (h : Header) → IsOnWay bytes whole (children_in in_master bytes p e) g → p < e → Ok h ≡ element_at in_master bytes p e → is_known_value BLOCK_GROUP h.id (body_of bytes h) ≡ true → q ≡ end_in e h → ((given : List Header) → Gathers bytes given g → Gathers bytes (given ++ h ∷ []) after) → IsOnWay bytes whole (children_in in_master bytes q e) after
IsOnWay-more bytes whole g after p q e h way inside is good behind more =
    let rest : ℕ → Run = λ k. children_in in_master bytes k e in
    let stands : rest p ≡ in_front h (rest q) = run-step bytes p e (Ok h) inside is ∙ ap (λ k. in_front h (rest k)) (sym behind) in
    record {
      given = way.given ++ h ∷ [];
      gathers = more way.given way.gathers;
      list = way.list ∙ ap (λ (r : Run). way.given ++ r.list) stands ∙ sym (append_assoc way.given (h ∷ []) (rest q).list);
      refusal = way.refusal ∙ ap (group_refusal bytes) stands ∙ rw good refl;
    }

-- The first invalid child refuses the group.
pub IsOnWay-bad : (bytes : List ℕ) (whole : Run) (g : Gathered) (p e : ℕ) (h : Header) → IsOnWay bytes whole (children_in in_master bytes p e) g → p < e → Ok h ≡ element_at in_master bytes p e → is_known_value BLOCK_GROUP h.id (body_of bytes h) ≡ false → group_refusal bytes whole ≡ Some (damage BadValue h.id h.offset)
IsOnWay-bad bytes whole g p e h way inside is bad =
    way.refusal ∙ ap (group_refusal bytes) (run-step bytes p e (Ok h) inside is) ∙ rw bad refl

-- A place without a valid element refuses the group.
pub IsOnWay-breaks : (bytes : List ℕ) (whole : Run) (g : Gathered) (p e : ℕ) (d : Damage) → IsOnWay bytes whole (children_in in_master bytes p e) g → p < e → Err d ≡ element_at in_master bytes p e → group_refusal bytes whole ≡ Some d
IsOnWay-breaks bytes whole g p e d way inside is =
    way.refusal ∙ ap (group_refusal bytes) (run-step bytes p e (Err d) inside is)

-- At the end all children are gathered.
pub IsOnWay-ends : (bytes : List ℕ) (whole : Run) (g : Gathered) (p e : ℕ) → IsOnWay bytes whole (children_in in_master bytes p e) g → e ≤ p → (group_refusal bytes whole ≡ None) × Gathers bytes whole.list g
IsOnWay-ends bytes whole g p e way past =
    let ends = run-end bytes p e past in
    let list : way.given ≡ whole.list = sym (way.list ∙ ap (λ (r : Run). way.given ++ r.list) ends ∙ append-nil way.given) in
    (way.refusal ∙ ap (group_refusal bytes) ends, subst (λ (l : List Header). Gathers bytes l g) list way.gathers)

-- ---- bytes of a child

pub element_octets-part : (bytes : List ℕ) (base total : ℕ) (body : List ℕ) (h : Header) → IsBody bytes base total body → base ≤ h.offset → h.offset ≤ stated_end h → stated_end h ≤ base + length body → take (stated_end h - h.offset) (drop (h.offset - base) body) ≡ element_octets bytes h
element_octets-part bytes base total body h is from order within =
    let end : h.offset + (stated_end h - h.offset) ≡ stated_end h = omega arith in
    ap (take (stated_end h - h.offset)) (IsBody-rest bytes base total h.offset body is from)
    ∙ sym (drop-take h.offset (stated_end h - h.offset) (take (base + length body) bytes))
    ∙ ap (λ n. drop h.offset (take n (take (base + length body) bytes))) end
    ∙ ap (drop h.offset) (take-take (stated_end h) (base + length body) bytes within)

-- The Block is within the body.
pub block-inside : (base end : ℕ) (old now : Option Header) (h : Header) → (now ≡ old) ⊎ (now ≡ Some h) → IfSome old (IsInside base end) → base ≤ h.body → stated_end h ≤ end → IfSome now (IsInside base end)
block-inside base end old now h (inl same) lies from within = subst (λ (o : Option Header). IfSome o (IsInside base end)) (sym same) lies
block-inside base end old now h (inr new) lies from within = subst (λ (o : Option Header). IfSome o (IsInside base end)) (sym new) (record { from = from; within = within })
