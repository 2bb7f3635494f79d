-- The kept children of a BlockGroup that was read can be written and read again.
use Rattle.std.proofs.Common.{◌≡◌, ℕ, ◌-◌, ◌≤◌, not, Bool, true, false, cond, List, [], ◌∷◌, length, filter, find, All, Option, Some, None, Ok, refl, sym, ap, ap₂, ◌∙◌, subst, arith}
use Rattle.std.specs.List.{AllZip}
use Rattle.std.proofs.lemmas.List.Elements.{All-nil, All-cons, All-head, All-tail}
use Rattle.ebml_numbers.specs.Number.{AreOctets}
use Rattle.mkv_schema.specs.declared.ids.TheConstants.{BLOCK_GROUP, BLOCK}
use Rattle.mkv_io.specs.declared.damage.Damage.{Damage}
use Rattle.mkv_schema.specs.declared.element.Header.{Header}
use Rattle.mkv_schema.specs.Element.{stated_end}
use Rattle.mkv_schema.specs.Elements.{Run}
use Rattle.mkv_schema.specs.Value.{body_of, first_of, is_known_value}
use Rattle.mkv_schema.specs.Outline.{first_damage, bad_value}
use Rattle.mkv_io.specs.Results.{unless, and_then}
use Rattle.block_format.specs.Block.{Block}
use Rattle.block_format.specs.Content.{content_in}
use Rattle.block_format.specs.Elements.{Rules, timestamp_for, at_place, in_time, group_run, group_refusal, group_children, block_or, too_many_references, is_kept, kept_of, group_with, group_among, block_group}
use Rattle.output_model.specs.Element.{Element, IsElement, headers_in_place}
use Rattle.output_model.proofs.AskedLemmas.{IsRead, headers-read, octets_of-read}
use Rattle.mkv_schema.proofs.OutlineLemmas.{and_then-ok, unless-ok}
use Rattle.output_model.proofs.WrittenLemmas.{children-written}
use Rattle.output_model.specs.Sound.{IsKeptElement, AreKept}
use Rattle.lemmas.proofs.PlainLemmas.{map-none as no-value}

-- ---- facts after a result

no-causes : (a b : Option Damage) → first_damage (a ∷ b ∷ []) ≡ None → (a ≡ None) × (b ≡ None)
no-causes None None is = (refl, refl)
no-causes None (Some d) is = absurd (cc)
no-causes (Some d) b is = absurd (cc)

-- ---- if no item fails a test, all pass

find-all : (bytes : List ℕ) (passes : ℕ → List ℕ → Bool) (hs : List Header) (ds : List Element) → AllZip (IsRead bytes) hs ds → find (λ (h : Header). not (passes h.id (body_of bytes h))) hs ≡ None
    → All (λ (d : Element). passes d.id d.body ≡ true) ds
find-all bytes passes [] [] are none = All-nil (λ (d : Element). passes d.id d.body ≡ true)
find-all bytes passes [] (d ∷ ds) are none = absurd are
find-all bytes passes (h ∷ hs) [] are none = absurd are
find-all bytes passes (h ∷ hs) (d ∷ ds) are none =
    let parts = split (passes h.id (body_of bytes h)) refl none in
    All-cons (λ (x : Element). passes x.id x.body ≡ true) d ds (sym (ap₂ passes are.0.id_is are.0.body_is) ∙ parts.0) (find-all bytes passes hs ds are.1 parts.1)
  where
    split : (t : Bool) → passes h.id (body_of bytes h) ≡ t → cond (not t) (Some h) (find (λ (c : Header). not (passes c.id (body_of bytes c))) hs) ≡ None
        → (passes h.id (body_of bytes h) ≡ true) × (find (λ (c : Header). not (passes c.id (body_of bytes c))) hs ≡ None)
    split true is rest = (is, rest)
    split false is rest = absurd (cc)

-- The kept children.
kept-elements : (ds : List Element) → All IsElement ds → All (λ (d : Element). is_known_value BLOCK_GROUP d.id d.body ≡ true) ds → All IsKeptElement (filter (λ (d : Element). is_kept d.id) ds)
kept-elements [] are values = All-nil IsKeptElement
kept-elements (d ∷ ds) are values =
    split (is_kept d.id) refl (kept-elements ds (All-tail IsElement d ds are) (All-tail (λ (x : Element). is_known_value BLOCK_GROUP x.id x.body ≡ true) d ds values))
  where
    split : (t : Bool) → is_kept d.id ≡ t → All IsKeptElement (filter (λ (x : Element). is_kept x.id) ds) → All IsKeptElement (cond t (d ∷ filter (λ (x : Element). is_kept x.id) ds) (filter (λ (x : Element). is_kept x.id) ds))
    split true is rest =
        All-cons IsKeptElement d (filter (λ (x : Element). is_kept x.id) ds) (record { element = All-head IsElement d ds are; left = is; value = All-head (λ (x : Element). is_known_value BLOCK_GROUP x.id x.body ≡ true) d ds values }) rest
    split false is rest = rest

-- ---- a group

children-kept : (bytes : List ℕ) (h : Header) (children : List Header) → AreOctets bytes → stated_end h ≤ length bytes → group_children bytes h ≡ Ok children → AreKept (kept_of bytes children)
children-kept bytes h children octets within found =
    let run : Run = group_run bytes h in
    let good = unless-ok (group_refusal bytes run) run.list children found in
    let causes = no-causes (bad_value bytes BLOCK_GROUP run.list) run.damage good.0 in
    let spelled = children-written (stated_end h - h.body) bytes h.body (stated_end h) octets (omega arith) within (omega arith) causes.1 in
    let ds : List Element = spelled.elements in
    let hs : children ≡ headers_in_place h.body ds = sym good.1 ∙ spelled.headers in
    let read : AllZip (IsRead bytes) children ds = subst (λ (l : List Header). AllZip (IsRead bytes) l ds) (sym hs) (headers-read bytes ds h.body spelled.held) in
    let none : find (λ (c : Header). not (is_known_value BLOCK_GROUP c.id (body_of bytes c))) children ≡ None =
    no-value _ _ (ap (bad_value bytes BLOCK_GROUP) (sym good.1) ∙ causes.0) in
    let values = find-all bytes (is_known_value BLOCK_GROUP) children ds read none in
    (filter (λ (d : Element). is_kept d.id) ds, octets_of-read bytes is_kept children ds read, kept-elements ds spelled.are values)

-- The kept children of a group that was read are Elements that can be kept.
pub group-kept : (r : Rules) (bytes : List ℕ) (timestamp : Option ℕ) (h : Header) (b : Block) → AreOctets bytes → stated_end h ≤ length bytes → block_group r bytes timestamp h ≡ Ok b → AreKept b.kept
unfolding block_group
group-kept r bytes timestamp h b octets within is =
    let time = and_then-ok (timestamp_for r timestamp h) (λ t. and_then (group_children bytes h) (λ children. and_then (block_or h (first_of BLOCK children)) (group_among r bytes t h.offset children))) b is in
    let kids = and_then-ok (group_children bytes h) (λ children. and_then (block_or h (first_of BLOCK children)) (group_among r bytes time.0 h.offset children)) b time.1.1 in
    let children : List Header = kids.0 in
    let first = and_then-ok (block_or h (first_of BLOCK children)) (group_among r bytes time.0 h.offset children) b kids.1.1 in
    let told = and_then-ok (at_place BLOCK h.offset (content_in (body_of bytes first.0))) (λ content. and_then (unless (too_many_references r children) content) (λ content. in_time r BLOCK (group_with r.scale bytes time.0 h.offset children content))) b first.1.1 in
    let few = and_then-ok (unless (too_many_references r children) told.0) (λ content. in_time r BLOCK (group_with r.scale bytes time.0 h.offset children content)) b told.1.1 in
    let made = unless-ok _ (group_with r.scale bytes time.0 h.offset children few.0) b few.1.1 in
    let kept : kept_of bytes children ≡ b.kept = ap (λ (x : Block). x.kept) made.1 in
    subst AreKept kept (children-kept bytes h children octets within kids.1.0)
