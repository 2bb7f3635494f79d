-- Blocks that are found in a file have only fields of their kind.
use Rattle.std.proofs.Common.{◌≡◌, ℕ, ◌≤◌, ◌==◌, true, false, List, [], ◌∷◌, length, Option, None, Ok, refl, sym, ap, subst}
use Rattle.std.specs.List.{All}
use Rattle.std.proofs.lemmas.List.{length-map}
use Rattle.std.proofs.lemmas.List.Elements.{All-head}
use Rattle.ebml_numbers.specs.Number.{AreOctets, int_of}
use Rattle.mkv_schema.specs.declared.ids.TheConstants.{BLOCK}
use Rattle.mkv_schema.specs.declared.element.Header.{Header}
use Rattle.mkv_schema.specs.Element.{stated_end}
use Rattle.mkv_schema.specs.Value.{body_of, first_of}
use Rattle.mkv_io.specs.Results.{and_then, unless}
use Rattle.mkv_schema.proofs.OutlineLemmas.{and_then-ok, unless-ok}
use Rattle.block_format.specs.Block.{Block, nanoseconds, simple_block_with}
use Rattle.block_format.specs.Content.{Content, content_in}
use Rattle.block_format.specs.Elements.{Rules, with_limits, timestamp_for, at_place, in_time, simple_block, group_children, block_or, too_many_references, references_among, group_with, group_among, block_group}
use Rattle.block_format.specs.Events.{found_at, events_of, blocks_of}
use Rattle.output_laws.proofs.SmallLemmas.{all-small}
use Rattle.output_laws.proofs.WalkLemmas.{IsFoundAs, at-found, each-block}
use Rattle.output_model.specs.Sound.{AreKept}
use Rattle.output_laws.proofs.KeptLemmas.{group-kept}
use Rattle.output_laws.specs.Read.{IsOfItsKind, IsReadBlock}

-- ---- a SimpleBlock

simple-kind : (r : Rules) (bytes : List ℕ) (timestamp : Option ℕ) (h : Header) (b : Block) → simple_block r bytes timestamp h ≡ Ok b → IsOfItsKind b
unfolding simple_block
simple-kind r bytes timestamp h b is =
    let time = and_then-ok (timestamp_for r timestamp h) (λ t. and_then (at_place h.id h.offset (content_in (body_of bytes h))) (λ c. in_time r h.id (simple_block_with r.scale t h.offset c))) b is in
    let spelled = and_then-ok (at_place h.id h.offset (content_in (body_of bytes h))) (λ c. in_time r h.id (simple_block_with r.scale time.0 h.offset c)) b time.1.1 in
    let made = unless-ok _ (simple_block_with r.scale time.0 h.offset spelled.0) b spelled.1.1 in
    subst IsOfItsKind made.1 (of (simple_block_with r.scale time.0 h.offset spelled.0) refl refl refl refl)
  where
    of : (made : Block) → made.group ≡ false → made.duration ≡ None → made.references ≡ [] → made.kept ≡ [] → IsOfItsKind made
    of made alone duration references kept = record {
      simple = λ same. record { duration = duration; references = references; kept = kept };
      group = λ grouped. absurd (cc);
    }

-- ---- a BlockGroup

group-made : (r : Rules) (bytes : List ℕ) (timestamp : Option ℕ) (h : Header) (b : Block) → block_group r bytes timestamp h ≡ Ok b
    → (b.group ≡ true) × (b.key ≡ (length b.references == 0)) × (b.discardable ≡ false)
unfolding block_group
group-made r bytes timestamp h b is =
    let time = and_then-ok (timestamp_for r timestamp h) (λ t. and_then (group_children bytes h) (λ children. and_then (block_or h (first_of BLOCK children)) (group_among r bytes t h.offset children))) b is in
    let kids = and_then-ok (group_children bytes h) (λ children. and_then (block_or h (first_of BLOCK children)) (group_among r bytes time.0 h.offset children)) b time.1.1 in
    let children : List Header = kids.0 in
    let first = and_then-ok (block_or h (first_of BLOCK children)) (group_among r bytes time.0 h.offset children) b kids.1.1 in
    let spelled = and_then-ok (at_place BLOCK h.offset (content_in (body_of bytes first.0))) (λ content. and_then (unless (too_many_references r children) content) (λ content. in_time r BLOCK (group_with r.scale bytes time.0 h.offset children content))) b first.1.1 in
    let few = and_then-ok (unless (too_many_references r children) spelled.0) (λ content. in_time r BLOCK (group_with r.scale bytes time.0 h.offset children content)) b spelled.1.1 in
    let made = unless-ok _ (group_with r.scale bytes time.0 h.offset children few.0) b few.1.1 in
    subst (λ (x : Block). (x.group ≡ true) × (x.key ≡ (length x.references == 0)) × (x.discardable ≡ false)) made.1 (refl, keys r.scale bytes time.0 h.offset children few.0, refl)
  where
    keys : (scale : ℕ) (bytes : List ℕ) (t offset : ℕ) (children : List Header) (content : Content) → (group_with scale bytes t offset children content).key ≡ (length (group_with scale bytes t offset children content).references == 0)
    keys scale bytes t offset children content = ap (λ n. n == 0) (sym (length-map (references_among children) (λ (c : Header). nanoseconds scale (int_of (body_of bytes c)))))

group-kind : (r : Rules) (bytes : List ℕ) (timestamp : Option ℕ) (h : Header) (b : Block) → AreOctets bytes → stated_end h ≤ length bytes → block_group r bytes timestamp h ≡ Ok b → IsOfItsKind b
group-kind r bytes timestamp h b octets within is =
    let made = group-made r bytes timestamp h b is in
    let kept = group-kept r bytes timestamp h b octets within is in
    of made.0 made.1 made.2 kept
  where
    of : b.group ≡ true → b.key ≡ (length b.references == 0) → b.discardable ≡ false → AreKept b.kept → IsOfItsKind b
    of grouped key discardable kept = record {
      simple = λ alone. absurd (cc);
      group = λ same. record { key = key; discardable = discardable; kept = kept };
    }

-- ---- blocks of a child of a Cluster

pub found-kind : (r : Rules) (bytes : List ℕ) (timestamp : Option ℕ) (h : Header) (b : Block) → AreOctets bytes → stated_end h ≤ length bytes → found_at r bytes timestamp h ≡ Ok b ∷ [] → IsOfItsKind b
found-kind r bytes timestamp h b octets within is =
    All-head (IsFoundAs IsOfItsKind) (Ok b) []
    (subst (All (IsFoundAs IsOfItsKind)) is (at-found IsOfItsKind r bytes timestamp h (simple-kind r bytes timestamp h) (λ made. group-kind r bytes timestamp h made octets within)))

-- ---- the file

-- Each block of a file that is read with limits is as a reader finds it.
pub all-read : (scale : ℕ) (bytes : List ℕ) (segment : Header) → AreOctets bytes → All IsReadBlock (blocks_of (events_of (with_limits scale) bytes segment))
all-read scale bytes segment octets = λ k d below. record {
  small = all-small scale bytes segment octets k d below;
  kind = each-block IsOfItsKind (with_limits scale) bytes (λ timestamp h b within. simple-kind (with_limits scale) bytes timestamp h b) (λ timestamp h b within. group-kind (with_limits scale) bytes timestamp h b octets within) segment k d below;
}
