-- Children of a Cluster, by their ID and the Timestamp before them.
use Rattle.std.proofs.Common.{◌≡◌, ℕ, ◌==◌, ◌≤◌, length, take, nat_lt, Bool, true, false, if◌then◌else◌, List, [], ◌∷◌, Option, Some, None, Result, Ok, Err, refl, sym, ◌∙◌, arith}
use Rattle.std.proofs.lemmas.Bool.{cond-true, cond-false}
use Rattle.std.proofs.lemmas.Bool.Decides.{nat_tests}
use Rattle.std.proofs.lemmas.List.{drop-take, length-drop, length-take}
use Rattle.mkv_schema.specs.declared.ids.TheConstants.{TIMESTAMP, SIMPLE_BLOCK}
use Rattle.mkv_io.specs.declared.damage.Damage.{Damage}
use Rattle.mkv_io.specs.declared.damage.Kind.TheVariants.{BadValue}
use Rattle.mkv_io.specs.Contents.{octets_from}
use Rattle.mkv_schema.specs.declared.element.Header.{Header}
use Rattle.mkv_schema.specs.Element.{known, damage, stated_end}
use Rattle.mkv_schema.specs.Value.{body_of}
use Rattle.mkv_io.specs.Results.{unless, and_then}
use Rattle.block_format.specs.declared.limits.TheConstants.{MAX_TIMESTAMP_LEN}
use Rattle.block_format.specs.Block.{Block}
use Rattle.block_format.specs.Elements.{Rules, too_long, timestamp_or, timestamp_for, simple_block, block_group}
use Rattle.block_format.specs.Events.{found_at}
use Rattle.cluster_reader.specs.Walks.{block_found}

-- ---- blocks

-- Without a valid Timestamp a SimpleBlock is damaged.
simple_block-refused : (r : Rules) (bytes : List ℕ) (timestamp : Option ℕ) (h : Header) (d : Damage) → timestamp_for r timestamp h ≡ Err d → simple_block r bytes timestamp h ≡ Err d
unfolding simple_block
simple_block-refused r bytes timestamp h d refused = rw refused refl

block_group-refused : (r : Rules) (bytes : List ℕ) (timestamp : Option ℕ) (h : Header) (d : Damage) → timestamp_for r timestamp h ≡ Err d → block_group r bytes timestamp h ≡ Err d
unfolding block_group
block_group-refused r bytes timestamp h d refused = rw refused refl

either : (test : Bool) (a b c : Result Block Damage) → a ≡ c → b ≡ c → (if test then a else b) ≡ c
either true a b c first second = first
either false a b c first second = second

pub block_found-refused : (r : Rules) (bytes : List ℕ) (timestamp : Option ℕ) (h : Header) (d : Damage) → timestamp_for r timestamp h ≡ Err d → block_found r bytes timestamp h ≡ Err d
block_found-refused r bytes timestamp h d refused =
    either (h.id == SIMPLE_BLOCK) _ _ _ (simple_block-refused r bytes timestamp h d refused) (block_group-refused r bytes timestamp h d refused)

-- The Timestamp of a block is the previous one.
pub timestamp_for-is : (r : Rules) (timestamp : Option ℕ) (h : Header) (ticks : ℕ) → timestamp_for r timestamp h ≡ Ok ticks → timestamp ≡ Some ticks
timestamp_for-is r timestamp h ticks is = split (too_long r h) timestamp is
  where
    split : (long : Option Damage) (timestamp : Option ℕ) → and_then (unless long timestamp) (timestamp_or h) ≡ Ok ticks → timestamp ≡ Some ticks
    split (Some d) timestamp is = absurd (cc)
    split None None is = absurd (cc)
    split None (Some t) is = cc

pub block_found-simple : (r : Rules) (bytes : List ℕ) (timestamp : Option ℕ) (h : Header) → h.id ≡ SIMPLE_BLOCK → block_found r bytes timestamp h ≡ simple_block r bytes timestamp h
block_found-simple r bytes timestamp h is = cond-true (h.id == SIMPLE_BLOCK) _ _ (grind (arith, nat_tests))

pub block_found-group : (r : Rules) (bytes : List ℕ) (timestamp : Option ℕ) (h : Header) → (h.id ≡ SIMPLE_BLOCK → ⊥) → block_found r bytes timestamp h ≡ block_group r bytes timestamp h
block_found-group r bytes timestamp h other = cond-false (h.id == SIMPLE_BLOCK) _ _ (grind (arith, nat_tests))

-- ---- children by their IDs

-- A child with a block isn't a Timestamp.
pub block-no_timestamp : (r : Rules) (bytes : List ℕ) (timestamp : Option ℕ) (h : Header) (b : Block) → found_at r bytes timestamp h ≡ Ok b ∷ [] → h.id ≡ TIMESTAMP → ⊥
block-no_timestamp r bytes timestamp h b gives is =
    split (nat_lt MAX_TIMESTAMP_LEN (known h.size)) (sym (cond-true (h.id == TIMESTAMP) _ _ (grind (arith, nat_tests))) ∙ gives)
  where
    split : (long : Bool) → (if long then Err (damage BadValue h.id h.offset) ∷ [] else []) ≡ Ok b ∷ [] → ⊥
    split true gives = cc
    split false gives = cc

-- ---- bodies

-- A body that ends within the file is complete.
pub body_of-whole : (bytes : List ℕ) (h : Header) → stated_end h ≤ length bytes → length (body_of bytes h) ≡ known h.size
body_of-whole bytes h inside =
    let cut = length-drop h.body (take (stated_end h) bytes) in
    let taken = length-take (stated_end h) bytes in
    omega arith

-- The bytes that are read are the body.
pub body_of-read : (bytes : List ℕ) (h : Header) → octets_from bytes h.body (known h.size) ≡ body_of bytes h
body_of-read bytes h = sym (drop-take h.body (known h.size) bytes)
