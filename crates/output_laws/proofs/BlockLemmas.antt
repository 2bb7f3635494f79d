-- A written block is read as that block.
use Rattle.std.proofs.Common.{◌≡◌, ℕ, ◌+◌, ◌*◌, ◌<◌, ◌==◌, Bool, true, false, if◌then◌else◌, pos, List, [], ◌∷◌, ◌++◌, length, map, filter, All, length-append, Some, None, Ok, refl, sym, ap, ◌∙◌, subst, arith}
use Rattle.std.specs.List.{AllZip}
use Rattle.std.specs.Option.{option_map}
use Rattle.std.proofs.lemmas.List.{length-map}
use Rattle.std.proofs.lemmas.List.Concat.{flat_map-append}
use Rattle.std.proofs.lemmas.List.Elements.{All-weaker}
use Rattle.ebml_numbers.specs.Number.{all_ones, uint_of, int_of}
use Rattle.mkv_schema.specs.declared.ids.TheConstants.{SIMPLE_BLOCK, BLOCK_GROUP, BLOCK, BLOCK_DURATION, REFERENCE_BLOCK}
use Rattle.mkv_schema.specs.declared.element.Header.{Header}
use Rattle.mkv_schema.specs.Element.{in_master}
use Rattle.mkv_schema.specs.Elements.{Run, children_in}
use Rattle.mkv_schema.specs.Value.{first_of, is_known_value}
use Rattle.mkv_schema.specs.Outline.{first_damage, bad_value}
use Rattle.mkv_io.specs.Results.{and_then, unless}
use Rattle.block_format.specs.Block.{nanoseconds, time_of, simple_block_with}
use Rattle.block_format.specs.Content.{content_in, is_key, is_invisible, is_discardable, lace_of}
use Rattle.block_format.specs.Elements.{without_limits, at_place, in_time, simple_block, group_run, group_refusal, group_children, block_or, references_among, duration_of, references_of, kept_of, is_kept, group_with, group_among, block_group}
use Rattle.block_format.specs.Events.{found_at}
use Rattle.output_model.specs.Element.{Element, IsElement, HoldsAt, element, header_of, octets_of, joined, header_in_place, headers_in_place}
use Rattle.output_model.proofs.ReadLemmas.{body_of-read, stands-body, children-all}
use Rattle.output_model.proofs.AskedLemmas.{IsRead, headers-read, first_of-read, map-read, octets_of-read, length-read, find-none}
use Rattle.output_model.specs.declared.TheConstants.{MAX_LANES}
use Rattle.output_model.specs.OutputBlock.{OutputBlock}
use Rattle.output_model.specs.Block.{flags_of, block_flags, simple_block_flags, block_octets, duration_elements, reference_element, group_elements, group_octets, block_element}
use Rattle.output_model.specs.Sound.{IsKeptElement, IsSimple, IsGroup, IsSoundIn}
use Rattle.output_laws.specs.Places.{HasSize, block_in_place}
use Rattle.output_laws.proofs.FlagLemmas.{block_flags-read, simple_block_flags-read}
use Rattle.output_laws.proofs.ContentLemmas.{content_of, content-read, ticks-read}
use Rattle.output_laws.proofs.GroupLemmas.{parts, IsPart, parts-are, references-parts, references-values, duration-parts, kept-parts}

-- ---- a SimpleBlock

-- The block of a SimpleBlock that was written.
simple-is : (scale timestamp p : ℕ) (b : OutputBlock) → b.group ≡ false → IsSimple b → simple_block_with scale timestamp p (content_of timestamp b) ≡ block_in_place scale p b
simple-is scale timestamp p b alone is =
    let flags = simple_block_flags-read b in
    let chosen : flags_of b ≡ simple_block_flags b = ap (λ (g : Bool). if g then block_flags b else simple_block_flags b) alone in
    let time : time_of scale timestamp (content_of timestamp b) ≡ nanoseconds scale (pos b.tick) = ap (nanoseconds scale) (ticks-read timestamp b) in
    let duration : None ≡ option_map (λ ticks. ticks * scale) b.duration = ap (option_map (λ ticks. ticks * scale)) (sym is.duration) in
    let references : [] ≡ map (nanoseconds scale) b.references = ap (map (nanoseconds scale)) (sym is.references) in
    λ i. record {
      track = b.lane;
      time = time i;
      key = (ap is_key chosen ∙ flags.key_is) i;
      invisible = (ap is_invisible chosen ∙ flags.invisible_is) i;
      discardable = (ap is_discardable chosen ∙ flags.discardable_is) i;
      group = sym alone i;
      lace = (ap lace_of chosen ∙ flags.lace_is) i;
      frames = b.frames;
      duration = duration i;
      references = references i;
      kept = sym is.kept i;
      offset = p;
    }

pub simple_block-read : (scale : ℕ) (bytes : List ℕ) (timestamp : ℕ) (b : OutputBlock) (p : ℕ) → IsSoundIn MAX_LANES timestamp b → b.group ≡ false → HoldsAt bytes p (octets_of (element SIMPLE_BLOCK (block_octets timestamp b)))
    → simple_block (without_limits scale) bytes (Some timestamp) (header_in_place p (element SIMPLE_BLOCK (block_octets timestamp b))) ≡ Ok (block_in_place scale p b)
unfolding simple_block
simple_block-read scale bytes timestamp b p is alone stands =
    let d : Element = element SIMPLE_BLOCK (block_octets timestamp b) in
    ap (λ o. and_then (at_place SIMPLE_BLOCK p (content_in o)) (λ content. in_time (without_limits scale) SIMPLE_BLOCK (simple_block_with scale timestamp p content))) (body_of-read bytes p d stands)
    ∙ ap (λ r. and_then (at_place SIMPLE_BLOCK p r) (λ content. in_time (without_limits scale) SIMPLE_BLOCK (simple_block_with scale timestamp p content))) (content-read MAX_LANES timestamp b (omega arith) is)
    ∙ ap (λ x. Ok x) (simple-is scale timestamp p b alone (is.sound.simple alone))

-- ---- a BlockGroup

-- The block of a BlockGroup that was written, whose children are in a content.
group-is : (scale : ℕ) (bytes : List ℕ) (timestamp p : ℕ) (b : OutputBlock) (kept : List Element) (children : List Header) → b.group ≡ true → IsGroup b → b.kept ≡ joined kept → All IsKeptElement kept
    → AllZip (IsRead bytes) children (parts (block_octets timestamp b) b.duration b.references kept)
    → group_with scale bytes timestamp p children (content_of timestamp b) ≡ block_in_place scale p b
group-is scale bytes timestamp p b kept children grouped is spells are read =
    let content = block_octets timestamp b in
    let ds : List Element = parts content b.duration b.references kept in
    let flags = block_flags-read b in
    let chosen : flags_of b ≡ block_flags b = ap (λ (g : Bool). if g then block_flags b else simple_block_flags b) grouped in
    let left : All (λ (d : Element). is_kept d.id ≡ true) kept = All-weaker IsKeptElement (λ (d : Element). is_kept d.id ≡ true) (λ d k. k.left) kept are in
    let some : filter (λ (d : Element). d.id == REFERENCE_BLOCK) ds ≡ map reference_element b.references = references-parts content b.duration b.references kept left in
    let count : length (references_among children) ≡ length b.references =
    length-read bytes (λ id. id == REFERENCE_BLOCK) children ds read ∙ ap (λ (l : List Element). length l) some ∙ length-map b.references reference_element in
    let key : (length (references_among children) == 0) ≡ b.key = ap (λ n. n == 0) count ∙ sym is.key in
    let time : time_of scale timestamp (content_of timestamp b) ≡ nanoseconds scale (pos b.tick) = ap (nanoseconds scale) (ticks-read timestamp b) in
    let duration : duration_of scale bytes children ≡ option_map (λ ticks. ticks * scale) b.duration =
    first_of-read bytes (λ o. uint_of o * scale) BLOCK_DURATION children ds read ∙ duration-parts scale content b.duration b.references kept is.duration left in
    let references : references_of scale bytes children ≡ map (nanoseconds scale) b.references =
    map-read bytes (λ o. nanoseconds scale (int_of o)) (λ id. id == REFERENCE_BLOCK) children ds read
    ∙ ap (map (λ (d : Element). nanoseconds scale (int_of d.body))) some ∙ references-values scale b.references is.references in
    let others : kept_of bytes children ≡ b.kept =
    octets_of-read bytes is_kept children ds read ∙ ap joined (kept-parts content b.duration b.references kept left) ∙ sym spells in
    λ i. record {
      track = b.lane;
      time = time i;
      key = key i;
      invisible = (ap is_invisible chosen ∙ flags.0) i;
      discardable = sym is.discardable i;
      group = sym grouped i;
      lace = (ap lace_of chosen ∙ flags.1) i;
      frames = b.frames;
      duration = duration i;
      references = references i;
      kept = others i;
      offset = p;
    }

pub block_group-read : (scale : ℕ) (bytes : List ℕ) (timestamp : ℕ) (b : OutputBlock) (p : ℕ) → IsSoundIn MAX_LANES timestamp b → b.group ≡ true → length (block_octets timestamp b) < all_ones 8
    → HoldsAt bytes p (octets_of (element BLOCK_GROUP (group_octets timestamp b)))
    → block_group (without_limits scale) bytes (Some timestamp) (header_in_place p (element BLOCK_GROUP (group_octets timestamp b))) ≡ Ok (block_in_place scale p b)
unfolding block_group
block_group-read scale bytes timestamp b p sound grouped short stands =
    let is = sound.sound.group grouped in
    let content = block_octets timestamp b in
    let kept : List Element = is.kept.0 in
    let are : All IsKeptElement kept = is.kept.2 in
    let ds : List Element = parts content b.duration b.references kept in
    let d : Element = element BLOCK_GROUP (group_octets timestamp b) in
    let h : Header = header_in_place p d in
    let q : ℕ = p + length (header_of d) in
    let whole : group_octets timestamp b ≡ joined ds = ap (λ o. joined (group_elements timestamp b) ++ o) is.kept.1 ∙ sym (flat_map-append octets_of (group_elements timestamp b) kept) in
    let are_parts = parts-are content b.duration b.references kept short is.duration is.references are in
    let stand : HoldsAt bytes q (joined ds) = subst (HoldsAt bytes q) whole (stands-body bytes p d stands) in
    let read = headers-read bytes ds q stand in
    let made : Run = record { list = headers_in_place q ds; damage = None; end = q + length (joined ds) } in
    let run : group_run bytes h ≡ made =
    ap (λ o. children_in in_master bytes q (q + length o)) whole ∙ children-all in_master bytes ds q refl (All-weaker IsPart IsElement (λ x part. part.is_element) ds are_parts) stand in
    let good : bad_value bytes BLOCK_GROUP (headers_in_place q ds) ≡ None =
    ap (option_map _) (find-none bytes (is_known_value BLOCK_GROUP) (headers_in_place q ds) ds read (All-weaker IsPart (λ (x : Element). is_known_value BLOCK_GROUP x.id x.body ≡ true) (λ x part. part.value) ds are_parts)) in
    let children : group_children bytes h ≡ Ok (headers_in_place q ds) =
    ap (λ (r : Run). unless (group_refusal bytes r) r.list) run ∙ ap (λ x. unless (first_damage (x ∷ None ∷ [])) (headers_in_place q ds)) good in
    let block : Header = header_in_place q (element BLOCK content) in
    ap (λ r. and_then r (λ cs. and_then (block_or h (first_of BLOCK cs)) (group_among (without_limits scale) bytes timestamp p cs))) children
    ∙ ap (λ o. and_then (at_place BLOCK p (content_in o)) (λ c. in_time (without_limits scale) BLOCK (group_with scale bytes timestamp p (headers_in_place q ds) c))) read.0.body_is
    ∙ ap (λ r. and_then (at_place BLOCK p r) (λ c. in_time (without_limits scale) BLOCK (group_with scale bytes timestamp p (headers_in_place q ds) c))) (content-read MAX_LANES timestamp b (omega arith) sound)
    ∙ ap (λ x. Ok x) (group-is scale bytes timestamp p b kept (headers_in_place q ds) grouped is is.kept.1 are read)

-- ---- both kinds

-- A Block is at most as long as its group.
content-short : (timestamp : ℕ) (b : OutputBlock) → length (group_octets timestamp b) < all_ones 8 → length (block_octets timestamp b) < all_ones 8
content-short timestamp b short =
    let content = block_octets timestamp b in
    let d : Element = element BLOCK content in
    let others : List Element = duration_elements b.duration ++ map reference_element b.references in
    omega (arith, length-append (joined (group_elements timestamp b)) b.kept, length-append (octets_of d) (joined others), length-append (header_of d) content)

pub block-read : (scale : ℕ) (bytes : List ℕ) (timestamp : ℕ) (b : OutputBlock) (p : ℕ) → IsSoundIn MAX_LANES timestamp b → HasSize (block_element timestamp b) → HoldsAt bytes p (octets_of (block_element timestamp b))
    → found_at (without_limits scale) bytes (Some timestamp) (header_in_place p (block_element timestamp b)) ≡ Ok (block_in_place scale p b) ∷ []
block-read scale bytes timestamp b p is size stands = split b.group refl size stands
  where
    split : (g : Bool) → b.group ≡ g
        → HasSize (if g then element BLOCK_GROUP (group_octets timestamp b) else element SIMPLE_BLOCK (block_octets timestamp b))
        → HoldsAt bytes p (octets_of (if g then element BLOCK_GROUP (group_octets timestamp b) else element SIMPLE_BLOCK (block_octets timestamp b)))
        → found_at (without_limits scale) bytes (Some timestamp) (header_in_place p (if g then element BLOCK_GROUP (group_octets timestamp b) else element SIMPLE_BLOCK (block_octets timestamp b))) ≡ Ok (block_in_place scale p b) ∷ []
    split true grouped short stand =
        ap (λ r. r ∷ []) (block_group-read scale bytes timestamp b p is grouped (content-short timestamp b short) stand)
    split false alone short stand =
        ap (λ r. r ∷ []) (simple_block-read scale bytes timestamp b p is alone stand)
