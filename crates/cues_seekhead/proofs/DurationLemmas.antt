-- An Info with a Duration, and the write of the Duration over the Void in its place.
use Rattle.std.proofs.Common.{◌≡◌, ◌≤◌, ℕ, zero, suc, ◌+◌, Bool, true, false, List, [], ◌∷◌, ◌++◌, length, flat_map, take, drop, Option, None, Some, IfSome, unwrap_or, refl, sym, ap, append_assoc, ◌∙◌, arith}
use Rattle.std.proofs.lemmas.List.{length-append}
use Rattle.std.specs.Option.{option_map}
use Rattle.ebml_numbers.specs.Number.{uint_width, least_size_width}
use Rattle.mkv_io.specs.Contents.{overwritten}
use Rattle.mkv_io.specs.LiveFiles.{LiveFiles}
use Rattle.mkv_schema.specs.declared.ids.TheConstants.{INFO}
use Rattle.mkv_outputs.specs.Drafts.{Patch, patched}
use Rattle.tree_format.specs.Node.{Node, id_of, children}
use Rattle.tree_format.specs.NormalForm.{octets, header_octets}
use Rattle.output_model.specs.Duration.{duration_element, float_octets}
use Rattle.output_model.specs.Element.{octets_of, joined}
use Rattle.output_model.specs.Document.{Front, attachments_elements, before_duration, children_after_duration, duration_place, ending_at, front_elements, info_element, info_with, lasting_if, tree_element}
use Rattle.output_model.specs.Front.{front_with}
use Rattle.output_model.specs.SeekHead.{seeks_from}
use Rattle.output_model.proofs.DurationLemmas.{info-parts, length-duration}
use Rattle.output_model.specs.declared.front.Front.{Front as GivenFront}
use Rattle.cues_seekhead.specs.Draft.{duration_patches}
use Rattle.cues_seekhead.specs.Front.{place_of}

-- ---- lengths

pub length-info : (info : Node) (end : ℕ) (lasting : Option ℕ) → length (octets_of (info_element info (option_map (λ known. end) lasting))) ≡ length (octets_of (info_element info lasting))
length-info info end None = refl
length-info info end (Some known) =
    let others = children_after_duration info in
    omega (
      arith,
      ap length (info-parts info end),
      ap length (info-parts info known),
      length-append (before_duration info) (octets_of (duration_element end) ++ others),
      length-append (before_duration info) (octets_of (duration_element known) ++ others),
      length-append (octets_of (duration_element end)) others,
      length-append (octets_of (duration_element known)) others,
      length-duration end,
      length-duration known,
    )

-- A Duration above 0 is its header and a float.
pub duration-octets : (end : ℕ) → 1 ≤ end → 0x44 ∷ 0x89 ∷ 0x88 ∷ float_octets end ≡ octets_of (duration_element end)
unfolding uint_width least_size_width
duration-octets zero some = absurd (omega arith)
duration-octets (suc n) some = refl

-- The header, the children before the Duration, a Void and the other children are an Info that begins.
pub void-written : (info : Node) (len : ℕ) (first others : List Node) (o0 o1 o2 o3 o4 : List ℕ) → id_of info ≡ INFO
    → first ≡ take (duration_place (children info)) (children info) → others ≡ drop (duration_place (children info)) (children info)
    → len ≡ length (flat_map octets first) + 11 + length (flat_map octets others)
    → o1 ≡ o0 ++ header_octets INFO len → o2 ≡ o1 ++ flat_map octets first → o3 ≡ o2 ++ octets_of (duration_element 0) → o4 ≡ o3 ++ flat_map octets others
    → (o4 ≡ o0 ++ octets_of (info_element info (Some 0))) × (length o2 ≡ length (o0 ++ before_duration info))
void-written info len first others o0 o1 o2 o3 o4 is one two long head front void back =
    let its_first = flat_map octets (take (duration_place (children info)) (children info)) in
    let its_others = children_after_duration info in
    let inside = octets_of (duration_element 0) in
    let size : len ≡ length (info_with info inside) =
    omega (
      arith,
      long,
      ap (λ (ns : List Node). length (flat_map octets ns)) one,
      ap (λ (ns : List Node). length (flat_map octets ns)) two,
      length-append its_first (inside ++ its_others),
      length-append inside its_others,
      length-duration 0,
    ) in
    let at : o2 ≡ o0 ++ before_duration info =
    front ∙ ap (λ w. w ++ flat_map octets first) head ∙ append_assoc o0 (header_octets INFO len) (flat_map octets first)
    ∙ ap (λ (ns : List Node). o0 ++ (header_octets INFO len ++ flat_map octets ns)) one
    ∙ ap (λ n. o0 ++ (header_octets INFO n ++ its_first)) size
    ∙ ap (λ id. o0 ++ (header_octets id (length (info_with info inside)) ++ its_first)) (sym is) in (
      back ∙ ap (λ w. w ++ flat_map octets others) (void ∙ ap (λ w. w ++ inside) at)
          ∙ ap (λ (ns : List Node). ((o0 ++ before_duration info) ++ inside) ++ flat_map octets ns) two
          ∙ append_assoc (o0 ++ before_duration info) inside its_others
          ∙ append_assoc o0 (before_duration info) (inside ++ its_others)
          ∙ ap (λ w. o0 ++ w) (sym (info-parts info 0)),
      ap length at,
    )

-- ---- the part before the Clusters

-- Its length, and the places of its Elements, don't depend on the end.
pub length-front : (f : Front) (end : ℕ) → length (joined (front_elements (ending_at end f))) ≡ length (joined (front_elements f))
length-front f end =
    let others = joined (tree_element f.tracks ∷ attachments_elements f.attachments) in
    omega (
      arith,
      length-append (octets_of (info_element f.info (option_map (λ known. end) f.lasting))) others,
      length-append (octets_of (info_element f.info f.lasting)) others,
      length-info f.info end f.lasting,
    )

same-id : (info : Node) (end : ℕ) (lasting : Option ℕ) → (info_element info (option_map (λ known. end) lasting)).id ≡ (info_element info lasting).id
same-id info end None = refl
same-id info end (Some known) = refl

pub seeks-front : (f : Front) (end at : ℕ) → seeks_from at (front_elements (ending_at end f)) ≡ seeks_from at (front_elements f)
seeks-front f end at =
    let others = tree_element f.tracks ∷ attachments_elements f.attachments in
    ap (λ id. record { id = id; position = at } ∷ seeks_from (at + length (octets_of (info_element f.info (option_map (λ known. end) f.lasting)))) others) (same-id f.info end f.lasting)
    ∙ ap (λ n. record { id = (info_element f.info f.lasting).id; position = at } ∷ seeks_from (at + n) others) (length-info f.info end f.lasting)

-- The end that is known when an output begins is 0.
pub ending-begun : (files : LiveFiles) (f : GivenFront) → ending_at 0 (front_with files f) ≡ front_with files f
ending-begun files f = ap (λ lasting. record (front_with files f) { lasting = lasting }) (begun f.duration)
  where
    begun : (asked : Bool) → option_map (λ known. 0) (lasting_if asked) ≡ lasting_if asked
    begun true = refl
    begun false = refl

-- The end that is known last counts.
pub ending-twice : (a b : ℕ) (f : Front) → ending_at a (ending_at b f) ≡ ending_at a f
ending-twice a b f = ap (λ lasting. record f { lasting = lasting }) (twice f.lasting)
  where
    twice : (lasting : Option ℕ) → option_map (λ known. a) (option_map (λ known. b) lasting) ≡ option_map (λ known. a) lasting
    twice None = refl
    twice (Some known) = refl

pub place-ending : (info : Node) (end : ℕ) (lasting : Option ℕ) → place_of info (option_map (λ known. end) lasting) ≡ place_of info lasting
place-ending info end None = refl
place-ending info end (Some known) = refl

-- The Duration is inside the Info.
pub place-inside : (info : Node) (asked : Bool) (len more : ℕ) → len ≡ 256 + (length (octets_of (info_element info (lasting_if asked))) + more) → IfSome (place_of info (lasting_if asked)) (λ at. at + 11 ≤ len)
place-inside info false len more is = tt
place-inside info true len more is =
    let others = children_after_duration info in
    omega (
      arith,
      is,
      ap length (info-parts info 0),
      length-append (before_duration info) (octets_of (duration_element 0) ++ others),
      length-append (octets_of (duration_element 0)) others,
      length-duration 0,
    )

-- ---- the write of the Duration

-- Patches are written in sequence.
pub patched-append : (bytes : List ℕ) (ps qs : List Patch) → patched bytes (ps ++ qs) ≡ patched (patched bytes ps) qs
patched-append bytes [] qs = refl
patched-append bytes (p ∷ ps) qs = patched-append (overwritten bytes p.at p.octets) ps qs

-- The end that the document has is the known one.
pub patches-known : (start end : ℕ) (info : Node) (lasting : Option ℕ) → IfSome lasting (λ known. known ≡ end) → duration_patches start (place_of info lasting) end ≡ duration_patches start (place_of info lasting) (unwrap_or lasting 0)
patches-known start end info None same = refl
patches-known start end info (Some known) same = ap (duration_patches start (place_of info (Some known))) (sym same)
