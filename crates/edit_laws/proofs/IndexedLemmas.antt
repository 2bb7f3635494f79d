-- A file that is within the limits can be indexed or edited again, if its trees are read.
use Rattle.std.proofs.Common.{◌≡◌, ℕ, true, List, [], slice_get, Option, Some, None, Result, Ok, Err, refl, ◌∙◌, ap}
use Rattle.mkv_io.specs.declared.damage.Damage.{Damage}
use Rattle.mkv_schema.specs.declared.ids.TheConstants.{CHAPTERS, INFO, TAGS, TRACKS}
use Rattle.mkv_schema.specs.declared.element.Header.{Header}
use Rattle.mkv_schema.specs.Outline.{ebml_header, outlined, segment_of, segment_run}
use Rattle.mkv_schema.specs.Value.{first_of}
use Rattle.mkv_io.specs.Results.{and_then, unless}
use Rattle.element_reader.specs.Outline.{FileOutline, shown}
use Rattle.tree_format.specs.Node.{Node, children}
use Rattle.file_format.specs.FileBlocks.{file_events}
use Rattle.file_format.specs.Info.{file_scale, info_tree, scale_at, scale_in}
use Rattle.file_format.specs.declared.scale.TheConstants.{DEFAULT_SCALE}
use Rattle.meta_records.specs.Attached.{AttachedFile, first_attached}
use Rattle.meta_records.specs.Records.{first_tree, good_info, scale_of_info, tree_at}
use Rattle.block_format.specs.Events.{damages_of}
use Rattle.edit_changes.specs.declared.trees.Trees.{Trees}
use Rattle.edit_changes.specs.Records.{EditableFile, editable, good_tracks, trees_of}
use Rattle.edit_laws.proofs.LimitLemmas.{AreWithinLimits, outline-there}
use Rattle.reindex.specs.Index.{file_damage, indexable}

-- the scale of an Info that was read
abbrev pub scale_read : Result (Option Node) Damage → ℕ
scale_read (Ok info) = scale_of_info info
scale_read (Err d) = DEFAULT_SCALE

-- The scale of a file is the scale of its first Info as a tree.
pub scale-tree : (bytes : List ℕ) (segment : Header) → file_scale bytes segment ≡ scale_read (first_tree INFO bytes segment)
unfolding file_scale
scale-tree bytes segment = of (first_of INFO (segment_run bytes segment).list)
  where
    read : (found : Result Node Damage) → scale_in found ≡ scale_read (and_then found (λ tree. Ok (Some tree)))
    read (Ok n) = refl
    read (Err d) = refl

    of : (first : Option Header) → scale_at (info_tree bytes) first ≡ scale_read (tree_at bytes first)
    of None = refl
    of (Some h) = read (info_tree bytes h)

-- the trees of a file by its parts
pub trees_from : Result (Option Node) Damage → Result Node Damage → Result (List AttachedFile) Damage → Result (Option Node) Damage → Result (Option Node) Damage → Result Trees Damage
trees_from info tracks attachments chapters tags =
    and_then (and_then info good_info) (λ info. and_then tracks (λ tracks. and_then attachments (λ attachments. and_then chapters (λ chapters. and_then tags (λ tags. Ok (record { info = info; tracks = children tracks }))))))

pub trees-are : (bytes : List ℕ) (segment : Header)
    → trees_of bytes segment ≡ trees_from (first_tree INFO bytes segment) (and_then (first_tree TRACKS bytes segment) (good_tracks segment)) (first_attached bytes segment) (first_tree CHAPTERS bytes segment) (first_tree TAGS bytes segment)
unfolding trees_from
trees-are bytes segment = refl

-- a file with an outline and trees
abbrev pub file_with : FileOutline → Trees → EditableFile
file_with o trees = record { outline = o; trees = trees }

-- A file within the limits can be indexed, if its trees are read and it has no damage.
pub indexed-again : (new : List ℕ) (ebml now : Header) (trees : Trees) → ebml_header new ≡ Ok ebml → segment_of new ebml ≡ Ok now → AreWithinLimits (segment_run new now).list → trees_of new now ≡ Ok trees → damages_of (file_events true new now) ≡ []
    → indexable new ≡ Ok (file_with (shown new (outlined new ebml now (segment_run new now))) trees)
indexed-again new ebml now trees first second within read undamaged =
    let o : FileOutline = shown new (outlined new ebml now (segment_run new now)) in
    ap (λ (x : Result FileOutline Damage). and_then x (λ o. and_then (trees_of new o.segment) (λ trees. unless (file_damage new o.segment) (file_with o trees)))) (outline-there new ebml now first second within)
    ∙ ap (λ (x : Result Trees Damage). and_then x (λ trees. unless (file_damage new now) (file_with o trees))) read
    ∙ ap (λ (ds : List Damage). unless (slice_get ds 0) (file_with o trees)) undamaged

-- ---- a file that was edited

abbrev trees_with : Option Node → Node → Result Trees Damage
trees_with info tracks = Ok (record { info = info; tracks = children tracks })

-- Parts that are read make the trees of a file.
pub trees-made : (bytes : List ℕ) (segment : Header) (info : Option Node) (tracks : Node) (files : List AttachedFile) (chapters tags : Option Node) → and_then (first_tree INFO bytes segment) good_info ≡ Ok info
    → and_then (first_tree TRACKS bytes segment) (good_tracks segment) ≡ Ok tracks → first_attached bytes segment ≡ Ok files → first_tree CHAPTERS bytes segment ≡ Ok chapters → first_tree TAGS bytes segment ≡ Ok tags
    → trees_of bytes segment ≡ Ok (record { info = info; tracks = children tracks })
trees-made bytes segment info tracks files chapters tags one two three four five =
    ap (λ (x : Result (Option Node) Damage). and_then x (λ info. and_then (and_then (first_tree TRACKS bytes segment) (good_tracks segment)) (λ tracks. and_then (first_attached bytes segment) (λ files. and_then (first_tree CHAPTERS bytes segment) (λ chapters. and_then (first_tree TAGS bytes segment) (λ tags. trees_with info tracks)))))) one
    ∙ ap (λ (x : Result Node Damage). and_then x (λ tracks. and_then (first_attached bytes segment) (λ files. and_then (first_tree CHAPTERS bytes segment) (λ chapters. and_then (first_tree TAGS bytes segment) (λ tags. trees_with info tracks))))) two
    ∙ ap (λ (x : Result (List AttachedFile) Damage). and_then x (λ files. and_then (first_tree CHAPTERS bytes segment) (λ chapters. and_then (first_tree TAGS bytes segment) (λ tags. trees_with info tracks)))) three
    ∙ ap (λ (x : Result (Option Node) Damage). and_then x (λ chapters. and_then (first_tree TAGS bytes segment) (λ tags. trees_with info tracks))) four
    ∙ ap (λ (x : Result (Option Node) Damage). and_then x (λ tags. trees_with info tracks)) five

-- A file within the limits can be edited, if its trees are read and level 1 has no damage.
pub edited-again : (new : List ℕ) (ebml now : Header) (trees : Trees) → ebml_header new ≡ Ok ebml → segment_of new ebml ≡ Ok now → AreWithinLimits (segment_run new now).list → (segment_run new now).damage ≡ None → trees_of new now ≡ Ok trees
    → (g : EditableFile) × (editable new ≡ Ok g)
edited-again new ebml now trees first second within whole read =
    let o : FileOutline = shown new (outlined new ebml now (segment_run new now)) in (
      file_with o trees,
      ap (λ (x : Result FileOutline Damage). and_then x (λ o. and_then (unless o.damage o) (λ o. and_then (trees_of new o.segment) (λ trees. Ok (file_with o trees))))) (outline-there new ebml now first second within)
          ∙ ap (λ (d : Option Damage). and_then (unless d o) (λ o. and_then (trees_of new o.segment) (λ trees. Ok (file_with o trees)))) whole
          ∙ ap (λ (x : Result Trees Damage). and_then x (λ trees. Ok (file_with o trees))) read,
    )
