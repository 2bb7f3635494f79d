-- The duration of a tick of a file that can be indexed: RFC 9559, section 5.1.2 (Info Element).
use Rattle.std.proofs.Common.{◌≡◌, ◌≤◌, ℕ, List, Option, Some, None, Ok, refl, sym, ◌∙◌, ap, subst, arith}
use Rattle.mkv_schema.specs.declared.ids.TheConstants.{INFO, TRACKS, CHAPTERS, TAGS}
use Rattle.mkv_schema.specs.declared.element.Header.{Header}
use Rattle.mkv_io.specs.Results.{and_then, unless}
use Rattle.mkv_schema.proofs.OutlineLemmas.{and_then-ok, unless-ok}
use Rattle.tree_format.specs.Node.{Node, children}
use Rattle.file_format.specs.Info.{file_scale, first_info, info_refusal, info_tree, scale_at, scale_in, scale_of}
use Rattle.file_format.proofs.InfoLemmas.{scale-some}
use Rattle.meta_records.specs.Attached.{first_attached}
use Rattle.meta_records.specs.Records.{first_tree, good_info, scale_of_info, tree_at}
use Rattle.edit_changes.specs.Records.{good_tracks, trees_of}
use Rattle.edit_changes.specs.declared.trees.Trees.{Trees}

-- An Info that was read and isn't refused: its scale is the file's, and at least 1.
pub record IsScaleOf (bytes : List ℕ) (segment : Header) (info : Option Node) : Type 0 where
  pub good : good_info info ≡ Ok info
  pub file : scale_of_info info ≡ file_scale bytes segment
  pub some : 1 ≤ file_scale bytes segment

good-again : (info : Node) (found : Option Node) → good_info (Some info) ≡ Ok found → (info_refusal info ≡ None) × (Some info ≡ found)
good-again info found is = unless-ok (info_refusal info) (Some info) found is

-- The Info that was read is the first Info, if there is one.
of_first : (bytes : List ℕ) (segment : Header) (first : Option Header) (info : Option Node) → first_info bytes segment ≡ first → and_then (tree_at bytes first) good_info ≡ Ok info → IsScaleOf bytes segment info
unfolding file_scale
of_first bytes segment None info none is =
    let same : None ≡ info = cc in
    let file : file_scale bytes segment ≡ 1000000 = ap (scale_at (info_tree bytes)) none in
    let P : Option Node → Type 0 = IsScaleOf bytes segment in
    subst P same (record { good = refl; file = sym file; some = omega arith })
of_first bytes segment (Some h) info some is =
    let tree = and_then-ok (tree_at bytes (Some h)) good_info info is in
    let read = and_then-ok (info_tree bytes h) (λ (n : Node). Ok (Some n)) tree.0 tree.1.0 in
    let own : Some read.0 ≡ tree.0 = cc (read.1.1) in
    let good = good-again read.0 info (ap good_info own ∙ tree.1.1) in
    let file : file_scale bytes segment ≡ scale_of read.0 = ap (scale_at (info_tree bytes)) some ∙ ap scale_in read.1.0 in
    let least = scale-some read.0 good.0 in
    let P : Option Node → Type 0 = IsScaleOf bytes segment in
    subst P good.1 (record {
      good = ap (λ refusal. unless refusal (Some read.0)) good.0;
      file = sym file;
      some = omega arith;
    })

-- The scale in the editable parts is the file's.
pub trees-scale : (bytes : List ℕ) (segment : Header) (t : Trees) → trees_of bytes segment ≡ Ok t → IsScaleOf bytes segment t.info
trees-scale bytes segment t is =
    let info = and_then-ok (and_then (first_tree INFO bytes segment) good_info) _ t is in
    let tracks = and_then-ok (and_then (first_tree TRACKS bytes segment) (good_tracks segment)) _ t info.1.1 in
    let attached = and_then-ok (first_attached bytes segment) _ t tracks.1.1 in
    let chapters = and_then-ok (first_tree CHAPTERS bytes segment) _ t attached.1.1 in
    let tags = and_then-ok (first_tree TAGS bytes segment) _ t chapters.1.1 in
    let made : record { info = info.0; tracks = children tracks.0 } ≡ t = cc (tags.1.1) in
    let P : Option Node → Type 0 = IsScaleOf bytes segment in
    subst P (ap (λ (u : Trees). u.info) made) (of_first bytes segment (first_info bytes segment) info.0 refl info.1.0)
