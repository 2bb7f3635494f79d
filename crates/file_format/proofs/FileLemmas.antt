-- The entries of a file, with and without a reader's limits.
use Rattle.std.proofs.Common.{◌≡◌, ℕ, List, Option, Some, None, Result, Ok, Err, refl, ap, ◌∙◌}
use Rattle.mkv_schema.specs.declared.ids.TheConstants.{TRACKS}
use Rattle.mkv_io.specs.declared.damage.Damage.{Damage}
use Rattle.mkv_schema.specs.declared.element.Header.{Header}
use Rattle.mkv_schema.specs.Outline.{segment_run}
use Rattle.mkv_io.specs.Results.{and_then}
use Rattle.mkv_schema.specs.Value.{body_of, first_of}
use Rattle.tree_format.specs.declared.limits.TheConstants.{MAX_NODES}
use Rattle.tree_format.specs.Node.{Node}
use Rattle.tree_format.proofs.OrderLemmas.{tree_of-without_limits}
use Rattle.file_format.specs.FileTracks.{tracks_tree, tracks_without_limits, entries_in, entries_at, file_entries, entries_without_limits, LimitsChangeNoEntry}

tree-entries : (bytes : List ℕ) (h : Header) (entries : List Node) (read : Result Node Damage) → tracks_tree bytes h ≡ read → and_then read entries_in ≡ Ok entries
    → and_then (tracks_without_limits bytes h) entries_in ≡ Ok entries
tree-entries bytes h entries (Ok tracks) is found =
    ap (λ r. and_then r entries_in) (tree_of-without_limits h.id h.offset (body_of bytes h) h.body MAX_NODES tracks is) ∙ found
tree-entries bytes h entries (Err d) is found = absurd (cc)

first-entries : (bytes : List ℕ) (entries : List Node) (first : Option Header) → entries_at (tracks_tree bytes) first ≡ Ok entries → entries_at (tracks_without_limits bytes) first ≡ Ok entries
first-entries bytes entries None found = found
first-entries bytes entries (Some h) found = tree-entries bytes h entries (tracks_tree bytes h) refl found

pub limits-no-entry : LimitsChangeNoEntry
unfolding file_entries entries_without_limits
limits-no-entry bytes segment entries found = first-entries bytes entries (first_of TRACKS (segment_run bytes segment).list) found
