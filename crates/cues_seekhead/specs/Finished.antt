-- An output with all its Clusters, and its finished file.
use Rattle.std.specs.Prelude.{◌≡◌, ℕ, List, length, Option, IfSome, Result, Ok, Err}
use Rattle.mkv_io.specs.Names.{Names, with_content}
use Rattle.mkv_io.specs.declared.reads.Reads.{Ghosts}
use Rattle.mkv_io.specs.declared.files.Files as writing
use Rattle.mkv_io.specs.declared.remux_end.RemuxEnd.{RemuxEnd}
use Rattle.mkv_outputs.specs.Drafts.{output_of}
use Rattle.tree_format.specs.Node.{Node}
use Rattle.output_model.specs.Element.{joined}
use Rattle.output_model.specs.Document.{Document, clusters_elements, layout}
use Rattle.cues_seekhead.specs.OpenOutput.{OpenOutput, StandsOpen}
use Rattle.cues_seekhead.specs.Draft.{StandsDrafted, draft_of}

-- All Clusters of the document `d` are in the file of the open output `o`, which can be finished. `d` has the cue points of `o`, and the given
-- Chapters and Tags, and ends at the tick `end`, if it has a Duration. Other names have the content that they have in `before`.
pub record IsReady {S : Type 0} (r : Ghosts S) (f : writing.Ghosts S) (before : Names) (d : Document) (files : S) (o : OpenOutput) (end : ℕ) (its_chapters its_tags : Option Node) : Type 0 where
  pub stands : StandsOpen r f before (f.holder files o.file.n) d.front (joined (clusters_elements d.clusters)) files o
  pub cues : d.cues ≡ o.cues
  pub lasting : IfSome d.front.lasting (λ known. known ≡ end)
  pub chapters : d.chapters ≡ its_chapters
  pub tags : d.tags ≡ its_tags

-- In `now` the file `name` has the content of the document `d`, which is `len` bytes long and as its draft leaves it: the output is finished. Other
-- names are as in `before`.
pub record HoldsLayout (before now : Names) (name : List ℕ) (d : Document) (len : ℕ) : Type 0 where
  pub names : now ≡ with_content before name (layout d)
  pub len_is : len ≡ length (layout d)
  pub becomes : output_of (draft_of name d) ≡ record { name = name; content = layout d }

-- The contract of `finish`, from `old` to `new`: for each document for which the open output `o` is ready, its name has the layout of the document,
-- of the returned length. After an error the content is one of the document's draft. `end` is the last tick, and `r` and `f` give the proof's view of
-- the files.
abbrev pub Finishes : {S : Type 0} → Ghosts S → writing.Ghosts S → OpenOutput → ℕ → Option Node → Option Node → S → S → Result ℕ RemuxEnd → Type 0
Finishes r f o end chapters tags old new (Ok len) =
    (before : Names) (d : Document) → IsReady r f before d old o end chapters tags → HoldsLayout before (f.names new) (f.holder old o.file.n) d len
Finishes r f o end chapters tags old new (Err _) =
    (before : Names) (d : Document) → IsReady r f before d old o end chapters tags → StandsDrafted before (f.names new) (draft_of (f.holder old o.file.n) d)
