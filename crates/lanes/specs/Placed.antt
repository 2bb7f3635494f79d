-- A block of an input, placed in the output.
use Rattle.std.specs.Prelude.{ℕ, ◌==◌, if◌then◌else◌, List, []}
use Rattle.block_format.specs.Block.{Block}
use Rattle.block_reader.specs.Buffered.{Buffered}
use Rattle.mkv_io.specs.declared.entry.Entry.{Entry}
use Rattle.output_model.specs.OutputBlock.{Lent, OutputBlock}
use Rattle.merge_model.specs.Links.{entry_block, placed}
use Rattle.merge_model.specs.FileLinks.{listing_of, placing_of, text_with}
use Rattle.merge_model.specs.Timed.{time_for}
use Rattle.merge_model.specs.declared.link.TrackLink.{TrackLink}
use Rattle.merge_model.specs.declared.link.TextLink.{TextLink}
use Rattle.lanes.specs.declared.place.Placed.{Placed}

-- the block `b` with its time in nanoseconds for the link `t`: its own or a timestamp file's. `k` frames of the track precede it. Used by
-- `track_placed`, and for the end of a block.
abbrev pub at_time : TrackLink → ℕ → Block → Block
at_time t k b = record b { time = time_for (listing_of t) k b.time }

-- the block `b` of a file as the link `t` places it in an output with `scale` nanoseconds per tick, or nothing if it is dropped. `k` frames of the
-- track precede it. `TrackBecomes` uses it.
abbrev pub track_placed : ℕ → TrackLink → ℕ → Block → List OutputBlock
track_placed scale t k b = if b.track == t.number then placed scale (placing_of t) (at_time t k b) else []

-- the buffered block `b` that the link `t` has placed as `p`, as plain values. The contract of `place_block` uses it.
abbrev pub track_lent : TrackLink → Buffered → Placed → Lent
track_lent t b p = record { head = p.head; prefix = t.prefix; body = b.body; sizes = b.sizes; references = p.references.items; kept = b.kept }

-- the subtitle `e` as the text `t` places it in an output with `scale` nanoseconds per tick, or nothing if it is dropped. `EntryBecomes` uses it.
abbrev pub entry_placed : ℕ → TextLink → Entry → List OutputBlock
entry_placed scale t e = placed scale (text_with t []).placing (entry_block e)

-- the subtitle with the text `text` that was placed as `p`, as plain values: one frame. The contract of `place_entry` uses it.
abbrev pub text_lent : List ℕ → Placed → Lent
text_lent text p = record { head = p.head; prefix = []; body = text; sizes = p.one_size; references = p.references.items; kept = [] }

-- no block, as plain values, for an output track that hasn't placed one; `p` are the parts before the first block. `lent_by` uses it.
abbrev pub nothing_lent : Placed → Lent
nothing_lent p = record { head = p.head; prefix = []; body = []; sizes = []; references = p.references.items; kept = [] }
