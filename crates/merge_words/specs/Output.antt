-- Options of the whole output of a merge, collected from the items of its command line. All of it is this project's, after mkvmerge(1).
use Rattle.std.specs.Prelude.{ℕ, List, [], Option, unwrap_or, option_and_then}
use Rattle.requests.specs.declared.split.SplitWords.{SplitWords}
use Rattle.merge_words.specs.declared.options.Subject.TheVariants as subject
use Rattle.merge_words.specs.declared.item.Item.{Item}
use Rattle.requests.specs.declared.merge.MergeWords.{MergeWords}
use Rattle.merge_words.specs.declared.output.TheConstants.{DEFAULT_SCALE, DEFAULT_BLOCKS, DEFAULT_SPAN}
use Rattle.merge_words.specs.Items.{stands}
use Rattle.merge_words.specs.Said.{value_in, file_in, text_of, scale_of, blocks_of, span_of, split_of, uuids_of, order_of}
use Rattle.merge_words.specs.Files.{files}
use Rattle.merge_words.specs.Attached.{attached}

-- the name of the output, the value of `-o` among `items`, or an empty text without it. For `merge_words`, when the command line of `merge` is read.
abbrev pub output_in : List Item → List ℕ
output_in items = unwrap_or (file_in subject.Output items) []

-- the title of the output, the value of `--title` among `items`, if it is given. For `merge_words`.
abbrev pub title_in : List Item → Option (List ℕ)
title_in items = option_and_then text_of (value_in subject.Title items)

-- the nanoseconds per tick of the output, the value of `--timestamp-scale` among `items`, or the default. For `merge_words`.
abbrev pub scale_in : List Item → ℕ
scale_in items = unwrap_or (option_and_then scale_of (value_in subject.Scale items)) DEFAULT_SCALE

-- the maximum number of blocks in a Cluster that `--cluster-length` among `items` gives, or the default. For `merge_words`.
abbrev pub blocks_in : List Item → ℕ
blocks_in items = unwrap_or (option_and_then blocks_of (value_in subject.ClusterLength items)) DEFAULT_BLOCKS

-- the maximum distance in nanoseconds from a Cluster's Timestamp to its last block that `--cluster-length` among `items` gives, or the default. For
-- `merge_words`.
abbrev pub span_in : List Item → ℕ
span_in items = unwrap_or (option_and_then span_of (value_in subject.ClusterLength items)) DEFAULT_SPAN

-- the rule for parts of the output that `--split` among `items` gives, if it is given. For `merge_words`.
abbrev pub split_in : List Item → Option SplitWords
split_in items = option_and_then split_of (value_in subject.Split items)

-- the SegmentUUIDs that `--segment-uid` among `items` gives, or none. For `merge_words`.
abbrev pub uuids_in : List Item → List ℕ
uuids_in items = unwrap_or (option_and_then uuids_of (value_in subject.Uuids items)) []

-- the tracks that come first in the output, the value of `--track-order` among `items`, or none without it. For `merge_words`.
abbrev pub order_in : List Item → List (ℕ × ℕ)
order_in items = unwrap_or (option_and_then order_of (value_in subject.Order items)) []

-- the request of the merge that the items `items` of a complete command line ask for. For `merged`.
unfoldable pub merge_words : List Item → MergeWords
merge_words items = record {
  output = output_in items;
  webm = stands subject.Webm items;
  title = title_in items;
  chapters = file_in subject.ChapterFile items;
  scale = scale_in items;
  blocks = blocks_in items;
  span = span_in items;
  split = split_in items;
  files = files items;
  uuids = uuids_in items;
  link = stands subject.Link items;
  duration = stands subject.Duration items;
  append_damaged = stands subject.AppendDamaged items;
  attached = attached items;
  order = order_in items;
}
