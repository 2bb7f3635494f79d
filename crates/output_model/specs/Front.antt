-- The part before the Clusters, with the data of attached files.
use Rattle.std.specs.Prelude.{map}
use Rattle.mkv_io.specs.LiveFiles.{LiveFiles}
use Rattle.output_model.specs.Attached.{attached_file}
use Rattle.output_model.specs.Document.{Front, lasting_if}
use Rattle.output_model.specs.declared.front.Front as given

-- the part of an output before its first Cluster, as its document has it. `f` is the part as the writer gets it, and `files`, the live files before,
-- have the data of attached files. The end of the output isn't known yet: it counts as 0 if there is a Duration.
abbrev pub front_with : LiveFiles → given.Front → Front
front_with files f = record {
  webm = f.webm;
  lasting = lasting_if f.duration;
  info = f.info;
  tracks = f.tracks;
  attachments = map (attached_file files) f.attachments;
}
