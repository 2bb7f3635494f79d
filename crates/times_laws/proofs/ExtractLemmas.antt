-- The content that an extraction wrote for the timestamps of a track.
use Rattle.std.proofs.Common.{◌≡◌, ℕ, Bool, true, false, List, [], ◌∷◌, ◌++◌, map, Option, Some, None, Result, Ok, Err, refl, sym, ap, subst}
use Rattle.std.specs.Prelude.{ok_or, option_map, slice_get}
use Rattle.mkv_io.specs.Results.{and_then, unless}
use Rattle.mkv_io.specs.declared.damage.Damage.{Damage}
use Rattle.mkv_schema.specs.Outline.{Outlined, outline_of}
use Rattle.mkv_schema.proofs.OutlineLemmas.{and_then-ok, unless-ok}
use Rattle.tree_format.specs.Node.{Node}
use Rattle.block_format.specs.Block.{Block}
use Rattle.block_format.specs.Events.{blocks_of}
use Rattle.file_format.specs.FileBlocks.{file_events}
use Rattle.meta_records.specs.Records.{FileRecords, file_records}
use Rattle.requests.specs.declared.job.Form.TheVariants.{Times}
use Rattle.mkv_outputs.specs.Outputs.{Output}
use Rattle.extractors.specs.Codec.{times_head}
use Rattle.extractors.specs.Content.{content_of, output_of, outputs_of}
use Rattle.extractors.specs.Job.{output_for, output_with, targets_of}
use Rattle.extractors.specs.Source.{entry_in}
use Rattle.extractors.specs.Whole.{output}
use Rattle.extractors.specs.declared.frame_form.Coding.{Coding}
use Rattle.extractors.specs.declared.frame_form.FrameForm.TheVariants.{Time}
use Rattle.mkv_lines.specs.Verdict.{Verdict, at_once}
use Rattle.mkv_lines.specs.Line.{missing_line, output_is_input_line}
use Rattle.sidecar_edit.specs.Pending.{is_pending}
use Rattle.mkv_extract.specs.Extract.{Taken, frames_taken, unfit_track, verdict_of}
use Rattle.mkv_extract.specs.Steps.{file_taken, found_taken, settled_taken}
use Rattle.mkv_extract.specs.Names.{first_written}
use Rattle.mkv_extract.specs.Read.{FileRead, first_unusable, read_of, read_with}
use Rattle.times_laws.specs.GivenBack.{World, WritesTimes, times_job}

-- the coding of a timestamp output
abbrev pub times_coding : Coding
times_coding = record { head = times_head; form = Time }

-- `content` lists the timestamps of the track `id` in the file `bytes`.
pub record ListsTimes (bytes : List ℕ) (id : ℕ) (content : List ℕ) : Type 0 where
  pub outline : Outlined
  pub records : FileRecords
  pub name : List ℕ
  pub entry : Node
  pub outlined : outline_of 0 bytes ≡ Ok outline
  pub read : file_records bytes outline.segment ≡ Ok records
  pub found : slice_get (map entry_in records.tracks) id ≡ Some entry
  pub written : content_of (output_with name entry times_coding) (blocks_of (file_events true bytes outline.segment)) ≡ content

module _ (name out : List ℕ) (id : ℕ) (content : List ℕ) where
  -- The job has only this output.
  abbrev Writes : Verdict → Type 0
  Writes v = v.outputs ≡ at_once (output out content ∷ [])

  -- The frames taken from a file that was read have only this output.
  abbrev Takes : List ℕ → FileRead → Type 0
  Takes bytes file = at_once (frames_taken name (times_job id out) file (file_events true bytes file.segment)).outputs ≡ at_once (output out content ∷ [])

  fit : (o : Option (List ℕ)) (t : Taken) → Writes (verdict_of name (unless o t)) → at_once t.outputs ≡ at_once (output out content ∷ [])
  fit None t is = is
  fit (Some line) t is = absurd (cc)

  read : (bytes : List ℕ) (found : Result FileRead Damage) → Writes (verdict_of name (found_taken name (times_job id out) bytes found)) → (file : FileRead) × ((found ≡ Ok file) × Takes bytes file)
  read bytes (Ok file) is = (file, (refl, fit (unfit_track name (times_job id out) file) (frames_taken name (times_job id out) file (file_events true bytes file.segment)) is))
  read bytes (Err d) is = absurd (cc)

  settled : (pending : Bool) (bytes : List ℕ) → Writes (verdict_of name (settled_taken name (times_job id out) pending bytes)) → Writes (verdict_of name (file_taken name (times_job id out) bytes))
  settled false bytes is = is
  settled true bytes is = absurd (cc)

  there : (written : Option (List ℕ)) (pending : Bool) (o : Option (List ℕ))
      → Writes (verdict_of name (and_then (unless (option_map output_is_input_line written) o) (λ (held : Option (List ℕ)). and_then (ok_or held (missing_line name)) (settled_taken name (times_job id out) pending))))
      → (bytes : List ℕ) × ((o ≡ Some bytes) × Writes (verdict_of name (file_taken name (times_job id out) bytes)))
  there None pending (Some bytes) is = (bytes, (refl, settled pending bytes is))
  there None pending None is = absurd (cc)
  there (Some other) pending o is = absurd (cc)

  -- The output of the track, if the track exists.
  one : (o : Option Node) (blocks : List Block) → at_once (outputs_of (output_for Times (record { id = id; name = out }) o ++ []) blocks) ≡ at_once (output out content ∷ [])
      → (entry : Node) × ((o ≡ Some entry) × (content_of (output_with out entry times_coding) blocks ≡ content))
  one (Some entry) blocks is =
      let same : output_of (output_with out entry times_coding) blocks ≡ output out content = cc in
      (entry, (refl, ap (λ (each : Output). each.content) same))
  one None blocks is = absurd (cc)

  lists : (bytes : List ℕ) (file : FileRead) → read_of (times_job id out) bytes ≡ Ok file → Takes bytes file → ListsTimes bytes id content
  lists bytes file is takes =
      let outlined = and_then-ok (outline_of 0 bytes) _ file is in
      let o : Outlined = outlined.0 in
      let records = and_then-ok (file_records bytes o.segment) _ file outlined.1.1 in
      let r : FileRecords = records.0 in
      let good = unless-ok (first_unusable (targets_of (times_job id out)) r.tracks) (read_with o.segment o.damage r None) file records.1.1 in
      let own = one (slice_get (map entry_in r.tracks) id) (blocks_of (file_events true bytes o.segment)) (subst (Takes bytes) (sym good.1) takes) in
      record {
        outline = o;
        records = r;
        name = out;
        entry = own.0;
        outlined = outlined.1.0;
        read = records.1.0;
        found = own.1.0;
        written = own.1.1;
      }

-- An extraction that writes `content` has read a file whose timestamps it lists.
pub extracted : (before : World) (name : List ℕ) (id : ℕ) (content : List ℕ) → WritesTimes before name id content → (bytes : List ℕ) × ((before name ≡ Some bytes) × ListsTimes bytes id content)
extracted before name id content writes =
    let out : List ℕ = writes.0 in
    let job = times_job id out in
    let named = there name out id content (first_written name job) (is_pending before name) (before name) writes.1 in
    let file = read name out id content named.0 (read_of job named.0) named.1.1 in
    (named.0, (named.1.0, lists name out id content named.0 file.0 file.1.0 file.1.1))
