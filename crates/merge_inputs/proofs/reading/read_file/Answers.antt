use Rattle.std.proofs.Common.{◌≡◌, ℕ, Bool, true, map, Option, IfSome, option_map, sym, ◌∙◌, ap, subst}
use Rattle.std.specs.List.{All}
use Rattle.element_reader.specs.Outline.{FileOutline}
use Rattle.block_format.specs.Elements.{with_limits}
use Rattle.block_format.specs.Events.{events_of}
use Rattle.file_format.specs.FileBlocks.{file_events}
use Rattle.track_records.specs.Sound.{IsEntry}
use Rattle.track_records.specs.declared.track.Track.{Track}
use Rattle.tree_format.specs.Node.{Node}
use Rattle.ebml_tree.specs.Building.{IsRead}
use Rattle.mkv_schema.specs.declared.ids.TheConstants.{CHAPTERS}
use Rattle.meta_records.specs.Walk.{IsAttachedIn}
use Rattle.meta_records.specs.Attached.{in_file}
use Rattle.meta_records.specs.Records.{described_by}
use Rattle.meta_records.proofs.RecordsLemmas.{file_records-scale}
use Rattle.merge_inputs.specs.Input.{refusal_of}
use Rattle.merge_inputs.specs.Select.{kept_list, kept_one}
use Rattle.merge_inputs.specs.Taken.{first_unusable}
use Rattle.merge_inputs.specs.declared.input.InputRefusal.TheVariants.{Damaged}
use Rattle.merge_inputs.specs.declared.taken.TakenTrack.{TakenTrack}
use Rattle.merge_inputs.proofs.InputLemmas.{file_read-all, file_read-refused, kept-all, kept-files, kept-some, read-same}
use Rattle.merge_inputs.proofs.TakenLemmas.{AreTaken-read, taken-tracks}
use Rattle.merge_inputs.specs.Input.{listings_in}
use Rattle.merge_inputs.proofs.reading.read_file.Goals as goal

-- The tracks that were read are entries.
pub taken_of-requires : goal.taken_of-requires
taken_of-requires g c = c.in_ok-info.ensures.good.tracks.sound

-- The copied tracks are entries.
pub first_unusable-requires : goal.first_unusable-requires
first_unusable-requires g c =
    subst (All (λ (t : TakenTrack). IsEntry t.track.entry)) (sym (c.as_slice.ensures ∙ c.in_ok-taken.ensures))
    (taken-tracks (λ (t : Track). IsEntry t.entry) c.args.words.now c.in_ok-info.field-0.tracks (λ b t is. is) c.in_ok-info.ensures.good.tracks.sound)

-- The copied tracks are refused.
pub returns-in-Some-clause-exact : goal.returns-in-Some-clause-exact
returns-in-Some-clause-exact g c = λ bytes told.
    let outline = c.in_ok-outline.ensures.exact bytes told in
    let now = ap (λ s. (g.R.Reads.files s).content c.args.file.n) c.read_after.ensures.same.standing ∙ told in
    file_read-refused c.args.words.now c.args.webm c.args.held bytes c.in_ok-outline.outline (described_by c.in_ok-info.field-0) (Damaged c.in-Some.damage) outline
    (c.in_ok-info.ensures.exact bytes now c.args.held outline)
    (ap refusal_of (sym (c.as_slice.ensures ∙ c.in_ok-taken.ensures)) ∙ ap (option_map Damaged) (sym c.first_unusable.ensures ∙ c.in-Some.is))

-- The copied tracks aren't refused.
pub returns-clause-exact : goal.returns-clause-exact
returns-clause-exact g c = λ bytes told.
    let outline = c.in_ok-outline.ensures.exact bytes told in
    let now = ap (λ s. (g.R.Reads.files s).content c.args.file.n) c.read_after.ensures.same.standing ∙ told in
    file_read-all c.args.words.now c.args.webm c.args.held bytes c.in_ok-outline.outline (described_by c.in_ok-info.field-0) _ outline
    (c.in_ok-info.ensures.exact bytes now c.args.held outline)
    (ap refusal_of (sym (c.as_slice.ensures ∙ c.in_ok-taken.ensures)) ∙ ap (option_map Damaged) (sym c.first_unusable.ensures ∙ c.in_default.is))
    (read-same c.in_ok-new.field-0.value c.in_ok-outline.outline c.in_ok-new.ensures.ok c.scale_of.ensures.value c.in_ok-title_of.ensures c.len-count.ensures c.in_ok-taken.ensures
    (ap (map in_file) c.kept_files.ensures ∙ kept-files c.keeps_attachments.result c.in_ok-info.field-0.attachments
    ∙ ap (λ (is_kept : Bool). kept_list is_kept (map in_file c.in_ok-info.field-0.attachments)) c.keeps_attachments.ensures)
    (c.kept_tree.ensures ∙ ap (λ (is_kept : Bool). kept_one is_kept c.in_ok-info.field-0.chapters) c.keeps_chapters.ensures)
    c.in_ok-tags.ensures.exact
    c.keep_of.ensures c.unmoved.ensures (ap listings_in c.new-2.ensures))

-- The file is live as before, and the tracks can be used.
pub returns-clause-input : goal.returns-clause-input
returns-clause-input g c =
    let stands = c.read_records.ensures.standing ∙ c.read_after.ensures.same.standing in
    let total : c.in_ok-outline.outline.total ≡ c.size.result =
    c.in_ok-outline.ensures.total ∙ sym (ap (λ s. (g.R.Reads.files s).size c.args.file.n) stands) ∙ sym c.size.ensures.exact in
    record {
      live = ap (λ s. (g.R.Reads.files s).live c.args.file.n) stands ∙ c.requires.live;
      len = c.size.ensures.exact;
      blocks = record {
        size = ap (λ s. (g.R.Reads.files s).size c.args.file.n) stands ∙ sym c.in_ok-outline.ensures.total ∙ ap (λ (o : FileOutline). o.total) (sym c.in_ok-new.ensures.ok);
        scale = c.scale_of.ensures.some;
      };
      taken = AreTaken-read c.args.words.now c.in_ok-info.field-0.tracks c.in_ok-taken.taken c.in_ok-taken.ensures c.in_ok-info.ensures.good.tracks c.requires.delays
          (ap first_unusable (sym c.as_slice.ensures) ∙ sym c.first_unusable.ensures ∙ c.in_default.is);
      attachments =
          subst (λ (n : ℕ). All (IsAttachedIn c.args.file n) c.kept_files.result) total
          (subst (All (IsAttachedIn c.args.file c.in_ok-outline.outline.total)) (sym c.kept_files.ensures)
          (kept-all (IsAttachedIn c.args.file c.in_ok-outline.outline.total) _ _ c.in_ok-info.ensures.good.attachments));
      chapters = subst (λ (tree : Option Node). IfSome tree (IsRead CHAPTERS)) (sym c.kept_tree.ensures) (kept-some (IsRead CHAPTERS) _ _ c.in_ok-info.ensures.good.chapters);
      tags = c.in_ok-tags.ensures.read;
    }

-- The Info that was read gives the scale.
pub returns-clause-events : goal.returns-clause-events
returns-clause-events g c = λ bytes told.
    let outline = c.in_ok-outline.ensures.exact bytes told in
    let now = ap (λ s. (g.R.Reads.files s).content c.args.file.n) c.read_after.ensures.same.standing ∙ told in
    ap (λ (o : FileOutline). events_of (with_limits c.scale_of.result) bytes o.segment) c.in_ok-new.ensures.ok
    ∙ ap (λ (scale : ℕ). events_of (with_limits scale) bytes c.in_ok-outline.outline.segment)
    (c.scale_of.ensures.value ∙ file_records-scale bytes c.in_ok-outline.outline.segment (described_by c.in_ok-info.field-0) (c.in_ok-info.ensures.exact bytes now c.args.held outline))
    ∙ ap (λ (o : FileOutline). file_events true bytes o.segment) (sym c.in_ok-new.ensures.ok)

-- The Tags can be read again.
pub kept_tags-requires : goal.kept_tags-requires
kept_tags-requires g c = c.in_ok-info.ensures.good.tags
