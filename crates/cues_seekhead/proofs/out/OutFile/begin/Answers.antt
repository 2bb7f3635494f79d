use Rattle.std.proofs.Common.{◌≡◌, ◌<◌, ◌++◌, ℕ, List, [], ◌∷◌, length, map, refl, ap, subst, ◌∙◌, arith}
use Rattle.std.proofs.lemmas.Result.{err_from_is_err_and}
use Rattle.mkv_io.specs.Contents.{with_appended}
use Rattle.mkv_io.specs.Names.{with_change, with_content}
use Rattle.mkv_io.specs.Sources.{live_files}
use Rattle.mkv_io.specs.Writing.{KeepsOthers}
use Rattle.output_model.specs.declared.attachment.Attachment.{Attachment}
use Rattle.tree_format.specs.Node.{Node}
use Rattle.output_model.specs.Element.{joined}
use Rattle.output_model.specs.Document.{opened_with, tree_element}
use Rattle.mkv_outputs.specs.Written.{PassesSome}
use Rattle.output_model.specs.Front.{front_with}
use Rattle.cues_seekhead.proofs.AttachingLemmas.{attached_octets}
use Rattle.cues_seekhead.proofs.BeginLemmas.{EndsOnly-one, CanAttach-created, KeepsOthers-unmade, MakesFile-created, attached-all-created, begun-known, begun-none, begun-octets, begun-part, can-data}
use Rattle.cues_seekhead.proofs.DraftLemmas.{appended-to}
use Rattle.cues_seekhead.proofs.LayoutLemmas.{length-opened}
use Rattle.cues_seekhead.proofs.MadeLemmas.{MakesFile-ended, MakesFile-kept}
use Rattle.cues_seekhead.proofs.out.OutFile.begin.Goals as goal

-- The file wasn't created.
pub returns-in_err-file-clause-err : goal.returns-in_err-file-clause-err
returns-in_err-file-clause-err g c =
    let p = err_from_is_err_and c.from_residual-in_err-file.result c.from_residual-in_err-file.ensures.1 in
    rw p.1 (begun-none _ _ c.args.name.now _ c.in_err-file.ensures.refused.names)

pub returns-in_err-file-clause-made : goal.returns-in_err-file-clause-made
returns-in_err-file-clause-made g c =
    let p = err_from_is_err_and c.from_residual-in_err-file.result c.from_residual-in_err-file.ensures.1 in
    let r = g.F.Reads in
    let f = g.F.Files in
    let old = c.args.files.now in
    let new = c.create.new.self in
    rw p.1 (KeepsOthers-unmade r f c.args.name.now old new c.create.result (g.met.F.Files.numbered old) c.in_err-file.ensures.refused.live c.create.ensures.stays c.create.ensures.asks)

-- Attached files are unchanged.
pub write_front-requires-clause-attached : goal.write_front-requires-clause-attached
write_front-requires-clause-attached g c = λ k d below.
    let old = c.args.files.now in
    let new = c.create.new.self in
    let ok = c.in_ok-file.ensures.made in
    let made = MakesFile-created g.F.Reads g.F.Files c.args.name.now c.in_ok-file.file old new c.create.result (g.met.F.Files.numbered old) ok.is_new c.create.ensures.stays c.create.ensures.asks in
    CanAttach-created g.F.Reads g.F.Files c.args.name.now c.in_ok-file.file old new _ (g.met.F.Files.numbered old) made (c.requires.attached k d below)

-- The output was created and written.
pub returns-in-Ok-clause-made : goal.returns-in-Ok-clause-made
returns-in-Ok-clause-made g c =
    let r = g.F.Reads in
    let f = g.F.Files in
    let old = c.args.files.now in
    let new = c.create.new.self in
    let ok = c.in_ok-file.ensures.made in
    let made = MakesFile-created r f c.args.name.now c.in_ok-file.file old new c.create.result (g.met.F.Files.numbered old) ok.is_new c.create.ensures.stays c.create.ensures.asks in
    let P : List ℕ → Type 0 = λ name. KeepsOthers r f (name ∷ []) new c.write_front.new.files in
    MakesFile-kept r f c.args.name.now c.in_ok-file.file old new c.write_front.new.files (g.met.F.Files.numbered old) made (subst P ok.is_new.holder c.write_front.ensures.kept)

-- The name has the elements before the Clusters.
pub returns-in-Ok-clause-ok : goal.returns-in-Ok-clause-ok
returns-in-Ok-clause-ok g c =
    let r = g.F.Reads in
    let f = g.F.Files in
    let old = c.args.files.now in
    let new = c.create.new.self in
    let ok = c.in_ok-file.ensures.made in
    let name = c.args.name.now in
    let front = c.args.front.now in
    let them = front.attachments in
    let files = live_files r old in
    let made = MakesFile-created r f name c.in_ok-file.file old new c.create.result (g.met.F.Files.numbered old) ok.is_new c.create.ensures.stays c.create.ensures.asks in
    let masters = λ (k : ℕ) (d : Attachment) (below : k < length them). (c.requires.attached k d below).master in
    let own = λ (k : ℕ) (d : Attachment) (below : k < length them). (c.requires.attached k d below).id in
    let have = can-data r f name old them (g.met.F.Reads.told_size (r.standing old)) c.requires.attached in
    let opening = c.in_ok-opening.ensures.opening in
    let whole : c.as_slice.result.now ++ attached_octets (live_files r new) them ≡ opened_with (front_with files front) [] =
    ap (λ w. w ++ attached_octets (live_files r new) them) c.as_slice.ensures
    ∙ ap (λ (ns : List Node). c.in_ok-opening.opening.octets ++ joined (map tree_element ns)) (attached-all-created r f name c.in_ok-file.file old new them made c.requires.attached)
    ∙ begun-octets files front c.in_ok-opening.opening opening masters own have in
    let known = begun-known files front c.in_ok-opening.opening (record { file = c.in_ok-file.file; webm = front.webm; len = c.in_ok-opening.opening.len; place = c.in_ok-opening.opening.place; seeks = c.in_ok-opening.opening.seeks.items; cues = [] }) opening masters own have refl refl refl refl in
    record {
      is_open = record {
        live = c.write_front.ensures.kept.live c.in_ok-file.file.n ∙ ok.is_new.live;
        size = omega (arith, c.in-Ok.ensures.size, ok.size, ap length whole, length-opened (front_with files front) [], known.len);
      };
      holder = c.write_front.ensures.kept.holders c.in_ok-file.file.n ok.is_new.live ∙ ok.is_new.holder;
      names = appended-to (f.names old) (f.names new) (f.names c.write_front.new.files) name [] _ ok.names
          (c.in-Ok.ensures.appended ∙ ap (λ h. with_change (f.names new) h (with_appended (c.as_slice.result.now ++ attached_octets (live_files r new) them))) ok.is_new.holder)
          ∙ ap (with_content (f.names old) name) whole;
      known = record { webm = known.webm; len = known.len; place = known.place; seeks = known.seeks };
    }

-- A prefix was written.
pub returns-clause-err : goal.returns-clause-err
returns-clause-err g c =
    let r = g.F.Reads in
    let f = g.F.Files in
    let old = c.args.files.now in
    let new = c.create.new.self in
    let ok = c.in_ok-file.ensures.made in
    let name = c.args.name.now in
    let front = c.args.front.now in
    let them = front.attachments in
    let files = live_files r old in
    let made = MakesFile-created r f name c.in_ok-file.file old new c.create.result (g.met.F.Files.numbered old) ok.is_new c.create.ensures.stays c.create.ensures.asks in
    let masters = λ (k : ℕ) (d : Attachment) (below : k < length them). (c.requires.attached k d below).master in
    let own = λ (k : ℕ) (d : Attachment) (below : k < length them). (c.requires.attached k d below).id in
    let have = can-data r f name old them (g.met.F.Reads.told_size (r.standing old)) c.requires.attached in
    let whole : c.as_slice.result.now ++ attached_octets (live_files r new) them ≡ opened_with (front_with files front) [] =
    ap (λ w. w ++ attached_octets (live_files r new) them) c.as_slice.ensures
    ∙ ap (λ (ns : List Node). c.in_ok-opening.opening.octets ++ joined (map tree_element ns)) (attached-all-created r f name c.in_ok-file.file old new them made c.requires.attached)
    ∙ begun-octets files front c.in_ok-opening.opening c.in_ok-opening.ensures.opening masters own have in
    let P : List ℕ → Type 0 = λ w. PassesSome (f.names new) (f.names c.write_front.new.files) (f.holder new c.in_ok-file.file.n) w in
    rw c.close.ensures.stays.names (begun-part (f.names old) (f.names new) (f.names c.write_front.new.files) (f.holder new c.in_ok-file.file.n) name (opened_with (front_with files front) []) ok.names ok.is_new.holder (subst P whole c.in-Err.ensures.appended))

-- The file was closed.
pub returns-clause-made : goal.returns-clause-made
returns-clause-made g c =
    let r = g.F.Reads in
    let f = g.F.Files in
    let old = c.args.files.now in
    let new = c.create.new.self in
    let wrote = c.write_front.new.files in
    let ok = c.in_ok-file.ensures.made in
    let made = MakesFile-created r f c.args.name.now c.in_ok-file.file old new c.create.result (g.met.F.Files.numbered old) ok.is_new c.create.ensures.stays c.create.ensures.asks in
    let P : List ℕ → Type 0 = λ name. KeepsOthers r f (name ∷ []) new wrote in
    let kept = MakesFile-kept r f c.args.name.now c.in_ok-file.file old new wrote (g.met.F.Files.numbered old) made (subst P ok.is_new.holder c.write_front.ensures.kept) in
    MakesFile-ended r f c.args.name.now c.in_ok-file.file old wrote c.close.new.self (g.met.F.Files.numbered old) kept
    (EndsOnly-one r f wrote c.close.new.self c.in_ok-file.file c.close.ensures.ended c.close.ensures.stays c.close.ensures.unread)
