-- An output with all its Clusters becomes its layout.
use Rattle.std.proofs.Common.{◌≡◌, ℕ, ◌+◌, List, ◌++◌, length, Result, Ok, Err, Option, refl, sym, ap, subst, ◌∙◌, arith}
use Rattle.std.proofs.lemmas.List.{length-append}
use Rattle.ebml_numbers.specs.Number.{size_octets}
use Rattle.mkv_io.specs.Faults.{HasCause}
use Rattle.mkv_io.specs.Names.{Names, with_content}
use Rattle.mkv_io.specs.declared.reads.Reads.{Ghosts}
use Rattle.mkv_io.specs.declared.files.Files as writing
use Rattle.mkv_io.specs.Ends.{HasRemuxCause, is_remux_read_fault, is_remux_write_fault}
use Rattle.mkv_io.specs.declared.remux_end.RemuxEnd.{RemuxEnd}
use Rattle.mkv_outputs.specs.Drafts.{Draft, Patch, patched}
use Rattle.tree_format.specs.Node.{Node}
use Rattle.output_model.specs.Element.{Element, joined}
use Rattle.output_model.specs.declared.places.CuePoint.{CuePoint}
use Rattle.output_model.specs.declared.places.Seek.{Seek}
use Rattle.output_model.specs.SeekHead.{area_elements, seeks_from}
use Rattle.output_model.specs.Document.{Document, back_with, back_elements, back_at, front_elements, clusters_elements, clusters_at, elements_behind_area, opened_with, opened, seeks_of, segment_size}
use Rattle.cues_seekhead.specs.Front.{body_start}
use Rattle.cues_seekhead.specs.Draft.{StandsDrafted, draft_of, duration_patches, patches_at, patches_with}
use Rattle.cues_seekhead.specs.Ending.{IsEnding}
use Rattle.cues_seekhead.specs.Finished.{Finishes, HoldsLayout, IsReady}
use Rattle.cues_seekhead.specs.OpenOutput.{OpenOutput}
use Rattle.cues_seekhead.specs.declared.ending.Ending.{Ending}
use Rattle.cues_seekhead.proofs.AppendingLemmas.{PassesSome-none}
use Rattle.cues_seekhead.proofs.DraftLemmas.{StandsDrafted-begun}
use Rattle.cues_seekhead.proofs.DurationLemmas.{patches-known}
use Rattle.cues_seekhead.proofs.LayoutLemmas.{opened-more, behind-area, draft-layout, length-layout, length-opened}

-- the content before the last writes
abbrev pub so_far : Document → List ℕ
so_far d = opened_with d.front (joined (clusters_elements d.clusters))

-- The elements after the Clusters follow.
back-is : {S : Type 0} (r : Ghosts S) (f : writing.Ghosts S) (before : Names) (d : Document) (files : S) (o : OpenOutput) (end : ℕ) (its_chapters its_tags : Option Node) → IsReady r f before d files o end its_chapters its_tags → back_with o.cues its_chapters its_tags ≡ back_elements d
back-is r f before d files o end its_chapters its_tags ready =
    ap (λ (cs : List CuePoint). back_with cs its_chapters its_tags) (sym ready.cues) ∙ ap (λ n. back_with d.cues n its_tags) (sym ready.chapters) ∙ ap (λ n. back_with d.cues d.chapters n) (sym ready.tags)

-- The length of the Segment's body is the computed one.
total-is : (d : Document) (len : ℕ) (back : List ℕ) → len ≡ clusters_at d.front + length (joined (clusters_elements d.clusters)) → back ≡ joined (back_elements d) → len + length back ≡ 256 + length (joined (elements_behind_area d))
total-is d len back is same =
    omega (
      arith,
      is,
      ap length same,
      ap length (behind-area d),
      length-append (joined (front_elements d.front)) (joined (clusters_elements d.clusters) ++ joined (back_elements d)),
      length-append (joined (clusters_elements d.clusters)) (joined (back_elements d)),
    )

-- The last writes make the draft of the document.
pub ending-draft : {S : Type 0} (r : Ghosts S) (f : writing.Ghosts S) (before : Names) (d : Document) (files : S) (o : OpenOutput) (end : ℕ) (its_chapters its_tags : Option Node) (name : List ℕ) (e : Ending)
    → IsReady r f before d files o end its_chapters its_tags → IsEnding o.len o.seeks (back_with o.cues its_chapters its_tags) e
    → record { name = name; appended = so_far d ++ e.back; patches = patches_with (body_start o.webm) o.place end e.area (size_octets e.total 8) } ≡ draft_of name d
ending-draft r f before d files o end its_chapters its_tags name e ready ending =
    let known = ready.stands.known in
    let same = back-is r f before d files o end its_chapters its_tags ready in
    let back : e.back ≡ joined (back_elements d) = ending.back ∙ ap joined same in
    let appended : so_far d ++ e.back ≡ opened d = ap (λ w. so_far d ++ w) back ∙ opened-more d.front (joined (clusters_elements d.clusters)) (joined (back_elements d)) in
    let seeks : o.seeks ++ seeks_from o.len (back_with o.cues its_chapters its_tags) ≡ seeks_of d =
    ap (λ (ss : List Seek). ss ++ seeks_from o.len (back_with o.cues its_chapters its_tags)) known.seeks
    ∙ ap (λ n. seeks_from 256 (front_elements d.front) ++ seeks_from n (back_with o.cues its_chapters its_tags)) known.len
    ∙ ap (λ (es : List Element). seeks_from 256 (front_elements d.front) ++ seeks_from (back_at d) es) same in
    let area : e.area ≡ joined (area_elements (seeks_of d)) = ending.area ∙ ap (λ (ss : List Seek). joined (area_elements ss)) seeks in
    let total : e.total ≡ 256 + length (joined (elements_behind_area d)) = ending.total ∙ total-is d o.len e.back known.len back in
    let build : List ℕ → ℕ → List ℕ → ℕ → Draft = λ w start a n. record { name = name; appended = w; patches = patches_with start o.place end a (size_octets n 8) } in
    ap (λ w. build w (body_start o.webm) e.area e.total) appended
    ∙ ap (λ b. build (opened d) (body_start b) e.area e.total) known.webm
    ∙ ap (λ a. build (opened d) (body_start d.front.webm) a e.total) area
    ∙ ap (λ n. build (opened d) (body_start d.front.webm) (joined (area_elements (seeks_of d))) n) total
    ∙ ap (λ (ps : List Patch). record { name = name; appended = opened d; patches = ps ++ patches_at (body_start d.front.webm) (joined (area_elements (seeks_of d))) (segment_size (length (joined (elements_behind_area d)))) })
    (ap (λ p. duration_patches (body_start d.front.webm) p end) known.place ∙ patches-known (body_start d.front.webm) end d.front.info d.front.lasting ready.lasting)

-- The area of the document has its fixed length.
ending-filled : {S : Type 0} (r : Ghosts S) (f : writing.Ghosts S) (before : Names) (d : Document) (files : S) (o : OpenOutput) (end : ℕ) (its_chapters its_tags : Option Node) (e : Ending)
    → IsReady r f before d files o end its_chapters its_tags → IsEnding o.len o.seeks (back_with o.cues its_chapters its_tags) e → length (joined (area_elements (seeks_of d))) ≡ 256
ending-filled r f before d files o end its_chapters its_tags e ready ending =
    let known = ready.stands.known in
    let same = back-is r f before d files o end its_chapters its_tags ready in
    let seeks : o.seeks ++ seeks_from o.len (back_with o.cues its_chapters its_tags) ≡ seeks_of d =
    ap (λ (ss : List Seek). ss ++ seeks_from o.len (back_with o.cues its_chapters its_tags)) known.seeks
    ∙ ap (λ n. seeks_from 256 (front_elements d.front) ++ seeks_from n (back_with o.cues its_chapters its_tags)) known.len
    ∙ ap (λ (es : List Element). seeks_from 256 (front_elements d.front) ++ seeks_from (back_at d) es) same in
    sym (ap (λ (ss : List Seek). length (joined (area_elements ss))) seeks) ∙ sym (ap length ending.area) ∙ ending.filled

-- The bytes before the last writes are as many as the output has counted.
pub so_far-long : (d : Document) → length (so_far d) ≡ body_start d.front.webm + (clusters_at d.front + length (joined (clusters_elements d.clusters)))
so_far-long d = length-opened d.front (joined (clusters_elements d.clusters))

-- The file has the layout.
pub finished : {S : Type 0} (r : Ghosts S) (f : writing.Ghosts S) (before now : Names) (d : Document) (files : S) (o : OpenOutput) (end : ℕ) (its_chapters its_tags : Option Node) (name : List ℕ) (e : Ending)
    → IsReady r f before d files o end its_chapters its_tags → IsEnding o.len o.seeks (back_with o.cues its_chapters its_tags) e
    → now ≡ with_content before name (patched (so_far d ++ e.back) (patches_with (body_start o.webm) o.place end e.area (size_octets e.total 8))) → HoldsLayout before now name d (body_start o.webm + e.total)
finished r f before now d files o end its_chapters its_tags name e ready ending written =
    let filled = ending-filled r f before d files o end its_chapters its_tags e ready ending in
    let layout-is = draft-layout name d filled in
    let known = ready.stands.known in
    let back : e.back ≡ joined (back_elements d) = ending.back ∙ ap joined (back-is r f before d files o end its_chapters its_tags ready) in
    record {
      names = written ∙ ap (λ (x : Draft). with_content before name (patched x.appended x.patches)) (ending-draft r f before d files o end its_chapters its_tags name e ready ending) ∙ ap (with_content before name) layout-is;
      len_is = omega (arith, ap body_start known.webm, ending.total, total-is d o.len e.back known.len back, length-layout d filled);
      becomes = ap (λ w. record { name = name; content = w }) layout-is;
    }

-- Nothing was written.
pub unfinished : {S : Type 0} (r : Ghosts S) (f : writing.Ghosts S) (before : Names) (d : Document) (files : S) (o : OpenOutput) (end : ℕ) (its_chapters its_tags : Option Node) → IsReady r f before d files o end its_chapters its_tags
    → StandsDrafted before (f.names files) (draft_of (f.holder files o.file.n) d)
unfinished r f before d files o end its_chapters its_tags ready =
    let name = f.holder files o.file.n in
    let P : List ℕ → Type 0 = λ w. StandsDrafted before (f.names files) (record { name = name; appended = w; patches = (draft_of name d).patches }) in
    subst P (opened-more d.front (joined (clusters_elements d.clusters)) (joined (back_elements d)))
    (StandsDrafted-begun before (f.names files) (f.names files) name (so_far d) (joined (back_elements d)) (draft_of name d).patches ready.stands.names (PassesSome-none (f.names files) (f.names files) name (joined (back_elements d)) refl))

-- ---- then the file is closed

pub Finishes-closed : {S : Type 0} (r : Ghosts S) (f : writing.Ghosts S) (o : OpenOutput) (end : ℕ) (its_chapters its_tags : Option Node) (a b c : S) (result : Result ℕ RemuxEnd) → f.names c ≡ f.names b → Finishes r f o end its_chapters its_tags a b result → Finishes r f o end its_chapters its_tags a c result
Finishes-closed r f o end its_chapters its_tags a b c (Ok len) same finishes = λ before d ready.
    let P : Names → Type 0 = λ now. HoldsLayout before now (f.holder a o.file.n) d len in
    subst P (sym same) (finishes before d ready)
Finishes-closed r f o end its_chapters its_tags a b c (Err cause) same finishes = λ before d ready.
    let P : Names → Type 0 = λ now. StandsDrafted before now (draft_of (f.holder a o.file.n) d) in
    subst P (sym same) (finishes before d ready)

pub cause-closed : {S T : Type 0} (r : Ghosts S) (f : writing.Ghosts S) (a b c : S) (result : Result T RemuxEnd) → r.reading_faults c ≡ r.reading_faults b → f.writing_faults c ≡ f.writing_faults b → HasRemuxCause r f a b result → HasRemuxCause r f a c result
cause-closed r f a b c result reading written cause = record {
  reading = let P : ℕ → Type 0 = λ n. HasCause is_remux_read_fault (r.reading_faults a) n result in subst P (sym reading) cause.reading;
  writing = let P : ℕ → Type 0 = λ n. HasCause is_remux_write_fault (f.writing_faults a) n result in subst P (sym written) cause.writing;
}
