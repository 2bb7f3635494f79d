-- The frames that aren't written, reported in sequence.
use Rattle.std.proofs.Common.{◌≡◌, ◌==◌, ℕ, suc, ◌+◌, ◌<◌, ◌≤◌, is_none, Bool, true, false, if◌then◌else◌, List, [], ◌∷◌, ◌++◌, length, take, drop, get_or, map, Some, None, refl, sym, ◌∙◌, ap, subst, arith, append_assoc, append-nil, not, Option, unwrap_or, replicate, option_map}
use Rattle.std.specs.List.{All, filter, find}
use Rattle.std.proofs.Math.Seq.{drop-cons, take-suc}
use Rattle.std.specs.Option.{option_or}
use Rattle.std.proofs.lemmas.List.Folds.{find-append}
use Rattle.mkv_outputs.proofs.GivenLemmas.{length_of_map}
use Rattle.std.proofs.lemmas.Bool.{eqb-true}
use Rattle.std.proofs.lemmas.List.{drop-drop, drop_all}
use Rattle.mkv_io.specs.declared.damage.Damage.{Damage}
use Rattle.block_format.specs.Block.{Block}
use Rattle.block_format.specs.Content.{frames_cut}
use Rattle.block_format.specs.Events.{Event, blocks_of, damages_of}
use Rattle.cluster_reader.specs.ToldDamages.{ToldDamages, told_damages, with_damage}
use Rattle.cluster_reader.proofs.ToldDamagesLemmas.{with_damage-told}
use Rattle.block_reader.specs.Buffered.{Buffered, block_of}
use Rattle.extractors.specs.BadFrames.{TellsMore, bad_count, bad_for, bad_frame, bad_frames, bad_in, is_bad, told_of, untimed}
use Rattle.extractors.specs.Content.{written_of}
use Rattle.extractors.specs.Takes.{IsEnough, IsEnoughFor, IsEnoughForAll}
use Rattle.extractors.specs.declared.frame_form.FrameForm.{FrameForm}
use Rattle.extractors.specs.declared.frame_form.FrameForm.TheVariants as form
use Rattle.extractors.specs.declared.extracted.Extracted.{Extracted}
use Rattle.extractors.specs.declared.track_output.TrackOutput.{TrackOutput}

-- A report with the damage and the bad frames of a file is its report.
pub told_of-is : (list : List TrackOutput) (events : List Event) (told : Extracted) → told.damages ≡ told_damages (damages_of events) → told.bad_frames ≡ told_damages (bad_frames list (blocks_of events)) → told ≡ told_of list events
told_of-is list events told damages bad = λ i. record { damages = damages i; bad_frames = bad i }

-- An output that is found is in the list.
pub found-holds : (P : TrackOutput → Type 0) (list : List TrackOutput) (test : TrackOutput → Bool) (o : TrackOutput) → find test list ≡ Some o → All P list → P o
found-holds P [] test o found each = absurd (cc)
found-holds P (x ∷ xs) test o found each = split (test x) (λ is. found-holds P xs test o is (λ k d below. each (suc k) d (omega arith))) found
  where
    split : (b : Bool) → (find test xs ≡ Some o → P o) → (if b then Some x else find test xs) ≡ Some o → P o
    split true behind is = let same : x ≡ o = cc in subst P same (each 0 x (omega arith))
    split false behind is = behind is

-- An output that is found passes the test.
pub found-passes : (list : List TrackOutput) (test : TrackOutput → Bool) (o : TrackOutput) → find test list ≡ Some o → test o ≡ true
found-passes [] test o found = absurd (cc)
found-passes (x ∷ xs) test o found = split (test x) refl (found-passes xs test o) found
  where
    split : (b : Bool) → test x ≡ b → (find test xs ≡ Some o → test o ≡ true) → (if b then Some x else find test xs) ≡ Some o → test o ≡ true
    split true passes behind is = let same : x ≡ o = cc in ap test (sym same) ∙ passes
    split false passes behind is = behind is

-- ---- the known part of a block

-- the bad frames of a block in a form, with the bytes `prefix` removed from their start
abbrev bad_as : FrameForm → List ℕ → Block → List Damage
bad_as kind prefix b = map (λ (octets : List ℕ). bad_frame b) (filter (λ (octets : List ℕ). is_none (written_of kind 1 (untimed octets) (prefix ++ octets))) b.frames)

-- In the form of timestamps no frame is bad.
none-bad : (d : Damage) (prefix : List ℕ) (frames : List (List ℕ)) → map (λ (octets : List ℕ). d) (filter (λ (octets : List ℕ). is_none (written_of form.Time 1 (untimed octets) (prefix ++ octets))) frames) ≡ []
none-bad d prefix [] = refl
none-bad d prefix (f ∷ fs) = none-bad d prefix fs

bad-same : (kind : FrameForm) (prefix : List ℕ) (b : Block) (lent : Buffered) → IsEnough kind b lent → bad_as kind prefix (block_of lent) ≡ bad_as kind prefix b
bad-same form.Plain prefix b lent is = ap (bad_as form.Plain prefix) (sym is)
bad-same form.SubRip prefix b lent is = ap (bad_as form.SubRip prefix) (sym is)
bad-same (form.AnnexB w) prefix b lent is = ap (bad_as (form.AnnexB w) prefix) (sym is)
bad-same (form.Adts aac) prefix b lent is = ap (bad_as (form.Adts aac) prefix) (sym is)
bad-same form.Pgs prefix b lent is = ap (bad_as form.Pgs prefix) (sym is)
bad-same form.Time prefix b lent known = none-bad (bad_frame (block_of lent)) prefix (block_of lent).frames ∙ sym (none-bad (bad_frame b) prefix b.frames)

-- The bad frames of a block are the bad frames of its buffered part, for the output that takes it.
pub bad_in-lent : (list : List TrackOutput) (o : TrackOutput) (b : Block) (lent : Buffered) → find (λ (x : TrackOutput). x.track == lent.head.track) list ≡ Some o → IsEnoughForAll list b lent → bad_for (block_of lent) (Some o) ≡ bad_in list b
bad_in-lent list o b lent found enough =
    let is : lent.head.track ≡ o.track = sym (eqb-true _ _ (found-passes list (λ (x : TrackOutput). x.track == lent.head.track) o found)) in
    let own = (found-holds (λ (x : TrackOutput). IsEnoughFor x b lent) list (λ (x : TrackOutput). x.track == lent.head.track) o found enough.each).own is in
    bad-same o.form o.prefix b lent own
    ∙ ap (bad_for b) (sym (ap (λ (track : ℕ). find (λ (x : TrackOutput). x.track == track) list) enough.track ∙ found))

-- If no output takes the block, it has no bad frames.
pub bad_in-none : (list : List TrackOutput) (b : Block) (lent : Buffered) → find (λ (x : TrackOutput). x.track == lent.head.track) list ≡ None → IsEnoughForAll list b lent → [] ≡ bad_in list b
bad_in-none list b lent found enough = ap (bad_for b) (sym (ap (λ (track : ℕ). find (λ (x : TrackOutput). x.track == track) list) enough.track ∙ found))

-- ---- one report after another

pub TellsMore-none : (told : ToldDamages) → TellsMore told told []
TellsMore-none told = λ list is. is ∙ ap told_damages (sym (append-nil list))

pub TellsMore-one : (old new : ToldDamages) (d : Damage) → new ≡ with_damage old d → TellsMore old new (d ∷ [])
TellsMore-one old new d adds = λ list is. adds ∙ ap (λ (t : ToldDamages). with_damage t d) is ∙ with_damage-told list d

pub TellsMore-then : (a b c : ToldDamages) (first next : List Damage) → TellsMore a b first → TellsMore b c next → TellsMore a c (first ++ next)
TellsMore-then a b c first next one two = λ list is. two (list ++ first) (one list is) ∙ ap told_damages (append_assoc list first next)

-- ---- the bad frames of a block are counted in a loop

-- the number of the remaining bad frames of a block, from frame `i` on
pub bad_left : TrackOutput → List ℕ → List ℕ → ℕ → ℕ → ℕ
bad_left o sizes body i at = length (filter (is_bad o) (frames_cut (drop i sizes) (drop at body)))

-- At first all bad frames of the block remain.
pub bad_left-block : (o : TrackOutput) (sizes body : List ℕ) (b : Buffered) → sizes ≡ b.sizes → body ≡ b.body → bad_left o sizes body 0 0 ≡ length (filter (is_bad o) (block_of b).frames)
unfolding bad_left
bad_left-block o sizes body b cut octets =
    ap (λ (ss : List ℕ). length (filter (is_bad o) (frames_cut ss body))) cut ∙ ap (λ (os : List ℕ). length (filter (is_bad o) (frames_cut b.sizes os))) octets

-- At the end no bad frames remain.
pub bad_left-none : (o : TrackOutput) (sizes body : List ℕ) (i at : ℕ) → length sizes ≤ i → bad_left o sizes body i at ≡ 0
unfolding bad_left
bad_left-none o sizes body i at all = ap (λ (ss : List ℕ). length (filter (is_bad o) (frames_cut ss (drop at body)))) (drop_all i sizes all)

-- The next frame is bad, or isn't.
pub bad_left-next : (o : TrackOutput) (sizes body : List ℕ) (i at size : ℕ) (good : Bool) → i < length sizes → size ≡ get_or sizes i 0 → good ≡ not (is_bad o (take size (drop at body))) → bad_left o sizes body i at ≡ (if not good then 1 else 0) + bad_left o sizes body (i + 1) (at + size)
unfolding bad_left
bad_left-next o sizes body i at size good below is seen =
    ap (λ (ss : List ℕ). length (filter (is_bad o) (frames_cut ss (drop at body)))) (drop-cons sizes i 0 below ∙ ap (λ (s : ℕ). s ∷ drop (suc i) sizes) (sym is))
    ∙ split (is_bad o (take size (drop at body))) (take size (drop at body)) (frames_cut (drop (suc i) sizes) (drop size (drop at body))) good seen
    ∙ ap (λ (left : List ℕ). (if not good then 1 else 0) + length (filter (is_bad o) (frames_cut (drop (suc i) sizes) left))) (drop-drop size at body)
    ∙ ap (λ (k : ℕ). (if not good then 1 else 0) + length (filter (is_bad o) (frames_cut (drop k sizes) (drop (at + size) body)))) (one_more i)
  where
    one_more : (k : ℕ) → suc k ≡ k + 1
    one_more k = omega arith

    split : (bad : Bool) (f : List ℕ) (fs : List (List ℕ)) (g : Bool) → g ≡ not bad → length (if bad then f ∷ filter (is_bad o) fs else filter (is_bad o) fs) ≡ (if not g then 1 else 0) + length (filter (is_bad o) fs)
    split true f fs g same = subst (λ (b : Bool). suc (length (filter (is_bad o) fs)) ≡ (if not b then 1 else 0) + length (filter (is_bad o) fs)) (sym same) (omega arith)
    split false f fs g same = subst (λ (b : Bool). length (filter (is_bad o) fs) ≡ (if not b then 1 else 0) + length (filter (is_bad o) fs)) (sym same) (omega arith)

-- In the form of timestamps none is counted.
pub none-counted : (o : TrackOutput) (b : Block) → o.form ≡ form.Time → length (filter (is_bad o) b.frames) ≡ 0
none-counted o b is = ap (λ (kind : FrameForm). length (filter (λ (octets : List ℕ). is_none (written_of kind 1 (untimed octets) (o.prefix ++ octets))) b.frames)) is ∙ each b.frames
  where
    each : (frames : List (List ℕ)) → length (filter (λ (octets : List ℕ). is_none (written_of form.Time 1 (untimed octets) (o.prefix ++ octets))) frames) ≡ 0
    each [] = refl
    each (f ∷ fs) = each fs

-- ---- the outputs of a block in a loop

-- the number of the bad frames of the block `b` for the first of the outputs `list` that takes its track, or None if none does
abbrev pub bad_of_first : List TrackOutput → Block → Option ℕ
bad_of_first list b = option_map (λ (o : TrackOutput). length (filter (is_bad o) b.frames)) (find (λ (o : TrackOutput). o.track == b.track) list)

-- One more output is asked.
pub bad_of_first-more : (list : List TrackOutput) (b : Block) (k : ℕ) (o : TrackOutput) → k < length list → o ≡ get_or list k o → bad_of_first (take (k + 1) list) b ≡ option_or (bad_of_first (take k list) b) (bad_count o b)
bad_of_first-more list b k o below is =
    ap (λ (os : List TrackOutput). bad_of_first os b) (ap (λ (n : ℕ). take n list) (one_more k) ∙ take-suc list k o below ∙ ap (λ (each : TrackOutput). take k list ++ each ∷ []) (sym is))
    ∙ ap (option_map (λ (x : TrackOutput). length (filter (is_bad x) b.frames))) (find-append (λ (x : TrackOutput). x.track == b.track) (take k list) (o ∷ []))
    ∙ split (find (λ (x : TrackOutput). x.track == b.track) (take k list)) (o.track == b.track)
  where
    one_more : (n : ℕ) → n + 1 ≡ suc n
    one_more n = omega arith

    split : (found : Option TrackOutput) (own : Bool) → option_map (λ (x : TrackOutput). length (filter (is_bad x) b.frames)) (option_or found (if own then Some o else None)) ≡ option_or (option_map (λ (x : TrackOutput). length (filter (is_bad x) b.frames)) found) (if own then Some (length (filter (is_bad o) b.frames)) else None)
    split (Some x) own = refl
    split None true = refl
    split None false = refl

-- The reports of a block are one for each bad frame of the first output.
pub bad_in-count : (list : List TrackOutput) (b : Block) → unwrap_or (bad_of_first list b) 0 ≡ length (bad_in list b)
bad_in-count list b = split (find (λ (o : TrackOutput). o.track == b.track) list)
  where
    split : (found : Option TrackOutput) → unwrap_or (option_map (λ (o : TrackOutput). length (filter (is_bad o) b.frames)) found) 0 ≡ length (bad_for b found)
    split (Some o) = sym (length_of_map (λ (octets : List ℕ). bad_frame b) (filter (is_bad o) b.frames))
    split None = refl

-- ---- the reports of a block

-- The reports of a block are equal, and name the buffered part of the block.
pub bad_in-same : (list : List TrackOutput) (b : Block) (lent : Buffered) → IsEnoughForAll list b lent → replicate (length (bad_in list b)) (bad_frame (block_of lent)) ≡ bad_in list b
bad_in-same list b lent enough = split (find (λ (x : TrackOutput). x.track == lent.head.track) list) refl
  where
    same : (d : Damage) (fs : List (List ℕ)) → replicate (length (map (λ (octets : List ℕ). d) fs)) d ≡ map (λ (octets : List ℕ). d) fs
    same d [] = refl
    same d (f ∷ fs) = ap (λ (ds : List Damage). d ∷ ds) (same d fs)

    split : (found : Option TrackOutput) → find (λ (x : TrackOutput). x.track == lent.head.track) list ≡ found → replicate (length (bad_in list b)) (bad_frame (block_of lent)) ≡ bad_in list b
    split (Some o) found =
        let all : bad_for (block_of lent) (Some o) ≡ bad_in list b = bad_in-lent list o b lent found enough in
        subst (λ (ds : List Damage). replicate (length ds) (bad_frame (block_of lent)) ≡ ds) all (same (bad_frame (block_of lent)) (filter (is_bad o) (block_of lent).frames))
    split None found =
        let none : [] ≡ bad_in list b = bad_in-none list b lent found enough in
        subst (λ (ds : List Damage). replicate (length ds) (bad_frame (block_of lent)) ≡ ds) none refl
