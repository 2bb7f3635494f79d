use Rattle.std.proofs.Common.{◌≡◌, ◌<◌, ◌≤◌, ◌||◌, ℕ, List, length, get_or, sym, ◌∙◌, ap, arith}
use Rattle.requests.specs.declared.merge.FileWords.{FileWords}
use Rattle.mkv_io.specs.Lists.{is_some_of}
use Rattle.merge_inputs.specs.declared.input.Input.{Input}
use Rattle.mkv_merge.specs.Merge.{absent_in, absent_of, has_absent}
use Rattle.mkv_merge.specs.Prepared.{reads_in}
use Rattle.mkv_merge.proofs.TellingLemmas.{has_absent-all, has_absent-found, has_absent-none, has_absent-passed}
use Rattle.mkv_merge.proofs.telling.has_absent.Goals as goal

-- No file was checked yet.
pub loop-k-init : goal.loop-k-init
loop-k-init c = has_absent-all c.args.words.now c.args.inputs.now

-- The next file lacks a track.
pub returns-then-lacks_track : goal.returns-then-lacks_track
returns-then-lacks_track c =
    let files = c.args.words.now.files in
    let here : c.loop-k.k < length files = omega (arith, ap length c.as_slice-file-items.ensures) in
    let there : c.loop-k.k < length c.args.inputs.now = omega (arith, c.requires) in
    let input : Input = get_or c.args.inputs.now c.loop-k.k c.index-inputs-k.result in
    let has : input ≡ get_or c.args.inputs.now c.loop-k.k input = ap (λ (i : Input). get_or c.args.inputs.now c.loop-k.k i) c.index-inputs-k.is in
    let is : c.file-item.result ≡ get_or files c.loop-k.k c.file-item.result = c.file-item.is ∙ ap (λ (list : List FileWords). get_or list c.loop-k.k c.file-item.result) c.as_slice-file-items.ensures in
    has_absent-found c.args.words.now files c.args.inputs.now c.loop-k.k c.file-item.result input here there is has
    (has_absent c.args.words.now (reads_in c.args.inputs.now)) c.loop-k.invariant
    (ap (λ (order : List (ℕ × ℕ)). is_some_of (absent_of c.file-item.result input.count) || is_some_of (absent_in order c.loop-k.k c.file-item.result input.count)) (sym c.as_slice-order.ensures)
    ∙ sym c.lacks_track.ensures ∙ c.if-lacks_track.true)

-- The next file has all tracks.
pub loop-k-preserved : goal.loop-k-preserved
loop-k-preserved c =
    let files = c.args.words.now.files in
    let here : c.loop-k.k < length files = omega (arith, ap length c.as_slice-file-items.ensures) in
    let there : c.loop-k.k < length c.args.inputs.now = omega (arith, c.requires) in
    let input : Input = get_or c.args.inputs.now c.loop-k.k c.index-inputs-k.result in
    let has : input ≡ get_or c.args.inputs.now c.loop-k.k input = ap (λ (i : Input). get_or c.args.inputs.now c.loop-k.k i) c.index-inputs-k.is in
    let is : c.file-item.result ≡ get_or files c.loop-k.k c.file-item.result = c.file-item.is ∙ ap (λ (list : List FileWords). get_or list c.loop-k.k c.file-item.result) c.as_slice-file-items.ensures in
    has_absent-passed c.args.words.now files c.args.inputs.now c.loop-k.k c.file-item.result input here there is has
    (has_absent c.args.words.now (reads_in c.args.inputs.now)) c.loop-k.invariant
    (ap (λ (order : List (ℕ × ℕ)). is_some_of (absent_of c.file-item.result input.count) || is_some_of (absent_in order c.loop-k.k c.file-item.result input.count)) (sym c.as_slice-order.ensures)
    ∙ sym c.lacks_track.ensures ∙ c.if-lacks_track.false)

-- No file lacks a track.
pub returns : goal.returns
returns c =
    let past : length c.args.words.now.files ≤ c.loop-k.k = omega (arith, ap length c.as_slice-file-items.ensures) in
    has_absent-none c.args.words.now (has_absent c.args.words.now (reads_in c.args.inputs.now)) c.args.words.now.files c.args.inputs.now c.loop-k.k past c.loop-k.invariant
