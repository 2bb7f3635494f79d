-- A record that is written for a file belongs to it. The contents that a crash leaves during its edit recover to the edited file.
use Rattle.std.proofs.Common.{◌≡◌, ℕ, ◌+◌, ◌-◌, ◌<◌, ◌≤◌, Bool, true, false, not, ◌&&◌, ◌||◌, nat_lt, List, length, take, slice_index, refl, sym, ◌∙◌, ap, arith, Result}
use Rattle.std.proofs.lemmas.Bool.{le-ltb, eq-eqb, and_left, and_right, or_from, not_from_true, cond-false, ltb-true}
use Rattle.std.proofs.lemmas.List.{get_or-drop, get_or_append_left}
use Rattle.sidecar_edit.specs.declared.place.TheConstants.{KEPT, OPEN}
use Rattle.sidecar_edit.specs.Writes.{applied, Torn}
use Rattle.sidecar_edit.specs.Fields.{Head, IsSound, IsMadeFor, new_len_in, old_len_in, sum_of, used_in, writes_in, zeros}
use Rattle.sidecar_edit.specs.Recovery.{differs, is_touched, octet_mark, recovered, unfit, when_applied}
use Rattle.sidecar_edit.specs.declared.outcome.Recovered.{Recovered}
use Rattle.sidecar_edit.proofs.RecordLemmas.{f, whole, head-is, padded, live-written, read-old_len, read-new_len, short-of_sound}
use Rattle.sidecar_edit.proofs.FitLemmas.{IsOwn, own-applies, own-torn, fits-of_own, if_none_passes}
use Rattle.sidecar_edit.proofs.RedoLemmas.{redone}

module _ (h : Head) (payload file : List ℕ) (sound : IsSound h) (some : 1 ≤ length h.places) (full : length payload ≡ sum_of h.places) (made : IsMadeFor h file) where
  old-is : old_len_in (f h sound) ≡ length file
  old-is = read-old_len OPEN h (padded h) (short-of_sound h sound) ∙ made.len

  -- No kept byte differs.
  same-octet : (k : ℕ) → k < KEPT → (b : Bool) → nat_lt k (old_len_in (f h sound)) ≡ b → differs (f h sound) (take KEPT file) k ≡ false
  same-octet k low false before = and_left (nat_lt k (old_len_in (f h sound)) && not (is_touched (used_in (f h sound)) k)) _ (and_left (nat_lt k (old_len_in (f h sound))) _ before)
  same-octet k low true before =
      let inside = ltb-true k (old_len_in (f h sound)) before in
      let old = old-is in let len = made.len in let first = sound.first in
      let here : slice_index (f h sound) (168 + k) ≡ slice_index h.first k = sym (get_or-drop 168 (f h sound) k 0) ∙ get_or_append_left h.first (zeros (KEPT - length h.first)) 0 k (omega arith) in
      let same : slice_index (take KEPT file) k ≡ slice_index (f h sound) (168 + k) = sym (here ∙ ap (λ first. slice_index first k) made.first) in
      and_right (nat_lt k (old_len_in (f h sound)) && not (is_touched (used_in (f h sound)) k)) _ (not_from_true _ (eq-eqb (slice_index (take KEPT file) k) (slice_index (f h sound) (168 + k)) same))

  pub own-written : IsOwn file (whole h payload sound)
  own-written = record {
    live = live-written h payload sound some full;
    fit =
        let old = old-is in let new = read-new_len OPEN h (padded h) (short-of_sound h sound) in let is = sound.new_len in let len = made.len in
        ap (λ head. unfit head (length file) (take KEPT file)) (head-is h payload sound)
        ∙ cond-false (nat_lt (length file) (old_len_in (f h sound)) || nat_lt (new_len_in (f h sound)) (length file)) _ _ (or_from _ _ (le-ltb (length file) (old_len_in (f h sound)) (omega arith)) (le-ltb (new_len_in (f h sound)) (length file) (omega arith)))
        ∙ ap (octet_mark (f h sound) (take KEPT file)) (if_none_passes (differs (f h sound) (take KEPT file)) 0 KEPT (λ k low high. same-octet k (omega arith) (nat_lt k (old_len_in (f h sound))) refl));
  }

-- ---- files that crash images recover to

-- If a record belongs to a file, each file that its writes have torn recovers to the edited one.
pub recovered-torn : (file s torn : List ℕ) → IsOwn file s → Torn (writes_in s) file torn → recovered torn s ≡ applied file (writes_in s)
recovered-torn file s torn own is =
    ap (λ (r : Result Recovered _). when_applied r torn (applied torn (writes_in s))) (own-applies torn s (own-torn file s own torn is))
    ∙ redone (writes_in s) file torn (fits-of_own file s own) is
