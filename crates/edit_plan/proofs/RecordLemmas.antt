-- The record of writes.
use Rattle.std.proofs.Common.{◌≡◌, ℕ, ◌+◌, max, List, [], ◌∷◌, length, map, take, flat_map, Result, Ok, Err, refl, sym, ◌∙◌, ap, ap₂, subst, arith}
use Rattle.std.proofs.Math.Seq.{drop-append_seam, take-append_seam}
use Rattle.std.proofs.lemmas.List.{length-append}
use Rattle.requests.specs.declared.edit.Edit.{Edit}
use Rattle.sidecar_edit.specs.declared.place.TheConstants.{KEPT}
use Rattle.sidecar_edit.specs.Fields.{AreInOrder, Planned, cut_up, last_end, sum_of, writes_of}
use Rattle.sidecar_edit.specs.Plan.{planned}
use Rattle.sidecar_edit.specs.Writes.{Write, extent}
use Rattle.sidecar_edit.specs.declared.place.Place.{Place}
use Rattle.edit_changes.specs.declared.refusal.Refusal.{Refusal}
use Rattle.mkv_io.specs.Results.{and_then}
use Rattle.edit_changes.specs.Plan.{place, plan_of, recorded}
use Rattle.edit_plan.specs.Answer.{Answers, Gives}
use Rattle.edit_plan.specs.Record.{record_of, record_over}
use Rattle.edit_plan.specs.declared.plan_end.PlanEnd.{PlanEnd}
use Rattle.edit_plan.specs.declared.plan_end.PlanEnd.TheVariants as end
use Rattle.edit_plan.proofs.OrderLemmas.{order-extent}

abbrev bytes_of : List Write → List ℕ
bytes_of ws = flat_map (λ (w : Write). w.bytes) ws

-- The number of bytes of the writes is the sum over their places.
pub length-bytes_of : (ws : List Write) → length (bytes_of ws) ≡ sum_of (map place ws)
length-bytes_of [] = refl
length-bytes_of (w ∷ ws) = length-append w.bytes (bytes_of ws) ∙ ap (λ n. length w.bytes + n) (length-bytes_of ws)

-- The sum over the places of writes is the number of their bytes.
pub places-octets : (ws : List Write) (ps : List Place) (octets : List ℕ) → ps ≡ map place ws → octets ≡ bytes_of ws → sum_of ps ≡ length octets
places-octets ws ps octets places bytes = ap sum_of places ∙ sym (ap length bytes ∙ length-bytes_of ws)

-- The record is made of its parts.
pub planned-record : (old n : ℕ) (first : List ℕ) (ps : List Place) (octets : List ℕ) (ws : List Write) → n ≡ extent old ws → ps ≡ map place ws → octets ≡ bytes_of ws → planned old n first ps octets ≡ record_over old first ws
planned-record old n first ps octets ws end places bytes = λ i. planned old (end i) first (places i) (bytes i)

-- If the places are in order, the file ends at `end` or at its old end.
pub extent-end : (old end : ℕ) (ps : List Place) (ws : List Write) → ps ≡ map place ws → AreInOrder old 0 ps → end ≡ last_end 0 ps → extent old ws ≡ max old end
extent-end old end ps ws places order is =
    order-extent old old 0 ws (omega arith) (subst (AreInOrder old 0) places order) ∙ ap (max old) (sym (is ∙ ap (last_end 0) places))

-- The record, cut into writes again, gives the writes.
pub cut_up-places : (ws : List Write) → cut_up (map place ws) (bytes_of ws) ≡ ws
cut_up-places [] = refl
cut_up-places (w ∷ ws) =
    ap₂ (λ (bytes : List ℕ) (vs : List Write). record { at = w.at; bytes = bytes } ∷ vs) (take-append_seam w.bytes (bytes_of ws))
    (ap (cut_up (map place ws)) (drop-append_seam w.bytes (bytes_of ws)) ∙ cut_up-places ws)

pub writes_of-recorded : (bytes : List ℕ) (ws : List Write) → writes_of (recorded bytes ws) ≡ ws
writes_of-recorded bytes ws = cut_up-places ws

-- ---- results

pub record_of-is : (bytes : List ℕ) (edits : List Edit) (ws : List Write) (len : ℕ) (first : List ℕ) (p : Planned) → plan_of bytes edits ≡ Ok ws → len ≡ length bytes → first ≡ take KEPT bytes → p ≡ record_over len first ws → record_of bytes edits ≡ Ok p
record_of-is bytes edits ws len first p found size begins is =
    ap (λ (r : Result (List Write) Refusal). and_then r (λ vs. Ok (recorded bytes vs))) found
    ∙ ap (λ (q : Planned). Ok q) (sym (is ∙ ap₂ (λ (n : ℕ) (xs : List ℕ). record_over n xs ws) size begins))

-- Writes that fail have no record.
pub record_of-ends : (bytes : List ℕ) (edits : List Edit) (e : PlanEnd) → Answers (plan_of bytes edits) (Err e) → Gives {A = Planned} (record_of bytes edits) (Err e)
record_of-ends bytes edits (end.Refused r) is = ap (λ (x : Result (List Write) Refusal). and_then x (λ vs. Ok (recorded bytes vs))) is
record_of-ends bytes edits end.ReadFault is = tt
record_of-ends bytes edits end.Memory is = tt
