-- The file that a file and its journal recover to, and the reasons to refuse a recovery. The rule is this project's.
use Rattle.std.specs.Prelude.{◌≢◌, ◌⊎◌, ℕ, zero, suc, ◌+◌, ◌≤◌, ◌==◌, nat_le, nat_lt, max, Bool, true, false, not, ◌&&◌, ◌||◌, if◌then◌else◌, List, [], ◌∷◌, length, take, slice_index, Option, Some, None, Result, Ok, Err}
use Rattle.std.specs.List.{list_any}
use Rattle.sidecar_edit.specs.declared.place.Place.{Place}
use Rattle.sidecar_edit.specs.declared.place.TheConstants.{KEPT, OPEN}
use Rattle.sidecar_edit.specs.declared.held.Gate.{Gate}
use Rattle.sidecar_edit.specs.declared.held.Gate.TheVariants.{Live, Quiet, Bad}
use Rattle.sidecar_edit.specs.declared.outcome.Mark.TheVariants.{Length, Octet}
use Rattle.sidecar_edit.specs.declared.outcome.Recovered.{Recovered}
use Rattle.sidecar_edit.specs.declared.outcome.Recovered.TheVariants.{Applied, Nothing}
use Rattle.sidecar_edit.specs.declared.outcome.RecoverEnd.{RecoverEnd}
use Rattle.sidecar_edit.specs.declared.outcome.RecoverEnd.TheVariants.{BadSidecar, DiskFault, Foreign}
use Rattle.sidecar_edit.specs.Writes.{applied}
use Rattle.sidecar_edit.specs.Fields.{version_in, new_len_in, used_in, old_len_in, head_of, writes_in}
use Rattle.sidecar_edit.specs.Gate.{state}
use Rattle.mkv_io.specs.Results.{unless}

-- the first of the offsets from `at` on that passes `test`, among the number given last, or None; for the first byte of a file that differs from a
-- record. Used by `foreign_of`.
abbrev pub first_place : (ℕ → Bool) → ℕ → ℕ → Option ℕ
first_place test at zero = None
first_place test at (suc n) = if test at then Some at else first_place test (at + 1) n

-- A write of a record at one of the places `ps` changes the byte at the offset `k` of the file. Used by `differs`.
abbrev pub is_touched : List Place → ℕ → Bool
is_touched ps k = list_any (λ (p : Place). nat_le p.at k && nat_lt k (p.at + p.len)) ps

-- The byte at the offset `k` of the file, which no write changes, differs from the byte in the record, so that `recover` refuses the journal. `head`
-- has the first bytes of the journal, and `media` of the file.
abbrev pub differs : List ℕ → List ℕ → ℕ → Bool
differs head media k =
    nat_lt k (old_len_in head) && not (is_touched (used_in head) k) && not (slice_index media k == slice_index head (168 + k))

-- the refusal of a journal that was made for another file, or None. The byte of the file `media` at the given offset, if there is one, differs from
-- the byte in the record that `head`, the journal's first bytes, has. Used by `foreign_of`.
abbrev pub octet_mark : List ℕ → List ℕ → Option ℕ → Option RecoverEnd
octet_mark head media None = None
octet_mark head media (Some k) = Some (Foreign (Octet k) (slice_index head (168 + k)) (slice_index media k))

-- the refusal of the record of version 2 in `head`, the journal's first bytes, if it was made for another file, or None. The file has `size` bytes
-- and begins with `media`. Its length is impossible during the edit, or a byte differs. Used by `unfit`.
abbrev pub foreign_of : List ℕ → ℕ → List ℕ → Option RecoverEnd
foreign_of head size media =
    if nat_lt size (old_len_in head) || nat_lt (new_len_in head) size then Some (Foreign Length (old_len_in head) size)
    else octet_mark head media (first_place (differs head media) 0 KEPT)

-- the refusal of a record of version 1 if a write begins after the end of a file of `size` bytes and the earlier writes, or None. The last argument
-- has the places of the writes. The refusal has the offset of the write's place in the journal; the first place is at the offset `octet`. Used by
-- `unfit`.
abbrev pub gap_of : ℕ → ℕ → List Place → Option RecoverEnd
gap_of octet size [] = None
gap_of octet size (p ∷ ps) =
    if nat_le p.at size then gap_of (octet + 16) (max size (p.at + p.len)) ps else Some (BadSidecar octet)

-- the refusal by `recover` if the writes of a pending record don't fit a file of `size` bytes with the first bytes `media`, or None. `head` has the
-- first bytes of the journal.
abbrev pub unfit : List ℕ → ℕ → List ℕ → Option RecoverEnd
unfit head size media =
    if version_in head == 1 then gap_of 32 size (used_in head) else foreign_of head size media

-- The recovery failed because the disk did; the argument is the reason. Used by `unfit`, `unfit_medium` and others.
abbrev pub is_disk_fault : RecoverEnd → Bool
is_disk_fault (BadSidecar offset) = false
is_disk_fault (Foreign mark kept found) = false
is_disk_fault DiskFault = true

-- the result of `recover` for a pending edit: it is applied, unless it is refused for the reason `why`
abbrev pub applied_unless : Option RecoverEnd → Result Recovered RecoverEnd
applied_unless why = unless why Applied

-- the result of `recover` by the state of the journal, the first argument: without a pending edit nothing is done, and an invalid journal is refused.
-- `head` has the first bytes of the journal, `media` of the file of `size` bytes.
abbrev pub if_live : Gate → List ℕ → ℕ → List ℕ → Result Recovered RecoverEnd
if_live Quiet head size media = Ok Nothing
if_live (Bad offset) head size media = Err (BadSidecar offset)
if_live Live head size media = applied_unless (unfit head size media)

-- the result of `recover` for the file `media` with the journal `sidecar`: the edit is applied, nothing is pending, or a refusal
abbrev pub recovery : List ℕ → List ℕ → Result Recovered RecoverEnd
recovery media sidecar = if_live (state sidecar) (head_of sidecar) (length media) (take KEPT media)

-- the content of the file after a recovery with the given result: `edited` if the edit is applied, and otherwise `media`; for `recovered`
abbrev pub when_applied : Result Recovered RecoverEnd → List ℕ → List ℕ → List ℕ
when_applied (Ok Applied) media edited = edited
when_applied (Ok Nothing) media edited = media
when_applied (Err end) media edited = media

-- the file that the file `media` and the journal `sidecar` recover to by `recover`. It has the journal's writes if there is a pending edit that
-- belongs to the file, and is unchanged otherwise.
abbrev pub recovered : List ℕ → List ℕ → List ℕ
recovered media sidecar = when_applied (recovery media sidecar) media (applied media (writes_in sidecar))

-- ---- contents that a crash may leave during an edit

-- The gate of the journal `s`, its byte 0, is closed: it isn't `OPEN`. The steps of an edit leave it so until the record is complete. Used by
-- `write_record`, `cut_down` and others.
abbrev pub IsClosed : List ℕ → Type 0
IsClosed s = slice_index s 0 ≢ OPEN

-- The journal `s` has no pending edit: its gate is closed, or it has at most this one byte. An edit requires it, and a crash before its gate is open
-- leaves it. Used by `settle`, `IsEditing` and others.
abbrev pub IsQuiet : List ℕ → Type 0
IsQuiet s = IsClosed s ⊎ (length s ≤ 1)
