-- The contents that a crash may leave of a file, by the chosen image.
use Rattle.std.specs.Prelude.{ℕ, ◌%◌, ◌==◌, ◌&&◌, nat_le, nat_lt, Bool, if◌then◌else◌, List, map, take}
use Rattle.std.specs.List.{enumerate_from, list_any, zip}
use Rattle.mkv_disk.specs.Image.{DiskFile, Range}
use Rattle.mkv_memory.specs.declared.pending.CrashImage.{CrashImage}
use Rattle.mkv_memory.specs.declared.pending.CrashImage.TheVariants.{AsRead, AsSynced, Blotted, Mixed}

-- The byte at the offset `k` is in one of the ranges `written`, the ones written since the last sync of a file. `blotted` uses it.
abbrev pub is_written : List Range → ℕ → Bool
is_written written k = list_any (λ (r : Range). nat_le r.from k && nat_lt k r.to) written

-- the bytes `octets` with FF at the offsets that pass `test`. `blotted` uses it.
abbrev pub ff_where : (ℕ → Bool) → List ℕ → List ℕ
ff_where test octets = map (λ (p : ℕ × ℕ). if test p.0 then 255 else p.1) (enumerate_from 0 octets)

-- the first `n` bytes of two contents: at odd offsets from `odd`, at even offsets from `even`. `mixed` uses it.
abbrev pub mix : ℕ → List ℕ → List ℕ → List ℕ
mix n even odd = map (λ (p : ℕ × (ℕ × ℕ)). if p.0 % 2 == 1 then p.1.1 else p.1.0) (enumerate_from 0 (take n (zip even odd)))

-- the content of the file `f` as read, with FF in each byte that was written since the last sync. `image_of` uses it for a crash.
abbrev pub blotted : DiskFile → List ℕ
blotted f = ff_where (is_written f.written) f.reads

-- the content of the file `f` with the least length since the last sync. Bytes at odd offsets are as at that sync, the others as read. `image_of`
-- uses it for a crash.
abbrev pub mixed : DiskFile → List ℕ
mixed f = mix f.least f.reads f.synced

-- the content that a crash leaves of the file `f`, by the given choice. `crashed_by` uses it.
abbrev pub image_of : CrashImage → DiskFile → List ℕ
image_of AsRead f = f.reads
image_of AsSynced f = f.synced
image_of Blotted f = blotted f
image_of Mixed f = mixed f

-- the choices for the edited file and for the journal, by the number `pick` of a crash. `crashed_by` uses it.
abbrev pub left_by : ℕ → CrashImage × CrashImage
left_by pick =
    if pick == 0 then (AsRead, AsRead)
    else if pick == 1 then (AsSynced, AsSynced)
    else if pick == 2 then (AsRead, AsSynced)
    else if pick == 3 then (AsSynced, AsRead)
    else if pick == 4 then (Blotted, Blotted)
    else (Mixed, Mixed)
