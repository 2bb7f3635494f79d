use Rattle.std.proofs.Common.{◌≡◌, ◌≤◌, ◌+◌, ◌-◌, [], ◌∷◌, ◌++◌, length, ℕ, List, refl, ap, sym, subst, ◌∙◌, arith}
use Rattle.std.proofs.lemmas.List.{length-append}
use Rattle.std.proofs.lemmas.Result.{err_from_is_err_and}
use Rattle.ebml_numbers.specs.Number.{size_octets}
use Rattle.ebml_numbers.proofs.NumberLemmas.{length-size_octets}
use Rattle.mkv_io.specs.Contents.{overwritten}
use Rattle.mkv_io.specs.Faults.{is_failure, is_make_failure}
use Rattle.mkv_io.specs.Names.{with_content}
use Rattle.mkv_io.specs.Sources.{file_size}
use Rattle.mkv_io.specs.Writing.{WritesOnly}
use Rattle.mkv_io.proofs.WritingLemmas.{WritesOnly-one, WritesOnly-then}
use Rattle.mkv_outputs.specs.Drafts.{Draft, patched}
use Rattle.cues_seekhead.specs.Draft.{StandsDrafted, duration_patches, patches_at, patches_with}
use Rattle.cues_seekhead.proofs.AppendingLemmas.{PassesSome-refused}
use Rattle.cues_seekhead.proofs.DraftLemmas.{IsPatched-over, StandsDrafted-begun, StandsDrafted-more, StandsDrafted-patched, after-duration, appended-to, duration-patched, inside-later, in-area, in-size, length-overwritten, overwrote}
use Rattle.cues_seekhead.proofs.DurationLemmas.{patched-append}
use Rattle.cues_seekhead.proofs.ending.Ending.write.Goals as goal

-- A prefix was appended.
pub returns-in_err-append-clause-drafts : goal.returns-in_err-append-clause-drafts
returns-in_err-append-clause-drafts g c =
    let p = err_from_is_err_and c.from_residual.result c.from_residual.ensures.1 in
    let some = rw c.as_slice.ensures at (PassesSome-refused c.in_err-append.field-0.0 _ _ _ _ c.args.file.n _ c.as_slice.result.now c.in_err-append.ensures.failed
    (λ is. g.met.F.Files.names_stand c.append.new.self c.args.files.now (c.in_err-append.ensures.memory is))) in
    rw p.1 (λ before content long had. StandsDrafted-begun before _ _ _ content c.args.self.now.back _ had some)

-- The Duration's place may have any bytes.
pub returns-in_err-put_duration-clause-drafts : goal.returns-in_err-put_duration-clause-drafts
returns-in_err-put_duration-clause-drafts g c =
    let p = err_from_is_err_and c.from_residual-in_err-put_duration.result c.from_residual-in_err-put_duration.ensures.1 in
    let f = g.F.Files in
    let holder = f.holder c.args.files.now c.args.file.n in
    let back = c.args.self.now.back in
    let start = c.args.start in
    let later = patches_at start c.args.self.now.area (size_octets c.args.self.now.total 8) in
    let dp = duration_patches start c.args.place c.args.end in
    let added = rw c.as_slice.ensures at c.in_ok-append.ensures.ok.names in
    let one = c.append.ensures.stays.holders c.args.file.n c.requires.live in
    rw p.1 (λ before content long had.
    let grown = appended-to before _ _ holder content back had added in
    let P : List ℕ → Type 0 = λ name. f.names c.append.new.self ≡ with_content before name (content ++ back) in
    let Q : List ℕ → Type 0 = λ name. StandsDrafted before (f.names c.put_duration.new.files) (record { name = name; appended = (content ++ back) ++ []; patches = dp }) in
    let size : file_size g.F.Reads c.append.new.self c.args.file ≤ length (content ++ back) = omega (arith, c.in_ok-append.ensures.ok.size, ap length c.as_slice.ensures, long, length-append content back) in
    StandsDrafted-more before _ holder (content ++ back) dp later (subst Q one (c.in_err-put_duration.ensures.drafts before (content ++ back) size (subst P (sym one) grown))))

pub returns-in_err-put_duration-clause-only : goal.returns-in_err-put_duration-clause-only
returns-in_err-put_duration-clause-only g c =
    let f = g.F.Files in
    let r = g.F.Reads in
    let file = c.args.file in
    let names = f.holder c.args.files.now file.n ∷ [] in
    let one = c.append.ensures.stays.holders file.n c.requires.live in
    let live = c.append.ensures.stays.alive file.n ∙ c.requires.live in
    let P : List ℕ → Type 0 = λ name. WritesOnly r f (name ∷ []) c.append.new.self c.put_duration.new.files in
    let first = WritesOnly-one r f c.args.files.now c.append.new.self file is_make_failure c.append.result c.append.ensures.stays c.append.ensures.cause c.append.ensures.unread in
    WritesOnly-then r f names _ _ _ first (subst P one c.put_duration.ensures.only)

-- The area may have any bytes.
pub returns-in_err-overwrite-clause-drafts : goal.returns-in_err-overwrite-clause-drafts
returns-in_err-overwrite-clause-drafts g c =
    let p = err_from_is_err_and c.from_residual-in_err-overwrite.result c.from_residual-in_err-overwrite.ensures.1 in
    let f = g.F.Files in
    let r = g.F.Reads in
    let file = c.args.file in
    let holder = f.holder c.args.files.now file.n in
    let start = c.args.start in
    let back = c.args.self.now.back in
    let area = c.args.self.now.area in
    let size = size_octets c.args.self.now.total 8 in
    let dp = duration_patches start c.args.place c.args.end in
    let added = rw c.as_slice.ensures at c.in_ok-append.ensures.ok.names in
    let one = c.append.ensures.stays.holders file.n c.requires.live in
    let live = c.append.ensures.stays.alive file.n ∙ c.requires.live in
    let two = c.put_duration.ensures.only.kept.holders file.n live ∙ one in
    let put = c.put_duration.new.files in
    let within = c.in_err-overwrite.ensures.err in
    let count : length within.now ≡ length area = within.count ∙ ap length c.as_slice-2.ensures in
    rw p.1 (λ before content long had.
    let all = content ++ back in
    let d : Draft = record { name = holder; appended = all; patches = patches_with start c.args.place c.args.end area size } in
    let grew : file_size r c.append.new.self file ≤ length all = omega (arith, c.in_ok-append.ensures.ok.size, ap length c.as_slice.ensures, long, length-append content back) in
    let made = after-duration before (f.names c.args.files.now) (f.names c.append.new.self) (f.names put) holder (f.holder c.append.new.self file.n) content back dp _ one had added grew c.in_ok-put_duration.ensures.drafts in
    let inside = inside-later start c.args.place (file_size r c.args.files.now file) (length all) (omega (arith, long, length-append content back)) c.requires.inside in
    let patched_now = duration-patched all holder start c.args.place c.args.end (patches_at start area size) inside in
    let changed = overwrote before _ _ _ holder (patched all dp) within.now start two made within.changed.names in
    StandsDrafted-patched before _ d (overwritten (patched all dp) start within.now) changed
    (IsPatched-over (patched all dp) within.now d start patched_now (omega (arith, count, c.requires.area, c.requires.long, long, length-append content back, patched_now.count))
    (λ k low high. in-area start k c.args.place c.args.end area size (length within.now) count low high)))

pub returns-in_err-overwrite-clause-only : goal.returns-in_err-overwrite-clause-only
returns-in_err-overwrite-clause-only g c =
    let f = g.F.Files in
    let r = g.F.Reads in
    let file = c.args.file in
    let names = f.holder c.args.files.now file.n ∷ [] in
    let one = c.append.ensures.stays.holders file.n c.requires.live in
    let live = c.append.ensures.stays.alive file.n ∙ c.requires.live in
    let P : List ℕ → Type 0 = λ name. WritesOnly r f (name ∷ []) c.append.new.self c.put_duration.new.files in
    let first = WritesOnly-one r f c.args.files.now c.append.new.self file is_make_failure c.append.result c.append.ensures.stays c.append.ensures.cause c.append.ensures.unread in
    let wrote = WritesOnly-then r f names _ _ _ first (subst P one c.put_duration.ensures.only) in
    let two = c.put_duration.ensures.only.kept.holders file.n live ∙ one in
    let Q : List ℕ → Type 0 = λ name. WritesOnly r f (name ∷ []) c.put_duration.new.files c.overwrite.new.self in
    WritesOnly-then r f names _ _ _ wrote (subst Q two (WritesOnly-one r f _ _ file is_failure c.overwrite.result c.overwrite.ensures.stays c.overwrite.ensures.cause c.overwrite.ensures.unread))

-- The area is complete, and the size may have any bytes.
pub returns-in_err-overwrite-2-clause-drafts : goal.returns-in_err-overwrite-2-clause-drafts
returns-in_err-overwrite-2-clause-drafts g c =
    let p = err_from_is_err_and c.from_residual-in_err-overwrite-2.result c.from_residual-in_err-overwrite-2.ensures.1 in
    let f = g.F.Files in
    let r = g.F.Reads in
    let file = c.args.file in
    let holder = f.holder c.args.files.now file.n in
    let start = c.args.start in
    let back = c.args.self.now.back in
    let area = c.args.self.now.area in
    let size = size_octets c.args.self.now.total 8 in
    let dp = duration_patches start c.args.place c.args.end in
    let added = rw c.as_slice.ensures at c.in_ok-append.ensures.ok.names in
    let one = c.append.ensures.stays.holders file.n c.requires.live in
    let live = c.append.ensures.stays.alive file.n ∙ c.requires.live in
    let two = c.put_duration.ensures.only.kept.holders file.n live ∙ one in
    let put = c.put_duration.new.files in
    let later = c.put_duration.ensures.only.kept.live file.n ∙ live in
    let three = c.overwrite.ensures.stays.holders file.n later ∙ two in
    let filled = rw c.as_slice-2.ensures at c.in_ok-overwrite.ensures.ok.names in
    let within = c.in_err-overwrite-2.ensures.err in
    let told : c.as_slice-3.result.now ≡ size = c.as_slice-3.ensures ∙ c.put_size-size.ensures.exact in
    let count : length within.now ≡ length size = within.count ∙ ap length told in
    let eight : length size ≡ 8 = length-size_octets c.args.self.now.total 8 in
    rw p.1 (λ before content long had.
    let all = content ++ back in
    let d : Draft = record { name = holder; appended = all; patches = patches_with start c.args.place c.args.end area size } in
    let grew : file_size r c.append.new.self file ≤ length all = omega (arith, c.in_ok-append.ensures.ok.size, ap length c.as_slice.ensures, long, length-append content back) in
    let made = after-duration before (f.names c.args.files.now) (f.names c.append.new.self) (f.names put) holder (f.holder c.append.new.self file.n) content back dp _ one had added grew c.in_ok-put_duration.ensures.drafts in
    let inside = inside-later start c.args.place (file_size r c.args.files.now file) (length all) (omega (arith, long, length-append content back)) c.requires.inside in
    let bytes = patched all dp in
    let patched_now = duration-patched all holder start c.args.place c.args.end (patches_at start area size) inside in
    let more : length all ≡ length content + length back = length-append content back in
    let room : start + length area ≤ length bytes = omega (arith, c.requires.area, c.requires.long, long, more, patched_now.count) in
    let mid = overwrote before _ _ _ holder bytes area start two made filled in
    let changed = overwrote before _ _ _ holder (overwritten bytes start area) within.now (start - 8) three mid within.changed.names in
    StandsDrafted-patched before _ d (overwritten (overwritten bytes start area) (start - 8) within.now) changed
    (IsPatched-over (overwritten bytes start area) within.now d (start - 8)
    (IsPatched-over bytes area d start patched_now room (λ k low high. in-area start k c.args.place c.args.end area size (length area) refl low high))
    (omega (arith, count, eight, c.requires.area, c.requires.start, c.requires.long, long, more, patched_now.count, length-overwritten bytes area start room))
    (λ k low high. in-size start k c.args.place c.args.end area size (length within.now) count low high)))

pub returns-in_err-overwrite-2-clause-only : goal.returns-in_err-overwrite-2-clause-only
returns-in_err-overwrite-2-clause-only g c =
    let f = g.F.Files in
    let r = g.F.Reads in
    let file = c.args.file in
    let names = f.holder c.args.files.now file.n ∷ [] in
    let one = c.append.ensures.stays.holders file.n c.requires.live in
    let live = c.append.ensures.stays.alive file.n ∙ c.requires.live in
    let P : List ℕ → Type 0 = λ name. WritesOnly r f (name ∷ []) c.append.new.self c.put_duration.new.files in
    let first = WritesOnly-one r f c.args.files.now c.append.new.self file is_make_failure c.append.result c.append.ensures.stays c.append.ensures.cause c.append.ensures.unread in
    let wrote = WritesOnly-then r f names _ _ _ first (subst P one c.put_duration.ensures.only) in
    let two = c.put_duration.ensures.only.kept.holders file.n live ∙ one in
    let later = c.put_duration.ensures.only.kept.live file.n ∙ live in
    let three = c.overwrite.ensures.stays.holders file.n later ∙ two in
    let Q : List ℕ → Type 0 = λ name. WritesOnly r f (name ∷ []) c.put_duration.new.files c.overwrite.new.self in
    let R : List ℕ → Type 0 = λ name. WritesOnly r f (name ∷ []) c.overwrite.new.self c.overwrite-2.new.self in
    let both = WritesOnly-then r f names _ _ _ wrote (subst Q two (WritesOnly-one r f _ _ file is_failure c.overwrite.result c.overwrite.ensures.stays c.overwrite.ensures.cause c.overwrite.ensures.unread)) in
    WritesOnly-then r f names _ _ _ both (subst R three (WritesOnly-one r f _ _ file is_failure c.overwrite-2.result c.overwrite-2.ensures.stays c.overwrite-2.ensures.cause c.overwrite-2.ensures.unread))

-- All are complete.
pub returns-clause-drafts : goal.returns-clause-drafts
returns-clause-drafts g c = λ before content long had.
    let f = g.F.Files in
    let r = g.F.Reads in
    let file = c.args.file in
    let holder = f.holder c.args.files.now file.n in
    let start = c.args.start in
    let back = c.args.self.now.back in
    let area = c.args.self.now.area in
    let size = size_octets c.args.self.now.total 8 in
    let dp = duration_patches start c.args.place c.args.end in
    let added = rw c.as_slice.ensures at c.in_ok-append.ensures.ok.names in
    let one = c.append.ensures.stays.holders file.n c.requires.live in
    let live = c.append.ensures.stays.alive file.n ∙ c.requires.live in
    let two = c.put_duration.ensures.only.kept.holders file.n live ∙ one in
    let put = c.put_duration.new.files in
    let later = c.put_duration.ensures.only.kept.live file.n ∙ live in
    let three = c.overwrite.ensures.stays.holders file.n later ∙ two in
    let filled = rw c.as_slice-2.ensures at c.in_ok-overwrite.ensures.ok.names in
    let told : c.as_slice-3.result.now ≡ size = c.as_slice-3.ensures ∙ c.put_size-size.ensures.exact in
    let all = content ++ back in
    let grew : file_size r c.append.new.self file ≤ length all = omega (arith, c.in_ok-append.ensures.ok.size, ap length c.as_slice.ensures, long, length-append content back) in
    let made = after-duration before (f.names c.args.files.now) (f.names c.append.new.self) (f.names put) holder (f.holder c.append.new.self file.n) content back dp _ one had added grew c.in_ok-put_duration.ensures.drafts in
    let bytes = patched all dp in
    let mid = overwrote before _ _ _ holder bytes area start two made filled in
    overwrote before _ _ _ holder (overwritten bytes start area) size (start - 8) three mid (rw told at c.in_ok-overwrite-2.ensures.ok.names)
    ∙ ap (with_content before holder) (sym (patched-append all dp (patches_at start area size)))

pub returns-clause-only : goal.returns-clause-only
returns-clause-only g c =
    let f = g.F.Files in
    let r = g.F.Reads in
    let file = c.args.file in
    let names = f.holder c.args.files.now file.n ∷ [] in
    let one = c.append.ensures.stays.holders file.n c.requires.live in
    let live = c.append.ensures.stays.alive file.n ∙ c.requires.live in
    let P : List ℕ → Type 0 = λ name. WritesOnly r f (name ∷ []) c.append.new.self c.put_duration.new.files in
    let first = WritesOnly-one r f c.args.files.now c.append.new.self file is_make_failure c.append.result c.append.ensures.stays c.append.ensures.cause c.append.ensures.unread in
    let wrote = WritesOnly-then r f names _ _ _ first (subst P one c.put_duration.ensures.only) in
    let two = c.put_duration.ensures.only.kept.holders file.n live ∙ one in
    let later = c.put_duration.ensures.only.kept.live file.n ∙ live in
    let three = c.overwrite.ensures.stays.holders file.n later ∙ two in
    let Q : List ℕ → Type 0 = λ name. WritesOnly r f (name ∷ []) c.put_duration.new.files c.overwrite.new.self in
    let R : List ℕ → Type 0 = λ name. WritesOnly r f (name ∷ []) c.overwrite.new.self c.overwrite-2.new.self in
    let both = WritesOnly-then r f names _ _ _ wrote (subst Q two (WritesOnly-one r f _ _ file is_failure c.overwrite.result c.overwrite.ensures.stays c.overwrite.ensures.cause c.overwrite.ensures.unread)) in
    WritesOnly-then r f names _ _ _ both (subst R three (WritesOnly-one r f _ _ file is_failure c.overwrite-2.result c.overwrite-2.ensures.stays c.overwrite-2.ensures.cause c.overwrite-2.ensures.unread))
