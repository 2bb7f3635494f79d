-- The lines of a file, part by part.
use Rattle.std.proofs.Common.{◌≡◌, ℕ, List, [], ◌∷◌, ◌++◌, map, Option, Result, Ok, Err, IfOk, refl, sym, ◌∙◌, ap, subst}
use Rattle.mkv_io.specs.Lines.{with_lines}
use Rattle.mkv_io.specs.declared.damage.Damage.{Damage}
use Rattle.mkv_schema.specs.declared.element.Header.{Header}
use Rattle.mkv_schema.specs.Outline.{Outlined, outline_of, segment_run}
use Rattle.element_reader.specs.Outline.{FileOutline, outline_in}
use Rattle.element_reader.proofs.OutlineLemmas.{Outlines, Outlines-shown}
use Rattle.mkv_lines.specs.Line.{level_0_line, level_1_line, refusal_line}
use Rattle.mkv_lines.specs.Said.{ReportLines, Says, SaysPart}
use Rattle.mkv_lines.specs.Verdict.{SaysVerdict, Verdict, nothing, refused}
use Rattle.mkv_lines.specs.declared.status.Status.{Status}
use Rattle.mkv_lines.specs.declared.status.CommandEnd.{CommandEnd}
use Rattle.mkv_lines.proofs.SaidLemmas.{SaysPart-before, SaysPart-behind, Says-then}
use Rattle.track_records.specs.declared.track.Track.{Track}
use Rattle.mkv_info.specs.Listed.{element_lines, listed, listed_or_refused, listed_verdict, shown_lines, status_with, warnings, with_tracks}
use Rattle.mkv_info.specs.Tracks.{file_tracks, track_lines}

-- ---- the lines of the Elements

-- The first line was begun.
pub elements-first : (old new : ReportLines) (bytes : List ℕ) (o : FileOutline) (ebml : Header) → ebml ≡ o.ebml → SaysPart old new (level_0_line ebml ∷ []) → SaysPart old new (shown_lines bytes o)
elements-first old new bytes o ebml is part =
    SaysPart-before old new (level_0_line o.ebml ∷ []) (level_0_line o.segment ∷ map level_1_line (segment_run bytes o.segment).list)
    (subst (λ (h : Header). SaysPart old new (level_0_line h ∷ [])) is part)

-- The first line was printed, and the second begun.
pub elements-second : (old mid new : ReportLines) (bytes : List ℕ) (o : FileOutline) (ebml segment : Header) → ebml ≡ o.ebml → segment ≡ o.segment → mid ≡ with_lines old (level_0_line ebml ∷ []) → SaysPart mid new (level_0_line segment ∷ []) → SaysPart old new (shown_lines bytes o)
elements-second old mid new bytes o ebml segment first second said part =
    SaysPart-behind old mid new (level_0_line o.ebml ∷ []) (level_0_line o.segment ∷ map level_1_line (segment_run bytes o.segment).list)
    (said ∙ ap (λ (h : Header). with_lines old (level_0_line h ∷ [])) first)
    (SaysPart-before mid new (level_0_line o.segment ∷ []) (map level_1_line (segment_run bytes o.segment).list)
    (subst (λ (h : Header). SaysPart mid new (level_0_line h ∷ [])) second part))

-- Both lines were printed, and then the Elements of level 1.
pub elements-all : {T : Type 0} (old mid late new : ReportLines) (bytes : List ℕ) (o : FileOutline) (ebml segment : Header) (list : List Header) (r : Result T CommandEnd) → ebml ≡ o.ebml → segment ≡ o.segment → list ≡ (segment_run bytes o.segment).list → mid ≡ with_lines old (level_0_line ebml ∷ []) → late ≡ with_lines mid (level_0_line segment ∷ []) → Says late new (map level_1_line list) r → Says old new (shown_lines bytes o) r
elements-all old mid late new bytes o ebml segment list r first second third said then says =
    Says-then old mid new (level_0_line o.ebml ∷ []) (level_0_line o.segment ∷ map level_1_line (segment_run bytes o.segment).list) r
    (said ∙ ap (λ (h : Header). with_lines old (level_0_line h ∷ [])) first)
    (Says-then mid late new (level_0_line o.segment ∷ []) (map level_1_line (segment_run bytes o.segment).list) r
    (then ∙ ap (λ (h : Header). with_lines mid (level_0_line h ∷ [])) second)
    (subst (λ (l : List Header). Says late new (map level_1_line l) r) third says))

-- ---- the result

-- The lines of an outline that was read are the outline's.
shown_lines-is : (bytes : List ℕ) (v : FileOutline) (of : Outlines 0 bytes v) → shown_lines bytes v ≡ element_lines of.outlined
shown_lines-is bytes v of =
    ap (shown_lines bytes) of.shows
    ∙ ap (λ (l : List Header). level_0_line of.outlined.ebml ∷ level_0_line of.outlined.segment ∷ map level_1_line l) (sym of.list)

-- A file whose outline was read is listed, unless its tracks are refused.
verdict-is : (name bytes : List ℕ) (v : FileOutline) (of : Outlines 0 bytes v) (found : Result (List Track) Damage) → found ≡ file_tracks bytes v.segment → listed_verdict name bytes ≡ with_tracks name of.outlined found
verdict-is name bytes v of found tracks =
    ap (listed_or_refused name bytes) of.is
    ∙ ap (with_tracks name of.outlined) (sym (tracks ∙ ap (λ (w : FileOutline). file_tracks bytes w.segment) of.shows))

-- The tracks refuse the file.
pub reaches-refused : (old new : ReportLines) (name bytes : List ℕ) (v : FileOutline) (found : Result (List Track) Damage) (d : Damage) (r : Result Status CommandEnd) → outline_in 0 bytes ≡ Ok v → found ≡ file_tracks bytes v.segment → found ≡ Err d → SaysVerdict old new r (refused (refusal_line name d)) → SaysVerdict old new r (listed_verdict name bytes)
reaches-refused old new name bytes v found d r outline tracks is reaches =
    let of = Outlines-shown 0 bytes v outline in
    subst (λ (w : Verdict). SaysVerdict old new r w) (sym (verdict-is name bytes v of found tracks ∙ ap (with_tracks name of.outlined) is)) reaches

-- The list was begun.
pub reaches-part : (old new : ReportLines) (name bytes : List ℕ) (v : FileOutline) (found : Result (List Track) Damage) (list : List Track) (why : CommandEnd) → outline_in 0 bytes ≡ Ok v → found ≡ file_tracks bytes v.segment → found ≡ Ok list → SaysPart old new (shown_lines bytes v) → SaysVerdict old new (Err why) (listed_verdict name bytes)
reaches-part old new name bytes v found list why outline tracks is part =
    let of = Outlines-shown 0 bytes v outline in
    let o = of.outlined in
    let lines : SaysPart old new (element_lines o) = subst (λ (l : List (List ℕ)). SaysPart old new l) (shown_lines-is bytes v of) part in
    subst (λ (w : Verdict). SaysVerdict old new (Err why) w) (sym (verdict-is name bytes v of found tracks ∙ ap (with_tracks name o) is))
    (SaysPart-before old new (element_lines o) (track_lines 0 list ++ warnings name o.damage) lines)

-- The Elements were printed, and the tracks begun.
pub reaches-second : (old mid new : ReportLines) (name bytes : List ℕ) (v : FileOutline) (found : Result (List Track) Damage) (list : List Track) (why : CommandEnd) → outline_in 0 bytes ≡ Ok v → found ≡ file_tracks bytes v.segment → found ≡ Ok list → mid ≡ with_lines old (shown_lines bytes v) → SaysPart mid new (track_lines 0 list) → SaysVerdict old new (Err why) (listed_verdict name bytes)
reaches-second old mid new name bytes v found list why outline tracks is said part =
    let of = Outlines-shown 0 bytes v outline in
    let o = of.outlined in
    subst (λ (w : Verdict). SaysVerdict old new (Err why) w) (sym (verdict-is name bytes v of found tracks ∙ ap (with_tracks name o) is))
    (SaysPart-behind old mid new (element_lines o) (track_lines 0 list ++ warnings name o.damage)
    (said ∙ ap (with_lines old) (shown_lines-is bytes v of))
    (SaysPart-before mid new (track_lines 0 list) (warnings name o.damage) part))

-- Both were printed, and then the warning.
reaches-listed : (old new : ReportLines) (name : List ℕ) (o : Outlined) (list : List Track) (r : Result Status CommandEnd) → Says old new (element_lines o ++ (track_lines 0 list ++ warnings name o.damage)) r → IfOk r (λ s. s ≡ status_with o.damage) → SaysVerdict old new r (listed name o list)
reaches-listed old new name o list (Ok s) says status = (status, says)
reaches-listed old new name o list (Err why) says status = says

pub reaches-warned : (old mid late new : ReportLines) (name bytes : List ℕ) (v : FileOutline) (found : Result (List Track) Damage) (list : List Track) (damage : Option Damage) (r : Result Status CommandEnd) → outline_in 0 bytes ≡ Ok v → found ≡ file_tracks bytes v.segment → found ≡ Ok list → damage ≡ v.damage → mid ≡ with_lines old (shown_lines bytes v) → late ≡ with_lines mid (track_lines 0 list) → Says late new (warnings name damage) r → IfOk r (λ s. s ≡ status_with damage) → SaysVerdict old new r (listed_verdict name bytes)
reaches-warned old mid late new name bytes v found list damage r outline tracks is same said then says status =
    let of = Outlines-shown 0 bytes v outline in
    let o = of.outlined in
    let same_damage : damage ≡ o.damage = same ∙ ap (λ (w : FileOutline). w.damage) of.shows in
    subst (λ (w : Verdict). SaysVerdict old new r w) (sym (verdict-is name bytes v of found tracks ∙ ap (with_tracks name o) is))
    (reaches-listed old new name o list r
    (Says-then old mid new (element_lines o) (track_lines 0 list ++ warnings name o.damage) r
    (said ∙ ap (with_lines old) (shown_lines-is bytes v of))
    (Says-then mid late new (track_lines 0 list) (warnings name o.damage) r then
    (subst (λ (d : Option Damage). Says late new (warnings name d) r) same_damage says)))
    (subst (λ (d : Option Damage). IfOk r (λ s. s ≡ status_with d)) same_damage status))

-- Nothing is written.
pub listed-nothing : (name bytes : List ℕ) → (listed_verdict name bytes).outputs ≡ nothing
listed-nothing name bytes = outline (outline_of 0 bytes)
  where
    tracks : (o : Outlined) (found : Result (List Track) Damage) → (with_tracks name o found).outputs ≡ nothing
    tracks o (Ok list) = refl
    tracks o (Err d) = refl

    outline : (found : Result Outlined Damage) → (listed_or_refused name bytes found).outputs ≡ nothing
    outline (Ok o) = tracks o (file_tracks bytes o.segment)
    outline (Err d) = refl
