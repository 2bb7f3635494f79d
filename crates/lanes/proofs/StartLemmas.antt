-- An output track at its start.
use Rattle.std.proofs.Common.{◌≡◌, ℕ, suc, Bool, true, false, if◌then◌else◌, List, [], ◌∷◌, ◌++◌, length, map, take, drop, replicate, Option, None, refl, sym, ◌∙◌, ap, subst, append-nil, append_assoc}
use Rattle.std.specs.List.{All, slice_get}
use Rattle.std.proofs.lemmas.List.{length-map, length-replicate}
use Rattle.cluster_reader.specs.Reading.{Reading}
use Rattle.mkv_io.specs.declared.damage.Damage.{Damage}
use Rattle.mkv_io.specs.LiveFiles.{LiveFiles}
use Rattle.cluster_reader.specs.ToldDamages.{told_damages}
use Rattle.cluster_reader.proofs.ToldDamagesLemmas.{with_damage-told}
use Rattle.merge_model.specs.Links.{Given}
use Rattle.merge_model.specs.Lanes.{lane_blocks, lane_damages}
use Rattle.merge_model.specs.Merged.{ordered_from}
use Rattle.merge_model.specs.FileLinks.{IsOpenLink, given_in}
use Rattle.merge_model.specs.declared.link.Link.{Link}
use Rattle.lanes.specs.Begun.{Begins}
use Rattle.lanes.specs.Lane.{LaneSeen, Starts}
use Rattle.lanes.specs.Told.{with_all, with_damages}
use Rattle.lanes.specs.Walks.{HasCounted, IsAt, IsReady, due, files_length, left, links_left, told_in_all}
use Rattle.lanes.specs.declared.walk.Walk.{Walk}
use Rattle.lanes.proofs.WalkLemmas.{links_left-fresh}
use Rattle.lanes.proofs.WayLemmas.{due-fresh}

-- Adding damaged places in sequence gives the report of the whole list.
with-told : (before ds : List Damage) → with_damages (told_damages before) ds ≡ told_damages (before ++ ds)
with-told before [] = ap told_damages (sym (append-nil before))
with-told before (d ∷ ds) =
    ap (λ t. with_damages t ds) (with_damage-told before d)
    ∙ with-told (before ++ d ∷ []) ds
    ∙ ap told_damages (append_assoc before (d ∷ []) ds)

with-all : (dss : List (List Damage)) → with_all (replicate (length dss) (told_damages [])) dss ≡ map told_damages dss
with-all [] = refl
with-all (ds ∷ dss) = ap (λ t. t ∷ with_all (replicate (length dss) (told_damages [])) dss) (with-told [] ds) ∙ ap (λ ts. told_damages ds ∷ ts) (with-all dss)

pub length-damages : (gs : List Given) → length (lane_damages gs) ≡ length gs
length-damages [] = refl
length-damages (g ∷ gs) = ap suc (split (length-damages gs) g.stops)
  where
    split : length (lane_damages gs) ≡ length gs → (st : Bool) → length (if st then map (λ _. []) gs else lane_damages gs) ≡ length gs
    split later true = length-map gs (λ (_ : Given). [])
    split later false = later

module _ (f : LiveFiles) (scale : ℕ) (links : List Link) (w : Walk) (begins : Begins (length links) w) where
  all-left : links_left f links w ≡ map (given_in f) links
  all-left = links_left-fresh f links w begins.cursor begins.next ∙ ap (λ (k : ℕ). map (given_in f) (drop k links)) begins.at

  pub left-start : left f scale links w ≡ ordered_from 0 (lane_blocks scale (map (given_in f) links))
  left-start = ap (λ gs. ordered_from w.greatest (lane_blocks scale gs)) all-left ∙ ap (λ (m : ℕ). ordered_from m (lane_blocks scale (map (given_in f) links))) begins.greatest

  pub told-start : told_in_all f links w ≡ map told_damages (lane_damages (map (given_in f) links))
  told-start =
      ap (λ (k : ℕ). take k w.told.items ++ with_all (drop k w.told.items) (lane_damages (links_left f links w))) begins.at
      ∙ ap (λ gs. with_all w.told.items (lane_damages gs)) all-left
      ∙ ap (λ ts. with_all ts (lane_damages (map (given_in f) links))) (begins.told ∙ ap (λ (n : ℕ). replicate n (told_damages [])) (sym (length-damages (map (given_in f) links) ∙ length-map links (given_in f))))
      ∙ with-all (lane_damages (map (given_in f) links))

  pub ready-start : All (IsOpenLink f) links → IsReady f links w
  ready-start files = record {
    files = files;
    here = none w.cursor begins.cursor;
    told = ap length begins.told ∙ length-replicate (length links) (told_damages []);
    stopped = λ _. begins.stopped;
    frames = subst (HasCounted w.frames) (sym begins.cursor) begins.frames;
  }
    where
      none : (o : Option Reading) → o ≡ None → IsAt f o (slice_get links w.at)
      none o is = subst (λ each. IsAt f each (slice_get links w.at)) (sym is) tt

  pub due-start : due f links w ≡ files_length f links
  due-start = due-fresh f links w begins.cursor ∙ ap (λ (k : ℕ). files_length f (drop k links)) begins.at

pub starts : (f : LiveFiles) (l : LaneSeen) → Begins (length l.links) l.walk → Starts f l.scale l.links l
starts f l begins = record {
  left = left-start f l.scale l.links l.walk begins;
  told = told-start f l.scale l.links l.walk begins;
  ready = ready-start f l.scale l.links l.walk begins;
  due = due-start f l.scale l.links l.walk begins;
}
