-- A file whose Cues are rewritten holds its old content and its index.
use Rattle.std.proofs.Common.{inl, inr, ◌≡◌, ◌⊎◌, ◌≤◌, ℕ, ◌+◌, ◌-◌, ◌==◌, ◌&&◌, nat_lt, not, Bool, true, false, if◌then◌else◌, List, [], ◌∷◌, ◌++◌, length, get_or, map, filter, flat_map, All, Option, Some, None, Result, Ok, Err, refl, sym, ◌∙◌, ap, ap₂, subst, arith}
use Rattle.std.specs.Bool.{⊤}
use Rattle.std.specs.List.{Contains}
use Rattle.std.specs.Option.{option_or}
use Rattle.std.proofs.lemmas.Bool.Decides.{nat_tests}
use Rattle.std.specs.Prelude.{sum_by}
use Rattle.std.proofs.lemmas.List.Elements.{All-weaker}
use Rattle.std.proofs.lemmas.List.Sums.{length-filter}
use Rattle.ebml_numbers.specs.Number.{AreOctets}
use Rattle.mkv_schema.specs.declared.ids.TheConstants.{ATTACHMENTS, CHAPTERS, CLUSTER, CUES, INFO, SEEK_HEAD, TAGS, TRACKS}
use Rattle.mkv_io.specs.declared.damage.Damage.{Damage}
use Rattle.mkv_io.specs.declared.outside.TheConstants.{LONGEST_FILE}
use Rattle.mkv_schema.specs.declared.element.Header.{Header}
use Rattle.mkv_schema.specs.Element.{in_segment, element_at}
use Rattle.mkv_schema.specs.Elements.{Run}
use Rattle.mkv_schema.specs.declared.limits.TheConstants.{MAX_ELEMENTS, MAX_MASTER_LEN}
use Rattle.mkv_schema.specs.Outline.{outlined, segment_bound, segment_run}
use Rattle.element_reader.specs.Collected.{others_of}
use Rattle.element_reader.specs.Outline.{shown}
use Rattle.mkv_io.specs.Results.{and_then, and_then as edits_then, unless as unless_refused}
use Rattle.mkv_schema.specs.Value.{first_of}
use Rattle.tree_format.specs.Node.{Node, children}
use Rattle.tree_format.specs.NormalForm.{octets}
use Rattle.file_format.specs.FileBlocks.{file_events}
use Rattle.file_format.specs.Info.{file_scale}
use Rattle.meta_records.specs.Attached.{first_attached}
use Rattle.meta_records.specs.Records.{first_tree}
use Rattle.block_format.specs.Block.{Block}
use Rattle.block_format.specs.Elements.{Rules, with_limits, without_limits}
use Rattle.block_format.specs.Events.{Event, Found, damages_of, events_among, events_of, events_then, found_in, is_closed}
use Rattle.output_model.specs.Element.{Element, header_in_place, joined}
use Rattle.output_model.specs.SeekHead.{seek_element}
use Rattle.output_model.proofs.ReadLemmas.{body_of-read}
use Rattle.output_laws.specs.Points.{PointsAt, PointsAtBlock}
use Rattle.output_laws.specs.Reading.{CuesAre}
use Rattle.sidecar_edit.specs.Writes.{Write, applied}
use Rattle.edit_changes.specs.Plan.{if_editable, number_of, twin_of, writes_of_parts}
use Rattle.edit_changes.specs.Records.{EditableFile, good_tracks, trees_of}
use Rattle.edit_changes.specs.SeekHead.{stays}
use Rattle.edit_plan.proofs.PlanLemmas.{parts-in-order, unless-none}
use Rattle.edit_laws.proofs.AmongLemmas.{IsAmong}
use Rattle.edit_laws.proofs.BlockLemmas.{AreAlike}
use Rattle.edit_laws.proofs.EndLemmas.{twin-none}
use Rattle.edit_laws.proofs.OpenedLemmas.{IsOpened, opened}
use Rattle.edit_laws.proofs.PlannedLemmas.{in-order}
use Rattle.edit_laws.proofs.SectionLemmas.{AreFirst, trees-first}
use Rattle.edit_laws.proofs.TreeLemmas.{then-ok}
use Rattle.edit_laws.specs.Laws.{IsOutside}
use Rattle.reindex.specs.Index.{indexable}
use Rattle.reindex.specs.Plan.{Index, cues_parts, index_ids, index_with, index_writes, new_cues}
use Rattle.reindex.specs.Points.{cluster_before, index_points, indexed_tracks, is_indexed, point_in}
use Rattle.edit_laws.specs.IndexLaws.{HoldsIndex, NewIndexIsWhole, HasSeeksOf, first_seeks}
use Rattle.edit_laws.proofs.CuesLemmas.{HoldsCues, cues-are, cues-hold, new-own}
use Rattle.edit_laws.proofs.PointLemmas.{IsAtTick, each-has, hidden-none, indexable-whole, indexed-time}
use Rattle.edit_laws.proofs.ItemLemmas.{Item, names}
use Rattle.edit_laws.proofs.CountLemmas.{described_len, sum-none, undescribed}
use Rattle.edit_laws.proofs.IndexedLemmas.{indexed-again, scale-tree, scale_read, trees-are, trees_from}
use Rattle.edit_laws.proofs.LimitLemmas.{AreWithinLimits, counts, described-sum}
use Rattle.edit_laws.proofs.WriteLemmas.{described_there, there-none}

-- ---- an undamaged file

-- Only blocks were found, and no damage.
abbrev AreBlocks : List Found → Type 0
AreBlocks [] = ⊤
AreBlocks (Ok b ∷ found) = AreBlocks found
AreBlocks (Err d ∷ found) = ⊥

-- No damage ends level 1, and no Cluster has any.
record AreUndamaged (r : Rules) (bytes : List ℕ) (e : ℕ) (list : List Header) (wrong : Option Damage) : Type 0 where
  level : wrong ≡ None
  clusters : (h : Header) → (h.id == CLUSTER) ≡ true → IsAmong list h → AreBlocks (found_in r bytes e h)

then-undamaged : (closed : Bool) (found : List Found) (rest : List Event) → damages_of (events_then closed found rest) ≡ [] → AreBlocks found × (damages_of rest ≡ [])
then-undamaged closed [] rest is = (tt, is)
then-undamaged closed (Ok b ∷ found) rest is = then-undamaged closed found rest is
then-undamaged true (Err d ∷ found) rest is = absurd (cc)
then-undamaged false (Err d ∷ found) rest is = absurd (cc)

among-undamaged : (r : Rules) (bytes : List ℕ) (e : ℕ) (list : List Header) (wrong : Option Damage) → damages_of (events_among r bytes e list wrong) ≡ [] → AreUndamaged r bytes e list wrong
among-undamaged r bytes e [] None is = record { level = refl; clusters = λ h cluster ahead. absurd ahead }
among-undamaged r bytes e [] (Some d) is = absurd (cc)
among-undamaged r bytes e (g ∷ gs) wrong is = of (among-undamaged r bytes e gs wrong) (g.id == CLUSTER) refl is
  where
    of : (damages_of (events_among r bytes e gs wrong) ≡ [] → AreUndamaged r bytes e gs wrong) → (test : Bool) → (g.id == CLUSTER) ≡ test
        → damages_of (if test then events_then (is_closed (length bytes) g) (found_in r bytes e g) (events_among r bytes e gs wrong) else events_among r bytes e gs wrong) ≡ [] → AreUndamaged r bytes e (g ∷ gs) wrong
    of further true own is =
        let both = then-undamaged (is_closed (length bytes) g) (found_in r bytes e g) (events_among r bytes e gs wrong) is in
        let rest = further both.1 in
        record {
          level = rest.level;
          clusters = λ h cluster ahead. elim ahead [
            | inl same ↦ subst (λ (x : Header). AreBlocks (found_in r bytes e x)) same both.0
            | inr later ↦ rest.clusters h cluster later
          ];
        }
    of further false other is =
        let rest = further is in
        record {
          level = rest.level;
          clusters = λ h cluster ahead. elim ahead [
            | inl same ↦ (let own : (g.id == CLUSTER) ≡ true = ap (λ (x : Header). x.id == CLUSTER) same ∙ cluster in absurd (cc))
            | inr later ↦ rest.clusters h cluster later
          ];
        }

events-undamaged : (r : Rules) (bytes : List ℕ) (segment : Header) → damages_of (events_of r bytes segment) ≡ [] → AreUndamaged r bytes (segment_bound bytes segment) (segment_run bytes segment).list (segment_run bytes segment).damage
unfolding events_of
events-undamaged r bytes segment is = among-undamaged r bytes (segment_bound bytes segment) (segment_run bytes segment).list (segment_run bytes segment).damage is

-- Lists that are alike and have no damage are equal.
alike-same : (xs ys : List Found) → AreBlocks xs → AreAlike xs ys → xs ≡ ys
alike-same [] [] are alike = refl
alike-same [] (y ∷ ys) are alike = absurd alike
alike-same (Ok x ∷ xs) [] are alike = absurd alike
alike-same (Ok x ∷ xs) (Ok y ∷ ys) are alike = ap₂ (λ (b : Block) (bs : List Found). Ok b ∷ bs) alike.0 (alike-same xs ys are alike.1)
alike-same (Ok x ∷ xs) (Err d ∷ ys) are alike = absurd alike
alike-same (Err d ∷ xs) ys are alike = absurd are

-- ---- cue points

-- The Cluster before a place is in the list.
before-ahead : (at : ℕ) (list : List Header) (c : Header) → cluster_before at list ≡ Some c → IsAmong list c
before-ahead at [] c is = absurd (cc)
before-ahead at (h ∷ hs) c is = of (cluster_before at hs) (before-ahead at hs c) (h.id == CLUSTER && nat_lt h.offset at) is
  where
    of : (later : Option Header) → (later ≡ Some c → IsAmong hs c) → (test : Bool) → option_or later (if test then Some h else None) ≡ Some c → (h ≡ c) ⊎ IsAmong hs c
    of (Some k) further test is = inr (further is)
    of None further true is = inl (cc)
    of None further false is = absurd (cc)

-- ---- the law

module _ (bytes : List ℕ) (f : EditableFile) (is : indexable bytes ≡ Ok f) where
  abbrev segment : Header
  segment = f.outline.segment

  abbrev scale : ℕ
  scale = file_scale bytes segment

  undamaged : AreUndamaged (without_limits scale) bytes (segment_bound bytes segment) (segment_run bytes segment).list (segment_run bytes segment).damage
  undamaged = events-undamaged (without_limits scale) bytes segment (ap damages_of (hidden-none bytes f is) ∙ (indexable-whole bytes f is).undamaged)

  op : IsOpened bytes f.outline
  op = opened bytes f.outline (indexable-whole bytes f is).outline

  first : AreFirst bytes segment f.trees
  first = trees-first bytes segment f.trees (indexable-whole bytes f is).trees

  -- A cue point of the old file points at the same block in the new one.
  point-holds : (new : List ℕ) (h : HoldsCues bytes new f.outline (index_points bytes segment f.trees.tracks)) (b : Block) (at : IsAtTick bytes segment b) → is_indexed (indexed_tracks f.trees.tracks) b ≡ true
      → PointsAt scale new h.rest.segment (point_in scale segment.body b at.cluster) at.cluster b
  point-holds new h b at indexed =
      let behind = at.stands.behind in let inside = at.stands.inside in let body = h.rest.body in
      let own = at.stands.is_cluster in
      let cluster : (at.cluster.id == CLUSTER) ≡ true = grind (arith, nat_tests) in
      let ahead = before-ahead b.offset (segment_run bytes segment).list at.cluster at.stands.before in
      let holds = h.rest.clusters at.cluster cluster ahead in
      let same = alike-same _ _ (undamaged.clusters at.cluster cluster ahead) (holds.alike (without_limits scale)) in
      let place : h.rest.segment.body + (at.cluster.offset - segment.body) ≡ at.cluster.offset = omega arith in
      record {
        stands = subst (λ n. element_at in_segment new n (segment_bound new h.rest.segment) ≡ Ok at.cluster) (sym place) holds.found;
        is_cluster = own;
        found = subst (λ (found : List Found). Contains found (Ok b)) same at.stands.found;
        place = omega arith;
        track = refl;
        time = indexed-time bytes segment (indexed_tracks f.trees.tracks) b at indexed;
      }

  -- The SeekHead has the Seeks of the first Elements.
  tells-of : (new : List ℕ) (h : HoldsCues bytes new f.outline (index_points bytes segment f.trees.tracks)) → HasSeeksOf index_ids bytes new segment h.rest.segment
  tells-of new h =
      let w = h.seeks in
      let list : (segment_run new h.rest.segment).list ≡ h.rest.list = ap (λ (r : Run). r.list) h.rest.run in
      record {
        header = header_in_place w.place w.element;
        first = ap (first_of SEEK_HEAD) list ∙ w.first;
        old_head = h.old_head;
        read = h.read;
        body = body_of-read new w.place w.element w.held ∙ w.spells
            ∙ ap₂ (λ (base : ℕ) (hs : List Header). joined (map seek_element (first_seeks index_ids base hs)) ++ flat_map octets (filter (stays index_ids) (children h.old_head))) (sym h.rest.body) (sym list);
      }

  -- ---- the file can be indexed again

  -- No item is an Info, Tracks, Chapters or Tags, and none of these follows the old end.
  items-undescribed : (new : List ℕ) (h : HoldsCues bytes new f.outline (index_points bytes segment f.trees.tracks)) → All (λ (i : Item). described_len i.element ≡ 0) h.items
  items-undescribed new h =
      let info = h.untouched INFO names.info.level refl refl refl in
      let tracks = h.untouched TRACKS names.tracks.level refl refl refl in
      let chapters = h.untouched CHAPTERS names.chapters.level refl refl refl in
      let tags = h.untouched TAGS names.tags.level refl refl refl in
      λ k d below. undescribed (get_or h.items k d).element (info.written k d below) (tracks.written k d below) (chapters.written k d below) (tags.written k d below)

  added-undescribed : (new : List ℕ) (h : HoldsCues bytes new f.outline (index_points bytes segment f.trees.tracks)) → All (λ (d : Element). described_len d ≡ 0) h.added
  added-undescribed new h =
      let info = h.untouched INFO names.info.level refl refl refl in
      let tracks = h.untouched TRACKS names.tracks.level refl refl refl in
      let chapters = h.untouched CHAPTERS names.chapters.level refl refl refl in
      let tags = h.untouched TAGS names.tags.level refl refl refl in
      λ k d below. undescribed (get_or h.added k d) (info.behind k d below) (tracks.behind k d below) (chapters.behind k d below) (tags.behind k d below)

  -- The Elements of level 1 are within the limits, if two more are.
  new-within : (new : List ℕ) (h : HoldsCues bytes new f.outline (index_points bytes segment f.trees.tracks)) → length f.outline.others + 2 ≤ MAX_ELEMENTS → AreWithinLimits (segment_run new h.rest.segment).list
  new-within new h room =
      let items = items-undescribed new h in
      let added = added-undescribed new h in
      let was = op.within in
      let list = (segment_run bytes segment).list in
      let number : length f.outline.others ≡ sum_by counts list = ap (λ (hs : List Header). length hs) op.others ∙ length-filter (λ (k : Header). not (k.id == CLUSTER)) list in
      let few = h.few in
      let count = h.rest.count in
      let old_sum = described-sum list in
      let new_sum = described-sum h.rest.list in
      let sum = h.rest.described in
      let none : sum_by (described_there (others_of list)) h.items ≡ 0 =
      sum-none (described_there (others_of list)) h.items
      (All-weaker (λ (i : Item). described_len i.element ≡ 0) (λ (i : Item). described_there (others_of list) i ≡ 0) (λ i is. there-none (others_of list) i is) h.items items) in
      let nothing : sum_by described_len h.added ≡ 0 = sum-none described_len h.added added in
      let old_count = was.count in
      let old_all = was.all in
      subst AreWithinLimits (sym (ap (λ (r : Run). r.list) h.rest.run)) (record {
        count = omega arith;
        each = h.rest.short was.each
            (All-weaker (λ (i : Item). described_len i.element ≡ 0) (λ (i : Item). described_len i.element ≤ MAX_MASTER_LEN) (λ i is. omega arith) h.items items)
            (All-weaker (λ (d : Element). described_len d ≡ 0) (λ (d : Element). described_len d ≤ MAX_MASTER_LEN) (λ d is. omega arith) h.added added);
        all = omega arith;
      })

  -- The trees are read as before.
  trees-again : (new : List ℕ) (now : Header) → first_tree INFO new now ≡ first_tree INFO bytes segment → first_tree TRACKS new now ≡ first_tree TRACKS bytes segment → first_attached new now ≡ first_attached bytes segment
      → first_tree CHAPTERS new now ≡ first_tree CHAPTERS bytes segment → first_tree TAGS new now ≡ first_tree TAGS bytes segment → trees_of new now ≡ Ok f.trees
  trees-again new now info tracks attachments chapters tags =
      let good : and_then (first_tree TRACKS new now) (good_tracks now) ≡ and_then (first_tree TRACKS bytes segment) (good_tracks segment) =
      ap (λ (x : Result (Option Node) Damage). and_then x (good_tracks now)) (tracks ∙ first.tracks) ∙ sym (ap (λ (x : Result (Option Node) Damage). and_then x (good_tracks segment)) first.tracks) in
      trees-are new now
      ∙ ap (λ x. trees_from x (and_then (first_tree TRACKS new now) (good_tracks now)) (first_attached new now) (first_tree CHAPTERS new now) (first_tree TAGS new now)) info
      ∙ ap (λ x. trees_from (first_tree INFO bytes segment) x (first_attached new now) (first_tree CHAPTERS new now) (first_tree TAGS new now)) good
      ∙ ap (λ x. trees_from (first_tree INFO bytes segment) (and_then (first_tree TRACKS bytes segment) (good_tracks segment)) x (first_tree CHAPTERS new now) (first_tree TAGS new now)) attachments
      ∙ ap (λ x. trees_from (first_tree INFO bytes segment) (and_then (first_tree TRACKS bytes segment) (good_tracks segment)) (first_attached bytes segment) x (first_tree TAGS new now)) chapters
      ∙ ap (trees_from (first_tree INFO bytes segment) (and_then (first_tree TRACKS bytes segment) (good_tracks segment)) (first_attached bytes segment) (first_tree CHAPTERS bytes segment)) tags
      ∙ sym (trees-are bytes segment)
      ∙ (indexable-whole bytes f is).trees

  holds-index : (new : List ℕ) → HoldsCues bytes new f.outline (index_points bytes segment f.trees.tracks) → HoldsIndex bytes new f (index_points bytes segment f.trees.tracks)
  holds-index new h =
      let info = h.rest.tree INFO (h.untouched INFO names.info.level refl refl refl) in
      let tracks = h.rest.tree TRACKS (h.untouched TRACKS names.tracks.level refl refl refl) in
      let attachments = h.rest.attached first.files (h.untouched ATTACHMENTS names.attachments.level refl refl refl) first.attached ∙ sym first.attached in
      let chapters = h.rest.tree CHAPTERS (h.untouched CHAPTERS names.chapters.level refl refl refl) in
      let tags = h.rest.tree TAGS (h.untouched TAGS names.tags.level refl refl refl) in
      let same : scale ≡ file_scale new h.rest.segment = scale-tree bytes segment ∙ sym (scale-tree new h.rest.segment ∙ ap scale_read info) in
      let undamaged : damages_of (file_events true new h.rest.segment) ≡ [] = subst (λ n. damages_of (events_of (with_limits n) new h.rest.segment) ≡ []) same (h.rest.undamaged (with_limits scale) (indexable-whole bytes f is).undamaged) in
      record {
        segment = h.rest.segment;
        ebml = h.rest.ebml;
        found = h.rest.found;
        body = h.rest.body;
        whole = ap (λ (r : Run). r.damage) h.rest.run;
        undamaged = undamaged;
        info = info;
        tracks = tracks;
        attachments = attachments;
        file_data = h.rest.file_data first.files (h.untouched ATTACHMENTS names.attachments.level refl refl refl) first.attached;
        chapters = chapters;
        tags = tags;
        blocks = h.rest.blocks;
        cues = subst (λ list. CuesAre new list (index_points bytes segment f.trees.tracks)) (sym (ap (λ (r : Run). r.list) h.rest.run)) h.cues;
        points_at = subst (λ n. All (PointsAtBlock n new h.rest.segment) (index_points bytes segment f.trees.tracks)) same
            (each-has (PointsAtBlock scale new h.rest.segment) bytes f is (λ b at indexed. (at.cluster, b, point-holds new h b at indexed)));
        seeks = tells-of new h;
        again = λ room. (
          shown new (outlined new f.outline.ebml h.rest.segment (segment_run new h.rest.segment)),
          indexed-again new f.outline.ebml h.rest.segment f.trees h.rest.ebml h.rest.found (new-within new h room) (trees-again new h.rest.segment info tracks attachments chapters tags) undamaged,
        );
      }

  with-writes : (ws : List Write) → AreOctets bytes → length bytes ≤ LONGEST_FILE → All IsOutside (segment_run bytes segment).list
      → index_writes bytes f.outline (index_points bytes segment f.trees.tracks) ≡ Ok ws → HoldsIndex bytes (applied bytes ws) f (index_points bytes segment f.trees.tracks)
  with-writes ws are_octets short outside made =
      let points = index_points bytes segment f.trees.tracks in
      let old = f.outline.others in
      let found = first_of CUES old in
      let split = then-ok (unless_refused (twin_of old CUES) (cues_parts old found (new_cues points))) (writes_of_parts index_ids true bytes f.outline) ws made in
      let parts = unless-none (twin_of old CUES) (cues_parts old found (new_cues points)) split.0 split.1.0 in
      let written : writes_of_parts index_ids true bytes f.outline (cues_parts old found (new_cues points)) ≡ Ok ws = ap (writes_of_parts index_ids true bytes f.outline) parts.1 ∙ split.1.1 in
      let plan = parts-in-order bytes 0 f.outline index_ids true (cues_parts old found (new_cues points)) ws short (indexable-whole bytes f is).outline (cues-are old found (new_cues points) refl (new-own points)) written in
      let alone : number_of CUES old ≤ 1 = twin-none old CUES parts.0 in
      holds-index (applied bytes ws)
      (cues-hold bytes are_octets short f.outline ws op (op.damage ∙ undamaged.level) (in-order (length bytes) 0 ws plan.sound.order) outside (subst (λ l. number_of CUES l ≤ 1) op.others alone) points
      (ap (λ l. writes_of_parts index_ids true bytes f.outline (cues_parts l (first_of CUES l) (new_cues points))) (sym op.others) ∙ written))

-- A file whose Cues are rewritten holds its old content and its index.
pub index-whole : NewIndexIsWhole
index-whole old f x are_octets short outside found is =
    let points = index_points old f.outline.segment f.trees.tracks in
    let with_file : index_with old f.outline points ≡ Ok x =
    sym (ap (λ (r : Result EditableFile Damage). edits_then (if_editable r) (λ (g : EditableFile). index_with old g.outline (index_points old g.outline.segment g.trees.tracks))) found) ∙ is in
    let made = then-ok (index_writes old f.outline points) (λ ws. Ok (record { writes = ws; points = points })) x with_file in
    let same : record { writes = made.0; points = points } ≡ x = (let last = made.1.1 in cc) in
    let P : Index → Type 0 = λ y. HoldsIndex old (applied old y.writes) f y.points in
    subst P same (with-writes old f found made.0 are_octets short outside made.1.0)
