-- The attached files of an Attachments Element that two contents share.
use Rattle.std.proofs.Common.{is_none, ◌≡◌, ◌==◌, ℕ, ◌+◌, Bool, true, false, if◌then◌else◌, List, [], ◌∷◌, map, filter, flat_map, All, Option, Some, None, Result, Ok, Err, refl, sym, ◌∙◌, ap, subst}
use Rattle.std.specs.Option.{is_some, option_map_or}
use Rattle.std.proofs.lemmas.List.Elements.{All-head, All-tail, All-filter, All-map, All-weaker}
use Rattle.mkv_schema.specs.declared.ids.TheConstants.{ATTACHED_FILE, FILE_DATA, FILE_UID}
use Rattle.mkv_io.specs.declared.damage.Damage.{Damage}
use Rattle.mkv_schema.specs.declared.element.Header.{Header}
use Rattle.mkv_io.specs.declared.damage.Kind.TheVariants.{MissingChild}
use Rattle.mkv_schema.specs.Element.{damage, known, octets_between, stated_end, in_master}
use Rattle.mkv_schema.specs.Elements.{never}
use Rattle.mkv_schema.specs.Outline.{first_damage, first_refusal, where_it}
use Rattle.mkv_io.specs.Results.{unless}
use Rattle.mkv_schema.proofs.OutlineLemmas.{unless-ok}
use Rattle.mkv_schema.specs.Value.{first_of, is_known_value}
use Rattle.tree_format.specs.Node.{Node, leaf, master, nodes_of}
use Rattle.tree_format.specs.Changes.{with_child}
use Rattle.tree_format.specs.Values.{uint_in}
use Rattle.meta_records.specs.Attachments.{ScannedElement, children_of, part_of, is_attached, ended, met_in, at_part, parts_in, at_child, causes, refused_from, refused_in, data_in, missing_data, attached_in, attachments_causes, too_many_files, leaf_of, entry_of}
use Rattle.meta_records.specs.Attached.{AttachedFile, file_at, files_at}
use Rattle.edit_laws.specs.Laws.{attached_bytes}
use Rattle.edit_laws.proofs.AmongLemmas.{all-among, first-among}
use Rattle.edit_laws.proofs.RunLemmas.{AreAlikeRuns, runs-alike, run-inside, StandsInside}
use Rattle.edit_laws.proofs.BlockLemmas.{AreAlike, IsHeld, alike-append, map-same, shared-body}
use Rattle.edit_laws.proofs.ClusterLemmas.{held-inside}

module _ (a b : List ℕ) where
  -- ---- children

  pub record HasChildren (h : Header) : Type 0 where
    pub alike : AreAlikeRuns (children_of a h) (children_of b h)
    pub held : All (IsHeld a b) (children_of a h).list

  children-held : (h : Header) → IsHeld a b h → HasChildren h
  children-held h own =
      let inside = shared-body a b h own.shared in
      record {
        alike = runs-alike never a b h.body (stated_end h) own.left own.right inside;
        held = All-weaker (StandsInside h.body (stated_end h)) (IsHeld a b) (λ c is. held-inside a b h.body (stated_end h) c own.left own.right inside is) (children_of a h).list (run-inside in_master (λ id. refl) never a (stated_end h) h.body);
      }

  list-same : (h : Header) → IsHeld a b h → (children_of b h).list ≡ (children_of a h).list
  list-same h own = sym (children-held h own).alike.list

  -- ---- children of an AttachedFile

  leaf-same : (h : Header) → IsHeld a b h → leaf_of b h ≡ leaf_of a h
  leaf-same h own = ap (λ (o : List ℕ). leaf h.id 0 (if h.id == FILE_DATA then [] else o)) (shared-body a b h own.shared)

  entry-same : (h : Header) → IsHeld a b h → entry_of b h ≡ entry_of a h
  entry-same h own =
      ap (λ (l : List Header). master ATTACHED_FILE h.offset (nodes_of (with_child (leaf FILE_DATA 0 []) (map (leaf_of b) l)))) (list-same h own)
      ∙ ap (λ (ns : List Node). master ATTACHED_FILE h.offset (nodes_of (with_child (leaf FILE_DATA 0 []) ns)))
      (map-same (leaf_of b) (leaf_of a) (children_of a h).list (All-weaker (IsHeld a b) (λ c. leaf_of b c ≡ leaf_of a c) leaf-same (children_of a h).list (children-held h own).held))

  data-same : (h : Header) → IsHeld a b h → data_in b h ≡ data_in a h
  data-same h own = ap (first_of FILE_DATA) (list-same h own)

  file-same : (h : Header) → IsHeld a b h → file_at b h ≡ file_at a h
  file-same h own =
      ap (λ (n : Node). record { uid = uint_in FILE_UID n; at = option_map_or (λ (d : Header). d.body) (data_in b h) 0; len = option_map_or (λ (d : Header). known d.size) (data_in b h) 0; entry = n }) (entry-same h own)
      ∙ ap (λ (o : Option Header). record { uid = uint_in FILE_UID (entry_of a h); at = option_map_or (λ (d : Header). d.body) o 0; len = option_map_or (λ (d : Header). known d.size) o 0; entry = entry_of a h }) (data-same h own)

  -- ---- results

  ended-met : (one two : Option Damage) → is_some one ≡ is_some two → AreAlike (ended one) (ended two)
  ended-met None None same = tt
  ended-met None (Some d) same = absurd (cc)
  ended-met (Some c) None same = absurd (cc)
  ended-met (Some c) (Some d) same = tt

  all-met : (f g : Header → List (Result ScannedElement Damage)) (hs : List Header) → ((h : Header) → IsHeld a b h → AreAlike (f h) (g h)) → All (IsHeld a b) hs → AreAlike (flat_map f hs) (flat_map g hs)
  all-met f g [] each held = tt
  all-met f g (h ∷ hs) each held = alike-append (f h) (g h) (flat_map f hs) (flat_map g hs) (each h (All-head (IsHeld a b) h hs held)) (all-met f g hs each (All-tail (IsHeld a b) h hs held))

  run-met : (f g : Header → List (Result ScannedElement Damage)) (h : Header) → ((c : Header) → IsHeld a b c → AreAlike (f c) (g c)) → IsHeld a b h → AreAlike (met_in f (children_of a h)) (met_in g (children_of b h))
  run-met f g h each own =
      let has = children-held h own in
      alike-append (flat_map f (children_of a h).list) (flat_map g (children_of b h).list) _ _
      (subst (λ (l : List Header). AreAlike (flat_map f (children_of a h).list) (flat_map g l)) has.alike.list (all-met f g (children_of a h).list each has.held))
      (ended-met (children_of a h).damage (children_of b h).damage has.alike.damage)

  part-met : (h : Header) → IsHeld a b h → AreAlike (at_part a h) (at_part b h)
  part-met h own = (ap (λ (o : List ℕ). record (part_of a h) { fits = is_known_value ATTACHED_FILE h.id o }) (sym (shared-body a b h own.shared)), tt)

  child-met : (h : Header) → IsHeld a b h → AreAlike (at_child a h) (at_child b h)
  child-met h own = (refl, of (is_attached h))
    where
      of : (test : Bool) → AreAlike (if test then parts_in a h else []) (if test then parts_in b h else [])
      of true = run-met (at_part a) (at_part b) h part-met own
      of false = tt

  refused-none : (octets nodes : ℕ) (xs ys : List (Result ScannedElement Damage)) → AreAlike xs ys → refused_from octets nodes xs ≡ None → refused_from octets nodes ys ≡ None
  refused-none octets nodes [] [] met none = refl
  refused-none octets nodes [] (y ∷ ys) met none = absurd met
  refused-none octets nodes (x ∷ xs) [] met none = refl
  refused-none octets nodes (Ok m ∷ xs) (Ok n ∷ ys) met none =
      subst (λ (k : ScannedElement). first_refusal (first_damage (causes octets nodes k)) (refused_from (octets + k.counted) (nodes + 1) ys) ≡ None) met.0
      (of (refused-none (octets + m.counted) (nodes + 1) xs ys met.1) (first_damage (causes octets nodes m)) none)
    where
      of : (refused_from (octets + m.counted) (nodes + 1) xs ≡ None → refused_from (octets + m.counted) (nodes + 1) ys ≡ None) → (first : Option Damage) → first_refusal first (refused_from (octets + m.counted) (nodes + 1) xs) ≡ None → first_refusal first (refused_from (octets + m.counted) (nodes + 1) ys) ≡ None
      of further None rest = further rest
      of further (Some d) some = absurd (cc)
  refused-none octets nodes (Ok m ∷ xs) (Err d ∷ ys) met none = absurd met
  refused-none octets nodes (Err c ∷ xs) (Ok n ∷ ys) met none = absurd met
  refused-none octets nodes (Err c ∷ xs) (Err d ∷ ys) met none = absurd (cc)

  -- ---- the whole

  attached-held : (h : Header) → IsHeld a b h → All (IsHeld a b) (attached_in a h)
  attached-held h own = All-filter is_attached (IsHeld a b) (children_of a h).list (children-held h own).held

  attached-same : (h : Header) → IsHeld a b h → attached_in b h ≡ attached_in a h
  attached-same h own = ap (filter is_attached) (list-same h own)

  missing-same : (h : Header) → IsHeld a b h → map (missing_data b) (attached_in b h) ≡ map (missing_data a) (attached_in a h)
  missing-same h own =
      ap (map (missing_data b)) (attached-same h own)
      ∙ map-same (missing_data b) (missing_data a) (attached_in a h) (All-weaker (IsHeld a b) (λ f. missing_data b f ≡ missing_data a f)
      (λ f is. ap (λ (o : Option Header). where_it (is_none o) (damage MissingChild FILE_DATA f.offset)) (data-same f is)) (attached_in a h) (attached-held h own))

  -- Attachments that nothing refuses are read as before.
  pub files-same : (h : Header) (files : List AttachedFile) → IsHeld a b h → files_at a (Some h) ≡ Ok files → files_at b (Some h) ≡ Ok files
  files-same h files own is = of (refused_in a h) refl is
    where
      files-of : map (file_at b) (attached_in b h) ≡ map (file_at a) (attached_in a h)
      files-of =
          ap (map (file_at b)) (attached-same h own)
          ∙ map-same (file_at b) (file_at a) (attached_in a h) (All-weaker (IsHeld a b) (λ f. file_at b f ≡ file_at a f) file-same (attached_in a h) (attached-held h own))

      of : (refused : Option Damage) → refused_in a h ≡ refused
          → unless (first_damage (refused ∷ first_damage (map (missing_data a) (attached_in a h)) ∷ too_many_files (attached_in a h) ∷ [])) (map (file_at a) (attached_in a h)) ≡ Ok files
          → files_at b (Some h) ≡ Ok files
      of (Some d) some is = absurd (cc)
      of None none is =
          let met = run-met (at_child a) (at_child b) h child-met own in
          ap (λ (r : Option Damage). unless (first_damage (r ∷ first_damage (map (missing_data b) (attached_in b h)) ∷ too_many_files (attached_in b h) ∷ [])) (map (file_at b) (attached_in b h)))
          (refused-none 0 1 (met_in (at_child a) (children_of a h)) (met_in (at_child b) (children_of b h)) met none)
          ∙ ap (λ (l : List (Option Damage)). unless (first_damage (None ∷ first_damage l ∷ too_many_files (attached_in b h) ∷ [])) (map (file_at b) (attached_in b h))) (missing-same h own)
          ∙ ap (λ (l : List Header). unless (first_damage (None ∷ first_damage (map (missing_data a) (attached_in a h)) ∷ too_many_files l ∷ [])) (map (file_at b) (attached_in b h))) (attached-same h own)
          ∙ ap (λ (l : List AttachedFile). unless (first_damage (None ∷ first_damage (map (missing_data a) (attached_in a h)) ∷ too_many_files (attached_in a h) ∷ [])) l) files-of
          ∙ is

  -- ---- data

  -- the body of a FileData, if there is one
  abbrev body_at : List ℕ → Option Header → List ℕ
  body_at bytes found = octets_between bytes (option_map_or (λ (d : Header). d.body) found 0) (option_map_or (λ (d : Header). d.body) found 0 + option_map_or (λ (d : Header). known d.size) found 0)

  -- The data of an attached file.
  bytes-same : (h : Header) → IsHeld a b h → attached_bytes b (file_at a h) ≡ attached_bytes a (file_at a h)
  bytes-same h own = of (data_in a h) refl
    where
      of : (found : Option Header) → data_in a h ≡ found → body_at b found ≡ body_at a found
      of None none = refl
      of (Some d) some =
          let among = first-among (λ (c : Header). c.id == FILE_DATA) (children_of a h).list d some in
          shared-body a b d (all-among (IsHeld a b) (children_of a h).list d (children-held h own).held among.0).shared

  -- The data of the attached files that were read.
  pub data-stay : (h : Header) (files : List AttachedFile) → IsHeld a b h → files_at a (Some h) ≡ Ok files → map (attached_bytes b) files ≡ map (attached_bytes a) files
  data-stay h files own is =
      let good = unless-ok (first_damage (attachments_causes a h)) (map (file_at a) (attached_in a h)) files is in
      map-same (attached_bytes b) (attached_bytes a) files
      (subst (All (λ (f : AttachedFile). attached_bytes b f ≡ attached_bytes a f)) good.1
      (All-map (λ (f : AttachedFile). attached_bytes b f ≡ attached_bytes a f) (file_at a) (attached_in a h)
      (All-weaker (IsHeld a b) (λ c. attached_bytes b (file_at a c) ≡ attached_bytes a (file_at a c)) bytes-same (attached_in a h) (attached-held h own))))
