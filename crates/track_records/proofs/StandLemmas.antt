-- A child that is set is valid in a TrackEntry, and leaves it whole.
use Rattle.std.proofs.Common.{◌≡◌, inl, inr, ◌≤◌, ℕ, List, [], ◌∷◌, ◌++◌, Option, Some, Result, Ok, Err, OnOk, refl, sym, ap, subst, ◌∙◌, arith}
use Rattle.std.specs.declared.alloc.AllocError.{AllocError}
use Rattle.ebml_numbers.specs.Number.{is_id}
use Rattle.mkv_schema.specs.declared.ids.TheConstants.{TRACK_ENTRY, TRACK_NUMBER, TRACK_UID, NAME, LANGUAGE, LANGUAGE_BCP47, FLAG_DEFAULT, FLAG_FORCED, FLAG_ENABLED, FLAG_HEARING_IMPAIRED, FLAG_VISUAL_IMPAIRED, FLAG_TEXT_DESCRIPTIONS, FLAG_ORIGINAL, FLAG_COMMENTARY}
use Rattle.mkv_schema.specs.Table.{table}
use Rattle.mkv_schema.specs.Schema.{entry_of, is_master}
use Rattle.tree_format.specs.Node.{Node, leaf, master, nodes_of, id_of, children, with_children, depth_all, IsMaster, HasRoom}
use Rattle.tree_format.specs.Changes.{without, with_child}
use Rattle.tree_format.specs.Standing.{StandsIn, IsSound}
use Rattle.tree_format.proofs.NodeLemmas.{nodes-list}
use Rattle.tree_format.proofs.ChangeLemmas.{deep-with_child, deep-without}
use Rattle.tree_format.specs.Children.{uint_leaf, set_in, set_each, given}
use Rattle.track_records.specs.declared.track_change.FlagChange.{FlagChange}
use Rattle.track_records.specs.declared.track_change.TrackChange.{TrackChange}
use Rattle.track_records.specs.Entry.{flag_leaf, flags_set, children_set, IsWholeEntry}
use Rattle.ebml_tree.specs.Leaves.{IsUintIn, IsTextIn}
use Rattle.track_records.specs.Step.{SetsEach}

-- ---- the table

pub number : IsUintIn TRACK_ENTRY TRACK_NUMBER
unfolding entry_of table is_id
number = record { valid = refl; known = record { stands = refl; kind = refl } }

pub uid : IsUintIn TRACK_ENTRY TRACK_UID
unfolding entry_of table is_id
uid = record { valid = refl; known = record { stands = refl; kind = refl } }

pub flag_default : IsUintIn TRACK_ENTRY FLAG_DEFAULT
unfolding entry_of table is_id
flag_default = record { valid = refl; known = record { stands = refl; kind = refl } }

pub flag_forced : IsUintIn TRACK_ENTRY FLAG_FORCED
unfolding entry_of table is_id
flag_forced = record { valid = refl; known = record { stands = refl; kind = refl } }

pub enabled : IsUintIn TRACK_ENTRY FLAG_ENABLED
unfolding entry_of table is_id
enabled = record { valid = refl; known = record { stands = refl; kind = refl } }

pub hearing_impaired : IsUintIn TRACK_ENTRY FLAG_HEARING_IMPAIRED
unfolding entry_of table is_id
hearing_impaired = record { valid = refl; known = record { stands = refl; kind = refl } }

pub visual_impaired : IsUintIn TRACK_ENTRY FLAG_VISUAL_IMPAIRED
unfolding entry_of table is_id
visual_impaired = record { valid = refl; known = record { stands = refl; kind = refl } }

pub text_descriptions : IsUintIn TRACK_ENTRY FLAG_TEXT_DESCRIPTIONS
unfolding entry_of table is_id
text_descriptions = record { valid = refl; known = record { stands = refl; kind = refl } }

pub original : IsUintIn TRACK_ENTRY FLAG_ORIGINAL
unfolding entry_of table is_id
original = record { valid = refl; known = record { stands = refl; kind = refl } }

pub commentary : IsUintIn TRACK_ENTRY FLAG_COMMENTARY
unfolding entry_of table is_id
commentary = record { valid = refl; known = record { stands = refl; kind = refl } }

pub name : IsTextIn TRACK_ENTRY NAME
unfolding entry_of table is_id
name = record { valid = refl; stands = refl; kind = inr refl }

pub language : IsTextIn TRACK_ENTRY LANGUAGE
unfolding entry_of table is_id
language = record { valid = refl; stands = refl; kind = inl refl }

pub language_tag : IsTextIn TRACK_ENTRY LANGUAGE_BCP47
unfolding entry_of table is_id
language_tag = record { valid = refl; stands = refl; kind = inl refl }

-- ---- an entry stays whole

id-with : (n : Node) (ns : List Node) → id_of (with_children n ns) ≡ id_of n
id-with (leaf id at body) ns = refl
id-with (master id at kids) ns = refl

room-with : (n : Node) (ns : List Node) → IsMaster n → HasRoom n → depth_all (nodes_of ns) ≤ depth_all (nodes_of (children n)) → HasRoom (with_children n ns)
room-with (leaf id at body) ns is room low = absurd (cc)
room-with (master id at kids) ns is room low = let same = ap depth_all (nodes-list kids) in omega arith

module _ (old new : Node) (whole : IsWholeEntry old) where
  pub whole-set : (id : ℕ) (body : List ℕ) → new ≡ with_children old (with_child (leaf id 0 body) (children old)) → IsMaster new → (IsSound old → StandsIn (id_of old) (leaf id 0 body) → IsSound new) → StandsIn TRACK_ENTRY (leaf id 0 body)
      → SetsEach (leaf id 0 body ∷ []) old new
  whole-set id body is is_master sound stands =
      let ns : List Node = with_child (leaf id 0 body) (children old) in
      let low = deep-with_child (leaf id 0 body) (children old) in
      let here : StandsIn (id_of old) (leaf id 0 body) = let P : ℕ → Type 0 = λ p. StandsIn p (leaf id 0 body) in subst P (sym whole.id) stands in
      record {
        changed = is;
        whole = record {
          id = ap id_of is ∙ id-with old ns ∙ whole.id;
          master = is_master;
          sound = sound whole.sound here;
          room = subst HasRoom (sym is) (room-with old ns whole.master whole.room (omega arith));
        };
      }

  pub whole-removed : (id : ℕ) → new ≡ with_children old (without id (children old)) → IsMaster new → (IsSound old → IsSound new) → IsWholeEntry new
  whole-removed id is is_master sound =
      let ns : List Node = without id (children old) in
      let low = deep-without id (children old) in
      record {
        id = ap id_of is ∙ id-with old ns ∙ whole.id;
        master = is_master;
        sound = sound whole.sound;
        room = subst HasRoom (sym is) (room-with old ns whole.master whole.room low);
      }

-- ---- changes in sequence

pub set_each-append : (cs ds : List Node) (n : Node) → set_each (cs ++ ds) n ≡ set_each ds (set_each cs n)
set_each-append [] ds n = refl
set_each-append (c ∷ cs) ds n = set_each-append cs ds (set_in c n)

-- One change after another sets the children of both.
then-sets : {cs ds : List Node} {e0 e1 e2 : Node} → SetsEach cs e0 e1 → SetsEach ds e1 e2 → SetsEach (cs ++ ds) e0 e2
then-sets {cs} {ds} {e0} first second = record { changed = second.changed ∙ ap (set_each ds) first.changed ∙ sym (set_each-append cs ds e0); whole = second.whole }

-- The steps for each flag set all flags.
pub set-flags : (f : FlagChange) (e0 e1 e2 e3 e4 e5 e6 : Node) → SetsEach (given (flag_leaf FLAG_ENABLED) f.enabled) e0 e1
    → SetsEach (given (flag_leaf FLAG_HEARING_IMPAIRED) f.hearing_impaired) e1 e2
    → SetsEach (given (flag_leaf FLAG_VISUAL_IMPAIRED) f.visual_impaired) e2 e3
    → SetsEach (given (flag_leaf FLAG_TEXT_DESCRIPTIONS) f.text_descriptions) e3 e4
    → SetsEach (given (flag_leaf FLAG_ORIGINAL) f.original) e4 e5
    → SetsEach (given (flag_leaf FLAG_COMMENTARY) f.commentary) e5 e6
    → SetsEach (flags_set f) e0 e6
set-flags f e0 e1 e2 e3 e4 e5 e6 s1 s2 s3 s4 s5 s6 = then-sets (then-sets (then-sets (then-sets (then-sets s1 s2) s3) s4) s5) s6

-- The steps of a change make the whole change.
pub set-all : (c : TrackChange) (e0 e1 e2 e3 e4 e5 e6 e7 e8 : Node) → SetsEach (uint_leaf TRACK_NUMBER c.number ∷ []) e0 e1 → SetsEach (uint_leaf TRACK_UID c.uid ∷ []) e1 e2
    → SetsEach (given (leaf NAME 0) c.name) e2 e3 → SetsEach (given (leaf LANGUAGE 0) c.language) e3 e4 → SetsEach (given (leaf LANGUAGE_BCP47 0) c.language_tag) e4 e5
    → SetsEach (given (flag_leaf FLAG_DEFAULT) c.flag_default) e5 e6 → SetsEach (given (flag_leaf FLAG_FORCED) c.flag_forced) e6 e7 → SetsEach (flags_set c.flags) e7 e8
    → e8 ≡ set_each (children_set c) e0
set-all c e0 e1 e2 e3 e4 e5 e6 e7 e8 s1 s2 s3 s4 s5 s6 s7 s8 =
    (then-sets (then-sets (then-sets (then-sets (then-sets (then-sets (then-sets s1 s2) s3) s4) s5) s6) s7) s8).changed

-- ---- a new leaf is set

module _ (old new : Node) (whole : IsWholeEntry old) (r : Result (Unit {0}) AllocError) where
  pub set-leaf : (child : Node) (id : ℕ) (made body : List ℕ) → child ≡ leaf id 0 made → made ≡ body → OnOk r (new ≡ with_children old (with_child child (children old))) → IsMaster new → (IsSound old → StandsIn (id_of old) child → IsSound new)
      → StandsIn TRACK_ENTRY child → OnOk r (SetsEach (leaf id 0 body ∷ []) old new)
  set-leaf child id made body is same ok is_master sound stands = of r ok
    where
      all : child ≡ leaf id 0 body
      all = is ∙ ap (leaf id 0) same

      of : (r : Result (Unit {0}) AllocError) → OnOk r (new ≡ with_children old (with_child child (children old))) → OnOk r (SetsEach (leaf id 0 body ∷ []) old new)
      of (Ok u) ok = whole-set old new whole id body (ok ∙ ap (λ m. with_children old (with_child m (children old))) all) is_master (λ s t. sound s (subst (StandsIn (id_of old)) (sym all) t)) (subst (StandsIn TRACK_ENTRY) all stands)
      of (Err e) ok = tt

  -- A text is set if it is present.
  pub set-given : (o : Option (List ℕ)) (id : ℕ) (text : List ℕ) → o ≡ Some text → OnOk r (SetsEach (leaf id 0 text ∷ []) old new) → OnOk r (SetsEach (given (leaf id 0) o) old new)
  set-given o id text is set = let P : Option (List ℕ) → Type 0 = λ p. OnOk r (SetsEach (given (leaf id 0) p) old new) in subst P (sym is) set
