-- The Chapters of an output are merged again as they were.
use Rattle.std.proofs.Common.{◌≡◌, ◌<◌, ◌^◌, ℕ, ◌+◌, ◌==◌, true, false, List, [], ◌∷◌, ◌++◌, length, map, filter, flat_map, All, Option, None, Some, IfSome, refl, sym, ap, subst, ◌∙◌, append-nil, arith, option_map}
use Rattle.std.proofs.lemmas.Bool.{eqb-true}
use Rattle.std.proofs.lemmas.List.{length-map}
use Rattle.std.proofs.lemmas.List.Elements.{All-nil, All-cons, All-head, All-tail, All-weaker, filter_passes}
use Rattle.mkv_schema.specs.declared.ids.TheConstants.{CHAPTERS, CHAPTER_UID, EDITION_ENTRY, EDITION_UID}
use Rattle.record_changes.proofs.ChapterFacts.{edition-in}
use Rattle.tree_format.specs.Node.{Node, leaf, master, nodes_of, list_of, id_of, children, IsMaster}
use Rattle.tree_format.specs.NormalForm.{octets}
use Rattle.tree_format.specs.Reading.{is_master_in}
use Rattle.tree_format.specs.Standing.{AllStandIn, StandsIn}
use Rattle.tree_format.proofs.NodeLemmas.{list-nodes}
use Rattle.output_model.specs.Sound.{IsRecord}
use Rattle.record_changes.specs.Atoms.{atoms_inside, chapter_uids, edition_uids, editions_of, value_in}
use Rattle.record_changes.specs.ChapterIdentifiers.{numbered_edition, numbered_editions}
use Rattle.record_changes.specs.Identifiers.{renumbered}
use Rattle.record_changes.proofs.GivenLemmas.{numbers-settle}
use Rattle.record_laws.specs.Chapters.{AreChapters, ChaptersStay, chapter_numbers, edition_numbers, settled}
use Rattle.output_records.specs.Chapters.{joined_chapters, later}
use Rattle.output_records.specs.Inputs.{children_in, uids_in, unless_empty, with_some}
use Rattle.merge_inputs.specs.Input.{InputRead}
use Rattle.merge_plan.proofs.OrderedLemmas.{chapters-same as chapters-free, editions-same as editions-free}
use Rattle.merge_plan.specs.Records.{chapters_of, records_of}
use Rattle.remerge_laws.specs.AgainChapters.{ChaptersAreAlikeAgain, HasChaptersOf}
use Rattle.remerge_laws.specs.Alike.{MayBeAlike}
use Rattle.remerge_laws.specs.OwnChapters.{OwnChaptersStay}
use Rattle.remerge_laws.specs.Placed.{MayStandAs, StandsAs}
use Rattle.remerge_laws.proofs.OwnChapterLemmas.{own-chapters}
use Rattle.remerge_laws.proofs.StandLemmas.{children-decide}

-- ---- editions are masters

abbrev IsEdition : Node → Type 0
IsEdition n = id_of n ≡ EDITION_ENTRY

-- A numbered edition is a master after writing.
edition-master : (uid : ℕ) (uids : List ℕ) (k : ℕ) (e : Node) → IsEdition e → StandsIn CHAPTERS (numbered_edition uid uids k e) → IsMaster e
edition-master uid uids k (leaf id at body) own stands =
    let never : true ≡ false = sym edition-in ∙ ap (is_master_in CHAPTERS) (sym own) ∙ stands.no_master in absurd (cc)
edition-master uid uids k (master id at kids) own stands = refl

editions-masters : (editions uids : List ℕ) (j k : ℕ) (es : List Node) → All IsEdition es → AllStandIn CHAPTERS (nodes_of (numbered_editions editions uids j k es)) → All IsMaster es
editions-masters editions uids j k [] own stand = All-nil IsMaster
editions-masters editions uids j k (e ∷ es) own stand =
    All-cons IsMaster e es (edition-master _ uids k e (All-head IsEdition e es own) stand.0) (editions-masters editions uids (j + 1) _ es (All-tail IsEdition e es own) stand.1)

all-editions : (ns : List Node) → All IsEdition (filter (λ n. id_of n == EDITION_ENTRY) ns)
all-editions ns =
    All-weaker (λ (n : Node). (id_of n == EDITION_ENTRY) ≡ true) IsEdition (λ n is. eqb-true (id_of n) EDITION_ENTRY is) (filter (λ n. id_of n == EDITION_ENTRY) ns)
    (filter_passes (λ n. id_of n == EDITION_ENTRY) ns)

-- ---- the Chapters

module _ (stay : ChaptersStay) (order : List (ℕ × ℕ)) (reads : List InputRead) (again : InputRead) (has : HasChaptersOf order reads again) where
  abbrev joined : Node
  joined = joined_chapters (records_of [] reads)

  abbrev list : List Node
  list = numbered_editions (edition_numbers joined) (chapter_numbers joined) 0 0 (editions_of joined)

  masters : All IsMaster (editions_of joined)
  masters = of (list_of (nodes_of list)) (list-nodes list) has.records
    where
      of : (l : List Node) → l ≡ list → IfSome (unless_empty (settled joined) l) (IsRecord CHAPTERS) → All IsMaster (editions_of joined)
      of [] is record_of = by_editions (editions_of joined) is
        where
          by_editions : (es : List Node) → [] ≡ numbered_editions (edition_numbers joined) (chapter_numbers joined) 0 0 es → All IsMaster es
          by_editions [] none = All-nil IsMaster
          by_editions (e ∷ es) none = absurd (cc)
      of (n ∷ ns) is record_of = editions-masters (edition_numbers joined) (chapter_numbers joined) 0 0 (editions_of joined) (all-editions (children joined)) record_of.sound

  are : AreChapters joined
  are = record {
    master = refl;
    editions = masters;
    edition_numbers = subst (All (λ v. v < 2 ^ 64)) (editions-free order reads) has.short.editions;
    chapter_numbers = subst (All (λ v. v < 2 ^ 64)) (chapters-free order reads) has.short.chapters;
  }

  own : OwnChaptersStay
  own = own-chapters stay

  abbrev read_anew : Option Node → Node
  read_anew c = master CHAPTERS 0 (nodes_of (children_in (option_map (later None) c) ++ []))

  chapters-made : chapters_of (again ∷ []) ≡ with_some (settled (read_anew again.chapters))
  chapters-made = ap (λ (shift : Option ℕ). with_some (settled (master CHAPTERS 0 (nodes_of (children_in (option_map (later shift) again.chapters) ++ []))))) has.alone

  empty-is : (es : List Node) → length es ≡ 0 → es ≡ []
  empty-is [] long = refl
  empty-is (e ∷ es) long = absurd (omega (arith, long))

  -- Chapters with equally many identifiers still have an edition if they had one.
  still-some : (anew : Node) → edition_uids anew ≡ edition_numbers joined → (editions_of joined ≡ [] → ⊥) → editions_of anew ≡ [] → ⊥
  still-some anew uids some none =
      let nought : length (edition_uids anew) ≡ 0 = ap (λ (es : List Node). length (map (value_in EDITION_UID) es)) none in
      let each = numbers-settle.each (edition_uids joined) in
      some (empty-is (editions_of joined) (sym (length-map (editions_of joined) (value_in EDITION_UID)) ∙ sym each ∙ ap length (sym uids) ∙ nought))

  alike-some : (n : Node) → StandsAs (settled joined) n → (editions_of joined ≡ [] → ⊥) → MayBeAlike (Some (settled joined)) (with_some (settled (read_anew (Some n))))
  alike-some n stands some =
      let anew : Node = master CHAPTERS 0 (nodes_of (children n)) in
      let same : octets (settled anew) ≡ octets (settled joined) = own.same joined n are refl stands in
      let uids : edition_uids anew ≡ edition_numbers joined = children-decide.editions n ∙ own.editions joined n are stands in
      subst (λ (ns : List Node). MayBeAlike (Some (settled joined)) (with_some (settled (master CHAPTERS 0 (nodes_of ns))))) (sym (append-nil (children n)))
      (subst (λ (ns : List Node). MayBeAlike (Some (settled joined)) (unless_empty (settled anew) ns)) (sym (list-nodes (numbered_editions (edition_numbers anew) (chapter_numbers anew) 0 0 (editions_of anew))))
      (of (children n) same (editions_of anew) (still-some anew uids some)))
    where
      of : (ks : List Node) → octets (settled (master CHAPTERS 0 (nodes_of ks))) ≡ octets (settled joined) → (es : List Node) → (es ≡ [] → ⊥)
          → MayBeAlike (Some (settled joined))
          (unless_empty (settled (master CHAPTERS 0 (nodes_of ks))) (numbered_editions (edition_numbers (master CHAPTERS 0 (nodes_of ks))) (chapter_numbers (master CHAPTERS 0 (nodes_of ks))) 0 0 es))
      of ks same [] there = absurd (there refl)
      of ks same (e ∷ es) there = record { id = refl; some = refl; same = sym same }

  -- the Chapters, by their numbered editions
  abbrev made_of : List Node → Option Node
  made_of es = unless_empty (settled joined) (numbered_editions (edition_numbers joined) (chapter_numbers joined) 0 0 es)

  made-is : chapters_of reads ≡ made_of (editions_of joined)
  made-is = ap (unless_empty (settled joined)) (list-nodes list)

  by-editions : (es : List Node) → es ≡ editions_of joined → (o : Option Node) → MayStandAs (made_of es) o → MayBeAlike (made_of es) (with_some (settled (read_anew o)))
  by-editions [] is None stands = tt
  by-editions [] is (Some n) stands = absurd stands
  by-editions (e ∷ es) is None stands = absurd stands
  by-editions (e ∷ es) is (Some n) stands = alike-some n stands (λ none. let never : e ∷ es ≡ [] = is ∙ none in absurd (cc))

  stand-so : MayStandAs (made_of (editions_of joined)) again.chapters
  stand-so = subst (λ (o : Option Node). MayStandAs o again.chapters) made-is has.stand

  chapters-alike : MayBeAlike (chapters_of reads) (chapters_of (again ∷ []))
  chapters-alike =
      subst (MayBeAlike (chapters_of reads)) (sym chapters-made)
      (subst (λ (o : Option Node). MayBeAlike o (with_some (settled (read_anew again.chapters)))) (sym made-is) (by-editions (editions_of joined) refl again.chapters stand-so))

  editions-same : (es : List Node) → es ≡ editions_of joined → (o : Option Node) → MayStandAs (made_of es) o → uids_in edition_uids o ≡ edition_numbers joined
  editions-same [] is None stands = ap (λ (es : List Node). renumbered (map (value_in EDITION_UID) es)) is
  editions-same [] is (Some n) stands = absurd stands
  editions-same (e ∷ es) is None stands = absurd stands
  editions-same (e ∷ es) is (Some n) stands = own.editions joined n are stands

  chapters-same : (es : List Node) → es ≡ editions_of joined → (o : Option Node) → MayStandAs (made_of es) o → uids_in chapter_uids o ≡ chapter_numbers joined
  chapters-same [] is None stands = ap (λ (es : List Node). renumbered (map (value_in CHAPTER_UID) (flat_map atoms_inside es))) is
  chapters-same [] is (Some n) stands = absurd stands
  chapters-same (e ∷ es) is None stands = absurd stands
  chapters-same (e ∷ es) is (Some n) stands = own.chapters joined n are stands

pub chapters-again : ChaptersStay → ChaptersAreAlikeAgain
chapters-again stay = record {
  editions = λ order reads again has.
      editions-same stay order reads again has (editions_of (joined_chapters (records_of [] reads))) refl again.chapters (stand-so stay order reads again has) ∙ sym (editions-free order reads);
  chapters = λ order reads again has.
      chapters-same stay order reads again has (editions_of (joined_chapters (records_of [] reads))) refl again.chapters (stand-so stay order reads again has) ∙ sym (chapters-free order reads);
  alike = λ order reads again has. chapters-alike stay order reads again has;
}
