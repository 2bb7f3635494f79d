-- Search for a page in several groups of topics.
use Rattle.std.proofs.Common.{◌≡◌, ℕ, List, ◌++◌, map, Option, Some, None, option_map, refl, sym, ap, ◌∙◌}
use Rattle.std.specs.Borrow.{Bor}
use Rattle.std.specs.List.{find}
use Rattle.std.specs.Option.{option_or}
use Rattle.std.proofs.lemmas.List.Folds.{find-append}
use Rattle.mkv_args.specs.Explain.{Topic, is_same_name, lines_of, page_among, shown}

map-or : {A B : Type 0} (f : A → B) (a b : Option A) → option_map f (option_or a b) ≡ option_or (option_map f a) (option_map f b)
map-or f None b = refl
map-or f (Some x) b = refl

-- The page of a name in two groups is the one in the first group, or else in the second.
page_among-append : (a b : List Topic) (name : List ℕ) → page_among (a ++ b) name ≡ option_or (page_among a name) (page_among b name)
page_among-append a b name =
    let test = λ (t : Topic). is_same_name t.name name in
    let lines = λ (t : Topic). t.lines in
    ap (option_map lines) (find-append test a b) ∙ map-or lines (find test a) (find test b)

module _ (name : List ℕ) where
  abbrev pub Page : Type 0
  Page = Option (Bor (List (Bor (List ℕ))))

  -- The page found in the code's topics of a group is the page in that group.
  pub in-group : (page : Page) (code : List (Bor (List ℕ) × Bor (List (Bor (List ℕ))))) (group : List Topic) → option_map lines_of page ≡ page_among (map shown code) name → map shown code ≡ group
      → option_map lines_of page ≡ page_among group name
  in-group page code group found is = found ∙ ap (λ topics. page_among topics name) is

  -- A page is found in the groups before, or else in the next group.
  pub in-next : (a b page : Page) (before next : List Topic) → option_map lines_of a ≡ page_among before name → option_map lines_of b ≡ page_among next name → page ≡ option_or a b
      → option_map lines_of page ≡ page_among (before ++ next) name
  in-next a b page before next first second is =
      ap (option_map lines_of) is ∙ map-or lines_of a b ∙ ap (λ p. option_or p (option_map lines_of b)) first ∙ ap (option_or (page_among before name)) second
      ∙ sym (page_among-append before next name)
