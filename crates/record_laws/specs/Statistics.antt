-- Tags that are read without their statistics: RFC 9559, section 5.1.8 (Tags). This is this project's promise.
use Rattle.std.specs.Prelude.{◌≡◌, ◌==◌, Bool, true, false, ◌&&◌, All}
use Rattle.std.specs.List.{list_any}
use Rattle.std.specs.Option.{option_map_or}
use Rattle.mkv_schema.specs.declared.ids.TheConstants.{TAG, SIMPLE_TAG, TAG_NAME}
use Rattle.tree_format.specs.Node.{Node, id_of, children}
use Rattle.record_changes.specs.Statistics.{is_one_of, stem, usual_names, value_in, without_statistics}

-- The child `n` of a Tag is a SimpleTag with one of the three fixed names of statistics, with or without a language. `HasNoUsualName` excludes it.
abbrev pub has_usual_name : Node → Bool
has_usual_name n = id_of n == SIMPLE_TAG && option_map_or (λ name. is_one_of usual_names (stem name)) (value_in TAG_NAME n) false

-- If the child `n` of Tags is a Tag, no SimpleTag in it has one of the three fixed names of statistics. `StatisticsAreLeftOut` promises it.
abbrev pub HasNoUsualName : Node → Type 0
HasNoUsualName n = (id_of n == TAG) ≡ true → list_any has_usual_name (children n) ≡ false

-- What is left of Tags has none of the three fixed names of statistics. Tags without such a name are unchanged, so leaving out statistics twice is as
-- doing so once. It is the law `statistics_are_left_out`.
pub record StatisticsAreLeftOut : Type 0 where
  pub none : (tags : Node) → All HasNoUsualName (children (without_statistics tags))
  pub others : (tags : Node) → All HasNoUsualName (children tags) → without_statistics tags ≡ tags
  pub once : (tags : Node) → without_statistics (without_statistics tags) ≡ without_statistics tags
