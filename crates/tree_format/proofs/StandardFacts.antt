-- Computed trees of small masters. A wrong definition fails here.
use Rattle.std.proofs.Common.{◌≡◌, ℕ, zero, suc, ◌+◌, List, [], ◌∷◌, ◌++◌, replicate, Result, Ok, Err, refl}
use Rattle.std.specs.Int.Count.{count_leading_zeros}
use Rattle.std.specs.Str.{is_utf8, chars}
use lib.Utf8.{encode}
use Rattle.ebml_numbers.specs.Number.{id_at, size_at, uint_width, least_size_width}
use Rattle.mkv_schema.specs.Table.{table}
use Rattle.mkv_schema.specs.Schema.{entry_of}
use Rattle.mkv_io.specs.declared.damage.Damage.{Damage}
use Rattle.mkv_io.specs.declared.damage.Kind.{Kind}
use Rattle.mkv_io.specs.declared.damage.Kind.TheVariants.{BadId, BadSize, TooLong, BadValue, TooMany, UnknownSize}
use Rattle.mkv_schema.specs.Element.{element_in, damage}
use Rattle.tree_format.specs.Node.{Node, Nodes, leaf, master, none, node}
use Rattle.tree_format.specs.NormalForm.{octets, element_octets}
use Rattle.tree_format.specs.Reading.{tree_of, grove, grove_within}
use Rattle.tree_format.specs.Order.{elements_in, elements_within, tree_in_order, tree_without_limits}

-- ---- trees of bytes, in a master with its header at 95 and its body at 100

abbrev read : ℕ → List ℕ → ℕ → Result Node Damage
read id body nodes = tree_of id 95 body 100 nodes

abbrev found : ℕ → Nodes → Result Node Damage
found id kids = Ok (master id 95 kids)

abbrev wrong : Kind → ℕ → ℕ → Result Node Damage
wrong kind id p = Err (damage kind id p)

-- the only Element of a list
abbrev only : Node → Nodes
only n = node n none

-- TrackNumber 5 with a size of eight bytes, in a TrackEntry
abbrev wide : List ℕ
wide = 0xD7 ∷ 1 ∷ replicate 6 0 ++ 1 ∷ 5 ∷ []

-- a ChapterDisplay with a ChapString
abbrev display : List ℕ
display = 0x80 ∷ 0x83 ∷ 0x85 ∷ 0x81 ∷ 0x61 ∷ []

-- CRC-32 and Void, in a TrackEntry and in its Video, which has a PixelWidth
abbrev filled : List ℕ
filled = 0xBF ∷ 0x84 ∷ 1 ∷ 2 ∷ 3 ∷ 4 ∷ 0xE0 ∷ 0x8B ∷ 0xBF ∷ 0x84 ∷ 5 ∷ 6 ∷ 7 ∷ 8 ∷ 0xEC ∷ 0x80 ∷ 0xB0 ∷ 0x81 ∷ 9 ∷ []

abbrev filled_tree : Nodes
filled_tree =
    node (leaf 0xBF 100 (1 ∷ 2 ∷ 3 ∷ 4 ∷ [])) (node (master 0xE0 106 (node (leaf 0xBF 108 (5 ∷ 6 ∷ 7 ∷ 8 ∷ [])) (node (leaf 0xEC 114 []) (node (leaf 0xB0 116 (9 ∷ [])) none)))) none)

pub record AreTrees : Type 0 where
  pub nothing : read 0xAE [] 1 ≡ found 0xAE none
  pub wide_size : read 0xAE wide 2 ≡ found 0xAE (only (leaf 0xD7 100 (5 ∷ [])))
  pub display_in_atom : read 0xB6 display 3 ≡ found 0xB6 (only (master 0x80 100 (only (leaf 0x85 102 (0x61 ∷ [])))))
  pub fillers_are_read : read 0xAE filled 6 ≡ found 0xAE filled_tree
  pub video_in_tags_is_a_leaf : read 0x1254C367 (0xE0 ∷ 0x81 ∷ 0 ∷ []) 2 ≡ found 0x1254C367 (only (leaf 0xE0 100 (0 ∷ [])))
  pub text_ends_at_zero : read 0xAE (0x53 ∷ 0x6E ∷ 0x83 ∷ 0x61 ∷ 0 ∷ 0xFF ∷ []) 2 ≡ found 0xAE (only (leaf 0x536E 100 (0x61 ∷ 0 ∷ 0xFF ∷ [])))

pub trees : AreTrees
unfolding is_utf8 chars encode grove grove_within element_in id_at size_at entry_of table count_leading_zeros
trees = record { nothing = refl; wide_size = refl; display_in_atom = refl; fillers_are_read = refl; video_in_tags_is_a_leaf = refl; text_ends_at_zero = refl }

pub record AreDamages : Type 0 where
  pub no_display_in_track : read 0xAE display 9 ≡ wrong BadId 0 100
  pub no_display_in_edition : read 0x45B9 display 9 ≡ wrong BadId 0 100
  pub no_display_in_display : read 0xB6 (0x80 ∷ 0x82 ∷ 0x80 ∷ 0x80 ∷ []) 9 ≡ wrong BadId 0 102
  pub id_cut : read 0xAE (0x53 ∷ []) 9 ≡ wrong TooLong 0 100
  pub size_cut : read 0xAE (0xD7 ∷ 0x40 ∷ []) 9 ≡ wrong TooLong 0xD7 100
  pub body_cut : read 0xAE (0xD7 ∷ 0x82 ∷ 5 ∷ []) 9 ≡ wrong TooLong 0xD7 100
  pub size_of_zero : read 0xAE (0xD7 ∷ 0 ∷ []) 9 ≡ wrong BadSize 0xD7 100
  pub unknown_size : read 0xAE (0xE0 ∷ 0xFF ∷ []) 9 ≡ wrong UnknownSize 0xE0 100
  pub long_integer : read 0xAE (0xD7 ∷ 0x89 ∷ replicate 9 0) 9 ≡ wrong BadValue 0xD7 100
  pub float_of_three : read 0xE1 (0xB5 ∷ 0x83 ∷ 0 ∷ 0 ∷ 0 ∷ []) 9 ≡ wrong BadValue 0xB5 100
  pub no_text : read 0xAE (0x53 ∷ 0x6E ∷ 0x81 ∷ 0xFF ∷ []) 9 ≡ wrong BadValue 0x536E 100
  pub no_room_for_the_root : read 0xAE [] 0 ≡ wrong TooMany 0xAE 95
  pub void_counts : read 0xAE (0xEC ∷ 0x80 ∷ 0xD7 ∷ 0x80 ∷ []) 2 ≡ wrong TooMany 0xD7 102
  pub first_in_order : read 0xAE (0xE0 ∷ 0x83 ∷ 0xB0 ∷ 0x82 ∷ 1 ∷ 0xD7 ∷ 0 ∷ []) 9 ≡ wrong TooLong 0xB0 102

pub damages : AreDamages
unfolding is_utf8 chars encode grove grove_within element_in id_at size_at entry_of table count_leading_zeros
damages = record {
  no_display_in_track = refl;
  no_display_in_edition = refl;
  no_display_in_display = refl;
  id_cut = refl;
  size_cut = refl;
  body_cut = refl;
  size_of_zero = refl;
  unknown_size = refl;
  long_integer = refl;
  float_of_three = refl;
  no_text = refl;
  no_room_for_the_root = refl;
  void_counts = refl;
  first_in_order = refl;
}

-- ---- the normal form

pub record AreWritten : Type 0 where
  pub nothing : octets (master 0xAE 0 none) ≡ 0xAE ∷ 0x80 ∷ []
  pub wide_size : octets (master 0xAE 95 (only (leaf 0xD7 100 (5 ∷ [])))) ≡ 0xAE ∷ 0x83 ∷ 0xD7 ∷ 0x81 ∷ 5 ∷ []
  pub display : octets (master 0xB6 0 (only (master 0x80 0 none))) ≡ 0xB6 ∷ 0x82 ∷ 0x80 ∷ 0x80 ∷ []
  pub fillers_left_out : octets (master 0xAE 95 filled_tree) ≡ 0xAE ∷ 0x85 ∷ 0xE0 ∷ 0x83 ∷ 0xB0 ∷ 0x81 ∷ 9 ∷ []

pub written : AreWritten
unfolding uint_width least_size_width
written = record { nothing = refl; wide_size = refl; display = refl; fillers_left_out = refl }

-- ---- depth: nested ChapterAtoms

-- `n` nested ChapterAtoms
abbrev atoms : ℕ → List ℕ
atoms zero = []
atoms (suc n) = element_octets 0xB6 (atoms n)

-- the same as trees, with headers of two bytes
abbrev atom_trees : ℕ → ℕ → Nodes
atom_trees zero p = none
atom_trees (suc n) p = only (master 0xB6 p (atom_trees n (p + 2)))

-- A master around 31 nested ones has the maximum depth. A master around 32 has one that is too deep, after 32 headers of two bytes.
pub record AreDepths : Type 0 where
  pub deepest : tree_of 0xB6 0 (atoms 31) 2 99 ≡ Ok (master 0xB6 0 (atom_trees 31 2))
  pub too_deep : tree_of 0xB6 0 (atoms 32) 2 99 ≡ wrong TooMany 0xB6 64

pub depths : AreDepths
unfolding grove grove_within element_in id_at size_at entry_of table count_leading_zeros uint_width least_size_width
depths = record { deepest = refl; too_deep = refl }

-- ---- over all Elements at once, and without limits

-- a float of three bytes, in an Audio
abbrev bad_float : List ℕ
bad_float = 0xB5 ∷ 0x83 ∷ 0 ∷ 0 ∷ 0 ∷ []

-- Too many nodes are reported before a bad value, and earlier damage before later damage.
pub record AreRefusalsInOrder : Type 0 where
  pub filled : tree_in_order 0xAE 95 filled 100 6 ≡ found 0xAE filled_tree
  pub one_too_many : tree_in_order 0xE1 95 bad_float 100 1 ≡ wrong TooMany 0xB5 100
  pub no_value : tree_in_order 0xE1 95 bad_float 100 2 ≡ wrong BadValue 0xB5 100
  pub value_in_front : tree_in_order 0xE1 95 (bad_float ++ 0xB5 ∷ 0 ∷ []) 100 9 ≡ wrong BadValue 0xB5 100
  pub damage_inside : tree_in_order 0xAE 95 (0xE0 ∷ 0x83 ∷ 0xB0 ∷ 0x82 ∷ 1 ∷ 0xD7 ∷ 0 ∷ []) 100 9 ≡ wrong TooLong 0xB0 102

pub refusals_in_order : AreRefusalsInOrder
unfolding is_utf8 chars encode elements_in elements_within element_in id_at size_at entry_of table count_leading_zeros
refusals_in_order = record { filled = refl; one_too_many = refl; no_value = refl; value_in_front = refl; damage_inside = refl }

-- Without limits on depth and number, a value must still be one of its kind.
pub record AreFree : Type 0 where
  pub as_deep_as_can_be : tree_without_limits 0xB6 0 (atoms 32) 2 ≡ Ok (master 0xB6 0 (atom_trees 32 2))
  pub filled : tree_without_limits 0xAE 95 filled 100 ≡ found 0xAE filled_tree
  pub no_value : tree_without_limits 0xE1 95 bad_float 100 ≡ wrong BadValue 0xB5 100
  pub id_cut : tree_without_limits 0xAE 95 (0x53 ∷ []) 100 ≡ wrong TooLong 0 100

pub free : AreFree
unfolding is_utf8 chars encode elements_in elements_within element_in id_at size_at entry_of table count_leading_zeros uint_width least_size_width
free = record { as_deep_as_can_be = refl; filled = refl; no_value = refl; id_cut = refl }
