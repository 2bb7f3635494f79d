-- Facts of the table about masters.
use Rattle.std.proofs.Common.{◌≡◌, true, refl}
use Rattle.mkv_schema.specs.declared.ids.TheConstants.{TAGS, TAG, TARGETS}
use Rattle.mkv_schema.specs.Table.{table}
use Rattle.mkv_schema.specs.Schema.{entry_of, is_master}
use Rattle.tree_format.specs.Reading.{is_master_in}

pub targets-master : is_master TARGETS ≡ true
unfolding entry_of table
targets-master = refl

pub tag-master : is_master TAG ≡ true
unfolding entry_of table
tag-master = refl

pub tags-master : is_master TAGS ≡ true
unfolding entry_of table
tags-master = refl

pub targets-in : is_master_in TAG TARGETS ≡ true
unfolding entry_of table
targets-in = refl

pub tag-in : is_master_in TAGS TAG ≡ true
unfolding entry_of table
tag-in = refl
