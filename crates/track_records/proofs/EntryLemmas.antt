-- The values of a TrackEntry in a sound tree.
use Rattle.std.proofs.Common.{◌≡◌, ◌≤◌, ℕ, true, length, inl, refl, arith}
use Rattle.std.proofs.lemmas.Bool.Decides.{nat_tests}
use Rattle.mkv_schema.specs.declared.ids.TheConstants.{TRACK_ENTRY, TRACK_NUMBER, TRACK_UID, TRACK_TYPE, CODEC_ID, LANGUAGE, LANGUAGE_BCP47, DEFAULT_DURATION, CONTENT_ENCODING, CONTENT_ENCODING_SCOPE, CONTENT_ENCODING_TYPE, CONTENT_COMPRESSION, CONTENT_COMP_ALGO}
use Rattle.mkv_schema.specs.declared.kind.ElementKind.TheVariants.{Uint}
use Rattle.mkv_schema.specs.Table.{table}
use Rattle.mkv_schema.specs.Schema.{entry_of}
use Rattle.mkv_schema.specs.Value.{is_value}
use Rattle.tree_format.specs.Node.{Node, id_of, body_of}
use Rattle.tree_format.specs.Standing.{StandsIn}
use Rattle.tree_format.specs.Values.{HasUint}
use Rattle.tree_format.proofs.ChildLemmas.{stands-value, HasUint-of}
use Rattle.ebml_tree.specs.Texts.{HasText}
use Rattle.ebml_tree.proofs.TextLemmas.{HasText-of}

-- ---- the table for a TrackEntry and its encodings

pub number : HasUint TRACK_ENTRY TRACK_NUMBER
unfolding entry_of table
number = record { stands = refl; kind = refl }

pub uid : HasUint TRACK_ENTRY TRACK_UID
unfolding entry_of table
uid = record { stands = refl; kind = refl }

pub type : HasUint TRACK_ENTRY TRACK_TYPE
unfolding entry_of table
type = record { stands = refl; kind = refl }

pub default_duration : HasUint TRACK_ENTRY DEFAULT_DURATION
unfolding entry_of table
default_duration = record { stands = refl; kind = refl }

pub codec : HasText TRACK_ENTRY CODEC_ID
unfolding entry_of table
codec = record { stands = refl; kind = inl refl }

pub language : HasText TRACK_ENTRY LANGUAGE
unfolding entry_of table
language = record { stands = refl; kind = inl refl }

pub language_bcp47 : HasText TRACK_ENTRY LANGUAGE_BCP47
unfolding entry_of table
language_bcp47 = record { stands = refl; kind = inl refl }

pub scope : HasUint CONTENT_ENCODING CONTENT_ENCODING_SCOPE
unfolding entry_of table
scope = record { stands = refl; kind = refl }

pub encoding_type : HasUint CONTENT_ENCODING CONTENT_ENCODING_TYPE
unfolding entry_of table
encoding_type = record { stands = refl; kind = refl }

pub algorithm : HasUint CONTENT_COMPRESSION CONTENT_COMP_ALGO
unfolding entry_of table
algorithm = record { stands = refl; kind = refl }

pub ruleset known = (HasUint-of, HasText-of, number, uid, type, default_duration, codec, language, language_bcp47, scope, encoding_type, algorithm)

-- ---- the values

pub stands-short : (n : Node) (id : ℕ) → StandsIn TRACK_ENTRY n → id ≡ id_of n → HasUint TRACK_ENTRY id → length (body_of n) ≤ 8
stands-short n id stands is integer =
    let value : is_value Uint (body_of n) ≡ true = stands-value TRACK_ENTRY Uint n stands (rw (← is) integer.stands) (rw (← is) integer.kind) in
    grind (arith, nat_tests)
