-- The children of a Tracks that was read.
use Rattle.std.proofs.Common.{◌≡◌, ℕ, zero, suc, ◌∷◌, map, Option, Some, None, IfSome, Ok, Err, ap, subst, arith}
use Rattle.std.specs.List.{All}
use Rattle.mkv_schema.specs.declared.ids.TheConstants.{CHAPTERS, INFO, TAGS, TRACKS}
use Rattle.tree_format.specs.Node.{Node, Nodes, leaf, master, none, node, list_of, children}
use Rattle.tree_format.specs.Standing.{StandsIn, AllStandIn}
use Rattle.ebml_tree.specs.Building.{IsRead}
use Rattle.meta_records.specs.Records.{IsHeld, good_info}
use Rattle.meta_records.proofs.RecordsLemmas.{held}
use Rattle.file_format.specs.Info.{info_refusal}
use Rattle.mkv_io.specs.declared.damage.Damage.{Damage}
use Rattle.mkv_io.specs.Results.{unless}
use Rattle.file_format.specs.Entry.{entries_of}
use Rattle.file_format.specs.Refusal.{refusal_of}
use Rattle.track_records.specs.Track.{track_of, tracks_of}

pub held-info : IsHeld INFO
held-info = held.info

pub held-tracks : IsHeld TRACKS
held-tracks = held.tracks

pub held-chapters : IsHeld CHAPTERS
held-chapters = held.chapters

pub held-tags : IsHeld TAGS
held-tags = held.tags

all-stand : (parent : ℕ) (ns : Nodes) → AllStandIn parent ns → All (StandsIn parent) (list_of ns)
all-stand parent none stand = λ k d less. absurd (omega (arith, less))
all-stand parent (node n ns) stand = at (all-stand parent ns stand.1)
  where
    at : All (StandsIn parent) (list_of ns) → All (StandsIn parent) (n ∷ list_of ns)
    at rest zero d less = stand.0
    at rest (suc k) d less = rest k d (omega (arith, less))

pub children-stand : (n : Node) → IsRead TRACKS n → All (StandsIn TRACKS) (children n)
children-stand (leaf id at body) is = absurd (cc is.master)
children-stand (master id at kids) is =
    let P : ℕ → Type 0 = λ p. All (StandsIn p) (list_of kids) in
    subst P is.id (all-stand id kids is.sound)

-- An Info that isn't refused is the one that was read.
pub good-read : (info same : Option Node) → good_info info ≡ Ok same → IfSome info (IsRead INFO) → IfSome same (IsRead INFO)
good-read None same is read = let one : None ≡ same = cc in let P : Option Node → Type 0 = λ x. IfSome x (IsRead INFO) in subst P one tt
good-read (Some n) same is read = of (info_refusal n) is
  where
    of : (refusal : Option Damage) → unless refusal (Some n) ≡ Ok same → IfSome same (IsRead INFO)
    of None made = let one : Some n ≡ same = cc in let P : Option Node → Type 0 = λ x. IfSome x (IsRead INFO) in subst P one read
    of (Some d) made = absurd (cc)

-- A refusal of the tracks refuses their Tracks.
pub tracks-refused : (tracks : Node) (d : Damage) → tracks_of tracks ≡ Err d → unless (refusal_of tracks) tracks ≡ Err d
tracks-refused tracks d is = split (refusal_of tracks) is
  where
    split : (r : Option Damage) → unless r (map track_of (entries_of tracks)) ≡ Err d → unless r tracks ≡ Err d
    split None other = absurd (cc other)
    split (Some e) same =
        let one : e ≡ d = cc same in
        ap (λ x. Err x) one

pub ruleset reads = (held-info, held-tracks, held-chapters, held-tags, children-stand, good-read)
