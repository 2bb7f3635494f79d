-- Info and Tracks are read in their normal form after they are written.
use Rattle.std.proofs.Common.{◌≡◌, ◌<◌, ◌≤◌, ℕ, ◌+◌, List, length, flat_map, Option, Some, Result, Ok, refl, sym, ◌∙◌, ap, arith}
use Rattle.std.specs.Option.{option_map}
use Rattle.mkv_io.specs.declared.damage.Damage.{Damage}
use Rattle.mkv_schema.specs.declared.element.Header.{Header}
use Rattle.mkv_io.specs.Results.{and_then}
use Rattle.mkv_schema.specs.Value.{body_of}
use Rattle.tree_format.specs.declared.limits.TheConstants.{MAX_NODES}
use Rattle.tree_format.specs.Node.{Node, master, nodes_of, depth_all, deepest}
use Rattle.tree_format.specs.NormalForm.{kept_octets, octets, octets_all, longest}
use Rattle.tree_format.specs.Reading.{tree_of}
use Rattle.tree_format.specs.Standing.{AllStandIn, IsReadAgain, kept_all, placed_all}
use Rattle.tree_format.proofs.AgainLemmas.{sound-again}
use Rattle.tree_format.proofs.NodeLemmas.{octets_all-flat}
use Rattle.tree_format.proofs.PlacedLemmas.{octets_all-placed}
use Rattle.output_model.specs.Element.{Element, HoldsAt, octets_of, header_in_place}
use Rattle.output_model.proofs.ReadLemmas.{body_of-read}
use Rattle.meta_records.specs.Records.{tree_at}

-- A master with the ID `id` and the children `nodes` can be written and read again.
pub record CanBeRead (id : ℕ) (nodes : List Node) : Type 0 where
  pub stand : AllStandIn id (nodes_of nodes)
  pub shallow : depth_all (nodes_of nodes) < deepest
  pub short : length (flat_map octets nodes) ≤ longest
  pub few : kept_all (nodes_of nodes) + 1 ≤ MAX_NODES

-- It is read as it was written, with the places after writing.
pub again-tree : (id : ℕ) (nodes : List Node) (new : List ℕ) (p : ℕ) (d : Element) → CanBeRead id nodes → d.id ≡ id → d.body ≡ flat_map octets nodes → HoldsAt new p (octets_of d)
    → tree_at new (Some (header_in_place p d)) ≡ Ok (Some (master id p (placed_all (header_in_place p d).body (nodes_of nodes))))
again-tree id nodes new p d can own body held = ap (λ (r : Result Node Damage). and_then r (λ tree. Ok (Some tree))) tree_is
  where
    g : Header
    g = header_in_place p d

    tree : Node
    tree = master id 0 (nodes_of nodes)

    content_is : octets_all (nodes_of nodes) ≡ flat_map octets nodes
    content_is = octets_all-flat nodes

    read : IsReadAgain MAX_NODES tree
    read = sound-again tree MAX_NODES refl can.stand
        (record { long = (let short = can.short in let len : length (octets_all (nodes_of nodes)) ≡ length (flat_map octets nodes) = ap (λ (l : List ℕ). length l) content_is in omega arith); deep = (let deep = can.shallow in omega arith) }) can.few

    tree_is : tree_of g.id g.offset (body_of new g) g.body MAX_NODES ≡ Ok (master id p (placed_all g.body (nodes_of nodes)))
    tree_is =
        ap (λ (o : List ℕ). tree_of d.id p o g.body MAX_NODES) (body_of-read new p d held ∙ body ∙ sym content_is)
        ∙ ap (λ (i : ℕ). tree_of i p (octets_all (nodes_of nodes)) g.body MAX_NODES) own
        ∙ read.read p g.body

-- Its normal form is the written one.
pub again : (id : ℕ) (nodes : List Node) (new : List ℕ) (p : ℕ) (d : Element) → CanBeRead id nodes → d.id ≡ id → d.body ≡ flat_map octets nodes → HoldsAt new p (octets_of d)
    → and_then (tree_at new (Some (header_in_place p d))) (λ (n : Option Node). Ok (option_map octets n)) ≡ Ok (Some (octets (master id 0 (nodes_of nodes))))
again id nodes new p d can own body held =
    ap (λ (r : Result (Option Node) Damage). and_then r (λ (n : Option Node). Ok (option_map octets n))) (again-tree id nodes new p d can own body held)
    ∙ ap (λ (o : List ℕ). Ok (Some (kept_octets id o))) (octets_all-placed (nodes_of nodes) (header_in_place p d).body)
