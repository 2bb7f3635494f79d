-- A generated block equals the block that its parts define.
use Rattle.std.proofs.Common.{◌≡◌, ◌≤◌, ℕ, Bool, List, [], ◌∷◌, ◌++◌, length, map, sum, refl, sym, ap, subst, arith}
use Rattle.lacing.specs.Writing.{FitsKind}
use Rattle.lacing.specs.declared.kind.Lace.{Lace}
use Rattle.block_format.specs.Content.{frames_cut}
use Rattle.block_format.specs.declared.limits.TheConstants.{MAX_BLOCK_LEN}
use Rattle.output_model.specs.OutputBlock.{OutputBlock}
use Rattle.mkv_generate.specs.Blocks.{simple_block}
use Rattle.mkv_generate.specs.Made.{HasParts, IsMade, simple_head}
use Rattle.mkv_generate.specs.declared.blocks.Made.{Made}

-- Frames with an empty prefix are unchanged.
plain : (frames : List (List ℕ)) → map (λ (frame : List ℕ). [] ++ frame) frames ≡ frames
plain [] = refl
plain (frame ∷ frames) = ap (λ (rest : List (List ℕ)). frame ∷ rest) (plain frames)

-- A block with these parts is the defined one, if its sizes fit.
pub made-is : (time : ℕ) (key : Bool) (kind : Lace) (octets sizes : List ℕ) (m : Made) → HasParts (simple_head time key kind) octets sizes m
    → 1 ≤ length sizes → length sizes ≤ 256 → FitsKind kind sizes → sum sizes ≤ MAX_BLOCK_LEN → length octets ≡ sum sizes
    → IsMade (simple_block time key kind sizes octets) m
made-is time key kind octets sizes m has some most fits total whole = subst (IsMade (simple_block time key kind sizes octets)) (sym same) own
  where
    made : Made
    made = record { head = simple_head time key kind; octets = record { items = octets }; sizes = record { items = sizes } }

    same : m ≡ made
    same = λ i. record { head = has.head i; octets = record { items = has.octets i }; sizes = record { items = has.sizes i } }

    own : IsMade (simple_block time key kind sizes octets) made
    own = record {
      is = ap (λ (frames : List (List ℕ)). let b : OutputBlock = record (simple_block time key kind sizes octets) { frames = frames } in b) (plain (frames_cut sizes octets));
      can = record {
        limits = record {
          some = some;
          most = most;
          fits = fits;
          total = total;
          prefix_most = omega arith;
          references_most = omega arith;
          kept_most = omega arith;
        };
        whole = whole;
      };
    }
