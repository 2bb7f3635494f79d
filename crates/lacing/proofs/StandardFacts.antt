-- Computed laces by the rules of RFC 9559, section 10.3 (Block Lacing). A wrong definition fails here. The sizes 800, 500 and 1000 are the
-- standard's own.
use Rattle.std.proofs.Common.{◌≡◌, ℕ, true, false, List, [], ◌∷◌, replicate, None, Some, refl}
use Rattle.std.specs.Int.Count.{count_leading_zeros}
use Rattle.ebml_numbers.specs.Number.{size_at, least_size_width}
use Rattle.lacing.specs.declared.kind.Lace.TheVariants as lace
use Rattle.lacing.specs.Reading.{next_size, size_in, sizes_in, lace_in}
use Rattle.lacing.specs.Settled.{is_settled}
use Rattle.lacing.specs.Writing.{difference_width, octets_of_sizes, lace_head}

abbrev example : List ℕ
example = 800 ∷ 500 ∷ 1000 ∷ []

abbrev small : List ℕ
small = 3 ∷ 1 ∷ 2 ∷ []

pub record AreHeads : Type 0 where
  pub ebml : lace_head lace.Ebml example ≡ 0x43 ∷ 0x20 ∷ 0x5E ∷ 0xD3 ∷ []
  pub xiph : lace_head lace.Xiph example ≡ 0xFF ∷ 0xFF ∷ 0xFF ∷ 0x23 ∷ 0xFF ∷ 0xF5 ∷ []
  pub fixed : lace_head lace.Fixed (7 ∷ 7 ∷ []) ≡ []
  pub one_frame : lace_head lace.Ebml (9 ∷ []) ≡ []
  pub multiple : lace_head lace.Xiph (255 ∷ 0 ∷ []) ≡ 0xFF ∷ 0x00 ∷ []
  pub narrow : lace_head lace.Ebml (0 ∷ 63 ∷ 0 ∷ []) ≡ 0x80 ∷ 0xFE ∷ []
  pub wider : lace_head lace.Ebml (0 ∷ 64 ∷ 0 ∷ []) ≡ 0x80 ∷ 0x60 ∷ 0x3F ∷ []

pub heads : AreHeads
unfolding octets_of_sizes least_size_width difference_width
heads = record { ebml = refl; xiph = refl; fixed = refl; one_frame = refl; multiple = refl; narrow = refl; wider = refl }

pub record AreRead : Type 0 where
  pub ebml : lace_in lace.Ebml 3 (0x83 ∷ 0xBD ∷ replicate 6 0) ≡ Some (small, 2)
  pub xiph : lace_in lace.Xiph 3 (3 ∷ 1 ∷ replicate 6 0) ≡ Some (small, 2)
  pub fixed : lace_in lace.Fixed 3 (replicate 9 0) ≡ Some (3 ∷ 3 ∷ 3 ∷ [], 0)
  pub fixed_with_rest : lace_in lace.Fixed 3 (replicate 10 0) ≡ None
  pub no_frame : lace_in lace.Fixed 0 [] ≡ None
  pub too_many_frames : lace_in lace.Fixed 257 (replicate 257 0) ≡ None
  pub one_frame : lace_in lace.None 1 (replicate 4 0) ≡ Some (4 ∷ [], 0)
  pub two_frames_without_lace : lace_in lace.None 2 (replicate 4 0) ≡ None
  pub frame_too_large : lace_in lace.Xiph 2 (3 ∷ 0 ∷ 0 ∷ []) ≡ None
  pub empty_last_frame : lace_in lace.Xiph 2 (2 ∷ 0 ∷ 0 ∷ []) ≡ Some (2 ∷ 0 ∷ [], 1)
  pub head_cut : lace_in lace.Xiph 2 (0xFF ∷ []) ≡ None
  pub unknown_first_size : lace_in lace.Ebml 2 (0xFF ∷ replicate 200 0) ≡ None
  pub difference_of_all_ones : next_size 10 (size_at (0xFF ∷ [])) ≡ Some (74, 1)
  pub negative : next_size 10 (size_at (0x80 ∷ [])) ≡ None

pub read : AreRead
unfolding lace_in sizes_in size_in size_at count_leading_zeros
read = record {
  ebml = refl;
  xiph = refl;
  fixed = refl;
  fixed_with_rest = refl;
  no_frame = refl;
  too_many_frames = refl;
  one_frame = refl;
  two_frames_without_lace = refl;
  frame_too_large = refl;
  empty_last_frame = refl;
  head_cut = refl;
  unknown_first_size = refl;
  difference_of_all_ones = refl;
  negative = refl;
}

pub record AreSettled : Type 0 where
  pub ebml : is_settled lace.Ebml 3 (0x83 ∷ 0xBD ∷ []) 8 ≡ true
  pub ebml_head_cut : is_settled lace.Ebml 3 (0x83 ∷ []) 8 ≡ false
  pub xiph : is_settled lace.Xiph 3 (3 ∷ 1 ∷ []) 8 ≡ true
  pub xiph_head_cut : is_settled lace.Xiph 3 (3 ∷ []) 8 ≡ false
  pub frame_too_large : is_settled lace.Xiph 2 (3 ∷ []) 3 ≡ false
  pub empty_last_frame : is_settled lace.Xiph 2 (2 ∷ []) 3 ≡ true
  pub fixed : is_settled lace.Fixed 3 [] 9 ≡ true
  pub fixed_with_rest : is_settled lace.Fixed 3 [] 10 ≡ false
  pub one_frame : is_settled lace.None 1 [] 4 ≡ true
  pub two_frames_without_lace : is_settled lace.None 2 [] 4 ≡ false

pub settled : AreSettled
unfolding lace_in sizes_in size_in size_at count_leading_zeros
settled = record {
  ebml = refl;
  ebml_head_cut = refl;
  xiph = refl;
  xiph_head_cut = refl;
  frame_too_large = refl;
  empty_last_frame = refl;
  fixed = refl;
  fixed_with_rest = refl;
  one_frame = refl;
  two_frames_without_lace = refl;
}
