-- A new leaf is valid under a parent if the table has its ID there.
use Rattle.std.proofs.Common.{◌≡◌, ◌⊎◌, inl, inr, ◌<◌, ◌^◌, ℕ, suc, ◌+◌, ◌==◌, nat_le, Bool, true, false, not, cond, List, [], ◌∷◌, length, take, get_or, Option, Some, None, Result, Ok, Err, IfOk, refl, sym, ap, subst, ◌∙◌, arith}
use Rattle.std.specs.declared.alloc.AllocError.{AllocError}
use Rattle.std.specs.Option.{option_map, option_map_or}
use Rattle.std.specs.List.{prefix_len}
use Rattle.std.specs.Str.{IsUtf8, is_utf8}
use Rattle.std.proofs.lemmas.Bool.Decides.{nat_tests}
use Rattle.std.proofs.lemmas.List.{take_all}
use Rattle.std.proofs.lemmas.Str.{IsUtf8-take, IsCharBoundary-before_ascii, is_utf8-from_IsUtf8}
use Rattle.ebml_numbers.specs.Number.{is_id, uint_octets}
use Rattle.ebml_numbers.proofs.NumberLemmas.{length-uint_octets}
use Rattle.ebml_numbers.proofs.WidthLemmas.{uint_width-IsLeast}
use Rattle.mkv_schema.specs.declared.kind.ElementKind.{ElementKind}
use Rattle.mkv_schema.specs.declared.kind.ElementKind.TheVariants.{Uint, Ascii, Utf8}
use Rattle.mkv_schema.specs.Table.{Entry}
use Rattle.mkv_schema.specs.Schema.{entry_of, is_master_kind, is_master, may_stand, kind_of}
use Rattle.mkv_schema.specs.Value.{is_value, text_of}
use Rattle.tree_format.specs.Node.{Node, leaf}
use Rattle.tree_format.specs.Standing.{StandsIn}
use Rattle.tree_format.specs.Children.{uint_leaf}
use Rattle.ebml_tree.specs.Leaves.{IsUintIn, IsTextIn}

-- An ID with another kind isn't a master's.
no-master : (id : ℕ) (kind : ElementKind) → kind_of id ≡ Some kind → is_master_kind kind ≡ false → is_master id ≡ false
no-master id kind is other = of (entry_of id) is
  where
    of : (o : Option Entry) → option_map (λ e. e.kind) o ≡ Some kind → option_map_or (λ e. is_master_kind e.kind) o false ≡ false
    of None found = refl
    of (Some e) found = let same : e.kind ≡ kind = cc in ap is_master_kind same ∙ other

leaf-stands : (parent id : ℕ) (kind : ElementKind) (body : List ℕ) → is_id id ≡ true → may_stand id parent ≡ true → kind_of id ≡ Some kind → is_master_kind kind ≡ false → is_value kind body ≡ true
    → StandsIn parent (leaf id 0 body)
leaf-stands parent id kind body valid stands is other value = record {
  id_stands = valid;
  no_master = rw (no-master id kind is other, stands) refl;
  value = rw (stands, is) value;
}

-- ---- an integer of 64 bits has at most eight bytes

pub uint-stands : (parent id value : ℕ) → IsUintIn parent id → value < 2 ^ 64 → StandsIn parent (uint_leaf id value)
uint-stands parent id value is small =
    let most = (uint_width-IsLeast value small).most in
    let long = length-uint_octets value in
    leaf-stands parent id Uint (uint_octets value) is.valid is.known.stands is.known.kind refl (grind (arith, nat_tests))

-- ---- a text up to its first zero byte is a text

zero-at : (bs : List ℕ) → prefix_len (λ b. not (b == 0)) bs < length bs → get_or bs (prefix_len (λ b. not (b == 0)) bs) 0 < 128
zero-at [] inside = absurd (omega arith)
zero-at (b ∷ bs) inside = split (b == 0) refl (zero-at bs) inside
  where
    split : (z : Bool) → (b == 0) ≡ z → (prefix_len (λ b. not (b == 0)) bs < length bs → get_or bs (prefix_len (λ b. not (b == 0)) bs) 0 < 128)
        → cond (not z) (1 + prefix_len (λ b. not (b == 0)) bs) 0 < length (b ∷ bs) → get_or (b ∷ bs) (cond (not z) (1 + prefix_len (λ b. not (b == 0)) bs) 0) 0 < 128
    split true is rest inside = let none : b ≡ 0 = grind (arith, nat_tests) in omega arith
    split false is rest inside =
        let more : 1 + prefix_len (λ b. not (b == 0)) bs ≡ suc (prefix_len (λ b. not (b == 0)) bs) = omega arith in
        let P : ℕ → Type 0 = λ k. get_or (b ∷ bs) k 0 < 128 in
        subst P (sym more) (rest (omega arith))

text-utf8 : (bs : List ℕ) → IsUtf8 bs → is_utf8 (text_of bs) ≡ true
text-utf8 bs whole = is_utf8-from_IsUtf8 (text_of bs) (of (nat_le (length bs) k) refl)
  where
    k : ℕ
    k = prefix_len (λ b. not (b == 0)) bs

    of : (past : Bool) → nat_le (length bs) k ≡ past → IsUtf8 (take k bs)
    of true is = subst IsUtf8 (sym (take_all k bs (grind (arith, nat_tests)))) whole
    of false is =
        let inside : k < length bs = grind (arith, nat_tests) in
        IsUtf8-take bs k whole (IsCharBoundary-before_ascii bs k inside (zero-at bs inside))

pub text-stands : (parent id : ℕ) (text : List ℕ) → IsTextIn parent id → IsUtf8 text → StandsIn parent (leaf id 0 text)
text-stands parent id text is whole = of is.kind
  where
    of : (kind_of id ≡ Some Ascii) ⊎ (kind_of id ≡ Some Utf8) → StandsIn parent (leaf id 0 text)
    of (inl ascii) = leaf-stands parent id Ascii text is.valid is.stands ascii refl (text-utf8 text whole)
    of (inr utf8) = leaf-stands parent id Utf8 text is.valid is.stands utf8 refl (text-utf8 text whole)

-- The leaf that a call made is valid.
pub text-made : (r : Result Node AllocError) (id : ℕ) (bytes text : List ℕ) → IfOk r (λ tree. tree ≡ leaf id 0 bytes) → bytes ≡ text → IsUtf8 text → (parent : ℕ) → IsTextIn parent id → IfOk r (StandsIn parent)
text-made (Ok tree) id bytes text made same whole parent is = subst (StandsIn parent) (sym (made ∙ ap (leaf id 0) same)) (text-stands parent id text is whole)
text-made (Err e) id bytes text made same whole parent is = tt
