-- Objects that are built in the order of their keys, and lists of values.
use Rattle.std.proofs.Common.{◌≡◌, ℕ, suc, ◌+◌, ◌<◌, ◌≤◌, Bool, true, false, ◌&&◌, List, [], ◌∷◌, ◌++◌, length, map, drop, get_or, Option, Some, None, Ordering, Less, Equal, Greater, nat_cmp, refl, sym, ap, ap₂, ◌∙◌, add-one}
use Rattle.std.proofs.lemmas.List.{append_assoc, append-nil, drop_all, map-append}
use Rattle.std.proofs.Math.Seq.{drop-cons}
use Rattle.std.specs.Ordering.{match_ordering}
use Rattle.std.specs.Cmp.Lexicographic.{slice_cmp}
use Rattle.serde_json.specs.Data.{Data, Members, member, no_members, put}
use Rattle.serde_json.specs.View.{view}
use Rattle.serde_json.specs.declared.value.Value.{Value}
use Rattle.mkv_info.specs.Json.{Member, members_of, numbered, with_first}
use Rattle.mkv_info.specs.Put.{is_behind, put_each, put_if, rise}

both : (a b : Bool) → a && b ≡ true → (a ≡ true) × (b ≡ true)
both true b holds = (refl, holds)
both false b holds = absurd (cc)

-- A key that comes after all others is put last.
put_behind : (key : List ℕ) (value : Option Data) (before : List Member) → is_behind key before ≡ true → put_if key value (members_of before) ≡ members_of (before ++ (key, value) ∷ [])
put_behind key None [] behind = refl
put_behind key (Some d) [] behind = refl
put_behind key value (m ∷ ms) behind =
    step (slice_cmp nat_cmp key m.0) refl (both _ _ behind).0 m.1 value (put_behind key value ms (both _ _ behind).1)
  where
    step : (o : Ordering) → slice_cmp nat_cmp key m.0 ≡ o → match_ordering (slice_cmp nat_cmp key m.0) false false true ≡ true → (own put_last : Option Data)
        → put_if key put_last (members_of ms) ≡ members_of (ms ++ (key, put_last) ∷ [])
        → put_if key put_last (with_first m.0 own (members_of ms)) ≡ with_first m.0 own (members_of (ms ++ (key, put_last) ∷ []))
    step o is after None put_last rest = rest
    step o is after (Some e) None rest = ap (member m.0 e) rest
    step Greater is after (Some e) (Some d) rest = rw is (ap (member m.0 e) rest)
    step Less is after (Some e) (Some d) rest = absurd (cc (rw is at after))
    step Equal is after (Some e) (Some d) rest = absurd (cc (rw is at after))

put_behind_each : (before more : List Member) → rise before more ≡ true → put_each more (members_of before) ≡ members_of (before ++ more)
put_behind_each before [] rises = ap members_of (sym (append-nil before))
put_behind_each before (m ∷ more) rises =
    let each = both (is_behind m.0 before) (rise (before ++ m ∷ []) more) rises in
    ap (put_each more) (put_behind m.0 m.1 before each.0)
    ∙ put_behind_each (before ++ m ∷ []) more each.1
    ∙ ap members_of (append_assoc before (m ∷ []) more)

-- The members `ms` were put into an object in sequence.
pub record ArePut (ms : List Member) (all : Members) : Type 0 where
  pub are : all ≡ put_each ms no_members

-- Members with ascending keys keep their order.
pub put-members : (ms : List Member) (all : Members) → ArePut ms all → rise [] ms ≡ true → all ≡ members_of ms
put-members ms all put rises = put.are ∙ put_behind_each [] ms rises

-- A further member is put after these, or left out without a value.
pub put-if_there : (ms : List Member) (before after : Members) (key : List ℕ) (own value : Option Data) → ArePut ms before → after ≡ put_if key own before → own ≡ value → ArePut (ms ++ (key, value) ∷ []) after
put-if_there ms before after key own value were added is = record { are = added ∙ ap₂ (put_if key) is were.are ∙ step ms no_members }
  where
    step : (list : List Member) (first : Members) → put_if key value (put_each list first) ≡ put_each (list ++ (key, value) ∷ []) first
    step [] first = refl
    step (m ∷ more) first = step more (put_if m.0 m.1 first)

pub put-given : (ms : List Member) (before after : Members) (key : List ℕ) (own value : Data) → ArePut ms before → after ≡ put key own before → own ≡ value → ArePut (ms ++ (key, Some value) ∷ []) after
put-given ms before after key own value were added is = put-if_there ms before after key (Some own) (Some value) were added (ap (λ (one : Data). Some one) is)

-- ---- lists of values

-- The next item follows the items that were passed.
numbered-cons : {A : Type 0} (shown : ℕ → A → List Data) (k i : ℕ) (xs : List A) (x : A) → i < length xs → x ≡ get_or xs i x → numbered shown k (drop i xs) ≡ shown k x ++ numbered shown (k + 1) (drop (i + 1) xs)
numbered-cons shown k i xs x below is =
    ap (numbered shown k) (drop-cons xs i x below) ∙ ap (λ one. shown k one ++ numbered shown (k + 1) (drop (suc i) xs)) (sym is) ∙ ap (λ n. shown k x ++ numbered shown (k + 1) (drop n xs)) (sym (add-one i))

numbered-next : {A : Type 0} (shown : ℕ → A → List Data) (k i : ℕ) (xs : List A) (x : A) (done all : List Data) → i < length xs → x ≡ get_or xs i x → done ++ numbered shown k (drop i xs) ≡ all → (done ++ shown k x) ++ numbered shown (k + 1) (drop (i + 1) xs) ≡ all
numbered-next shown k i xs x done all below is was =
    append_assoc done (shown k x) (numbered shown (k + 1) (drop (i + 1) xs))
    ∙ sym (ap (λ rest. done ++ rest) (numbered-cons shown k i xs x below is)) ∙ was

-- At the end all items were passed.
pub numbered-all : {A : Type 0} (shown : ℕ → A → List Data) (k i : ℕ) (xs : List A) (done all : List Data) → length xs ≤ i → done ++ numbered shown k (drop i xs) ≡ all → done ≡ all
numbered-all shown k i xs done all past was = sym (append-nil done) ∙ sym (ap (λ rest. done ++ numbered shown k rest) (drop_all i xs past)) ∙ was

-- The values of mapped items.
pub numbered-map : {A B : Type 0} (shown : ℕ → B → List Data) (f : A → B) (k : ℕ) (xs : List A) → numbered shown k (map f xs) ≡ numbered (λ n x. shown n (f x)) k xs
numbered-map shown f k [] = refl
numbered-map shown f k (x ∷ xs) = ap (λ rest. shown k (f x) ++ rest) (numbered-map shown f (k + 1) xs)

-- A value that is appended follows the others.
pub view-more : (before after : List Value) (value : Value) (shown : Data) → after ≡ before ++ value ∷ [] → view value ≡ shown → map view after ≡ map view before ++ shown ∷ []
view-more before after value shown is same = ap (map view) is ∙ map-append view before (value ∷ []) ∙ ap (λ one. map view before ++ one ∷ []) same

-- One more item was passed.
pub numbered-more : {A : Type 0} (shown : ℕ → A → List Data) (k i : ℕ) (xs : List A) (x : A) (done now all : List Data)
    → i < length xs → x ≡ get_or xs i x → now ≡ done ++ shown k x
    → done ++ numbered shown k (drop i xs) ≡ all → now ++ numbered shown (k + 1) (drop (i + 1) xs) ≡ all
numbered-more shown k i xs x done now all below is same was =
    ap (λ ds. ds ++ numbered shown (k + 1) (drop (i + 1) xs)) same ∙ numbered-next shown k i xs x done all below is was

pub shown-next : {A : Type 0} (shown : ℕ → A → Data) (k i : ℕ) (xs : List A) (x : A) (before after : List Value) (value : Value) (all : List Data)
    → i < length xs → x ≡ get_or xs i x → after ≡ before ++ value ∷ [] → view value ≡ shown k x
    → map view before ++ numbered (λ n y. shown n y ∷ []) k (drop i xs) ≡ all → map view after ++ numbered (λ n y. shown n y ∷ []) (k + 1) (drop (i + 1) xs) ≡ all
shown-next shown k i xs x before after value all below is added same was =
    numbered-more (λ n y. shown n y ∷ []) k i xs x (map view before) (map view after) all below is (view-more before after value (shown k x) added same) was
