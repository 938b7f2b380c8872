-- What the definitions say of a list and of a map, in the words of lists.
use Rattle.std.specs.Prelude.{◌≡◌, ℕ, ◌+◌, max, Bool, true, false, ◌||◌, ◌&&◌, ◌==◌, List, [], ◌∷◌, ◌++◌, length, map, codes, refl, Some}
use Rattle.std.specs.List.{list_any, list_all}
use Rattle.std.proofs.Common.{ap, ◌∙◌, arith}
use Rattle.pp_syntax.specs.declared.tree.TypeName.{TypeName}
use Rattle.pp_syntax.specs.declared.tree.TypeName.TheVariants as t
use Rattle.pp_syntax.specs.declared.tree.TypeName.TheBlock as kinds
use Rattle.pp_value.specs.declared.value.Value.{Value, items-the_row-Value, items_hidden-the_row-Value-0}
use Rattle.pp_value.specs.declared.value.Value.TheVariants as v
use Rattle.pp_value.specs.declared.value.Value.TheBlock as block
use Rattle.pp_value.specs.Values.{Pair, keyed, on_list, on_map, has_opaque, same, size_of, depth_of, passes, value_at, is_undef, same_row, same_pairs}
use Rattle.pp_value.specs.Shown.{shown, shown_row, shown_keyed, listed}
use Rattle.pp_value.specs.Types.{is_fit}

pub on_list_of : (test : List Value → Bool) (xs : List Value) → on_list test (v.List xs) ≡ test xs
on_list_of test xs = ap test (items_hidden-the_row-Value-0 xs)

-- a map has the pairs that it is made of
pub keyed_is : (xs : List Pair) → keyed (block.shape-the_row-Value-1 xs) (block.hidden-the_row-Value-1 xs) ≡ xs
unfolding block.shape-the_row-Value-1 block.hidden-the_row-Value-1 denote.Hole.Carrier.hidden
keyed_is [] = refl
keyed_is (p ∷ xs) = ap (λ more. p ∷ more) (keyed_is xs)

pub on_map_of : (test : List Pair → Bool) (xs : List Pair) → on_map test (v.Map xs) ≡ test xs
on_map_of test xs = ap test (keyed_is xs)

-- ---- opaque values

pub has_opaque_list : (xs : List Value) → has_opaque (v.List xs) ≡ list_any has_opaque xs
unfolding block.hidden-the_row-Value-0 denote.Hole.Carrier.hidden
has_opaque_list [] = refl
has_opaque_list (x ∷ xs) = ap (λ b. has_opaque x || b) (has_opaque_list xs)

pub has_opaque_map : (xs : List Pair) → has_opaque (v.Map xs) ≡ list_any (λ p. has_opaque p.1) xs
unfolding block.shape-the_row-Value-1 block.hidden-the_row-Value-1 denote.Hole.Carrier.hidden
has_opaque_map [] = refl
has_opaque_map (p ∷ xs) = ap (λ b. has_opaque p.1 || b) (has_opaque_map xs)

-- ---- sizes

abbrev pub size_of_all : List Value → ℕ
size_of_all [] = 0
size_of_all (x ∷ xs) = size_of x + size_of_all xs

abbrev pub size_of_each : List Pair → ℕ
size_of_each [] = 0
size_of_each (p ∷ xs) = (1 + length p.0 + size_of p.1) + size_of_each xs

pub size_of_list : (xs : List Value) → size_of (v.List xs) ≡ 1 + size_of_all xs
unfolding block.hidden-the_row-Value-0 denote.Hole.Carrier.hidden
size_of_list [] = refl
size_of_list (x ∷ xs) = let rest = size_of_list xs in omega arith

pub size_of_map : (xs : List Pair) → size_of (v.Map xs) ≡ 1 + size_of_each xs
unfolding block.shape-the_row-Value-1 block.hidden-the_row-Value-1 denote.Hole.Carrier.hidden
size_of_map [] = refl
size_of_map (p ∷ xs) = let rest = size_of_map xs in omega arith

-- ---- depth

abbrev pub depth_of_all : List Value → ℕ
depth_of_all [] = 0
depth_of_all (x ∷ xs) = max (depth_of x) (depth_of_all xs)

abbrev pub depth_of_each : List Pair → ℕ
depth_of_each [] = 0
depth_of_each (p ∷ xs) = max (depth_of p.1) (depth_of_each xs)

pub depth_of_list : (xs : List Value) → depth_of (v.List xs) ≡ 1 + depth_of_all xs
unfolding block.hidden-the_row-Value-0 denote.Hole.Carrier.hidden
depth_of_list [] = refl
depth_of_list (x ∷ xs) = let rest = depth_of_list xs in omega arith

pub depth_of_map : (xs : List Pair) → depth_of (v.Map xs) ≡ 1 + depth_of_each xs
unfolding block.shape-the_row-Value-1 block.hidden-the_row-Value-1 denote.Hole.Carrier.hidden
depth_of_map [] = refl
depth_of_map (p ∷ xs) = let rest = depth_of_map xs in omega arith

-- ---- equal values

-- member by member
abbrev pub all_same : List Value → List Value → Bool
all_same [] [] = true
all_same [] (y ∷ ys) = false
all_same (x ∷ xs) [] = false
all_same (x ∷ xs) (y ∷ ys) = same x y && all_same xs ys

-- the value of this pair's key in the other map is equal to the pair's
abbrev pub has_same : List Pair → Pair → Bool
has_same other p = passes (same p.1) (value_at p.0 other)

same_with : (xs : List Value) (b : Value) → same (v.List xs) b ≡ on_list (all_same xs) b
unfolding block.hidden-the_row-Value-0 denote.Hole.Carrier.hidden
same_with xs v.Undef = refl
same_with xs (v.Bool x) = refl
same_with xs (v.Int x) = refl
same_with xs (v.Str x) = refl
same_with xs (v.List' shape row) = rows xs (items-the_row-Value _ row)
  where
    rows : (xs ys : List Value) → same_row (block.hidden-the_row-Value-0 xs) ys ≡ all_same xs ys
    rows [] [] = refl
    rows [] (y ∷ ys) = refl
    rows (x ∷ xs) [] = refl
    rows (x ∷ xs) (y ∷ ys) = ap (λ b. same x y && b) (rows xs ys)
same_with xs (v.Map' shape row) = refl
same_with xs (v.Refer x) = refl
same_with xs v.Opaque = refl

pub same_lists : (xs ys : List Value) → same (v.List xs) (v.List ys) ≡ all_same xs ys
same_lists xs ys = same_with xs (v.List ys) ∙ on_list_of (all_same xs) ys

pub same_list_other : (xs : List Value) (b : Value) → same (v.List xs) b ≡ on_list (all_same xs) b
same_list_other xs b = same_with xs b

abbrev pub same_in : List Pair → List Pair → Bool
same_in xs ys = (length xs == length ys) && list_all (has_same ys) xs

pairs_rows : (xs : List Pair) (ys : List Pair)
    → same_pairs (block.shape-the_row-Value-1 xs) (block.hidden-the_row-Value-1 xs) ys ≡ list_all (has_same ys) xs
unfolding block.shape-the_row-Value-1 block.hidden-the_row-Value-1 denote.Hole.Carrier.hidden
pairs_rows [] ys = refl
pairs_rows (p ∷ xs) ys = ap (λ b. has_same ys p && b) (pairs_rows xs ys)

keys_count : (xs : List Pair) → length (block.shape-the_row-Value-1 xs) ≡ length xs
unfolding block.shape-the_row-Value-1
keys_count [] = refl
keys_count (p ∷ xs) = let rest = keys_count xs in omega arith

pub same_map_other : (xs : List Pair) (b : Value) → same (v.Map xs) b ≡ on_map (same_in xs) b
same_map_other xs v.Undef = refl
same_map_other xs (v.Bool x) = refl
same_map_other xs (v.Int x) = refl
same_map_other xs (v.Str x) = refl
same_map_other xs (v.List' shape row) = refl
same_map_other xs (v.Map' keys row) = let ys = keyed keys row in λ i. (keys_count xs i == length ys) && pairs_rows xs ys i
same_map_other xs (v.Refer x) = refl
same_map_other xs v.Opaque = refl

pub same_maps : (xs ys : List Pair) → same (v.Map xs) (v.Map ys) ≡ same_in xs ys
same_maps xs ys = same_map_other xs (v.Map ys) ∙ on_map_of (same_in xs) ys

-- ---- texts

abbrev pub pair_text : Pair → List ℕ
pair_text p = p.0 ++ (codes " => " ++ shown p.1)

pub shown_list : (xs : List Value) → shown (v.List xs) ≡ codes "[" ++ (listed (map shown xs) ++ codes "]")
unfolding block.hidden-the_row-Value-0 denote.Hole.Carrier.hidden
shown_list xs = ap (λ texts. codes "[" ++ (listed texts ++ codes "]")) (rows xs)
  where
    rows : (xs : List Value) → shown_row (block.hidden-the_row-Value-0 xs) ≡ map shown xs
    rows [] = refl
    rows (x ∷ xs) = ap (λ texts. shown x ∷ texts) (rows xs)

pub shown_map : (xs : List Pair) → shown (v.Map xs) ≡ codes "{" ++ (listed (map pair_text xs) ++ codes "}")
unfolding block.shape-the_row-Value-1 block.hidden-the_row-Value-1 denote.Hole.Carrier.hidden
shown_map xs = ap (λ texts. codes "{" ++ (listed texts ++ codes "}")) (rows xs)
  where
    rows : (xs : List Pair) → shown_keyed (block.shape-the_row-Value-1 xs) (block.hidden-the_row-Value-1 xs) ≡ map pair_text xs
    rows [] = refl
    rows (q ∷ xs) = ap (λ texts. pair_text q ∷ texts) (rows xs)

-- ---- types

or_false : (b : Bool) → (b || false) ≡ b
or_false true = refl
or_false false = refl

pub is_fit_array : (kind : TypeName) (x : Value) → is_fit (t.Array (Some kind)) x ≡ on_list (list_all (is_fit kind)) x
unfolding kinds.hidden-the_row-TypeName-0 denote.Hole.Carrier.hidden
is_fit_array kind v.Undef = refl
is_fit_array kind (v.Bool x) = refl
is_fit_array kind (v.Int x) = refl
is_fit_array kind (v.Str x) = refl
is_fit_array kind (v.List' shape row) = all_fit (items-the_row-Value _ row)
  where
    all_fit : (xs : List Value) → list_all (λ x. is_fit kind x || false) xs ≡ list_all (is_fit kind) xs
    all_fit [] = refl
    all_fit (x ∷ xs) = λ i. or_false (is_fit kind x) i && all_fit xs i
is_fit_array kind (v.Map' shape row) = refl
is_fit_array kind (v.Refer x) = refl
is_fit_array kind v.Opaque = refl

pub is_fit_optional : (kind : TypeName) (x : Value) → is_fit (t.Optional kind) x ≡ is_undef x || is_fit kind x
unfolding kinds.hidden-the_row-TypeName-0 denote.Hole.Carrier.hidden
is_fit_optional kind x = ap (λ b. is_undef x || b) (or_false (is_fit kind x))

pub is_fit_variant : (kind_list : List TypeName) (x : Value) → is_fit (t.Variant kind_list) x ≡ list_any (λ kind. is_fit kind x) kind_list
unfolding kinds.hidden-the_row-TypeName-1 denote.Hole.Carrier.hidden
is_fit_variant [] x = refl
is_fit_variant (kind ∷ more) x = ap (λ b. is_fit kind x || b) (is_fit_variant more x)
