-- The tables at lists and maps.
use Rattle.std.proofs.Common.{◌≡◌, ℕ, ℤ, List, ◌++◌, refl, ap, Ok}
use Rattle.std.specs.List.{list_any}
use Rattle.pp_value.specs.declared.value.Value.{Value, items_hidden-the_row-Value-0}
use Rattle.pp_value.specs.declared.value.Value.TheVariants as v
use Rattle.pp_value.specs.Texts.{lowered, is_part, same_text}
use Rattle.pp_value.specs.Keys.{with_pairs}
use Rattle.pp_value.specs.Values.{Pair, value_at}
use Rattle.pp_value.specs.Levels.{keyed_is}
use Rattle.pp_value.specs.Table.{member_table, within_table, add_table, index_table, member_at, or_undef}

-- `in` and a list asks for a member
pub in_list : (x : Value) (items : List Value) → within_table x (v.List items) ≡ member_table x items
in_list v.Undef items = ap (member_table v.Undef) (items_hidden-the_row-Value-0 items)
in_list (v.Bool x) items = ap (member_table (v.Bool x)) (items_hidden-the_row-Value-0 items)
in_list (v.Int x) items = ap (member_table (v.Int x)) (items_hidden-the_row-Value-0 items)
in_list (v.Str x) items = ap (member_table (v.Str x)) (items_hidden-the_row-Value-0 items)
in_list (v.List' s r) items = ap (member_table (v.List' s r)) (items_hidden-the_row-Value-0 items)
in_list (v.Map' s r) items = ap (member_table (v.Map' s r)) (items_hidden-the_row-Value-0 items)
in_list (v.Refer x) items = ap (member_table (v.Refer x)) (items_hidden-the_row-Value-0 items)
in_list v.Opaque items = ap (member_table v.Opaque) (items_hidden-the_row-Value-0 items)

-- `in` and a map asks for a key, ASCII case aside
pub in_map : (key : List ℕ) (pairs : List Pair) → within_table (v.Str key) (v.Map pairs) ≡ Ok (list_any (λ q. same_text key q.0) pairs)
in_map key pairs = ap (λ ps. Ok (list_any (λ q. same_text key q.0) ps)) (keyed_is pairs)

-- `in` and a text asks for a part, ASCII case aside
pub in_text : (part text : List ℕ) → within_table (v.Str part) (v.Str text) ≡ Ok (is_part (lowered part) (lowered text))
in_text part text = refl

-- two lists are added one behind the other
pub add_lists : (xs ys : List Value) → add_table (v.List xs) (v.List ys) ≡ Ok (v.List (xs ++ ys))
add_lists xs ys = λ i. Ok (v.List (items_hidden-the_row-Value-0 xs i ++ items_hidden-the_row-Value-0 ys i))

-- two maps are added pair by pair
pub add_maps : (xs ys : List Pair) → add_table (v.Map xs) (v.Map ys) ≡ Ok (v.Map (with_pairs xs ys))
add_maps xs ys = λ i. Ok (v.Map (with_pairs (keyed_is xs i) (keyed_is ys i)))

-- a list is indexed by a number
pub index_list : (xs : List Value) (n : ℤ) → index_table (v.List xs) (v.Int n) ≡ Ok (member_at xs n)
index_list xs n = λ i. Ok (member_at (items_hidden-the_row-Value-0 xs i) n)

-- a map is indexed by a key
pub index_map : (pairs : List Pair) (key : List ℕ) → index_table (v.Map pairs) (v.Str key) ≡ Ok (or_undef (value_at key pairs))
index_map pairs key = λ i. Ok (or_undef (value_at key (keyed_is pairs i)))
