-- Sums and members of proper values are proper.
use Rattle.std.proofs.Common.{◌≡◌, ℕ, ℤ, Bool, true, false, cond, List, [], ◌∷◌, ◌++◌, Result, Ok, Err, ap, sym, subst}
use Rattle.std.specs.Prelude.{◌+ℤ◌}
use Rattle.std.specs.Str.{bytes_eq}
use Rattle.pp_value.specs.declared.value.Value.{Value, Row_of-Value, end_of-Value, more_of-Value, items-the_row-Value}
use Rattle.pp_value.specs.declared.value.Value.TheVariants as v
use Rattle.pp_value.specs.declared.value.Value.TheBlock as block
use Rattle.pp_value.specs.declared.fault.Misfit.{Misfit}
use Rattle.pp_value.specs.declared.fault.Misfit.TheVariants.{Range}
use Rattle.pp_value.specs.Keys.{with_pairs}
use Rattle.pp_value.specs.Values.{Pair, Keys, keyed, with_pair, HasDistinctKeys}
use Rattle.pp_value.specs.Levels.{keyed_is}
use Rattle.pp_value.specs.Table.{fits_word, add_table, index_table}
use Rattle.pp_value.specs.Proper.{IsProper, AreProper}
use Rattle.pp_value.proofs.Distinct.{by_test, distinct_pairs}
use Rattle.pp_value.proofs.Members.{Items, Held, Members, index_so}

-- the members of a proper row are proper
items_proper : {m : _} (row : Row_of-Value m) → AreProper row → Items IsProper (items-the_row-Value _ row)
items_proper end_of-Value h = tt
items_proper (more_of-Value x row) h = (h.0, items_proper row h.1)

-- so are the values beside keys
pairs_proper : {m : _} (keys : Keys) (row : Row_of-Value m) → AreProper row → Held IsProper (keyed keys row)
pairs_proper [] row h = tt
pairs_proper (k ∷ keys) end_of-Value h = tt
pairs_proper (k ∷ keys) (more_of-Value x row) h = (h.0, pairs_proper keys row h.1)

-- a list of proper values is proper
pub list_proper : (xs : List Value) → Items IsProper xs → IsProper (v.List xs)
unfolding block.hidden-the_row-Value-0 denote.Hole.Carrier.hidden
list_proper [] h = tt
list_proper (x ∷ xs) h = (h.0, list_proper xs h.1)

-- the row of a map with proper values is proper
each_proper : (xs : List Pair) → Held IsProper xs → AreProper (block.hidden-the_row-Value-1 xs)
unfolding block.shape-the_row-Value-1 block.hidden-the_row-Value-1 denote.Hole.Carrier.hidden
each_proper [] h = tt
each_proper (p ∷ xs) h = (h.0, each_proper xs h.1)

-- a map with distinct keys and proper values is proper
pub map_proper : (xs : List Pair) → HasDistinctKeys xs → Held IsProper xs → IsProper (v.Map xs)
map_proper xs distinct all = (subst HasDistinctKeys (sym (keyed_is xs)) distinct, each_proper xs all)

-- two lists of proper values make one
items_append : (xs ys : List Value) → Items IsProper xs → Items IsProper ys → Items IsProper (xs ++ ys)
items_append [] ys h k = k
items_append (x ∷ xs) ys h k = (h.0, items_append xs ys h.1 k)

-- proper values stay so when a key takes a proper one
pub with_proper : (key : List ℕ) (x : Value) (pairs : List Pair) → IsProper x → Held IsProper pairs → Held IsProper (with_pair key x pairs)
with_proper key x [] p h = (p, tt)
with_proper key x (q ∷ pairs) p h =
    by_test (bytes_eq q.0 key) (Held IsProper (with_pair key x (q ∷ pairs)))
    (λ e. subst (Held IsProper) (sym (ap (λ t. cond t ((q.0, x) ∷ pairs) (q ∷ with_pair key x pairs)) e)) (p, h.1))
    (λ e. subst (Held IsProper) (sym (ap (λ t. cond t ((q.0, x) ∷ pairs) (q ∷ with_pair key x pairs)) e)) (h.0, with_proper key x pairs p h.1))

-- and when several do, one after the other
pub with_all_proper : (pairs more : List Pair) → Held IsProper pairs → Held IsProper more → Held IsProper (with_pairs pairs more)
with_all_proper pairs [] h k = h
with_all_proper pairs (p ∷ more) h k = with_all_proper (with_pair p.0 p.1 pairs) more (with_proper p.0 p.1 pairs k.0 h) k.1

-- ---- sums

-- an equal result is proper
ok_proper : (x y : Value) → IsProper x → ◌≡◌ {A = Result Value Misfit} (Ok x) (Ok y) → IsProper y
ok_proper x y p h = let same : x ≡ y = cc in subst IsProper same p

-- a number that fits is proper
number_proper : (n : ℤ) (t : Bool) (x : Value) → ◌≡◌ {A = Result Value Misfit} (cond t (Ok (v.Int n)) (Err Range)) (Ok x) → IsProper x
number_proper n true x h = ok_proper (v.Int n) x tt h
number_proper n false x h = cc

-- a sum of proper values is proper
pub sum_proper : (a b x : Value) → IsProper a → IsProper b → add_table a b ≡ Ok x → IsProper x
sum_proper (v.Int m) (v.Int n) x p q h = number_proper (m +ℤ n) (fits_word (m +ℤ n)) x h
sum_proper (v.List' s row) (v.List' s' other) x p q h =
    let xs = items-the_row-Value _ row in
    let ys = items-the_row-Value _ other in
    ok_proper (v.List (xs ++ ys)) x (list_proper (xs ++ ys) (items_append xs ys (items_proper row p) (items_proper other q))) h
sum_proper (v.Map' keys row) (v.Map' others other) x p q h =
    let xs = keyed keys row in
    let ys = keyed others other in
    ok_proper (v.Map (with_pairs xs ys)) x (map_proper (with_pairs xs ys) (distinct_pairs xs ys p.0) (with_all_proper xs ys (pairs_proper keys row p.1) (pairs_proper others other q.1))) h
sum_proper _ _ x p q h = cc

-- ---- members

-- the members of a proper value are proper
members_of : (a : Value) → IsProper a → Members IsProper a
members_of v.Undef p = tt
members_of (v.Bool b) p = tt
members_of (v.Int n) p = tt
members_of (v.Str text) p = tt
members_of (v.List' s row) p = items_proper row p
members_of (v.Map' keys row) p = pairs_proper keys row p.1
members_of (v.Refer r) p = tt
members_of v.Opaque p = tt

-- so is what an index of a proper value gives
pub index_proper : (a key x : Value) → IsProper a → index_table a key ≡ Ok x → IsProper x
index_proper a key x p h = index_so IsProper tt a key x (members_of a p) h
