-- Attributes are put in order.
use Rattle.std.proofs.Common.{◌≡◌, ℕ, List, [], ◌∷◌, Option, Some, None, refl, ap, ◌∙◌}
use Rattle.std.specs.declared.cmp.Ordering.{Ordering}
use Rattle.std.specs.declared.cmp.Ordering.TheVariants.{Less, Equal, Greater}
use Rattle.std.specs.Ordering.{match_ordering, ordering_reverse}
use Rattle.std.specs.BTreeMap.{insert_entry}
use Rattle.std.specs.List.{AllByRecursion}
use Rattle.std.specs.List.Sorted.{IsStrictlySortedBy}
use Rattle.std.specs.Map.{keys_of}
use Rattle.std.proofs.lemmas.Cmp.{nat_list_cmp_total}
use Rattle.pp_value.specs.declared.value.Value.{Value}
use Rattle.pp_value.specs.Values.{Pair}
use Rattle.compiled_text.specs.declared.catalog.CompiledResource.{CompiledResource}
use Rattle.compiled_attributes.specs.Attributes.{byte_cmp, reading_of, value_read, added_to, with_attribute, with_all, with_added, attributes_of}

-- each name is behind this one
abbrev AreBehind : List ℕ → List Pair → Type 0
AreBehind k es = AllByRecursion (λ y. byte_cmp k y ≡ Less) (keys_of es)

-- the attributes are in the byte order of their names
abbrev IsInOrder : List Pair → Type 0
IsInOrder es = IsStrictlySortedBy byte_cmp (keys_of es)

-- two names compare the other way round in reverse
turned : (a b : List ℕ) (o : Ordering) → byte_cmp a b ≡ o → byte_cmp b a ≡ ordering_reverse o
turned a b o h = nat_list_cmp_total.antisymm b a ∙ ap ordering_reverse h

-- what is behind a name is behind a lesser one
farther : (a b : List ℕ) (es : List Pair) → byte_cmp a b ≡ Less → AreBehind b es → AreBehind a es
farther a b [] h k = tt
farther a b (e ∷ es) h k = (nat_list_cmp_total.trans a b e.0 h k.0, farther a b es h k.1)

-- so it is with one more put among them, where it is so further on
behind_at : (o : Ordering) (j k : List ℕ) (v : Value) (e : Pair) (es : List Pair) → byte_cmp j k ≡ Less → AreBehind j (e ∷ es) → AreBehind j (insert_entry byte_cmp es k v)
    → AreBehind j (match_ordering o ((k, v) ∷ e ∷ es) ((e.0, v) ∷ es) (e ∷ insert_entry byte_cmp es k v))
behind_at Less j k v e es h all later = (h, all)
behind_at Equal j k v e es h all later = all
behind_at Greater j k v e es h all later = (all.0, later)

-- so it is with one more put among them
still_behind : (j k : List ℕ) (v : Value) (es : List Pair) → byte_cmp j k ≡ Less → AreBehind j es → AreBehind j (insert_entry byte_cmp es k v)
still_behind j k v [] h all = (h, tt)
still_behind j k v (e ∷ es) h all = behind_at (byte_cmp k e.0) j k v e es h all (still_behind j k v es h all.1)

-- attributes with one more are in order, where they are further on
in_order_at : (o : Ordering) (k : List ℕ) (v : Value) (e : Pair) (es : List Pair) → byte_cmp k e.0 ≡ o → AreBehind e.0 es → IsInOrder es → IsInOrder (insert_entry byte_cmp es k v)
    → IsInOrder (match_ordering o ((k, v) ∷ e ∷ es) ((e.0, v) ∷ es) (e ∷ insert_entry byte_cmp es k v))
unfolding IsStrictlySortedBy
in_order_at Less k v e es h all sorted later = ((h, farther k e.0 es h all), (all, sorted))
in_order_at Equal k v e es h all sorted later = (all, sorted)
in_order_at Greater k v e es h all sorted later = (still_behind e.0 k v es (turned k e.0 Greater h) all, later)

-- one more that is put among them leaves them in order
put_in_order : (k : List ℕ) (v : Value) (es : List Pair) → IsInOrder es → IsInOrder (insert_entry byte_cmp es k v)
unfolding IsStrictlySortedBy
put_in_order k v [] h = (tt, tt)
put_in_order k v (e ∷ es) h = in_order_at (byte_cmp k e.0) k v e es refl h.0 h.1 (put_in_order k v es h.1)

-- so does what becomes of one, if it is kept
read_in_order : (name : List ℕ) (x : Option Value) (es : List Pair) → IsInOrder es → IsInOrder (with_attribute es name x)
read_in_order name None es h = h
read_in_order name (Some x) es h = put_in_order name x es h

-- so does what becomes of all
all_in_order : (becomes : List ℕ → Value → Option Value) (ps es : List Pair) → IsInOrder es → IsInOrder (with_all becomes es ps)
all_in_order becomes [] es h = h
all_in_order becomes (p ∷ ps) es h = all_in_order becomes ps (with_attribute es p.0 (becomes p.0 p.1)) (read_in_order p.0 (becomes p.0 p.1) es h)

-- and one that is added
added_in_order : (o : Option Pair) (es : List Pair) → IsInOrder es → IsInOrder (with_added es o)
added_in_order None es h = h
added_in_order (Some p) es h = put_in_order p.0 p.1 es h

-- none are in order
none_in_order : IsInOrder []
unfolding IsStrictlySortedBy
none_in_order = tt

-- the attributes of a resource are in order
pub in_order : (resources : List CompiledResource) (r : CompiledResource) → IsInOrder (attributes_of resources r)
in_order resources r =
    let becomes = value_read (reading_of r) r.parameters in
    added_in_order (added_to resources r (reading_of r)) (with_all becomes [] r.parameters) (all_in_order becomes r.parameters [] none_in_order)
