-- Look-ups among bindings.
use Rattle.std.proofs.Common.{◌≡◌, ℕ, Bool, true, false, cond, List, [], ◌∷◌, ◌++◌, Option, Some, None, refl, ap, bytes_eq, codes}
use Rattle.std.proofs.lemmas.Slice.Eq.{bytes_eq-Decides}
use Rattle.pp_value.specs.declared.value.Value.{Value}
use Rattle.pp_value.specs.Values.{Pair, value_at}
use Rattle.std.specs.Prelude.{is_none, ◌&&◌}
use Rattle.pp_eval.specs.Scoping.{with_facts, top_of, pairs_in, is_variable}

-- ---- one more binding

-- the last binding is none of another name
last_other : (name other : List ℕ) (x : Value) (t : Bool) → bytes_eq name other ≡ t → (name ≡ other → ⊥) → cond t (Some x) None ≡ None
last_other name other x true e differ = absurd (differ ((bytes_eq-Decides name other).0 e))
last_other name other x false e differ = refl

-- a new binding changes no other name's value
pub others_stay : (bindings : List Pair) (name other : List ℕ) (x : Value) → (name ≡ other → ⊥) → value_at other (bindings ++ (name, x) ∷ []) ≡ value_at other bindings
others_stay [] name other x differ = last_other name other x (bytes_eq name other) refl differ
others_stay (p ∷ bindings) name other x differ = ap (cond (bytes_eq p.0 other) (Some p.1)) (others_stay bindings name other x differ)

-- what is found behind a binding of another name is found behind one more
later_found : (t : Bool) (y x : Value) (rest whole : Option Value) → (rest ≡ None → whole ≡ Some x) → cond t (Some y) rest ≡ None → cond t (Some y) whole ≡ Some x
later_found true y x rest whole f h = cc
later_found false y x rest whole f h = f h

-- a new binding of a name that had none is found
pub is_found : (bindings : List Pair) (name : List ℕ) (x : Value) → value_at name bindings ≡ None → value_at name (bindings ++ (name, x) ∷ []) ≡ Some x
is_found [] name x h = ap (λ t. cond t (Some x) None) ((bytes_eq-Decides name name).1 refl)
is_found (p ∷ bindings) name x h = later_found (bytes_eq p.0 name) p.1 x (value_at name bindings) (value_at name (bindings ++ (name, x) ∷ [])) (is_found bindings name x) h

-- ---- the facts at the top

-- what a name has it keeps when bindings go behind
found_before : (bindings : List Pair) (name : List ℕ) (x : Value) (more : List Pair) → value_at name bindings ≡ Some x → value_at name (bindings ++ more) ≡ Some x
found_before [] name x more h = cc
found_before (p ∷ bindings) name x more h = by_test (bytes_eq p.0 name) (found_before bindings name x more) h
  where
    by_test : (t : Bool) → (value_at name bindings ≡ Some x → value_at name (bindings ++ more) ≡ Some x) → cond t (Some p.1) (value_at name bindings) ≡ Some x → cond t (Some p.1) (value_at name (bindings ++ more)) ≡ Some x
    by_test true f k = k
    by_test false f k = f k

-- what a name has it keeps when facts are bound
facts_kept : (name : List ℕ) (x : Value) (bindings pairs : List Pair) → value_at name bindings ≡ Some x → value_at name (with_facts bindings pairs) ≡ Some x
facts_kept name x bindings [] h = h
facts_kept name x bindings (p ∷ pairs) h =
    by_test (is_variable p.0 && is_none (value_at p.0 bindings)) (facts_kept name x (bindings ++ p ∷ []) pairs (found_before bindings name x (p ∷ []) h)) (facts_kept name x bindings pairs h)
  where
    by_test : (t : Bool) → value_at name (with_facts (bindings ++ p ∷ []) pairs) ≡ Some x → value_at name (with_facts bindings pairs) ≡ Some x
        → value_at name (cond t (with_facts (bindings ++ p ∷ []) pairs) (with_facts bindings pairs)) ≡ Some x
    by_test true f k = f
    by_test false f k = k

-- at the top `facts` is the whole map
pub facts_there : (facts : Value) → value_at (codes "facts") (top_of facts) ≡ Some facts
facts_there facts = facts_kept (codes "facts") facts ((codes "facts", facts) ∷ []) (pairs_in facts) (is_found [] (codes "facts") facts refl)
