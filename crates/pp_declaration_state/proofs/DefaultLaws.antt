-- The attributes of defaults, one after the other.
use Rattle.std.proofs.Common.{◌≡◌, ℕ, ◌+◌, ◌<◌, Bool, true, false, cond, List, [], ◌∷◌, ◌++◌, refl, ap, sym, ◌∙◌, subst, append_assoc, append-nil}
use Rattle.std.specs.Prelude.{map, Option, Some, None}
use Rattle.pp_value.specs.declared.value.Value.{Value}
use Rattle.pp_value.specs.Keys.{value_at, with_pair, with_pairs, HasDistinctKeys}
use Rattle.pp_value.proofs.Distinct.{made_again, same_key}
use Rattle.pp_value.specs.Values.{Pair}
use Rattle.std.specs.Str.{bytes_eq}
use Rattle.catalog_semantics.specs.declared.state.Default.{Default}
use Rattle.catalog_semantics.specs.States.{defaults_of}
use Rattle.pp_declaration_state.specs.Defaulting.{with_those_of, noted, AreApart}

-- pairs in two parts are put one part after the other
pub put_behind : (pairs first more : List Pair) → with_pairs pairs (first ++ more) ≡ with_pairs (with_pairs pairs first) more
put_behind pairs [] more = refl
put_behind pairs (p ∷ first) more = put_behind (with_pair p.0 p.1 pairs) first more

-- one more default is put before the others
pub next_default : (kind : List ℕ) (d : Default) (defaults : List Default) (pairs : List Pair) → with_pairs pairs (defaults_of kind (d ∷ defaults)) ≡ with_pairs (with_those_of kind d pairs) (defaults_of kind defaults)
next_default kind d defaults pairs = by (bytes_eq d.kind kind)
  where
    by : (t : Bool) → with_pairs pairs (cond t (d.attributes ++ defaults_of kind defaults) (defaults_of kind defaults)) ≡ with_pairs (cond t (with_pairs pairs d.attributes) pairs) (defaults_of kind defaults)
    by true = put_behind pairs d.attributes (defaults_of kind defaults)
    by false = refl

-- attributes whose names are distinct are themselves, put one after the other
pub kept : (kind : List ℕ) (defaults : List Default) → ((k : List ℕ) → HasDistinctKeys (defaults_of k defaults)) → with_pairs [] (defaults_of kind defaults) ≡ defaults_of kind defaults
kept kind defaults h = made_again (defaults_of kind defaults) (h kind)

-- ---- one more default

-- defaults with one more are those here and those further on, and it
last_head : (attributes whole front more : List Pair) (t : Bool) → whole ≡ front ++ more → cond t (attributes ++ whole) whole ≡ cond t (attributes ++ front) front ++ more
last_head attributes whole front more true h = ap (λ ps. attributes ++ ps) h ∙ sym (append_assoc attributes front more)
last_head attributes whole front more false h = h

-- the attributes of one more default go last, if it is of the type
defaults_last : (kind : List ℕ) (defaults : List Default) (d : Default) → defaults_of kind (defaults ++ d ∷ []) ≡ defaults_of kind defaults ++ cond (bytes_eq d.kind kind) (d.attributes ++ []) []
defaults_last kind [] d = refl
defaults_last kind (c ∷ defaults) d =
    last_head c.attributes (defaults_of kind (defaults ++ d ∷ [])) (defaults_of kind defaults) (cond (bytes_eq d.kind kind) (d.attributes ++ []) []) (bytes_eq c.kind kind) (defaults_last kind defaults d)

-- with one more default names stay apart, whether it is of the type or not
apart_by : (defaults : List Default) (d : Default) (kind : List ℕ) → HasDistinctKeys (defaults_of kind defaults) → HasDistinctKeys (defaults_of d.kind defaults ++ d.attributes) → (t : Bool) → bytes_eq d.kind kind ≡ t
    → HasDistinctKeys (defaults_of kind defaults ++ cond t (d.attributes ++ []) [])
apart_by defaults d kind h new true e =
    subst HasDistinctKeys (ap (λ k. defaults_of k defaults ++ d.attributes) (same_key d.kind kind e) ∙ ap (λ ps. defaults_of kind defaults ++ ps) (sym (append-nil d.attributes))) new
apart_by defaults d kind h new false e = subst HasDistinctKeys (sym (append-nil (defaults_of kind defaults))) h

-- Defaults stay apart with one more, whose names are new for its type.
pub apart_still : (defaults : List Default) (d : Default) → AreApart defaults → HasDistinctKeys (defaults_of d.kind defaults ++ d.attributes) → AreApart (defaults ++ d ∷ [])
apart_still defaults d h new kind = subst HasDistinctKeys (sym (defaults_last kind defaults d)) (apart_by defaults d kind (h kind) new (bytes_eq d.kind kind) refl)

-- ---- names

-- a name that is missing here and further on isn't noted
absent_head : (t : Bool) (x : Value) (o : Option Value) (n : Option Bool) → (o ≡ None → n ≡ None) → cond t (Some x) o ≡ None → cond t (Some true) n ≡ None
absent_head true x o n f h = cc
absent_head false x o n f h = f h

-- a name that is missing isn't noted
absent : (key : List ℕ) (pairs : List Pair) → value_at key pairs ≡ None → value_at key (map noted pairs) ≡ None
absent key [] h = refl
absent key (p ∷ pairs) h = absent_head (bytes_eq p.0 key) p.1 (value_at key pairs) (value_at key (map noted pairs)) (absent key pairs) h

-- names of distinct attributes are noted distinct
names_distinct : (pairs : List Pair) → HasDistinctKeys pairs → HasDistinctKeys (map noted pairs)
names_distinct [] h = tt
names_distinct (p ∷ pairs) h = (absent p.0 pairs h.0, names_distinct pairs h.1)

-- names of which no two are equal are themselves, noted one after the other
pub noted_once : (pairs : List Pair) → HasDistinctKeys pairs → with_pairs [] (map noted pairs) ≡ map noted pairs
noted_once pairs h = made_again (map noted pairs) (names_distinct pairs h)
