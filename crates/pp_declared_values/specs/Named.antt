-- Names that stand, and attributes that are given.
use Rattle.std.specs.Prelude.{◌≡◌, ℕ, Bool, true, is_some, if◌then◌else◌, List, ◌∷◌, ◌++◌, map, None, Result, Ok, Err}
use Rattle.rh_base.specs.declared.fault.Fault.{Fault}
use Rattle.rh_base.specs.declared.fault.Refusal.{Refusal}
use Rattle.pp_syntax.specs.declared.tree.Attr.{Attr}
use Rattle.pp_value.specs.declared.value.Value.{Value}
use Rattle.pp_value.specs.Values.{Pair, value_at}
use Rattle.pp_eval.specs.Evaluating.{◌>>=◌, Refuses}
use Rattle.pp_eval.specs.Scoping.{Scoped}
use Rattle.catalog_semantics.specs.Attributes.{references_in, is_metaparameter, attributes_behind}

abbrev pub keys_of : {X : Type 0} → List (List ℕ × X) → List (List ℕ)
keys_of pairs = map (λ p. p.0) pairs

-- attributes, and those that are given behind them
abbrev pub given_behind : List Pair → Result (List Pair) Refusal → Result (List Pair) Refusal
given_behind given found = do
  more ← found
  Ok (given ++ more)

-- A metaparameter's value is references.
abbrev pub may_be_given : Attr → Value → Bool
may_be_given a x = if is_metaparameter a.name then is_some (references_in x) else true

-- each given attribute has a name that stands
abbrev pub AllStand : List Pair → List (List ℕ × Bool) → Type 0
AllStand given names = (name : List ℕ) → value_at name names ≡ None → value_at name given ≡ None

-- the attributes behind names that stand, and behind those that are given
abbrev pub attributes_left : Scoped → List (List ℕ × Bool) → List Pair → List Attr → Result (List Pair) Refusal
attributes_left s names given attrs = given_behind given (attributes_behind s (keys_of names) attrs)

-- One attribute is done, and those behind it are left; or the refusal is that of all of them.
abbrev pub GoesOn : Scoped → Attr → List (List ℕ × Bool) → List Pair → List (List ℕ × Bool) → List Pair → Result (Unit {0}) Fault → Type 0
GoesOn s a names given names_now given_now (Ok done) = (attrs : List Attr)
    → attributes_left s names given (a ∷ attrs) ≡ attributes_left s names_now given_now attrs
GoesOn s a names given names_now given_now (Err e) = (attrs : List Attr) → Refuses (attributes_left s names given (a ∷ attrs)) e
