-- Values: those of arrays and objects, and those in which no object says its type.
use Rattle.std.proofs.Common.{◌≡◌, ℕ, Bool, true, false, cond, List, [], ◌∷◌, Option, Some, None, Result, Ok, Err, IfOk, OnOk, Less, is_eq, refl, ap, ap₂, sym, ◌∙◌, subst, String, Global, string_bytes, string_cmp, bytes_eq}
use Rattle.std.specs.List.{AllByRecursion}
use Rattle.std.specs.List.Sorted.{IsStrictlySortedBy}
use Rattle.std.specs.Map.{keys_of}
use Rattle.std.proofs.lemmas.Map.Text.{is_eq-slice_cmp}
use Rattle.std.proofs.lemmas.Slice.Eq.{bytes_eq-Decides}
use Rattle.serde_json.specs.Data.{Data, null, boolean, number, string, array, object, Items, no_items, item, Members, no_members, member}
use Rattle.serde_json.specs.View.{view, members_view}
use Rattle.serde_json.proofs.Views.{Entry}
use Rattle.rh_base.specs.declared.text.NoMemory.{NoMemory}
use Rattle.pp_value.specs.declared.value.Value.{Value}
use Rattle.pp_value.specs.declared.value.Value.TheVariants as v
use Rattle.pp_value.specs.Keys.{with_pairs}
use Rattle.pp_value.specs.Values.{Pair, value_at, with_pair, HasDistinctKeys}
use Rattle.pp_value.specs.Proper.{IsProper}
use Rattle.pp_eval.specs.Facts as facts
use Rattle.compiled_text.specs.Values.{object_value, value_of, values_of, pairs_of, SaysNoType, SayNoType, HaveNoType}

-- ---- as facts are read

mutual
  -- where no object says its type, the value is as of a fact
  pub untyped : (d : Data) → SaysNoType d → value_of d ≡ facts.fact_of d
  untyped null h = refl
  untyped (boolean b) h = refl
  untyped (number n) h = refl
  untyped (string text) h = refl
  untyped (array items) h = ap v.List (untyped_items items h)
  untyped (object members) h = ap₂ object_value h.0 (untyped_members members h.1)

  -- so are those of an array
  untyped_items : (items : Items) → SayNoType items → values_of items ≡ facts.facts_of items
  untyped_items no_items h = refl
  untyped_items (item d items) h = ap₂ (λ x xs. x ∷ xs) (untyped d h.0) (untyped_items items h.1)

  -- and those of an object
  untyped_members : (members : Members) → HaveNoType members → pairs_of members ≡ facts.pairs_of members
  untyped_members no_members h = refl
  untyped_members (member key d members) h = ap₂ (λ x xs. (key, x) ∷ xs) (untyped d h.0) (untyped_members members h.1)

-- ---- keys that differ

-- a key before all of these isn't among them
later_keys : (k : String Global) (es : List Entry) → AllByRecursion (λ y. string_cmp k y ≡ Less) (keys_of es) → value_at (string_bytes k) (pairs_of (members_view es)) ≡ None
later_keys k [] h = refl
later_keys k (e ∷ es) h =
    ap (λ t. cond t (Some (value_of (view e.1))) (value_at (string_bytes k) (pairs_of (members_view es)))) (at (bytes_eq (string_bytes e.0) (string_bytes k)) refl) ∙ later_keys k es h.1
  where
    less : bytes_eq (string_bytes k) (string_bytes e.0) ≡ false
    less = sym (is_eq-slice_cmp (string_bytes k) (string_bytes e.0)) ∙ ap is_eq h.0

    at : (t : Bool) → bytes_eq (string_bytes e.0) (string_bytes k) ≡ t → t ≡ false
    at true same = sym ((bytes_eq-Decides (string_bytes k) (string_bytes e.0)).1 (sym ((bytes_eq-Decides (string_bytes e.0) (string_bytes k)).0 same))) ∙ less
    at false same = refl

-- members in the byte order of their keys are pairs with distinct keys
keys_differ : (es : List Entry) → IsStrictlySortedBy string_cmp (keys_of es) → HasDistinctKeys (pairs_of (members_view es))
unfolding IsStrictlySortedBy
keys_differ [] h = tt
keys_differ (e ∷ es) h = (later_keys e.0 es h.0, keys_differ es h.1)

-- the pairs that were put are those of the object
pub all_put : (pairs : List Pair) (left es : List Entry) → ((ps : List Pair) → HasDistinctKeys ps → with_pairs [] ps ≡ ps) → left ≡ [] → with_pairs pairs (pairs_of (members_view left)) ≡ with_pairs [] (pairs_of (members_view es))
    → IsStrictlySortedBy string_cmp (keys_of es) → pairs ≡ pairs_of (members_view es)
all_put pairs left es kept none same sorted =
    ap (λ l. with_pairs pairs (pairs_of (members_view l))) (sym none) ∙ (same ∙ kept (pairs_of (members_view es)) (keys_differ es sorted))

-- values stay proper when a key takes a proper one
pub put_stays : ((ps more : List Pair) → AllByRecursion (λ p. IsProper p.1) ps → AllByRecursion (λ p. IsProper p.1) more → AllByRecursion (λ p. IsProper p.1) (with_pairs ps more))
    → (old new : List Pair) (name : List ℕ) (x : Value) (r : Result (Unit {0}) NoMemory) → IsProper x → OnOk r (new ≡ with_pair name x old) → OnOk r (AllByRecursion (λ p. IsProper p.1) old → AllByRecursion (λ p. IsProper p.1) new)
put_stays law old new name x (Ok done) h is = λ before. subst (λ (ps : List Pair). AllByRecursion (λ p. IsProper p.1) ps) (sym is) (law old ((name, x) ∷ []) before (h, tt))
put_stays law old new name x (Err m) h is = tt

-- ---- a value of a key

-- the value of a key is proper where all are
value_proper : (key : List ℕ) (pairs : List Pair) (x : Value) → AllByRecursion (λ p. IsProper p.1) pairs → value_at key pairs ≡ Some x → IsProper x
value_proper key [] x h is = absurd (none x is)
  where
    none : (x : Value) → ◌≡◌ {A = Option Value} None (Some x) → ⊥
    none x e = cc
value_proper key (p ∷ pairs) x h is = at (value_proper key pairs x h.1) (bytes_eq p.0 key) is
  where
    at : (value_at key pairs ≡ Some x → IsProper x) → (t : Bool) → cond t (Some p.1) (value_at key pairs) ≡ Some x → IsProper x
    at later true e = let same : p.1 ≡ x = cc in subst IsProper same h.0
    at later false e = later e

-- a copy of a value that is found
pub copy_proper : (key : List ℕ) (pairs : List Pair) (x : Value) (r : Result Value NoMemory) → AllByRecursion (λ p. IsProper p.1) pairs → Some x ≡ value_at key pairs → IfOk r (λ y. y ≡ x) → IfOk r IsProper
copy_proper key pairs x (Ok y) h is same = subst IsProper (sym same) (value_proper key pairs x h (sym is))
copy_proper key pairs x (Err m) h is same = tt
