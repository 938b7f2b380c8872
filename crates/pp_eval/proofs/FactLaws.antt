-- Facts of arrays and objects.
use Rattle.std.proofs.Common.{◌≡◌, ℕ, Bool, true, false, cond, List, [], ◌∷◌, Some, None, Result, Ok, Err, OnOk, Less, is_eq, refl, ap, sym, ◌∙◌, subst, Vec, BTreeMap, String, Global, string_bytes, string_cmp, bytes_eq}
use Rattle.std.specs.List.{AllByRecursion}
use Rattle.std.specs.List.Sorted.{IsStrictlySortedBy}
use Rattle.std.specs.Map.{keys_of}
use Rattle.std.proofs.lemmas.Map.Text.{is_eq-slice_cmp}
use Rattle.std.proofs.lemmas.Slice.Eq.{bytes_eq-Decides}
use Rattle.serde_json.specs.View.{view, items_view, members_view}
use Rattle.serde_json.specs.declared.value.Value as json
use Rattle.serde_json.proofs.Views.{Entry, view-Array, view-Object}
use Rattle.pp_value.specs.declared.value.Value.TheVariants as v
use Rattle.pp_value.specs.Keys.{with_pairs}
use Rattle.pp_value.specs.Values.{Pair, value_at, with_pair, HasDistinctKeys}
use Rattle.pp_value.specs.Proper.{IsProper}
use Rattle.pp_value.specs.declared.value.Value.{Value}
use Rattle.rh_base.specs.declared.text.NoMemory.{NoMemory}
use Rattle.pp_eval.specs.Facts.{fact_of, facts_of, pairs_of}

-- a JSON array is a list of its items' facts
pub of_array : (items : Vec json.Value Global) → fact_of (view (json.Array items)) ≡ v.List (facts_of (items_view items.items))
of_array items = ap fact_of (view-Array items)

-- a JSON object is a map of its members' facts
pub of_object : (members : BTreeMap (String Global) json.Value) → fact_of (view (json.Object members)) ≡ v.Map (pairs_of (members_view members.entries))
of_object members = ap fact_of (view-Object members)

-- no later key is an earlier one
none_after : (k : String Global) (es : List Entry) → AllByRecursion (λ y. string_cmp k y ≡ Less) (keys_of es) → value_at (string_bytes k) (pairs_of (members_view es)) ≡ None
none_after k [] h = refl
none_after k (e ∷ es) h =
    let differ : bytes_eq (string_bytes k) (string_bytes e.0) ≡ false = sym (is_eq-slice_cmp (string_bytes k) (string_bytes e.0)) ∙ ap is_eq h.0 in
    let other : bytes_eq (string_bytes e.0) (string_bytes k) ≡ false = turned (string_bytes k) (string_bytes e.0) (bytes_eq (string_bytes e.0) (string_bytes k)) refl differ in
    ap (λ t. cond t (Some (fact_of (view e.1))) (value_at (string_bytes k) (pairs_of (members_view es)))) other ∙ none_after k es h.1
  where
    turned : (a b : List ℕ) (t : Bool) → bytes_eq b a ≡ t → bytes_eq a b ≡ false → t ≡ false
    turned a b true e differ = let same : b ≡ a = (bytes_eq-Decides b a).0 e in let clash : true ≡ false = sym ((bytes_eq-Decides a b).1 (sym same)) ∙ differ in cc
    turned a b false e differ = refl

-- members in the byte order of their keys are pairs with distinct keys
pub distinct : (es : List Entry) → IsStrictlySortedBy string_cmp (keys_of es) → HasDistinctKeys (pairs_of (members_view es))
unfolding IsStrictlySortedBy
distinct [] h = tt
distinct (e ∷ es) h = (none_after e.0 es h.0, distinct es h.1)

-- the pairs that were put are those of the object
pub read_all : (xs : List Pair) (left es : List Entry) → ((pairs : List Pair) → HasDistinctKeys pairs → with_pairs [] pairs ≡ pairs) → left ≡ [] → with_pairs xs (pairs_of (members_view left)) ≡ with_pairs [] (pairs_of (members_view es))
    → IsStrictlySortedBy string_cmp (keys_of es) → xs ≡ pairs_of (members_view es)
read_all xs left es kept ended same ordered =
    (λ i. with_pairs xs (pairs_of (members_view (sym ended i)))) ∙ (same ∙ kept (pairs_of (members_view es)) (distinct es ordered))

-- one more pair whose value is proper
pub put_proper : ((pairs more : List Pair) → AllByRecursion (λ p. IsProper p.1) pairs → AllByRecursion (λ p. IsProper p.1) more → AllByRecursion (λ p. IsProper p.1) (with_pairs pairs more))
    → (old new : List Pair) (name : List ℕ) (x : Value) (r : Result (Unit {0}) NoMemory) → IsProper x → OnOk r (new ≡ with_pair name x old) → OnOk r (AllByRecursion (λ p. IsProper p.1) old → AllByRecursion (λ p. IsProper p.1) new)
put_proper law old new name x (Ok done) h e = λ before. subst (λ (ps : List Pair). AllByRecursion (λ p. IsProper p.1) ps) (sym e) (law old ((name, x) ∷ []) before (h, tt))
put_proper law old new name x (Err m) h e = tt
