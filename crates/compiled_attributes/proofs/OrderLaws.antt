-- Pairs in the byte order of their keys.
use Rattle.std.proofs.Common.{◌≡◌, ℕ, Bool, true, false, cond, List, [], ◌∷◌, Some, None, refl, ap, sym, ◌∙◌, bytes_eq}
use Rattle.std.specs.declared.cmp.Ordering.TheVariants.{Less}
use Rattle.std.specs.Ordering.{is_eq}
use Rattle.std.specs.List.{AllByRecursion}
use Rattle.std.specs.List.Sorted.{IsStrictlySortedBy}
use Rattle.std.specs.Map.{keys_of}
use Rattle.std.proofs.lemmas.Map.Text.{is_eq-slice_cmp}
use Rattle.std.proofs.lemmas.Slice.Eq.{bytes_eq-Decides}
use Rattle.pp_value.specs.Keys.{value_at, with_pair, with_pairs, HasDistinctKeys}
use Rattle.compiled_attributes.specs.Attributes.{byte_cmp}

module _ {X : Type 0} where
  -- a key below all of these isn't among them
  none_below : (k : List ℕ) (es : List (List ℕ × X)) → AllByRecursion (λ y. byte_cmp k y ≡ Less) (keys_of es) → value_at k es ≡ None
  none_below k [] h = refl
  none_below k (e ∷ es) h = ap (λ t. cond t (Some e.1) (value_at k es)) (at (bytes_eq e.0 k) refl) ∙ none_below k es h.1
    where
      less : bytes_eq k e.0 ≡ false
      less = sym (is_eq-slice_cmp k e.0) ∙ ap is_eq h.0

      at : (t : Bool) → bytes_eq e.0 k ≡ t → t ≡ false
      at true same = sym ((bytes_eq-Decides k e.0).1 (sym ((bytes_eq-Decides e.0 k).0 same))) ∙ less
      at false same = refl

  -- keys in order differ
  pub distinct_in_order : (es : List (List ℕ × X)) → IsStrictlySortedBy byte_cmp (keys_of es) → HasDistinctKeys es
  unfolding IsStrictlySortedBy
  distinct_in_order [] h = tt
  distinct_in_order (e ∷ es) h = (none_below e.0 es h.0, distinct_in_order es h.1)

  -- one more pair is put
  pub next_put : (pairs new whole : List (List ℕ × X)) (k : List ℕ) (x : X) (old rest : List (List ℕ × X)) → old ≡ (k, x) ∷ rest → with_pairs pairs old ≡ whole → new ≡ with_pair k x pairs → with_pairs new rest ≡ whole
  next_put pairs new whole k x old rest next so_far is = ap (λ ps. with_pairs ps rest) is ∙ (ap (with_pairs pairs) (sym next) ∙ so_far)

  -- all are put, and stand as they stood
  pub all_put : (pairs es old : List (List ℕ × X)) → ((ps : List (List ℕ × X)) → HasDistinctKeys ps → with_pairs [] ps ≡ ps) → old ≡ [] → with_pairs pairs old ≡ with_pairs [] es → IsStrictlySortedBy byte_cmp (keys_of es) → pairs ≡ es
  all_put pairs es old kept none so_far sorted = ap (with_pairs pairs) (sym none) ∙ (so_far ∙ kept es (distinct_in_order es sorted))
