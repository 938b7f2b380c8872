-- The parents of a class, one above the other.
use Rattle.std.proofs.Common.{◌≡◌, arith, add-one, ℕ, zero, suc, ◌+◌, ◌-◌, ◌<◌, Bool, true, false, cond, List, [], ◌∷◌, ◌++◌, length, refl, sym, ap, ◌∙◌, append_assoc, append-nil}
use Rattle.std.specs.Prelude.{Option, Some, None, Result, Ok, Err}
use Rattle.std.proofs.Math.Nat.{suc-sub-suc, sub-zero}
use Rattle.rh_base.specs.declared.fault.Refusal.{Refusal}
use Rattle.pp_eval.specs.Evaluating.{◌>>=◌}
use Rattle.catalog_semantics.specs.declared.state.State.{State}
use Rattle.catalog_semantics.specs.Sites.{Definition, Site}
use Rattle.catalog_semantics.specs.States.{is_declared}
use Rattle.catalog_semantics.specs.Declaring.{class_ref, class_named, parents_by, line_down_to, parents_of}
use Rattle.pp_declared_bodies.specs.Parents.{next_by, next_parent, and_above, nearest_first, turned, with_front}

module _ (site : Site) (s : State) where
  -- ---- the topmost first

  -- the parents of a class are those above it, turned round
  by_line : (line : Definition → Result (List Definition) Refusal) (above : Definition → Result (List Definition) Refusal)
      → ((p : Definition) → line p ≡ turned (above p >>= λ more. Ok (p ∷ more)))
      → (at : ℕ) (parent : Option (List ℕ)) → parents_by line site s at parent ≡ turned (next_by site s at parent >>= and_above above)
  by_line line above h at None = refl
  by_line line above h at (Some parent) = by (is_declared (class_ref parent) s) (class_named site at parent)
    where
      by : (t : Bool) (r : Result Definition Refusal)
          → cond t (Ok []) (r >>= line) ≡ turned (cond t (Ok None) (r >>= λ d. Ok (Some d)) >>= and_above above)
      by true r = refl
      by false (Ok d) = h d
      by false (Err e) = refl

  -- a class behind its parents is in front of them, turned round
  last_joined : (p : Definition) (r : Result (List Definition) Refusal) → (turned r >>= λ parents. Ok (parents ++ p ∷ [])) ≡ turned (r >>= λ more. Ok (p ∷ more))
  last_joined p (Ok more) = refl
  last_joined p (Err e) = refl

  -- the line down to a class is the class and those above it, turned round
  line_is : (n : ℕ) (p : Definition) → line_down_to n site s p ≡ turned (nearest_first n site s p >>= λ more. Ok (p ∷ more))
  line_is zero p = refl
  line_is (suc n) p =
      ap (λ (r : Result (List Definition) Refusal). r >>= λ parents. Ok (parents ++ p ∷ [])) (by_line (line_down_to n site s) (nearest_first n site s) (line_is n) p.at p.parent)
      ∙ last_joined p (nearest_first (suc n) site s p)

  -- the parents of a class are the nearest first, turned round
  pub from_the_top : (d : Definition) → parents_of site s d ≡ turned (nearest_first (length site.classes + 1) site s d)
  from_the_top d =
      by_line (line_down_to (length site.classes) site s) (nearest_first (length site.classes) site s) (line_is (length site.classes)) d.at d.parent
      ∙ ap (λ n. turned (nearest_first n site s d)) (sym (add-one (length site.classes)))

  -- ---- one more

  -- one more in front is one less to find
  front_by : (front : List Definition) (p : Definition) (r : Result (List Definition) Refusal) → with_front front (r >>= λ more. Ok (p ∷ more)) ≡ with_front (front ++ p ∷ []) r
  front_by front p (Ok more) = ap (λ (ds : List Definition). Ok ds) (sym (append_assoc front (p ∷ []) more))
  front_by front p (Err e) = refl

  -- nothing is below 0
  never : 0 < 0 → ⊥
  never e = omega arith

  -- where there is a parent, those above it are left
  pub goes_up : (front : List Definition) (n : ℕ) (d p : Definition) → 0 < n → next_parent site s d ≡ Ok (Some p)
      → with_front front (nearest_first n site s d) ≡ with_front (front ++ p ∷ []) (nearest_first (n - 1) site s p)
  goes_up front zero d p h k = absurd (never h)
  goes_up front (suc n) d p h k =
      ap (λ (r : Result (Option Definition) Refusal). with_front front (r >>= and_above (nearest_first n site s))) k
      ∙ (front_by front p (nearest_first n site s p)
      ∙ ap (λ m. with_front (front ++ p ∷ []) (nearest_first m site s p)) (sym (suc-sub-suc n 0 ∙ sub-zero n)))

  -- where there is none, all are found
  pub ends_here : (front : List Definition) (n : ℕ) (d : Definition) → 0 < n → next_parent site s d ≡ Ok None → with_front front (nearest_first n site s d) ≡ Ok front
  ends_here front zero d h k = absurd (never h)
  ends_here front (suc n) d h k =
      ap (λ (r : Result (Option Definition) Refusal). with_front front (r >>= and_above (nearest_first n site s))) k ∙ ap (λ (ds : List Definition). Ok ds) (append-nil front)

  -- where it is refused, all are
  pub is_refused : (front : List Definition) (n : ℕ) (d : Definition) (e : Refusal) → 0 < n → next_parent site s d ≡ Err e → with_front front (nearest_first n site s d) ≡ Err e
  is_refused front zero d e h k = absurd (never h)
  is_refused front (suc n) d e h k = ap (λ (r : Result (Option Definition) Refusal). with_front front (r >>= and_above (nearest_first n site s))) k

  -- the first of them
  counted_up : (n : ℕ) (d : Definition) → nearest_first (n + 1) site s d ≡ (next_parent site s d >>= and_above (nearest_first n site s))
  counted_up n d = ap (λ m. nearest_first m site s d) (add-one n)

  -- the first is in front of the others
  first_by : (p : Definition) (r : Result (List Definition) Refusal) → (r >>= λ more. Ok (p ∷ more)) ≡ with_front (p ∷ []) r
  first_by p (Ok more) = refl
  first_by p (Err e) = refl

  -- the first parent is in front of those above it
  pub first_up : (n : ℕ) (d p : Definition) → next_parent site s d ≡ Ok (Some p) → nearest_first (n + 1) site s d ≡ with_front (p ∷ []) (nearest_first n site s p)
  first_up n d p k = counted_up n d ∙ (ap (λ (r : Result (Option Definition) Refusal). r >>= and_above (nearest_first n site s)) k ∙ first_by p (nearest_first n site s p))

  -- where there is none, there are none above
  pub none_up : (n : ℕ) (d : Definition) → next_parent site s d ≡ Ok None → nearest_first (n + 1) site s d ≡ Ok []
  none_up n d k = counted_up n d ∙ ap (λ (r : Result (Option Definition) Refusal). r >>= and_above (nearest_first n site s)) k

  -- where the first is refused, all are
  pub refused_up : (n : ℕ) (d : Definition) (e : Refusal) → next_parent site s d ≡ Err e → nearest_first (n + 1) site s d ≡ Err e
  refused_up n d e k = counted_up n d ∙ ap (λ (r : Result (Option Definition) Refusal). r >>= and_above (nearest_first n site s)) k

  -- with no step left nothing is looked for
  pub no_more : (front : List Definition) (d : Definition) → with_front front (nearest_first 0 site s d) ≡ Ok front
  no_more front d = ap (λ (ds : List Definition). Ok ds) (append-nil front)
