-- Folders with more segments come ahead of those with fewer, and of equally many in their order.
use Rattle.std.proofs.Common.{◌≡◌, ℕ, zero, suc, ◌<◌, ◌≤◌, ◌==◌, Bool, true, false, true≢false, cond, List, [], ◌∷◌, ◌++◌, length, refl, sym, ap, subst, ◌∙◌, arith, eqb-true, eq-eqb, leb-true, append-nil}
use Rattle.std.specs.Prelude.{nat_le}
use Rattle.std.specs.List.{AllByRecursion}
use Rattle.std.proofs.Math.Nat.{le-max_left, le-max_right}
use Rattle.std.proofs.lemmas.Bool.{ne_eqb, leb-false}
use Rattle.fs_semantics.specs.FileTree.{Path}
use Rattle.model_semantics.specs.Words.{deepest, from_depth, deepest_first}
use Rattle.model_laws.specs.Folders.{AreFalling, of_length}

-- ---- of one length

module _ (n : ℕ) where
  -- those of one length in two lists joined are those of the one and then those of the other
  of_both : (ps qs : List Path) → of_length n (ps ++ qs) ≡ of_length n ps ++ of_length n qs
  of_both [] qs = refl
  of_both (p ∷ ps) qs = by (of_both ps qs) (length p == n)
    where
      by : of_length n (ps ++ qs) ≡ of_length n ps ++ of_length n qs → (t : Bool) → cond t (p ∷ of_length n (ps ++ qs)) (of_length n (ps ++ qs)) ≡ cond t (p ∷ of_length n ps) (of_length n ps) ++ of_length n qs
      by more true = ap (λ rest. p ∷ rest) more
      by more false = more

  -- those of one length among themselves are all
  of_same : (ps : List Path) → of_length n (of_length n ps) ≡ of_length n ps
  of_same [] = refl
  of_same (p ∷ ps) = by (of_same ps) (length p == n) refl
    where
      by : of_length n (of_length n ps) ≡ of_length n ps → (t : Bool) → (length p == n) ≡ t → of_length n (cond t (p ∷ of_length n ps) (of_length n ps)) ≡ cond t (p ∷ of_length n ps) (of_length n ps)
      by more true is = ap (λ t. cond t (p ∷ of_length n (of_length n ps)) (of_length n (of_length n ps))) is ∙ ap (λ rest. p ∷ rest) more
      by more false is = more

  -- none of another length is of this one
  of_other : (m : ℕ) (ps : List Path) → (m ≡ n → ⊥) → of_length n (of_length m ps) ≡ []
  of_other m [] h = refl
  of_other m (p ∷ ps) h = by (of_other m ps h) (length p == m) refl
    where
      none : length p ≡ m → (length p == n) ≡ false
      none is = ne_eqb (length p) n (λ e. h (sym is ∙ e))

      by : of_length n (of_length m ps) ≡ [] → (t : Bool) → (length p == m) ≡ t → of_length n (cond t (p ∷ of_length m ps) (of_length m ps)) ≡ []
      by more true is = ap (λ t. cond t (p ∷ of_length n (of_length m ps)) (of_length n (of_length m ps))) (none (eqb-true (length p) m is)) ∙ more
      by more false is = more

  -- none of those from a lesser depth on is of this length
  of_fewer : (m : ℕ) (ps : List Path) → m < n → of_length n (from_depth m ps) ≡ []
  of_fewer zero ps h = of_other 0 ps (λ e. omega arith)
  of_fewer (suc m) ps h =
      of_both (of_length (suc m) ps) (from_depth m ps)
      ∙ (λ i. of_other (suc m) ps (λ e. omega arith) i ++ of_fewer m ps (omega arith) i)

  -- from this depth on all of this length are found in their order
  here : (m : ℕ) (ps : List Path) → suc m ≡ n → of_length n (of_length (suc m) ps ++ from_depth m ps) ≡ of_length n ps
  here m ps is =
      of_both (of_length (suc m) ps) (from_depth m ps)
      ∙ ((λ i. of_length n (of_length (is i) ps) ++ of_fewer m ps (omega arith) i) ∙ (append-nil (of_length n (of_length n ps)) ∙ of_same ps))

  -- and so they are from the next depth on
  below : (m : ℕ) (ps : List Path) → (n ≤ m → of_length n (from_depth m ps) ≡ of_length n ps) → (suc m ≡ n → ⊥) → n ≤ suc m → of_length n (of_length (suc m) ps ++ from_depth m ps) ≡ of_length n ps
  below m ps more other h = of_both (of_length (suc m) ps) (from_depth m ps) ∙ (λ i. of_other (suc m) ps other i ++ more (less (nat_le n m) refl) i)
    where
      less : (t : Bool) → nat_le n m ≡ t → n ≤ m
      less true is = leb-true n m is
      less false is = absurd (other (let high = leb-false n m is in omega arith))

  -- and so from one depth to the next, whether or not it is this one
  step : (m : ℕ) (ps : List Path) → (n ≤ m → of_length n (from_depth m ps) ≡ of_length n ps) → n ≤ suc m → (t : Bool) → (suc m == n) ≡ t
      → of_length n (of_length (suc m) ps ++ from_depth m ps) ≡ of_length n ps
  step m ps more h true is = here m ps (eqb-true (suc m) n is)
  step m ps more h false is = below m ps more (λ e. true≢false (sym (eq-eqb (suc m) n e) ∙ is)) h

  -- from each depth that is no less, all of this length are found in their order
  of_more : (m : ℕ) (ps : List Path) → n ≤ m → of_length n (from_depth m ps) ≡ of_length n ps
  of_more zero ps h = let none : n ≡ 0 = omega arith in subst (λ k. of_length n (of_length k ps) ≡ of_length n ps) none (of_same ps)
  of_more (suc m) ps h = step m ps (λ less. of_more m ps less) h (suc m == n) refl

  -- beyond the deepest none is
  of_none : (ps : List Path) → deepest ps < n → of_length n ps ≡ []
  of_none [] h = refl
  of_none (p ∷ ps) h =
      let first = le-max_left (length p) (deepest ps) in
      let more = le-max_right (length p) (deepest ps) in
      ap (λ t. cond t (p ∷ of_length n ps) (of_length n ps)) (ne_eqb (length p) n (λ e. omega arith)) ∙ of_none ps (omega arith)

  -- with the deepest first, those of one length stand in their order
  pub in_order : (ps : List Path) → of_length n (deepest_first ps) ≡ of_length n ps
  in_order ps = by (nat_le n (deepest ps)) refl
    where
      by : (t : Bool) → nat_le n (deepest ps) ≡ t → of_length n (deepest_first ps) ≡ of_length n ps
      by true is = of_more (deepest ps) ps (leb-true n (deepest ps) is)
      by false is = let high = leb-false n (deepest ps) is in of_fewer (deepest ps) ps (omega arith) ∙ sym (of_none ps (omega arith))

-- ---- falling

-- what holds of all of two lists holds of all of both joined
all_both : (P : Path → Type 0) (ps qs : List Path) → AllByRecursion P ps → AllByRecursion P qs → AllByRecursion P (ps ++ qs)
all_both P [] qs h k = k
all_both P (p ∷ ps) qs h k = (h.0, all_both P ps qs h.1 k)

-- those of one length have no more segments than each greater bound
all_of : (n m : ℕ) (ps : List Path) → n ≤ m → AllByRecursion (λ (q : Path). length q ≤ m) (of_length n ps)
all_of n m [] h = tt
all_of n m (p ∷ ps) h = by (all_of n m ps h) (length p == n) refl
  where
    by : AllByRecursion (λ (q : Path). length q ≤ m) (of_length n ps) → (t : Bool) → (length p == n) ≡ t → AllByRecursion (λ (q : Path). length q ≤ m) (cond t (p ∷ of_length n ps) (of_length n ps))
    by more true is = (omega (arith, eqb-true (length p) n is), more)
    by more false is = more

-- and so have those from one depth on
all_from : (n m : ℕ) (ps : List Path) → n ≤ m → AllByRecursion (λ (q : Path). length q ≤ m) (from_depth n ps)
all_from zero m ps h = all_of 0 m ps h
all_from (suc n) m ps h = all_both (λ (q : Path). length q ≤ m) (of_length (suc n) ps) (from_depth n ps) (all_of (suc n) m ps h) (all_from n m ps (omega arith))

-- paths of one length, ahead of paths that fall from no more
falls : (n : ℕ) (ps rest : List Path) → AllByRecursion (λ (q : Path). length q ≤ n) rest → AreFalling rest → AreFalling (of_length n ps ++ rest)
falls n [] rest all falling = falling
falls n (p ∷ ps) rest all falling = by (falls n ps rest all falling) (length p == n) refl
  where
    by : AreFalling (of_length n ps ++ rest) → (t : Bool) → (length p == n) ≡ t → AreFalling (cond t (p ∷ of_length n ps) (of_length n ps) ++ rest)
    by more true is =
        let same : n ≡ length p = sym (eqb-true (length p) n is) in (
          all_both (λ (q : Path). length q ≤ length p) (of_length n ps) rest (all_of n (length p) ps (omega arith)) (subst (λ m. AllByRecursion (λ (q : Path). length q ≤ m) rest) same all),
          more,
        )
    by more false is = more

-- from one depth on none has more segments than one ahead of it
from_falls : (n : ℕ) (ps : List Path) → AreFalling (from_depth n ps)
from_falls zero ps = subst AreFalling (append-nil (of_length 0 ps)) (falls 0 ps [] tt tt)
from_falls (suc n) ps = falls (suc n) ps (from_depth n ps) (all_from n (suc n) ps (omega arith)) (from_falls n ps)

-- with the deepest first none has
pub falling : (ps : List Path) → AreFalling (deepest_first ps)
falling ps = from_falls (deepest ps) ps
