-- Finitely many orders are to be tried.
use Rattle.std.proofs.Common.{◌≡◌, inl, ℕ, zero, suc, ◌<◌, Bool, List, [], ◌∷◌, length, refl, arith}
use Rattle.std.proofs.lemmas.Bool.{cases_eq}
use Rattle.std.specs.List.{AllByRecursion}
use Rattle.fs_semantics.specs.Orders.{Told, NoneAhead, times, IsLinearExtension}
use Rattle.order_places.proofs.Following.{order_is_long}
use Rattle.finite_search.proofs.Deciding.{Decided, decided_as, decided_both, decided_then, decided_not, decided_true, decided_below, decided_all, decided_each_below}

-- whether all lists of so many numbers below n have what is decided of each
decided_lists : (n m : ℕ) (P : List ℕ → Type 0) → ((o : List ℕ) → Decided (P o)) → Decided ((o : List ℕ) → AllByRecursion (λ k. k < n) o → length o ≡ m → P o)
decided_lists n zero P d = decided_as there (λ f. f [] tt refl) (d [])
  where
    there : P [] → (o : List ℕ) → AllByRecursion (λ k. k < n) o → length o ≡ zero → P o
    there h [] b e = h
    there h (k ∷ o) b e = absurd (omega (arith, e))
decided_lists n (suc m) P d =
    decided_as there (λ f k h o b e. f (k ∷ o) (h, b) (omega (arith, e)))
    (decided_each_below (λ k. (o : List ℕ) → AllByRecursion (λ j. j < n) o → length o ≡ m → P (k ∷ o)) (λ k. decided_lists n m (λ o. P (k ∷ o)) (λ o. d (k ∷ o))) n)
  where
    there : ((k : ℕ) → k < n → (o : List ℕ) → AllByRecursion (λ j. j < n) o → length o ≡ m → P (k ∷ o)) → (o : List ℕ) → AllByRecursion (λ k. k < n) o → length o ≡ suc m → P o
    there h [] b e = absurd (omega (arith, e))
    there h (k ∷ o) b e = h k b.0 o b.1 (omega (arith, e))

module _ (before : ℕ → ℕ → Bool) where
  -- whether none stands ahead of one that comes before it
  decided_none_ahead : (o : List ℕ) → Decided (NoneAhead (Told before) o)
  decided_none_ahead [] = inl tt
  decided_none_ahead (b ∷ o) = decided_both (decided_all (λ a. Told before a b → ⊥) (λ a. decided_not (decided_true (before a b))) o) (decided_none_ahead o)

  -- whether an order is allowed
  decided_extension : (n : ℕ) (o : List ℕ) → Decided (IsLinearExtension n (Told before) o)
  decided_extension n o =
      decided_as {P = AllByRecursion (λ k. k < n) o × (((k : ℕ) → k < n → times k o ≡ 1) × NoneAhead (Told before) o)}
      (λ h. record { below = h.0; once = h.1.0; kept = h.1.1 }) (λ l. (l.below, (l.once, l.kept)))
      (decided_both (decided_all (λ k. k < n) (λ k. decided_below k n) o)
      (decided_both (decided_each_below (λ k. times k o ≡ 1) (λ k. cases_eq (times k o) 1) n) (decided_none_ahead o)))

  -- whether all allowed orders have what is decided of each
  pub decided_extensions : (n : ℕ) (P : List ℕ → Type 0) → ((o : List ℕ) → Decided (P o)) → Decided ((o : List ℕ) → IsLinearExtension n (Told before) o → P o)
  decided_extensions n P d =
      decided_as (λ h o l. h o l.below (order_is_long n before o l) l) (λ f o b e l. f o l)
      (decided_lists n n (λ o. IsLinearExtension n (Told before) o → P o) (λ o. decided_then (decided_extension n o) (d o)))
