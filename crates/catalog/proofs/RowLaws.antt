-- Rows of classes.
use Rattle.std.proofs.Common.{◌≡◌, ◌≢◌, ◌⊎◌, inl, inr, ℕ, ◌<◌, true, false, ◌==◌, cond, List, [], ◌∷◌, ◌++◌, length, get_or, refl, ap, sym, ◌∙◌, subst}
use Rattle.std.proofs.lemmas.Bool.Decides.{eqb_tells}
use Rattle.std.proofs.lemmas.List.{get_or-set_same, get_or-set_other}
use Rattle.std.specs.Prelude.{slice_set}
use Rattle.catalog_semantics.specs.declared.state.Holding.{Holding}
use Rattle.catalog.specs.Members.{with_class, with_held, held_after, classes_in, AreRows}

-- one more holding puts its class last
pub held_last : (outer : ℕ) (classes : List ℕ) (holdings : List Holding) (h : Holding) → held_after outer classes (holdings ++ h ∷ []) ≡ with_held outer (held_after outer classes holdings) h
held_last outer classes [] h = refl
held_last outer classes (g ∷ holdings) h = held_last outer (with_held outer classes g) holdings h

-- so it does in the row of its container
pub held_rows : (rows : List (List ℕ)) (holdings : List Holding) (h : Holding) → AreRows rows holdings → h.outer < length rows
    → AreRows (slice_set rows h.outer (with_class h.class (get_or rows h.outer []))) (holdings ++ h ∷ [])
held_rows rows holdings h are within j = pick (eqb_tells h.outer j) ∙ sym (held_last j [] holdings h)
  where
    pick : ((h.outer == j) ≡ true) × (h.outer ≡ j) ⊎ ((h.outer == j) ≡ false) × (h.outer ≢ j)
        → get_or (slice_set rows h.outer (with_class h.class (get_or rows h.outer []))) j [] ≡ with_held j (classes_in j holdings) h
    pick (inl x) =
        ap (λ k. get_or (slice_set rows h.outer (with_class h.class (get_or rows h.outer []))) k []) (sym x.1)
        ∙ (get_or-set_same rows h.outer (with_class h.class (get_or rows h.outer [])) [] within
        ∙ (ap (with_class h.class) (are h.outer ∙ ap (λ k. classes_in k holdings) x.1)
        ∙ sym (ap (λ t. cond t (with_class h.class (classes_in j holdings)) (classes_in j holdings)) x.0)))
    pick (inr x) =
        get_or-set_other rows h.outer j (with_class h.class (get_or rows h.outer [])) [] (λ e. x.1 (sym e))
        ∙ (are j ∙ sym (ap (λ t. cond t (with_class h.class (classes_in j holdings)) (classes_in j holdings)) x.0))

-- rows are right behind one more holding
pub held_after_push : (h : Holding) (rows new : List (List ℕ)) (holdings more : List Holding) → AreRows rows holdings → h.outer < length rows
    → new ≡ slice_set rows h.outer (with_class h.class (get_or rows h.outer [])) → more ≡ holdings ++ h ∷ [] → AreRows new more
held_after_push h rows new holdings more are within e k =
    subst (λ rs. AreRows rs more) (sym e) (subst (AreRows (slice_set rows h.outer (with_class h.class (get_or rows h.outer [])))) (sym k) (held_rows rows holdings h are within))
