-- A list whose members are marked one after the other.
use Rattle.std.proofs.Common.{◌≡◌, ℕ, Bool, true, false, cond, ◌+◌, ◌<◌, ◌≤◌, ⊎_elim, List, [], ◌∷◌, ◌++◌, length, get_or, set, take, drop, refl, sym, ap, ◌∙◌, subst, arith}
use Rattle.std.specs.Prelude.{if◌then◌else◌}
use Rattle.std.specs.List.{AllByRecursion}
use Rattle.std.proofs.lemmas.Bool.{cases_eq}
use Rattle.std.proofs.lemmas.List.{get_or-set_same, get_or-set_other, take_more, take_all}
use Rattle.fs_semantics.specs.Orders.{times}
use Rattle.orders.specs.Counting.{EachOnce}
use Rattle.fs_semantics.proofs.Counts.{times_append, times_itself, times_other, all_append}
use Rattle.orders.proofs.Lists.{times_split}

-- the first i of the list are marked, each once
pub record IsMarked (list : List ℕ) (i : ℕ) (marks : List Bool) : Type 0 where
  pub below : AllByRecursion (λ k. k < length marks) (take i list)
  pub counts : (k : ℕ) → k < length marks → times k (take i list) ≡ (if get_or marks k false then 1 else 0)

-- when one more is put behind them, a number's count is that of the mark
pub count_more : (order : List ℕ) (marks : List Bool) (k node : ℕ) → node < length marks → get_or marks node false ≡ false
    → times k order ≡ (if get_or marks k false then 1 else 0) → times k (order ++ node ∷ []) ≡ (if get_or (set marks node true) k false then 1 else 0)
count_more order marks k node within unset h =
    ⊎_elim
    (λ e. let P : ℕ → Type 0 = λ v. times v order ≡ (if get_or marks v false then 1 else 0) in
    let Q : ℕ → Type 0 = λ v. times v (order ++ node ∷ []) ≡ (if get_or (set marks node true) v false then 1 else 0) in
    subst Q (sym e)
    (times_append node order (node ∷ []) ∙ ap (λ v. v + times node (node ∷ [])) (subst P e h ∙ ap (λ b. cond b 1 0) unset)
    ∙ ap (λ v. 0 + v) (times_itself node []) ∙ sym (ap (λ b. cond b 1 0) (get_or-set_same marks node true false within))))
    (λ ne. let e = times_append k order (node ∷ []) in
    let f = times_other k node [] ne in
    let g : times k (order ++ node ∷ []) ≡ times k order = omega arith in
    g ∙ h ∙ sym (ap (λ b. cond b 1 0) (get_or-set_other marks node k true false ne))) (cases_eq k node)

module _ (list : List ℕ) (i : ℕ) (marks : List Bool) (within : i < length list) (h : IsMarked list i marks) where
  -- one more number of the list is marked, if it wasn't
  pub marked_more : (new : List Bool) → new ≡ set marks (get_or list i 0) true → length new ≡ length marks → get_or list i 0 < length marks → get_or marks (get_or list i 0) false ≡ false → IsMarked list (i + 1) new
  marked_more new e len below unset = record {
    below = subst (λ (n : ℕ). AllByRecursion (λ k. k < n) (take (i + 1) list)) (sym len)
        (rw (take_more list i 0 within) (all_append (λ k. k < length marks) (take i list) (get_or list i 0 ∷ []) h.below (below, tt)));
    counts = λ k l.
        ap (times k) (take_more list i 0 within) ∙ count_more (take i list) marks k (get_or list i 0) below unset (h.counts k (omega arith))
        ∙ sym (ap (λ (m : List Bool). cond (get_or m k false) 1 0) e);
  }

  -- a second time
  pub marked_twice : (n : ℕ) → n ≡ length marks → get_or list i 0 < length marks → get_or marks (get_or list i 0) false ≡ true → EachOnce n list → ⊥
  marked_twice n len below is o =
      let e : times (get_or list i 0) (take i list) ≡ 1 = h.counts (get_or list i 0) below ∙ ap (λ b. cond b 1 0) is in
      omega (arith, o.once (get_or list i 0) (omega arith), times_split (get_or list i 0) list i within, times_itself (get_or list i 0) (drop (i + 1) list))

-- a truth value that counts for one is true
one_set : (b : Bool) → ◌≡◌ {A = ℕ} (cond b 1 0) 1 → b ≡ true
one_set true e = refl
one_set false e = absurd (omega arith)

-- where the whole list is marked, it has each number once exactly where all marks are set
pub marked_all : (list : List ℕ) (i : ℕ) (marks : List Bool) → length list ≤ i → IsMarked list i marks
    → (EachOnce (length marks) list → (k : ℕ) → k < length marks → get_or marks k false ≡ true) × (((k : ℕ) → k < length marks → get_or marks k false ≡ true) → EachOnce (length marks) list)
marked_all list i marks all h =
    let whole : take i list ≡ list = take_all i list all in
    let counts : (k : ℕ) → k < length marks → times k list ≡ (if get_or marks k false then 1 else 0) = λ k l. ap (times k) (sym whole) ∙ h.counts k l in (
      λ o k l. one_set (get_or marks k false) (sym (counts k l) ∙ o.once k l),
      λ set. record { below = subst (AllByRecursion (λ k. k < length marks)) whole h.below; once = λ k l. counts k l ∙ ap (λ b. cond b 1 0) (set k l) },
    )
