-- The clauses with one more at their end, and the lists of watchers with those of its first two literals.
use Rattle.std.proofs.Common.{◌≡◌, inl, inr, ℕ, zero, suc, ◌+◌, ◌*◌, ◌^◌, ◌<◌, ◌≤◌, true, List, [], ◌∷◌, ◌++◌, length, take, get_or, refl, sym, ap, ◌∙◌, subst, arith}
use Rattle.std.specs.List.{AllByRecursion}
use Rattle.std.proofs.Math.ListN.{length-set}
use Rattle.std.proofs.lemmas.List.{length-append, get_or-set_other, get_or-set_same}
use Rattle.std.proofs.lemmas.Bool.{cases_eq}
use Rattle.unit_propagation.specs.Literals.{has}
use Rattle.unit_propagation.specs.Trails.{Way}
use Rattle.unit_propagation.specs.declared.watches.Watcher.{Watcher}
use Rattle.unit_propagation.specs.Watching.{clause, names, IsQuiet, IsEntry, Gives, IsOnce, IsSound, IsListed}
use Rattle.sat_solver.specs.Learned.{pushing, watching}
use Rattle.unit_propagation.proofs.Marks.{has_at}
use Rattle.unit_propagation.proofs.Scans.{names_kept, names_last, all_more}

-- ---- one more watcher
module _ (w : List (List Watcher)) (x : ℕ) (u : Watcher) (below : x < length w) where
  -- a clause that is named by a list of watchers is still named with one more watcher
  names_pushed : (y m : ℕ) → names (get_or w y []) m ≡ true → names (get_or (pushing w x u) y []) m ≡ true
  names_pushed y m h = elim (cases_eq y x) [
    | inl e ↦
        ap (λ i. names (get_or (pushing w x u) i []) m) e ∙ ap (λ l. names l m) (get_or-set_same w x (get_or w x [] ++ u ∷ []) [] below)
        ∙ names_kept (get_or w x []) u m (ap (λ i. names (get_or w i []) m) (sym e) ∙ h)
    | inr d ↦ ap (λ l. names l m) (get_or-set_other w x y (get_or w x [] ++ u ∷ []) [] d) ∙ h
  ]

  -- the list of the literal names the clause of the new watcher
  names_there : names (get_or (pushing w x u) x []) u.clause ≡ true
  names_there = ap (λ l. names l u.clause) (get_or-set_same w x (get_or w x [] ++ u ∷ []) [] below) ∙ names_last (get_or w x []) u u.clause refl

  -- with one more watcher that names a clause all stays sound
  sound_pushed : (f : List (List ℕ)) (t : Way) → IsSound f t w → IsEntry f u → IsSound f t (pushing w x u)
  sound_pushed f t h e = record {
    few = h.few;
    long = length-set w x (get_or w x [] ++ u ∷ []) ∙ h.long;
    within = h.within;
    once = h.once;
    below = h.below;
    consistent = h.consistent;
    long_reasons = h.long_reasons;
    reasons = h.reasons;
    driven = h.driven;
    starts = h.starts;
    settled = h.settled;
    entries = λ y. elim (cases_eq y x) [
      | inl q ↦
          subst (λ i. AllByRecursion (IsEntry f) (get_or (pushing w x u) i [])) (sym q)
          (subst (AllByRecursion (IsEntry f)) (sym (get_or-set_same w x (get_or w x [] ++ u ∷ []) [] below)) (all_more f (get_or w x []) u (h.entries x) e))
      | inr d ↦ subst (AllByRecursion (IsEntry f)) (sym (get_or-set_other w x y (get_or w x [] ++ u ∷ []) [] d)) (h.entries y)
    ];
  }

-- ---- one more clause
-- an earlier clause stays what it is when one is put behind it
pub get_before : (f : List (List ℕ)) (c : List ℕ) (n : ℕ) → n < length f → get_or (f ++ c ∷ []) n [] ≡ get_or f n []
get_before [] c n h = absurd (omega arith)
get_before (d ∷ f) c zero h = refl
get_before (d ∷ f) c (suc n) h = get_before f c n (omega arith)

-- the clause that is put behind the others stands at their number
pub get_new : (f : List (List ℕ)) (c : List ℕ) (n : ℕ) → n ≡ length f → get_or (f ++ c ∷ []) n [] ≡ c
get_new [] c n h = ap (λ i. get_or (c ∷ []) i []) h
get_new (d ∷ f) c zero h = absurd (omega arith)
get_new (d ∷ f) c (suc n) h = get_new f c n (omega arith)

module _ (f : List (List ℕ)) (c : List ℕ) where
  -- the clauses with the new one behind them
  abbrev pub with_clause : List (List ℕ)
  with_clause = f ++ c ∷ []

  -- there is one clause more
  pub long_with : length with_clause ≡ length f + 1
  long_with = length-append f (c ∷ [])

  -- what holds of each clause and of the new one
  pub every : (P : List ℕ → Type 0) (n : ℕ) → n < length with_clause → (n < length f → P (clause f n)) → P c → P (clause with_clause n)
  every P n l old new = elim (cases_eq n (length f)) [
    | inl e ↦ subst P (sym (get_new f c n e)) new
    | inr d ↦ let m : n < length f = omega (arith, long_with) in subst P (sym (get_before f c n m)) (old m)
  ]

  -- a clause that is a reason still is one
  gives_more : (ahead : List ℕ) (x n : ℕ) → Gives f ahead x n → Gives with_clause ahead x n
  gives_more ahead x n h =
      let e : clause with_clause n ≡ clause f n = get_before f c n h.there in
      record {
        there = (let l = h.there in omega (arith, long_with));
        stands = ap (λ d. has d x) e ∙ h.stands;
        others = λ y p. h.others y (ap (λ d. has d y) (sym e) ∙ p);
      }

  -- a watcher that names a clause still does
  entry_more : (v : Watcher) → IsEntry f v → IsEntry with_clause v
  entry_more v h =
      let e : clause with_clause v.clause ≡ clause f v.clause = get_before f c v.clause h.there in
      record { there = (let l = h.there in omega (arith, long_with)); two = subst (λ d. 2 ≤ length d) (sym e) h.two; stands = ap (λ d. has d v.blocker) e ∙ h.stands }

  -- so do all of a list
  entries_more : (list : List Watcher) → AllByRecursion (IsEntry f) list → AllByRecursion (IsEntry with_clause) list
  entries_more [] h = tt
  entries_more (v ∷ list) h = (entry_more v h.0, entries_more list h.1)

  -- the invariants hold with the new clause, where unit propagation had nothing to do with it ahead of any decision
  pub sound_with : (t : Way) (w : List (List Watcher)) → length f + 1 < 2 ^ 32 → ((x : ℕ) → has c x ≡ true → x < 2 * t.vars) → IsOnce c
      → ((k : ℕ) → k < length t.starts → IsQuiet (take (get_or t.starts k 0) t.literals) (take (get_or t.starts k 0) t.literals) c) → IsSound f t w → IsSound with_clause t w
  sound_with t w few within once quiet h = record {
    few = omega (arith, long_with);
    long = h.long;
    within = λ n x l. every (λ d. has d x ≡ true → x < 2 * t.vars) n l (λ m. h.within n x m) (within x);
    once = λ n l. every IsOnce n l (h.once n) once;
    below = h.below;
    consistent = h.consistent;
    long_reasons = h.long_reasons;
    reasons = λ p n l e. gives_more (take p t.literals) (get_or t.literals p 0) n (h.reasons p n l e);
    driven = h.driven;
    starts = h.starts;
    settled = λ k n l m. every (IsQuiet (take (get_or t.starts k 0) t.literals) (take (get_or t.starts k 0) t.literals)) n m (h.settled k n l) (quiet k l);
    entries = λ x. entries_more (get_or w x []) (h.entries x);
  }

  -- each clause is in the lists of its two watched literals, where the new one is in those of its own
  pub listed_with : (v : List (List Watcher)) → IsListed f v → ((s : ℕ) → s < 2 → 2 ≤ length c → names (get_or v (get_or c s 0) []) (length f) ≡ true) → IsListed with_clause v
  listed_with v old new n s l b d = elim (cases_eq n (length f)) [
    | inl e ↦
        ap (λ d. names (get_or v (get_or d s 0) []) n) (get_new f c n e) ∙ ap (names (get_or v (get_or c s 0) [])) e
        ∙ new s b (subst (λ d. 2 ≤ length d) (get_new f c n e) d)
    | inr q ↦
        let m : n < length f = omega (arith, long_with) in
        ap (λ d. names (get_or v (get_or d s 0) []) n) (get_before f c n m) ∙ old n s m b (subst (λ d. 2 ≤ length d) (get_before f c n m) d)
  ]

  -- ---- a clause of two literals at least, with its watchers
  module _ (t : Way) (w : List (List Watcher)) (within : (x : ℕ) → has c x ≡ true → x < 2 * t.vars) (two : 2 ≤ length c) (sound : IsSound with_clause t w) where
    -- the literal that is watched first
    abbrev x0 : ℕ
    x0 = get_or c 0 0

    -- the literal that is watched second
    abbrev x1 : ℕ
    x1 = get_or c 1 0

    -- the watcher in the list of the first
    abbrev u0 : Watcher
    u0 = record { clause = length f; blocker = x1 }

    -- the watcher in the list of the second
    abbrev u1 : Watcher
    u1 = record { clause = length f; blocker = x0 }

    -- the watch lists with the first watcher
    abbrev v1 : List (List Watcher)
    v1 = pushing w x0 u0

    -- the watch lists with both
    abbrev watched : List (List Watcher)
    watched = watching w (length f) x0 x1

    -- the clause with the last index is the new one
    new_is : clause with_clause (length f) ≡ c
    new_is = get_new f c (length f) refl

    -- the first literal has a list
    below0 : x0 < length w
    below0 = let l = sound.long in let q = within x0 (has_at c 0 (omega arith)) in omega arith

    -- and so has the second
    below1 : x1 < length v1
    below1 = let l = sound.long in let q = within x1 (has_at c 1 (omega arith)) in omega (arith, length-set w x0 (get_or w x0 [] ++ u0 ∷ []))

    -- the first watcher names the new clause
    entry0 : IsEntry with_clause u0
    entry0 = record { there = omega (arith, long_with); two = subst (λ d. 2 ≤ length d) (sym new_is) two; stands = ap (λ d. has d x1) new_is ∙ has_at c 1 (omega arith) }

    -- and so does the second
    entry1 : IsEntry with_clause u1
    entry1 = record { there = omega (arith, long_with); two = subst (λ d. 2 ≤ length d) (sym new_is) two; stands = ap (λ d. has d x0) new_is ∙ has_at c 0 (omega arith) }

    -- the invariants hold with the two watchers of the new clause
    pub sound_watched : IsSound with_clause t watched
    sound_watched = sound_pushed v1 x1 u1 below1 with_clause t (sound_pushed w x0 u0 below0 with_clause t sound entry0) entry1

    -- the new clause is named by the lists of both
    named : (s : ℕ) → s < 2 → 2 ≤ length c → names (get_or watched (get_or c s 0) []) (length f) ≡ true
    named s b d = elim (cases_eq s 0) [
      | inl e ↦ ap (λ i. names (get_or watched (get_or c i 0) []) (length f)) e ∙ names_pushed v1 x1 u1 below1 x0 (length f) (names_there w x0 u0 below0)
      | inr n ↦ ap (λ i. names (get_or watched (get_or c i 0) []) (length f)) (let e : s ≡ 1 = omega arith in e) ∙ names_there v1 x1 u1 below1
    ]

    -- with its two watchers the new clause is in the lists of its watched literals, as the others are
    pub listed_watched : IsListed f w → IsListed with_clause watched
    listed_watched h =
        listed_with watched (λ n s l b d. names_pushed v1 x1 u1 below1 (get_or (clause f n) s 0) n (names_pushed w x0 u0 below0 (get_or (clause f n) s 0) n (h n s l b d))) named
