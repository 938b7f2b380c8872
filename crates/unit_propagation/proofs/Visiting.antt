-- What each way of visiting a watcher gives.
use Rattle.std.proofs.Common.{◌≡◌, ◌⊎◌, inl, inr, ℕ, ◌-◌, ◌<◌, ◌≤◌, true, false, List, [], ◌∷◌, ◌++◌, length, get_or, Option, Some, None, refl, sym, ap, ◌∙◌, subst, arith}
use Rattle.std.proofs.Math.ListN.{set}
use Rattle.std.proofs.lemmas.Bool.{cases_eq}
use Rattle.unit_propagation.specs.Literals.{opposite, has}
use Rattle.unit_propagation.specs.Stored.{exchanged}
use Rattle.unit_propagation.specs.Trails.{Way}
use Rattle.unit_propagation.specs.declared.watches.Watcher.{Watcher}
use Rattle.unit_propagation.specs.declared.propagate.Visited.{Visited}
use Rattle.unit_propagation.specs.declared.propagate.Visited.TheVariants as visited
use Rattle.unit_propagation.specs.Watching.{clause, with_literal, IsEntry, IsScanning, Scanning}
use Rattle.unit_propagation.specs.Visits.{Forces, IsAfter, Ends}
use Rattle.unit_propagation.proofs.Scans.{met, forced, falsified, copied, ended, stopped}
use Rattle.unit_propagation.proofs.Exchanges.{standing, moved}
use Rattle.unit_propagation.proofs.Marks.{has_at}

module _ (f : List (List ℕ)) (t : Way) (w : List (List Watcher)) (front rest : List Watcher) (literal : ℕ) (v : Watcher) where
  -- the scan goes on behind a clause of which some literal holds
  pub after_met : (b : ℕ) → Scanning f t w front (v ∷ rest) literal None → has (clause f v.clause) b ≡ true → has t.literals b ≡ true → Scanning f t w (front ++ (record { clause = v.clause; blocker = b }) ∷ []) rest literal None
  after_met b (before, h) p q = (before, met before f t w front rest literal v b h p q)

  module _ (side : ℕ) (near : side < 2) (is_literal : get_or (clause f v.clause) side 0 ≡ literal) where
    -- the scan goes on behind a clause whose watch moved
    pub after_moved : (k b : ℕ) (f2 : List (List ℕ)) (w2 : List (List Watcher)) → IsEntry f v → has (clause f v.clause) b ≡ true
        → 2 ≤ k → k < length (clause f v.clause) → has t.literals (opposite (get_or (clause f v.clause) k 0)) ≡ false → get_or (clause f v.clause) k 0 < length w
        → f2 ≡ set f v.clause (exchanged (clause f v.clause) side k)
        → w2 ≡ set w (get_or (clause f v.clause) k 0) (get_or w (get_or (clause f v.clause) k 0) [] ++ (record { clause = v.clause; blocker = b }) ∷ [])
        → Scanning f t w front (v ∷ rest) literal None → Scanning f2 t w2 front rest literal None
    after_moved k b f2 w2 entry stands far in_k free below e g (before, h) =
        let two = entry.two in
        subst (λ x. Scanning x t w2 front rest literal None) (sym e)
        (subst (λ x. Scanning (set f v.clause (exchanged (clause f v.clause) side k)) t x front rest literal None) (sym g)
        (before, moved f t w v.clause side k entry.there (omega arith) in_k far near (record { clause = v.clause; blocker = b }) refl stands below before front rest literal v refl is_literal free h))

    -- where no literal from place 2 on can hold, all but the other watched one are false
    others : (before : List ℕ) → IsScanning before f t w front (v ∷ rest) literal None → ((k : ℕ) → 2 ≤ k → k < length (clause f v.clause) → has t.literals (opposite (get_or (clause f v.clause) k 0)) ≡ true)
        → (x : ℕ) → has (clause f v.clause) x ≡ true → (x ≡ get_or (clause f v.clause) (1 - side) 0) ⊎ (has t.literals (opposite x) ≡ true)
    others before h all x p =
        let s = standing (clause f v.clause) x p in
        let l = s.within in
        elim (cases_eq s.place side) [
          | inl e ↦ inr (ap (λ y. has t.literals (opposite y)) (sym s.is ∙ ap (λ i. get_or (clause f v.clause) i 0) e ∙ is_literal) ∙ h.is_false)
          | inr n ↦ elim (cases_eq s.place (1 - side)) [
            | inl e ↦ inl (sym s.is ∙ ap (λ i. get_or (clause f v.clause) i 0) e)
            | inr m ↦ inr (ap (λ y. has t.literals (opposite y)) (sym s.is) ∙ all s.place (omega arith) l)
          ]
        ]

    -- the scan goes on behind a clause whose other watched literal was set, or was false
    pub after_forced : (b : ℕ) (s : Way) (out : Visited) → IsEntry f v → b ≡ get_or (clause f v.clause) (1 - side) 0 → has (clause f v.clause) b ≡ true → has t.literals b ≡ false
        → ((k : ℕ) → 2 ≤ k → k < length (clause f v.clause) → has t.literals (opposite (get_or (clause f v.clause) k 0)) ≡ true)
        → Forces t s b v.clause out → Scanning f t w front (v ∷ rest) literal None → IsAfter f s w front rest literal v out
    after_forced b s visited.Gone entry is stands free all x h = absurd x
    after_forced b s (visited.Kept d) entry is stands free all x (before, h) =
        subst (λ y. Scanning f y w (front ++ (record { clause = v.clause; blocker = d }) ∷ []) rest literal None) (sym x.2)
        (subst (λ y. Scanning f (with_literal t b v.clause) w (front ++ (record { clause = v.clause; blocker = y }) ∷ []) rest literal None) (sym x.0) (
          before,
          forced before f t w front rest literal v b h free x.1 (record {
            there = entry.there;
            stands = stands;
            others = λ y p. subst (λ z. (y ≡ z) ⊎ (has t.literals (opposite y) ≡ true)) (sym is) (others before h all y p);
          }),
        ))
    after_forced b s visited.False entry is stands free all x (before, h) =
        subst (λ y. Scanning f y w (front ++ v ∷ []) rest literal (Some v.clause)) (sym x.1) (
          before,
          falsified before f t w front rest literal v h (record {
            there = entry.there;
            all = λ y p. elim (others before h all y p) [ inl e ↦ ap (λ z. has t.literals (opposite z)) (e ∙ sym is) ∙ x.0 | inr q ↦ q ];
          }),
        )

  -- the scan goes on behind a watcher that stays as it is, after a conflict
  pub after_copied : (n : ℕ) → Scanning f t w front (v ∷ rest) literal (Some n) → Scanning f t w (front ++ v ∷ []) rest literal (Some n)
  after_copied n (before, h) = (before, copied before f t w front rest literal v n h)

-- the other watched literal stands in the clause
pub side_stands : (c lits : List ℕ) (side : ℕ) → lits ≡ c → 2 ≤ length c → side < 2 → has c (get_or lits (1 - side) 0) ≡ true
side_stands c lits side e two near = ap (λ (x : List ℕ). has c (get_or x (1 - side) 0)) e ∙ has_at c (1 - side) (omega arith)

-- the literal at a place stands in the clause
pub place_stands : (c lits : List ℕ) (k : ℕ) → lits ≡ c → k < length lits → has c (get_or lits k 0) ≡ true
place_stands c lits k e l = ap (λ (x : List ℕ). has c (get_or x k 0)) e ∙ has_at c k (subst (λ (x : List ℕ). k < length x) e l)

-- ---- a watcher that the scan passes
module _ (f : List (List ℕ)) (t : Way) (w : List (List Watcher)) (front rest : List Watcher) (literal : ℕ) (v : Watcher) where
  -- the scan with the lists as the code keeps them, where the watcher stays
  pub kept_on : (out : Visited) (b : ℕ) (front2 rest2 : List Watcher) (conflict : Option ℕ) → IsAfter f t w front rest literal v out → out ≡ visited.Kept b
      → front2 ≡ front ++ (record { clause = v.clause; blocker = b }) ∷ [] → rest2 ≡ rest → conflict ≡ None → Scanning f t w front2 rest2 literal conflict
  kept_on out b front2 rest2 conflict h e p q r =
      subst (Scanning f t w front2 rest2 literal) (sym r) (subst (λ x. Scanning f t w front2 x literal None) (sym q) (subst (λ x. Scanning f t w x rest literal None) (sym p) (subst (IsAfter f t w front rest literal v) e h)))

  -- the same where it went to another list
  pub gone_on : (out : Visited) (conflict : Option ℕ) → IsAfter f t w front rest literal v out → out ≡ visited.Gone → conflict ≡ None → Scanning f t w front rest literal conflict
  gone_on out conflict h e r = subst (Scanning f t w front rest literal) (sym r) (subst (IsAfter f t w front rest literal v) e h)

  -- the same where its clause is the conflict
  pub false_on : (out : Visited) (front2 rest2 : List Watcher) → IsAfter f t w front rest literal v out → out ≡ visited.False
      → front2 ≡ front ++ (record { clause = v.clause; blocker = v.blocker }) ∷ [] → rest2 ≡ rest → Scanning f t w front2 rest2 literal (Some v.clause)
  false_on out front2 rest2 h e p q =
      subst (λ x. Scanning f t w front2 x literal (Some v.clause)) (sym q) (subst (λ x. Scanning f t w x rest literal (Some v.clause)) (sym p) (subst (IsAfter f t w front rest literal v) e h))

  -- the same where its blocker holds, and the clause isn't touched
  pub met_on : (front2 rest2 : List Watcher) (conflict : Option ℕ) → Scanning f t w front (v ∷ rest) literal None → has (clause f v.clause) v.blocker ≡ true → has t.literals v.blocker ≡ true
      → front2 ≡ front ++ (record { clause = v.clause; blocker = v.blocker }) ∷ [] → rest2 ≡ rest → conflict ≡ None → Scanning f t w front2 rest2 literal conflict
  met_on front2 rest2 conflict h s b p q r =
      subst (Scanning f t w front2 rest2 literal) (sym r) (subst (λ x. Scanning f t w front2 x literal None) (sym q) (subst (λ x. Scanning f t w x rest literal None) (sym p) (after_met f t w front rest literal v v.blocker h s b)))

  -- the same behind a conflict
  pub copied_on : (front2 rest2 rest1 : List Watcher) (n : ℕ) (was conflict : Option ℕ) → Scanning f t w front rest1 literal was → rest1 ≡ v ∷ rest → was ≡ Some n
      → front2 ≡ front ++ (record { clause = v.clause; blocker = v.blocker }) ∷ [] → rest2 ≡ rest → conflict ≡ was → Scanning f t w front2 rest2 literal conflict
  copied_on front2 rest2 rest1 n was conflict h e s p q r =
      let here : Scanning f t w front (v ∷ rest) literal (Some n) = subst (Scanning f t w front (v ∷ rest) literal) s (subst (λ x. Scanning f t w front x literal was) e h) in
      subst (Scanning f t w front2 rest2 literal) (sym (r ∙ s)) (subst (λ x. Scanning f t w front2 x literal (Some n)) (sym q) (subst (λ x. Scanning f t w x rest literal (Some n)) (sym p) (after_copied f t w front rest literal v n here)))

-- nothing is left
pub all_visited : (f : List (List ℕ)) (t : Way) (w w2 : List (List Watcher)) (front rest : List Watcher) (literal : ℕ) (conflict found : Option ℕ)
    → Scanning f t w front rest literal conflict → rest ≡ [] → literal < length w → w2 ≡ set w literal front → found ≡ conflict → Ends f t w2 found
all_visited f t w w2 front rest literal conflict found h e below g q =
    subst (Ends f t w2) (sym q) (subst (λ x. Ends f t x conflict) (sym g) (by conflict (subst (λ x. Scanning f t w front x literal conflict) e h)))
  where
    by : (conflict : Option ℕ) → Scanning f t w front [] literal conflict → Ends f t (set w literal front) conflict
    by None h = ended f t w front literal h below
    by (Some n) h = stopped f t w front literal n h below
