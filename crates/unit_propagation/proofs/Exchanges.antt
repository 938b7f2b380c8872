-- Laws of a clause of which two literals are exchanged, and of a watch that moves.
use Rattle.std.proofs.Common.{◌≡◌, ◌⊎◌, inl, inr, ℕ, suc, ◌<◌, ◌≤◌, true, false, true≢false, List, [], ◌∷◌, ◌++◌, length, take, get_or, None, refl, sym, ap, ◌∙◌, subst, arith}
use Rattle.std.specs.Prelude.{◌==◌}
use Rattle.std.specs.List.{AllByRecursion}
use Rattle.std.proofs.Math.ListN.{set, length-set}
use Rattle.std.proofs.lemmas.List.{get_or-set_other, get_or-set_same}
use Rattle.std.proofs.lemmas.Bool.{eqb-true, cases_eq, or_cases, false_from_ne_true}
use Rattle.unit_propagation.specs.Literals.{opposite, has}
use Rattle.unit_propagation.specs.Stored.{exchanged}
use Rattle.unit_propagation.specs.Trails.{Way}
use Rattle.unit_propagation.specs.declared.watches.Watcher.{Watcher}
use Rattle.unit_propagation.specs.Watching.{clause, names, Meets, IsQuiet, IsEntry, IsOnce, IsSound, IsScanning}
use Rattle.unit_propagation.proofs.Marks.{has_at}
use Rattle.unit_propagation.proofs.Scans.{names_kept, names_last, names_front, all_more, has_first}

-- where a literal of the exchanged clause comes from
module _ (c : List ℕ) (j k : ℕ) (in_j : j < length c) (in_k : k < length c) where
  -- an exchange keeps the length
  pub length_exchanged : length (exchanged c j k) ≡ length c
  length_exchanged = length-set (set c j (get_or c k 0)) k (get_or c j 0) ∙ length-set c j (get_or c k 0)

  -- at the second place stands what stood at the first
  pub at_second : get_or (exchanged c j k) k 0 ≡ get_or c j 0
  at_second = get_or-set_same (set c j (get_or c k 0)) k (get_or c j 0) 0 (omega (arith, length-set c j (get_or c k 0)))

  -- at the first place stands what stood at the second
  pub at_first : get_or (exchanged c j k) j 0 ≡ get_or c k 0
  at_first = elim (cases_eq j k) [
    | inl e ↦ ap (λ i. get_or (exchanged c j k) i 0) e ∙ at_second ∙ ap (λ i. get_or c i 0) e
    | inr n ↦ get_or-set_other (set c j (get_or c k 0)) k j (get_or c j 0) 0 n ∙ get_or-set_same c j (get_or c k 0) 0 in_j
  ]

  -- at all other places stands what stood there
  pub at_other : (i : ℕ) → (i ≡ j → ⊥) → (i ≡ k → ⊥) → get_or (exchanged c j k) i 0 ≡ get_or c i 0
  at_other i n m = get_or-set_other (set c j (get_or c k 0)) k i (get_or c j 0) 0 m ∙ get_or-set_other c j i (get_or c k 0) 0 n

  -- the place that a literal came from
  record Origin (i : ℕ) : Type 0 where
    pub place : ℕ
    pub within : place < length c
    pub same : get_or (exchanged c j k) i 0 ≡ get_or c place 0
    pub back : ((i ≡ j) × (place ≡ k)) ⊎ (((i ≡ k) × (place ≡ j)) ⊎ ((i ≡ j → ⊥) × (i ≡ k → ⊥) × (place ≡ i)))

  -- each literal of the exchanged clause came from some place
  origin : (i : ℕ) → i < length c → Origin i
  origin i h = elim (cases_eq i j) [
    | inl e ↦ record { place = k; within = in_k; same = ap (λ x. get_or (exchanged c j k) x 0) e ∙ at_first; back = inl (e, refl) }
    | inr n ↦ elim (cases_eq i k) [
      | inl e ↦ record { place = j; within = in_j; same = ap (λ x. get_or (exchanged c j k) x 0) e ∙ at_second; back = inr (inl (e, refl)) }
      | inr m ↦ record { place = i; within = h; same = at_other i n m; back = inr (inr (n, m, refl)) }
    ]
  ]

  -- where each literal stood once, it stands once after an exchange
  pub once_exchanged : IsOnce c → IsOnce (exchanged c j k)
  once_exchanged o a b la lb e =
      let l = length_exchanged in
      let x = origin a (omega arith) in
      let y = origin b (omega arith) in
      let same : x.place ≡ y.place = o x.place y.place x.within y.within (sym x.same ∙ e ∙ y.same) in
      elim x.back [
        | inl p ↦ elim y.back [ inl q ↦ omega arith | inr q ↦ elim q [ inl r ↦ omega arith | inr r ↦ absurd (r.1 (omega arith)) ] ]
        | inr p ↦ elim p [
          | inl p2 ↦ elim y.back [ inl q ↦ omega arith | inr q ↦ elim q [ inl r ↦ omega arith | inr r ↦ absurd (r.0 (omega arith)) ] ]
          | inr p2 ↦ elim y.back [ inl q ↦ absurd (p2.1 (omega arith)) | inr q ↦ elim q [ inl r ↦ absurd (p2.0 (omega arith)) | inr r ↦ omega arith ] ]
        ]
      ]

-- a place of a literal in a clause
pub record Standing (c : List ℕ) (x : ℕ) : Type 0 where
  pub place : ℕ
  pub within : place < length c
  pub is : get_or c place 0 ≡ x

-- a literal that stands in a clause has a place there
pub standing : (c : List ℕ) (x : ℕ) → has c x ≡ true → Standing c x
standing [] x h = absurd (true≢false (sym h))
standing (y ∷ c) x h = elim (or_cases (x == y) (has c x) h) [
  | inl e ↦ record { place = 0; within = omega arith; is = sym (eqb-true x y e) }
  | inr r ↦ let s = standing c x r in record { place = suc s.place; within = (let q = s.within in omega arith); is = s.is }
]

-- the literal at a place of a clause stands in it
has_from : (c : List ℕ) (x i : ℕ) → i < length c → get_or c i 0 ≡ x → has c x ≡ true
has_from c x i h e = ap (has c) (sym e) ∙ has_at c i h

-- an exchange brings no new literal into the clause
pub has_back : (c : List ℕ) (j k x : ℕ) → j < length c → k < length c → has (exchanged c j k) x ≡ true → has c x ≡ true
has_back c j k x a b h =
    let s = standing (exchanged c j k) x h in
    let l = length_exchanged c j k a b in
    let w = s.within in
    let o = origin c j k a b s.place (omega arith) in
    has_from c x o.place o.within (sym o.same ∙ s.is)

-- an exchange takes no literal out of the clause
pub has_exchanged : (c : List ℕ) (j k x : ℕ) → j < length c → k < length c → has c x ≡ true → has (exchanged c j k) x ≡ true
has_exchanged c j k x a b h =
    let s = standing c x h in
    let l = length_exchanged c j k a b in
    let w = s.within in
    elim (cases_eq s.place j) [
      | inl e ↦ has_from (exchanged c j k) x k (omega arith) (at_second c j k a b ∙ ap (λ i. get_or c i 0) (sym e) ∙ s.is)
      | inr n ↦ elim (cases_eq s.place k) [
        | inl e ↦ has_from (exchanged c j k) x j (omega arith) (at_first c j k a b ∙ ap (λ i. get_or c i 0) (sym e) ∙ s.is)
        | inr m ↦ has_from (exchanged c j k) x s.place (omega arith) (at_other c j k a b s.place n m ∙ s.is)
      ]
    ]

-- ---- formulas of which one clause is exchanged
module _ (f : List (List ℕ)) (n j k : ℕ) (there : n < length f) (in_j : j < length (clause f n)) (in_k : k < length (clause f n)) where
  -- the clauses, of which one has two literals exchanged
  abbrev g : List (List ℕ)
  g = set f n (exchanged (clause f n) j k)

  -- that clause is the exchanged one
  clause_here : clause g n ≡ exchanged (clause f n) j k
  clause_here = get_or-set_same f n (exchanged (clause f n) j k) [] there

  -- the other clauses are as before
  clause_other : (m : ℕ) → (m ≡ n → ⊥) → clause g m ≡ clause f m
  clause_other m h = get_or-set_other f n m (exchanged (clause f n) j k) [] h

  -- there are as many clauses as before
  pub long : length g ≡ length f
  long = length-set f n (exchanged (clause f n) j k)

  -- what holds of a clause and stays when it is exchanged holds of all
  every : (P : List ℕ → Type 0) (m : ℕ) → P (clause f m) → (P (clause f n) → P (exchanged (clause f n) j k)) → P (clause g m)
  every P m h keep = elim (cases_eq m n) [
    | inl e ↦ subst (λ i. P (clause g i)) (sym e) (subst P (sym clause_here) (keep (subst (λ i. P (clause f i)) e h)))
    | inr d ↦ subst P (sym (clause_other m d)) h
  ]

  -- each clause keeps its literals
  pub has_now : (m x : ℕ) → has (clause f m) x ≡ true → has (clause g m) x ≡ true
  has_now m x h = every (λ d. has d x ≡ true) m h (has_exchanged (clause f n) j k x in_j in_k)

  -- no clause has a new literal
  pub has_then : (m x : ℕ) → has (clause g m) x ≡ true → has (clause f m) x ≡ true
  has_then m x h = elim (cases_eq m n) [
    | inl e ↦ subst (λ i. has (clause f i) x ≡ true) (sym e) (has_back (clause f n) j k x in_j in_k (ap (λ d. has d x) (sym clause_here) ∙ subst (λ i. has (clause g i) x ≡ true) e h))
    | inr d ↦ ap (λ c. has c x) (sym (clause_other m d)) ∙ h
  ]

  -- each clause keeps its length
  length_now : (m : ℕ) → length (clause g m) ≡ length (clause f m)
  length_now m = elim (cases_eq m n) [
    | inl e ↦ ap (λ i. length (clause g i)) e ∙ ap length clause_here ∙ length_exchanged (clause f n) j k in_j in_k ∙ ap (λ i. length (clause f i)) (sym e)
    | inr d ↦ ap length (clause_other m d)
  ]

  -- a clause of which some literal holds still has one
  meets_now : (m : ℕ) (t : List ℕ) → Meets (clause f m) t → Meets (clause g m) t
  meets_now m t h = record { literal = h.literal; stands = has_now m h.literal h.stands; holds = h.holds }

  -- a watcher that names a clause still does
  entry_now : (v : Watcher) → IsEntry f v → IsEntry g v
  entry_now v h = record { there = (let a = h.there in omega (arith, long)); two = (let a = h.two in omega (arith, length_now v.clause)); stands = has_now v.clause v.blocker h.stands }

  -- so do all of a list
  entries_now : (list : List Watcher) → AllByRecursion (IsEntry f) list → AllByRecursion (IsEntry g) list
  entries_now [] h = tt
  entries_now (v ∷ list) h = (entry_now v h.0, entries_now list h.1)

  -- a watched literal of the exchanged clause is the new one, or it was watched
  watched_now : (m s : ℕ) → s < 2 → 2 ≤ k → j < 2 → ((m ≡ n) × (s ≡ j) × (get_or (clause g m) s 0 ≡ get_or (clause f n) k 0)) ⊎ (((m ≡ n) → s ≡ j → ⊥) × (get_or (clause g m) s 0 ≡ get_or (clause f m) s 0))
  watched_now m s a b d = elim (cases_eq m n) [
    | inl e ↦ elim (cases_eq s j) [
      | inl q ↦ inl (e, q, ap (λ i. get_or (clause g i) s 0) e ∙ ap (λ i. get_or (clause g n) i 0) q ∙ ap (λ c. get_or c j 0) clause_here ∙ at_first (clause f n) j k in_j in_k)
      | inr q ↦ inr (
        (λ _. q),
        ap (λ i. get_or (clause g i) s 0) e ∙ ap (λ c. get_or c s 0) clause_here ∙ at_other (clause f n) j k in_j in_k s q (λ z. omega arith) ∙ ap (λ i. get_or (clause f i) s 0) (sym e),
      )
    ]
    | inr q ↦ inr ((λ e. absurd (q e)), ap (λ c. get_or c s 0) (clause_other m q))
  ]

  -- where the literal that is now watched isn't false, the clause stays quiet
  quiet_now : (m : ℕ) (done t : List ℕ) → 2 ≤ k → j < 2 → has done (opposite (get_or (clause f n) k 0)) ≡ false → IsQuiet done t (clause f m) → IsQuiet done t (clause g m)
  quiet_now m done t b d free q = record {
    watched = λ s a l h. elim (watched_now m s a b d) [
      | inl z ↦ absurd (true≢false (sym h ∙ ap (λ y. has done (opposite y)) z.2 ∙ free))
      | inr z ↦ meets_now m t (q.watched s a (omega (arith, length_now m)) (ap (λ y. has done (opposite y)) (sym z.1) ∙ h))
    ];
    short = λ l. meets_now m t (q.short (omega (arith, length_now m)));
  }

-- ---- a watch that moves
module _ (f : List (List ℕ)) (t : Way) (w : List (List Watcher)) (n j k : ℕ) (there : n < length f) (in_j : j < length (clause f n)) (in_k : k < length (clause f n)) (far : 2 ≤ k) (near : j < 2) where
  -- the clauses once the watch moved: the watched literal is exchanged with the one at place k
  abbrev f2 : List (List ℕ)
  f2 = set f n (exchanged (clause f n) j k)

  -- the literal that is watched from now on
  abbrev x : ℕ
  x = get_or (clause f n) k 0

  module _ (u : Watcher) (is_u : u.clause ≡ n) (stands : has (clause f n) u.blocker ≡ true) (below : x < length w) where
    -- the watch lists with the clause in the list of that literal
    abbrev w2 : List (List Watcher)
    w2 = set w x (get_or w x [] ++ u ∷ [])

    -- a clause that was named by a list still is
    names_now : (y m : ℕ) → names (get_or w y []) m ≡ true → names (get_or w2 y []) m ≡ true
    names_now y m h = elim (cases_eq y x) [
      | inl e ↦
          ap (λ i. names (get_or w2 i []) m) e ∙ ap (λ l. names l m) (get_or-set_same w x (get_or w x [] ++ u ∷ []) [] below)
          ∙ names_kept (get_or w x []) u m (ap (λ i. names (get_or w i []) m) (sym e) ∙ h)
      | inr d ↦ ap (λ l. names l m) (get_or-set_other w x y (get_or w x [] ++ u ∷ []) [] d) ∙ h
    ]

    -- the new list names the clause
    names_new : names (get_or w2 x []) n ≡ true
    names_new = ap (λ l. names l n) (get_or-set_same w x (get_or w x [] ++ u ∷ []) [] below) ∙ names_last (get_or w x []) u n (sym is_u)

    -- a literal that isn't false wasn't false on any front of the trail
    open_before : (p : ℕ) → has t.literals (opposite x) ≡ false → has (take p t.literals) (opposite x) ≡ false
    open_before p o = false_from_ne_true (has (take p t.literals) (opposite x)) (λ h. true≢false (sym (has_first t.literals p (opposite x) h) ∙ o))

    -- the watcher that was put there names the clause
    entry_u : 2 ≤ length (clause f n) → IsEntry f2 u
    entry_u two =
        entry_now f n j k there in_j in_k u
        (record { there = subst (λ i. i < length f) (sym is_u) there; two = subst (λ i. 2 ≤ length (clause f i)) (sym is_u) two; stands = subst (λ i. has (clause f i) u.blocker ≡ true) (sym is_u) stands })

    -- the invariants hold once the watch moved
    sound_moved : IsSound f t w → has t.literals (opposite x) ≡ false → IsSound f2 t w2
    sound_moved h o =
        let l = long f n j k there in_j in_k in
        record {
          few = (let q = h.few in omega (arith, l));
          long = length-set w x (get_or w x [] ++ u ∷ []) ∙ h.long;
          within = λ m y a b. h.within m y (omega (arith, l)) (has_then f n j k there in_j in_k m y b);
          once = λ m a. every f n j k there in_j in_k IsOnce m (h.once m (omega (arith, l))) (once_exchanged (clause f n) j k in_j in_k);
          below = h.below;
          consistent = h.consistent;
          long_reasons = h.long_reasons;
          reasons = λ p m a e. let g = h.reasons p m a e in record {
            there = (let q = g.there in omega (arith, l));
            stands = has_now f n j k there in_j in_k m (get_or t.literals p 0) g.stands;
            others = λ y s. g.others y (has_then f n j k there in_j in_k m y s);
          };
          driven = h.driven;
          starts = h.starts;
          settled = λ i m a b. quiet_now f n j k there in_j in_k m _ _ far near (open_before (get_or t.starts i 0) o) (h.settled i m a (omega (arith, l)));
          entries = λ y. elim (cases_eq y x) [
            | inl e ↦
                subst (λ i. AllByRecursion (IsEntry f2) (get_or w2 i [])) (sym e)
                (subst (AllByRecursion (IsEntry f2)) (sym (get_or-set_same w x (get_or w x [] ++ u ∷ []) [] below))
                (all_more f2 (get_or w x []) u (entries_now f n j k there in_j in_k (get_or w x []) (h.entries x)) (entry_u (omega arith))))
            | inr d ↦ subst (AllByRecursion (IsEntry f2)) (sym (get_or-set_other w x y (get_or w x [] ++ u ∷ []) [] d)) (entries_now f n j k there in_j in_k (get_or w y []) (h.entries y))
          ];
        }

    module _ (before : List ℕ) (front rest : List Watcher) (literal : ℕ) (v : Watcher) (is_v : v.clause ≡ n) (is_literal : get_or (clause f n) j 0 ≡ literal) (o : has t.literals (opposite x) ≡ false) (h : IsScanning before f t w front (v ∷ rest) literal None) where
      -- the new watch isn't the literal that became false
      not_literal : x ≡ literal → ⊥
      not_literal e = true≢false (sym h.is_false ∙ ap (λ y. has t.literals (opposite y)) (sym e) ∙ o)

      -- the other watched literal of the clause isn't the one that became false
      other_literal : (s : ℕ) → s < 2 → (s ≡ j → ⊥) → get_or (clause f n) s 0 ≡ literal → ⊥
      other_literal s a d e = d (h.sound.once n there s j (omega arith) in_j (e ∙ sym is_literal))

      -- another clause that watches the false literal is still named by the watchers to come
      behind : (m s : ℕ) → s < 2 → (m ≡ n → s ≡ j → ⊥) → get_or (clause f m) s 0 ≡ literal → names (v ∷ rest) m ≡ true → names rest m ≡ true
      behind m s a d e q = elim (names_front v rest m q) [
        | inl z ↦ absurd (other_literal s a (d (z ∙ is_v)) (ap (λ i. get_or (clause f i) s 0) (sym (z ∙ is_v)) ∙ e))
        | inr z ↦ z
      ]

      -- where a watch moves to a literal that isn't false, the scan goes on behind its watcher
      pub moved : IsScanning before f2 t w2 front rest literal None
      moved =
          let l = long f n j k there in_j in_k in
          record {
            sound = sound_moved h.sound o;
            fronts = entries_now f n j k there in_j in_k front h.fronts;
            rests = entries_now f n j k there in_j in_k rest h.rests.1;
            listed = λ m s a b d. elim (watched_now f n j k there in_j in_k m s b far near) [
              | inl z ↦ inl (ap (λ i. names (get_or w2 i []) m) z.2 ∙ ap (λ i. names (get_or w2 x []) i) z.0 ∙ names_new)
              | inr z ↦ elim (h.listed m s (omega (arith, l)) b (omega (arith, length_now f n j k there in_j in_k m))) [
                | inl here ↦ inl (names_now (get_or (clause f2 m) s 0) m (ap (λ i. names (get_or w i []) m) z.1 ∙ here))
                | inr q ↦ inr (z.1 ∙ q.0, elim q.1 [ inl y ↦ inl y | inr y ↦ inr (behind m s b z.0 q.0 y) ])
              ]
            ];
            held = h.held;
            quiet = λ m a. quiet_now f n j k there in_j in_k m before t.literals far near
                (false_from_ne_true (has before (opposite x)) (λ q. true≢false (sym (h.held (opposite x) q) ∙ o)))
                (h.quiet m (omega (arith, l)));
            seen = λ q m s a b d e. elim (watched_now f n j k there in_j in_k m s b far near) [
              | inl z ↦ absurd (not_literal (sym z.2 ∙ e))
              | inr z ↦ elim (h.seen refl m s (omega (arith, l)) b (omega (arith, length_now f n j k there in_j in_k m)) (sym z.1 ∙ e)) [
                | inl y ↦ inl (meets_now f n j k there in_j in_k m t.literals y)
                | inr y ↦ inr (behind m s b z.0 (sym z.1 ∙ e) y)
              ]
            ];
            is_false = h.is_false;
            reached = h.reached;
            ahead = h.ahead;
            taken = get_or-set_other w x literal (get_or w x [] ++ u ∷ []) [] (λ e. not_literal (sym e)) ∙ h.taken;
            found = λ m e. absurd cc;
          }
