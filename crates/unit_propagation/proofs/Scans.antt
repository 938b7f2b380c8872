-- Laws of a scan of watchers: what each watcher's visit keeps.
use Rattle.std.proofs.Common.{◌≡◌, ◌⊎◌, inl, inr, ℕ, zero, suc, ◌+◌, ◌*◌, ◌<◌, ◌≤◌, true, false, true≢false, ◌||◌, List, [], ◌∷◌, ◌++◌, length, take, get_or, Option, Some, None, refl, sym, ap, ◌∙◌, subst, arith}
use Rattle.std.specs.Prelude.{◌==◌}
use Rattle.std.specs.List.{AllByRecursion}
use Rattle.std.proofs.Math.ListN.{set, length-set}
use Rattle.std.proofs.lemmas.List.{get_or-set_other, get_or-set_same, length-append, take-append-le, take_all, take_more}
use Rattle.std.proofs.lemmas.Bool.{eqb-true, eq-eqb, cases_eq, cases_Bool, cases_lt, or_cases, or_left, or_right}
use Rattle.std.proofs.lemmas.List.Folds.{list_any-append}
use Rattle.unit_propagation.specs.Literals.{opposite, has}
use Rattle.unit_propagation.specs.Trails.{Way}
use Rattle.unit_propagation.specs.declared.watches.Watcher.{Watcher}
use Rattle.unit_propagation.specs.Watching.{clause, names, Meets, IsQuiet, IsEntry, Gives, IsFalse, IsSound, IsListed, IsReady, IsScanning, Scanning, IsStopped, TwoFree, AtRest, with_literal}
use Rattle.unit_propagation.proofs.Marks.{opposite_twice, opposite_differs, has_last, has_other, has_kept, has_at, get_front, get_end, reason_front, reason_end, some_same, some_none}

-- ---- names in lists
-- a list with one watcher more names what it named, and the clause of that one
names_more : (list : List Watcher) (v : Watcher) (n : ℕ) → names (list ++ v ∷ []) n ≡ (names list n || ((n == v.clause) || false))
names_more list v n = list_any-append (λ (u : Watcher). n == u.clause) list (v ∷ [])

-- a list with one watcher more names what it named
pub names_kept : (list : List Watcher) (v : Watcher) (n : ℕ) → names list n ≡ true → names (list ++ v ∷ []) n ≡ true
names_kept list v n h = names_more list v n ∙ or_left (names list n) ((n == v.clause) || false) h

-- a list names the clause of its last watcher
pub names_last : (list : List Watcher) (v : Watcher) (n : ℕ) → n ≡ v.clause → names (list ++ v ∷ []) n ≡ true
names_last list v n e = names_more list v n ∙ or_right (names list n) ((n == v.clause) || false) (or_left (n == v.clause) false (eq-eqb n v.clause e))

-- what a list names is the clause of its first watcher, or is named by the rest
pub names_front : (v : Watcher) (rest : List Watcher) (n : ℕ) → names (v ∷ rest) n ≡ true → (n ≡ v.clause) ⊎ (names rest n ≡ true)
names_front v rest n h = elim (or_cases (n == v.clause) (names rest n) h) [ inl e ↦ inl (eqb-true n v.clause e) | inr r ↦ inr r ]

-- where all watchers name clauses, and one more does, all of them do
pub all_more : (f : List (List ℕ)) (list : List Watcher) (v : Watcher) → AllByRecursion (IsEntry f) list → IsEntry f v → AllByRecursion (IsEntry f) (list ++ v ∷ [])
all_more f [] v h e = (e, tt)
all_more f (u ∷ list) v h e = (h.0, all_more f list v h.1 e)

module _ (before : List ℕ) (f : List (List ℕ)) (t : Way) (w : List (List Watcher)) (front rest : List Watcher) (literal : ℕ) (v : Watcher) where
  -- ---- a watcher that stays
  -- where a watcher stays, each clause is still in the lists of its watched literals, or is to be kept or visited
  listed_kept : (conflict : Option ℕ) (u : Watcher) → u.clause ≡ v.clause → IsScanning before f t w front (v ∷ rest) literal conflict
      → (n s : ℕ) → n < length f → s < 2 → 2 ≤ length (clause f n)
      → (names (get_or w (get_or (clause f n) s 0) []) n ≡ true) ⊎ ((get_or (clause f n) s 0 ≡ literal) × ((names (front ++ u ∷ []) n ≡ true) ⊎ (names rest n ≡ true)))
  listed_kept conflict u e h m s l a b = elim (h.listed m s l a b) [
    | inl here ↦ inl here
    | inr x ↦ elim x.1 [
      | inl y ↦ inr (x.0, inl (names_kept front u m y))
      | inr y ↦ elim (names_front v rest m y) [ inl g ↦ inr (x.0, inl (names_last front u m (g ∙ sym e))) | inr z ↦ inr (x.0, inr z) ]
    ]
  ]

  -- a watcher stays, with a literal of its clause that holds as its blocker
  pub met : (b : ℕ) → IsScanning before f t w front (v ∷ rest) literal None → has (clause f v.clause) b ≡ true → has t.literals b ≡ true
      → IsScanning before f t w (front ++ (record { clause = v.clause; blocker = b }) ∷ []) rest literal None
  met b h stands holds =
      let u : Watcher = record { clause = v.clause; blocker = b } in
      let entry : IsEntry f u = record { there = h.rests.0.there; two = h.rests.0.two; stands = stands } in
      record {
        sound = h.sound;
        held = h.held;
        quiet = h.quiet;
        is_false = h.is_false;
        reached = h.reached;
        ahead = h.ahead;
        taken = h.taken;
        found = h.found;
        fronts = all_more f front u h.fronts entry;
        rests = h.rests.1;
        listed = listed_kept None u refl h;
        seen = λ q m s l a c e. elim (h.seen q m s l a c e) [
          | inl y ↦ inl y
          | inr y ↦ elim (names_front v rest m y) [ inl g ↦ inl (subst (λ k. Meets (clause f k) t.literals) (sym g) (record { literal = b; stands = stands; holds = holds })) | inr z ↦ inr z ]
        ];
      }

  -- ---- a clause that is false
  -- a clause of which all literals are false is the conflict, and its watcher stays
  pub falsified : IsScanning before f t w front (v ∷ rest) literal None → IsFalse f t.literals v.clause → IsScanning before f t w (front ++ v ∷ []) rest literal (Some v.clause)
  falsified h x = record {
    sound = h.sound;
    fronts = all_more f front v h.fronts h.rests.0;
    rests = h.rests.1;
    listed = listed_kept None v refl h;
    held = h.held;
    quiet = h.quiet;
    seen = λ q. absurd cc;
    is_false = h.is_false;
    reached = h.reached;
    ahead = h.ahead;
    taken = h.taken;
    found = λ n e. let same : v.clause ≡ n = cc in subst (IsFalse f t.literals) same x;
  }

  -- ---- after a clause that is false all stay
  -- behind a conflict the other watchers stay as they are
  pub copied : (n : ℕ) → IsScanning before f t w front (v ∷ rest) literal (Some n) → IsScanning before f t w (front ++ v ∷ []) rest literal (Some n)
  copied n h = record {
    sound = h.sound;
    fronts = all_more f front v h.fronts h.rests.0;
    rests = h.rests.1;
    listed = listed_kept (Some n) v refl h;
    held = h.held;
    quiet = h.quiet;
    seen = λ q. absurd cc;
    is_false = h.is_false;
    reached = h.reached;
    ahead = h.ahead;
    taken = h.taken;
    found = h.found;
  }

-- ---- one more literal that holds
-- a clause of which some literal holds still has one when one more literal is set
meets_more : (c t : List ℕ) (x : ℕ) → Meets c t → Meets c (t ++ x ∷ [])
meets_more c t x m = record { literal = m.literal; stands = m.stands; holds = has_kept t x m.literal m.holds }

-- a clause that asks for nothing still asks for nothing when one more literal is set
pub quiet_more : (done t c : List ℕ) (x : ℕ) → IsQuiet done t c → IsQuiet done (t ++ x ∷ []) c
quiet_more done t c x q = record { watched = λ s a b h. meets_more c t x (q.watched s a b h); short = λ a. meets_more c t x (q.short a) }

-- a front of the trail stays what it is when one more literal is set
pub take_front : (t : List ℕ) (x p : ℕ) → p ≤ length t → take p (t ++ x ∷ []) ≡ take p t
take_front t x p h = take-append-le p t (x ∷ []) h

-- if a literal is the opposite of another, then that of it
opposite_swap : (x y : ℕ) → opposite x ≡ y → x ≡ opposite y
opposite_swap x y e = sym (opposite_twice x) ∙ ap opposite e

module _ (f : List (List ℕ)) (t : Way) (w : List (List Watcher)) (x reason : ℕ) where
  -- with an unassigned literal set, no literal holds together with its opposite
  pub consistent_more : IsSound f t w → has t.literals x ≡ false → has t.literals (opposite x) ≡ false → (y : ℕ) → has (t.literals ++ x ∷ []) y ≡ true → has (t.literals ++ x ∷ []) (opposite y) ≡ true → ⊥
  consistent_more h a b y p q = elim (cases_eq y x) [
    | inl e ↦
        let n : opposite y ≡ x → ⊥ = λ g. opposite_differs y (g ∙ sym e) in
        true≢false (sym q ∙ has_other t.literals x (opposite y) n ∙ ap (λ z. has t.literals (opposite z)) e ∙ b)
    | inr n ↦ elim (cases_eq (opposite y) x) [
      | inl e ↦ true≢false (sym p ∙ has_other t.literals x y n ∙ ap (has t.literals) (opposite_swap y x e) ∙ b)
      | inr m ↦ h.consistent y (sym (has_other t.literals x y n) ∙ p) (sym (has_other t.literals x (opposite y) m) ∙ q)
    ]
  ]

  -- the invariants hold with one literal more that a clause gave
  pub sound_more : IsSound f t w → x < 2 * t.vars → has t.literals x ≡ false → has t.literals (opposite x) ≡ false → Gives f t.literals x reason → IsSound f (with_literal t x reason) w
  sound_more h lt a b given =
      let lr = h.long_reasons in
      let lw = length-append t.literals (x ∷ []) in
      record {
        few = h.few;
        long = h.long;
        within = h.within;
        once = h.once;
        below = λ y p. elim (cases_eq y x) [ inl e ↦ omega arith | inr n ↦ h.below y (sym (has_other t.literals x y n) ∙ p) ];
        consistent = consistent_more h a b;
        long_reasons = length-append t.reasons (Some reason ∷ []) ∙ (let e : length t.reasons + 1 ≡ length (t.literals ++ x ∷ []) = omega (arith, lw) in e);
        reasons = λ p n l e. elim (cases_eq p (length t.literals)) [
          | inl s ↦
              let q : Some reason ≡ Some n = sym (reason_end t.reasons reason p (s ∙ sym lr)) ∙ e in
              subst (λ (ts : List ℕ). Gives f ts (get_or (t.literals ++ x ∷ []) p 0) n)
              (sym (ap (λ k. take k (t.literals ++ x ∷ [])) s ∙ take_front t.literals x (length t.literals) (omega arith) ∙ take_whole t.literals))
              (subst (λ y. Gives f t.literals y n) (sym (get_end t.literals x p s)) (subst (Gives f t.literals x) (some_same reason n q) given))
          | inr s ↦
              let below : p < length t.literals = omega (arith, lw) in
              let old = h.reasons p n below (sym (reason_front t.reasons (Some reason) p (omega (arith, lr, below))) ∙ e) in
              subst (λ (ts : List ℕ). Gives f ts (get_or (t.literals ++ x ∷ []) p 0) n) (sym (take_front t.literals x p (omega arith)))
              (subst (λ y. Gives f (take p t.literals) y n) (sym (get_front t.literals x p below)) old)
        ];
        driven = λ p l n e. elim (cases_eq p (length t.literals)) [
          | inl s ↦ some_none reason (sym (reason_end t.reasons reason p (s ∙ sym lr)) ∙ e)
          | inr s ↦
              let below : p < length t.literals = omega (arith, lw) in
              h.driven p below n (sym (reason_front t.reasons (Some reason) p (omega (arith, lr, below))) ∙ e)
        ];
        starts = λ k l. let old = h.starts k l in omega (arith, lw);
        settled = λ k n l m. subst (λ (ts : List ℕ). IsQuiet ts ts (clause f n)) (sym (take_front t.literals x (get_or t.starts k 0) (h.starts k l))) (h.settled k n l m);
        entries = h.entries;
      }
    where
      take_whole : (ts : List ℕ) → take (length ts) ts ≡ ts
      take_whole [] = refl
      take_whole (y ∷ ts) = ap (λ r. y ∷ r) (take_whole ts)

module _ (before : List ℕ) (f : List (List ℕ)) (t : Way) (w : List (List Watcher)) (front rest : List Watcher) (literal : ℕ) (v : Watcher) where
  -- the last literal of a clause that can hold is set, and the watcher stays with it as its blocker
  pub forced : (b : ℕ) → IsScanning before f t w front (v ∷ rest) literal None → has t.literals b ≡ false → has t.literals (opposite b) ≡ false → Gives f t.literals b v.clause
      → IsScanning before f (with_literal t b v.clause) w (front ++ (record { clause = v.clause; blocker = b }) ∷ []) rest literal None
  forced b h a o g =
      met before f (with_literal t b v.clause) w front rest literal v b
      (record {
        sound = sound_more f t w b v.clause h.sound (h.sound.within v.clause b g.there g.stands) a o g;
        fronts = h.fronts;
        rests = h.rests;
        listed = h.listed;
        held = λ x p. has_kept t.literals b x (h.held x p);
        quiet = λ n l. quiet_more before t.literals (clause f n) b (h.quiet n l);
        seen = λ q n s l p r e. elim (h.seen q n s l p r e) [ inl m ↦ inl (meets_more (clause f n) t.literals b m) | inr z ↦ inr z ];
        is_false = has_kept t.literals b (opposite literal) h.is_false;
        reached = (let q = h.reached in omega (arith, length-append t.literals (b ∷ [])));
        ahead = take_front t.literals b t.done h.reached ∙ h.ahead;
        taken = h.taken;
        found = λ n e. absurd cc;
      })
      g.stands (has_last t.literals b)

-- what stands in a front of the trail stands on the trail
pub has_first : (t : List ℕ) (p x : ℕ) → has (take p t) x ≡ true → has t x ≡ true
has_first t zero x h = absurd (true≢false (sym h))
has_first [] (suc p) x h = h
has_first (y ∷ t) (suc p) x h = elim (or_cases (x == y) (has (take p t) x) h) [ inl e ↦ or_left (x == y) (has t x) e | inr r ↦ or_right (x == y) (has t x) (has_first t p x r) ]

-- ---- where a scan begins and ends
-- the next front of the trail has the next literal more
take_next : (t : List ℕ) (p : ℕ) → p < length t → take (p + 1) t ≡ take p t ++ get_or t p 0 ∷ []
take_next t p h = take_more t p 0 h

-- the invariants hold where a list of watchers is replaced by one whose watchers name clauses
sound_taken : (f : List (List ℕ)) (t : Way) (w : List (List Watcher)) (literal done : ℕ) (list : List Watcher) → literal < length w → AllByRecursion (IsEntry f) list → IsSound f t w
    → IsSound f (record { vars = t.vars; literals = t.literals; reasons = t.reasons; starts = t.starts; done = done }) (set w literal list)
sound_taken f t w literal done list lt all h = record {
  few = h.few;
  long = length-set w literal list ∙ h.long;
  within = h.within;
  once = h.once;
  below = h.below;
  consistent = h.consistent;
  long_reasons = h.long_reasons;
  reasons = h.reasons;
  driven = h.driven;
  starts = h.starts;
  settled = h.settled;
  entries = λ y. elim (cases_eq y literal) [
    | inl e ↦ subst (λ i. AllByRecursion (IsEntry f) (get_or (set w literal list) i [])) (sym e) (subst (AllByRecursion (IsEntry f)) (sym (get_or-set_same w literal list [] lt)) all)
    | inr d ↦ subst (AllByRecursion (IsEntry f)) (sym (get_or-set_other w literal y list [] d)) (h.entries y)
  ];
}

-- the next literal's watchers are to be visited, and its list is empty meanwhile
pub begun : (f : List (List ℕ)) (t : Way) (w : List (List Watcher)) (literal : ℕ) → IsReady f t w → t.done < length t.literals → literal ≡ opposite (get_or t.literals t.done 0) → literal < length w
    → IsScanning (take t.done t.literals) f (record { vars = t.vars; literals = t.literals; reasons = t.reasons; starts = t.starts; done = t.done + 1 }) (set w literal []) [] (get_or w literal []) literal None
begun f t w literal h lt e below =
    let back : opposite literal ≡ get_or t.literals t.done 0 = ap opposite e ∙ opposite_twice (get_or t.literals t.done 0) in
    record {
      sound = sound_taken f t w literal (t.done + 1) [] below tt h.sound;
      fronts = tt;
      rests = h.sound.entries literal;
      listed = λ n s a b c. elim (cases_eq (get_or (clause f n) s 0) literal) [
        | inl q ↦ inr (q, inr (ap (λ i. names (get_or w i []) n) (sym q) ∙ h.listed n s a b c))
        | inr d ↦ inl (ap (λ l. names l n) (get_or-set_other w literal (get_or (clause f n) s 0) [] [] d) ∙ h.listed n s a b c)
      ];
      held = λ x p. has_first t.literals t.done x p;
      quiet = h.quiet;
      seen = λ q n s a b c d. elim (cases_lt (length (clause f n)) 2) [
        | inl l ↦ inl ((h.quiet n a).short l)
        | inr l ↦ inr (ap (λ i. names (get_or w i []) n) (sym d) ∙ h.listed n s a b l)
      ];
      is_false = ap (has t.literals) back ∙ has_at t.literals t.done lt;
      reached = omega arith;
      ahead = take_next t.literals t.done lt ∙ ap (λ x. take t.done t.literals ++ x ∷ []) (sym back);
      taken = get_or-set_same w literal [] [] below;
      found = λ n q. absurd cc;
    }

-- with the watchers that stay back in their list each clause is in the lists of its watched literals
listed_ended : (f : List (List ℕ)) (w : List (List Watcher)) (literal : ℕ) (front : List Watcher) → literal < length w → get_or w literal [] ≡ []
    → ((n s : ℕ) → n < length f → s < 2 → 2 ≤ length (clause f n) → (names (get_or w (get_or (clause f n) s 0) []) n ≡ true) ⊎ ((get_or (clause f n) s 0 ≡ literal) × ((names front n ≡ true) ⊎ (names [] n ≡ true))))
    → IsListed f (set w literal front)
listed_ended f w literal front below none h n s a b c = elim (h n s a b c) [
  | inl q ↦ elim (cases_eq (get_or (clause f n) s 0) literal) [
    | inl e ↦ absurd (true≢false (sym (ap (λ l. names l n) (sym none) ∙ ap (λ i. names (get_or w i []) n) (sym e) ∙ q)))
    | inr d ↦ ap (λ l. names l n) (get_or-set_other w literal (get_or (clause f n) s 0) front [] d) ∙ q
  ]
  | inr q ↦ elim q.1 [
    | inl y ↦ ap (λ i. names (get_or (set w literal front) i []) n) q.0 ∙ ap (λ l. names l n) (get_or-set_same w literal front [] below) ∙ y
    | inr y ↦ absurd (true≢false (sym y))
  ]
]

-- where all watchers were visited without a conflict, propagation can go on with the next literal
pub ended : (f : List (List ℕ)) (t : Way) (w : List (List Watcher)) (front : List Watcher) (literal : ℕ) → Scanning f t w front [] literal None → literal < length w → IsReady f t (set w literal front)
ended f t w front literal (before, h) below = record {
  sound = sound_taken f t w literal t.done front below h.fronts h.sound;
  listed = listed_ended f w literal front below h.taken h.listed;
  reached = h.reached;
  quiet = λ n a. record {
    watched = λ s b c p.
        let y = get_or (clause f n) s 0 in
        let q : has (before ++ opposite literal ∷ []) (opposite y) ≡ true = ap (λ ts. has ts (opposite y)) (sym h.ahead) ∙ p in
        elim (cases_eq (opposite y) (opposite literal)) [
          | inl e ↦ elim (h.seen refl n s a b c (opposite_swap y (opposite literal) e ∙ opposite_twice literal)) [ inl m ↦ m | inr z ↦ absurd (true≢false (sym z)) ]
          | inr d ↦ (h.quiet n a).watched s b c (sym (has_other before (opposite literal) (opposite y) d) ∙ q)
        ];
    short = (h.quiet n a).short;
  };
}

-- where a conflict was found, propagation stops with it
pub stopped : (f : List (List ℕ)) (t : Way) (w : List (List Watcher)) (front : List Watcher) (literal n : ℕ) → Scanning f t w front [] literal (Some n) → literal < length w → IsStopped f t (set w literal front) n
stopped f t w front literal n (before, h) below = record {
  sound = sound_taken f t w literal t.done front below h.fronts h.sound;
  listed = listed_ended f w literal front below h.taken h.listed;
  found = h.found n refl;
}

-- ---- where nothing more is to be propagated
-- where all literals are propagated each clause has one that holds, or two that are unassigned
pub at_rest : (f : List (List ℕ)) (t : Way) (w : List (List Watcher)) → IsReady f t w → t.done ≡ length t.literals → AtRest f t.literals
at_rest f t w h e n a = elim (cases_lt (length (clause f n)) 2) [
  | inl l ↦ inl ((h.quiet n a).short l)
  | inr l ↦ by (has_is t.literals (opposite (get_or (clause f n) 0 0))) (has_is t.literals (opposite (get_or (clause f n) 1 0))) (has_is t.literals (get_or (clause f n) 0 0)) (has_is t.literals (get_or (clause f n) 1 0)) l
]
  where
    all_done : take t.done t.literals ≡ t.literals
    all_done = take_all t.done t.literals (omega arith)

    has_is : (ts : List ℕ) (x : ℕ) → (has ts x ≡ true) ⊎ (has ts x ≡ false)
    has_is ts x = cases_Bool (has ts x)

    met_by : (s : ℕ) → s < 2 → 2 ≤ length (clause f n) → has t.literals (opposite (get_or (clause f n) s 0)) ≡ true → Meets (clause f n) t.literals
    met_by s b l p = (h.quiet n a).watched s b (omega arith) (ap (λ ts. has ts (opposite (get_or (clause f n) s 0))) all_done ∙ p)

    by : let c = clause f n in (has t.literals (opposite (get_or c 0 0)) ≡ true) ⊎ (has t.literals (opposite (get_or c 0 0)) ≡ false)
        → (has t.literals (opposite (get_or c 1 0)) ≡ true) ⊎ (has t.literals (opposite (get_or c 1 0)) ≡ false)
        → (has t.literals (get_or c 0 0) ≡ true) ⊎ (has t.literals (get_or c 0 0) ≡ false)
        → (has t.literals (get_or c 1 0) ≡ true) ⊎ (has t.literals (get_or c 1 0) ≡ false)
        → 2 ≤ length c → Meets c t.literals ⊎ TwoFree c t.literals
    by (inl p) q r s l = inl (met_by 0 (omega arith) l p)
    by (inr p) (inl q) r s l = inl (met_by 1 (omega arith) l q)
    by (inr p) (inr q) (inl r) s l = inl (record { literal = get_or (clause f n) 0 0; stands = has_at (clause f n) 0 (omega arith); holds = r })
    by (inr p) (inr q) (inr r) (inl s) l = inl (record { literal = get_or (clause f n) 1 0; stands = has_at (clause f n) 1 (omega arith); holds = s })
    by (inr p) (inr q) (inr r) (inr s) l = inr (record {
      one = get_or (clause f n) 0 0;
      two = get_or (clause f n) 1 0;
      differ = λ e. let z : 0 ≡ 1 = h.sound.once n a 0 1 (omega arith) (omega arith) e in absurd (omega arith);
      one_stands = has_at (clause f n) 0 (omega arith);
      two_stands = has_at (clause f n) 1 (omega arith);
      one_free = (r, p);
      two_free = (s, q);
    })
