-- Laws of clauses that stand one behind the other.
use Rattle.std.proofs.Common.{◌≡◌, ℕ, zero, suc, ◌+◌, ◌-◌, ◌<◌, ◌≤◌, ◌^◌, List, [], ◌∷◌, ◌++◌, length, take, drop, get_or, refl, sym, ap, ◌∙◌, subst, arith}
use Rattle.std.specs.List.{slice_range}
use Rattle.std.proofs.Math.ListN.{set, length-set}
use Rattle.std.proofs.Math.Seq.{take-set-lt}
use Rattle.std.proofs.lemmas.List.{take-set-le, drop-set-lt, drop-set-add, get_or-take, get_or-drop, length-append}
use Rattle.cnf.specs.Store.{Rise}
use Rattle.cnf.proofs.StoreLaws.{rise_push, length-range, range_append, range_last, rise_within}
use Rattle.unit_propagation.specs.Stored.{ranges, clauses_of, IsStored, exchanged}

-- there are as many clauses as ends
length_ranges : (literals : List ℕ) (s : ℕ) (ends : List ℕ) → length (ranges literals s ends) ≡ length ends
length_ranges literals s [] = refl
length_ranges literals s (e ∷ ends) = ap suc (length_ranges literals e ends)

-- there is one place more than clauses: at the last one all of them end
pub count : (literals starts : List ℕ) → IsStored literals starts → (length (clauses_of literals starts) + 1 ≡ length starts)
count literals [] h = absurd h
count literals (s ∷ ends) h = let e = length_ranges literals s ends in omega arith

-- of places that rise each is no later than the next, and none is past the end
rise_at : (s : ℕ) (ends : List ℕ) (m n : ℕ) → Rise s ends m → n < length ends → (get_or (s ∷ ends) n 0 ≤ get_or ends n 0) × (get_or ends n 0 ≤ m)
rise_at s [] m n h k = absurd (omega arith)
rise_at s (e ∷ ends) m zero h k = (h.0, rise_within e ends m h.1)
rise_at s (e ∷ ends) m (suc n) h k = rise_at e ends m n h.1 (omega arith)

-- a clause begins no later than it ends, and ends within the array
pub bounds : (literals starts : List ℕ) (n : ℕ) → IsStored literals starts → n < length (clauses_of literals starts)
    → (n + 1 < length starts) × (get_or starts n 0 ≤ get_or starts (n + 1) 0) × (get_or starts (n + 1) 0 ≤ length literals)
bounds literals [] n h k = absurd h
bounds literals (s ∷ ends) n h k =
    let e = length_ranges literals s ends in
    let r = rise_at s ends (length literals) n h.1 (omega arith) in
    let same : get_or (s ∷ ends) (n + 1) 0 ≡ get_or ends n 0 = ap (λ i. get_or (s ∷ ends) i 0) (let q : n + 1 ≡ suc n = omega arith in q) in
    (omega arith, omega arith, omega arith)

-- the clause with an index has the literals between two places next to one another
range_at : (literals : List ℕ) (s : ℕ) (ends : List ℕ) (n : ℕ) → n < length ends → get_or (ranges literals s ends) n [] ≡ slice_range literals (get_or (s ∷ ends) n 0) (get_or ends n 0)
range_at literals s [] n h = absurd (omega arith)
range_at literals s (e ∷ ends) zero h = refl
range_at literals s (e ∷ ends) (suc n) h = range_at literals e ends n (omega arith)

-- the clause with an index is what stands between its two places
pub at : (literals starts : List ℕ) (n : ℕ) → IsStored literals starts → n < length (clauses_of literals starts)
    → get_or (clauses_of literals starts) n [] ≡ slice_range literals (get_or starts n 0) (get_or starts (n + 1) 0)
at literals [] n h k = absurd h
at literals (s ∷ ends) n h k =
    let e = length_ranges literals s ends in
    let same : n + 1 ≡ suc n = omega arith in
    range_at literals s ends n (omega arith) ∙ ap (λ i. slice_range literals (get_or (s ∷ ends) n 0) (get_or (s ∷ ends) i 0)) (sym same)

-- there are fewer than 2^32 clauses
pub few : (literals starts : List ℕ) → IsStored literals starts → length (clauses_of literals starts) < 2 ^ 32
few literals [] h = absurd h
few literals (s ∷ ends) h = let e = length_ranges literals s ends in let q = h.2 in omega arith

-- where a clause begins, and its length, give where it ends
pub length_at : (literals starts : List ℕ) (n : ℕ) → IsStored literals starts → n < length (clauses_of literals starts)
    → get_or starts n 0 + length (get_or (clauses_of literals starts) n []) ≡ get_or starts (n + 1) 0
length_at literals starts n h l =
    let b = bounds literals starts n h l in
    let long : length (get_or (clauses_of literals starts) n []) ≡ get_or starts (n + 1) 0 - get_or starts n 0 =
    ap length (at literals starts n h l) ∙ length-range literals (get_or starts n 0) (get_or starts (n + 1) 0) b.1 b.2 in
    omega arith

-- ---- one literal written
-- to write ahead of the clauses changes none of them
ranges_above : (literals : List ℕ) (i x s : ℕ) (ends : List ℕ) → i < s → Rise s ends (length literals) → ranges (set literals i x) s ends ≡ ranges literals s ends
ranges_above literals i x s [] h r = refl
ranges_above literals i x s (e ∷ ends) h r =
    let below : i < e = (let q = r.0 in omega arith) in
    ap (λ (d : List ℕ). take (e - s) d ∷ ranges (set literals i x) e ends) (drop-set-lt s literals i x h)
    ∙ ap (λ cs. slice_range literals s e ∷ cs) (ranges_above literals i x e ends below r.1)

-- to write behind a place is to write into what stands behind it
drop_set_at : (literals : List ℕ) (s i j x : ℕ) → i ≡ s + j → drop s (set literals i x) ≡ set (drop s literals) j x
drop_set_at literals s i j x e = ap (λ (k : ℕ). drop s (set literals k x)) e ∙ drop-set-add s literals j x

-- to write within a clause changes that clause, and at just that place
written_in : (literals : List ℕ) (s : ℕ) (ends : List ℕ) (n j x i : ℕ) → Rise s ends (length literals) → n < length ends → i ≡ get_or (s ∷ ends) n 0 + j → i < get_or ends n 0
    → ranges (set literals i x) s ends ≡ set (ranges literals s ends) n (set (get_or (ranges literals s ends) n []) j x)
written_in literals s [] n j x i r h e k = absurd (omega arith)
written_in literals s (f ∷ ends) zero j x i r h e k =
    ap (λ (d : List ℕ). take (f - s) d ∷ ranges (set literals i x) f ends) (drop_set_at literals s i j x e)
    ∙ ap (λ (d : List ℕ). d ∷ ranges (set literals i x) f ends) (take-set-lt (f - s) (drop s literals) j x (omega arith))
    ∙ ap (λ cs. set (slice_range literals s f) j x ∷ cs) (ranges_above literals i x f ends k r.1)
written_in literals s (f ∷ ends) (suc n) j x i r h e k =
    let a = rise_front f ends (length literals) n r.1 (omega arith) in
    let low = r.0 in
    ap (λ (d : List ℕ). take (f - s) d ∷ ranges (set literals i x) f ends) (drop_set_at literals s i (i - s) x (omega arith))
    ∙ ap (λ (d : List ℕ). d ∷ ranges (set literals i x) f ends) (take-set-le (f - s) (drop s literals) (i - s) x (omega arith))
    ∙ ap (λ cs. slice_range literals s f ∷ cs) (written_in literals f ends n j x i r.1 (omega arith) e k)
  where
    rise_front : (s : ℕ) (ends : List ℕ) (m n : ℕ) → Rise s ends m → n < length ends → s ≤ get_or (s ∷ ends) n 0
    rise_front s ends m zero r h = omega arith
    rise_front s [] m (suc n) r h = absurd (omega arith)
    rise_front s (e ∷ ends) m (suc n) r h = let a = rise_front e ends m n r.1 (omega arith) in let b = r.0 in omega arith

-- to write a literal of a clause in the array changes that clause at that place, and no other clause
pub written : (literals starts : List ℕ) (n j x i : ℕ) → IsStored literals starts → n < length (clauses_of literals starts) → i ≡ get_or starts n 0 + j → i < get_or starts (n + 1) 0
    → clauses_of (set literals i x) starts ≡ set (clauses_of literals starts) n (set (get_or (clauses_of literals starts) n []) j x)
written literals [] n j x i h k e l = absurd h
written literals (s ∷ ends) n j x i h k e l =
    let c = length_ranges literals s ends in
    let same : n + 1 ≡ suc n = omega arith in
    written_in literals s ends n j x i h.1 (omega arith) e (subst (λ m. i < get_or (s ∷ ends) m 0) same l)

-- the array stays one of clauses when a literal is written
pub still_stored : (literals starts : List ℕ) (i x : ℕ) → IsStored literals starts → IsStored (set literals i x) starts
still_stored literals [] i x h = h
still_stored literals (s ∷ ends) i x h =
    let e = length-set literals i x in
    (h.0, subst (Rise s ends) (sym e) h.1, h.2, omega arith)

-- of two entries written at one place the last counts
set_again : {X : Type 0} (xs : List X) (n : ℕ) (x y : X) → set (set xs n x) n y ≡ set xs n y
set_again [] n x y = refl
set_again (z ∷ xs) zero x y = refl
set_again (z ∷ xs) (suc n) x y = ap (λ r. z ∷ r) (set_again xs n x y)

-- at the place that was written stands what was written
get_set : {X : Type 0} (xs : List X) (n : ℕ) (x d : X) → n < length xs → get_or (set xs n x) n d ≡ x
get_set [] n x d h = absurd (omega arith)
get_set (z ∷ xs) zero x d h = refl
get_set (z ∷ xs) (suc n) x d h = get_set xs n x d (omega arith)

-- two literals written
pub written_twice : (literals starts : List ℕ) (n j k x y : ℕ) → IsStored literals starts → n < length (clauses_of literals starts)
    → j < length (get_or (clauses_of literals starts) n []) → k < length (get_or (clauses_of literals starts) n [])
    → clauses_of (set (set literals (get_or starts n 0 + j) x) (get_or starts n 0 + k) y) starts
    ≡ set (clauses_of literals starts) n (set (set (get_or (clauses_of literals starts) n []) j x) k y)
written_twice literals starts n j k x y h l p q =
    let a = get_or starts n 0 in
    let f = clauses_of literals starts in
    let c = get_or f n [] in
    let b = bounds literals starts n h l in
    let long : length c ≡ get_or starts (n + 1) 0 - a = ap length (at literals starts n h l) ∙ length-range literals a (get_or starts (n + 1) 0) b.1 b.2 in
    let once = written literals starts n j x (a + j) h l refl (omega arith) in
    let stored = still_stored literals starts (a + j) x h in
    let there : n < length (clauses_of (set literals (a + j) x) starts) = subst (λ (g : List (List ℕ)). n < length g) (sym once) (omega (arith, length-set f n (set c j x))) in
    let twice = written (set literals (a + j) x) starts n k y (a + k) stored there refl (omega arith) in
    let inner : get_or (clauses_of (set literals (a + j) x) starts) n [] ≡ set c j x = ap (λ (g : List (List ℕ)). get_or g n []) once ∙ get_set f n (set c j x) [] l in
    twice ∙ ap (λ (g : List (List ℕ)). set g n (set (get_or (clauses_of (set literals (a + j) x) starts) n []) k y)) once
    ∙ ap (λ (d : List ℕ). set (set f n (set c j x)) n (set d k y)) inner
    ∙ set_again f n (set c j x) (set (set c j x) k y)

-- a literal of a clause stands in the array as far behind the clause's beginning
literal_at : (literals starts : List ℕ) (n k : ℕ) → IsStored literals starts → n < length (clauses_of literals starts) → k < length (get_or (clauses_of literals starts) n [])
    → get_or literals (get_or starts n 0 + k) 0 ≡ get_or (get_or (clauses_of literals starts) n []) k 0
literal_at literals starts n k h l m =
    let a = get_or starts n 0 in
    let b = bounds literals starts n h l in
    let e = at literals starts n h l in
    let long = length_at literals starts n h l in
    sym (ap (λ (c : List ℕ). get_or c k 0) e ∙ get_or-take (get_or starts (n + 1) 0 - a) (drop a literals) k 0 (omega arith) ∙ get_or-drop a literals k 0)

-- two literals of a clause exchanged in the array are exchanged in the clause, and all else stays
pub exchange_is : (literals new starts : List ℕ) (n j k a : ℕ) → IsStored literals starts → n < length (clauses_of literals starts)
    → j < length (get_or (clauses_of literals starts) n []) → k < length (get_or (clauses_of literals starts) n [])
    → a ≡ get_or starts n 0 → new ≡ set (set literals (a + j) (get_or literals (a + k) 0)) (a + k) (get_or literals (a + j) 0)
    → clauses_of new starts ≡ set (clauses_of literals starts) n (exchanged (get_or (clauses_of literals starts) n []) j k)
exchange_is literals new starts n j k a h l p q e w =
    let f = clauses_of literals starts in
    let c = get_or f n [] in
    let x = get_or literals (get_or starts n 0 + k) 0 in
    let y = get_or literals (get_or starts n 0 + j) 0 in
    ap (λ (ws : List ℕ). clauses_of ws starts) w
    ∙ ap (λ (b : ℕ). clauses_of (set (set literals (b + j) (get_or literals (b + k) 0)) (b + k) (get_or literals (b + j) 0)) starts) e
    ∙ written_twice literals starts n j k x y h l p q
    ∙ ap (λ (z : ℕ). set f n (set (set c j z) k y)) (literal_at literals starts n k h l q)
    ∙ ap (λ (z : ℕ). set f n (set (set c j (get_or c k 0)) k z)) (literal_at literals starts n j h l p)

-- literals that are put last, with their end, are one clause more
pub pushed : (literals more starts : List ℕ) (n : ℕ) → IsStored literals starts → n ≡ length (literals ++ more) → clauses_of (literals ++ more) (starts ++ n ∷ []) ≡ clauses_of literals starts ++ more ∷ []
pushed literals more [] n h e = absurd h
pushed literals more (s ∷ ends) n h e = by s ends h.1
  where
    by : (s : ℕ) (ends : List ℕ) → Rise s ends (length literals) → ranges (literals ++ more) s (ends ++ n ∷ []) ≡ ranges literals s ends ++ more ∷ []
    by s [] r = ap (λ (c : List ℕ). c ∷ []) (ap (λ x. slice_range (literals ++ more) x n) r ∙ range_last literals more n e)
    by s (f ∷ ends) r =
        let within = rise_within f ends (length literals) r.1 in
        ap (λ (c : List ℕ). c ∷ ranges (literals ++ more) f (ends ++ n ∷ [])) (range_append literals more s f r.0 within)
        ∙ ap (λ cs. slice_range literals s f ∷ cs) (by f ends r.1)

-- the array stays one of clauses with one clause more
pub stored_more : (literals more starts : List ℕ) (n : ℕ) → IsStored literals starts → n ≡ length (literals ++ more) → length literals ≤ n → n < 2 ^ 32 → length starts < 2 ^ 32 → IsStored (literals ++ more) (starts ++ n ∷ [])
stored_more literals more [] n h e l m k = absurd h
stored_more literals more (s ∷ ends) n h e l m k =
    let c = length-append ends (n ∷ []) in
    (h.0, subst (Rise s (ends ++ n ∷ [])) e (rise_push s ends (length literals) n h.1 l), omega arith, omega arith)
