-- How many nodes a node waits for.
use Rattle.std.proofs.Common.{◌≡◌, ℕ, zero, suc, Bool, true, false, not, cond, ◌+◌, ◌<◌, ◌≤◌, ⊎_elim, List, [], ◌∷◌, length, get_or, set, refl, sym, ap, ◌∙◌, subst, arith}
use Rattle.std.specs.Prelude.{slice_index, ◌&&◌, if◌then◌else◌}
use Rattle.std.proofs.lemmas.Bool.{cases_lt}
use Rattle.std.proofs.lemmas.List.{get_or-set_same, get_or-set_other}
use Rattle.orders.specs.Counting.{holds_up, waiting, count_false}

-- for those below b, `more` has one more than `less` where a comes before them, and from b on they are alike
pub record IsHeld (before : ℕ → ℕ → Bool) (n a b : ℕ) (less more : List ℕ) : Type 0 where
  pub changed : (j : ℕ) → j < b → slice_index more j ≡ (if before a j then 1 else 0) + slice_index less j
  pub kept : (j : ℕ) → b ≤ j → slice_index more j ≡ slice_index less j

-- a truth value counts for one at most
one_at_most : (t : Bool) → cond t 1 0 ≤ 1
one_at_most true = omega arith
one_at_most false = omega arith

-- where none is left to wait for, one that comes before is taken
none_left : (p t : Bool) (n : ℕ) → p ≡ true → cond (p && not t) 1 0 + n ≡ 0 → t ≡ true
none_left true true n e h = refl
none_left true false n e h = absurd (omega arith)
none_left false t n e h = cc

-- one that is taken isn't waited for
all_gone : (p t : Bool) → (p ≡ true → t ≡ true) → (p && not t) ≡ false
all_gone true true h = refl
all_gone true false h = sym (h refl)
all_gone false t h = refl

-- a node that is taken now was waited for once where it comes before
at_itself : (p t u : Bool) (n : ℕ) → t ≡ false → u ≡ true → cond p 1 0 + (cond (p && not u) 1 0 + n) ≡ cond (p && not t) 1 0 + n
at_itself true false true n e f = omega arith
at_itself false false true n e f = omega arith
at_itself p true u n e f = cc
at_itself p false false n e f = cc

-- no node waits for more than there are
pub waiting_le : (before : ℕ → ℕ → Bool) (taken : List Bool) (n b : ℕ) → waiting before taken n b ≤ n
waiting_le before taken zero b = omega arith
waiting_le before taken (suc n) b = omega (arith, waiting_le before taken n b, one_at_most (holds_up before taken n b))

-- how many wait goes by the marks below n alone
pub waiting_same : (before : ℕ → ℕ → Bool) (taken other : List Bool) (n b : ℕ) → ((k : ℕ) → k < n → get_or taken k false ≡ get_or other k false) → waiting before taken n b ≡ waiting before other n b
waiting_same before taken other zero b h = refl
waiting_same before taken other (suc n) b h =
    ap (λ t. cond (before n b && not t) 1 0 + waiting before taken n b) (h n (omega arith))
    ∙ ap (λ v. cond (holds_up before other n b) 1 0 + v) (waiting_same before taken other n b (λ k l. h k (omega arith)))

-- a node that waits for none has all its predecessors taken
pub waiting_none : (before : ℕ → ℕ → Bool) (taken : List Bool) (n b : ℕ) → waiting before taken n b ≡ 0 → (a : ℕ) → a < n → before a b ≡ true → get_or taken a false ≡ true
waiting_none before taken zero b e a l t = absurd (omega arith)
waiting_none before taken (suc n) b e a l t =
    ⊎_elim
    (λ m. waiting_none before taken n b (omega arith) a m t)
    (λ m. let same : a ≡ n = omega arith in
    let P : ℕ → Type 0 = λ v. before v b ≡ true → get_or taken v false ≡ true in
    subst P (sym same) (λ t. none_left (before n b) (get_or taken n false) (waiting before taken n b) t e) t) (cases_lt a n)

-- and a node with all its predecessors taken waits for none
pub waiting_zero : (before : ℕ → ℕ → Bool) (taken : List Bool) (n b : ℕ) → ((a : ℕ) → a < n → before a b ≡ true → get_or taken a false ≡ true) → waiting before taken n b ≡ 0
waiting_zero before taken zero b h = refl
waiting_zero before taken (suc n) b h =
    ap (λ t. cond t 1 0 + waiting before taken n b) (all_gone (before n b) (get_or taken n false) (h n (omega arith)))
    ∙ ap (λ v. 0 + v) (waiting_zero before taken n b (λ a l. h a (omega arith)))

-- taking one node
pub waiting_set : (before : ℕ → ℕ → Bool) (taken : List Bool) (n b x : ℕ) → x < length taken → x < n → get_or taken x false ≡ false
    → (if before x b then 1 else 0) + waiting before (set taken x true) n b ≡ waiting before taken n b
waiting_set before taken zero b x within l unset = absurd (omega arith)
waiting_set before taken (suc n) b x within l unset =
    ⊎_elim
    (λ m. let ih = waiting_set before taken n b x within m unset in
    let e : holds_up before (set taken x true) n b ≡ holds_up before taken n b = ap (λ t. before n b && not t) (get_or-set_other taken x n true false (λ d. omega arith)) in
    let f : ◌≡◌ {A = ℕ} (cond (holds_up before (set taken x true) n b) 1 0) (cond (holds_up before taken n b) 1 0) = ap (λ t. cond t 1 0) e in
    omega arith)
    (λ m. let same : x ≡ n = omega arith in
    let below : waiting before (set taken x true) n b ≡ waiting before taken n b = waiting_same before (set taken x true) taken n b (λ k j. get_or-set_other taken x k true false (λ d. omega arith)) in
    let P : ℕ → Type 0 = λ v. get_or taken v false ≡ false → v < length taken
    → cond (before v b) 1 0 + (cond (holds_up before (set taken v true) n b) 1 0 + waiting before taken n b) ≡ cond (holds_up before taken n b) 1 0 + waiting before taken n b in
    ap (λ w. cond (before x b) 1 0 + (cond (holds_up before (set taken x true) n b) 1 0 + w)) below
    ∙ subst P (sym same)
    (λ u i. at_itself (before n b) (get_or taken n false) (get_or (set taken n true) n false) (waiting before taken n b) u (get_or-set_same taken n true false i)) unset within) (cases_lt x n)

-- setting a mark leaves one less unset
pub count_false_set : (marks : List Bool) (k : ℕ) → k < length marks → get_or marks k false ≡ false → suc (count_false (set marks k true)) ≡ count_false marks
count_false_set [] k l e = absurd (omega arith)
count_false_set (true ∷ marks) zero l e = cc
count_false_set (false ∷ marks) zero l e = omega arith
count_false_set (mark ∷ marks) (suc k) l e = omega (arith, count_false_set marks k (omega arith) e)

-- to set a mark that isn't set leaves one less unset
pub count_false_less : (marks : List Bool) (k : ℕ) → k < length marks → get_or marks k false ≡ false → count_false (set marks k true) < count_false marks
count_false_less marks k l e = omega (arith, count_false_set marks k l e)

-- nothing is both true and false
pub clash : {t : Bool} → t ≡ false → t ≡ true → ⊥
clash e f = cc
