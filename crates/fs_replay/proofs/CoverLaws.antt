-- Tables that keep what they have.
use Rattle.std.proofs.Common.{◌≡◌, ℕ, zero, suc, ◌+◌, ◌<◌, List, [], ◌∷◌, length, take, drop, get_or, Result, Ok, Err, OnOk, refl, sym, ap, ◌∙◌, arith}
use Rattle.fs_semantics.specs.FileTree.{Path, parent}
use Rattle.fs_semantics.specs.Programs.{Test, True, False, Not, And, Or, IsFile, IsLink, IsDir, IsEmpty, IsNone, Program, Programs, Id, Err, Mkdir, Creat, Link, Rm, Cp, Steps, If, none, next}
use Rattle.fs_interpreter.specs.Places.{Listed, Keeps, CoversTest, Covers, CoversSteps}

-- a table keeps what it has
pub keeps_same : (t : Listed) → Keeps t t
keeps_same t = record { paths = λ p h. h; contents = λ c h. h }

-- a table that keeps another keeps what that one keeps of a third
pub keeps_more : (t u v : Listed) → Keeps t u → Keeps u v → Keeps t v
keeps_more t u v a b = record { paths = λ p h. b.paths p (a.paths p h); contents = λ c h. b.contents c (a.contents c h) }

-- where a table has what a test names, one that keeps it has it too
pub test_later : (t u : Listed) (a : Test) → Keeps t u → CoversTest t a → CoversTest u a
test_later t u True k h = tt
test_later t u False k h = tt
test_later t u (Not a) k h = test_later t u a k h
test_later t u (And a b) k h = (test_later t u a k h.0, test_later t u b k h.1)
test_later t u (Or a b) k h = (test_later t u a k h.0, test_later t u b k h.1)
test_later t u (IsFile p) k h = k.paths p h
test_later t u (IsLink p) k h = k.paths p h
test_later t u (IsDir p) k h = k.paths p h
test_later t u (IsEmpty p) k h = k.paths p h
test_later t u (IsNone p) k h = k.paths p h

mutual
  -- where a table has what a program names, one that keeps it has it too
  pub covers_later : (t u : Listed) (e : Program) → Keeps t u → Covers t e → Covers u e
  covers_later t u Id k h = tt
  covers_later t u Err k h = tt
  covers_later t u (Mkdir p) k h = k.paths p h
  covers_later t u (Creat p c) k h = (k.paths p h.0, k.contents c h.1)
  covers_later t u (Link p c) k h = (k.paths p h.0, k.contents c h.1)
  covers_later t u (Rm p) k h = k.paths p h
  covers_later t u (Cp p q) k h = (k.paths p h.0, k.paths q h.1)
  covers_later t u (Steps es) k h = steps_later t u es k h
  covers_later t u (If a e f) k h = (test_later t u a k h.0, covers_later t u e k h.1, covers_later t u f k h.2)

  -- and so it is for a list of steps
  pub steps_later : (t u : Listed) (es : Programs) → Keeps t u → CoversSteps t es → CoversSteps u es
  steps_later t u none k h = tt
  steps_later t u (next e es) k h = (covers_later t u e k h.0, steps_later t u es k h.1)

-- a front one longer has the front as its parent
one_longer : (p : Path) (k : ℕ) → k < length p → parent (take (suc k) p) ≡ take k p
one_longer [] k h = absurd (omega arith)
one_longer (s ∷ []) zero h = refl
one_longer (s ∷ []) (suc k) h = absurd (omega arith)
one_longer (s ∷ r ∷ p) zero h = refl
one_longer (s ∷ r ∷ p) (suc k) h = ap (λ q. s ∷ q) (one_longer (r ∷ p) k (omega arith))

-- the same, where the length is counted on by one
pub front_parent : (p : Path) (k : ℕ) → k < length p → parent (take (k + 1) p) ≡ take k p
front_parent p k h = let next : k + 1 ≡ suc k = omega arith in ap (λ n. parent (take n p)) next ∙ one_longer p k h

-- what holds anyway holds where a result is good
pub when_ok : {X E : Type 0} (r : Result X E) {P : Type 0} → P → OnOk r P
when_ok (Ok x) p = p
when_ok (Err e) p = tt

-- what follows from two facts follows where a result is good, if there both hold
pub both_ok : {X E : Type 0} (r : Result X E) {P Q R : Type 0} → (P → Q → R) → OnOk r P → OnOk r Q → OnOk r R
both_ok (Ok x) f p q = f p q
both_ok (Err e) f p q = tt

-- and so does what follows from three
pub three_ok : {X E : Type 0} (r : Result X E) {P Q R S : Type 0} → (P → Q → R → S) → OnOk r P → OnOk r Q → OnOk r R → OnOk r S
three_ok (Ok x) f p q r = f p q r
three_ok (Err e) f p q r = tt

-- the item at a place, and what comes after it
pub drop_item : {X : Type 0} (xs : List X) (i : ℕ) (x : X) → i < length xs → x ≡ get_or xs i x → drop i xs ≡ x ∷ drop (i + 1) xs
drop_item [] i x h e = absurd (omega arith)
drop_item (y ∷ xs) zero x h e = ap (λ z. z ∷ xs) (sym e)
drop_item (y ∷ xs) (suc i) x h e = drop_item xs i x (omega arith) e ∙ ap (λ k. x ∷ drop k (y ∷ xs)) next
  where
    next : suc (i + 1) ≡ suc i + 1
    next = omega arith
