-- Sums that are capped, and the work of programs by two counts of children.
use Rattle.std.proofs.Common.{◌≡◌, ◌⊎◌, inl, inr, ℕ, zero, suc, ◌+◌, ◌-◌, ◌*◌, ◌^◌, ◌<◌, ◌≤◌, min, Bool, true, false, cond, Some, List, [], ◌∷◌, map, length, refl, sym, ap, ap₂, ◌∙◌, arith}
use Rattle.std.proofs.Math.Nat.{le-mul_of_pos_right, mul_comm, mul-zero}
use Rattle.std.proofs.lemmas.List.{length-map}
use Rattle.std.specs.BTreeMap.{BTreeMap, Updates, get}
use Rattle.fs_semantics.specs.FileTree.{Path, path_cmp, path_eq, parent}
use Rattle.fs_semantics.proofs.Trees.{path_eq_same}
use Rattle.fs_semantics.specs.Programs.{Test, True, False, Not, And, Or, IsFile, IsLink, IsDir, IsEmpty, IsNone, Program, Programs, Id, Err, Mkdir, Creat, Link, Rm, Cp, Steps, If, none, next}
use Rattle.fs_lang.specs.declared.program.Program.{Program as CodeProgram}
use Rattle.fs_lang.specs.Meaning.{program_of, programs_in}
use Rattle.size_limits.specs.Weights.{child_count, test_work, work, steps_work, all_work, capped, or_zero, count_in}

-- what is capped on the way is capped at the end
pub capped_sum : (s a b : ℕ) → capped (capped (s + a) + b) ≡ capped (s + (a + b))
capped_sum s a b = omega arith

-- sums of which both sides are the same when they are capped are so, too
pub capped_both : (a b c d : ℕ) → capped a ≡ capped b → capped c ≡ capped d → capped (a + c) ≡ capped (b + d)
capped_both a b c d h k = omega (arith, h, k)

-- a path's count that is raised by one, capped, is so for that path alone
pub counted : (m n : BTreeMap Path ℕ) (k q : Path) (v : ℕ) → Updates path_cmp m n k (Some v) → v ≡ capped (count_in m k + 1) → count_in n q ≡ cond (path_eq k q) (capped (count_in m q + 1)) (count_in m q)
counted m n k q v u is = ap or_zero (u.0 q) ∙ by (path_eq k q) refl
  where
    by : (b : Bool) → path_eq k q ≡ b → or_zero (cond b (Some v) (get path_cmp m q)) ≡ cond b (capped (count_in m q + 1)) (count_in m q)
    by true e = is ∙ ap (λ p. capped (count_in m p + 1)) (path_eq_same k q e)
    by false e = refl

-- a child more was counted
pub one_child : (old rest : List Path) (p q : Path) (n m : ℕ) → old ≡ p ∷ rest → m ≡ cond (path_eq (parent p) q) (capped (n + 1)) n → capped (m + child_count rest q) ≡ capped (n + child_count old q)
one_child old rest p q n m at is = ap (λ x. capped (x + child_count rest q)) is ∙ by (path_eq (parent p) q) ∙ ap (λ l. capped (n + child_count l q)) (sym at)
  where
    by : (b : Bool) → capped (cond b (capped (n + 1)) n + child_count rest q) ≡ capped (n + (cond b 1 0 + child_count rest q))
    by true = omega arith
    by false = omega arith

-- the steps of a list are as much work as its programs
pub same_work : (f : Path → ℕ) (es : List CodeProgram) → steps_work f (programs_in es) ≡ all_work f (map program_of es)
same_work f [] = refl
same_work f (e ∷ es) = ap (λ n. work f (program_of e) + n) (same_work f es)

-- ---- by two counts

module _ (f g : Path → ℕ) (same : (p : Path) → capped (f p) ≡ capped (g p)) where
  -- one more than two counts that are the same when they are capped are so, too
  one_more : (p : Path) → capped (1 + f p) ≡ capped (1 + g p)
  one_more p = capped_both 1 1 (f p) (g p) refl (same p)

  -- a test is the same work by both counts when it is capped
  same_test : (a : Test) → capped (test_work f a) ≡ capped (test_work g a)
  same_test True = refl
  same_test False = refl
  same_test (Not a) = same_test a
  same_test (And a b) = capped_both (test_work f a) (test_work g a) (test_work f b) (test_work g b) (same_test a) (same_test b)
  same_test (Or a b) = capped_both (test_work f a) (test_work g a) (test_work f b) (test_work g b) (same_test a) (same_test b)
  same_test (IsFile p) = refl
  same_test (IsLink p) = refl
  same_test (IsDir p) = refl
  same_test (IsEmpty p) = one_more p
  same_test (IsNone p) = refl

  mutual
    -- and so is a program
    same_program : (e : Program) → capped (work f e) ≡ capped (work g e)
    same_program Id = refl
    same_program Err = refl
    same_program (Mkdir p) = refl
    same_program (Creat p content) = refl
    same_program (Link p target) = refl
    same_program (Rm p) = one_more p
    same_program (Cp from p) = refl
    same_program (Steps es) = same_steps es
    same_program (If a d e) = capped_both (test_work f a) (test_work g a) (work f d + work f e) (work g d + work g e) (same_test a) (capped_both (work f d) (work g d) (work f e) (work g e) (same_program d) (same_program e))

    -- and so are steps
    same_steps : (es : Programs) → capped (steps_work f es) ≡ capped (steps_work g es)
    same_steps none = refl
    same_steps (next e es) = capped_both (work f e) (work g e) (steps_work f es) (steps_work g es) (same_program e) (same_steps es)

  -- and so are all programs
  same_all : (es : List Program) → capped (all_work f es) ≡ capped (all_work g es)
  same_all [] = refl
  same_all (e ∷ es) = capped_both (work f e) (work g e) (all_work f es) (all_work g es) (same_program e) (same_all es)

-- ---- products

-- twice a number is the number twice
turned : (n : ℕ) → n * 2 ≡ 2 * n
turned n = omega arith

-- of two numbers one is at most the other
le_or : (a m : ℕ) → (m ≤ a) ⊎ (a ≤ m)
le_or a zero = inl (omega arith)
le_or zero (suc m) = inr (omega arith)
le_or (suc a) (suc m) = elim (le_or a m) [ inl h ↦ inl (omega (arith, h)) | inr h ↦ inr (omega (arith, h)) ]

-- the lesser of zero and a number is zero
none_of : (m : ℕ) → min 0 m ≡ 0
none_of m = omega arith

-- the lesser of two numbers is the second where that is at most the first
min_right : (x m : ℕ) → m ≤ x → min x m ≡ m
min_right x m h = omega (arith, h)

-- and the first where that is at most the second
min_left : (x m : ℕ) → x ≤ m → min x m ≡ x
min_left x m h = omega (arith, h)

-- a product with a number that isn't zero is at least its other side
reaches : (m a w : ℕ) → m ≤ a → 0 < w → m ≤ a * w
reaches m a w h l = let more = le-mul_of_pos_right a l in omega (arith, h, more)

-- where the first side reaches the bound, the product of bounded sides is the bounded product
large : (m a w : ℕ) → 0 < m → m ≤ a → min (min a m * min w m) m ≡ min (a * w) m
large m a zero p h = ap (λ x. min (min a m * x) m) (none_of m) ∙ ap (λ x. min x m) (mul-zero (min a m)) ∙ sym (ap (λ x. min x m) (mul-zero a))
large m a (suc w) p h =
    min_right (min a m * min (suc w) m) m (reaches m (min a m) (min (suc w) m) (omega (arith, h)) (omega (arith, p)))
    ∙ sym (min_right (a * suc w) m (reaches m a (suc w) h (omega arith)))

-- and so it is where the second side does
large_too : (m a w : ℕ) → 0 < m → m ≤ w → min (min a m * min w m) m ≡ min (a * w) m
large_too m a w p h = ap (λ x. min x m) (mul_comm (min a m) (min w m)) ∙ large m w a p h ∙ ap (λ x. min x m) (mul_comm w a)

-- the product of bounded sides, bounded, is the bounded product
product : (m a w : ℕ) → 0 < m → min (min a m * min w m) m ≡ min (a * w) m
product m a w p = elim (le_or a m) [
  | inl more ↦ large m a w p more
  | inr less ↦ elim (le_or w m) [
    | inl more ↦ large_too m a w p more
    | inr less_too ↦ ap₂ (λ x y. min (x * y) m) (min_left a m less) (min_left w m less_too)
  ]
]

-- the weight may be capped on the way
pub capped_product : (n w v : ℕ) → v ≡ capped w → capped (capped (n * 2) * v) ≡ capped (2 * n * w)
capped_product n w v is = ap (λ x. capped (capped (n * 2) * x)) is ∙ product (2 ^ 64 - 1) (n * 2) w (omega arith) ∙ ap (λ a. capped (a * w)) (turned n)

-- with nothing left to count, what was counted is the whole
pub at_end : (t : ℕ) → t ≤ 2 ^ 64 - 1 → t ≡ capped (t + 0)
at_end t h = omega (arith, h)

-- what is capped is at most the bound
pub is_capped : (t s : ℕ) → t ≡ capped s → t ≤ 2 ^ 64 - 1
is_capped t s h = omega (arith, h)

-- with one more counted, what was counted and what is left are the same whole
pub one_weighed : (t u s a rest all : ℕ) → u ≡ capped (t + a) → all ≡ a + rest → capped (t + all) ≡ s → capped (u + rest) ≡ s
one_weighed t u s a rest all is whole before = ap (λ x. capped (x + rest)) is ∙ capped_sum t a rest ∙ ap (λ x. capped (t + x)) (sym whole) ∙ before

-- what is counted from zero on is all
from_zero : (n : ℕ) → capped (0 + n) ≡ capped n
from_zero n = omega arith

-- the product that is computed is the weight
pub weighed : (ps : List CodeProgram) (f g : Path → ℕ) (w a v : ℕ) → ((p : Path) → capped (f p) ≡ capped (g p)) → w ≡ capped (0 + steps_work f (programs_in ps)) → a ≡ capped (length ps * 2) → v ≡ capped (a * w)
    → v ≡ capped (2 * length (map program_of ps) * all_work g (map program_of ps))
weighed ps f g w a v same is twice product_is =
    let works = is ∙ from_zero (steps_work f (programs_in ps)) ∙ ap capped (same_work f ps) ∙ same_all f g same (map program_of ps) in
    product_is ∙ ap (λ x. capped (x * w)) twice ∙ capped_product (length ps) (all_work g (map program_of ps)) w works
    ∙ ap (λ n. capped (2 * n * all_work g (map program_of ps))) (sym (length-map ps program_of))
