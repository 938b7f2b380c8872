-- What is no deeper than a limit, statement by statement.
use Rattle.std.proofs.Common.{◌≡◌, ℕ, ◌+◌, ◌-◌, ◌<◌, ◌≤◌, Bool, true, false, ◌&&◌, List, [], ◌∷◌, map, refl, ap, ◌∙◌, arith}
use Rattle.std.proofs.Math.Nat.{le-max_left, le-max_right, max-le}
use Rattle.std.proofs.lemmas.Bool.{lt-ltb, ltb-true, ltb-false}
use Rattle.std.specs.Prelude.{max, nat_lt, not}
use Rattle.pp_syntax.specs.declared.tree.Expr.{Expr}
use Rattle.pp_syntax.specs.declared.tree.Func.{Func}
use Rattle.pp_syntax.specs.declared.tree.Operand.{Operand}
use Rattle.pp_syntax.specs.declared.tree.Arrow.{Arrow}
use Rattle.pp_syntax.specs.declared.tree.Stmt.{Stmt}
use Rattle.pp_syntax.specs.declared.tree.Stmt.TheOpen as plain
use Rattle.pp_syntax.specs.declared.tree.Stmt.TheVariants as stmt
use Rattle.pp_syntax.specs.declared.tree.Stmt.TheVariants.{rolls-Chain, rolls-Assign, rolls-Call}
use Rattle.pp_syntax.specs.declared.tree.Arm.{Arm, out-Arm}
use Rattle.pp_syntax.specs.declared.tree.CaseArm.{CaseArm, out-CaseArm}
use Rattle.catalog_semantics.specs.declared.room.Room.{Room}
use Rattle.catalog_semantics.specs.Rooms.{most, depth, block_depth, has_room_for}
use Rattle.pp_declarations.specs.Depth.{fits, arms_depth, options_depth}
use Rattle.pp_declarations.proofs.DepthLaws.{of, in_arm, in_case_arm, arm_is, case_arm_is, depth_if, depth_unless, depth_case}
use Rattle.pp_definitions.proofs.PlaceLaws.{below_none}

-- ---- numbers

-- what is told not to be over a limit isn't
by_fits : (k m : ℕ) (b : Bool) → nat_lt k m ≡ b → (not b ≡ true → m ≤ k)
by_fits k m true e h = cc
by_fits k m false e h = let high = ltb-false k m e in omega arith

-- so it is of what fits
low : (k m : ℕ) → fits k m ≡ true → m ≤ k
low k m h = by_fits k m (nat_lt k m) refl h

-- tests of limits that follow from one another are told alike
by_same : (k m j n : ℕ) (b c : Bool) → nat_lt k m ≡ b → nat_lt j n ≡ c → (m ≤ k → n ≤ j) → (n ≤ j → m ≤ k) → not b ≡ not c
by_same k m j n true true e f g h = refl
by_same k m j n false false e f g h = refl
by_same k m j n true false e f g h = let deep = ltb-true k m e in let shallow = ltb-false j n f in let more = h (omega arith) in absurd (omega arith)
by_same k m j n false true e f g h = let deep = ltb-true j n f in let shallow = ltb-false k m e in let more = g (omega arith) in absurd (omega arith)

-- the one is no deeper exactly where the other isn't
same_fits : (k m j n : ℕ) → (m ≤ k → n ≤ j) → (n ≤ j → m ≤ k) → fits k m ≡ fits j n
same_fits k m j n g h = by_same k m j n (nat_lt k m) (nat_lt j n) refl refl g h

-- what is over a limit is over it where it is no less
by_deep : (k m n : ℕ) (b c : Bool) → nat_lt k m ≡ b → nat_lt k n ≡ c → m ≤ n → not b ≡ false → not c ≡ false
by_deep k m n true true e f g h = refl
by_deep k m n true false e f g h = let deep = ltb-true k m e in let shallow = ltb-false k n f in absurd (omega arith)
by_deep k m n false c e f g h = cc

-- what doesn't fit doesn't where it is deeper
deeper : (k m n : ℕ) → m ≤ n → fits k m ≡ false → fits k n ≡ false
deeper k m n g h = by_deep k m n (nat_lt k m) (nat_lt k n) refl refl g h

-- where the first fits, both do exactly where the second does
fits_head : (k m n : ℕ) → fits k m ≡ true → fits k (max m n) ≡ fits k n
fits_head k m n h =
    let fine = low k m h in let right = le-max_right m n in
    same_fits k (max m n) k n (λ all. omega arith) (λ rest. max-le fine rest)

-- where the first doesn't, both don't
deep_head : (k m n : ℕ) → fits k m ≡ false → fits k (max m n) ≡ false
deep_head k m n h = deeper k m (max m n) (le-max_left m n) h

-- so it is by whether the first fits
by_first : (k m n : ℕ) (b : Bool) → fits k m ≡ b → fits k (max m n) ≡ (b && fits k n)
by_first k m n true h = fits_head k m n h
by_first k m n false h = deep_head k m n h

-- the greater of two fits exactly where both do
both_fit : (k m n : ℕ) → fits k (max m n) ≡ (fits k m && fits k n)
both_fit k m n = by_first k m n (fits k m) refl

-- nothing deeper than 0 fits a limit of 0
none_fits : (n : ℕ) → fits 0 (n + 1) ≡ false
none_fits n = ap not (lt-ltb 0 (n + 1) (omega arith))

-- 0 fits each limit
nothing_fits : (k : ℕ) → fits k 0 ≡ true
nothing_fits k = ap not (below_none k)

-- one more fits a limit where it fits one less
one_less : (k n : ℕ) → 0 < k → fits k (n + 1) ≡ fits (k - 1) n
one_less k n h = same_fits k (n + 1) (k - 1) n (λ a. omega arith) (λ a. omega arith)

-- ---- lists

-- behind a statement that fits, the block fits where the others do
pub next_fits : (k : ℕ) (s : Stmt) (body : List Stmt) → fits k (depth s) ≡ true → fits k (block_depth (s ∷ body)) ≡ fits k (block_depth body)
next_fits k s body h = fits_head k (depth s) (block_depth body) h

-- behind one that doesn't, it doesn't
pub next_deep : (k : ℕ) (s : Stmt) (body : List Stmt) → fits k (depth s) ≡ false → fits k (block_depth (s ∷ body)) ≡ false
next_deep k s body h = deep_head k (depth s) (block_depth body) h

-- behind an arm that fits, all fit where the others do
pub arm_fits : (k : ℕ) (a : Arm) (arms : List Arm) → fits k (block_depth (out-Arm a).body) ≡ true → fits k (arms_depth (a ∷ arms)) ≡ fits k (arms_depth arms)
arm_fits k a arms h = fits_head k (block_depth (out-Arm a).body) (arms_depth arms) h

-- behind one that doesn't, not all do
pub arm_deep : (k : ℕ) (a : Arm) (arms : List Arm) → fits k (block_depth (out-Arm a).body) ≡ false → fits k (arms_depth (a ∷ arms)) ≡ false
arm_deep k a arms h = deep_head k (block_depth (out-Arm a).body) (arms_depth arms) h

-- the same of an arm of a `case` that fits
pub option_fits : (k : ℕ) (a : CaseArm) (arms : List CaseArm) → fits k (block_depth (out-CaseArm a).body) ≡ true → fits k (options_depth (a ∷ arms)) ≡ fits k (options_depth arms)
option_fits k a arms h = fits_head k (block_depth (out-CaseArm a).body) (options_depth arms) h

-- and of one that doesn't
pub option_deep : (k : ℕ) (a : CaseArm) (arms : List CaseArm) → fits k (block_depth (out-CaseArm a).body) ≡ false → fits k (options_depth (a ∷ arms)) ≡ false
option_deep k a arms h = deep_head k (block_depth (out-CaseArm a).body) (options_depth arms) h

-- ---- statements

-- a chain fits each limit
pub chain_fits : (k at : ℕ) (operands : List Operand) (arrows : List Arrow) → fits k (depth (stmt.Chain at operands arrows)) ≡ true
chain_fits k at operands arrows = ap (fits k) (of (stmt.Chain at operands arrows) (plain.Chain at operands arrows) (rolls-Chain at operands arrows)) ∙ nothing_fits k

-- so does an assignment
pub assign_fits : (k at : ℕ) (name : List ℕ) (value : Expr) → fits k (depth (stmt.Assign at name value)) ≡ true
assign_fits k at name value = ap (fits k) (of (stmt.Assign at name value) (plain.Assign at name value) (rolls-Assign at name value)) ∙ nothing_fits k

-- and a call
pub call_fits : (k at : ℕ) (func : Func) (args : List Expr) → fits k (depth (stmt.Call at func args)) ≡ true
call_fits k at func args = ap (fits k) (of (stmt.Call at func args) (plain.Call at func args) (rolls-Call at func args)) ∙ nothing_fits k

-- the deepest arm is as deep as the deepest block
most_arms : (arms : List Arm) → most (map in_arm arms) ≡ arms_depth arms
most_arms [] = refl
most_arms (a ∷ arms) = λ i. max (arm_is a i) (most_arms arms i)

-- so is the deepest arm of a `case`
most_options : (arms : List CaseArm) → most (map in_case_arm arms) ≡ options_depth arms
most_options [] = refl
most_options (a ∷ arms) = λ i. max (case_arm_is a i) (most_options arms i)

-- how deep an `if` is, by its blocks
if_depth : (at : ℕ) (arms : List Arm) (other : List Stmt) → depth (stmt.If at arms other) ≡ max (arms_depth arms) (block_depth other) + 1
if_depth at arms other = depth_if at arms other ∙ ap (λ n. max n (block_depth other) + 1) (most_arms arms)

-- how deep a `case` is, by its blocks
case_depth : (at : ℕ) (value : Expr) (arms : List CaseArm) → depth (stmt.Case at value arms) ≡ options_depth arms + 1
case_depth at value arms = depth_case at value arms ∙ ap (λ n. n + 1) (most_options arms)

-- nothing with a block fits a limit of 0
no_room : (k d n : ℕ) → d ≡ n + 1 → k ≡ 0 → fits k d ≡ false
no_room k d n e h = ap (fits k) e ∙ (ap (λ j. fits j (n + 1)) h ∙ none_fits n)

-- so it is of an `if`
pub if_none : (k at : ℕ) (arms : List Arm) (other : List Stmt) → k ≡ 0 → fits k (depth (stmt.If at arms other)) ≡ false
if_none k at arms other h = no_room k _ (max (arms_depth arms) (block_depth other)) (if_depth at arms other) h

-- an `if` fits where its blocks fit one less
pub if_some : (k at : ℕ) (arms : List Arm) (other : List Stmt) → 0 < k → fits k (depth (stmt.If at arms other)) ≡ (fits (k - 1) (arms_depth arms) && fits (k - 1) (block_depth other))
if_some k at arms other h = ap (fits k) (if_depth at arms other) ∙ (one_less k (max (arms_depth arms) (block_depth other)) h ∙ both_fit (k - 1) (arms_depth arms) (block_depth other))

-- an `unless` fits no limit of 0
pub unless_none : (k at : ℕ) (test : Expr) (body other : List Stmt) → k ≡ 0 → fits k (depth (stmt.Unless at test body other)) ≡ false
unless_none k at test body other h = no_room k _ (max (block_depth body) (block_depth other)) (depth_unless at test body other) h

-- and any other where its blocks fit one less
pub unless_some : (k at : ℕ) (test : Expr) (body other : List Stmt) → 0 < k → fits k (depth (stmt.Unless at test body other)) ≡ (fits (k - 1) (block_depth body) && fits (k - 1) (block_depth other))
unless_some k at test body other h =
    ap (fits k) (depth_unless at test body other) ∙ (one_less k (max (block_depth body) (block_depth other)) h ∙ both_fit (k - 1) (block_depth body) (block_depth other))

-- a `case` fits no limit of 0
pub case_none : (k at : ℕ) (value : Expr) (arms : List CaseArm) → k ≡ 0 → fits k (depth (stmt.Case at value arms)) ≡ false
case_none k at value arms h = no_room k _ (options_depth arms) (case_depth at value arms) h

-- and any other where its blocks fit one less
pub case_some : (k at : ℕ) (value : Expr) (arms : List CaseArm) → 0 < k → fits k (depth (stmt.Case at value arms)) ≡ fits (k - 1) (options_depth arms)
case_some k at value arms h = ap (fits k) (case_depth at value arms) ∙ one_less k (options_depth arms) h

-- ---- room

-- what is below a limit fits one less
below : (k n : ℕ) → 0 < k → nat_lt n k ≡ fits (k - 1) n
below k n h = by (nat_lt n k) refl (nat_lt (k - 1) n) refl
  where
    by : (b : Bool) → nat_lt n k ≡ b → (c : Bool) → nat_lt (k - 1) n ≡ c → b ≡ not c
    by true e true f = let one = ltb-true n k e in let two = ltb-true (k - 1) n f in absurd (omega arith)
    by true e false f = refl
    by false e true f = refl
    by false e false f = let one = ltb-false n k e in let two = ltb-false (k - 1) n f in absurd (omega arith)

-- where no body may run, there is room for none
pub no_bodies_left : (room : Room) (body : List Stmt) → room.bodies ≡ 0 → has_room_for room body ≡ false
no_bodies_left room body h = ap (λ n. nat_lt 0 n && nat_lt (block_depth body) room.levels) h

-- where no number is below 0, a conjunction with that is false
by_bodies : (b : Bool) (n : ℕ) → (b && nat_lt n 0) ≡ false
by_bodies true n = below_none n
by_bodies false n = refl

-- where nothing more may be open, there is room for none
pub none_left : (room : Room) (body : List Stmt) → room.levels ≡ 0 → has_room_for room body ≡ false
none_left room body h = ap (λ n. nat_lt 0 room.bodies && nat_lt (block_depth body) n) h ∙ by_bodies (nat_lt 0 room.bodies) (block_depth body)

-- else there is room for a body that fits one level less
pub some_left : (room : Room) (body : List Stmt) → 0 < room.bodies → 0 < room.levels → has_room_for room body ≡ fits (room.levels - 1) (block_depth body)
some_left room body h k = ap (λ b. b && nat_lt (block_depth body) room.levels) (lt-ltb 0 room.bodies h) ∙ below room.levels (block_depth body) k
