-- The statements of a block are no deeper than it is, and a block is less deep than what it stands in.
use Rattle.std.proofs.Common.{◌≡◌, ℕ, zero, suc, ◌+◌, ◌-◌, ◌*◌, ◌<◌, ◌≤◌, true, List, [], ◌∷◌, map, length, Option, Some, Ok, Bor, sym, ap, subst, ◌∙◌, arith}
use Rattle.std.proofs.Math.Nat.{le-max_left, le-max_right}
use Rattle.std.proofs.lemmas.Bool.{lt-ltb, ltb-true}
use Rattle.std.specs.Prelude.{max, nat_lt, get_or, option_map}
use Rattle.std.specs.List.{AllByRecursion}
use Rattle.pp_syntax.specs.declared.tree.Expr.{Expr}
use Rattle.pp_syntax.specs.declared.tree.Stmt.{Stmt, Stmt-F, roll-Stmt, map-Stmt, fold-roll-Stmt}
use Rattle.pp_syntax.specs.declared.tree.Stmt.TheOpen as plain
use Rattle.pp_syntax.specs.declared.tree.Stmt.TheVariants as stmt
use Rattle.pp_syntax.specs.declared.tree.Stmt.TheVariants.{rolls-If, rolls-Unless, rolls-Case}
use Rattle.pp_syntax.specs.declared.tree.Arm.{Arm, out-Arm, fold-Arm, fold_out-Arm}
use Rattle.pp_syntax.specs.declared.tree.CaseArm.{CaseArm, out-CaseArm, fold-CaseArm, fold_out-CaseArm}
use Rattle.pp_eval.specs.Scoping.{Scoped}
use Rattle.pp_declarations.specs.Choosing.{chosen_arm, chosen_option}
use Rattle.pp_declarations.proofs.OwnBlocks.{arm_is_own, option_is_own}
use Rattle.catalog_semantics.specs.Rooms.{most, arm_depth_by, case_arm_depth_by, depth_by, depth, block_depth}

-- ---- the depth of each statement

-- how deep the block of an arm is
abbrev pub in_arm : Arm → ℕ
in_arm a = fold-Arm ℕ ℕ ℕ depth_by arm_depth_by case_arm_depth_by a

-- how deep the block of an arm of a `case` is
abbrev pub in_case_arm : CaseArm → ℕ
in_case_arm a = fold-CaseArm ℕ ℕ ℕ depth_by arm_depth_by case_arm_depth_by a

-- how deep a statement is, by its first step
abbrev layer_of : Stmt-F Stmt Arm CaseArm → ℕ
layer_of d = depth_by (map-Stmt Stmt Arm CaseArm ℕ ℕ ℕ depth in_arm in_case_arm d)

-- the depth of a statement is that of its first step
rolled : (d : Stmt-F Stmt Arm CaseArm) → depth (roll-Stmt d) ≡ layer_of d
unfolding depth
rolled d = fold-roll-Stmt ℕ ℕ ℕ depth_by arm_depth_by case_arm_depth_by d

-- so it is of a statement that is one
pub of : (x : Stmt) (d : Stmt-F Stmt Arm CaseArm) → roll-Stmt d ≡ x → depth x ≡ layer_of d
of x d is = sym (ap depth is) ∙ rolled d

-- the depth of an arm is that of its block
pub arm_is : (a : Arm) → in_arm a ≡ block_depth (out-Arm a).body
unfolding depth
arm_is a = fold_out-Arm ℕ ℕ ℕ depth_by arm_depth_by case_arm_depth_by a

-- so is that of an arm of a `case`
pub case_arm_is : (a : CaseArm) → in_case_arm a ≡ block_depth (out-CaseArm a).body
unfolding depth
case_arm_is a = fold_out-CaseArm ℕ ℕ ℕ depth_by arm_depth_by case_arm_depth_by a

-- ---- the greatest of some

-- where the greatest of some numbers is below a number, each is
all_below : {A : Type 0} (f g : A → ℕ) (n : ℕ) (xs : List A) → ((x : A) → f x ≡ g x) → most (map f xs) < n → AllByRecursion (λ x. nat_lt (g x) n ≡ true) xs
all_below f g n [] same h = tt
all_below f g n (x ∷ xs) same h =
    let first = le-max_left (f x) (most (map f xs)) in
    let more = le-max_right (f x) (most (map f xs)) in
    let is = same x in
    (lt-ltb (g x) n (omega arith), all_below f g n xs same (omega arith))

-- a statement of a block is no deeper than the block
pub member_within : (body : List Stmt) (i : ℕ) (s x : Stmt) → i < length body → x ≡ get_or body i s → depth x ≤ block_depth body
member_within [] i s x h is = absurd (omega arith)
member_within (b ∷ body) zero s x h is = let first = le-max_left (depth b) (block_depth body) in let same = ap depth is in omega arith
member_within (b ∷ body) (suc i) s x h is =
    let more = le-max_right (depth b) (block_depth body) in
    let rest = member_within body i s x (omega arith) is in omega arith

-- ---- blocks

-- how deep an `if` is
pub depth_if : (at : ℕ) (arms : List Arm) (other : List Stmt) → depth (stmt.If at arms other) ≡ max (most (map in_arm arms)) (block_depth other) + 1
depth_if at arms other = of (stmt.If at arms other) (plain.If at arms other) (rolls-If at arms other)

-- how deep an `unless` is
pub depth_unless : (at : ℕ) (test : Expr) (body other : List Stmt) → depth (stmt.Unless at test body other) ≡ max (block_depth body) (block_depth other) + 1
depth_unless at test body other = of (stmt.Unless at test body other) (plain.Unless at test body other) (rolls-Unless at test body other)

-- how deep a `case` is
pub depth_case : (at : ℕ) (value : Expr) (arms : List CaseArm) → depth (stmt.Case at value arms) ≡ most (map in_case_arm arms) + 1
depth_case at value arms = of (stmt.Case at value arms) (plain.Case at value arms) (rolls-Case at value arms)

-- the block that an `if` chooses is less deep than it
arm_within : (s : Scoped) (at : ℕ) (arms : List Arm) (other b : List Stmt) → chosen_arm s arms other ≡ Ok b → block_depth b < depth (stmt.If at arms other)
arm_within s at arms other b h =
    let all = depth_if at arms other in
    let first = le-max_left (most (map in_arm arms)) (block_depth other) in
    let more = le-max_right (most (map in_arm arms)) (block_depth other) in
    ltb-true (block_depth b) (depth (stmt.If at arms other))
    (arm_is_own (λ body. nat_lt (block_depth body) (depth (stmt.If at arms other)) ≡ true) s b arms other
    (all_below in_arm (λ a. block_depth (out-Arm a).body) (depth (stmt.If at arms other)) arms arm_is (omega arith))
    (lt-ltb (block_depth other) (depth (stmt.If at arms other)) (omega arith)) h)

-- so is the one that a `case` chooses
option_within : (s : Scoped) (at : ℕ) (e : Expr) (arms : List CaseArm) (b : List Stmt) → chosen_option s e arms ≡ Ok (Some b) → block_depth b < depth (stmt.Case at e arms)
option_within s at e arms b h =
    let all = depth_case at e arms in
    ltb-true (block_depth b) (depth (stmt.Case at e arms))
    (option_is_own (λ body. nat_lt (block_depth body) (depth (stmt.Case at e arms)) ≡ true) s b e arms
    (all_below in_case_arm (λ a. block_depth (out-CaseArm a).body) (depth (stmt.Case at e arms)) arms case_arm_is (omega arith)) h)

-- so is the body of an `unless`
body_within : (at : ℕ) (test : Expr) (body other : List Stmt) → block_depth body < depth (stmt.Unless at test body other)
body_within at test body other =
    let all = depth_unless at test body other in let first = le-max_left (block_depth body) (block_depth other) in omega arith

-- and its `else`
other_within : (at : ℕ) (test : Expr) (body other : List Stmt) → block_depth other < depth (stmt.Unless at test body other)
other_within at test body other =
    let all = depth_unless at test body other in let more = le-max_right (block_depth body) (block_depth other) in omega arith

-- ---- what is left to do

-- less depth is less left to do
less_deep : (w d e : ℕ) → d < e → 16 * (w + d) + 16 < 16 * (w + e) + 14
less_deep w d e h = omega arith

-- no more depth is no more left to do, but for the statement itself
pub no_deeper : (w d e : ℕ) → d ≤ e → 16 * (w + d) + 14 < 16 * (w + e) + 15
no_deeper w d e h = omega arith

-- less is left to do in the block that an `if` chooses
pub if_less : (w : ℕ) (x : Stmt) (s : Scoped) (at : ℕ) (arms all : List Arm) (other last b : List Stmt) → x ≡ stmt.If at arms other → all ≡ arms → last ≡ other → chosen_arm s all last ≡ Ok b
    → 16 * (w + block_depth b) + 16 < 16 * (w + depth x) + 14
if_less w x s at arms all other last b is same end h =
    less_deep w (block_depth b) (depth x)
    (subst (λ (y : Stmt). block_depth b < depth y) (sym is) (arm_within s at arms other b ((λ i. chosen_arm s (sym same i) (sym end i)) ∙ h)))

-- and in the one that a `case` chooses
pub option_less : (w : ℕ) (x : Stmt) (s : Scoped) (at : ℕ) (e : Expr) (arms all : List CaseArm) (found : Option (Bor (List Stmt))) (b : Bor (List Stmt)) → x ≡ stmt.Case at e arms → all ≡ arms → found ≡ Some b
    → chosen_option s e all ≡ Ok (option_map (λ (body : Bor (List Stmt)). body.now) found) → 16 * (w + block_depth b.now) + 16 < 16 * (w + depth x) + 14
option_less w x s at e arms all found b is same some h =
    less_deep w (block_depth b.now) (depth x)
    (subst (λ (y : Stmt). block_depth b.now < depth y) (sym is) (option_within s at e arms b.now
    (ap (chosen_option s e) (sym same) ∙ (h ∙ ap (λ (o : Option (Bor (List Stmt))). Ok (option_map (λ (body : Bor (List Stmt)). body.now) o)) some))))

-- and in the body of an `unless`
pub body_less : (w : ℕ) (x : Stmt) (at : ℕ) (test : Expr) (body other b : List Stmt) → x ≡ stmt.Unless at test body other → b ≡ body → 16 * (w + block_depth b) + 16 < 16 * (w + depth x) + 14
body_less w x at test body other b is same =
    less_deep w (block_depth b) (depth x)
    (subst (λ (y : Stmt). block_depth b < depth y) (sym is) (subst (λ (c : List Stmt). block_depth c < depth (stmt.Unless at test body other)) (sym same) (body_within at test body other)))

-- and in its `else`
pub other_less : (w : ℕ) (x : Stmt) (at : ℕ) (test : Expr) (body other b : List Stmt) → x ≡ stmt.Unless at test body other → b ≡ other → 16 * (w + block_depth b) + 16 < 16 * (w + depth x) + 14
other_less w x at test body other b is same =
    less_deep w (block_depth b) (depth x)
    (subst (λ (y : Stmt). block_depth b < depth y) (sym is) (subst (λ (c : List Stmt). block_depth c < depth (stmt.Unless at test body other)) (sym same) (other_within at test body other)))

-- one step less is less left to do
pub next_rank : (w : ℕ) → w + 4 < w + 5
next_rank w = omega arith

-- within a block
pub same_bodies : (bodies left bound d : ℕ) → bodies ≡ left → 16 * (bodies * bound + d) + 15 < 16 * (left * bound + d) + 16
same_bodies bodies left bound d is = subst (λ n. 16 * (n * bound + d) + 15 < 16 * (left * bound + d) + 16) (sym is) (omega arith)

-- within a body
pub fewer_bodies : (bodies left bound d : ℕ) → bodies ≡ left - 1 → 0 < left → d < bound → 16 * (bodies * bound + d) + 15 < 16 * (left * bound + 0) + 4
fewer_bodies bodies zero bound d is h k = absurd (omega arith)
fewer_bodies bodies (suc n) bound d is h k = step (n * bound) (bodies * bound) (suc n * bound) (ap (λ m. m * bound) (omega arith)) (omega arith)
  where
    step : (one same all : ℕ) → same ≡ one → all ≡ one + bound → 16 * (same + d) + 15 < 16 * (all + 0) + 4
    step one same all e f = omega arith

-- what is below a number is below an equal one
pub below : (m t n : ℕ) → n ≡ t → m < n → m < t
below m t n e h = subst (λ k. m < k) e h
