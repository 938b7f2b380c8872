-- Files put at disjoint paths: all orders have one outcome, and a second run changes nothing.
use Rattle.std.proofs.Common.{◌≡◌, ◌≢◌, ℕ, List, [], ◌∷◌, ◌++◌, length, refl, sym, ap, ◌∙◌, arith}
use Rattle.std.specs.Prelude.{map}
use Rattle.std.specs.List.{AllByRecursion}
use Rattle.fs_semantics.specs.FileTree.{Path, Tree, parent}
use Rattle.fs_semantics.specs.Programs.{and_then}
use Rattle.fs_semantics.specs.Orders.{times, outcome, IsDeterministic, IsIdempotent}
use Rattle.fs_semantics.specs.Models.{put}
use Rattle.fs_semantics.specs.Disjoint.{IsAncestor, IsDisjointFrom, AreDisjoint}
use Rattle.fs_semantics.specs.PlainFiles.{PlainFile, IsFilePath, ArePlain, puts}
use Rattle.fs_semantics.proofs.Trees.{parent_above}
use Rattle.fs_semantics.proofs.Puts.{put_is, steps_commute, step_again}
use Rattle.fs_semantics.specs.Changes.{CommuteFrom, AllCommuteFrom, SettlesFrom}
use Rattle.fs_semantics.proofs.Commuting.{alike_from, second_from, same_times}

-- ---- files at disjoint paths

-- a path isn't the parent of one that it is disjoint from
pub not_parent : (p q : Path) → p ≢ [] → (IsAncestor q p → ⊥) → parent p ≢ q
not_parent [] q h none e = h refl
not_parent (s ∷ p) q h none e = let up = parent_above s p in none (up.0, up.1, up.2 ∙ ap (λ r. r ++ up.0) e)

-- two puts commute from every map, a file tree or not
abbrev pub AnyTree : Tree → Type 0
AnyTree t = Unit {0}

-- files put at disjoint paths commute
two_puts : (p q : Path) (c d : List ℕ) → p ≢ [] → q ≢ [] → IsDisjointFrom p q → CommuteFrom AnyTree (put p c) (put q d)
two_puts [] q c d h k disjoint t tree = absurd (h refl)
two_puts (s ∷ p) [] c d h k disjoint t tree = absurd (k refl)
two_puts (s ∷ p) (r ∷ q) c d h k disjoint t tree =
    (λ n. and_then (put_is s p c t n) (λ u. put_is r q d u n))
    ∙ steps_commute (s ∷ p) (r ∷ q) c d t disjoint.differ (not_parent (s ∷ p) (r ∷ q) h disjoint.not_below) (not_parent (r ∷ q) (s ∷ p) k disjoint.not_above)
    ∙ sym (λ n. and_then (put_is r q d t n) (λ u. put_is s p c u n))

-- a file commutes with files at paths disjoint from its own
one_with_all : (p : Path) (c : List ℕ) (files : List PlainFile) → p ≢ [] → AllByRecursion (λ f. IsFilePath f.0) files → AllByRecursion (IsDisjointFrom p) (map (λ f. f.0) files) → AllByRecursion (CommuteFrom AnyTree (put p c)) (puts files)
one_with_all p c [] h paths disjoint = tt
one_with_all p c (f ∷ files) h paths disjoint = (two_puts p f.0 c f.1 h paths.0.not_root disjoint.0, one_with_all p c files h paths.1 disjoint.1)

-- files at disjoint paths all commute
plain_commute : (files : List PlainFile) → AllByRecursion (λ f. IsFilePath f.0) files → AreDisjoint (map (λ f. f.0) files) → AllCommuteFrom AnyTree (puts files)
plain_commute [] paths disjoint = tt
plain_commute (f ∷ files) paths disjoint = (one_with_all f.0 f.1 files paths.0.not_root paths.1 disjoint.0, plain_commute files paths.1 disjoint.1)

-- to put a file again changes nothing
put_settles : (p : Path) (c : List ℕ) → p ≢ [] → SettlesFrom AnyTree (put p c)
put_settles [] c h t u tree done = absurd (h refl)
put_settles (s ∷ p) c h t u tree done = put_is s p c u ∙ step_again s p c t u (sym (put_is s p c t) ∙ done)

-- each of the files settles
plain_settle : (files : List PlainFile) → AllByRecursion (λ f. IsFilePath f.0) files → AllByRecursion (SettlesFrom AnyTree) (puts files)
plain_settle [] paths = tt
plain_settle (f ∷ files) paths = (put_settles f.0 f.1 paths.0.not_root, plain_settle files paths.1)

-- orders that have each file equally often end alike
pub plain_alike : (files : List PlainFile) → ArePlain files → (o p : List ℕ) → ((k : ℕ) → times k o ≡ times k p) → (t : Tree) → outcome (puts files) o t ≡ outcome (puts files) p t
plain_alike files plain o p same t = alike_from AnyTree (puts files) (λ i t u h k. tt) (plain_commute files plain.paths plain.disjoint) o p same t tt

-- files at disjoint paths are deterministic
pub plain_deterministic : (files : List PlainFile) (before : ℕ → ℕ → Type 0) → ArePlain files → IsDeterministic (puts files) before
plain_deterministic files before plain t is o p a b = plain_alike files plain o p (same_times (length (puts files)) before o p a b) t

-- and idempotent
pub plain_idempotent : (files : List PlainFile) (before : ℕ → ℕ → Type 0) → ArePlain files → IsIdempotent (puts files) before
plain_idempotent files before plain t is o p a b u done =
    second_from AnyTree (puts files) (λ i t u h k. tt) (plain_commute files plain.paths plain.disjoint) (plain_settle files plain.paths) o p
    (λ k h. omega (arith, h, same_times (length (puts files)) before o p a b k)) t u tt done
