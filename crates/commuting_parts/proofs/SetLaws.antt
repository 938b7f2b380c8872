-- Sets of paths, by their members.
use Rattle.std.proofs.Common.{◌≡◌, Bool, true, false, ◌||◌, List, ◌∷◌, inl, inr, sym, ap, ◌∙◌}
use Rattle.std.specs.BTreeSet.{BTreeSet}
use Rattle.std.specs.Prelude.{IsTrue}
use Rattle.std.proofs.lemmas.Bool.{or_cases, cases_Bool, both_ways}
use Rattle.fs_semantics.proofs.Trees.{path_eq_same}
use Rattle.fs_semantics.specs.FileTree.{Path, path_eq, is_among}
use Rattle.effect_sets.specs.Footprints.{Paths}
use Rattle.effect_sets.specs.Members.{members, with_one}
use Rattle.effect_sets.proofs.SetLaws.{turned}

-- the next path of a walk
pub one_added : (old rest : List Path) (p : Path) (g h : Paths) (q : Path) → old ≡ p ∷ rest → h ≡ with_one p g → (is_among q rest || h q) ≡ (is_among q old || g q)
one_added old rest p g h q next is =
    ap (λ k. is_among q rest || k q) is ∙ turned (path_eq q p) (is_among q rest) (g q) ∙ sym (ap (λ l. is_among q l || g q) next)

-- nothing in common
abbrev pub Disjoint : Paths → Paths → Type 0
Disjoint f g = (q : Path) → IsTrue (f q) → g q ≡ false

-- the lists of two sets that have nothing in common have nothing in common
pub disjoint_lists : (a b : BTreeSet Path) (xs ys : List Path) → a.keys ≡ xs → b.keys ≡ ys → Disjoint (members a) (members b) → Disjoint (λ q. is_among q xs) (λ q. is_among q ys)
disjoint_lists a b xs ys left right apart q h = ap (is_among q) (sym right) ∙ apart q (ap (is_among q) left ∙ h)

-- where each of three is false, none of them holds
pub none_of_three : (a b c : Bool) → a ≡ false → b ≡ false → c ≡ false → (a || b || c) ≡ false
none_of_three false false c h k l = l
none_of_three false true c h k l = cc
none_of_three true b c h k l = cc

-- where the next one stands and those that follow
pub one_stands : (old rest : List Path) (p : Path) (reads folders : Paths) → old ≡ p ∷ rest → (IsTrue (reads p) → IsTrue (folders p))
    → ((q : Path) → IsTrue (is_among q rest) → IsTrue (reads q) → IsTrue (folders q)) → (q : Path) → IsTrue (is_among q old) → IsTrue (reads q) → IsTrue (folders q)
one_stands old rest p reads folders next here more q h r = elim (or_cases (path_eq q p) (is_among q rest) (ap (is_among q) (sym next) ∙ h)) [
  | inl e ↦ let is = path_eq_same q p e in ap folders is ∙ here (ap reads (sym is) ∙ r)
  | inr k ↦ more q k r
]

-- without this path there is none that is the same
pub none_at : (f : Paths) (p : Path) → f p ≡ false → Disjoint f (λ q. path_eq q p)
none_at f p none q here = elim (cases_Bool (path_eq q p)) [
  | inl same ↦ absurd (both_ways _ none (ap f (sym (path_eq_same q p same)) ∙ here))
  | inr other ↦ other
]
