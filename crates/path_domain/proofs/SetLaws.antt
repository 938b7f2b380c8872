-- Ordered sets, by their tests.
use Rattle.std.proofs.Common.{◌≡◌, Bool, true, false, cond, ◌||◌, refl, sym, ap, ◌∙◌}
use Rattle.std.specs.BTreeSet.{BTreeSet, Updates}
use Rattle.fs_semantics.specs.FileTree.{Path, path_cmp, path_eq}
use Rattle.fs_semantics.proofs.Trees.{path_eq_refl, path_eq_same}
use Rattle.fs_semantics.proofs.Keys.{same_bool}
use Rattle.path_domain.specs.Gathered.{members, with_one}

-- what is implied by a side of a disjunction is the whole of it
pub same_or : (b x : Bool) → (b ≡ true → x ≡ true) → x ≡ (b || x)
same_or true x h = h refl
same_or false x h = refl

-- a member is one more without a change
pub already : (s : BTreeSet Path) (p : Path) → members s p ≡ true → members s ≡ with_one p (members s)
already s p h = λ i q. same_or (path_eq q p) (members s q) (λ e. ap (members s) (path_eq_same q p e) ∙ h) i

-- true under a condition, and else another truth value, is one of the two
pub one_more : (b x : Bool) → cond b true x ≡ (b || x)
one_more true x = refl
one_more false x = refl

-- two paths are one either way round
pub path_eq_flip : (p q : Path) → path_eq p q ≡ path_eq q p
path_eq_flip p q = same_bool (path_eq p q) (path_eq q p) (λ h. ap (λ r. path_eq r p) (sym (path_eq_same p q h)) ∙ path_eq_refl p) (λ h. ap (λ r. path_eq r q) (sym (path_eq_same q p h)) ∙ path_eq_refl q)

-- a set into which a path was put has that path more
pub put_in : (s n : BTreeSet Path) (p : Path) → Updates path_cmp s n p true → members n ≡ with_one p (members s)
put_in s n p u = λ i q. (u.0 q ∙ ap (λ b. cond b true (members s q)) (path_eq_flip p q) ∙ one_more (path_eq q p) (members s q)) i
