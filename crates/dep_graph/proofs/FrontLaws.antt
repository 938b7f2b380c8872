-- Paths above others, told by a test.
use Rattle.std.proofs.Common.{◌≡◌, ◌≢◌, ℕ, ◌+◌, ◌<◌, List, [], ◌∷◌, ◌++◌, length, length-append, Bool, true, false, ◌&&◌, refl, sym, ap, ◌∙◌, arith}
use Rattle.std.specs.Prelude.{IsTrue, nat_lt}
use Rattle.std.proofs.Common.{ltb-true, lt-ltb}
use Rattle.fs_semantics.specs.FileTree.{Path}
use Rattle.fs_semantics.specs.Disjoint.{IsAncestor}
use Rattle.fs_lang.specs.Fronts.{is_front}
use Rattle.dep_graph.specs.Files.{is_above}
use Rattle.graph_semantics.proofs.Basics.{no_way}
use Rattle.pp_value.proofs.Distinct.{same_key, key_itself}
use Rattle.fs_lang.proofs.FrontLaws.{front_of, front_append}
use Rattle.std.proofs.lemmas.Bool.{and_parts}

-- a front that is shorter has something behind it
longer : (p q more : Path) → q ≡ p ++ more → length p < length q → more ≢ []
longer p q more is h none = let same : length q ≡ length p + length more = ap length is ∙ length-append p more in let zero : length more ≡ 0 = ap length none in omega arith

-- a list that isn't empty has a length
nonempty_length : {X : Type 0} (xs : List X) → xs ≢ [] → 0 < length xs
nonempty_length [] h = absurd (h refl)
nonempty_length (x ∷ xs) h = omega arith

-- a path that is told to be above another is an ancestor
pub above_ancestor : (p q : Path) → is_above p q ≡ true → IsAncestor p q
above_ancestor p q h =
    let both = and_parts (nat_lt (length p) (length q)) (is_front p q) h in
    let rest = front_of p q both.1 in
    (rest.0, longer p q rest.0 rest.1 (ltb-true (length p) (length q) both.0), rest.1)

-- and an ancestor is told to be above
pub ancestor_above : (p q : Path) → IsAncestor p q → is_above p q ≡ true
ancestor_above p q h =
    let long : length q ≡ length p + length h.0 = ap length h.2 ∙ length-append p h.0 in
    let some = nonempty_length h.0 h.1 in
    let less : nat_lt (length p) (length q) ≡ true = lt-ltb (length p) (length q) (omega arith) in
    ap (λ t. t && is_front p q) less ∙ ap (is_front p) h.2 ∙ front_append p h.0

-- a test that tells ancestors is that of paths above
pub told : (p q : Path) (t : Bool) → (IsTrue t → IsAncestor p q) × (IsAncestor p q → IsTrue t) → t ≡ is_above p q
told p q true h = sym (ancestor_above p q (h.0 refl))
told p q false h = decided (is_above p q) refl where
  decided : (b : Bool) → is_above p q ≡ b → false ≡ is_above p q
  decided true is = absurd (no_way (h.1 (above_ancestor p q is)))
  decided false is = sym is
