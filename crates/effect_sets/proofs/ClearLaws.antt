-- When footprints are apart, by sets that have nothing in common.
use Rattle.std.proofs.Common.{◌≡◌, Bool, true, false, ◌&&◌, ◌||◌, List, [], ◌∷◌, inl, inr, refl, sym, ap, ◌∙◌}
use Rattle.std.specs.Prelude.{◌↔◌, IsTrue}
use Rattle.std.proofs.lemmas.Bool.{or_cases, or_left, or_right, and_parts, and_from, or_from}
use Rattle.fs_semantics.specs.FileTree.{Path, path_eq, parent, is_among}
use Rattle.fs_semantics.proofs.Trees.{path_eq_refl, path_eq_same}
use Rattle.effect_sets.specs.Footprints.{Paths}
use Rattle.effect_sets.specs.Members.{is_parent_of}

-- of a disjunction that is false the left side is false
neither_left : (a b : Bool) → (a || b) ≡ false → a ≡ false
neither_left true b h = h
neither_left false b h = refl

-- of a disjunction that is false the right side is false
neither_right : (a b : Bool) → (a || b) ≡ false → b ≡ false
neither_right true b h = absurd_or h
  where
    absurd_or : {x : Bool} → true ≡ false → x ≡ false
    absurd_or h = cc
neither_right false b h = h

-- nothing in common
abbrev pub Apart : Paths → Paths → Type 0
Apart f g = (q : Path) → IsTrue (f q) → g q ≡ false

-- nothing in common with each of three is nothing in common with all
pub clear_of_three : (s a b c : Paths) (x y z : Bool) → IsTrue x ↔ Apart s a → IsTrue y ↔ Apart s b → IsTrue z ↔ Apart s c
    → IsTrue (x && y && z) ↔ Apart s (λ q. a q || b q || c q)
clear_of_three s a b c x y z h k l = (
  (λ all q here.
      let both = and_parts (x && y) z all in
      let two = and_parts x y both.0 in
      or_from (a q || b q) (c q) (or_from (a q) (b q) (h.0 two.0 q here) (k.0 two.1 q here)) (l.0 both.1 q here)),
  (λ all.
      let two : Apart s (λ q. a q || b q) = λ q here. neither_left (a q || b q) (c q) (all q here) in
      and_from (x && y) z
      (and_from x y (h.1 (λ q here. neither_left (a q) (b q) (two q here))) (k.1 (λ q here. neither_right (a q) (b q) (two q here))))
      (l.1 (λ q here. neither_right (a q || b q) (c q) (all q here)))),
)

-- the parent of a path of the list is a parent of one
parent_among : (q : Path) (ps : List Path) → is_among q ps ≡ true → is_parent_of (parent q) ps ≡ true
parent_among q [] h = cc
parent_among q (p ∷ ps) h = elim (or_cases (path_eq q p) (is_among q ps) h) [
  | inl here ↦ or_left _ _ (ap (λ r. path_eq (parent q) (parent r)) (sym (path_eq_same q p here)) ∙ path_eq_refl (parent q))
  | inr there ↦ or_right _ _ (parent_among q ps there)
]

-- and a parent of one is the parent of a path of the list
child_among : (r : Path) (ps : List Path) → is_parent_of r ps ≡ true → (q : Path) × (is_among q ps ≡ true) × (r ≡ parent q)
child_among r [] h = cc
child_among r (p ∷ ps) h = elim (or_cases (path_eq r (parent p)) (is_parent_of r ps) h) [
  | inl here ↦ (p, or_left _ _ (path_eq_refl p), path_eq_same r (parent p) here)
  | inr there ↦ let more = child_among r ps there in (more.0, or_right _ _ more.1, more.2)
]

-- the parents of what is changed have nothing in common with paths whose children matter
pub clear_of_children : (parents children : Paths) (writes folders : List Path)
    → ((q : Path) → parents q ≡ (is_parent_of q writes || is_parent_of q folders))
    → Apart parents children ↔ ((q : Path) → IsTrue (is_among q writes || is_among q folders) → children (parent q) ≡ false)
clear_of_children parents children writes folders are = (
  (λ h q here. h (parent q) (are (parent q) ∙ elim (or_cases (is_among q writes) (is_among q folders) here) [
    | inl w ↦ or_left _ _ (parent_among q writes w)
    | inr f ↦ or_right _ _ (parent_among q folders f)
  ])),
  (λ h r here. elim (or_cases (is_parent_of r writes) (is_parent_of r folders) (sym (are r) ∙ here)) [
    | inl w ↦ let c = child_among r writes w in ap children c.2 ∙ h c.0 (or_left _ _ c.1)
    | inr f ↦ let c = child_among r folders f in ap children c.2 ∙ h c.0 (or_right _ _ c.1)
  ]),
)
