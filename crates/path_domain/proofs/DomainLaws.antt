-- What is laid out is the layout of the programs' domain.
use Rattle.std.proofs.Common.{◌≡◌, ◌≢◌, ◌⊎◌, inl, inr, ℕ, ◌<◌, ◌≤◌, ◌^◌, true, ◌||◌, List, [], ◌∷◌, ◌++◌, map, length, refl, sym, ap, subst, ◌∙◌, arith, append_assoc}
use Rattle.std.specs.Prelude.{◌↔◌, IsTrue, slice_index_or}
use Rattle.std.specs.List.{list_any}
use Rattle.std.specs.List.Sorted.{IsStrictlySortedBy, IsStrictlyIncreasing}
use Rattle.std.proofs.lemmas.Bool.{or_cases, or_left, or_right, and_parts, and_from}
use Rattle.fs_semantics.specs.FileTree.{Path, Segment, path_cmp, path_eq, parent, is_among}
use Rattle.fs_semantics.specs.Programs.{Program}
use Rattle.fs_semantics.proofs.Trees.{path_eq_refl, path_eq_same, parent_of_child, parent_and_last}
use Rattle.finite_domain.specs.Mentions.{Below, AnyMentions}
use Rattle.finite_domain.specs.Domains.{text_eq, is_text_among, SpeakOf, IsNamed}
use Rattle.finite_domain.specs.Matters.{all_matters, paths_among, watched_among, all_fronts, has_segment}
use Rattle.finite_domain.specs.Layouts.{all_texts, first_uses, other_segment, stem, HaveSegment, HaveStart, IsFirstFailure, IsFreshChild, numbered, Layout, IsLayout}
use Rattle.finite_domain.proofs.Matters.{paths_told, watched_told, named_told, front_of, among_fronts}
use Rattle.finite_domain.proofs.Texts.{text_same, first_uses_are}
use Rattle.path_domain.specs.declared.found.Found.{Found}
use Rattle.path_domain.specs.Gathered.{Paths, Gathered, gathered_of, nothing, gather}
use Rattle.path_domain.specs.Laid.{places_from, Starts, HaveParents}
use Rattle.path_domain.proofs.UseLaws.{paths_are, watched_are}
use Rattle.path_domain.proofs.PlaceLaws.{places_rise, at_places}
use Rattle.std.proofs.lemmas.List.{append-nil}
use Rattle.std.proofs.Math.Bool.{or-false}
use Rattle.finite_domain.proofs.Exist.{within}

-- ---- lists with the same members

-- the two lists have the same members
abbrev SameMembers : List Path → List Path → Type 0
SameMembers ps qs = (p : Path) → is_among p ps ≡ is_among p qs

-- lists with the same members have the same paths above them
same_fronts : (ps qs : List Path) (q : Path) → SameMembers ps qs → is_among q (all_fronts ps) ≡ true → is_among q (all_fronts qs) ≡ true
same_fronts ps qs q same h = let f = front_of q ps h in among_fronts q f.0 qs (sym (same f.0) ∙ f.1) f.2

-- ---- segments

-- a segment that a path has stands somewhere in it
has_text : (c : List ℕ) (p : List (List ℕ)) → is_text_among c p ≡ true → (front : List (List ℕ)) × (back : List (List ℕ)) × (p ≡ front ++ c ∷ back)
has_text c [] h = cc
has_text c (s ∷ p) h = elim (or_cases (text_eq c s) (is_text_among c p) h) [
  | inl here ↦ ([], p, ap (λ t. t ∷ p) (sym (text_same c s here)))
  | inr there ↦ let more = has_text c p there in (s ∷ more.0, more.1, ap (λ q. s ∷ q) more.2)
]

-- where some path has a segment, it is one of the paths
path_with : (c : List ℕ) (ps : List Path) → has_segment c ps ≡ true → (p : Path) × IsTrue (is_among p ps) × IsTrue (is_text_among c p)
path_with c [] h = cc
path_with c (p ∷ ps) h = elim (or_cases (is_text_among c p) (has_segment c ps) h) [
  | inl here ↦ (p, or_left _ _ (path_eq_refl p), here)
  | inr there ↦ let more = path_with c ps there in (more.0, or_right _ _ more.1, more.2)
]

-- and where one of the paths has a segment, some path has it
with_path : (c : List ℕ) (p : Path) (ps : List Path) → is_among p ps ≡ true → is_text_among c p ≡ true → has_segment c ps ≡ true
with_path c p [] h k = cc
with_path c p (q ∷ ps) h k = elim (or_cases (path_eq p q) (is_among p ps) h) [
  | inl here ↦ or_left _ _ (ap (is_text_among c) (sym (path_eq_same p q here)) ∙ k)
  | inr there ↦ or_right (is_text_among c q) _ (with_path c p ps there k)
]

-- ---- children

-- a child with this name is the child of one of the paths
child_in : (q : Path) (name : Segment) (ws : List Path) → list_any (λ p. path_eq q (p ++ name ∷ [])) ws ≡ true → (p : Path) × IsTrue (is_among p ws) × (q ≡ p ++ name ∷ [])
child_in q name [] h = cc
child_in q name (w ∷ ws) h = elim (or_cases (path_eq q (w ++ name ∷ [])) (list_any (λ p. path_eq q (p ++ name ∷ [])) ws) h) [
  | inl here ↦ (w, or_left _ _ (path_eq_refl w), path_eq_same q (w ++ name ∷ []) here)
  | inr there ↦ let more = child_in q name ws there in (more.0, or_right _ _ more.1, more.2)
]

-- and the child of one of the paths is one with this name
in_child : (q p : Path) (name : Segment) (ws : List Path) → is_among p ws ≡ true → q ≡ p ++ name ∷ [] → list_any (λ r. path_eq q (r ++ name ∷ [])) ws ≡ true
in_child q p name [] h e = cc
in_child q p name (w ∷ ws) h e = elim (or_cases (path_eq p w) (is_among p ws) h) [
  | inl here ↦ or_left _ _ (ap (path_eq q) (ap (λ r. r ++ name ∷ []) (sym (path_eq_same p w here)) ∙ sym e) ∙ path_eq_refl q)
  | inr there ↦ or_right (path_eq q (w ++ name ∷ [])) _ (in_child q p name ws there e)
]

-- no child is the root
no_child_root : (p : Path) (s : Segment) → p ++ s ∷ [] ≢ []
no_child_root [] s e = cc
no_child_root (t ∷ p) s e = cc

-- a path is the root or isn't
pub root_or : (p : Path) → (p ≡ []) ⊎ (p ≢ [])
root_or [] = inl refl
root_or (s ∷ p) = inr (λ e. cc)

-- the paths of the programs with those above them are the named ones
pub named_exactly : (es : List Program) (ps : List Path) → SameMembers ps (paths_among (all_matters es)) → (q : Path) → IsTrue (is_among q (all_fronts ps)) ↔ IsNamed es q
named_exactly es ps same q = (
  (λ h. (named_told es q).0 (same_fronts ps (paths_among (all_matters es)) q same h)),
  (λ h. same_fronts (paths_among (all_matters es)) ps q (λ p. sym (same p)) ((named_told es q).1 h)),
)

-- the paths that were gathered are just those that the programs mention
pub paths_in : (es : List Program) (f : Found) → gathered_of f ≡ gather (all_matters es) nothing → (q : Path) → is_among q f.paths.keys ≡ is_among q (paths_among (all_matters es))
paths_in es f found q = ap (λ (g : Gathered). g.paths q) found ∙ paths_are (all_matters es) nothing q ∙ or-false (is_among q (paths_among (all_matters es)))

-- ---- the parts of a layout

-- what was gathered of the programs for a layout: paths, those that are watched, the segment, the fresh children, and all paths in order
pub record Parts (es : List Program) (ps ws ks : List Path) (fresh : Paths) (n : ℕ) : Type 0 where
  pub paths : (q : Path) → is_among q ps ≡ is_among q (paths_among (all_matters es))
  pub watched : (q : Path) → is_among q ws ≡ is_among q (watched_among (all_matters es))
  pub segment : IsFirstFailure (λ k. IsTrue (has_segment (other_segment k) ps)) n
  pub children : (q : Path) → fresh q ≡ list_any (λ p. path_eq q (p ++ other_segment n ∷ [])) ws
  pub all : (q : Path) → is_among q ks ≡ (fresh q || is_among q (all_fronts ps))

-- what the code gathered is this
pub parts_of : (es : List Program) (f : Found) (ks : List Path) (name : List ℕ) (fresh : Paths) → gathered_of f ≡ gather (all_matters es) nothing
    → (named : (n : ℕ) × (name ≡ other_segment n) × IsFirstFailure (λ k. IsTrue (has_segment (other_segment k) f.paths.keys)) n)
    → ((q : Path) → fresh q ≡ list_any (λ p. path_eq q (p ++ name ∷ [])) f.watched.keys) → ((q : Path) → is_among q ks ≡ (fresh q || is_among q (all_fronts f.paths.keys)))
    → Parts es f.paths.keys f.watched.keys ks fresh named.0
parts_of es f ks name fresh found named children all = record {
  paths = paths_in es f found;
  watched = λ q. ap (λ (g : Gathered). g.watched q) found ∙ watched_are (all_matters es) nothing q ∙ or-false (is_among q (watched_among (all_matters es)));
  segment = named.2;
  children = λ q. children q ∙ ap (λ s. list_any (λ p. path_eq q (p ++ s ∷ [])) f.watched.keys) named.1;
  all = all;
}

module _ (es : List Program) (ps ws ks : List Path) (fresh : Paths) (n : ℕ) (parts : Parts es ps ws ks fresh n) where
  -- a segment that some gathered path has is one that the programs have
  segment_there : (c : List ℕ) → IsTrue (has_segment c ps) → HaveSegment es c
  segment_there c h =
      let p = path_with c ps h in
      let t = has_text c p.0 p.2 in
      (t.0, t.1, (paths_told es (t.0 ++ c ∷ t.1)).0 (sym (parts.paths (t.0 ++ c ∷ t.1)) ∙ ap (λ q. is_among q ps) (sym t.2) ∙ p.1))

  -- and each segment that the programs have some gathered path has
  segment_found : (c : List ℕ) → HaveSegment es c → IsTrue (has_segment c ps)
  segment_found c h = with_path c (h.0 ++ c ∷ h.1) ps (parts.paths (h.0 ++ c ∷ h.1) ∙ (paths_told es (h.0 ++ c ∷ h.1)).1 h.2) (within h.0 c h.1)

  -- the name of the fresh children is the first that the programs don't have
  first_segment : IsFirstFailure (λ k. HaveSegment es (other_segment k)) n
  first_segment = record {
    fails = λ h. parts.segment.fails (segment_found (other_segment n) h);
    holds = λ k l. segment_there (other_segment k) (parts.segment.holds k l);
  }

  -- a gathered path, or one above it, is named
  named_there : (q : Path) → is_among q (all_fronts ps) ≡ true → IsNamed es q
  named_there q = (named_exactly es ps parts.paths q).0

  -- and each named path is a gathered one or above one
  named_found : (q : Path) → IsNamed es q → is_among q (all_fronts ps) ≡ true
  named_found q = (named_exactly es ps parts.paths q).1

  -- a path that is marked as fresh is a fresh child
  fresh_there : (q : Path) → fresh q ≡ true → IsFreshChild es (other_segment n) q
  fresh_there q h =
      let c = child_in q (other_segment n) ws (sym (parts.children q) ∙ h) in
      (c.0, (watched_told es c.0).0 (sym (parts.watched c.0) ∙ c.1), c.2)

  -- and each fresh child is marked as fresh
  fresh_found : (q : Path) → IsFreshChild es (other_segment n) q → fresh q ≡ true
  fresh_found q h = parts.children q ∙ in_child q h.0 (other_segment n) ws (parts.watched h.0 ∙ (watched_told es h.0).1 h.1) h.2

  -- the paths that are laid out are the named ones and the fresh children
  laid_paths : (p : Path) → IsTrue (is_among p ks) ↔ (IsNamed es p ⊎ IsFreshChild es (other_segment n) p)
  laid_paths p = (
    (λ h. elim (or_cases (fresh p) (is_among p (all_fronts ps)) (sym (parts.all p) ∙ h)) [
      | inl new ↦ inr (fresh_there p new)
      | inr name ↦ inl (named_there p name)
    ]),
    (λ h. parts.all p ∙ elim h [ inl name ↦ or_right (fresh p) _ (named_found p name) | inr new ↦ or_left _ _ (fresh_found p new) ]),
  )

  -- each named path is laid out
  among_named : (p : Path) → IsNamed es p → is_among p ks ≡ true
  among_named p h = (laid_paths p).1 (inl h)

  -- the parent of a named path is the root or laid out
  parent_there : (p : Path) → IsNamed es p → (parent p ≡ []) ⊎ IsTrue (is_among (parent p) ks)
  parent_there p name = elim (root_or (parent p)) [
    | inl root ↦ inl root
    | inr below ↦
        let last = parent_and_last p name.not_root in
        inr (among_named (parent p) (record {
          not_root = below;
          more = last.0 ∷ name.more;
          spoken = subst (SpeakOf es) (ap (λ q. q ++ name.more) last.1 ∙ append_assoc (parent p) (last.0 ∷ []) name.more) name.spoken;
        }))
  ]

  -- and so is a path whose children matter
  above_child : (r : Path) → AnyMentions es (Below r) → (r ≡ []) ⊎ IsTrue (is_among r ks)
  above_child r h = elim (root_or r) [
    | inl root ↦ inl root
    | inr below ↦ inr (among_named r (record { not_root = below; more = []; spoken = subst (SpeakOf es) (sym (append-nil r)) (inr h) }))
  ]

  -- none of the laid out paths is the root, and each has its parent there
  pub have_parents : HaveParents ks
  have_parents p h = elim ((laid_paths p).0 h) [
    | inl name ↦ (name.not_root, parent_there p name)
    | inr new ↦ (
      (λ e. no_child_root new.0 (other_segment n) (sym new.2 ∙ e)),
      elim (above_child new.0 new.1) [
        | inl root ↦ inl (ap parent new.2 ∙ parent_of_child new.0 (other_segment n) ∙ root)
        | inr there ↦ inr (ap (λ q. is_among q ks) (ap parent new.2 ∙ parent_of_child new.0 (other_segment n)) ∙ there)
      ],
    )
  ]

  -- a stem with which one of the contents begins is one with which a constant begins
  start_there : (cs : List (List ℕ)) (k : ℕ) → cs ≡ first_uses ([] ∷ all_texts es) → HaveStart cs (stem k) → HaveStart (all_texts es) (stem k)
  start_there cs k e h = (h.0, sym (first_uses_are (stem k ++ h.0) ([] ∷ all_texts es)) ∙ sym (ap (is_text_among (stem k ++ h.0)) e) ∙ h.1)

  -- and a stem with which a constant begins is one with which one of the contents begins
  start_found : (cs : List (List ℕ)) (k : ℕ) → cs ≡ first_uses ([] ∷ all_texts es) → HaveStart (all_texts es) (stem k) → HaveStart cs (stem k)
  start_found cs k e h = (h.0, ap (is_text_among (stem k ++ h.0)) e ∙ first_uses_are (stem k ++ h.0) ([] ∷ all_texts es) ∙ h.1)

  -- the paths at the places of the fresh ones are the fresh children
  fresh_are : (places : List ℕ) (q : Path) → places ≡ places_from 0 fresh ks → IsTrue (is_among q (map (λ i. slice_index_or ks i []) places)) ↔ IsFreshChild es (other_segment n) q
  fresh_are places q e = (
    (λ h. fresh_there q (and_parts (fresh q) (is_among q ks) (sym (at_places q fresh ks) ∙ sym (ap (λ is. is_among q (map (λ i. slice_index_or ks i []) is)) e) ∙ h)).0),
    (λ h. ap (λ is. is_among q (map (λ i. slice_index_or ks i []) is)) e ∙ at_places q fresh ks ∙ and_from (fresh q) (is_among q ks) (fresh_found q h) ((laid_paths q).1 (inr h))),
  )

  -- what is made of these parts is the layout of the programs' domain
  pub is_layout : (l : Layout) (start : ℕ) (cs : List (List ℕ)) → l.paths ≡ ks → IsStrictlySortedBy path_cmp ks → l.fresh ≡ places_from 0 fresh ks
      → cs ≡ first_uses ([] ∷ all_texts es) → Starts start cs → l.contents ≡ cs ++ numbered (stem start) 0 ks → length ks ≤ 2 ^ 64 → IsLayout es l
  is_layout l start cs same sorted places old starts texts few = subst (λ x. IsLayout es x) (sym (λ i. record { paths = same i; fresh = l.fresh; contents = l.contents })) (record {
    segment = n;
    first_segment = first_segment;
    paths = laid_paths;
    in_order = sorted;
    fresh = λ q. fresh_are l.fresh q places;
    places_in_order = subst IsStrictlyIncreasing (sym places) (places_rise 0 fresh ks);
    start = start;
    first_start = record {
      fails = λ h. let less = (starts start).1 (start_found cs start old h) in omega (arith, less);
      holds = λ k less. start_there cs k old ((starts k).0 less);
    };
    contents = texts ∙ ap (λ ds. ds ++ numbered (stem start) 0 ks) old;
    few = few;
  })
