-- Every list of programs has a domain.
use Rattle.std.proofs.Common.{◌≡◌, ◌≢◌, ◌⊎◌, ℕ, zero, suc, ◌+◌, ◌<◌, ◌≤◌, max, true, List, [], ◌∷◌, ◌++◌, map, length, inl, inr, refl, sym, ap, ◌∙◌, arith}
use Rattle.std.specs.Prelude.{◌↔◌, IsTrue}
use Rattle.std.proofs.lemmas.Bool.{or_cases, or_left, or_right}
use Rattle.std.proofs.lemmas.List.Folds.{list_any-append}
use Rattle.fs_semantics.specs.FileTree.{Path, Segment, IsBytes, IsSegment, path_eq, is_among}
use Rattle.fs_semantics.specs.Programs.{Program}
use Rattle.fs_semantics.proofs.Trees.{path_eq_refl, path_eq_same}
use Rattle.finite_domain.specs.Mentions.{Text, AnyMentions}
use Rattle.finite_domain.specs.Domains.{text_eq, is_text_among, SpeakOf, Domain, is_path_of, IsDomain}
use Rattle.finite_domain.specs.Matters.{all_matters, paths_among, watched_among, all_fronts}
use Rattle.finite_domain.specs.Layouts.{all_texts, letters, IsFreshChild}
use Rattle.finite_domain.proofs.Texts.{text_same, text_itself, among_append, among_left, among_right, place, one_place}
use Rattle.finite_domain.proofs.Matters.{all_mentioned, all_listed, paths_told, watched_told, named_told}
use Rattle.finite_domain.proofs.Laid.{all_letters}

-- the length of the longest of these texts
longest : List (List ℕ) → ℕ
longest [] = 0
longest (c ∷ cs) = max (length c) (longest cs)

-- no text of the list is longer
not_longer : (c : List ℕ) (cs : List (List ℕ)) → is_text_among c cs ≡ true → length c ≤ longest cs
unfolding longest
not_longer c [] h = cc
not_longer c (d ∷ cs) h = elim (or_cases (text_eq c d) (is_text_among c cs) h) [
  | inl here ↦ omega (arith, ap length (text_same c d here))
  | inr there ↦ omega (arith, not_longer c cs there)
]

-- so many letters are as long
length-letters : (n : ℕ) → length (letters n) ≡ n
length-letters zero = refl
length-letters (suc n) = ap suc (length-letters n)

-- more letters than the longest text has aren't in the list
too_long : (n : ℕ) (cs : List (List ℕ)) → longest cs < n → is_text_among (letters n) cs ≡ true → ⊥
too_long n cs l h = omega (arith, not_longer (letters n) cs h, length-letters n)

-- the segments of all these paths
segments : List Path → List Segment
segments [] = []
segments (p ∷ ps) = p ++ segments ps

-- a segment of a path stands in it
pub within : (front : Path) (s : Segment) (back : Path) → is_text_among s (front ++ s ∷ back) ≡ true
within front s back = among_right s front (s ∷ back) (or_left _ _ (text_itself s s refl))

-- a segment of a path of the list is among the segments of all
among_segments : (s : Segment) (p : Path) (ps : List Path) → is_among p ps ≡ true → is_text_among s p ≡ true → is_text_among s (segments ps) ≡ true
unfolding segments
among_segments s p [] h k = cc
among_segments s p (q ∷ ps) h k = elim (or_cases (path_eq p q) (is_among p ps) h) [
  | inl here ↦ among_left s q (segments ps) (ap (is_text_among s) (sym (path_eq_same p q here)) ∙ k)
  | inr there ↦ among_right s q (segments ps) (among_segments s p ps there k)
]

-- an image under a map
image : (f : Path → Path) (q : Path) (ps : List Path) → is_among q (map f ps) ≡ true → (p : Path) × IsTrue (is_among p ps) × (q ≡ f p)
image f q [] h = cc
image f q (p ∷ ps) h = elim (or_cases (path_eq q (f p)) (is_among q (map f ps)) h) [
  | inl here ↦ (p, or_left _ _ (path_eq_refl p), path_eq_same q (f p) here)
  | inr there ↦ let more = image f q ps there in (more.0, or_right _ _ more.1, more.2)
]

-- the image of a path of the list is among the images
in_image : (f : Path → Path) (p : Path) (ps : List Path) → is_among p ps ≡ true → is_among (f p) (map f ps) ≡ true
in_image f p [] h = cc
in_image f p (q ∷ ps) h = elim (or_cases (path_eq p q) (is_among p ps) h) [
  | inl here ↦ or_left _ _ (ap (path_eq (f p)) (ap f (sym (path_eq_same p q here))) ∙ path_eq_refl (f p))
  | inr there ↦ or_right _ _ (in_image f p ps there)
]

-- a text among the images of paths is the image of one of them
text_image : (f : Path → List ℕ) (c : List ℕ) (ps : List Path) → is_text_among c (map f ps) ≡ true → (p : Path) × IsTrue (is_among p ps) × (c ≡ f p)
text_image f c [] h = cc
text_image f c (p ∷ ps) h = elim (or_cases (text_eq c (f p)) (is_text_among c (map f ps)) h) [
  | inl here ↦ (p, or_left _ _ (path_eq_refl p), text_same c (f p) here)
  | inr there ↦ let more = text_image f c ps there in (more.0, or_right _ _ more.1, more.2)
]

-- and the image of each of them is among them
in_text_image : (f : Path → List ℕ) (p : Path) (ps : List Path) → is_among p ps ≡ true → is_text_among (f p) (map f ps) ≡ true
in_text_image f p [] h = cc
in_text_image f p (q ∷ ps) h = elim (or_cases (path_eq p q) (is_among p ps) h) [
  | inl here ↦ or_left _ _ (text_itself (f p) (f q) (ap f (path_eq_same p q here)))
  | inr there ↦ or_right _ _ (in_text_image f p ps there)
]

module _ (es : List Program) where
  -- the paths of which the programs speak
  abbrev all_paths : List Path
  all_paths = paths_among (all_matters es)

  -- a segment that is longer than each of theirs
  other : Segment
  other = letters (suc (longest (segments all_paths)))

  -- it is a segment
  other_is : IsSegment other
  unfolding other
  other_is = record {
    bytes = all_letters (λ b. b < 256) (omega arith) (suc (longest (segments all_paths)));
    nonempty = λ e. cc;
    no_slash = all_letters (λ b. b ≢ 47) (λ e. absurd (omega arith)) (suc (longest (segments all_paths)));
    no_zero = all_letters (λ b. b ≢ 0) (λ e. absurd (omega arith)) (suc (longest (segments all_paths)));
    not_dot = λ e. let first : ◌≡◌ {A = ℕ} 120 46 = cc in absurd (omega arith);
    not_dots = λ e. let first : ◌≡◌ {A = ℕ} 120 46 = cc in absurd (omega arith);
  }

  -- no path of the programs has it
  unused : (front back : Path) → SpeakOf es (front ++ other ∷ back) → ⊥
  unfolding other
  unused front back h = too_long (suc (longest (segments all_paths))) (segments all_paths) (omega arith)
      (among_segments other (front ++ other ∷ back) all_paths ((paths_told es (front ++ other ∷ back)).1 h) (within front other back))

  -- the named paths
  abbrev named_paths : List Path
  named_paths = all_fronts all_paths

  -- the fresh children
  abbrev fresh_paths : List Path
  fresh_paths = map (λ q. q ++ other ∷ []) (watched_among (all_matters es))

  -- the fresh text of a path
  text : Path → List ℕ
  text p = letters (suc (longest (all_texts es) + place p (named_paths ++ fresh_paths)))

  -- the domain of these
  abbrev the_domain : Domain
  the_domain = record { named = named_paths; fresh = fresh_paths; contents = [] ∷ (all_texts es ++ map text (named_paths ++ fresh_paths)) }

  -- the fresh children are those of the paths whose children matter
  fresh_is : (q : Path) → IsTrue (is_among q fresh_paths) ↔ IsFreshChild es other q
  fresh_is q = (
    (λ h. let i = image (λ p. p ++ other ∷ []) q (watched_among (all_matters es)) h in (i.0, (watched_told es i.0).0 i.1, i.2)),
    (λ f. ap (λ r. is_among r fresh_paths) f.2 ∙ in_image (λ p. p ++ other ∷ []) f.0 (watched_among (all_matters es)) ((watched_told es f.0).1 f.1)),
  )

  -- a path of the domain is named or fresh
  among_both : (p : Path) → is_path_of the_domain p ≡ true → is_among p (named_paths ++ fresh_paths) ≡ true
  among_both p h = list_any-append (path_eq p) named_paths fresh_paths ∙ h

  -- each path has a fresh text of its own
  own_text : (p q : Path) → is_path_of the_domain p ≡ true → is_path_of the_domain q ≡ true → text p ≡ text q → p ≡ q
  unfolding text
  own_text p q h k e =
      let n = place p (named_paths ++ fresh_paths) in
      let m = place q (named_paths ++ fresh_paths) in
      let same : suc (longest (all_texts es) + n) ≡ suc (longest (all_texts es) + m) =
      sym (length-letters (suc (longest (all_texts es) + n))) ∙ ap length e ∙ length-letters (suc (longest (all_texts es) + m)) in
      one_place p q (named_paths ++ fresh_paths) (among_both p h) (among_both q k) (omega arith)

  -- fresh texts are made of bytes
  bytes : (p : Path) → IsBytes (text p)
  unfolding text
  bytes p = all_letters (λ b. b < 256) (omega arith) (suc (longest (all_texts es) + place p (named_paths ++ fresh_paths)))

  -- no program has a fresh text
  new_text : (p : Path) → AnyMentions es (Text (text p)) → ⊥
  unfolding text
  new_text p h = too_long (suc (longest (all_texts es) + place p (named_paths ++ fresh_paths))) (all_texts es) (omega arith) (all_listed es _ h)

  -- the contents are the empty one, the constants and the fresh texts
  contents : (c : List ℕ) → IsTrue (is_text_among c the_domain.contents) ↔ ((c ≡ []) ⊎ AnyMentions es (Text c) ⊎ ((p : Path) × IsTrue (is_path_of the_domain p) × (c ≡ text p)))
  contents c = (
    (λ h. elim (or_cases (text_eq c []) _ h) [
      | inl empty ↦ inl (text_same c [] empty)
      | inr rest ↦ elim (among_append c (all_texts es) (map text (named_paths ++ fresh_paths)) rest) [
        | inl constant ↦ inr (inl (all_mentioned es c constant))
        | inr new ↦
            let i = text_image text c (named_paths ++ fresh_paths) new in
            inr (inr (i.0, sym (list_any-append (path_eq i.0) named_paths fresh_paths) ∙ i.1, i.2))
      ]
    ]),
    there,
  )
    where
      there : (c ≡ []) ⊎ AnyMentions es (Text c) ⊎ ((p : Path) × IsTrue (is_path_of the_domain p) × (c ≡ text p)) → is_text_among c ([] ∷ (all_texts es ++ map text (named_paths ++ fresh_paths))) ≡ true
      there (inl e) = or_left _ _ (text_itself c [] e)
      there (inr (inl constant)) = or_right (text_eq c []) _ (among_left c (all_texts es) (map text (named_paths ++ fresh_paths)) (all_listed es c constant))
      there (inr (inr new)) = or_right (text_eq c []) _ (among_right c (all_texts es) (map text (named_paths ++ fresh_paths))
          (ap (λ b. is_text_among b (map text (named_paths ++ fresh_paths))) new.2 ∙ in_text_image text new.0 (named_paths ++ fresh_paths) (among_both new.0 new.1)))

  -- every list of programs has a domain
  pub has_domain : (d : Domain) × IsDomain es d
  has_domain = (
    the_domain,
    record {
      named = named_told es;
      other = other;
      other_is = other_is;
      unused = unused;
      fresh = fresh_is;
      constants = all_texts es;
      constants_are = λ c. (all_mentioned es c, all_listed es c);
      text = text;
      bytes = λ p h. bytes p;
      new_text = λ p h k. new_text p k;
      own_text = own_text;
      contents = contents;
    },
  )
