-- A layout of the programs' domain is a domain of the programs.
use Rattle.std.proofs.Common.{◌≡◌, ◌≢◌, ◌⊎◌, ℕ, zero, suc, ◌+◌, ◌<◌, true, not, ◌&&◌, List, [], ◌∷◌, ◌++◌, inl, inr, sym, ap, subst, ◌∙◌, arith, decimal, append_assoc}
use Rattle.std.specs.Prelude.{◌↔◌, IsTrue}
use Rattle.std.specs.List.{AllByRecursion}
use Rattle.std.proofs.lemmas.Bool.{or_cases, or_left, or_right, and_parts, and_from, not-true, not_from_false, both_ways, false_from_ne_true}
use Rattle.std.specs.Str.{IsAscii}
use Rattle.std.proofs.lemmas.Fmt.{decimal_injective, IsAscii-decimal}
use Rattle.std.proofs.lemmas.List.{append_cancel_left}
use Rattle.std.proofs.lemmas.Map.Views.{any-filter_same}
use Rattle.fs_semantics.specs.FileTree.{Path, IsBytes, IsSegment, path_eq, is_among}
use Rattle.fs_semantics.specs.Programs.{Program}
use Rattle.fs_semantics.proofs.Trees.{path_eq_same}
use Rattle.finite_domain.specs.Mentions.{Text, AnyMentions}
use Rattle.finite_domain.specs.Domains.{text_eq, is_text_among, SpeakOf, IsNamed, is_path_of, IsDomain}
use Rattle.finite_domain.specs.Layouts.{all_texts, first_uses, letters, other_segment, stem, IsFreshChild, numbered, Layout, fresh_paths, domain_of, IsLayout}
use Rattle.finite_domain.proofs.Matters.{all_mentioned, all_listed}
use Rattle.finite_domain.proofs.Texts.{text_same, text_itself, among_append, among_left, among_right, first_uses_are, place, place_below, one_place, numbers, number_among, among_numbers}
use Rattle.fs_semantics.proofs.Counts.{all_append}

-- what holds of the letter x holds of so many of them
pub all_letters : (P : ℕ → Type 0) → P 120 → (n : ℕ) → AllByRecursion P (letters n)
all_letters P x zero = tt
all_letters P x (suc n) = (x, all_letters P x n)

-- ASCII is made of bytes
ascii_bytes : (xs : List ℕ) → IsAscii xs → IsBytes xs
ascii_bytes [] h = tt
ascii_bytes (x ∷ xs) h = let first : x < 128 = h 0 in (omega (arith, first), ascii_bytes xs (λ i. h (suc i)))

-- what the fresh children may be called is a segment
pub other_is_segment : (n : ℕ) → IsSegment (other_segment n)
other_is_segment n = record {
  bytes = (omega arith, (omega arith, (omega arith, (omega arith, (omega arith, all_letters (λ b. b < 256) (omega arith) n)))));
  nonempty = λ e. cc;
  no_slash = ((λ e. absurd (omega arith)), ((λ e. absurd (omega arith)), ((λ e. absurd (omega arith)), ((λ e. absurd (omega arith)), ((λ e. absurd (omega arith)), all_letters (λ b. b ≢ 47) (λ e. absurd (omega arith)) n)))));
  no_zero = ((λ e. absurd (omega arith)), ((λ e. absurd (omega arith)), ((λ e. absurd (omega arith)), ((λ e. absurd (omega arith)), ((λ e. absurd (omega arith)), all_letters (λ b. b ≢ 0) (λ e. absurd (omega arith)) n)))));
  not_dot = λ e. let first : ◌≡◌ {A = ℕ} 111 46 = cc in absurd (omega arith);
  not_dots = λ e. let first : ◌≡◌ {A = ℕ} 111 46 = cc in absurd (omega arith);
}

module _ (es : List Program) (l : Layout) (laid : IsLayout es l) where
  -- the named paths are those of the layout without the fresh ones
  named_is : (p : Path) → is_among p (domain_of l).named ≡ (not (is_among p (fresh_paths l)) && is_among p l.paths)
  named_is p = any-filter_same (path_eq p) (λ q. not (is_among q (fresh_paths l))) (not (is_among p (fresh_paths l)))
      (λ k h. ap (λ q. not (is_among q (fresh_paths l))) (sym (path_eq_same p k h))) l.paths

  -- no fresh child is named
  fresh_not_named : (p : Path) → IsFreshChild es (other_segment laid.segment) p → IsNamed es p → ⊥
  fresh_not_named p f name = laid.first_segment.fails (
    f.0,
    name.more,
    subst (SpeakOf es) (ap (λ q. q ++ name.more) f.2 ∙ append_assoc f.0 (other_segment laid.segment ∷ []) name.more) name.spoken,
  )

  -- the named paths of the layout are those of the programs
  named : (p : Path) → IsTrue (is_among p (domain_of l).named) ↔ IsNamed es p
  named p = (
    (λ h.
        let two = and_parts (not (is_among p (fresh_paths l))) (is_among p l.paths) (sym (named_is p) ∙ h) in
        elim ((laid.paths p).0 two.1) [ inl name ↦ name | inr f ↦ absurd (both_ways _ (not-true _ two.0) ((laid.fresh p).1 f)) ]),
    (λ name. named_is p ∙ and_from _ _ (not_from_false _ (false_from_ne_true _ (λ h. fresh_not_named p ((laid.fresh p).0 h) name))) ((laid.paths p).1 (inl name))),
  )

  -- the paths of the domain are those of the layout
  path_among : (p : Path) → is_path_of (domain_of l) p ≡ true → is_among p l.paths ≡ true
  path_among p h = elim (or_cases (is_among p (domain_of l).named) (is_among p (fresh_paths l)) h) [
    | inl name ↦ (laid.paths p).1 (inl ((named p).0 name))
    | inr f ↦ (laid.paths p).1 (inr ((laid.fresh p).0 f))
  ]

  -- a path of the layout is named or fresh
  among_path : (p : Path) → is_among p l.paths ≡ true → is_path_of (domain_of l) p ≡ true
  among_path p h = elim ((laid.paths p).0 h) [
    | inl name ↦ or_left _ _ ((named p).1 name)
    | inr f ↦ or_right (is_among p (domain_of l).named) _ ((laid.fresh p).1 f)
  ]

  -- the fresh text of a path, by its place
  text : Path → List ℕ
  text p = stem laid.start ++ decimal (place p l.paths)

  -- fresh texts are made of bytes
  bytes : (p : Path) → is_path_of (domain_of l) p ≡ true → IsBytes (text p)
  unfolding text
  bytes p h =
      let below = place_below p l.paths (path_among p h) in
      all_append (λ b. b < 256) (stem laid.start) (decimal (place p l.paths))
      (omega arith, (omega arith, (omega arith, (omega arith, all_letters (λ b. b < 256) (omega arith) laid.start))))
      (ascii_bytes (decimal (place p l.paths)) (IsAscii-decimal (place p l.paths) (omega (arith, laid.few))))

  -- each path has a fresh text of its own
  own_text : (p q : Path) → is_path_of (domain_of l) p ≡ true → is_path_of (domain_of l) q ≡ true → text p ≡ text q → p ≡ q
  unfolding text
  own_text p q h k e =
      let below = place_below p l.paths (path_among p h) in
      let below_too = place_below q l.paths (path_among q k) in
      one_place p q l.paths (path_among p h) (path_among q k)
      (decimal_injective (place p l.paths) (place q l.paths) (omega (arith, laid.few)) (omega (arith, laid.few)) (append_cancel_left (stem laid.start) _ _ e))

  -- the contents of the layout are the empty one, the constants and the fresh texts
  contents : (c : List ℕ) → IsTrue (is_text_among c l.contents) ↔ ((c ≡ []) ⊎ AnyMentions es (Text c) ⊎ ((p : Path) × IsTrue (is_path_of (domain_of l) p) × (c ≡ text p)))
  unfolding text
  contents c = (
    (λ h. elim (among_append c (first_uses ([] ∷ all_texts es)) (numbered (stem laid.start) 0 l.paths) (sym (ap (is_text_among c) laid.contents) ∙ h)) [
      | inl old ↦ elim (or_cases (text_eq c []) (is_text_among c (all_texts es)) (sym (first_uses_are c ([] ∷ all_texts es)) ∙ old)) [
        | inl empty ↦ inl (text_same c [] empty)
        | inr constant ↦ inr (inl (all_mentioned es c constant))
      ]
      | inr new ↦
          let n = among_numbers (stem laid.start) 0 c l.paths laid.in_order new in
          inr (inr (n.0, among_path n.0 n.1, n.2 ∙ numbers (stem laid.start) (0 + place n.0 l.paths) (place n.0 l.paths) (omega arith)))
    ]),
    (λ h. ap (is_text_among c) laid.contents ∙ there h),
  )
    where
      there : (c ≡ []) ⊎ AnyMentions es (Text c) ⊎ ((p : Path) × IsTrue (is_path_of (domain_of l) p) × (c ≡ stem laid.start ++ decimal (place p l.paths)))
          → is_text_among c (first_uses ([] ∷ all_texts es) ++ numbered (stem laid.start) 0 l.paths) ≡ true
      there (inl e) = among_left c (first_uses ([] ∷ all_texts es)) (numbered (stem laid.start) 0 l.paths) (first_uses_are c ([] ∷ all_texts es) ∙ or_left _ _ (text_itself c [] e))
      there (inr (inl constant)) = among_left c (first_uses ([] ∷ all_texts es)) (numbered (stem laid.start) 0 l.paths) (first_uses_are c ([] ∷ all_texts es) ∙ or_right (text_eq c []) _ (all_listed es c constant))
      there (inr (inr new)) = among_right c (first_uses ([] ∷ all_texts es)) (numbered (stem laid.start) 0 l.paths)
          (ap (λ b. is_text_among b (numbered (stem laid.start) 0 l.paths)) (new.2 ∙ numbers (stem laid.start) (place new.0 l.paths) (0 + place new.0 l.paths) (omega arith))
          ∙ number_among (stem laid.start) 0 new.0 l.paths (path_among new.0 new.1))

  -- what is laid out is a domain of the programs
  pub is_domain : IsDomain es (domain_of l)
  unfolding text
  is_domain = record {
    named = named;
    other = other_segment laid.segment;
    other_is = other_is_segment laid.segment;
    unused = λ front back h. laid.first_segment.fails (front, back, h);
    fresh = laid.fresh;
    constants = all_texts es;
    constants_are = λ c. (all_mentioned es c, all_listed es c);
    text = text;
    bytes = bytes;
    new_text = λ p h k. laid.first_start.fails (decimal (place p l.paths), all_listed es _ k);
    own_text = own_text;
    contents = contents;
  }
