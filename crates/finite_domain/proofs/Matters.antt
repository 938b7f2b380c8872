-- The lists have what is mentioned, and nothing else.
use Rattle.std.proofs.Common.{◌≡◌, ◌≢◌, ◌⊎◌, ℕ, true, List, [], ◌∷◌, ◌++◌, map, inl, inr, refl, sym, ap, subst, ◌∙◌}
use Rattle.std.specs.Prelude.{◌↔◌, IsTrue}
use Rattle.std.proofs.lemmas.Bool.{or_cases, or_left, or_right}
use Rattle.std.proofs.lemmas.List.Folds.{list_any-append}
use Rattle.fs_semantics.specs.FileTree.{Segment, Path, path_eq, is_among}
use Rattle.fs_semantics.specs.Programs.{Test, True, False, Not, And, Or, IsFile, IsLink, IsDir, IsEmpty, IsNone, Program, Programs, Id, Err, Mkdir, Creat, Link, Rm, Cp, Steps, If, none, next}
use Rattle.fs_semantics.proofs.Trees.{path_eq_refl, path_eq_same}
use Rattle.finite_domain.specs.Mentions.{Matter, At, Below, Text, TestMentions, Mentions, StepsMention, AnyMentions}
use Rattle.finite_domain.specs.Domains.{text_eq, is_text_among, SpeakOf, IsNamed}
use Rattle.finite_domain.specs.Matters.{matters_of_test, matters_of, matters_of_steps, all_matters, texts_among, paths_among, watched_among, fronts, all_fronts}
use Rattle.finite_domain.specs.Layouts.{all_texts}
use Rattle.finite_domain.proofs.Texts.{text_same, text_itself}

-- the matter is in the list
abbrev In : Matter → List Matter → Type 0
In x [] = ⊥
In x (y ∷ ys) = (x ≡ y) ⊎ In x ys

-- what is in the first of two lists is in both joined
in_left : (x : Matter) (xs ys : List Matter) → In x xs → In x (xs ++ ys)
in_left x [] ys h = absurd h
in_left x (z ∷ xs) ys (inl e) = inl e
in_left x (z ∷ xs) ys (inr h) = inr (in_left x xs ys h)

-- and so is what is in the second
in_right : (x : Matter) (xs ys : List Matter) → In x ys → In x (xs ++ ys)
in_right x [] ys h = h
in_right x (z ∷ xs) ys h = inr (in_right x xs ys h)

-- what is in two lists joined is in one of them
in_either : (x : Matter) (xs ys : List Matter) → In x (xs ++ ys) → In x xs ⊎ In x ys
in_either x [] ys h = inr h
in_either x (z ∷ xs) ys (inl e) = inl (inl e)
in_either x (z ∷ xs) ys (inr h) = elim (in_either x xs ys h) [ inl k ↦ inl (inr k) | inr k ↦ inr k ]

-- the only entry of a list
one : (x y : Matter) → In x (y ∷ []) → x ≡ y
one x y (inl e) = e
one x y (inr h) = absurd h

-- ---- what is mentioned is listed

-- what a test mentions is listed
test_listed : (a : Test) (x : Matter) → TestMentions a x → In x (matters_of_test a)
test_listed True x h = h
test_listed False x h = h
test_listed (Not a) x h = test_listed a x h
test_listed (And a b) x (inl h) = in_left x _ _ (test_listed a x h)
test_listed (And a b) x (inr h) = in_right x (matters_of_test a) _ (test_listed b x h)
test_listed (Or a b) x (inl h) = in_left x _ _ (test_listed a x h)
test_listed (Or a b) x (inr h) = in_right x (matters_of_test a) _ (test_listed b x h)
test_listed (IsFile p) x h = inl h
test_listed (IsLink p) x h = inl h
test_listed (IsDir p) x h = inl h
test_listed (IsEmpty p) x h = inl h
test_listed (IsNone p) x h = inl h

mutual
  -- what a program mentions is listed
  listed : (e : Program) (x : Matter) → Mentions e x → In x (matters_of e)
  listed Id x h = h
  listed Err x h = h
  listed (Mkdir p) x h = inl h
  listed (Creat p content) x (inl h) = inl h
  listed (Creat p content) x (inr h) = inr (inl h)
  listed (Link p target) x (inl h) = inl h
  listed (Link p target) x (inr h) = inr (inl h)
  listed (Rm p) x h = inl h
  listed (Cp from p) x (inl h) = inl h
  listed (Cp from p) x (inr h) = inr (inl h)
  listed (Steps es) x h = steps_listed es x h
  listed (If a e f) x (inl h) = in_left x _ _ (test_listed a x h)
  listed (If a e f) x (inr (inl h)) = in_right x (matters_of_test a) _ (in_left x _ _ (listed e x h))
  listed (If a e f) x (inr (inr h)) = in_right x (matters_of_test a) _ (in_right x (matters_of e) _ (listed f x h))

  -- and what its steps mention
  steps_listed : (es : Programs) (x : Matter) → StepsMention es x → In x (matters_of_steps es)
  steps_listed none x h = h
  steps_listed (next e es) x (inl h) = in_left x _ _ (listed e x h)
  steps_listed (next e es) x (inr h) = in_right x (matters_of e) _ (steps_listed es x h)

-- what some program mentions is listed
any_listed : (es : List Program) (x : Matter) → AnyMentions es x → In x (all_matters es)
any_listed [] x h = h
any_listed (e ∷ es) x (inl h) = in_left x _ _ (listed e x h)
any_listed (e ∷ es) x (inr h) = in_right x (matters_of e) _ (any_listed es x h)

-- ---- what is listed is mentioned

-- what is listed of a test it mentions
test_mentioned : (a : Test) (x : Matter) → In x (matters_of_test a) → TestMentions a x
test_mentioned True x h = h
test_mentioned False x h = h
test_mentioned (Not a) x h = test_mentioned a x h
test_mentioned (And a b) x h = elim (in_either x (matters_of_test a) (matters_of_test b) h) [ inl k ↦ inl (test_mentioned a x k) | inr k ↦ inr (test_mentioned b x k) ]
test_mentioned (Or a b) x h = elim (in_either x (matters_of_test a) (matters_of_test b) h) [ inl k ↦ inl (test_mentioned a x k) | inr k ↦ inr (test_mentioned b x k) ]
test_mentioned (IsFile p) x h = one x (At p) h
test_mentioned (IsLink p) x h = one x (At p) h
test_mentioned (IsDir p) x h = one x (At p) h
test_mentioned (IsEmpty p) x h = one x (Below p) h
test_mentioned (IsNone p) x h = one x (At p) h

mutual
  -- what is listed of a program it mentions
  mentioned : (e : Program) (x : Matter) → In x (matters_of e) → Mentions e x
  mentioned Id x h = h
  mentioned Err x h = h
  mentioned (Mkdir p) x h = one x (At p) h
  mentioned (Creat p content) x (inl h) = inl h
  mentioned (Creat p content) x (inr h) = inr (one x (Text content) h)
  mentioned (Link p target) x (inl h) = inl h
  mentioned (Link p target) x (inr h) = inr (one x (Text target) h)
  mentioned (Rm p) x h = one x (Below p) h
  mentioned (Cp from p) x (inl h) = inl h
  mentioned (Cp from p) x (inr h) = inr (one x (At p) h)
  mentioned (Steps es) x h = steps_mentioned es x h
  mentioned (If a e f) x h = elim (in_either x (matters_of_test a) (matters_of e ++ matters_of f) h) [
    | inl k ↦ inl (test_mentioned a x k)
    | inr k ↦ elim (in_either x (matters_of e) (matters_of f) k) [ inl m ↦ inr (inl (mentioned e x m)) | inr m ↦ inr (inr (mentioned f x m)) ]
  ]

  -- and what is listed of its steps
  steps_mentioned : (es : Programs) (x : Matter) → In x (matters_of_steps es) → StepsMention es x
  steps_mentioned none x h = h
  steps_mentioned (next e es) x h = elim (in_either x (matters_of e) (matters_of_steps es) h) [ inl k ↦ inl (mentioned e x k) | inr k ↦ inr (steps_mentioned es x k) ]

-- what is listed some program mentions
any_mentioned : (es : List Program) (x : Matter) → In x (all_matters es) → AnyMentions es x
any_mentioned [] x h = h
any_mentioned (e ∷ es) x h = elim (in_either x (matters_of e) (all_matters es) h) [ inl k ↦ inl (mentioned e x k) | inr k ↦ inr (any_mentioned es x k) ]

-- ---- texts

-- a text of the list is a matter of it
text_in : (c : List ℕ) (xs : List Matter) → is_text_among c (texts_among xs) ≡ true → In (Text c) xs
text_in c [] h = cc
text_in c (At p ∷ xs) h = inr (text_in c xs h)
text_in c (Below p ∷ xs) h = inr (text_in c xs h)
text_in c (Text d ∷ xs) h = elim (or_cases (text_eq c d) (is_text_among c (texts_among xs)) h) [ inl here ↦ inl (ap Text (text_same c d here)) | inr there ↦ inr (text_in c xs there) ]

-- and the other way round
in_texts : (c : List ℕ) (xs : List Matter) → In (Text c) xs → is_text_among c (texts_among xs) ≡ true
in_texts c [] h = absurd h
in_texts c (At p ∷ xs) (inl e) = cc
in_texts c (At p ∷ xs) (inr h) = in_texts c xs h
in_texts c (Below p ∷ xs) (inl e) = cc
in_texts c (Below p ∷ xs) (inr h) = in_texts c xs h
in_texts c (Text d ∷ xs) (inl e) = or_left _ _ (text_itself c d (cc))
in_texts c (Text d ∷ xs) (inr h) = or_right _ _ (in_texts c xs h)

-- a text of the programs is mentioned
pub all_mentioned : (es : List Program) (c : List ℕ) → is_text_among c (all_texts es) ≡ true → AnyMentions es (Text c)
all_mentioned es c h = any_mentioned es (Text c) (text_in c (all_matters es) h)

-- and one that is mentioned is a text of the programs
pub all_listed : (es : List Program) (c : List ℕ) → AnyMentions es (Text c) → is_text_among c (all_texts es) ≡ true
all_listed es c h = in_texts c (all_matters es) (any_listed es (Text c) h)

-- ---- paths

-- a path of the list is a matter of it, at it or below
path_in : (p : Path) (xs : List Matter) → is_among p (paths_among xs) ≡ true → In (At p) xs ⊎ In (Below p) xs
path_in p [] h = cc
path_in p (At q ∷ xs) h = elim (or_cases (path_eq p q) (is_among p (paths_among xs)) h) [
  | inl here ↦ inl (inl (ap At (path_eq_same p q here)))
  | inr there ↦ elim (path_in p xs there) [ inl k ↦ inl (inr k) | inr k ↦ inr (inr k) ]
]
path_in p (Below q ∷ xs) h = elim (or_cases (path_eq p q) (is_among p (paths_among xs)) h) [
  | inl here ↦ inr (inl (ap Below (path_eq_same p q here)))
  | inr there ↦ elim (path_in p xs there) [ inl k ↦ inl (inr k) | inr k ↦ inr (inr k) ]
]
path_in p (Text c ∷ xs) h = elim (path_in p xs h) [ inl k ↦ inl (inr k) | inr k ↦ inr (inr k) ]

-- equal paths are told to be
same_path : (p q : Path) → p ≡ q → path_eq p q ≡ true
same_path p q e = ap (path_eq p) (sym e) ∙ path_eq_refl p

-- and a matter at a path or below gives that path
in_paths : (p : Path) (xs : List Matter) → In (At p) xs ⊎ In (Below p) xs → is_among p (paths_among xs) ≡ true
in_paths p [] (inl h) = absurd h
in_paths p [] (inr h) = absurd h
in_paths p (At q ∷ xs) (inl (inl e)) = or_left _ _ (same_path p q (cc))
in_paths p (At q ∷ xs) (inl (inr h)) = or_right _ _ (in_paths p xs (inl h))
in_paths p (At q ∷ xs) (inr (inl e)) = cc
in_paths p (At q ∷ xs) (inr (inr h)) = or_right _ _ (in_paths p xs (inr h))
in_paths p (Below q ∷ xs) (inl (inl e)) = cc
in_paths p (Below q ∷ xs) (inl (inr h)) = or_right _ _ (in_paths p xs (inl h))
in_paths p (Below q ∷ xs) (inr (inl e)) = or_left _ _ (same_path p q (cc))
in_paths p (Below q ∷ xs) (inr (inr h)) = or_right _ _ (in_paths p xs (inr h))
in_paths p (Text c ∷ xs) (inl (inl e)) = cc
in_paths p (Text c ∷ xs) (inl (inr h)) = in_paths p xs (inl h)
in_paths p (Text c ∷ xs) (inr (inl e)) = cc
in_paths p (Text c ∷ xs) (inr (inr h)) = in_paths p xs (inr h)

-- a path of the list whose children matter is such a matter
watched_in : (p : Path) (xs : List Matter) → is_among p (watched_among xs) ≡ true → In (Below p) xs
watched_in p [] h = cc
watched_in p (At q ∷ xs) h = inr (watched_in p xs h)
watched_in p (Below q ∷ xs) h = elim (or_cases (path_eq p q) (is_among p (watched_among xs)) h) [ inl here ↦ inl (ap Below (path_eq_same p q here)) | inr there ↦ inr (watched_in p xs there) ]
watched_in p (Text c ∷ xs) h = inr (watched_in p xs h)

-- and the other way round
in_watched : (p : Path) (xs : List Matter) → In (Below p) xs → is_among p (watched_among xs) ≡ true
in_watched p [] h = absurd h
in_watched p (At q ∷ xs) (inl e) = cc
in_watched p (At q ∷ xs) (inr h) = in_watched p xs h
in_watched p (Below q ∷ xs) (inl e) = or_left _ _ (same_path p q (cc))
in_watched p (Below q ∷ xs) (inr h) = or_right _ _ (in_watched p xs h)
in_watched p (Text c ∷ xs) (inl e) = cc
in_watched p (Text c ∷ xs) (inr h) = in_watched p xs h

-- the listed paths are just those of which the programs speak
pub paths_told : (es : List Program) (p : Path) → IsTrue (is_among p (paths_among (all_matters es))) ↔ SpeakOf es p
paths_told es p = (
  (λ h. elim (path_in p (all_matters es) h) [ inl k ↦ inl (any_mentioned es (At p) k) | inr k ↦ inr (any_mentioned es (Below p) k) ]),
  (λ h. elim h [ inl k ↦ in_paths p (all_matters es) (inl (any_listed es (At p) k)) | inr k ↦ in_paths p (all_matters es) (inr (any_listed es (Below p) k)) ]),
)

-- the listed paths whose children matter are just those
pub watched_told : (es : List Program) (p : Path) → IsTrue (is_among p (watched_among (all_matters es))) ↔ AnyMentions es (Below p)
watched_told es p = ((λ h. any_mentioned es (Below p) (watched_in p (all_matters es) h)), (λ h. in_watched p (all_matters es) (any_listed es (Below p) h)))

-- ---- paths above

-- a path behind a segment comes from one of the list
mapped_in : (s : Segment) (p : Path) (ps : List Path) → is_among p (map (λ q. s ∷ q) ps) ≡ true → (r : Path) × IsTrue (is_among r ps) × (p ≡ s ∷ r)
mapped_in s p [] h = cc
mapped_in s p (q ∷ ps) h = elim (or_cases (path_eq p (s ∷ q)) (is_among p (map (λ q. s ∷ q) ps)) h) [
  | inl here ↦ (q, or_left _ _ (path_eq_refl q), path_eq_same p (s ∷ q) here)
  | inr there ↦ let more = mapped_in s p ps there in (more.0, or_right _ _ more.1, more.2)
]

-- and each of the list gives one
in_mapped : (s : Segment) (p : Path) (ps : List Path) → is_among p ps ≡ true → is_among (s ∷ p) (map (λ q. s ∷ q) ps) ≡ true
in_mapped s p [] h = cc
in_mapped s p (q ∷ ps) h = elim (or_cases (path_eq p q) (is_among p ps) h) [
  | inl here ↦ or_left _ _ (same_path (s ∷ p) (s ∷ q) (ap (λ r. s ∷ r) (path_eq_same p q here)))
  | inr there ↦ or_right _ _ (in_mapped s p ps there)
]

-- a front of a path isn't the root, and the path goes on from it
front_is : (q p : Path) → is_among q (fronts p) ≡ true → (q ≢ []) × (more : Path) × (p ≡ q ++ more)
front_is q [] h = cc
front_is q (s ∷ p) h = elim (or_cases (path_eq q (s ∷ [])) (is_among q (map (λ r. s ∷ r) (fronts p))) h) [
  | inl here ↦ let is = path_eq_same q (s ∷ []) here in ((λ e. let no_root : ◌≡◌ {A = Path} [] (s ∷ []) = sym e ∙ is in cc), p, ap (λ r. r ++ p) (sym is))
  | inr there ↦
      let m = mapped_in s q (fronts p) there in
      let f = front_is m.0 p m.1 in
      ((λ e. let no_root : ◌≡◌ {A = Path} [] (s ∷ m.0) = sym e ∙ m.2 in cc), f.1, ap (λ r. s ∷ r) f.2 ∙ ap (λ r. r ++ f.1) (sym m.2))
]

-- and what a path goes on from is a front, if it isn't the root
is_front : (q more : Path) → q ≢ [] → is_among q (fronts (q ++ more)) ≡ true
is_front [] more h = absurd (h refl)
is_front (s ∷ []) more h = or_left _ _ (path_eq_refl (s ∷ []))
is_front (s ∷ r ∷ q) more h = or_right (path_eq (s ∷ r ∷ q) (s ∷ [])) _ (in_mapped s (r ∷ q) (fronts (r ∷ q ++ more)) (is_front (r ∷ q) more (λ e. cc)))

-- a front of several paths is a front of one
pub front_of : (q : Path) (ps : List Path) → is_among q (all_fronts ps) ≡ true → (p : Path) × IsTrue (is_among p ps) × IsTrue (is_among q (fronts p))
front_of q [] h = cc
front_of q (p ∷ ps) h = elim (or_cases _ _ (sym (list_any-append (path_eq q) (fronts p) (all_fronts ps)) ∙ h)) [
  | inl here ↦ (p, or_left _ _ (path_eq_refl p), here)
  | inr there ↦ let more = front_of q ps there in (more.0, or_right _ _ more.1, more.2)
]

-- and a front of one is a front of them
pub among_fronts : (q p : Path) (ps : List Path) → is_among p ps ≡ true → is_among q (fronts p) ≡ true → is_among q (all_fronts ps) ≡ true
among_fronts q p [] h k = cc
among_fronts q p (r ∷ ps) h k = list_any-append (path_eq q) (fronts r) (all_fronts ps) ∙ elim (or_cases (path_eq p r) (is_among p ps) h) [
  | inl here ↦ or_left _ _ (ap (λ x. is_among q (fronts x)) (sym (path_eq_same p r here)) ∙ k)
  | inr there ↦ or_right (is_among q (fronts r)) _ (among_fronts q p ps there k)
]

-- the fronts of all listed paths are just the named ones
pub named_told : (es : List Program) (p : Path) → IsTrue (is_among p (all_fronts (paths_among (all_matters es)))) ↔ IsNamed es p
named_told es p = (
  (λ h.
      let at = front_of p (paths_among (all_matters es)) h in
      let f = front_is p at.0 at.2 in
      record { not_root = f.0; more = f.1; spoken = subst (SpeakOf es) f.2 ((paths_told es at.0).0 at.1) }),
  (λ n. among_fronts p (p ++ n.more) (paths_among (all_matters es)) ((paths_told es (p ++ n.more)).1 n.spoken) (is_front p n.more n.not_root)),
)
