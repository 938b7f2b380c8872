-- What programs are read as.
use Rattle.std.proofs.Common.{◌≡◌, ◌↔◌, inl, inr, List, [], ◌∷◌, map, refl, ap, ap₂, ◌∙◌}
use Rattle.fs_semantics.specs.FileTree.{Path}
use Rattle.fs_semantics.specs.Programs.{Test, Program, Programs, True, False, Not, And, Or, IsFile, IsLink, IsDir, IsEmpty, IsNone, Id, Err, Mkdir, Creat, Link, Rm, Cp, Steps, If, none, next}
use Rattle.fs_lang.specs.Meaning.{program_of, programs_in}
use Rattle.fs_lang.specs.declared.program.Program.{Program as Code}
use Rattle.finite_domain.specs.Mentions.{Matter, At, Below, Text, TestMentions, Mentions, StepsMention}
use Rattle.given_links.specs.declared.links.GivenLink.{GivenLink}
use Rattle.given_links.specs.Reading.{read_as, test_with, program_with, steps_with, program_read_as, matter_with}
use Rattle.given_links.proofs.ReadLaws.{no_link}

-- steps that were read one by one
pub steps_alike : (links : List GivenLink) (fs es : List Code) → map program_of fs ≡ map (program_read_as links) (map program_of es) → programs_in fs ≡ steps_with (read_as links) (programs_in es)
steps_alike links [] [] h = refl
steps_alike links [] (e ∷ es) h = cc
steps_alike links (f ∷ fs) [] h = cc
steps_alike links (f ∷ fs) (e ∷ es) h =
    let first : program_of f ≡ program_read_as links (program_of e) = cc in
    let others : map program_of fs ≡ map (program_read_as links) (map program_of es) = cc in
    ap₂ next first (steps_alike links fs es others)

-- ---- what they speak of

module _ (f : Path → Path) where
  -- what a test with other paths mentions is what the test mentioned, with the other path in place
  test_to : (a : Test) (y : Matter) → TestMentions (test_with f a) y → (x : Matter) × TestMentions a x × (y ≡ matter_with f x)
  test_to True y h = absurd h
  test_to False y h = absurd h
  test_to (Not a) y h = test_to a y h
  test_to (And a b) y (inl h) = let r = test_to a y h in (r.0, inl r.1, r.2)
  test_to (And a b) y (inr h) = let r = test_to b y h in (r.0, inr r.1, r.2)
  test_to (Or a b) y (inl h) = let r = test_to a y h in (r.0, inl r.1, r.2)
  test_to (Or a b) y (inr h) = let r = test_to b y h in (r.0, inr r.1, r.2)
  test_to (IsFile p) y h = (At p, refl, h)
  test_to (IsLink p) y h = (At p, refl, h)
  test_to (IsDir p) y h = (At p, refl, h)
  test_to (IsEmpty p) y h = (Below p, refl, h)
  test_to (IsNone p) y h = (At p, refl, h)

  -- and what a test mentions is mentioned with the other path in place
  test_back : (a : Test) (x y : Matter) → TestMentions a x → y ≡ matter_with f x → TestMentions (test_with f a) y
  test_back True x y h e = absurd h
  test_back False x y h e = absurd h
  test_back (Not a) x y h e = test_back a x y h e
  test_back (And a b) x y (inl h) e = inl (test_back a x y h e)
  test_back (And a b) x y (inr h) e = inr (test_back b x y h e)
  test_back (Or a b) x y (inl h) e = inl (test_back a x y h e)
  test_back (Or a b) x y (inr h) e = inr (test_back b x y h e)
  test_back (IsFile p) x y h e = e ∙ ap (matter_with f) h
  test_back (IsLink p) x y h e = e ∙ ap (matter_with f) h
  test_back (IsDir p) x y h e = e ∙ ap (matter_with f) h
  test_back (IsEmpty p) x y h e = e ∙ ap (matter_with f) h
  test_back (IsNone p) x y h e = e ∙ ap (matter_with f) h

  mutual
    -- what a program with other paths mentions is what the program mentioned, with the other path in place
    to : (e : Program) (y : Matter) → Mentions (program_with f e) y → (x : Matter) × Mentions e x × (y ≡ matter_with f x)
    to Id y h = absurd h
    to Err y h = absurd h
    to (Mkdir p) y h = (At p, refl, h)
    to (Creat p content) y (inl h) = (At p, inl refl, h)
    to (Creat p content) y (inr h) = (Text content, inr refl, h)
    to (Link p target) y (inl h) = (At p, inl refl, h)
    to (Link p target) y (inr h) = (Text target, inr refl, h)
    to (Rm p) y h = (Below p, refl, h)
    to (Cp from p) y (inl h) = (At from, inl refl, h)
    to (Cp from p) y (inr h) = (At p, inr refl, h)
    to (Steps es) y h = to_in es y h
    to (If a d e) y (inl h) = let r = test_to a y h in (r.0, inl r.1, r.2)
    to (If a d e) y (inr (inl h)) = let r = to d y h in (r.0, inr (inl r.1), r.2)
    to (If a d e) y (inr (inr h)) = let r = to e y h in (r.0, inr (inr r.1), r.2)

    -- and so it is with steps
    to_in : (es : Programs) (y : Matter) → StepsMention (steps_with f es) y → (x : Matter) × StepsMention es x × (y ≡ matter_with f x)
    to_in none y h = absurd h
    to_in (next e es) y (inl h) = let r = to e y h in (r.0, inl r.1, r.2)
    to_in (next e es) y (inr h) = let r = to_in es y h in (r.0, inr r.1, r.2)

  mutual
    -- and what a program mentions is mentioned with the other path in place
    back : (e : Program) (x y : Matter) → Mentions e x → y ≡ matter_with f x → Mentions (program_with f e) y
    back Id x y h k = absurd h
    back Err x y h k = absurd h
    back (Mkdir p) x y h k = k ∙ ap (matter_with f) h
    back (Creat p content) x y (inl h) k = inl (k ∙ ap (matter_with f) h)
    back (Creat p content) x y (inr h) k = inr (k ∙ ap (matter_with f) h)
    back (Link p target) x y (inl h) k = inl (k ∙ ap (matter_with f) h)
    back (Link p target) x y (inr h) k = inr (k ∙ ap (matter_with f) h)
    back (Rm p) x y h k = k ∙ ap (matter_with f) h
    back (Cp from p) x y (inl h) k = inl (k ∙ ap (matter_with f) h)
    back (Cp from p) x y (inr h) k = inr (k ∙ ap (matter_with f) h)
    back (Steps es) x y h k = back_in es x y h k
    back (If a d e) x y (inl h) k = inl (test_back a x y h k)
    back (If a d e) x y (inr (inl h)) k = inr (inl (back d x y h k))
    back (If a d e) x y (inr (inr h)) k = inr (inr (back e x y h k))

    -- and so it is with steps
    back_in : (es : Programs) (x y : Matter) → StepsMention es x → y ≡ matter_with f x → StepsMention (steps_with f es) y
    back_in none x y h k = absurd h
    back_in (next e es) x y (inl h) k = inl (back e x y h k)
    back_in (next e es) x y (inr h) k = inr (back_in es x y h k)

-- what a program that is read mentions is what the program did, each path as it is read
pub mentions : (links : List GivenLink) (e : Program) (y : Matter) → Mentions (program_read_as links e) y ↔ ((x : Matter) × Mentions e x × (y ≡ matter_with (read_as links) x))
mentions links e y = ((λ h. to (read_as links) e y h), (λ r. back (read_as links) e r.0 y r.1 r.2))

-- ---- without links

-- without links a test is read as itself
test_same : (a : Test) → test_with (read_as []) a ≡ a
test_same True = refl
test_same False = refl
test_same (Not a) = ap Not (test_same a)
test_same (And a b) = ap₂ And (test_same a) (test_same b)
test_same (Or a b) = ap₂ Or (test_same a) (test_same b)
test_same (IsFile p) = ap IsFile (no_link p)
test_same (IsLink p) = ap IsLink (no_link p)
test_same (IsDir p) = ap IsDir (no_link p)
test_same (IsEmpty p) = ap IsEmpty (no_link p)
test_same (IsNone p) = ap IsNone (no_link p)

mutual
  -- without links a program is read as itself
  pub same : (e : Program) → program_read_as [] e ≡ e
  same Id = refl
  same Err = refl
  same (Mkdir p) = ap Mkdir (no_link p)
  same (Creat p content) = ap (λ q. Creat q content) (no_link p)
  same (Link p target) = ap (λ q. Link q target) (no_link p)
  same (Rm p) = ap Rm (no_link p)
  same (Cp from p) = ap₂ Cp (no_link from) (no_link p)
  same (Steps es) = ap Steps (same_steps es)
  same (If a d e) = (λ i. If (test_same a i) (same d i) (same e i))

  -- and so are steps
  same_steps : (es : Programs) → steps_with (read_as []) es ≡ es
  same_steps none = refl
  same_steps (next e es) = ap₂ next (same e) (same_steps es)
