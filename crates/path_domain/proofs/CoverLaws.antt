-- A table with the layout of the programs' domain has all that they mention.
use Rattle.std.proofs.Common.{◌≡◌, inl, inr, true, ℕ, suc, Some, List, [], ◌∷◌, map, refl, sym, ap, subst, ◌∙◌}
use Rattle.std.specs.Prelude.{slice_get}
use Rattle.std.proofs.lemmas.Bool.{or_cases, or_right}
use Rattle.fs_semantics.specs.FileTree.{Path}
use Rattle.fs_semantics.specs.Programs.{Test, True, False, Not, And, Or, IsFile, IsLink, IsDir, IsEmpty, IsNone, Program, Programs, Id, Err, Mkdir, Creat, Link, Rm, Cp, Steps, If, none, next}
use Rattle.fs_lang.specs.declared.program.Program.{Program as CodeProgram}
use Rattle.fs_lang.specs.Meaning.{program_of, programs_in}
use Rattle.fs_interpreter.specs.Places.{Listed, HasPath, HasContent, CoversTest, Covers, CoversSteps}
use Rattle.finite_domain.specs.Mentions.{Matter, At, Below, Text, TestMentions, Mentions, StepsMention, AnyMentions}
use Rattle.finite_domain.specs.Domains.{text_eq, is_text_among, SpeakOf, IsNamed}
use Rattle.finite_domain.specs.Layouts.{all_texts, first_uses, stem, numbered, Layout, IsLayout}
use Rattle.finite_domain.proofs.Matters.{all_listed}
use Rattle.finite_domain.proofs.Texts.{text_same, among_left, first_uses_are}
use Rattle.path_domain.proofs.LaidLaws.{stands}
use Rattle.path_domain.proofs.DomainLaws.{root_or}
use Rattle.std.proofs.lemmas.List.{append-nil}

-- the table has what is mentioned
abbrev Held : Listed → Matter → Type 0
Held table (At p) = HasPath table p
Held table (Below p) = HasPath table p
Held table (Text c) = HasContent table c

module _ (table : Listed) where
  -- a table that has all that a test mentions has the test's paths
  covers_test : (a : Test) → ((x : Matter) → TestMentions a x → Held table x) → CoversTest table a
  covers_test True h = tt
  covers_test False h = tt
  covers_test (Not a) h = covers_test a h
  covers_test (And a b) h = (covers_test a (λ x m. h x (inl m)), covers_test b (λ x m. h x (inr m)))
  covers_test (Or a b) h = (covers_test a (λ x m. h x (inl m)), covers_test b (λ x m. h x (inr m)))
  covers_test (IsFile p) h = h (At p) refl
  covers_test (IsLink p) h = h (At p) refl
  covers_test (IsDir p) h = h (At p) refl
  covers_test (IsEmpty p) h = h (Below p) refl
  covers_test (IsNone p) h = h (At p) refl

  mutual
    -- a table that has all that a program mentions has the program's paths and contents
    covers : (e : Program) → ((x : Matter) → Mentions e x → Held table x) → Covers table e
    covers Id h = tt
    covers Err h = tt
    covers (Mkdir p) h = h (At p) refl
    covers (Creat p c) h = (h (At p) (inl refl), h (Text c) (inr refl))
    covers (Link p c) h = (h (At p) (inl refl), h (Text c) (inr refl))
    covers (Rm p) h = h (Below p) refl
    covers (Cp q p) h = (h (At q) (inl refl), h (At p) (inr refl))
    covers (Steps es) h = covers_steps es h
    covers (If a e f) h = (covers_test a (λ x m. h x (inl m)), covers e (λ x m. h x (inr (inl m))), covers f (λ x m. h x (inr (inr m))))

    -- and so it is with steps
    covers_steps : (es : Programs) → ((x : Matter) → StepsMention es x → Held table x) → CoversSteps table es
    covers_steps none h = tt
    covers_steps (next e es) h = (covers e (λ x m. h x (inl m)), covers_steps es (λ x m. h x (inr m)))

-- what the steps of a list mention one of its programs mentions
any_of : (es : List CodeProgram) (x : Matter) → StepsMention (programs_in es) x → AnyMentions (map program_of es) x
any_of [] x h = h
any_of (e ∷ es) x (inl h) = inl h
any_of (e ∷ es) x (inr h) = inr (any_of es x h)

-- a text that is among all stands at some place
text_stands : (cs : List (List ℕ)) (c : List ℕ) → is_text_among c cs ≡ true → (i : ℕ) × (slice_get cs i ≡ Some c)
text_stands [] c h = cc
text_stands (d ∷ cs) c h = elim (or_cases (text_eq c d) (is_text_among c cs) h) [
  | inl here ↦ (0, ap Some (sym (text_same c d here)))
  | inr there ↦ let more = text_stands cs c there in (suc more.0, more.1)
]

module _ (es : List Program) (l : Layout) (laid : IsLayout es l) (table : Listed) (paths : table.paths ≡ l.paths) (contents : table.contents ≡ l.contents) where
  -- a table with the paths of the layout has each path that the programs speak of
  spoken_held : (p : Path) → SpeakOf es p → HasPath table p
  spoken_held p h = elim (root_or p) [
    | inl root ↦ inl root
    | inr below ↦
        let name : IsNamed es p = record { not_root = below; more = []; spoken = subst (SpeakOf es) (sym (append-nil p)) h } in
        let at = stands l.paths p ((laid.paths p).1 (inl name)) in
        inr (at.0, ap (λ ps. slice_get ps at.0) paths ∙ at.1)
  ]

  -- and with its contents it has all that they mention
  held : (x : Matter) → AnyMentions es x → Held table x
  held (At p) h = spoken_held p (inl h)
  held (Below p) h = spoken_held p (inr h)
  held (Text c) h =
      let there = among_left c (first_uses ([] ∷ all_texts es)) (numbered (stem laid.start) 0 l.paths) (first_uses_are c ([] ∷ all_texts es) ∙ or_right (text_eq c []) _ (all_listed es c h)) in
      let at = text_stands l.contents c (ap (is_text_among c) laid.contents ∙ there) in
      (at.0, ap (λ cs. slice_get cs at.0) contents ∙ at.1)

-- a table with the layout of the programs' domain has the paths and contents of all of them
pub all_covered : (es : List CodeProgram) (l : Layout) → IsLayout (map program_of es) l → (table : Listed) → table.paths ≡ l.paths → table.contents ≡ l.contents → CoversSteps table (programs_in es)
all_covered es l laid table paths contents = covers_steps table (programs_in es) (λ x m. held (map program_of es) l laid table paths contents x (any_of es x m))
