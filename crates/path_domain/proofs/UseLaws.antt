-- What is gathered of programs: their paths, and their contents where each stands first.
use Rattle.std.proofs.Common.{◌≡◌, inl, inr, ℕ, suc, Bool, true, false, cond, not, ◌&&◌, ◌||◌, List, [], ◌∷◌, ◌++◌, map, Some, refl, sym, ap, ◌∙◌, append_assoc}
use Rattle.std.specs.List.{filter}
use Rattle.std.proofs.lemmas.Bool.{cases_Bool}
use Rattle.fs_semantics.specs.FileTree.{Path, path_eq, is_among}
use Rattle.fs_lang.specs.declared.program.Program.{Program as CodeProgram}
use Rattle.fs_lang.specs.Meaning.{program_of, programs_in}
use Rattle.fs_interpreter.specs.Places.{content_place, one_further, or_added}
use Rattle.finite_domain.specs.Mentions.{Matter, At, Below, Text}
use Rattle.finite_domain.specs.Matters.{matters_of, matters_of_steps, all_matters, paths_among, watched_among, texts_among}
use Rattle.finite_domain.specs.Domains.{text_eq, is_text_among}
use Rattle.finite_domain.specs.Layouts.{first_uses}
use Rattle.finite_domain.proofs.Texts.{text_same, text_eq_sym}
use Rattle.path_domain.specs.Gathered.{Gathered, nothing, with_matter, gather}
use Rattle.path_domain.proofs.TextLaws.{moved}
use Rattle.path_domain.proofs.StemLaws.{not_placed}

-- the steps of a list mention what its programs mention
pub same_matters : (es : List CodeProgram) → matters_of_steps (programs_in es) ≡ all_matters (map program_of es)
same_matters [] = refl
same_matters (e ∷ es) = ap (λ xs. matters_of (program_of e) ++ xs) (same_matters es)

-- ---- paths

-- the paths that are gathered are those that are mentioned and those of before
pub paths_are : (xs : List Matter) (g : Gathered) (q : Path) → (gather xs g).paths q ≡ (is_among q (paths_among xs) || g.paths q)
paths_are [] g q = refl
paths_are (At p ∷ xs) g q = paths_are xs (with_matter (At p) g) q ∙ moved (is_among q (paths_among xs)) (path_eq q p) (g.paths q)
paths_are (Below p ∷ xs) g q = paths_are xs (with_matter (Below p) g) q ∙ moved (is_among q (paths_among xs)) (path_eq q p) (g.paths q)
paths_are (Text c ∷ xs) g q = paths_are xs (with_matter (Text c) g) q

-- and so are the watched ones
pub watched_are : (xs : List Matter) (g : Gathered) (q : Path) → (gather xs g).watched q ≡ (is_among q (watched_among xs) || g.watched q)
watched_are [] g q = refl
watched_are (At p ∷ xs) g q = watched_are xs (with_matter (At p) g) q
watched_are (Below p ∷ xs) g q = watched_are xs (with_matter (Below p) g) q ∙ moved (is_among q (watched_among xs)) (path_eq q p) (g.watched q)
watched_are (Text c ∷ xs) g q = watched_are xs (with_matter (Text c) g) q

-- what is gathered puts no path into the table
pub table_paths : (xs : List Matter) (g : Gathered) → (gather xs g).table.paths ≡ g.table.paths
table_paths [] g = refl
table_paths (At p ∷ xs) g = table_paths xs (with_matter (At p) g)
table_paths (Below p ∷ xs) g = table_paths xs (with_matter (Below p) g)
table_paths (Text c ∷ xs) g = table_paths xs (with_matter (Text c) g)

-- ---- contents

-- tests that agree everywhere leave the same contents
filter_same : (f g : List ℕ → Bool) (cs : List (List ℕ)) → ((c : List ℕ) → f c ≡ g c) → filter f cs ≡ filter g cs
filter_same f g cs h = λ i. filter (λ c. h c i) cs

-- what passes two tests, one after the other, passes both at once
filter_both : (f g h : List ℕ → Bool) (cs : List (List ℕ)) → ((c : List ℕ) → h c ≡ (f c && g c)) → filter h cs ≡ filter f (filter g cs)
filter_both f g h cs is = filter_same h (λ c. f c && g c) cs is ∙ by cs
  where
    pick : (a b : Bool) (c : List ℕ) (cs : List (List ℕ)) → f c ≡ a → filter (λ d. f d && g d) cs ≡ filter f (filter g cs)
        → cond (a && b) (c ∷ filter (λ d. f d && g d) cs) (filter (λ d. f d && g d) cs) ≡ filter f (cond b (c ∷ filter g cs) (filter g cs))
    pick true true c cs k more = ap (λ ds. c ∷ ds) more ∙ sym (ap (λ a. cond a (c ∷ filter f (filter g cs)) (filter f (filter g cs))) k)
    pick true false c cs k more = more
    pick false true c cs k more = more ∙ sym (ap (λ a. cond a (c ∷ filter f (filter g cs)) (filter f (filter g cs))) k)
    pick false false c cs k more = more

    by : (cs : List (List ℕ)) → filter (λ c. f c && g c) cs ≡ filter f (filter g cs)
    by [] = refl
    by (c ∷ cs) = pick (f c) (g c) c cs refl (by cs)

-- a content that is among all has a place
placed : (cs : List (List ℕ)) (c : List ℕ) → is_text_among c cs ≡ true → (i : ℕ) × (content_place cs c ≡ Some i)
placed [] c h = cc
placed (d ∷ cs) c h = elim (text_eq d c) as (λ b. (b || is_text_among c cs) ≡ true → (i : ℕ) × (cond b (Some 0) (one_further (content_place cs c)) ≡ Some i)) [
  | true ↦ λ k. (0, refl)
  | false ↦ λ k. let more = placed cs c k in (suc more.0, ap one_further more.1)
] (ap (λ b. b || is_text_among c cs) (text_eq_sym d c) ∙ h)

-- those that aren't in the list
abbrev others : List (List ℕ) → List ℕ → Bool
others cs c = not (is_text_among c cs)

-- where a second thing implies a first, what isn't the first is neither
implied : (a b : Bool) → (b ≡ true → a ≡ true) → not a ≡ (not a && not b)
implied true b h = refl
implied false true h = sym (h refl)
implied false false h = refl

-- what isn't one of two is neither
not_or : (a b : Bool) → not (a || (b || false)) ≡ (not a && not b)
not_or true b = refl
not_or false true = refl
not_or false false = refl

-- a text is among contents with one more exactly where it was, or is that one
append_among : (d c : List ℕ) (cs : List (List ℕ)) → is_text_among d (cs ++ c ∷ []) ≡ (is_text_among d cs || (text_eq d c || false))
append_among d c [] = refl
append_among d c (b ∷ cs) = ap (λ x. text_eq d b || x) (append_among d c cs) ∙ or_assoc (text_eq d b) (is_text_among d cs) (text_eq d c || false)
  where
    or_assoc : (a b c : Bool) → (a || (b || c)) ≡ ((a || b) || c)
    or_assoc true b c = refl
    or_assoc false b c = refl

-- with one content added, what was added and what is left are the same whole
one_text : (cs ts : List (List ℕ)) (c : List ℕ) → or_added (content_place cs c) cs c ++ filter (others (or_added (content_place cs c) cs c)) (first_uses ts) ≡ cs ++ filter (others cs) (first_uses (c ∷ ts))
one_text cs ts c = elim (cases_Bool (is_text_among c cs)) [
  | inl there ↦
      ap (λ o. or_added o cs c ++ filter (others (or_added o cs c)) (first_uses ts)) (placed cs c there).1
      ∙ ap (λ ds. cs ++ ds) (filter_both (others cs) (λ d. not (text_eq c d)) (others cs) (first_uses ts) (λ d. implied (is_text_among d cs) (text_eq c d) (λ e. ap (λ x. is_text_among x cs) (sym (text_same c d e)) ∙ there))
      ∙ sym (ap (λ b. cond b (c ∷ filter (others cs) (filter (λ d. not (text_eq c d)) (first_uses ts))) (filter (others cs) (filter (λ d. not (text_eq c d)) (first_uses ts)))) (ap not there)))
  | inr none ↦
      ap (λ o. or_added o cs c ++ filter (others (or_added o cs c)) (first_uses ts)) (not_placed cs c none)
      ∙ append_assoc cs (c ∷ []) (filter (others (cs ++ c ∷ [])) (first_uses ts))
      ∙ ap (λ ds. cs ++ c ∷ ds) (filter_both (others cs) (λ d. not (text_eq c d)) (others (cs ++ c ∷ [])) (first_uses ts)
      (λ d. ap not (append_among d c cs) ∙ not_or (is_text_among d cs) (text_eq d c) ∙ ap (λ b. not (is_text_among d cs) && not b) (text_eq_sym d c)))
      ∙ ap (λ ds. cs ++ ds) (sym (ap (λ b. cond b (c ∷ filter (others cs) (filter (λ d. not (text_eq c d)) (first_uses ts))) (filter (others cs) (filter (λ d. not (text_eq c d)) (first_uses ts)))) (ap not none)))
]

-- nothing behind contents leaves them
append_nothing : (cs : List (List ℕ)) → cs ≡ cs ++ []
append_nothing [] = refl
append_nothing (c ∷ cs) = ap (λ ds. c ∷ ds) (append_nothing cs)

-- the contents that are gathered are those of before and each new one where it is used first
table_contents : (xs : List Matter) (g : Gathered) → (gather xs g).table.contents ≡ g.table.contents ++ filter (others g.table.contents) (first_uses (texts_among xs))
table_contents [] g = append_nothing g.table.contents
table_contents (At p ∷ xs) g = table_contents xs (with_matter (At p) g)
table_contents (Below p ∷ xs) g = table_contents xs (with_matter (Below p) g)
table_contents (Text c ∷ xs) g = table_contents xs (with_matter (Text c) g) ∙ one_text g.table.contents (texts_among xs) c

-- all contents that are gathered are the empty text and the others where they are used first
pub contents_are : (xs : List Matter) → (gather xs nothing).table.contents ≡ first_uses ([] ∷ texts_among xs)
contents_are xs = table_contents xs nothing ∙ ap (λ ds. [] ∷ ds) (filter_same (others ([] ∷ [])) (λ d. not (text_eq [] d)) (first_uses (texts_among xs)) (λ d. ap not (or_none (text_eq d []) ∙ text_eq_sym d [])))
  where
    or_none : (b : Bool) → (b || false) ≡ b
    or_none true = refl
    or_none false = refl
