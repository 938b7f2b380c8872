-- Lines of programs: one more of them, and the end, when no program is left.
use Rattle.std.proofs.Common.{◌≡◌, ◌+◌, ◌<◌, ◌≤◌, ℕ, suc, Bool, false, List, [], ◌∷◌, ◌++◌, length, map, get_or, drop, Option, sym, ap, ◌∙◌, append-nil, append_assoc, drop-cons, arith}
use Rattle.std.proofs.lemmas.List.{get_or-map, drop_all}
use Rattle.catalog_semantics.specs.Catalogs.{Catalog}
use Rattle.compiled_text.specs.Compiled.{Compiled}
use Rattle.fs_semantics.specs.Programs as model
use Rattle.fs_lang.specs.declared.program.Program.{Program}
use Rattle.fs_lang.specs.Meaning.{program_of}
use Rattle.known_inputs.specs.declared.inputs.Known.{Known}
use Rattle.reports.specs.Reports.{is_assumed_at, resource_program, program_lines}

-- one mark more, where none is assumed
pub one_unmarked : (plain : List ℕ) (i : ℕ) (marks : List Bool) → i < length plain
    → (marks ++ false ∷ []) ++ map (λ place. false) (drop (i + 1) plain) ≡ marks ++ map (λ place. false) (drop i plain)
one_unmarked plain i marks h =
    let next : suc i ≡ i + 1 = omega arith in
    let places : drop i plain ≡ get_or plain i 0 ∷ drop (i + 1) plain = drop-cons plain i 0 h ∙ ap (λ j. get_or plain i 0 ∷ drop j plain) next in
    append_assoc marks (false ∷ []) (map (λ place. false) (drop (i + 1) plain)) ∙ ap (λ ps. marks ++ map (λ place. false) ps) (sym places)

module _ (k : Known) (m : Option Compiled) (c : Catalog) (plain : List ℕ) where
  -- the mark of the resource at an index
  mark_at : (marks : List Bool) (i : ℕ) (d : Bool) → marks ≡ map (is_assumed_at k m) plain → i < length plain → get_or marks i d ≡ is_assumed_at k m (get_or plain i 0)
  mark_at marks i d are h = ap (λ bs. get_or bs i d) are ∙ get_or-map (is_assumed_at k m) plain i 0 d h

  -- the lines of one resource, and behind them the lines that are left
  pub one_told : (marks : List Bool) (i : ℕ) (d : Bool) (into : List ℕ) (e : Program) (rest : List Program) → marks ≡ map (is_assumed_at k m) plain → i < length plain
      → (into ++ resource_program (get_or marks i d) c (get_or plain i 0) (program_of e)) ++ program_lines k m c (drop (i + 1) plain) (map program_of rest)
      ≡ into ++ program_lines k m c (drop i plain) (map program_of (e ∷ rest))
  one_told marks i d into e rest are h =
      let place = get_or plain i 0 in
      let more = program_lines k m c (drop (i + 1) plain) (map program_of rest) in
      let next : suc i ≡ i + 1 = omega arith in
      let places : drop i plain ≡ place ∷ drop (i + 1) plain = drop-cons plain i 0 h ∙ ap (λ j. place ∷ drop j plain) next in
      append_assoc into (resource_program (get_or marks i d) c place (program_of e)) more
      ∙ ap (λ b. into ++ (resource_program b c place (program_of e) ++ more)) (mark_at marks i d are h)
      ∙ ap (λ ps. into ++ program_lines k m c ps (map program_of (e ∷ rest))) (sym places)

  -- where no programs are left, no lines are
  all_told : (into places : List ℕ) → into ++ program_lines k m c places [] ≡ into
  all_told into [] = append-nil into
  all_told into (place ∷ places) = append-nil into

  -- and the lines so far are all
  pub ended : (places : List ℕ) (rest : List Program) (into all : List ℕ) → length rest ≡ 0 → into ++ program_lines k m c places (map program_of rest) ≡ all → into ≡ all
  ended places [] into all none told = sym (all_told into places) ∙ told
  ended places (e ∷ rest) into all none told = absurd (omega (arith, none))

  -- nothing is left, where no place is
  pub past : (i : ℕ) (es : List model.Program) (into all : List ℕ) → length plain ≤ i → into ++ program_lines k m c (drop i plain) es ≡ all → into ≡ all
  past i es into all h told = sym (append-nil into) ∙ ap (λ ps. into ++ program_lines k m c ps es) (sym (drop_all i plain h)) ∙ told
