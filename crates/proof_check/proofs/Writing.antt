-- The text that is written of formulas and logs spells them.
use Rattle.std.proofs.Common.{◌≡◌, ◌≢◌, inl, inr, ℕ, zero, suc, ◌+◌, ◌^◌, ◌<◌, ◌≤◌, ◌==◌, Bool, true, false, true≢false, not, ◌||◌, List, [], ◌∷◌, ◌++◌, length, map, get_or, Some, refl, sym, ap, ◌∙◌, subst, arith, decimal, if◌then◌else◌}
use Rattle.std.specs.Prelude.{codes}
use Rattle.std.specs.List.{flat_map, AllByRecursion}
use Rattle.std.specs.Str.Parse.{AllDigits}
use Rattle.std.proofs.lemmas.Bool.{ne_eqb, or_cases}
use Rattle.std.proofs.lemmas.List.{append-nil, append_assoc, length-append, length-map}
use Rattle.std.proofs.lemmas.Option.{slice_get_within}
use Rattle.std.proofs.lemmas.Fmt.{decimal_is_IsNumeral}
use Rattle.cnf.specs.declared.lit.Lit.{Lit}
use Rattle.cnf.specs.declared.log.Link.{Link}
use Rattle.cnf.specs.declared.log.Step.{Step}
use Rattle.cnf.specs.Literals.{opposite, same_lit, HasVariable}
use Rattle.cnf.specs.Clauses.{has_lit, HasVariables, IsClause, clause_of, without, resolvent}
use Rattle.cnf.specs.Proofs.{numbered, Leads, AreRight}
use Rattle.cnf.specs.ProofText.{Word, lit_word, clause_words, link_words, chain_words, step_words, line_text, formula_lines, log_lines, proof_text}
use Rattle.cnf.proofs.ClauseLaws.{same_is, one_clause, IsClause-clause_of, has_lit-clause_of, all-clause_of}
use Rattle.proof_check.specs.Refuted.{Refutation}
use Rattle.proof_check.specs.ProofWords.{Written, block_words, IsWritten, IsLinkWritten, IsStepWritten, read_of}
use Rattle.proof_check.specs.WordsLeft.{words_left, is_inner}
use Rattle.proof_check.specs.Joining.{AreClean}
use Rattle.proof_check.specs.Writing.{IsWritable, proofs_text, WrittenProofsAreRead, RightLogsAreWritable}
use Rattle.proof_check.proofs.WordLaws.{words_left-all, words_left-feed, words_left-blank, left_word}
use Rattle.proof_check.proofs.Spelling.{digit_range}
use Rattle.proof_check.proofs.Numbers.{clean_formula, clean_push}

-- ---- words of a line
-- a word that is read as it is written: it isn't empty, and has neither blanks nor line feeds
pub record IsPlain (w : Word) : Type 0 where
  pub some : 0 < length w
  pub inner : AllByRecursion (λ b. is_inner b ≡ true) w

-- a byte above the space is inside a word
inner_from : (b : ℕ) → 32 < b → is_inner b ≡ true
inner_from b h =
    ap (λ t. not (((t || (b == 9)) || (b == 13)) || (b == 10))) (ne_eqb b 32 (λ e. omega arith))
    ∙ ap (λ t. not ((t || (b == 13)) || (b == 10))) (ne_eqb b 9 (λ e. omega arith))
    ∙ ap (λ t. not (t || (b == 10))) (ne_eqb b 13 (λ e. omega arith))
    ∙ ap not (ne_eqb b 10 (λ e. omega arith))

-- a list of one entry has just that one
first : (a b : ℕ) (w : List ℕ) → a ∷ w ≡ b ∷ [] → a ≡ b
first a b w e = ap (λ (v : List ℕ). get_or v 0 0) e

-- digits are inside a word
digits_inner : (ds : List ℕ) → AllDigits 10 ds → AllByRecursion (λ b. is_inner b ≡ true) ds
digits_inner [] h = tt
digits_inner (d ∷ ds) h = (inner_from d (let r = digit_range d h.0 in let low = r.0 in omega arith), digits_inner ds h.1)

-- digits aren't the word `c`
no_digit : (ds : List ℕ) → AllDigits 10 ds → ds ≢ 99 ∷ []
no_digit ds h e = let k = subst (AllDigits 10) e h in let r = (digit_range 99 k.0).1 in omega arith

-- the decimal text of a number is a word
decimal_plain : (n : ℕ) → n < 2 ^ 63 → IsPlain (decimal n)
decimal_plain n h = let d = decimal_is_IsNumeral n (omega arith) in record { some = d.0.0; inner = digits_inner (decimal n) d.0.1 }

-- the decimal text of a number isn't the word `c`
decimal_counts : (n : ℕ) → n < 2 ^ 63 → decimal n ≢ 99 ∷ []
decimal_counts n h = let d = decimal_is_IsNumeral n (omega arith) in no_digit (decimal n) d.0.1

-- the text of a literal is a word
lit_plain : (l : Lit) → l.var < 2 ^ 63 → IsPlain (lit_word l)
lit_plain l h = by l.positive
  where
    by : (p : Bool) → IsPlain (if p then decimal l.var else 45 ∷ decimal l.var)
    by true = decimal_plain l.var h
    by false = record { some = omega arith; inner = (refl, (decimal_plain l.var h).inner) }

-- the text of a literal isn't the word `c`
lit_counts : (l : Lit) → l.var < 2 ^ 63 → lit_word l ≢ 99 ∷ []
lit_counts l h = by l.positive
  where
    by : (p : Bool) → (if p then decimal l.var else 45 ∷ decimal l.var) ≢ 99 ∷ []
    by true = decimal_counts l.var h
    by false = λ e. omega (arith, first 45 99 (decimal l.var) e)

-- ---- lines
-- the first word isn't `c`
abbrev pub Counts : List Word → Type 0
Counts [] = Unit {0}
Counts (w ∷ ws) = w ≢ 99 ∷ []

-- words of a line that isn't a comment
pub record IsLine (ws : List Word) : Type 0 where
  pub plain : AllByRecursion IsPlain ws
  pub counts : Counts ws

-- the text of a line has its words
line_left : (fresh : Bool) (ws : List Word) (rest : List ℕ) → AllByRecursion IsPlain ws → (fresh ≡ true → Counts ws) → words_left fresh (line_text ws ++ rest) ≡ ws ++ words_left true rest
line_left fresh [] rest h k = words_left-feed fresh 10 rest refl
line_left fresh (w ∷ []) rest h k =
    left_word fresh ((w ++ 10 ∷ []) ++ rest) w (10 ∷ rest) (append_assoc w (10 ∷ []) rest) h.0.some h.0.inner refl k
    ∙ ap (λ ws. w ∷ ws) (words_left-feed false 10 rest refl)
line_left fresh (w ∷ v ∷ ws) rest h k =
    left_word fresh ((w ++ 32 ∷ line_text (v ∷ ws)) ++ rest) w (32 ∷ (line_text (v ∷ ws) ++ rest)) (append_assoc w (32 ∷ line_text (v ∷ ws)) rest) h.0.some h.0.inner refl k
    ∙ ap (λ us. w ∷ us) (words_left-blank false 32 (line_text (v ∷ ws) ++ rest) refl refl ∙ line_left false (v ∷ ws) rest h.1 (λ e. absurd (true≢false (sym e))))

-- the words of all lines
abbrev joined : List (List Word) → List Word
joined [] = []
joined (ws ∷ lines) = ws ++ joined lines

-- the text of lines has their words, in order
lines_left : (lines : List (List Word)) (rest : List ℕ) → AllByRecursion IsLine lines → words_left true (flat_map line_text lines ++ rest) ≡ joined lines ++ words_left true rest
lines_left [] rest h = refl
lines_left (ws ∷ lines) rest h =
    ap (words_left true) (append_assoc (line_text ws) (flat_map line_text lines) rest)
    ∙ line_left true ws (flat_map line_text lines ++ rest) h.0.plain (λ e. h.0.counts)
    ∙ ap (λ us. ws ++ us) (lines_left lines rest h.1)
    ∙ sym (append_assoc ws (joined lines) (words_left true rest))

-- the words of lines that come one from each entry
joined_map : {X : Type 0} (f : X → List Word) (xs : List X) → joined (map f xs) ≡ flat_map f xs
joined_map f [] = refl
joined_map f (x ∷ xs) = ap (λ ws. f x ++ ws) (joined_map f xs)

-- ---- the lines of a block
-- what holds of all entries of two lists holds of all of both joined
all_joined : {X : Type 0} (P : X → Type 0) (xs ys : List X) → AllByRecursion P xs → AllByRecursion P ys → AllByRecursion P (xs ++ ys)
all_joined P [] ys h k = k
all_joined P (x ∷ xs) ys h k = (h.0, all_joined P xs ys h.1 k)

-- `0` is a word
zero_plain : IsPlain (codes "0")
zero_plain = record { some = omega arith; inner = (refl, tt) }

-- `0` isn't the word `c`
zero_counts : codes "0" ≢ 99 ∷ []
zero_counts e = omega (arith, first 48 99 [] e)

module _ (vars : ℕ) (small : vars ≤ 2 ^ 31) where
  -- a variable of the formula fits 63 bits
  var_fits : (l : Lit) → HasVariable vars l → l.var < 2 ^ 63
  var_fits l h = let a = h.1 in omega arith

  -- the texts of literals are words
  lits_plain : (c : List Lit) → HasVariables vars c → AllByRecursion IsPlain (map lit_word c)
  lits_plain [] h = tt
  lits_plain (l ∷ c) h = (lit_plain l (var_fits l h.0), lits_plain c h.1)

  -- the words of a clause are words
  clause_plain : (c : List Lit) → HasVariables vars c → AllByRecursion IsPlain (clause_words c)
  clause_plain c h = all_joined IsPlain (map lit_word c) (codes "0" ∷ []) (lits_plain c h) (zero_plain, tt)

  -- the line of a clause isn't a comment
  clause_counts : (c : List Lit) (more : List Word) → HasVariables vars c → Counts (clause_words c ++ more)
  clause_counts [] more h = zero_counts
  clause_counts (l ∷ c) more h = lit_counts l (var_fits l h.0)

  -- the words of links are words
  links_plain : (links : List Link) → AllByRecursion (IsLinkWritten vars) links → AllByRecursion IsPlain (flat_map link_words links)
  links_plain [] h = tt
  links_plain (k ∷ links) h = (decimal_plain k.number h.0.fits, (lit_plain k.pivot (var_fits k.pivot h.0.pivot), links_plain links h.1))

  -- the words of a step are a line
  step_line : (s : Step) → IsStepWritten vars s → IsLine (step_words s)
  step_line s h = record {
    plain = all_joined IsPlain (clause_words s.clause) (chain_words s.start s.chain) (clause_plain s.clause h.variables)
        (decimal_plain s.start h.fits, all_joined IsPlain (flat_map link_words s.chain) (codes "0" ∷ []) (links_plain s.chain h.links) (zero_plain, tt));
    counts = clause_counts s.clause (chain_words s.start s.chain) h.variables;
  }

  -- the words of clauses are lines
  clause_lines : (cs : List (List Lit)) → AllByRecursion (HasVariables vars) cs → AllByRecursion IsLine (map clause_words cs)
  clause_lines [] h = tt
  clause_lines (c ∷ cs) h = (record { plain = clause_plain c h.0; counts = subst Counts (append-nil (clause_words c)) (clause_counts c [] h.0) }, clause_lines cs h.1)

  -- the words of steps are lines
  step_lines : (steps : List Step) → AllByRecursion (IsStepWritten vars) steps → AllByRecursion IsLine (map step_words steps)
  step_lines [] h = tt
  step_lines (s ∷ steps) h = (step_line s h.0, step_lines steps h.1)

  -- the first words of a formula are a line
  formula_line : (n : ℕ) → n < 2 ^ 63 → IsLine (codes "p" ∷ codes "cnf" ∷ decimal vars ∷ decimal n ∷ [])
  formula_line n h = record {
    plain = (record { some = omega arith; inner = (refl, tt) }, (record { some = omega arith; inner = (refl, (refl, (refl, tt))) }, (decimal_plain vars (omega arith), (decimal_plain n h, tt))));
    counts = λ e. omega (arith, first 112 99 [] e);
  }

  -- the first words of a log are a line
  log_line : (n : ℕ) → n < 2 ^ 63 → IsLine (codes "log" ∷ decimal n ∷ [])
  log_line n h = record {
    plain = (record { some = omega arith; inner = (refl, (refl, (refl, tt))) }, (decimal_plain n h, tt));
    counts = λ e. omega (arith, first 108 99 (111 ∷ 103 ∷ []) e);
  }

-- the text of a block has its words
block_left : (b : Written) (rest : List ℕ) → IsWritten b → words_left true (proof_text (record { vars = b.vars; clauses = b.clauses }) b.steps ++ rest) ≡ block_words b ++ words_left true rest
block_left b rest h =
    let front = formula_lines b.vars b.clauses in
    let back = log_lines b.steps in
    let head : List Word = codes "p" ∷ codes "cnf" ∷ decimal b.vars ∷ decimal (length b.clauses) ∷ [] in
    let second : List Word = codes "log" ∷ decimal (length b.steps) ∷ [] in
    ap (words_left true) (append_assoc (flat_map line_text front) (flat_map line_text back) rest)
    ∙ lines_left front (flat_map line_text back ++ rest) (formula_line b.vars h.small (length b.clauses) h.clause_count, clause_lines b.vars h.small b.clauses h.clauses)
    ∙ ap (λ us. joined front ++ us) (lines_left back rest (log_line b.vars h.small (length b.steps) h.step_count, step_lines b.vars h.small b.steps h.steps))
    ∙ ap (λ us. (head ++ us) ++ (joined back ++ words_left true rest)) (joined_map clause_words b.clauses)
    ∙ ap (λ us. (head ++ flat_map clause_words b.clauses) ++ ((second ++ us) ++ words_left true rest)) (joined_map step_words b.steps)
    ∙ sym (append_assoc (head ++ flat_map clause_words b.clauses) (second ++ flat_map step_words b.steps) (words_left true rest))

-- ---- logs whose steps are right
-- the clause of a clause's literals is itself
pub clause_same : (c : List Lit) → IsClause c → clause_of c ≡ c
clause_same c h = one_clause (clause_of c) c (IsClause-clause_of c) h (has_lit-clause_of c)

-- what holds of all literals holds of one that stands there
all_has : (P : Lit → Type 0) (c : List Lit) (x : Lit) → AllByRecursion P c → has_lit c x ≡ true → P x
all_has P [] x h e = absurd (true≢false (sym e))
all_has P (l ∷ c) x h e = elim (or_cases (same_lit x l) (has_lit c x) e) [ inl s ↦ subst P (sym (same_is x l s)) h.0 | inr r ↦ all_has P c x h.1 r ]

-- what holds of all literals holds of those that are left without one
all_without : (P : Lit → Type 0) (l : Lit) (c : List Lit) → AllByRecursion P c → AllByRecursion P (without l c)
all_without P l [] h = tt
all_without P l (m ∷ c) h = by (same_lit l m) (all_without P l c h.1)
  where
    by : (b : Bool) → AllByRecursion P (without l c) → AllByRecursion P (if b then without l c else m ∷ without l c)
    by true rest = rest
    by false rest = (h.0, rest)

-- a number that names a clause is from 1 to the count of clauses
within : (cs : List (List Lit)) (n : ℕ) (c : List Lit) → numbered cs n ≡ Some c → (1 ≤ n) × (n ≤ length cs)
within cs zero c e = absurd cc
within cs (suc n) c e = let l = slice_get_within cs n c e in (omega arith, omega arith)

module _ (n : ℕ) (earlier : List (List Lit)) (clean : AreClean n earlier) (few : length earlier < 2 ^ 63) where
  -- a chain that leads from a clause to another over the variables has links that can be written
  chain_written : (chain : List Link) (c d : List Lit) → IsClause c × HasVariables n c → Leads earlier c chain d → AllByRecursion (IsLinkWritten n) chain × (IsClause d × HasVariables n d)
  chain_written [] c d h e = (tt, subst (λ x. IsClause x × HasVariables n x) e h)
  chain_written (link ∷ chain) c d h e =
      let named = e.0 in
      let at = within earlier link.number named e.1 in
      let k = clean link.number named e.1 in
      let low = at.0 in
      let high = at.1 in
      let rest = chain_written chain (resolvent link.pivot c named) d (
        IsClause-clause_of (without link.pivot c ++ without (opposite link.pivot) named),
        all-clause_of (HasVariable n) (without link.pivot c ++ without (opposite link.pivot) named)
            (all_joined (HasVariable n) (without link.pivot c) (without (opposite link.pivot) named) (all_without (HasVariable n) link.pivot c h.1) (all_without (HasVariable n) (opposite link.pivot) named k.1)),
      ) e.4 in
      ((record { low = omega arith; fits = omega arith; pivot = all_has (HasVariable n) c link.pivot h.1 e.2 }, rest.0), rest.1)

-- steps that are right can be written, and their clauses are in order
steps_written : (n : ℕ) (earlier : List (List Lit)) (steps : List Step) → AreClean n earlier → AreRight earlier steps → length earlier + length steps < 2 ^ 63 → AllByRecursion (IsStepWritten n) steps × AllByRecursion (λ (s : Step). IsClause s.clause) steps
steps_written n earlier [] clean right fits = (tt, tt)
steps_written n earlier (s ∷ steps) clean right fits =
    let first = right.0.0 in
    let at = (within earlier s.start first right.0.1).1 in
    let w = chain_written n earlier clean (omega arith) s.chain first s.clause (clean s.start first right.0.1) right.0.2 in
    let long = length-append earlier (s.clause ∷ []) in
    let rest = steps_written n (earlier ++ s.clause ∷ []) steps (clean_push n earlier s.clause clean w.1.0 w.1.1) right.1 (omega (arith, long)) in
    ((record { variables = w.1.1; fits = omega arith; links = w.0 }, rest.0), (w.1.0, rest.1))

-- a formula and its log as they are written
abbrev written_of : Refutation → Written
written_of p = record { vars = p.formula.vars; clauses = p.formula.clauses; steps = p.steps }

-- clauses that are in order are read as they are
clauses_same : (cs : List (List Lit)) → AllByRecursion IsClause cs → map clause_of cs ≡ cs
clauses_same [] h = refl
clauses_same (c ∷ cs) h = ap (λ x. x ∷ map clause_of cs) (clause_same c h.0) ∙ ap (λ xs. c ∷ xs) (clauses_same cs h.1)

-- a step as it is read again
abbrev step_again : Step → Step
step_again s = record { clause = clause_of s.clause; start = s.start; chain = s.chain }

-- steps whose clauses are in order are read as they are
steps_same : (steps : List Step) → AllByRecursion (λ (s : Step). IsClause s.clause) steps → map step_again steps ≡ steps
steps_same [] h = refl
steps_same (s ∷ steps) h =
    let e : step_again s ≡ s = λ i. record { clause = clause_same s.clause h.0 i; start = s.start; chain = s.chain } in
    ap (λ x. x ∷ map step_again steps) e ∙ ap (λ xs. s ∷ xs) (steps_same steps h.1)

module _ (p : Refutation) (h : IsWritable p) where
  -- a formula and log that have a text can be written
  writable : IsWritten (written_of p)
  writable = record { small = h.small; clause_count = h.clause_count; step_count = h.step_count; clauses = h.formula.variables; steps = h.steps }

  -- what is read of it is the formula and the log
  again : p ≡ read_of (written_of p)
  again = λ i. record {
    formula = record { vars = p.formula.vars; clauses = sym (clauses_same p.formula.clauses h.formula.clauses) i };
    steps = sym (steps_same p.steps h.clauses) i;
  }

-- a log whose steps are right has a text
pub right_logs : RightLogsAreWritable
right_logs p formula small right fits =
    let both = steps_written p.formula.vars p.formula.clauses p.steps (subst (AreClean p.formula.vars) (append-nil p.formula.clauses) (clean_formula p.formula formula)) right fits in
    record { formula = formula; small = small; clause_count = omega arith; step_count = omega arith; clauses = both.1; steps = both.0 }

-- ---- all blocks
-- the text of formulas and logs has their words
blocks_left : (ps : List Refutation) → AllByRecursion IsWritable ps → words_left true (flat_map (λ p. proof_text p.formula p.steps) ps) ≡ flat_map block_words (map written_of ps)
blocks_left [] h = refl
blocks_left (p ∷ ps) h =
    block_left (written_of p) (flat_map (λ q. proof_text q.formula q.steps) ps) (writable p h.0)
    ∙ ap (λ us. block_words (written_of p) ++ us) (blocks_left ps h.1)

-- formulas and logs that have texts can all be written
all_written : (ps : List Refutation) → AllByRecursion IsWritable ps → AllByRecursion IsWritten (map written_of ps)
all_written [] h = tt
all_written (p ∷ ps) h = (writable p h.0, all_written ps h.1)

-- what is read of them is these formulas and logs
all_again : (ps : List Refutation) → AllByRecursion IsWritable ps → ps ≡ map read_of (map written_of ps)
all_again [] h = refl
all_again (p ∷ ps) h = ap (λ q. q ∷ ps) (again p h.0) ∙ ap (λ qs. read_of (written_of p) ∷ qs) (all_again ps h.1)

-- the line that says how many there are
count_line : (n : ℕ) (rest : List ℕ) → codes "proofs " ++ (decimal n ++ (codes "\n" ++ rest)) ≡ line_text (codes "proofs" ∷ decimal n ∷ []) ++ rest
count_line n rest = ap (λ t. codes "proofs " ++ t) (sym (append_assoc (decimal n) (10 ∷ []) rest))

-- what is written of formulas and logs is read as them
pub written_proofs : WrittenProofsAreRead
written_proofs ps many h =
    let n = length ps in
    let rest = flat_map (λ p. proof_text p.formula p.steps) ps in
    let long : length (map written_of ps) ≡ n = length-map ps written_of in
    record {
      blocks = map written_of ps;
      words = sym (words_left-all (proofs_text ps)) ∙ ap (words_left true) (count_line n rest)
          ∙ line_left true (codes "proofs" ∷ decimal n ∷ []) rest
          (record { some = omega arith; inner = (refl, (refl, (refl, (refl, (refl, (refl, tt)))))) }, (decimal_plain n many, tt))
          (λ e f. omega (arith, first 112 99 (114 ∷ 111 ∷ 111 ∷ 102 ∷ 115 ∷ []) f))
          ∙ ap (λ us. codes "proofs" ∷ decimal n ∷ us) (blocks_left ps h)
          ∙ ap (λ k. codes "proofs" ∷ decimal k ∷ flat_map block_words (map written_of ps)) (sym long);
      count = omega (arith, long);
      valid = all_written ps h;
      read = all_again ps h;
    }
