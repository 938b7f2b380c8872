-- What is spelled is read: blocks, and statements.
use Rattle.std.proofs.Common.{◌≡◌, ◌≢◌, inl, inr, ℕ, zero, suc, ◌+◌, ◌<◌, true, false, cond, List, [], ◌∷◌, ◌++◌, length, Option, Some, None, refl, sym, ap, subst, ◌∙◌, length-append, arith}
use Rattle.std.specs.Prelude.{codes}
use Rattle.pp_syntax.specs.declared.token.Kind.TheVariants as kind
use Rattle.pp_syntax.specs.declared.tree.Expr.{Expr}
use Rattle.pp_syntax.specs.declared.tree.Operand.{Operand}
use Rattle.pp_syntax.specs.declared.tree.Func.{Func}
use Rattle.pp_syntax.specs.declared.tree.Stmt.{Stmt}
use Rattle.pp_syntax.specs.declared.tree.Stmt.TheVariants as stmt
use Rattle.pp_syntax.specs.declared.tree.Arm.{Arm, out-Arm}
use Rattle.pp_syntax.specs.declared.tree.CaseArm.{CaseArm, out-CaseArm}
use Rattle.pp_syntax.specs.Tokens.{Lexeme}
use Rattle.pp_syntax.specs.Phrases as phrases
use Rattle.pp_syntax.specs.Phrases.{◌then◌, Sign, Keyword, Each, Listed}
use Rattle.pp_syntax.specs.Derivation.{OptionOf, PostfixOf, ReferenceOf}
use Rattle.pp_syntax.specs.Statements.{BodiesOf, InBraces, OperandOf, Statements, BlockOf, ElseOf, ArmOf, CaseArmOf, CaseArms, StmtOf, IsStmtAt}
use Rattle.pp_syntax.specs.Statements as grammar
use Rattle.pp_readers.specs.Marks.{mark}
use Rattle.rh_base.specs.Reading.{◌>>=◌}
use Rattle.pp_readers.specs.Expressions.{with_front, option_with, reference_with, postfix_with}
use Rattle.pp_readers.proofs.Reading.{Fit, fits_first, fits_second}
use Rattle.pp_readers.proofs.Solid.{Begun, begun_some, no_close_first}
use Rattle.pp_readers.proofs.Listing.{Closes, items_read}
use Rattle.pp_readers.proofs.Spelled.{option_read}
use Rattle.pp_readers.proofs.DoubleQuotes.{dq_read}
use Rattle.pp_readers.specs.Combining.{Reader, both, behind, in_braces, begins}
use Rattle.pp_readers.specs.Names.{taken, function_by}
use Rattle.pp_readers.specs.Leads.{NothingFollows, BeginsStatement}
use Rattle.pp_readers.specs.Statements.{unclosed, statements_in, block_with, else_with, arm_of, arm_with, more_arms, arms_with, if_of, if_with, unless_of, unless_with, options_with, case_arm_of, case_arm_with, case_arms_in, case_of, case_with, chain_with, assign_with, called_or, called_with, stmt_with, stmt_at}
use Rattle.pp_readers.proofs.Combining.{Spells}
use Rattle.pp_readers.proofs.Names.{function_none}
use Rattle.pp_readers.proofs.Blocks.{Arms, to_left}
use Rattle.pp_readers.proofs.Building.{Phrase, Always, ReadsBefore, split, both_read, behind_read, in_braces_read, made_read, placed_read, many_read}
use Rattle.pp_readers.proofs.ReadBodies.{Quiet, Closing, by_first, token_solid, closing_here, closing_stops, unclosed_here}
use Rattle.pp_readers.proofs.ReadSearch.{NoSuffix, begins_here, each_rest}
use Rattle.pp_readers.proofs.ReadChains.{placeless, place_is, first_of, function_read, chain_read, assign_read, call_read}
use Rattle.pp_readers.proofs.Leads.{nothing_follows, leads_unclosed, leads_more, leads_some, statement_leads, leads_at}

-- `:` closes a list
colon_closes : Closes (codes ":")
colon_closes = record { here = λ at rest. refl; no_comma = λ at rest. refl; quiet = λ at rest. refl }

-- no `else` stands first
abbrev NoElse : Phrase
NoElse rest = begins kind.Keyword (codes "else") rest ≡ false

-- no `elsif` stands first
abbrev NoElsif : Phrase
NoElsif rest = begins kind.Keyword (codes "elsif") rest ≡ false

-- where a bracket closes a block, nothing follows
closing_ends : (rest : List Lexeme) → Closing rest → NothingFollows rest
closing_ends rest c = subst NothingFollows (sym c.2) (record { no_operator = refl; no_arrow = refl; no_comma = refl; no_elsif = refl; no_else = refl })

-- tokens that aren't none are one or more
pub some_long : (us : List Lexeme) → us ≢ [] → 0 < length us
some_long [] n = absurd (n refl)
some_long (t ∷ us) n = omega arith

module _ (e : Reader Expr) (E : Spells Expr) (reads : ReadsBefore Quiet e E) (begun : (y : Expr) (us : List Lexeme) → E y us → Begun us)
    (s : Reader Stmt) (S : Spells Stmt) (inner : ReadsBefore NothingFollows s S) (leads : (y : Stmt) (us : List Lexeme) → S y us → BeginsStatement us) where
  -- ---- blocks

  -- statements are read, before a bracket that closes their block
  statements_read : ReadsBefore Closing (statements_in s) (Statements S)
  statements_read ys us rest h f q =
      many_read unclosed s S (Statements S) Closing NothingFollows inner (λ y us rest h. leads_unclosed (us ++ rest) (leads_more us rest (leads y us h))) (λ y us h. leads_some us (leads y us h))
      (λ y us rest h. nothing_follows (us ++ rest) (leads_more us rest (leads y us h))) closing_stops closing_ends (λ us h. h) (λ x xs us h. h) ys (length (us ++ rest) + 1) us rest h f q (omega (arith, length-append us rest))

  -- a block is read
  pub block_read : ReadsBefore Always (block_with s) (BlockOf S)
  block_read = in_braces_read (statements_in s) (Statements S) Closing statements_read closing_here

  -- nothing that goes on behind an expression stands first in a block
  block_quiet : (ys : List Stmt) (us rest : List Lexeme) → BlockOf S ys us → Quiet (us ++ rest)
  block_quiet ys us rest h = by_first kind.Sign (codes "{") (Statements S ys then Sign (codes "}")) Quiet (λ at more. omega arith) us rest h

  -- an `else` that stands there is read
  there_else : (ys : List Stmt) (us rest : List Lexeme) → (Keyword (codes "else") then BlockOf S ys) us → Fit us → else_with s (us ++ rest) ≡ Some (ys, rest)
  there_else ys us rest h f =
      ap (λ v. cond v (behind kind.Keyword (codes "else") (block_with s) (us ++ rest)) (Some ([], us ++ rest))) (begins_here kind.Keyword (codes "else") (BlockOf S ys) us rest h)
      ∙ behind_read (block_with s) (BlockOf S) Always block_read kind.Keyword (codes "else") ys us rest h f tt

  -- an `else`, or none, is read, before anything that is no `else`
  else_read : ReadsBefore NoElse (else_with s) (ElseOf S)
  else_read [] us rest (inl n) f q = ap (λ u. else_with s (u ++ rest)) n ∙ ap (λ v. cond v (behind kind.Keyword (codes "else") (block_with s) rest) (Some ([], rest))) q
  else_read [] us rest (inr h) f q = there_else [] us rest h f
  else_read (y ∷ ys) us rest h f q = there_else (y ∷ ys) us rest h f

  -- an `else`, or none, begins with no `elsif`
  else_elsif : (ys : List Stmt) (us rest : List Lexeme) → ElseOf S ys us → NoElsif rest → NoElsif (us ++ rest)
  else_elsif [] us rest (inl n) q = subst (λ u. NoElsif (u ++ rest)) (sym n) q
  else_elsif [] us rest (inr h) q = by_first kind.Keyword (codes "else") (BlockOf S []) NoElsif (λ at more. refl) us rest h
  else_elsif (y ∷ ys) us rest h q = by_first kind.Keyword (codes "else") (BlockOf S (y ∷ ys)) NoElsif (λ at more. refl) us rest h

  -- ---- if and unless

  -- an arm is made of its test and its block
  arm_is : (at : ℕ) (a : Arm) → arm_of at ((out-Arm a).test, (out-Arm a).body) ≡ a
  arm_is at a = refl

  -- a test and its block are read
  arm_read : ReadsBefore Always (arm_with e s) (ArmOf E S)
  arm_read a us rest h f q =
      made_read arm_of (both e (block_with s)) (λ p. E p.0 then BlockOf S p.1) Always (both_read e (block_with s) E (BlockOf S) Quiet Always reads block_read (λ ys us rest h q. block_quiet ys us rest h))
      ((out-Arm a).test, (out-Arm a).body) a us rest h f tt (λ at. arm_is at a)

  -- `elsif` with tests and blocks are read, before anything that is no `elsif`
  more_read : (qs : List Arm) (n : ℕ) (us rest : List Lexeme) → Each (Keyword (codes "elsif")) (ArmOf E S) qs us → Fit us → NoElsif rest → length us < n → more_arms e s n (us ++ rest) ≡ Some (qs, rest)
  more_read =
      many_read (begins kind.Keyword (codes "elsif")) (behind kind.Keyword (codes "elsif") (arm_with e s)) (λ a. Keyword (codes "elsif") then ArmOf E S a) (Each (Keyword (codes "elsif")) (ArmOf E S)) NoElsif Always
      (behind_read (arm_with e s) (ArmOf E S) Always arm_read kind.Keyword (codes "elsif")) (λ a us rest h. begins_here kind.Keyword (codes "elsif") (ArmOf E S a) us rest h) (λ a us h. token_solid kind.Keyword (codes "elsif") (ArmOf E S a) us h)
      (λ a us rest h. tt) (λ rest q. q) (λ rest q. tt) (λ us h. h) (each_rest (Keyword (codes "elsif")) (ArmOf E S))

  -- one arm or more are read, before anything that is no `elsif`
  arms_read : ReadsBefore NoElsif (arms_with e s) (Arms E S)
  unfolding Arms
  arms_read [] us rest h f q = absurd h
  arms_read (a ∷ qs) us rest h f q =
      ap (arms_with e s) (split h.front h.back rest us h.whole)
      ∙ ap (λ r. r >>= λ a. with_front (a.0 ∷ []) (more_arms e s (length a.1 + 1) a.1)) (arm_read a h.front (h.back ++ rest) h.first (fits_first h.front h.back h.whole f) tt)
      ∙ ap (with_front (a ∷ [])) (more_read qs (length (h.back ++ rest) + 1) h.back rest h.second (fits_second h.front h.back h.whole f) q (omega (arith, length-append h.back rest)))

  -- arms and an `else`
  abbrev IfParts : List Arm × List Stmt → Phrase
  IfParts p = Arms E S p.0 then ElseOf S p.1

  -- the first arm, the others and the `else` are arms and an `else`
  arms_then : (a : Arm) (qs : List Arm) (other : List Stmt) (us : List Lexeme) → (ArmOf E S a then (Each (Keyword (codes "elsif")) (ArmOf E S) qs then ElseOf S other)) us → IfParts (a ∷ qs, other) us
  unfolding Arms
  arms_then a qs other us h = to_left (ArmOf E S a) (Each (Keyword (codes "elsif")) (ArmOf E S) qs) (ElseOf S other) us h

  -- an `if` is read as a statement
  if_read : (at : ℕ) (a : Arm) (qs : List Arm) (other : List Stmt) (us rest : List Lexeme) → (phrases.Token kind.Keyword (codes "if") at then (ArmOf E S a then (Each (Keyword (codes "elsif")) (ArmOf E S) qs then ElseOf S other))) us → Fit us → NothingFollows rest
      → stmt_with e s (us ++ rest) ≡ Some (stmt.If at (a ∷ qs) other, rest)
  if_read at a qs other us rest h f q =
      let t : (Keyword (codes "if") then IfParts (a ∷ qs, other)) us = record { front = h.front; back = h.back; first = (at, h.first); second = arms_then a qs other h.back h.second; whole = h.whole } in
      let w = first_of kind.Keyword (codes "if") (IfParts (a ∷ qs, other)) us rest t in
      ap (stmt_with e s) w ∙ ap (if_with e s) (sym w)
      ∙ placed_read if_of (behind kind.Keyword (codes "if") (both (arms_with e s) (else_with s))) (λ p. Keyword (codes "if") then IfParts p) NothingFollows
      (behind_read (both (arms_with e s) (else_with s)) IfParts NothingFollows
      (both_read (arms_with e s) (else_with s) (Arms E S) (ElseOf S) NoElsif NothingFollows arms_read (λ ys us rest h f q. else_read ys us rest h f q.no_else) (λ ys us rest h q. else_elsif ys us rest h q.no_elsif))
      kind.Keyword (codes "if"))
      (a ∷ qs, other) (stmt.If at (a ∷ qs) other) us rest t f q (token_solid kind.Keyword (codes "if") (IfParts (a ∷ qs, other)) us t)
      (ap (λ (b : ℕ). stmt.If b (a ∷ qs) other) (place_is kind.Keyword (codes "if") at (ArmOf E S a then (Each (Keyword (codes "elsif")) (ArmOf E S) qs then ElseOf S other)) us h))

  -- a test, its block and an `else`
  abbrev UnlessParts : Expr × (List Stmt × List Stmt) → Phrase
  UnlessParts p = E p.0 then (BlockOf S p.1.0 then ElseOf S p.1.1)

  -- nothing that goes on behind an expression stands first in a block and an `else`
  block_then : (p : List Stmt × List Stmt) (us rest : List Lexeme) → (BlockOf S p.0 then ElseOf S p.1) us → Quiet (us ++ rest)
  block_then p us rest h = subst Quiet (sym (split h.front h.back rest us h.whole)) (block_quiet p.0 h.front (h.back ++ rest) h.first)

  -- the parts of an `unless` are read
  unless_parts : ReadsBefore NothingFollows (both e (both (block_with s) (else_with s))) UnlessParts
  unless_parts =
      both_read e (both (block_with s) (else_with s)) E (λ p. BlockOf S p.0 then ElseOf S p.1) Quiet NothingFollows reads
      (both_read (block_with s) (else_with s) (BlockOf S) (ElseOf S) Always NothingFollows block_read (λ ys us rest h f q. else_read ys us rest h f q.no_else) (λ ys us rest h q. tt)) (λ p us rest h q. block_then p us rest h)

  -- an `unless` is read as a statement
  unless_read : (at : ℕ) (test : Expr) (body other : List Stmt) (us rest : List Lexeme) → (phrases.Token kind.Keyword (codes "unless") at then UnlessParts (test, (body, other))) us → Fit us → NothingFollows rest
      → stmt_with e s (us ++ rest) ≡ Some (stmt.Unless at test body other, rest)
  unless_read at test body other us rest h f q =
      let t = placeless kind.Keyword (codes "unless") at (UnlessParts (test, (body, other))) us h in
      let w = first_of kind.Keyword (codes "unless") (UnlessParts (test, (body, other))) us rest t in
      ap (stmt_with e s) w ∙ ap (unless_with e s) (sym w)
      ∙ placed_read unless_of (behind kind.Keyword (codes "unless") (both e (both (block_with s) (else_with s)))) (λ p. Keyword (codes "unless") then UnlessParts p) NothingFollows
      (behind_read (both e (both (block_with s) (else_with s))) UnlessParts NothingFollows unless_parts kind.Keyword (codes "unless"))
      (test, (body, other)) (stmt.Unless at test body other) us rest t f q (token_solid kind.Keyword (codes "unless") (UnlessParts (test, (body, other))) us t)
      (ap (λ (b : ℕ). stmt.Unless b test body other) (place_is kind.Keyword (codes "unless") at (UnlessParts (test, (body, other))) us h))

  -- ---- case

  -- an option of a `case` has a token
  option_solid : (o : Option Expr) (us : List Lexeme) → OptionOf E o us → 0 < length us
  option_solid None us h = omega (arith, ap length h.1)
  option_solid (Some y) us h = some_long us (begun_some us (begun y us h))

  -- it begins with neither `:` nor `}`
  option_apart : (o : Option Expr) (us rest : List Lexeme) → OptionOf E o us → (mark kind.Sign (codes ":") (us ++ rest) ≡ None) × (mark kind.Sign (codes "}") (us ++ rest) ≡ None)
  option_apart None us rest h = (ap (λ r. mark kind.Sign (codes ":") (r ++ rest)) h.1, ap (λ r. mark kind.Sign (codes "}") (r ++ rest)) h.1)
  option_apart (Some y) us rest h = (no_close_first (codes ":") refl refl refl refl us rest (begun y us h), no_close_first (codes "}") refl refl refl refl us rest (begun y us h))

  -- options to their `:` are read
  options_read : ReadsBefore Always (options_with e) (λ xs. Listed (OptionOf E) xs then Sign (codes ":"))
  options_read xs us rest h f q =
      items_read (codes ":") colon_closes (option_with e) (OptionOf E) (option_read dq_read e E reads begun) option_solid (λ o us rest h. (option_apart o us rest h).0) xs (length (us ++ rest) + 1) us rest h f (omega (arith, length-append us rest))

  -- options, `:` and a block
  abbrev CaseParts : List (Option Expr) × List Stmt → Phrase
  CaseParts p = (Listed (OptionOf E) p.0 then Sign (codes ":")) then BlockOf S p.1

  -- an arm of a `case` is made of its options and its block
  case_arm_is : (at : ℕ) (a : CaseArm) → case_arm_of at ((out-CaseArm a).options, (out-CaseArm a).body) ≡ a
  case_arm_is at a = refl

  -- an arm of a `case` is read
  case_arm_read : ReadsBefore Always (case_arm_with e s) (CaseArmOf E S)
  case_arm_read a us rest h f q =
      made_read case_arm_of (both (options_with e) (block_with s)) CaseParts Always
      (both_read (options_with e) (block_with s) (λ xs. Listed (OptionOf E) xs then Sign (codes ":")) (BlockOf S) Always Always options_read block_read (λ ys us rest h q. tt))
      ((out-CaseArm a).options, (out-CaseArm a).body) a us rest (to_left (Listed (OptionOf E) (out-CaseArm a).options) (Sign (codes ":")) (BlockOf S (out-CaseArm a).body) us h) f tt (λ at. case_arm_is at a)

  -- options don't begin with a bracket that closes a block
  listed_unclosed : (xs : List (Option Expr)) (us rest : List Lexeme) → Listed (OptionOf E) xs us → unclosed (us ++ rest) ≡ true
  listed_unclosed [] us rest h = absurd h.first
  listed_unclosed (x ∷ xs) us rest h =
      let t = h.first in
      ap unclosed (split h.front h.back rest us h.whole ∙ split t.front t.back (h.back ++ rest) h.front t.whole) ∙ unclosed_here (t.front ++ (t.back ++ (h.back ++ rest))) (option_apart x t.front (t.back ++ (h.back ++ rest)) t.first).1

  -- nor does an arm of a `case`
  case_arm_unclosed : (a : CaseArm) (us rest : List Lexeme) → CaseArmOf E S a us → unclosed (us ++ rest) ≡ true
  case_arm_unclosed a us rest h = ap unclosed (split h.front h.back rest us h.whole) ∙ listed_unclosed (out-CaseArm a).options h.front (h.back ++ rest) h.first

  -- options aren't spelled by no tokens
  listed_some : (xs : List (Option Expr)) → Listed (OptionOf E) xs [] → ⊥
  listed_some xs h = bad (listed_unclosed xs [] (record { kind = kind.Sign; text = codes "}"; at = 0 } ∷ []) h)
    where
      bad : false ≡ true → ⊥
      bad e = cc

  -- an arm of a `case` has a token
  case_arm_solid : (a : CaseArm) (us : List Lexeme) → CaseArmOf E S a us → us ≢ []
  case_arm_solid a us h n = Rattle.pp_readers.proofs.BodiesFound.then_some (Listed (OptionOf E) (out-CaseArm a).options) (Sign (codes ":") then BlockOf S (out-CaseArm a).body) (listed_some (out-CaseArm a).options) (subst (CaseArmOf E S a) n h)

  -- arms of a `case` are read, before a bracket that closes their block
  case_arms_read : ReadsBefore Closing (case_arms_in e s) (CaseArms E S)
  case_arms_read qs us rest h f q =
      many_read unclosed (case_arm_with e s) (CaseArmOf E S) (CaseArms E S) Closing Always case_arm_read case_arm_unclosed case_arm_solid (λ a us rest h. tt) closing_stops (λ rest q. tt) (λ us h. h) (λ x xs us h. h)
      qs (length (us ++ rest) + 1) us rest h f q (omega (arith, length-append us rest))

  -- a value, and arms in braces
  abbrev CaseWhole : Expr × List CaseArm → Phrase
  CaseWhole p = E p.0 then InBraces (CaseArms E S p.1)

  -- the parts of a `case` are read
  case_whole : ReadsBefore Always (both e (in_braces (case_arms_in e s))) CaseWhole
  case_whole =
      both_read e (in_braces (case_arms_in e s)) E (λ qs. InBraces (CaseArms E S qs)) Quiet Always reads (in_braces_read (case_arms_in e s) (CaseArms E S) Closing case_arms_read closing_here)
      (λ qs us rest h q. by_first kind.Sign (codes "{") (CaseArms E S qs then Sign (codes "}")) Quiet (λ at more. omega arith) us rest h)

  -- a `case` is read as a statement
  case_read : (at : ℕ) (v : Expr) (qs : List CaseArm) (us rest : List Lexeme) → (phrases.Token kind.Keyword (codes "case") at then CaseWhole (v, qs)) us → Fit us → stmt_with e s (us ++ rest) ≡ Some (stmt.Case at v qs, rest)
  case_read at v qs us rest h f =
      let t = placeless kind.Keyword (codes "case") at (CaseWhole (v, qs)) us h in
      let w = first_of kind.Keyword (codes "case") (CaseWhole (v, qs)) us rest t in
      ap (stmt_with e s) w ∙ ap (case_with e s) (sym w)
      ∙ placed_read case_of (behind kind.Keyword (codes "case") (both e (in_braces (case_arms_in e s)))) (λ p. Keyword (codes "case") then CaseWhole p) Always
      (behind_read (both e (in_braces (case_arms_in e s))) CaseWhole Always case_whole kind.Keyword (codes "case"))
      (v, qs) (stmt.Case at v qs) us rest t f tt (token_solid kind.Keyword (codes "case") (CaseWhole (v, qs)) us t)
      (ap (λ (b : ℕ). stmt.Case b v qs) (place_is kind.Keyword (codes "case") at (CaseWhole (v, qs)) us h))

  -- ---- statements

  -- what begins as an operand of a chain is read as a chain
  to_chain : (y : Operand) (us rest : List Lexeme) → OperandOf E y us → stmt_with e s (us ++ rest) ≡ chain_with e (us ++ rest)
  to_chain y us rest (grammar.resource at false name bs p q n h) =
      let t : (phrases.Some kind.Word name then InBraces (BodiesOf E bs)) us = subst (λ us. (phrases.Some kind.Word name then InBraces (BodiesOf E bs)) us) (sym (h.whole ∙ ap (λ r. r ++ h.back) h.first)) h.second in
      let w = first_of kind.Word name (InBraces (BodiesOf E bs)) us rest t in
      ap (stmt_with e s) w ∙ ap (λ (g : Option Func). called_or e (g >>= λ f. Some (f, t.back ++ rest)) (record { kind = kind.Word; text = name; at = t.first.0 } ∷ (t.back ++ rest))) (function_none name n) ∙ ap (chain_with e) (sym w)
  to_chain y us rest (grammar.resource at true name bs p q n h) = let w = first_of kind.Sign (codes "@") (phrases.Some kind.Word name then InBraces (BodiesOf E bs)) us rest h in ap (stmt_with e s) w ∙ ap (chain_with e) (sym w)
  to_chain y us rest (grammar.OperandOf.class at bs p h) =
      let w = split h.front h.back rest us h.whole ∙ ap (λ r. r ++ (h.back ++ rest)) h.first in
      ap (stmt_with e s) w ∙ ap (chain_with e) (sym w)
  to_chain y us rest (grammar.collector at name sought p h) =
      let w = split h.front h.back rest us h.whole ∙ ap (λ r. r ++ (h.back ++ rest)) h.first in
      ap (stmt_with e s) w ∙ ap (chain_with e) (sym w)
  to_chain y us rest (grammar.OperandOf.reference x p r) =
      let h = r.spelled in
      let w = split h.front h.back rest us h.whole ∙ ap (λ q. q ++ (h.back ++ rest)) h.first in
      ap (stmt_with e s) w ∙ ap (chain_with e) (sym w)
  to_chain y us rest (grammar.references xs p h) =
      let w = split h.front h.back rest us h.whole ∙ ap (λ r. r ++ (h.back ++ rest)) h.first.1 in
      ap (stmt_with e s) w ∙ ap (chain_with e) (sym w)

  module _ (refs : ReadsBefore Always (reference_with e) (ReferenceOf E)) (post : ReadsBefore NoSuffix (postfix_with e) (PostfixOf E)) where
    -- a statement is read, before anything that doesn't go on with it, if it holds of those in its blocks
    pub stmt_read : ReadsBefore NothingFollows (stmt_with e s) (StmtOf E S)
    stmt_read y us rest (grammar.StmtOf.chain at first others arrows is p h a) f q =
        let some = leads_some us (statement_leads E S y us (grammar.StmtOf.chain at first others arrows is p h a)) in
        let w = split h.front h.back rest us h.whole in
        ap (stmt_with e s) w ∙ to_chain first h.front (h.back ++ rest) h.first ∙ ap (chain_with e) (sym w)
        ∙ chain_read e E reads begun refs post at first others arrows us rest p some h a f q.no_arrow ∙ ap (λ z. Some (z, rest)) (sym is)
    stmt_read y us rest (grammar.assign at name v is p h) f q =
        let w = split h.front h.back rest us h.whole ∙ ap (λ r. r ++ (h.back ++ rest)) h.first.0.1 in
        ap (stmt_with e s) w ∙ ap (Rattle.pp_readers.specs.Statements.assign_with e) (sym w)
        ∙ assign_read e E reads begun refs post at name v us rest p h f (omega (arith, q.no_operator)) ∙ ap (λ z. Some (z, rest)) (sym is)
    stmt_read y us rest (grammar.call at g args is h) f q =
        let w = split h.front h.back rest us h.whole in
        let v = w ∙ ap (λ r. r ++ (h.back ++ rest)) h.first in
        ap (stmt_with e s) v ∙ ap (called_with e) (sym v)
        ∙ ap (λ r. called_or e r (us ++ rest)) (ap (taken function_by) w ∙ function_read g h.front (h.back ++ rest) (at, h.first) (fits_first h.front h.back h.whole f) tt)
        ∙ call_read e E reads begun refs post at g args us rest h f (omega (arith, q.no_operator), q.no_comma) ∙ ap (λ z. Some (z, rest)) (sym is)
    stmt_read y us rest (grammar.StmtOf.if at first others other is h) f q = if_read at first others other us rest h f q ∙ ap (λ z. Some (z, rest)) (sym is)
    stmt_read y us rest (grammar.StmtOf.unless at test body other is h) f q = unless_read at test body other us rest h f q ∙ ap (λ z. Some (z, rest)) (sym is)
    stmt_read y us rest (grammar.StmtOf.case at v arms is h) f q = case_read at v arms us rest h f ∙ ap (λ z. Some (z, rest)) (sym is)

module _ (e : Reader Expr) (E : Spells Expr) (reads : ReadsBefore Quiet e E) (begun : (y : Expr) (us : List Lexeme) → E y us → Begun us) (refs : ReadsBefore Always (reference_with e) (ReferenceOf E)) (post : ReadsBefore NoSuffix (postfix_with e) (PostfixOf E)) where
  -- a statement is read so, with blocks nested less deep than this
  pub stmt_at_read : (depth : ℕ) → ReadsBefore NothingFollows (stmt_at e depth) (IsStmtAt E depth)
  stmt_at_read zero y us rest h f q = absurd h
  stmt_at_read (suc depth) y us rest h f q = stmt_read e E reads begun (stmt_at e depth) (IsStmtAt E depth) (stmt_at_read depth) (leads_at E depth) refs post y us rest h f q
