-- What is read is spelled: the rules of expressions, where it holds of what stands within brackets.
use Rattle.std.proofs.Common.{◌≡◌, ◌≢◌, ℕ, zero, suc, ◌+◌, Bool, true, false, cond, List, [], ◌∷◌, ◌++◌, length, Option, Some, None, refl, sym, ap, subst, ◌∙◌, append_assoc}
use Rattle.std.specs.Prelude.{codes}
use Rattle.pp_syntax.specs.declared.token.Kind.{Kind}
use Rattle.pp_syntax.specs.declared.token.Kind.TheVariants as kind
use Rattle.pp_syntax.specs.declared.tree.Expr.{Expr}
use Rattle.pp_syntax.specs.declared.tree.Form.TheVariants as form
use Rattle.pp_syntax.specs.declared.tree.Op.{Op}
use Rattle.pp_syntax.specs.Tokens.{Lexeme}
use Rattle.pp_syntax.specs.Phrases as phrases
use Rattle.pp_syntax.specs.Phrases.{◌then◌, Sign, Keyword, Tight, Listed, place_of}
use Rattle.pp_syntax.specs.Derivation.{ChainOf, operand, chain, Operations, PrimaryOf, SuffixOf, SuffixesOf, ReferenceOf, PairOf, OptionOf, ChoiceOf}
use Rattle.pp_syntax.specs.Derivation as grammar
use Rattle.pp_readers.specs.Marks.{Found, first_at, mark, begins_suffix}
use Rattle.rh_base.specs.Reading.{◌>>=◌}
use Rattle.pp_readers.specs.Parsed.{Begins}
use Rattle.pp_readers.specs.Expressions.{chain_of, chain_with, operations, items, maybe_items, enclosed_with, pair_with, option_or, option_with, choice_with, titles_with, refer_by, reference_with, list_with, map_with, opened_or, index_with, choices_with, selection_with, suffix_by, suffix_with, suffixes}
use Rattle.pp_readers.proofs.Tokens.{joins, maps, marked, marked_at}
use Rattle.pp_readers.proofs.Finding.{Finds, operations_found, items_found, maybe_items_found}
use Rattle.rh_base.proofs.Options.{bind_some}

-- The place of what is read is that of its first token.
pub first_is : (us rest ts : List Lexeme) → ts ≡ us ++ rest → us ≢ [] → first_at ts ≡ place_of us
first_is [] rest ts h n = absurd (n refl)
first_is (t ∷ us) rest ts h n = ap first_at h

-- A rule that no empty list spells.
abbrev pub Spells : (Expr → List Lexeme → Type 0) → Type 0
Spells A = (y : Expr) → A y [] → ⊥

-- what such a rule spells is no empty list of tokens
pub solid : (A : Expr → List Lexeme → Type 0) (y : Expr) (ts rest : List Lexeme) → Spells A → (b : Begins (A y) ts rest) → b.front ≢ []
solid A y ts rest never b e = never y (subst (A y) e b.spelled)

-- ---- one level of operators

module _ (level : ℕ) (next : List Lexeme → Found Expr) (A : Expr → List Lexeme → Type 0) (finds : Finds next A) (never : Spells A) where
  -- an operand and operators with their right operands are a chain of that level
  chained : (first : Expr) (more : List (Op × Expr)) (ts mid rest : List Lexeme) → Begins (A first) ts mid → Begins (Operations level A more) mid rest → Begins (ChainOf level A (chain_of (first_at ts) first more)) ts rest
  unfolding joins
  chained first [] ts mid rest a b = record {
    front = a.front;
    spelled = operand a.spelled;
    whole = a.whole ∙ ap (λ r. a.front ++ r) (b.whole ∙ ap (λ r. r ++ rest) b.spelled);
  }
  chained first (o ∷ more) ts mid rest a b =
      let both = joins a b in
      record {
        front = both.front;
        spelled = chain first o more refl (first_is both.front rest ts both.whole (λ e. solid A first ts mid never a (front_nil a.front b.front e))) both.spelled;
        whole = both.whole;
      }
    where
      front_nil : (us vs : List Lexeme) → us ++ vs ≡ [] → us ≡ []
      front_nil [] vs e = refl
      front_nil (t ∷ us) vs e = cc

  -- what is read as a chain of a level is spelled so
  pub chain_found : Finds (chain_with level next) (ChainOf level A)
  unfolding chain_with
  chain_found ts x h =
      let a = bind_some (next ts) (λ first. operations level next (length first.1 + 1) first.1 >>= λ more. Some (chain_of (first_at ts) first.0 more.0, more.1)) x h in
      let b = bind_some (operations level next (length a.0.1 + 1) a.0.1) (λ more. Some (chain_of (first_at ts) a.0.0 more.0, more.1)) x a.2 in
      let same : ◌≡◌ {A = Expr × List Lexeme} (chain_of (first_at ts) a.0.0 b.0.0, b.0.1) x = cc in
      subst (λ (y : Expr × List Lexeme). Begins (ChainOf level A y.0) ts y.1) same
      (chained a.0.0 b.0.0 ts a.0.1 b.0.1 (finds ts a.0 a.1) (operations_found next A finds level (length a.0.1 + 1) a.0.1 b.0 b.1))

-- ---- what stands within brackets

module _ (e : List Lexeme → Found Expr) (E : Expr → List Lexeme → Type 0) (finds : Finds e E) where
  -- what is read to a closing sign is an expression and the sign
  pub enclosed_found : (close : List ℕ) → Finds (enclosed_with e close) (λ y. E y then Sign close)
  unfolding enclosed_with
  enclosed_found close ts x h =
      let a = bind_some (e ts) (λ x. mark kind.Sign close x.1 >>= λ r. Some (x.0, r.1)) x h in
      let b = bind_some (mark kind.Sign close a.0.1) (λ r. Some (a.0.0, r.1)) x a.2 in
      let same : ◌≡◌ {A = Expr × List Lexeme} (a.0.0, b.0.1) x = cc in
      subst (λ (y : Expr × List Lexeme). Begins (E y.0 then Sign close) ts y.1) same (joins (finds ts a.0 a.1) (marked kind.Sign close a.0.1 b.0 b.1))

  -- what is read as a pair of a map is spelled so
  pub pair_found : Finds (pair_with e) (PairOf E)
  unfolding pair_with
  pair_found ts x h =
      let a = bind_some (e ts) (λ key. mark kind.Sign (codes "=>") key.1 >>= λ arrow. e arrow.1 >>= λ value. Some ((key.0, value.0), value.1)) x h in
      let b = bind_some (mark kind.Sign (codes "=>") a.0.1) (λ arrow. e arrow.1 >>= λ value. Some ((a.0.0, value.0), value.1)) x a.2 in
      let c = bind_some (e b.0.1) (λ value. Some ((a.0.0, value.0), value.1)) x b.2 in
      let same : ◌≡◌ {A = (Expr × Expr) × List Lexeme} ((a.0.0, c.0.0), c.0.1) x = cc in
      subst (λ (y : (Expr × Expr) × List Lexeme). Begins (PairOf E y.0) ts y.1) same (joins (finds ts a.0 a.1) (joins (marked kind.Sign (codes "=>") a.0.1 b.0 b.1) (finds b.0.1 c.0 c.1)))

  -- what is read as `default` or an expression is spelled so
  option_by : (ts : List Lexeme) (r : Found ℕ) (x : Option Expr × List Lexeme) → mark kind.Keyword (codes "default") ts ≡ r → option_or e r ts ≡ Some x → Begins (OptionOf E x.0) ts x.1
  option_by ts None x p h =
      let a = bind_some (e ts) (λ x. Some (Some x.0, x.1)) x h in
      let same : ◌≡◌ {A = Option Expr × List Lexeme} (Some a.0.0, a.0.1) x = cc in
      subst (λ (y : Option Expr × List Lexeme). Begins (OptionOf E y.0) ts y.1) same (finds ts a.0 a.1)
  option_by ts (Some r) x p h =
      let same : ◌≡◌ {A = Option Expr × List Lexeme} (None, r.1) x = cc in
      subst (λ (y : Option Expr × List Lexeme). Begins (OptionOf E y.0) ts y.1) same (marked kind.Keyword (codes "default") ts r p)

  -- what is read as an option is spelled so
  pub option_found : Finds (option_with e) (OptionOf E)
  option_found ts x h = option_by ts (mark kind.Keyword (codes "default") ts) x refl h

  -- what is read as a choice of a selection is spelled so
  pub choice_found : Finds (choice_with e) (ChoiceOf E)
  unfolding choice_with
  choice_found ts x h =
      let a = bind_some (option_with e ts) (λ key. mark kind.Sign (codes "=>") key.1 >>= λ arrow. e arrow.1 >>= λ value. Some ((key.0, value.0), value.1)) x h in
      let b = bind_some (mark kind.Sign (codes "=>") a.0.1) (λ arrow. e arrow.1 >>= λ value. Some ((a.0.0, value.0), value.1)) x a.2 in
      let c = bind_some (e b.0.1) (λ value. Some ((a.0.0, value.0), value.1)) x b.2 in
      let same : ◌≡◌ {A = (Option Expr × Expr) × List Lexeme} ((a.0.0, c.0.0), c.0.1) x = cc in
      subst (λ (y : (Option Expr × Expr) × List Lexeme). Begins (ChoiceOf E y.0) ts y.1) same (joins (option_found ts a.0 a.1) (joins (marked kind.Sign (codes "=>") a.0.1 b.0 b.1) (finds b.0.1 c.0 c.1)))

  -- what is read as the titles of a reference is spelled so
  pub titles_found : Finds (titles_with e) (λ xs. Tight then (Listed E xs then Sign (codes "]")))
  unfolding titles_with
  titles_found ts x h =
      let a = bind_some (mark kind.Tight (codes "[") ts) (λ o. items (codes "]") e (length o.1 + 1) o.1) x h in
      joins (marked kind.Tight (codes "[") ts a.0 a.1) (items_found e E finds (codes "]") (length a.0.1 + 1) a.0.1 x a.2)

  -- what is read behind a type's name is a reference spelled so
  refer_found : (k : Kind) (t : Lexeme) (ts : List Lexeme) (x : Expr × List Lexeme) → t.kind ≡ k → refer_by e k t ts ≡ Some x → Begins (ReferenceOf E x.0) (t ∷ ts) x.1
  refer_found kind.Ref t ts x is h =
      let a = bind_some (titles_with e ts) (λ x. Some (record { at = t.at; form = form.Refer t.text x.0 }, x.1)) x h in
      let same : ◌≡◌ {A = Expr × List Lexeme} (record { at = t.at; form = form.Refer t.text a.0.0 }, a.0.1) x = cc in
      let name : Begins (phrases.Token kind.Ref t.text t.at) (t ∷ ts) ts = record { front = t ∷ []; spelled = ap (λ (k : Kind). record { kind = k; text = t.text; at = t.at } ∷ []) is; whole = refl } in
      subst (λ (y : Expr × List Lexeme). Begins (ReferenceOf E y.0) (t ∷ ts) y.1) same
      (maps (λ us s. record { name = t.text; titles = a.0.0; spelled = s; form_is = refl }) (joins name (titles_found ts a.0 a.1)))
  refer_found kind.Word t ts x is h = cc
  refer_found kind.Var t ts x is h = cc
  refer_found kind.Int t ts x is h = cc
  refer_found kind.Float t ts x is h = cc
  refer_found kind.Sq t ts x is h = cc
  refer_found kind.DqOpen t ts x is h = cc
  refer_found kind.DqText t ts x is h = cc
  refer_found kind.DqVar t ts x is h = cc
  refer_found kind.Hole t ts x is h = cc
  refer_found kind.HoleEnd t ts x is h = cc
  refer_found kind.DqClose t ts x is h = cc
  refer_found kind.Tight t ts x is h = cc
  refer_found kind.Loose t ts x is h = cc
  refer_found kind.Keyword t ts x is h = cc
  refer_found kind.Sign t ts x is h = cc
  refer_found kind.LeftOut t ts x is h = cc

  -- what is read as a reference is spelled so
  pub reference_found : Finds (reference_with e) (ReferenceOf E)
  reference_found [] x h = cc
  reference_found (t ∷ ts) x h = refer_found t.kind t ts x refl h

  -- what is read as a list is an operand spelled so
  pub list_found : Finds (list_with e) (PrimaryOf E)
  unfolding list_with
  list_found ts x h =
      let a = bind_some (mark kind.Loose (codes "[") ts) (λ o. maybe_items (codes "]") e (length o.1 + 1) o.1 >>= λ xs. Some (record { at = o.0; form = form.List xs.0 }, xs.1)) x h in
      let b = bind_some (maybe_items (codes "]") e (length a.0.1 + 1) a.0.1) (λ xs. Some (record { at = a.0.0; form = form.List xs.0 }, xs.1)) x a.2 in
      let same : ◌≡◌ {A = Expr × List Lexeme} (record { at = a.0.0; form = form.List b.0.0 }, b.0.1) x = cc in
      subst (λ (y : Expr × List Lexeme). Begins (PrimaryOf E y.0) ts y.1) same
      (maps (λ us s. grammar.list b.0.0 s refl) (joins (marked_at kind.Loose (codes "[") ts a.0 a.1) (maybe_items_found e E finds (codes "]") (length a.0.1 + 1) a.0.1 b.0 b.1)))

  -- what is read as a map is an operand spelled so
  pub map_found : Finds (map_with e) (PrimaryOf E)
  unfolding map_with
  map_found ts x h =
      let a = bind_some (mark kind.Sign (codes "{") ts) (λ o. maybe_items (codes "}") (pair_with e) (length o.1 + 1) o.1 >>= λ xs. Some (record { at = o.0; form = form.Map xs.0 }, xs.1)) x h in
      let b = bind_some (maybe_items (codes "}") (pair_with e) (length a.0.1 + 1) a.0.1) (λ xs. Some (record { at = a.0.0; form = form.Map xs.0 }, xs.1)) x a.2 in
      let same : ◌≡◌ {A = Expr × List Lexeme} (record { at = a.0.0; form = form.Map b.0.0 }, b.0.1) x = cc in
      subst (λ (y : Expr × List Lexeme). Begins (PrimaryOf E y.0) ts y.1) same
      (maps (λ us s. grammar.map b.0.0 s refl) (joins (marked_at kind.Sign (codes "{") ts a.0 a.1) (maybe_items_found (pair_with e) (PairOf E) pair_found (codes "}") (length a.0.1 + 1) a.0.1 b.0 b.1)))

  -- what is read in brackets or as a map is an operand spelled so
  pub opened_found : (ts : List Lexeme) (r : Found ℕ) (x : Expr × List Lexeme) → mark kind.Sign (codes "(") ts ≡ r → opened_or e r ts ≡ Some x → Begins (PrimaryOf E x.0) ts x.1
  opened_found ts None x p h = map_found ts x h
  opened_found ts (Some o) x p h = maps (λ us s. grammar.enclosed s) (joins (marked kind.Sign (codes "(") ts o p) (enclosed_found (codes ")") o.1 x h))

  -- ---- indexes and selections

  -- what is read as an index is spelled so, at the place of what it stands behind
  index_found : (at : ℕ) (b : Expr) (ts : List Lexeme) (x : Expr × List Lexeme) → index_with e at b ts ≡ Some x → Begins (SuffixOf E b x.0) ts x.1 × (x.0.at ≡ at)
  unfolding index_with
  index_found at b ts x h =
      let o = bind_some (mark kind.Tight (codes "[") ts) (λ o. enclosed_with e (codes "]") o.1 >>= λ key. Some (record { at = at; form = form.Index b key.0 }, key.1)) x h in
      let k = bind_some (enclosed_with e (codes "]") o.0.1) (λ key. Some (record { at = at; form = form.Index b key.0 }, key.1)) x o.2 in
      let same : ◌≡◌ {A = Expr × List Lexeme} (record { at = at; form = form.Index b k.0.0 }, k.0.1) x = cc in
      subst (λ (y : Expr × List Lexeme). Begins (SuffixOf E b y.0) ts y.1 × (y.0.at ≡ at)) same
      (maps (λ us s. grammar.index k.0.0 s refl) (joins (marked kind.Tight (codes "[") ts o.0 o.1) (enclosed_found (codes "]") o.0.1 k.0 k.1)), refl)

  -- what is read as `?` and choices is spelled so
  choices_found : Finds (choices_with e) (λ cs. Sign (codes "?") then (Sign (codes "{") then (Listed (ChoiceOf E) cs then Sign (codes "}"))))
  unfolding choices_with
  choices_found ts x h =
      let q = bind_some (mark kind.Sign (codes "?") ts) (λ q. mark kind.Sign (codes "{") q.1 >>= λ o. items (codes "}") (choice_with e) (length o.1 + 1) o.1) x h in
      let o = bind_some (mark kind.Sign (codes "{") q.0.1) (λ o. items (codes "}") (choice_with e) (length o.1 + 1) o.1) x q.2 in
      joins (marked kind.Sign (codes "?") ts q.0 q.1) (joins (marked kind.Sign (codes "{") q.0.1 o.0 o.1) (items_found (choice_with e) (ChoiceOf E) choice_found (codes "}") (length o.0.1 + 1) o.0.1 x o.2))

  -- what is read as a selection is spelled so, at that place
  selection_found : (at : ℕ) (b : Expr) (ts : List Lexeme) (x : Expr × List Lexeme) → selection_with e at b ts ≡ Some x → Begins (SuffixOf E b x.0) ts x.1 × (x.0.at ≡ at)
  unfolding selection_with
  selection_found at b ts x h =
      let c = bind_some (choices_with e ts) (λ cs. Some (record { at = at; form = form.Select b cs.0 }, cs.1)) x h in
      let same : ◌≡◌ {A = Expr × List Lexeme} (record { at = at; form = form.Select b c.0.0 }, c.0.1) x = cc in
      subst (λ (y : Expr × List Lexeme). Begins (SuffixOf E b y.0) ts y.1 × (y.0.at ≡ at)) same
      (maps (λ us s. grammar.selection c.0.0 s refl) (choices_found ts c.0 c.1), refl)

  -- what is read as an index or a selection by its first token is spelled so, at that place
  suffix_kind_found : (k : Kind) (at : ℕ) (b : Expr) (ts : List Lexeme) (x : Expr × List Lexeme) → suffix_by e at b k ts ≡ Some x → Begins (SuffixOf E b x.0) ts x.1 × (x.0.at ≡ at)
  suffix_kind_found kind.Tight at b ts x h = index_found at b ts x h
  suffix_kind_found kind.Sign at b ts x h = selection_found at b ts x h
  suffix_kind_found kind.Word at b ts x h = cc
  suffix_kind_found kind.Ref at b ts x h = cc
  suffix_kind_found kind.Var at b ts x h = cc
  suffix_kind_found kind.Int at b ts x h = cc
  suffix_kind_found kind.Float at b ts x h = cc
  suffix_kind_found kind.Sq at b ts x h = cc
  suffix_kind_found kind.DqOpen at b ts x h = cc
  suffix_kind_found kind.DqText at b ts x h = cc
  suffix_kind_found kind.DqVar at b ts x h = cc
  suffix_kind_found kind.Hole at b ts x h = cc
  suffix_kind_found kind.HoleEnd at b ts x h = cc
  suffix_kind_found kind.DqClose at b ts x h = cc
  suffix_kind_found kind.Loose at b ts x h = cc
  suffix_kind_found kind.Keyword at b ts x h = cc
  suffix_kind_found kind.LeftOut at b ts x h = cc

  -- what is read as an index or a selection is spelled so, at that place
  suffix_found : (at : ℕ) (b : Expr) (ts : List Lexeme) (x : Expr × List Lexeme) → suffix_with e at b ts ≡ Some x → Begins (SuffixOf E b x.0) ts x.1 × (x.0.at ≡ at)
  suffix_found at b [] x h = cc
  suffix_found at b (t ∷ ts) x h = suffix_kind_found t.kind at b (t ∷ ts) x h

  -- what is read as indexes and selections is spelled so, all at that place
  pub suffixes_found : (at n : ℕ) (b : Expr) (ts : List Lexeme) (x : Expr × List Lexeme) → suffixes e at n b ts ≡ Some x → Begins (SuffixesOf E at b x.0) ts x.1
  suffixes_found at zero b ts x h = cc
  suffixes_found at (suc n) b ts x h = by_test (suffixes_found at n) (begins_suffix ts) h
    where
      by_test : ((b : Expr) (ts : List Lexeme) (x : Expr × List Lexeme) → suffixes e at n b ts ≡ Some x → Begins (SuffixesOf E at b x.0) ts x.1) → (v : Bool) → cond v (suffix_with e at b ts >>= λ z. suffixes e at n z.0 z.1) (Some (b, ts)) ≡ Some x
          → Begins (SuffixesOf E at b x.0) ts x.1
      by_test others false k =
          let same : ◌≡◌ {A = Expr × List Lexeme} (b, ts) x = cc in
          subst (λ (y : Expr × List Lexeme). Begins (SuffixesOf E at b y.0) ts y.1) same (record { front = []; spelled = grammar.none refl refl; whole = refl })
      by_test others true k =
          let a = bind_some (suffix_with e at b ts) (λ z. suffixes e at n z.0 z.1) x k in
          let one = suffix_found at b ts a.0 a.1 in
          let more = others a.0.0 a.0.1 x a.2 in
          record {
            front = one.0.front ++ more.front;
            spelled = grammar.one a.0.0 one.0.front more.front refl one.0.spelled one.1 more.spelled;
            whole = one.0.whole ∙ ap (λ r. one.0.front ++ r) more.whole ∙ sym (append_assoc one.0.front more.front x.1);
          }
