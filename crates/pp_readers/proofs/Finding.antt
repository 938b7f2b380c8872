-- What is read is spelled: lists and chains, for any rule that is read so.
use Rattle.std.proofs.Common.{◌≡◌, inl, inr, ℕ, zero, suc, ◌==◌, Bool, true, false, cond, List, [], ◌∷◌, ◌++◌, Option, Some, None, refl, sym, ap, subst, ◌∙◌, append_assoc}
use Rattle.std.specs.Prelude.{codes}
use Rattle.std.specs.Str.{bytes_eq}
use Rattle.std.proofs.lemmas.Bool.{eqb-true}
use Rattle.std.proofs.lemmas.Slice.Eq.{bytes_eq-Decides}
use Rattle.pp_syntax.specs.declared.token.Kind.{Kind}
use Rattle.pp_syntax.specs.declared.token.Kind.TheVariants as kind
use Rattle.pp_syntax.specs.declared.tree.Expr.{Expr}
use Rattle.pp_syntax.specs.declared.tree.Op.{Op}
use Rattle.pp_syntax.specs.declared.tree.Op.TheVariants as op
use Rattle.pp_syntax.specs.Tokens.{Lexeme}
use Rattle.pp_syntax.specs.Phrases as phrases
use Rattle.pp_syntax.specs.Phrases.{◌then◌, Nothing, Maybe, Sign, Comma, Listed, MaybeListed}
use Rattle.pp_syntax.specs.Derivation.{level_of, Infix, Prefixed, Operation, Operations, Prefixes}
use Rattle.pp_readers.specs.Marks.{Found, mark, sign_operator, keyword_operator, operator_of, at_level, infix_at, prefix_of}
use Rattle.rh_base.specs.Reading.{◌>>=◌}
use Rattle.pp_readers.specs.Parsed.{Begins}
use Rattle.pp_readers.specs.Expressions.{with_first, operations, operations_or_end, prefixes, prefixes_or_end, separator, separator_or_end, behind_comma, after_comma, more_items, items, items_or_end, maybe_items}
use Rattle.pp_readers.proofs.Tokens.{joins, maps, marked}
use Rattle.rh_base.proofs.Options.{bind_some}

-- what this reader finds is spelled at the front of the tokens by this rule
abbrev pub Finds : {X : Type 0} → (List Lexeme → Found X) → (X → List Lexeme → Type 0) → Type 0
Finds {X} f A = (ts : List Lexeme) (x : X × List Lexeme) → f ts ≡ Some x → Begins (A x.0) ts x.1

-- no token
pub nothing : (ts : List Lexeme) → Begins Nothing ts ts
nothing ts = record { front = []; spelled = refl; whole = refl }

-- a list that is found with one more in front comes from a list that is found
pub with_first_some : {X : Type 0} (x : X) (r : Found (List X)) (y : List X × List Lexeme) → with_first x r ≡ Some y → (z : List X × List Lexeme) × (r ≡ Some z) × ((x ∷ z.0, z.1) ≡ y)
with_first_some x None y h = cc
with_first_some x (Some z) y h = (z, refl, cc)

-- ---- operators

-- a test of a text, and what goes on where it fails
spelled : (k : Kind) (s word : List ℕ) (o p : Op) (at : ℕ) (other : Option Op) → (o ≡ p → phrases.Some k word (record { kind = k; text = word; at = at } ∷ []) → Infix p (record { kind = k; text = word; at = at } ∷ []))
    → (other ≡ Some p → Infix p (record { kind = k; text = s; at = at } ∷ [])) → cond (bytes_eq s word) (Some o) other ≡ Some p → Infix p (record { kind = k; text = s; at = at } ∷ [])
spelled k s word o p at other is rest h = by_test (bytes_eq s word) refl h
  where
    by_test : (v : Bool) → bytes_eq s word ≡ v → cond v (Some o) other ≡ Some p → Infix p (record { kind = k; text = s; at = at } ∷ [])
    by_test true t e =
        let one : s ≡ word = (bytes_eq-Decides s word).0 t in
        let two : o ≡ p = cc in
        subst (λ (u : List ℕ). Infix p (record { kind = k; text = u; at = at } ∷ [])) (sym one) (is two (at, refl))
    by_test false t e = rest e

-- a sign that is an operator is spelled as it
sign_found : (s : List ℕ) (p : Op) (at : ℕ) → sign_operator s ≡ Some p → Infix p (record { kind = kind.Sign; text = s; at = at } ∷ [])
sign_found s p at h =
    spelled kind.Sign s (codes "<") op.Less p at _ (λ e w. subst (λ (o : Op). Infix o (record { kind = kind.Sign; text = codes "<"; at = at } ∷ [])) e w) (λ h.
    spelled kind.Sign s (codes ">") op.Greater p at _ (λ e w. subst (λ (o : Op). Infix o (record { kind = kind.Sign; text = codes ">"; at = at } ∷ [])) e w) (λ h.
    spelled kind.Sign s (codes "<=") op.AtMost p at _ (λ e w. subst (λ (o : Op). Infix o (record { kind = kind.Sign; text = codes "<="; at = at } ∷ [])) e w) (λ h.
    spelled kind.Sign s (codes ">=") op.AtLeast p at _ (λ e w. subst (λ (o : Op). Infix o (record { kind = kind.Sign; text = codes ">="; at = at } ∷ [])) e w) (λ h.
    spelled kind.Sign s (codes "==") op.Same p at _ (λ e w. subst (λ (o : Op). Infix o (record { kind = kind.Sign; text = codes "=="; at = at } ∷ [])) e w) (λ h.
    spelled kind.Sign s (codes "!=") op.NotSame p at _ (λ e w. subst (λ (o : Op). Infix o (record { kind = kind.Sign; text = codes "!="; at = at } ∷ [])) e w) (λ h.
    spelled kind.Sign s (codes "+") op.Plus p at _ (λ e w. subst (λ (o : Op). Infix o (record { kind = kind.Sign; text = codes "+"; at = at } ∷ [])) e w) (λ h.
    spelled kind.Sign s (codes "-") op.Minus p at _ (λ e w. subst (λ (o : Op). Infix o (record { kind = kind.Sign; text = codes "-"; at = at } ∷ [])) e w) (λ h.
    spelled kind.Sign s (codes "*") op.Times p at None (λ e w. subst (λ (o : Op). Infix o (record { kind = kind.Sign; text = codes "*"; at = at } ∷ [])) e w) (λ h. cc) h) h) h) h) h) h) h) h) h

-- a keyword that is an operator is spelled as it
keyword_found : (s : List ℕ) (p : Op) (at : ℕ) → keyword_operator s ≡ Some p → Infix p (record { kind = kind.Keyword; text = s; at = at } ∷ [])
keyword_found s p at h =
    spelled kind.Keyword s (codes "or") op.Or p at _ (λ e w. subst (λ (o : Op). Infix o (record { kind = kind.Keyword; text = codes "or"; at = at } ∷ [])) e w) (λ h.
    spelled kind.Keyword s (codes "and") op.And p at _ (λ e w. subst (λ (o : Op). Infix o (record { kind = kind.Keyword; text = codes "and"; at = at } ∷ [])) e w) (λ h.
    spelled kind.Keyword s (codes "in") op.In p at None (λ e w. subst (λ (o : Op). Infix o (record { kind = kind.Keyword; text = codes "in"; at = at } ∷ [])) e w) (λ h. cc) h) h) h

-- a token that is an operator is spelled as it
operator_found : (k : Kind) (s : List ℕ) (p : Op) (at : ℕ) → operator_of k s ≡ Some p → Infix p (record { kind = k; text = s; at = at } ∷ [])
operator_found kind.Sign s p at h = sign_found s p at h
operator_found kind.Keyword s p at h = keyword_found s p at h
operator_found kind.Word s p at h = cc
operator_found kind.Ref s p at h = cc
operator_found kind.Var s p at h = cc
operator_found kind.Int s p at h = cc
operator_found kind.Float s p at h = cc
operator_found kind.Sq s p at h = cc
operator_found kind.DqOpen s p at h = cc
operator_found kind.DqText s p at h = cc
operator_found kind.DqVar s p at h = cc
operator_found kind.Hole s p at h = cc
operator_found kind.HoleEnd s p at h = cc
operator_found kind.DqClose s p at h = cc
operator_found kind.Tight s p at h = cc
operator_found kind.Loose s p at h = cc
operator_found kind.LeftOut s p at h = cc

-- an operator that is found at a level is of that level
level_found : (level : ℕ) (t : Lexeme) (ts : List Lexeme) (r : Option Op) (x : Op × List Lexeme) → operator_of t.kind t.text ≡ r → at_level level r ts ≡ Some x → Begins (λ us. (level_of x.0 ≡ level) × Infix x.0 us) (t ∷ ts) x.1
level_found level t ts None x e h = cc
level_found level t ts (Some o) x e h = by_test (level_of o == level) refl h
  where
    by_test : (v : Bool) → (level_of o == level) ≡ v → cond v (Some (o, ts)) None ≡ Some x → Begins (λ us. (level_of x.0 ≡ level) × Infix x.0 us) (t ∷ ts) x.1
    by_test true q k =
        let same : ◌≡◌ {A = Op × List Lexeme} (o, ts) x = cc in
        subst (λ (y : Op × List Lexeme). Begins (λ us. (level_of y.0 ≡ level) × Infix y.0 us) (t ∷ ts) y.1) same (record { front = t ∷ []; spelled = (eqb-true (level_of o) level q, operator_found t.kind t.text o t.at e); whole = refl })
    by_test false q k = cc

-- an operator that is read at a level is spelled so, and is of that level
pub infix_found : (level : ℕ) (ts : List Lexeme) (x : Op × List Lexeme) → infix_at level ts ≡ Some x → Begins (λ us. (level_of x.0 ≡ level) × Infix x.0 us) ts x.1
infix_found level [] x h = cc
infix_found level (t ∷ ts) x h = level_found level t ts (operator_of t.kind t.text) x refl h

module _ (next : List Lexeme → Found Expr) (A : Expr → List Lexeme → Type 0) (finds : Finds next A) (level : ℕ) where
  -- what is read as operators with their right operands is spelled so
  pub operations_found : (n : ℕ) → Finds (operations level next n) (Operations level A)
  operations_found zero ts x h = cc
  operations_found (suc n) ts x h = by_infix (operations_found n) (infix_at level ts) refl h
    where
      by_infix : Finds (operations level next n) (Operations level A) → (r : Found Op) → infix_at level ts ≡ r → operations_or_end next (operations level next n) r ts ≡ Some x → Begins (Operations level A x.0) ts x.1
      by_infix others None p k =
          let same : ◌≡◌ {A = List (Op × Expr) × List Lexeme} ([], ts) x = cc in
          subst (λ (y : List (Op × Expr) × List Lexeme). Begins (Operations level A y.0) ts y.1) same (nothing ts)
      by_infix others (Some o) p k =
          let a = bind_some (next o.1) (λ x. with_first (o.0, x.0) (operations level next n x.1)) x k in
          let b = with_first_some (o.0, a.0.0) (operations level next n a.0.1) x a.2 in
          let sign = infix_found level ts o p in
          let operand = finds o.1 a.0 a.1 in
          let more = others a.0.1 b.0 b.1 in
          let one : Begins (Operation level A (o.0, a.0.0)) ts a.0.1 = record {
            front = sign.front ++ operand.front;
            spelled = (sign.spelled.0, record { front = sign.front; back = operand.front; first = sign.spelled.1; second = operand.spelled; whole = refl });
            whole = sign.whole ∙ ap (λ r. sign.front ++ r) operand.whole ∙ sym (append_assoc sign.front operand.front a.0.1);
          } in
          subst (λ (y : List (Op × Expr) × List Lexeme). Begins (Operations level A y.0) ts y.1) b.2 (joins one more)

-- ---- prefixes

-- a token that is a prefix is spelled as it
prefix_sign : (k : Kind) (s : List ℕ) (o : Op) (at : ℕ) → prefix_of k s ≡ Some o → Prefixed o (record { kind = k; text = s; at = at } ∷ [])
prefix_sign kind.Sign s o at h = by_tests (bytes_eq s (codes "!")) (bytes_eq s (codes "-")) refl refl h
  where
    by_tests : (a b : Bool) → bytes_eq s (codes "!") ≡ a → bytes_eq s (codes "-") ≡ b → cond a (Some op.Not) (cond b (Some op.Minus) None) ≡ Some o → Prefixed o (record { kind = kind.Sign; text = s; at = at } ∷ [])
    by_tests true b p q e =
        let two : op.Not ≡ o = cc in
        subst (λ (o : Op). Prefixed o (record { kind = kind.Sign; text = s; at = at } ∷ [])) two (subst (λ (u : List ℕ). Prefixed op.Not (record { kind = kind.Sign; text = u; at = at } ∷ [])) (sym ((bytes_eq-Decides s (codes "!")).0 p)) (at, refl))
    by_tests false true p q e =
        let two : op.Minus ≡ o = cc in
        subst (λ (o : Op). Prefixed o (record { kind = kind.Sign; text = s; at = at } ∷ [])) two (subst (λ (u : List ℕ). Prefixed op.Minus (record { kind = kind.Sign; text = u; at = at } ∷ [])) (sym ((bytes_eq-Decides s (codes "-")).0 q)) (at, refl))
    by_tests false false p q e = cc
prefix_sign kind.Keyword s p at h = cc
prefix_sign kind.Word s p at h = cc
prefix_sign kind.Ref s p at h = cc
prefix_sign kind.Var s p at h = cc
prefix_sign kind.Int s p at h = cc
prefix_sign kind.Float s p at h = cc
prefix_sign kind.Sq s p at h = cc
prefix_sign kind.DqOpen s p at h = cc
prefix_sign kind.DqText s p at h = cc
prefix_sign kind.DqVar s p at h = cc
prefix_sign kind.Hole s p at h = cc
prefix_sign kind.HoleEnd s p at h = cc
prefix_sign kind.DqClose s p at h = cc
prefix_sign kind.Tight s p at h = cc
prefix_sign kind.Loose s p at h = cc
prefix_sign kind.LeftOut s p at h = cc

-- a prefix and those behind it are prefixes, and so are none
prefix_or_end : (t : Lexeme) (ts : List Lexeme) (r : Option Op) → prefix_of t.kind t.text ≡ r → Begins (Prefixes (prefixes ts).0) ts (prefixes ts).1
    → Begins (Prefixes (prefixes_or_end r (prefixes ts) (t ∷ ts)).0) (t ∷ ts) (prefixes_or_end r (prefixes ts) (t ∷ ts)).1
prefix_or_end t ts None e others = nothing (t ∷ ts)
prefix_or_end t ts (Some o) e others = joins (record { front = t ∷ []; spelled = prefix_sign t.kind t.text o t.at e; whole = refl }) others

-- what is read as prefixes is spelled so
pub prefixes_found : (ts : List Lexeme) → Begins (Prefixes (prefixes ts).0) ts (prefixes ts).1
prefixes_found [] = nothing []
prefixes_found (t ∷ ts) = prefix_or_end t ts (prefix_of t.kind t.text) refl (prefixes_found ts)

-- ---- lists

-- tokens of two phrases, cut between them
pub parts : {A B : List Lexeme → Type 0} {ts rest : List Lexeme} → Begins (A then B) ts rest → (mid : List Lexeme) × Begins A ts mid × Begins B mid rest
parts {A} {B} {ts} {rest} b = (
  b.spelled.back ++ rest,
  record { front = b.spelled.front; spelled = b.spelled.first; whole = b.whole ∙ ap (λ r. r ++ rest) b.spelled.whole ∙ append_assoc b.spelled.front b.spelled.back rest },
  record { front = b.spelled.back; spelled = b.spelled.second; whole = refl },
)

-- what stands behind an item: an end, or a comma
Separates : List ℕ → Bool → List Lexeme → List Lexeme → Type 0
Separates close true ts rest = Begins (Maybe Comma then Sign close) ts rest
Separates close false ts rest = Begins Comma ts rest

-- behind a comma, the list ends or goes on, as is told
behind_found : (close : List ℕ) (ts : List Lexeme) (c : ℕ × List Lexeme) (r : Found ℕ) (x : Bool × List Lexeme) → mark kind.Sign (codes ",") ts ≡ Some c → mark kind.Sign close c.1 ≡ r → after_comma r c.1 ≡ Some x → Separates close x.0 ts x.1
unfolding Separates
behind_found close ts c None x p q h =
    let same : ◌≡◌ {A = Bool × List Lexeme} (false, c.1) x = cc in
    subst (λ (y : Bool × List Lexeme). Separates close y.0 ts y.1) same (marked kind.Sign (codes ",") ts c p)
behind_found close ts c (Some r) x p q h =
    let same : ◌≡◌ {A = Bool × List Lexeme} (true, r.1) x = cc in
    subst (λ (y : Bool × List Lexeme). Separates close y.0 ts y.1) same (joins (maps (λ us s. inr s) (marked kind.Sign (codes ",") ts c p)) (marked kind.Sign close c.1 r q))

-- without a closing sign, the list goes on by a comma, as is told
comma_found : (close : List ℕ) (ts : List Lexeme) (r : Found ℕ) (x : Bool × List Lexeme) → mark kind.Sign (codes ",") ts ≡ r → behind_comma close r ≡ Some x → Separates close x.0 ts x.1
comma_found close ts None x p h = cc
comma_found close ts (Some c) x p h = behind_found close ts c (mark kind.Sign close c.1) x p refl h

-- behind an item, the list ends or goes on, as is told
separator_found : (close : List ℕ) (ts : List Lexeme) (r : Found ℕ) (x : Bool × List Lexeme) → mark kind.Sign close ts ≡ r → separator_or_end close r (mark kind.Sign (codes ",") ts) ≡ Some x → Separates close x.0 ts x.1
unfolding Separates
separator_found close ts None x p h = comma_found close ts (mark kind.Sign (codes ",") ts) x refl h
separator_found close ts (Some r) x p h =
    let same : ◌≡◌ {A = Bool × List Lexeme} (true, r.1) x = cc in
    let none : Begins (Maybe Comma) ts ts = record { front = []; spelled = inl refl; whole = refl } in
    subst (λ (y : Bool × List Lexeme). Separates close y.0 ts y.1) same (joins none (marked kind.Sign close ts r p))

module _ {X : Type 0} (item : List Lexeme → Found X) (A : X → List Lexeme → Type 0) (finds : Finds item A) (close : List ℕ) where
  -- an item and the end of a list are a list of one
  item_last : (x : X) (ts mid rest : List Lexeme) → Begins (A x) ts mid → Begins (Maybe Comma then Sign close) mid rest → Begins (Listed A (x ∷ []) then Sign close) ts rest
  item_last x ts mid rest a b = let p = parts b in joins (joins (joins a (nothing mid)) p.1) p.2

  -- an item, a comma and a list are a list
  item_more : (x : X) (xs : List X) (ts mid next rest : List Lexeme) → Begins (A x) ts mid → Begins Comma mid next → Begins (Listed A xs then Sign close) next rest → Begins (Listed A (x ∷ xs) then Sign close) ts rest
  item_more x [] ts mid next rest a c l = absurd l.spelled.first.first
  item_more x (y ∷ ys) ts mid next rest a c l =
      let p = parts l in
      let q = parts p.1 in
      let r = parts q.1 in
      joins (joins (joins a (joins c (joins r.1 r.2))) q.2) p.2

  -- what is read behind an item makes a list with it
  after_item : (n : ℕ) → Finds (items close item n) (λ xs. Listed A xs then Sign close) → (x : X) (ts mid : List Lexeme) (s : Bool) (behind : List Lexeme) (y : List X × List Lexeme) → Begins (A x) ts mid → Separates close s mid behind
      → with_first x (more_items s (items close item n) behind) ≡ Some y → Begins (Listed A y.0 then Sign close) ts y.1
  unfolding Separates
  after_item n others x ts mid true behind y a sep h =
      let same : ◌≡◌ {A = List X × List Lexeme} (x ∷ [], behind) y = cc in
      subst (λ (y : List X × List Lexeme). Begins (Listed A y.0 then Sign close) ts y.1) same (item_last x ts mid behind a sep)
  after_item n others x ts mid false behind y a sep h =
      let b = with_first_some x (items close item n behind) y h in
      subst (λ (y : List X × List Lexeme). Begins (Listed A y.0 then Sign close) ts y.1) b.2 (item_more x b.0.0 ts mid behind b.0.1 a sep (others behind b.0 b.1))

  -- what is read as one item or more to the closing sign is spelled so
  pub items_found : (n : ℕ) → Finds (items close item n) (λ xs. Listed A xs then Sign close)
  items_found zero ts x h = cc
  items_found (suc n) ts x h =
      let a = bind_some (item ts) (λ x. separator close x.1 >>= λ s. with_first x.0 (more_items s.0 (items close item n) s.1)) x h in
      let b = bind_some (separator close a.0.1) (λ s. with_first a.0.0 (more_items s.0 (items close item n) s.1)) x a.2 in
      after_item n (items_found n) a.0.0 ts a.0.1 b.0.0 b.0.1 x (finds ts a.0 a.1) (separator_found close a.0.1 (mark kind.Sign close a.0.1) b.0 refl b.1) b.2

  -- so is what is read as none or more, by whether the closing sign stands first
  none_or_items : (n : ℕ) (ts : List Lexeme) (r : Found ℕ) (x : List X × List Lexeme) → mark kind.Sign close ts ≡ r → items_or_end r (items close item n ts) ≡ Some x → Begins (MaybeListed A x.0 then Sign close) ts x.1
  none_or_items n ts (Some r) x p h =
      let same : ◌≡◌ {A = List X × List Lexeme} ([], r.1) x = cc in
      subst (λ (y : List X × List Lexeme). Begins (MaybeListed A y.0 then Sign close) ts y.1) same (joins (nothing ts) (marked kind.Sign close ts r p))
  none_or_items n ts None x p h = some x.0 x.1 (items_found n ts x h)
    where
      some : (xs : List X) (rest : List Lexeme) → Begins (Listed A xs then Sign close) ts rest → Begins (MaybeListed A xs then Sign close) ts rest
      some [] rest l = absurd l.spelled.first.first
      some (y ∷ ys) rest l = l

  -- what is read as items to the closing sign, or as none, is spelled so
  pub maybe_items_found : (n : ℕ) → Finds (maybe_items close item n) (λ xs. MaybeListed A xs then Sign close)
  maybe_items_found n ts x h = none_or_items n ts (mark kind.Sign close ts) x refl h
