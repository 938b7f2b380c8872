-- Laws of the literals of wires, and of the wires that a goal stands on.
use Rattle.std.proofs.Common.{◌≡◌, ◌⊎◌, inl, inr, ℕ, ◌+◌, ◌-◌, ◌<◌, ◌≤◌, Bool, true, false, true≢false, not, ◌&&◌, ◌||◌, List, [], ◌∷◌, ◌++◌, length, get_or, slice_get, Some, refl, sym, ap, ◌∙◌, subst, arith, if◌then◌else◌, ◌↔◌}
use Rattle.std.proofs.lemmas.Bool.{cases_lt, cases_eq}
use Rattle.std.proofs.lemmas.List.{length_push, get_or_append_left, get_or_push, get_or_default}
use Rattle.std.proofs.lemmas.Option.{unwrap_or-slice_get}
use Rattle.bool_circuit.specs.declared.gate.Gate.{Gate}
use Rattle.bool_circuit.specs.declared.gate.Gate.TheVariants.{Input, Constant, Not, And, Mux}
use Rattle.bool_circuit.specs.Gates.{truth_at, gate_value, input_count, wire_value, OperandsBelow, PlaceBelow}
use Rattle.cnf.specs.declared.lit.Lit.{Lit}
use Rattle.cnf.specs.Literals.{opposite, lit_true, HasVariable}
use Rattle.cnf.specs.Clauses.{clause_of}
use Rattle.cnf.specs.Formulas.{Formula, IsSatisfiable}
use Rattle.cnf.specs.Encoding.{inputs_in, StatesGoal}
use Rattle.cnf.specs.Defining.{Defines, yes, lit_at, AreNeeded, HaveVariables, lits_value, NeededFrom, Encodes}
use Rattle.cnf.proofs.ClauseLaws.{lit_true-opposite}
use Rattle.cnf.proofs.Definitions.{Satisfies-push, Satisfies-front, Satisfies-last, lit_true-same}

-- the literals of earlier wires stay when one is put last
pub lit_at-push : (lits : List Lit) (x : Lit) (w : ℕ) → w < length lits → lit_at (lits ++ x ∷ []) w ≡ lit_at lits w
lit_at-push lits x w h =
    unwrap_or-slice_get (lits ++ x ∷ []) w (record { var = 0; positive = true })
    ∙ get_or_append_left lits (x ∷ []) (record { var = 0; positive = true }) w h
    ∙ sym (unwrap_or-slice_get lits w (record { var = 0; positive = true }))

-- the literal that is put last is that of the next wire
pub lit_at-last : (lits : List Lit) (x : Lit) (w : ℕ) → length lits ≡ w → lit_at (lits ++ x ∷ []) w ≡ x
lit_at-last lits x w h = unwrap_or-slice_get (lits ++ x ∷ []) w (record { var = 0; positive = true }) ∙ get_or_push lits x (record { var = 0; positive = true }) w h

-- the literal that stands at a place is that of the wire
pub lit_read : (lits : List Lit) (w : ℕ) (x : Lit) → w < length lits → x ≡ get_or lits w x → x ≡ lit_at lits w
lit_read lits w x h e = e ∙ get_or_default lits w x (record { var = 0; positive = true }) h ∙ sym (unwrap_or-slice_get lits w (record { var = 0; positive = true }))

-- a literal that is there already
pub same_defines : (f : Formula) (x : Lit) (value : (ℕ → Bool) → Bool) → HasVariable f.vars x → ((v : ℕ → Bool) → lit_true v x ≡ value v) → Defines f f x value
same_defines f x value h says = record { more = omega arith; variable = h; keeps = λ v s. s; sound = λ v s. says v; extends = λ v s. (v, λ k h. refl, s) }

-- an input needs no clauses: its variable has its value
pub input_defines : (f : Formula) (i : ℕ) (lits : List Lit) → i < f.vars → Defines f f (yes (i + 1)) (lits_value lits (Input i))
input_defines f i lits h = same_defines f (yes (i + 1)) (lits_value lits (Input i)) (omega arith, omega arith) (λ v. refl)

-- a negation needs no clauses: the opposite literal has its value
pub not_defines : (f : Formula) (a : Lit) (value : (ℕ → Bool) → Bool) → HasVariable f.vars a → ((v : ℕ → Bool) → lit_true v a ≡ value v) → Defines f f (opposite a) (λ v. not (value v))
not_defines f a value h says = same_defines f (opposite a) (λ v. not (value v)) h (λ v. lit_true-opposite v a ∙ ap not (says v))

-- ---- gates over needed wires
module _ (needed : List Bool) (k n : ℕ) (P : ℕ → Type 0) (each : (w : ℕ) → w < k → truth_at needed w ≡ true → P w) where
  -- what a needed gate says depends on needed wires alone
  pub gate_value-needed : (p q u v : ℕ → Bool) (g : Gate) → ((w : ℕ) → P w → u w ≡ v w) → ((i : ℕ) → i < n → p i ≡ q i) → OperandsBelow k g → PlaceBelow n g → AreNeeded needed g → gate_value p u g ≡ gate_value q v g
  gate_value-needed p q u v (Input i) same inputs o h r = inputs i h
  gate_value-needed p q u v (Constant b) same inputs o h r = refl
  gate_value-needed p q u v (Not a) same inputs o h r = ap not (same a.0 (each a.0 o r))
  gate_value-needed p q u v (And a b) same inputs o h r =
      ap (λ x. x && u b.0) (same a.0 (each a.0 o.0 r.0)) ∙ ap (λ x. v a.0 && x) (same b.0 (each b.0 o.1 r.1))
  gate_value-needed p q u v (Mux c a b) same inputs o h r =
      ap (λ x. if x then u a.0 else u b.0) (same c.0 (each c.0 o.0 r.0))
      ∙ ap (λ x. if v c.0 then x else u b.0) (same a.0 (each a.0 o.1 r.1))
      ∙ ap (λ x. if v c.0 then v a.0 else x) (same b.0 (each b.0 o.2 r.2))

-- the operands of a needed gate have literals with variables
pub have_variables : (needed : List Bool) (k n : ℕ) (lits : List Lit) (g : Gate) → ((w : ℕ) → w < k → truth_at needed w ≡ true → HasVariable n (lit_at lits w)) → OperandsBelow k g → AreNeeded needed g → HaveVariables n lits g
have_variables needed k n lits (Input i) each o r = tt
have_variables needed k n lits (Constant b) each o r = tt
have_variables needed k n lits (Not a) each o r = each a.0 o r
have_variables needed k n lits (And a b) each o r = (each a.0 o.0 r.0, each b.0 o.1 r.1)
have_variables needed k n lits (Mux c a b) each o r = (each c.0 o.0 r.0, each a.0 o.1 r.1, each b.0 o.2 r.2)

-- ---- the encoding, wire by wire
-- without clauses and literals no wire is encoded yet
pub encodes_none : (gates : List Gate) (needed : List Bool) (f : Formula) → f ≡ record { vars = input_count gates; clauses = [] } → Encodes gates needed 0 [] f
encodes_none gates needed f e = subst (Encodes gates needed 0 []) (sym e) (record {
  long = refl;
  inputs = omega arith;
  variables = λ w h. absurd (omega arith);
  sound = λ v s w h. absurd (omega arith);
  extends = λ inputs. (λ k. inputs (k - 1), λ i h. ap inputs (let e : i + 1 - 1 ≡ i = omega arith in e), tt, λ w h. absurd (omega arith));
})

-- a literal over some variables is one over more
more_variable : (n m : ℕ) (l : Lit) → n ≤ m → HasVariable n l → HasVariable m l
more_variable n m l h k = (k.0, let a = k.1 in omega arith)

module _ (gates : List Gate) (needed : List Bool) (k : ℕ) (lits : List Lit) (f : Formula) (e : Encodes gates needed k lits f) where
  -- a wire ahead of the next place is an earlier one, or the last
  old_or_last : (w : ℕ) → w < k + 1 → (w < k) ⊎ (w ≡ k)
  old_or_last w h = elim (cases_lt w k) [ inl a ↦ inl a | inr b ↦ inr (omega arith) ]

  -- the literals of earlier wires stay
  old_lit : (x : Lit) (w : ℕ) → w < k → lit_at (lits ++ x ∷ []) w ≡ lit_at lits w
  old_lit x w h = lit_at-push lits x w (let n = e.long in omega arith)

  -- a wire that isn't needed takes any literal
  pub encodes_skip : (x : Lit) → truth_at needed k ≡ false → Encodes gates needed (k + 1) (lits ++ x ∷ []) f
  encodes_skip x off = record {
    long = length_push lits x ∙ ap (λ n. n + 1) e.long;
    inputs = e.inputs;
    variables = λ w h r. elim (old_or_last w h) [
      | inl a ↦ subst (HasVariable f.vars) (sym (old_lit x w a)) (e.variables w a r)
      | inr b ↦ absurd (true≢false (sym r ∙ ap (truth_at needed) b ∙ off))
    ];
    sound = λ v s w h r. elim (old_or_last w h) [
      | inl a ↦ ap (lit_true v) (old_lit x w a) ∙ e.sound v s w a r
      | inr b ↦ absurd (true≢false (sym r ∙ ap (truth_at needed) b ∙ off))
    ];
    extends = λ inputs.
        let u = e.extends inputs in (
          u.0,
          u.1,
          u.2,
          λ w h r. elim (old_or_last w h) [
            | inl a ↦ ap (lit_true u.0) (old_lit x w a) ∙ u.3 w a r
            | inr b ↦ absurd (true≢false (sym r ∙ ap (truth_at needed) b ∙ off))
          ],
        );
  }

  module _ (g : Formula) (x : Lit) (gate : Gate) (d : Defines f g x (lits_value lits gate))
      (value : (inputs : ℕ → Bool) → wire_value gates inputs k ≡ gate_value inputs (wire_value gates inputs) gate)
      (below : OperandsBelow k gate) (place : PlaceBelow (input_count gates) gate) (reads : AreNeeded needed gate) where
    -- with a literal that is defined as what the next gate says, one wire more is encoded
    pub encodes_more : Encodes gates needed (k + 1) (lits ++ x ∷ []) g
    encodes_more = record {
      long = length_push lits x ∙ ap (λ n. n + 1) e.long;
      inputs = let a = e.inputs in let b = d.more in omega arith;
      variables = λ w h r. elim (old_or_last w h) [
        | inl a ↦ subst (HasVariable g.vars) (sym (old_lit x w a)) (more_variable f.vars g.vars (lit_at lits w) d.more (e.variables w a r))
        | inr b ↦ subst (HasVariable g.vars) (sym (lit_at-last lits x w (e.long ∙ sym b))) d.variable
      ];
      sound = λ v s w h r. elim (old_or_last w h) [
        | inl a ↦ ap (lit_true v) (old_lit x w a) ∙ e.sound v (d.keeps v s) w a r
        | inr b ↦
            ap (lit_true v) (lit_at-last lits x w (e.long ∙ sym b))
            ∙ d.sound v s
            ∙ gate_value-needed needed k (input_count gates) (λ o. lit_true v (lit_at lits o) ≡ wire_value gates (inputs_in v) o) (λ o h r. e.sound v (d.keeps v s) o h r)
            (inputs_in v) (inputs_in v) (λ o. lit_true v (lit_at lits o)) (wire_value gates (inputs_in v)) gate (λ o p. p) (λ i h. refl) below place reads
            ∙ sym (value (inputs_in v))
            ∙ ap (wire_value gates (inputs_in v)) (sym b)
      ];
      extends = λ inputs.
          let u = e.extends inputs in
          let t = d.extends u.0 u.2 in
          let begins : (i : ℕ) → i < input_count gates → inputs_in t.0 i ≡ inputs i = λ i h. t.1 (i + 1) (let a = e.inputs in omega arith) ∙ u.1 i h in
          let old : (w : ℕ) → w < k → truth_at needed w ≡ true → lit_true t.0 (lit_at lits w) ≡ wire_value gates inputs w
          = λ w h r. lit_true-same t.0 u.0 f.vars t.1 (lit_at lits w) (e.variables w h r) ∙ u.3 w h r in (
            t.0,
            begins,
            t.2,
            λ w h r. elim (old_or_last w h) [
              | inl a ↦ ap (lit_true t.0) (old_lit x w a) ∙ old w a r
              | inr b ↦
                  ap (lit_true t.0) (lit_at-last lits x w (e.long ∙ sym b))
                  ∙ d.sound t.0 t.2
                  ∙ gate_value-needed needed k (input_count gates) (λ o. lit_true t.0 (lit_at lits o) ≡ wire_value gates inputs o) old
                  (inputs_in t.0) inputs (λ o. lit_true t.0 (lit_at lits o)) (wire_value gates inputs) gate (λ o p. p) begins below place reads
                  ∙ sym (value inputs)
                  ∙ ap (wire_value gates inputs) (sym b)
            ],
          );
    }

-- the goal's literal, alone in a clause, says that the goal is true
pub states_goal : (gates : List Gate) (needed : List Bool) (goal : ℕ) (lits : List Lit) (f g : Formula) → Encodes gates needed (goal + 1) lits f → truth_at needed goal ≡ true
    → g ≡ record { vars = f.vars; clauses = f.clauses ++ clause_of (lit_at lits goal ∷ []) ∷ [] } → StatesGoal gates goal g
states_goal gates needed goal lits f g e at is = subst (StatesGoal gates goal) (sym is) (record {
  variables = e.inputs;
  models = λ v s.
      sym (e.sound v (Satisfies-front v f.clauses (lit_at lits goal ∷ []) s) goal (omega arith) at)
      ∙ or_none (lit_true v (lit_at lits goal)) (Satisfies-last v f.clauses (lit_at lits goal ∷ []) s);
  inputs = λ inputs true_goal.
      let u = e.extends inputs in
      (u.0, u.1, Satisfies-push u.0 f.clauses (lit_at lits goal ∷ []) u.2 (ap (λ b. b || false) (u.3 goal (omega arith) at ∙ true_goal)));
})
  where
    or_none : (x : Bool) → (x || false) ≡ true → x ≡ true
    or_none true h = refl
    or_none false h = h

-- it is satisfiable exactly where inputs make the goal true
pub goal_exact : (gates : List Gate) (goal : ℕ) (f : Formula) → StatesGoal gates goal f → IsSatisfiable f ↔ ((inputs : ℕ → Bool) × (wire_value gates inputs goal ≡ true))
goal_exact gates goal f s = (λ m. (inputs_in m.0, s.models m.0 m.1), λ i. let m = s.inputs i.0 i.1 in (m.0, m.2))

-- ---- the wires that are needed
-- operands that are needed stay so where more is needed
pub needed_more : (old new : List Bool) (g : Gate) → ((w : ℕ) → truth_at old w ≡ true → truth_at new w ≡ true) → AreNeeded old g → AreNeeded new g
needed_more old new (Input i) more h = tt
needed_more old new (Constant b) more h = tt
needed_more old new (Not a) more h = more a.0 h
needed_more old new (And a b) more h = (more a.0 h.0, more b.0 h.1)
needed_more old new (Mux c a b) more h = (more c.0 h.0, more a.0 h.1, more b.0 h.2)

-- where the operands of a needed wire are marked, those of the wires from it on all are
pub needed_mark : (gates : List Gate) (old new : List Bool) (k : ℕ) (g : Gate) → NeededFrom gates old (k + 1) → slice_get gates k ≡ Some g → AreNeeded new g
    → ((w : ℕ) → truth_at old w ≡ true → truth_at new w ≡ true) → ((w : ℕ) → k ≤ w → truth_at new w ≡ truth_at old w) → NeededFrom gates new k
needed_mark gates old new k g n at marked more above w h low r s = elim (cases_eq w k) [
  | inl e ↦ let same : Some g ≡ Some h = sym at ∙ ap (slice_get gates) (sym e) ∙ s in let same' : g ≡ h = cc in subst (AreNeeded new) same' marked
  | inr e ↦ needed_more old new h more (n w h (omega arith) (sym (above w low) ∙ r) s)
]

-- a wire that isn't needed has no operands to be marked
pub needed_skip : (gates : List Gate) (needed : List Bool) (k : ℕ) → NeededFrom gates needed (k + 1) → truth_at needed k ≡ false → NeededFrom gates needed k
needed_skip gates needed k n off w h low r s = elim (cases_eq w k) [
  | inl e ↦ absurd (true≢false (sym r ∙ ap (truth_at needed) e ∙ off))
  | inr e ↦ n w h (omega arith) r s
]
