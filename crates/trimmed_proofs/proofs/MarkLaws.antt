-- Laws of marks.
use Rattle.std.proofs.Common.{◌≡◌, ◌⊎◌, inl, inr, ℕ, zero, suc, ◌+◌, ◌-◌, ◌<◌, Bool, true, false, true≢false, ◌||◌, List, [], ◌∷◌, length, slice_get, Some, refl, sym, ap, ◌∙◌, arith}
use Rattle.std.specs.Prelude.{◌==◌}
use Rattle.std.specs.List.{list_any}
use Rattle.std.proofs.lemmas.Bool.{cases_eq, or_cases}
use Rattle.cnf.specs.declared.log.Step.{Step}
use Rattle.trimmed_proofs.specs.Trimmed.{names}
use Rattle.trimmed_proofs.specs.Marks.{is_marked, MarksMore, NameEarlier, AreMarkedFrom}

-- a disjunction with a true side is true
pub or_true : (a b : Bool) → b ≡ true → true ≡ (a || b)
or_true true b h = refl
or_true false b h = sym h

-- three tests
or_three : (a b c : Bool) → ((a || b) || c) ≡ (a || (b || c))
or_three true b c = refl
or_three false b c = refl

-- what is marked stands in the list
marked_within : (marks : List Bool) (j : ℕ) → is_marked marks j ≡ true → j < length marks
marked_within [] j h = absurd (true≢false (sym h))
marked_within (b ∷ marks) zero h = omega arith
marked_within (b ∷ marks) (suc j) h = let r = marked_within marks j h in omega arith

-- marks that are made one after the other are those of both tests
pub marked_twice : (count : ℕ) (old middle new : List Bool) (p q r : ℕ → Bool) → MarksMore count old middle p → MarksMore count middle new q
    → ((k : ℕ) → r k ≡ (p k || q k)) → MarksMore count old new r
marked_twice count old middle new p q r first second both = record {
  long = second.long ∙ first.long;
  marks = λ j h.
      second.marks j (let e = first.long in omega arith)
      ∙ ap (λ b. b || q (count + j + 1)) (first.marks j h)
      ∙ or_three (is_marked old j) (p (count + j + 1)) (q (count + j + 1))
      ∙ ap (λ b. is_marked old j || b) (sym (both (count + j + 1)));
}

-- what a step names is where its chain begins, and what its links name
pub marked_both : (count : ℕ) (old middle new : List Bool) (step : Step) → MarksMore count old middle (λ k. step.start == k)
    → MarksMore count middle new (λ k. list_any (λ link. link.number == k) step.chain) → MarksMore count old new (λ k. names k step)
marked_both count old middle new step first second =
    marked_twice count old middle new (λ k. step.start == k) (λ k. list_any (λ link. link.number == k) step.chain) (λ k. names k step) first second (λ k. refl)

-- a step that isn't marked needs nothing to be marked
pub marked_skip : (count : ℕ) (steps : List Step) (i : ℕ) (marks : List Bool) → AreMarkedFrom count steps (i + 1) marks → is_marked marks i ≡ false → AreMarkedFrom count steps i marks
marked_skip count steps i marks m off = record {
  long = m.long;
  last = m.last;
  closed = λ j k s low at on named over. elim (cases_eq j i) [
    | inl e ↦ absurd (true≢false (sym on ∙ ap (is_marked marks) e ∙ off))
    | inr n ↦ m.closed j k s (omega arith) at on named over
  ];
  used = m.used;
}

module _ (count : ℕ) (steps : List Step) (i : ℕ) (old new : List Bool) (s : Step) (at : slice_get steps i ≡ Some s) (earlier : NameEarlier count steps)
    (m : AreMarkedFrom count steps (i + 1) old) (on : is_marked old i ≡ true) (more : MarksMore count old new (λ k. names k s)) where
  -- what was marked stays so
  stays : (j : ℕ) → is_marked old j ≡ true → is_marked new j ≡ true
  stays j h = more.marks j (marked_within old j h) ∙ ap (λ b. b || names (count + j + 1) s) h

  -- what is marked was so, or the step names it
  was_or_named : (j : ℕ) → is_marked new j ≡ true → (is_marked old j ≡ true) ⊎ (names (count + j + 1) s ≡ true)
  was_or_named j h = or_cases (is_marked old j) (names (count + j + 1) s) (sym (more.marks j (let w = marked_within new j h in let e = more.long in omega arith)) ∙ h)

  -- what the step names is marked
  now_marked : (k : ℕ) → names k s ≡ true → count < k → is_marked new (k - count - 1) ≡ true
  now_marked k named over =
      let low = earlier i k s at named in
      let w = marked_within old i on in
      let is : count + (k - count - 1) + 1 ≡ k = omega arith in
      more.marks (k - count - 1) (omega arith) ∙ sym (or_true (is_marked old (k - count - 1)) (names (count + (k - count - 1) + 1) s) (ap (λ n. names n s) is ∙ named))

  -- where a marked step marks what it names, those from it on have done so
  pub marked_more : AreMarkedFrom count steps i new
  marked_more = record {
    long = more.long ∙ m.long;
    last = stays (length steps - 1) m.last;
    closed = λ j k t low there marked named over. elim (cases_eq j i) [
      | inl e ↦
          let same : Some s ≡ Some t = sym at ∙ ap (slice_get steps) (sym e) ∙ there in
          let same' : s ≡ t = cc in
          now_marked k (ap (names k) same' ∙ named) over
      | inr n ↦ elim (was_or_named j marked) [
        | inl was ↦ stays (k - count - 1) (m.closed j k t (omega arith) there was named over)
        | inr it ↦ let a = earlier i (count + j + 1) s at it in absurd (omega arith)
      ]
    ];
    used = λ j marked. elim (was_or_named j marked) [
      | inl was ↦ elim (m.used j was) [
        | inl last ↦ inl last
        | inr by ↦ inr (record { place = by.place; step = by.step; behind = by.behind; at = by.at; marked = stays by.place by.marked; named = by.named })
      ]
      | inr it ↦ let a = earlier i (count + j + 1) s at it in inr (record { place = i; step = s; behind = omega arith; at = at; marked = stays i on; named = it })
    ];
  }
