-- The resource at which an order ends in Error.
use Rattle.std.proofs.Common.{◌≡◌, ◌⊎◌, inl, inr, ℕ, ◌+◌, ◌<◌, List, [], ◌∷◌, ◌++◌, length, Some, None, refl, sym, ap, subst, ◌∙◌, arith}
use Rattle.std.specs.Prelude.{slice_index_or}
use Rattle.fs_semantics.specs.FileTree.{Tree}
use Rattle.fs_semantics.specs.Programs.{Program, Id, Outcome, and_then, run}
use Rattle.fs_semantics.specs.Orders.{outcome}
use Rattle.failure_semantics.specs.Failures.{Failure, FailsAt}
use Rattle.failure_semantics.specs.Orders.{OrderFailsAt, EndsShortestFront}
use Rattle.failure_semantics.proofs.Found.{found, error, ended}
use Rattle.failure_semantics.proofs.Once.{once}

module _ (es : List Program) where
  -- the program with this number
  abbrev at : ℕ → Program
  at i = slice_index_or es i Id

  -- one resource more ahead, which ends in a tree
  later : (j : ℕ) (order : List ℕ) (t u : Tree) (i : ℕ) (f : Failure) → run (at j) t ≡ Some u → OrderFailsAt es order u i f → OrderFailsAt es (j ∷ order) t i f
  later j order t u i f ends h = record {
    front = j ∷ h.front;
    back = h.back;
    reached = h.reached;
    was = ap (λ o. j ∷ o) h.was;
    ends = ap (λ o. and_then o (outcome es h.front)) ends ∙ h.ends;
    fails = h.fails;
  }

  -- an order that ends in Error fails at some resource
  pub some_fails : (order : List ℕ) (t : Tree) → outcome es order t ≡ None → (i : ℕ) × (f : Failure) × OrderFailsAt es order t i f
  some_fails [] t h = cc
  some_fails (j ∷ order) t h = elim (ended (run (at j) t)) [
    | inl fails ↦ let f = found None (at j) t fails in (j, f.0, record { front = []; back = order; reached = t; was = refl; ends = refl; fails = f.1 })
    | inr ends ↦
        let rest = some_fails order ends.0 (ap (λ o. and_then o (outcome es order)) (sym ends.1) ∙ h) in
        (rest.0, rest.1, later j order t ends.0 rest.0 rest.1 ends.1 rest.2)
  ]

  -- what comes behind a front
  joined : (front back : List ℕ) (t : Tree) → outcome es (front ++ back) t ≡ and_then (outcome es front t) (outcome es back)
  joined [] back t = refl
  joined (i ∷ front) back t = again (λ u. joined front back u) (run (at i) t)
    where
      again : ((u : Tree) → outcome es (front ++ back) u ≡ and_then (outcome es front u) (outcome es back)) → (o : Outcome)
          → and_then o (outcome es (front ++ back)) ≡ and_then (and_then o (outcome es front)) (outcome es back)
      again more None = refl
      again more (Some u) = more u

  -- the front up to the resource at which an order fails ends in Error
  front_fails : (order : List ℕ) (t : Tree) (i : ℕ) (f : Failure) (h : OrderFailsAt es order t i f) → outcome es (h.front ++ i ∷ []) t ≡ None
  front_fails order t i f h =
      joined h.front (i ∷ []) t ∙ ap (λ o. and_then o (outcome es (i ∷ []))) h.ends ∙ ap (λ o. and_then o (outcome es [])) (error None (at i) h.reached f h.fails)

  -- and so does the order
  pub order_fails : (order : List ℕ) (t : Tree) (i : ℕ) (f : Failure) → OrderFailsAt es order t i f → outcome es order t ≡ None
  order_fails order t i f h =
      ap (λ o. outcome es o t) h.was ∙ joined h.front (i ∷ h.back) t ∙ ap (λ o. and_then o (outcome es (i ∷ h.back))) h.ends
      ∙ ap (λ o. and_then o (outcome es h.back)) (error None (at i) h.reached f h.fails)

  -- ---- one at most

  -- the parts of an order that ends in Error at its head, or further on
  record Same (i j : ℕ) (f g : Failure) (front other : List ℕ) : Type 0 where
    pub number : i ≡ j
    pub failure : f ≡ g
    pub ahead : front ≡ other

  -- of two cuts of an order, each at a resource that fails where those ahead of it end in a tree, the parts are the same
  compare : (front other back rest : List ℕ) (t u v : Tree) (i j : ℕ) (f g : Failure) → front ++ i ∷ back ≡ other ++ j ∷ rest
      → outcome es front t ≡ Some u → outcome es other t ≡ Some v → FailsAt (at i) u f → FailsAt (at j) v g → Same i j f g front other
  compare [] [] back rest t u v i j f g e h k x y =
      let number : i ≡ j = cc in
      let left : t ≡ u = cc in
      let right : t ≡ v = cc in
      record { number = number; failure = once None (at j) t f g (subst (λ n. FailsAt (at n) t f) number (subst (λ w. FailsAt (at i) w f) (sym left) x)) (subst (λ w. FailsAt (at j) w g) (sym right) y); ahead = refl }
  compare [] (b ∷ other) back rest t u v i j f g e h k x y =
      let number : i ≡ b = cc in
      let left : t ≡ u = cc in
      let fails = ap (λ n. run (at n) t) (sym number) ∙ ap (run (at i)) left ∙ error None (at i) u f x in
      let gone = sym (ap (λ o. and_then o (outcome es other)) fails) ∙ k in cc
  compare (a ∷ front) [] back rest t u v i j f g e h k x y =
      let number : a ≡ j = cc in
      let right : t ≡ v = cc in
      let fails = ap (λ n. run (at n) t) number ∙ ap (run (at j)) right ∙ error None (at j) v g y in
      let gone = sym (ap (λ o. and_then o (outcome es front)) fails) ∙ h in cc
  compare (a ∷ front) (b ∷ other) back rest t u v i j f g e h k x y =
      let number : a ≡ b = cc in
      let tail : front ++ i ∷ back ≡ other ++ j ∷ rest = cc in
      elim (ended (run (at a) t)) [
        | inl fails ↦ let gone = sym (ap (λ o. and_then o (outcome es front)) fails) ∙ h in cc
        | inr w ↦
            let one = sym (ap (λ o. and_then o (outcome es front)) w.1) ∙ h in
            let two = sym (ap (λ o. and_then o (outcome es other)) w.1) ∙ ap (λ n. and_then (run (at n) t) (outcome es other)) number ∙ k in
            let s = compare front other back rest w.0 u v i j f g tail one two x y in
            record { number = s.number; failure = s.failure; ahead = λ m. number m ∷ s.ahead m }
      ]

  -- an order fails at one resource only, by one failure
  pub one_fails : (order : List ℕ) (t : Tree) (i j : ℕ) (f g : Failure) (h : OrderFailsAt es order t i f) (k : OrderFailsAt es order t j g) → (i ≡ j) × (f ≡ g)
  one_fails order t i j f g h k = let s = compare h.front k.front h.back k.back t h.reached k.reached i j f g (sym h.was ∙ k.was) h.ends k.ends h.fails k.fails in (s.number, s.failure)

  -- ---- the last of the shortest front

  -- of two fronts of an order one is shorter than the other, or has it as its own front
  split_short : (ahead other back more : List ℕ) (i : ℕ) → ahead ++ i ∷ back ≡ other ++ more → (length ahead < length other) ⊎ ((rest : List ℕ) × (ahead ≡ other ++ rest))
  split_short ahead [] back more i e = inr (ahead, refl)
  split_short [] (b ∷ other) back more i e = inl (omega arith)
  split_short (a ∷ ahead) (b ∷ other) back more i e =
      let first : a ≡ b = cc in
      let tail : ahead ++ i ∷ back ≡ other ++ more = cc in
      elim (split_short ahead other back more i tail) [
        | inl l ↦ inl (omega (arith, l))
        | inr r ↦ inr (r.0, λ m. first m ∷ r.1 m)
      ]

  -- three lists may be joined from either end
  append_assoc : (a b d : List ℕ) → a ++ (b ++ d) ≡ (a ++ b) ++ d
  append_assoc [] b d = refl
  append_assoc (x ∷ a) b d = ap (λ o. x ∷ o) (append_assoc a b d)

  -- the resource at which an order fails is the last of its shortest front that ends in Error
  pub is_last : (order : List ℕ) (t : Tree) (i : ℕ) (f : Failure) → OrderFailsAt es order t i f → EndsShortestFront es order t i
  is_last order t i f h = record {
    ahead = h.front;
    fails = record { more = h.back; was = h.was ∙ append_assoc h.front (i ∷ []) h.back; fails = front_fails order t i f h };
    shortest = λ front k. elim (split_short h.front front h.back k.more i (sym h.was ∙ k.was)) [
      | inl l ↦ l
      | inr r ↦
          let fails = ap (λ o. and_then o (outcome es r.0)) (sym k.fails) in
          let gone = sym (ap (λ o. outcome es o t) r.1 ∙ joined front r.0 t ∙ ap (λ o. and_then o (outcome es r.0)) k.fails) ∙ h.ends in cc
    ];
  }

  -- two lists joined are as long as both together
  length_append : (a b : List ℕ) → length (a ++ b) ≡ length a + length b
  length_append [] b = omega arith
  length_append (x ∷ a) b = let rest = length_append a b in omega (arith, rest)

  -- cuts of an order behind fronts of the same length are the same
  same_length : (a b : List ℕ) (i j : ℕ) (back more : List ℕ) → a ++ i ∷ back ≡ b ++ j ∷ more → length a ≡ length b → (i ≡ j) × (a ≡ b)
  same_length [] [] i j back more e l = (cc, refl)
  same_length [] (y ∷ b) i j back more e l = absurd (omega (arith, l))
  same_length (x ∷ a) [] i j back more e l = absurd (omega (arith, l))
  same_length (x ∷ a) (y ∷ b) i j back more e l =
      let first : x ≡ y = cc in
      let tail : a ++ i ∷ back ≡ b ++ j ∷ more = cc in
      let s = same_length a b i j back more tail (omega (arith, l)) in
      (s.0, λ m. first m ∷ s.1 m)

  -- and the order fails at the last resource of that front
  pub last_fails : (order : List ℕ) (t : Tree) (i : ℕ) → EndsShortestFront es order t i → (f : Failure) × OrderFailsAt es order t i f
  last_fails order t i h =
      let failing : outcome es order t ≡ None = ap (λ o. outcome es o t) h.fails.was ∙ joined (h.ahead ++ i ∷ []) h.fails.more t ∙ ap (λ o. and_then o (outcome es h.fails.more)) h.fails.fails in
      let k = some_fails order t failing in
      let j = k.0 in
      let g = k.1 in
      let there = is_last order t j g k.2 in
      let one = h.shortest (there.ahead ++ j ∷ []) there.fails in
      let two = there.shortest (h.ahead ++ i ∷ []) h.fails in
      let left = length_append there.ahead (j ∷ []) in
      let right = length_append h.ahead (i ∷ []) in
      let long : length there.ahead ≡ length h.ahead = omega (arith, one, two, left, right) in
      let s = same_length there.ahead h.ahead j i there.fails.more h.fails.more
      (append_assoc there.ahead (j ∷ []) there.fails.more ∙ sym there.fails.was ∙ h.fails.was ∙ sym (append_assoc h.ahead (i ∷ []) h.fails.more)) long in
      (g, subst (λ n. OrderFailsAt es order t n g) s.0 k.2)
