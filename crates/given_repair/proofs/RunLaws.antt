-- Runs that follow arrows, with the guard in front and without it.
use Rattle.std.proofs.Common.{◌≡◌, ◌≢◌, ◌↔◌, inl, inr, ⊎_elim, ℕ, suc, cond, ◌+◌, ◌<◌, ◌==◌, List, [], ◌∷◌, length, get_or, Some, None, sym, ap, subst, ◌∙◌, arith, ne_eqb}
use Rattle.std.proofs.lemmas.Bool.{cases_lt}
use Rattle.std.specs.Prelude.{IsTrue, IsSome}
use Rattle.std.specs.List.{All}
use Rattle.fs_semantics.specs.FileTree.{Path, Tree, IsTree}
use Rattle.fs_semantics.specs.Programs.{Program, Outcome}
use Rattle.fs_semantics.specs.Orders.{Told, IsLinearExtension, IsFree, outcome, IsDeterministic}
use Rattle.given_hosts.specs.Given.{Stand, IsGivenTree, IsDeterministicFrom}
use Rattle.given_hosts.specs.Guard.{guarded, guard_before, GoesFirst}
use Rattle.given_hosts.proofs.GuardLaws.{goes_first, stand_told, ends_where_stand, fails_elsewhere}
use Rattle.given_hosts.proofs.GraphLaws.{longer, guarded_order, order_behind}
use Rattle.orders.specs.Relation.{Relation, comes, Comes, IsStrictOrder}
use Rattle.orders.specs.Exchanges.{place}
use Rattle.repair.specs.Arrows.{Leads, ComesWith, step, and_on, IsBetweenFree, CanBeAdded, Follows}
use Rattle.repair.proofs.RunLaws.{allowed_by_fewer}

-- what is known of runs that follow arrows
abbrev pub Followed : Type 0
Followed = (order : Relation) (arrows : List (ℕ × ℕ)) (run : List ℕ) → IsStrictOrder order → All (IsBetweenFree order) arrows
    → IsLinearExtension order.count (ComesWith order arrows) run ↔ (IsLinearExtension order.count (Comes order) run × All (Follows run) arrows)

-- what isn't the first stands one further than in the rest
place_behind : (k i : ℕ) (run : List ℕ) → i ≢ k → place k (i ∷ run) ≡ suc (place k run)
place_behind k i run ne = ap (λ b. cond b 0 (suc (place k run))) (ne_eqb i k ne)

module _ (given : List Path) (es : List Program) (order more : Relation) (long : length es ≡ order.count) (strict : IsStrictOrder order)
    (strict_more : IsStrictOrder more) (count : more.count ≡ order.count + 1) (before : comes more ≡ guard_before order.count (comes order)) where
  -- the guard goes first
  pub goes : GoesFirst (length es) (comes order) (comes more)
  goes = subst (GoesFirst (length es) (comes order)) (sym before) (subst (λ n. GoesFirst n (comes order) (guard_before order.count (comes order))) (sym long) (goes_first order.count (comes order)))

  -- with the guard there is one resource more
  more_count : length (guarded given es) ≡ more.count
  more_count = longer given es ∙ ap (λ n. n + 1) long ∙ sym count

  -- ---- the guard is in no arrow

  -- what is free of another isn't the guard
  not_guard : (a b : ℕ) → a < more.count → b < more.count → a ≢ b → (Comes more a b → ⊥) → a < length es
  not_guard a b x y differ never = ⊎_elim (λ less. less) (λ other.
      let is : a ≡ length es = omega (arith, x, count, long, other) in
      let low : b < length es = omega (arith, y, count, long, differ, is) in
      absurd (never (subst (λ k. Comes more k b) (sym is) (goes.first b low)))) (cases_lt a (length es))

  -- an arrow between free resources beside the guard is one between free resources
  between : (arrow : ℕ × ℕ) → IsBetweenFree more arrow → IsBetweenFree order arrow
  between arrow f =
      let low = not_guard arrow.0 arrow.1 f.from f.to f.free.differ f.free.not_before in
      let high = not_guard arrow.1 arrow.0 f.to f.from (λ e. f.free.differ (sym e)) f.free.not_after in
      record {
        from = subst (λ n. arrow.0 < n) long low;
        to = subst (λ n. arrow.1 < n) long high;
        free = record {
          differ = f.free.differ;
          not_before = λ h. f.free.not_before ((goes.others arrow.0 arrow.1 low high).1 h);
          not_after = λ h. f.free.not_after ((goes.others arrow.1 arrow.0 high low).1 h);
        };
      }

  -- and so are all
  all_between : (arrows : List (ℕ × ℕ)) → All (IsBetweenFree more) arrows → All (IsBetweenFree order) arrows
  all_between arrows all k d h = between (get_or arrows k d) (all k d h)

  -- a step with the arrows is one beside the guard
  leads_too : (arrows : List (ℕ × ℕ)) (a b : ℕ) → Leads order arrows a b → Leads more arrows a b
  leads_too arrows a b (inl h) =
      let w = strict.within a b h in
      inl ((goes.others a b (subst (λ n. a < n) (sym long) w.0) (subst (λ n. b < n) (sym long) w.1)).1 h)
  leads_too arrows a b (inr e) = inr e

  -- and so are several
  comes_too : (arrows : List (ℕ × ℕ)) (a b : ℕ) → ComesWith order arrows a b → ComesWith more arrows a b
  comes_too arrows a b (step h) = step (leads_too arrows a b h)
  comes_too arrows a c (and_on {b = b} h rest) = and_on (leads_too arrows a b h) (comes_too arrows b c rest)

  -- arrows that can be added beside the guard can be added
  pub can_be_added : (arrows : List (ℕ × ℕ)) → CanBeAdded more arrows → CanBeAdded order arrows
  can_be_added arrows c = record { free = all_between arrows c.free; no_circle = λ a h. c.no_circle a (comes_too arrows a a h) }

  -- ---- runs

  -- a run of the graph with the guard goes on, behind the guard, with one of the graph
  pub behind : (arrows : List (ℕ × ℕ)) (o : List ℕ) → IsLinearExtension (length (guarded given es)) (ComesWith more arrows) o
      → (p : List ℕ) × (o ≡ length es ∷ p) × IsLinearExtension (length es) (ComesWith order arrows) p
  behind arrows o l =
      let b = order_behind given es (comes order) (comes more) goes o (allowed_by_fewer (Comes more) (ComesWith more arrows) (λ a b h. step (inl h)) (length (guarded given es)) o l) in
      let front = subst (IsLinearExtension (length (guarded given es)) (ComesWith more arrows)) b.1 l in
      let rest : IsLinearExtension (length es) (ComesWith more arrows) b.0 = record { below = b.2.below; once = b.2.once; kept = front.kept.1 } in
      (b.0, b.1, allowed_by_fewer (ComesWith order arrows) (ComesWith more arrows) (comes_too arrows) (length es) b.0 rest)

  -- a run that follows an arrow does so behind the guard
  follows_behind : (run : List ℕ) (arrow : ℕ × ℕ) → arrow.0 < length es → arrow.1 < length es → Follows run arrow → Follows (length es ∷ run) arrow
  follows_behind run arrow low high f =
      let x = place_behind arrow.0 (length es) run (λ e. omega (arith, low, e)) in
      let y = place_behind arrow.1 (length es) run (λ e. omega (arith, high, e)) in
      let less : place arrow.0 run < place arrow.1 run = f in
      omega (arith, x, y, less)

  -- and with the guard in front a run of the graph is one of that graph
  pub in_front : Followed → (arrows : List (ℕ × ℕ)) → All (IsBetweenFree more) arrows → (p : List ℕ) → IsLinearExtension (length es) (ComesWith order arrows) p
      → IsLinearExtension (length (guarded given es)) (ComesWith more arrows) (length es ∷ p)
  in_front followed arrows free p l =
      let mine = all_between arrows free in
      let h = (followed order arrows p strict mine).0 (subst (λ n. IsLinearExtension n (ComesWith order arrows) p) long l) in
      let first = guarded_order given es (comes order) (comes more) goes p (subst (λ n. IsLinearExtension n (Comes order) p) (sym long) h.0) in
      let follow : All (Follows (length es ∷ p)) arrows = λ k d low.
      let f = mine k d low in
      follows_behind p (get_or arrows k d) (subst (λ n. (get_or arrows k d).0 < n) (sym long) f.from) (subst (λ n. (get_or arrows k d).1 < n) (sym long) f.to) (h.1 k d low) in
      subst (λ n. IsLinearExtension n (ComesWith more arrows) (length es ∷ p)) (sym more_count)
      ((followed more arrows (length es ∷ p) strict_more free).1 (subst (λ n. IsLinearExtension n (Comes more) (length es ∷ p)) more_count first, follow))

  -- ---- that orders end alike

  -- where all orders end alike with arrows and the guard, they do with the arrows from the trees in which the folders stand
  pub deterministic_from : Followed → (arrows : List (ℕ × ℕ)) → All (IsBetweenFree more) arrows → IsDeterministic (guarded given es) (ComesWith more arrows)
      → IsDeterministicFrom given es (ComesWith order arrows)
  deterministic_from followed arrows free sure t g o p a b =
      sym (ends_where_stand given es o t a.below g.stand)
      ∙ sure t g.is_tree (length es ∷ o) (length es ∷ p) (in_front followed arrows free o a) (in_front followed arrows free p b)
      ∙ ends_where_stand given es p t b.below g.stand

  -- and where they do from these, they do with the guard
  pub deterministic_with : (arrows : List (ℕ × ℕ)) → IsDeterministicFrom given es (ComesWith order arrows) → IsDeterministic (guarded given es) (ComesWith more arrows)
  deterministic_with arrows sure t tree o p a b =
      let l = behind arrows o a in
      let r = behind arrows p b in
      let left = ap (λ q. outcome (guarded given es) q t) l.1 in
      let right = ap (λ q. outcome (guarded given es) q t) r.1 in
      elim (stand_told given t) [
        | inl g ↦ left ∙ ends_where_stand given es l.0 t l.2.below g ∙ sure t (record { is_tree = tree; stand = g }) l.0 r.0 l.2 r.2 ∙ sym (right ∙ ends_where_stand given es r.0 t r.2.below g)
        | inr n ↦ left ∙ fails_elsewhere given es l.0 t n ∙ sym (right ∙ fails_elsewhere given es r.0 t n)
      ]
