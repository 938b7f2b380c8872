-- A program that may go first or last takes nothing away: orders of all end alike where orders of the others do.
use Rattle.std.proofs.Common.{◌≡◌, ◌≢◌, ℕ, zero, suc, true, false, cond, ◌==◌, ◌+◌, ◌<◌, List, [], ◌∷◌, ◌++◌, get_or, Some, refl, sym, ap, subst, ◌∙◌, arith, append_assoc, append-nil, eqb-true}
use Rattle.std.proofs.lemmas.Bool.{eqb-false}
use Rattle.std.specs.List.{AllByRecursion}
use Rattle.fs_semantics.specs.FileTree.{Tree, IsTree}
use Rattle.fs_semantics.specs.Programs.{Program, Id, and_then, run}
use Rattle.fs_semantics.specs.Orders.{NoneAhead, times, outcome}
use Rattle.fs_semantics.specs.Changes.{IsProper, Commutes}
use Rattle.fs_semantics.proofs.ConstructLaws.{keeps_tree}
use Rattle.fs_semantics.proofs.Counts.{times_append, times_found, all_from, all_at, none_ahead_at, none_ahead_behind, none_ahead_without, none_ahead_push}
use Rattle.fs_semantics.proofs.Permuted.{and_then_assoc, then_alike}
use Rattle.fs_semantics.proofs.Commuting.{outcome-append}
use Rattle.effect_sets.specs.Footprints.{footprint, AreApart}
use Rattle.commute_prune.specs.Pruning.{ApartAt, MayBeLast, MayBeFirst, Leads}
use Rattle.sure_folders.specs.Pruning.{without, IsOrderOf, Move, ToFirst, ToLast, firsts, lasts}
use Rattle.sure_folders.proofs.Lists.{none_left, others_left}
use Rattle.sure_folders.proofs.Pruned.{rest_same, still_one}

-- all orders of ks end alike
abbrev pub AllAgree : List Program → (ℕ → ℕ → Type 0) → List ℕ → Type 0
AllAgree es before ks = (t : Tree) → IsTree t → (o p : List ℕ) → IsOrderOf before ks o → IsOrderOf before ks p → outcome es o t ≡ outcome es p t

-- programs whose footprints are apart commute
abbrev pub ApartCommute : Type 0
ApartCommute = (e f : Program) → IsProper e → IsProper f → AreApart (footprint e) (footprint f) → Commutes e f

-- the program with a number is proper
proper_at : (es : List Program) → AllByRecursion IsProper es → (i : ℕ) → IsProper (get_or es i Id)
proper_at [] all i = tt
proper_at (e ∷ es) all zero = all.0
proper_at (e ∷ es) all (suc i) = proper_at es all.1 i

-- an order of the others, with that number in front, has each as often as before
more_same : (k : ℕ) (ks o : List ℕ) → times k ks ≡ 1 → ((j : ℕ) → times j o ≡ times j (without k ks)) → (j : ℕ) → times j (k ∷ o) ≡ times j ks
more_same k ks o once same j = elim (k == j) as (λ b. (k == j) ≡ b → cond b 1 0 + times j o ≡ times j ks) [
  | true ↦ λ e. let is : k ≡ j = eqb-true k j e in omega (arith, same j, ap (λ i. times i ks) is, once, none_left k ks, ap (λ i. times i (without k ks)) is)
  | false ↦ λ e. omega (arith, same j, others_left j k ks (λ f. eqb-false k j e (sym f)))
] refl

module _ (apart_commute : ApartCommute) (es : List Program) (proper : AllByRecursion IsProper es) (before : ℕ → ℕ → Type 0) where
  -- a program leaves a file tree one
  tree_after : (i : ℕ) (t u : Tree) → IsTree t → run (get_or es i Id) t ≡ Some u → IsTree u
  tree_after i t u tree h = keeps_tree (get_or es i Id) t u (proper_at es proper i) tree h

  -- the programs with these two numbers commute
  abbrev CommuteAt : ℕ → ℕ → Type 0
  CommuteAt k j = Commutes (get_or es k Id) (get_or es j Id)

  -- programs that are apart commute
  commute_at : (k j : ℕ) → ApartAt es k j → CommuteAt k j
  commute_at k j apart = apart_commute (get_or es k Id) (get_or es j Id) (proper_at es proper k) (proper_at es proper j) apart

  -- programs that commute may change places at the front of an order
  swapped : (k j : ℕ) (o : List ℕ) (t : Tree) → IsTree t → CommuteAt k j → outcome es (k ∷ j ∷ o) t ≡ outcome es (j ∷ k ∷ o) t
  swapped k j o t tree c =
      sym (and_then_assoc (run (get_or es k Id) t) (run (get_or es j Id)) (outcome es o)) ∙ ap (λ r. and_then r (outcome es o)) (c t tree)
      ∙ and_then_assoc (run (get_or es j Id) t) (run (get_or es k Id)) (outcome es o)

  -- orders that end alike from every tree do so behind a program
  after : (i : ℕ) (o p : List ℕ) (t : Tree) → IsTree t → ((u : Tree) → IsTree u → outcome es o u ≡ outcome es p u) → outcome es (i ∷ o) t ≡ outcome es (i ∷ p) t
  after i o p t tree h = then_alike (run (get_or es i Id) t) (outcome es o) (outcome es p) (λ u k. h u (tree_after i t u tree k))

  -- a program that commutes with all behind it may go last
  to_end : (k : ℕ) (g : List ℕ) → AllByRecursion (CommuteAt k) g → (t : Tree) → IsTree t → outcome es (k ∷ g) t ≡ outcome es (g ++ k ∷ []) t
  to_end k [] all t tree = refl
  to_end k (j ∷ g) all t tree = swapped k j g t tree all.0 ∙ after j (k ∷ g) (g ++ k ∷ []) t tree (to_end k g all.1)

  -- and so it may from within an order
  moved_last : (f : List ℕ) (k : ℕ) (g : List ℕ) → AllByRecursion (CommuteAt k) g → (t : Tree) → IsTree t → outcome es (f ++ k ∷ g) t ≡ outcome es ((f ++ g) ++ k ∷ []) t
  moved_last [] k g all t tree = to_end k g all t tree
  moved_last (i ∷ f) k g all t tree = after i (f ++ k ∷ g) ((f ++ g) ++ k ∷ []) t tree (moved_last f k g all)

  -- a program that commutes with all ahead of it may go first
  moved_first : (f : List ℕ) (k : ℕ) (g : List ℕ) → AllByRecursion (CommuteAt k) f → (t : Tree) → IsTree t → outcome es (f ++ k ∷ g) t ≡ outcome es (k ∷ f ++ g) t
  moved_first [] k g all t tree = refl
  moved_first (i ∷ f) k g all t tree =
      after i (f ++ k ∷ g) (k ∷ f ++ g) t tree (moved_first f k g all.1) ∙ sym (swapped k i (f ++ g) t tree all.0)

  -- ---- one move

  -- a number beside k in an order is another one of ks
  beside_it : (k : ℕ) (ks f g : List ℕ) → times k ks ≡ 1 → ((j : ℕ) → times j (f ++ k ∷ g) ≡ times j ks) → (j : ℕ) → 0 < times j (f ++ g) → (0 < times j ks) × (j ≢ k)
  beside_it k ks f g once same j h =
      let left = rest_same k ks f g once same j in
      (still_one j k ks (omega (arith, h, left)), (λ e. omega (arith, h, left, none_left k ks, ap (λ i. times i (without k ks)) e)))

  -- the order without a program, which may as well go last
  record LastOf (k : ℕ) (ks o : List ℕ) : Type 0 where
    rest : List ℕ
    order : IsOrderOf before (without k ks) rest
    alike : (t : Tree) → IsTree t → outcome es o t ≡ outcome es (rest ++ k ∷ []) t

  -- the order without a program, which may as well go first
  record FirstOf (k : ℕ) (ks o : List ℕ) : Type 0 where
    rest : List ℕ
    order : IsOrderOf before (without k ks) rest
    alike : (t : Tree) → IsTree t → outcome es o t ≡ outcome es (k ∷ rest) t

  -- where a program may be last, each order ends as one in which it is
  last_of : (k : ℕ) (ks o : List ℕ) → MayBeLast es before ks k → IsOrderOf before ks o → LastOf k ks o
  last_of k ks o may order =
      let s = times_found k o (omega (arith, order.same k, may.once)) in
      let f = s.0 in
      let g = s.1 in
      let same : (j : ℕ) → times j (f ++ k ∷ g) ≡ times j ks = λ j. ap (times j) (sym s.2) ∙ order.same j in
      let kept : NoneAhead before (f ++ k ∷ g) = subst (NoneAhead before) s.2 order.kept in
      record {
        rest = f ++ g;
        order = record { same = rest_same k ks f g may.once same; kept = none_ahead_without before f k g kept };
        alike = λ t tree. ap (λ r. outcome es r t) s.2 ∙ moved_last f k g (all_from (CommuteAt k) g (λ j h.
            let other = beside_it k ks f g may.once same j (omega (arith, h, times_append j f g)) in
            commute_at k j (may.apart j other.0 other.1 (all_at (λ i. before i k → ⊥) g j (none_ahead_at before f k g kept) h)))) t tree;
      }

  -- where a program may be first, each order ends as one in which it is
  first_of_order : (k : ℕ) (ks o : List ℕ) → MayBeFirst es before ks k → IsOrderOf before ks o → FirstOf k ks o
  first_of_order k ks o may order =
      let s = times_found k o (omega (arith, order.same k, may.once)) in
      let f = s.0 in
      let g = s.1 in
      let same : (j : ℕ) → times j (f ++ k ∷ g) ≡ times j ks = λ j. ap (times j) (sym s.2) ∙ order.same j in
      let kept : NoneAhead before (f ++ k ∷ g) = subst (NoneAhead before) s.2 order.kept in
      record {
        rest = f ++ g;
        order = record { same = rest_same k ks f g may.once same; kept = none_ahead_without before f k g kept };
        alike = λ t tree. ap (λ r. outcome es r t) s.2 ∙ moved_first f k g (all_from (CommuteAt k) f (λ j h.
            let other = beside_it k ks f g may.once same j (omega (arith, h, times_append j f g)) in
            commute_at k j (may.apart j other.0 other.1 (all_at (λ i. before k i → ⊥) f j (none_ahead_behind before f k g kept) h)))) t tree;
      }

  -- where all orders of the kept ones end alike, all orders do
  pub agree_from : (moves : List Move) (ks kept : List ℕ) → Leads es before moves ks kept → AllAgree es before kept → AllAgree es before ks
  agree_from [] ks kept leads h t tree o p a b = subst (AllAgree es before) leads h t tree o p a b
  agree_from (ToLast k ∷ moves) ks kept leads h t tree o p a b =
      let x = last_of k ks o leads.0 a in
      let y = last_of k ks p leads.0 b in
      x.alike t tree ∙ outcome-append es x.rest (k ∷ []) t
      ∙ ap (λ r. and_then r (outcome es (k ∷ []))) (agree_from moves (without k ks) kept leads.1 h t tree x.rest y.rest x.order y.order)
      ∙ sym (outcome-append es y.rest (k ∷ []) t) ∙ sym (y.alike t tree)
  agree_from (ToFirst k ∷ moves) ks kept leads h t tree o p a b =
      let x = first_of_order k ks o leads.0 a in
      let y = first_of_order k ks p leads.0 b in
      x.alike t tree ∙ after k x.rest y.rest t tree (λ u tree_too. agree_from moves (without k ks) kept leads.1 h u tree_too x.rest y.rest x.order y.order) ∙ sym (y.alike t tree)

  -- an order ends as what goes first, what is kept in some order, and what goes last
  pub record KeptOf (moves : List Move) (kept o : List ℕ) : Type 0 where
    pub rest : List ℕ
    pub order : IsOrderOf before kept rest
    pub alike : (t : Tree) → IsTree t → outcome es o t ≡ outcome es (firsts moves ++ (rest ++ lasts moves)) t

  -- each order ends as one of the kept ones, with what goes first and what goes last
  pub kept_of : (moves : List Move) (ks kept o : List ℕ) → Leads es before moves ks kept → IsOrderOf before ks o → KeptOf moves kept o
  kept_of [] ks kept o leads order = record {
    rest = o;
    order = subst (λ r. IsOrderOf before r o) (sym leads) order;
    alike = λ t tree. ap (λ r. outcome es r t) (sym (append-nil o));
  }
  kept_of (ToLast k ∷ moves) ks kept o leads order =
      let x = last_of k ks o leads.0 order in
      let y = kept_of moves (without k ks) kept x.rest leads.1 x.order in
      let r = firsts moves ++ (y.rest ++ lasts moves) in
      let whole : r ++ k ∷ [] ≡ firsts moves ++ (y.rest ++ (lasts moves ++ k ∷ [])) = append_assoc (firsts moves) (y.rest ++ lasts moves) (k ∷ []) ∙ ap (λ z. firsts moves ++ z) (append_assoc y.rest (lasts moves) (k ∷ [])) in
      record {
        rest = y.rest;
        order = y.order;
        alike = λ t tree. x.alike t tree ∙ outcome-append es x.rest (k ∷ []) t ∙ ap (λ z. and_then z (outcome es (k ∷ []))) (y.alike t tree)
            ∙ sym (outcome-append es r (k ∷ []) t) ∙ ap (λ z. outcome es z t) whole;
      }
  kept_of (ToFirst k ∷ moves) ks kept o leads order =
      let x = first_of_order k ks o leads.0 order in
      let y = kept_of moves (without k ks) kept x.rest leads.1 x.order in
      record {
        rest = y.rest;
        order = y.order;
        alike = λ t tree. x.alike t tree ∙ after k x.rest (firsts moves ++ (y.rest ++ lasts moves)) t tree y.alike;
      }

  -- what was moved completes an order of what is kept
  pub completed : (moves : List Move) (ks kept o : List ℕ) → Leads es before moves ks kept → IsOrderOf before kept o → IsOrderOf before ks (firsts moves ++ (o ++ lasts moves))
  completed [] ks kept o leads order = subst (λ r. IsOrderOf before ks r) (sym (append-nil o)) (subst (λ r. IsOrderOf before r o) leads order)
  completed (ToLast k ∷ moves) ks kept o leads order =
      let rest = completed moves (without k ks) kept o leads.1 order in
      let r = firsts moves ++ (o ++ lasts moves) in
      let whole : r ++ k ∷ [] ≡ firsts moves ++ (o ++ (lasts moves ++ k ∷ [])) = append_assoc (firsts moves) (o ++ lasts moves) (k ∷ []) ∙ ap (λ x. firsts moves ++ x) (append_assoc o (lasts moves) (k ∷ [])) in
      subst (λ x. IsOrderOf before ks x) whole (record {
        same = λ j. omega (arith, times_append j r (k ∷ []), more_same k ks r leads.0.once rest.same j);
        kept = none_ahead_push before r k rest.kept (all_from (λ j. before k j → ⊥) r (λ j h. leads.0.none_after j (still_one j k ks (omega (arith, h, rest.same j)))));
      })
  completed (ToFirst k ∷ moves) ks kept o leads order =
      let rest = completed moves (without k ks) kept o leads.1 order in
      let r = firsts moves ++ (o ++ lasts moves) in
      record {
        same = more_same k ks r leads.0.once rest.same;
        kept = (all_from (λ j. before j k → ⊥) r (λ j h. leads.0.none_before j (still_one j k ks (omega (arith, h, rest.same j)))), rest.kept);
      }
