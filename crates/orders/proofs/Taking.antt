-- Taking the least node that may come next, until none is left.
use Rattle.std.proofs.Common.{◌≡◌, ℕ, zero, suc, Bool, true, false, cond, ◌+◌, ◌<◌, ◌≤◌, ⊎_elim, List, [], ◌∷◌, ◌++◌, length, get_or, set, refl, sym, ap, ◌∙◌, subst, arith, append_assoc}
use Rattle.std.specs.Prelude.{slice_index, IsTrue, if◌then◌else◌}
use Rattle.std.proofs.lemmas.Bool.{cases_lt, cases_eq}
use Rattle.std.proofs.lemmas.List.{append-nil, get_or-set_same, get_or-set_other, get_or_past, length-set}
use Rattle.fs_semantics.specs.Orders.{times, NoneAhead, IsLinearExtension}
use Rattle.orders.specs.Relation.{Relation, comes, Comes, IsStrictOrder}
use Rattle.orders.specs.Extensions.{IsReady, IsLeastReady, TakesLeast}
use Rattle.orders.specs.Counting.{waiting, CanGo}
use Rattle.fs_semantics.proofs.Counts.{all_from, none_ahead_push}
use Rattle.orders.proofs.Waits.{waiting_none, waiting_zero, waiting_set, waiting_same, clash}
use Rattle.orders.proofs.MarkLaws.{count_more}

-- what is taken so far, and how many each node waits for
pub record IsTaking (order : Relation) (taken : List Bool) (waits list : List ℕ) : Type 0 where
  pub taken_len : length taken ≡ order.count
  pub waits_len : length waits ≡ order.count
  pub waits_are : (b : ℕ) → b < order.count → slice_index waits b ≡ waiting (comes order) taken order.count b
  pub counts : (k : ℕ) → times k list ≡ (if get_or taken k false then 1 else 0)
  pub closed : (a b : ℕ) → get_or taken b false ≡ true → Comes order a b → get_or taken a false ≡ true
  pub kept : NoneAhead (Comes order) list
  pub least : TakesLeast order.count (Comes order) [] list

-- what counts for one at least is true
pub one_or_none : (t : Bool) → 1 ≤ cond t 1 0 → t ≡ true
one_or_none true h = refl
one_or_none false h = absurd (omega arith)

-- what counts for nothing is false
none_then_false : (t : Bool) → ◌≡◌ {A = ℕ} (cond t 1 0) 0 → t ≡ false
none_then_false true h = absurd (omega arith)
none_then_false false h = refl

-- a node that is taken is one of the marks
pub within_taken : (taken : List Bool) (k : ℕ) → get_or taken k false ≡ true → k < length taken
within_taken taken k e = ⊎_elim (λ l. l) (λ l. absurd (clash (get_or_past taken k false l) e)) (cases_lt k (length taken))

-- an order that takes the least each time still does with the least one more
pub takes_push : (n : ℕ) (before : ℕ → ℕ → Type 0) (taken list : List ℕ) (k : ℕ) → TakesLeast n before taken list → IsLeastReady n before (taken ++ list) k → TakesLeast n before taken (list ++ k ∷ [])
takes_push n before taken [] k h r = (subst (λ (t : List ℕ). IsLeastReady n before t k) (append-nil taken) r, tt)
takes_push n before taken (x ∷ list) k h r =
    (h.0, takes_push n before (taken ++ x ∷ []) list k h.1 (subst (λ (t : List ℕ). IsLeastReady n before t k) (sym (append_assoc taken (x ∷ []) list)) r))

-- nothing is taken at first, and each node waits for all that come before it
pub begun : (order : Relation) (taken : List Bool) (waits : List ℕ) → length taken ≡ order.count → ((k : ℕ) → get_or taken k false ≡ false) → length waits ≡ order.count
    → ((b : ℕ) → b < order.count → slice_index waits b ≡ waiting (comes order) [] order.count b) → IsTaking order taken waits []
begun order taken waits size unset len h = record {
  taken_len = size;
  waits_len = len;
  waits_are = λ b l. h b l ∙ waiting_same (comes order) [] taken order.count b (λ k m. sym (unset k));
  counts = λ k. sym (ap (λ t. cond t 1 0) (unset k));
  closed = λ a b t c. absurd (clash (unset b) t);
  kept = tt;
  least = tt;
}

module _ (order : Relation) (ordered : IsStrictOrder order) (taken : List Bool) (waits list : List ℕ) (h : IsTaking order taken waits list) where
  module _ (node : ℕ) (within : node < order.count) (can : CanGo taken waits node) (least : (j : ℕ) → j < node → CanGo taken waits j → ⊥) where
    -- all predecessors of the node are taken
    predecessors : (a : ℕ) → Comes order a node → get_or taken a false ≡ true
    predecessors a c = waiting_none (comes order) taken order.count node (sym (h.waits_are node within) ∙ can.free) a (ordered.within a node c).0 c

    -- a node that isn't taken and waits for none may come next
    ready : IsReady order.count (Comes order) list node
    ready = record {
      below = within;
      fresh = h.counts node ∙ ap (λ t. cond t 1 0) can.fresh;
      free = λ a c. let e = h.counts a ∙ ap (λ t. cond t 1 0) (predecessors a c) in omega arith;
    }

    -- and a node that may come next waits for none
    ready_can : (j : ℕ) → IsReady order.count (Comes order) list j → CanGo taken waits j
    ready_can j r = record {
      fresh = none_then_false (get_or taken j false) (sym (h.counts j) ∙ r.fresh);
      free =
          h.waits_are j r.below
          ∙ waiting_zero (comes order) taken order.count j (λ a l c. one_or_none (get_or taken a false) (let e = h.counts a in let f = r.free a c in omega arith));
    }

    -- the least node that waits for none is the least that may come next
    least_ready : IsLeastReady order.count (Comes order) list node
    least_ready = record { ready = ready; least = λ j r. ⊎_elim (λ l. absurd (least j l (ready_can j r))) (λ l. l) (cases_lt j node) }

    -- the node is one of the marks
    within_len : node < length taken
    within_len = rw h.taken_len within

    -- each that comes behind the node waits for one at least
    pub waited : (b : ℕ) → b < order.count → IsTrue (comes order node b) → 1 ≤ slice_index waits b
    waited b l c =
        let e = h.waits_are b l in
        let f = waiting_set (comes order) taken order.count b node within_len within can.fresh in
        let g : ◌≡◌ {A = ℕ} (cond (comes order node b) 1 0) 1 = ap (λ t. cond t 1 0) c in
        omega arith

    -- what comes before a taken node is taken, the new one too
    closed_more : (a b : ℕ) → get_or (set taken node true) b false ≡ true → Comes order a b → get_or (set taken node true) a false ≡ true
    closed_more a b t c =
        let taken_a : get_or taken a false ≡ true =
        ⊎_elim (λ e. predecessors a (subst (λ (v : ℕ). Comes order a v) e c)) (λ ne. h.closed a b (sym (get_or-set_other taken node b true false ne) ∙ t) c) (cases_eq b node) in
        ⊎_elim (λ e. subst (λ (v : ℕ). get_or (set taken node true) v false ≡ true) (sym e) (get_or-set_same taken node true false within_len)) (λ ne. get_or-set_other taken node a true false ne ∙ taken_a) (cases_eq a node)

    -- the node doesn't come before any that was taken
    not_ahead : (b : ℕ) → 1 ≤ times b list → Comes order node b → ⊥
    not_ahead b m c =
        let t : get_or taken b false ≡ true = one_or_none (get_or taken b false) (let e = h.counts b in omega arith) in
        clash can.fresh (h.closed node b t c)

    -- with the least node taken that waits for none, the order goes on
    pub taking_more : (new : List ℕ) → length new ≡ order.count
        → ((b : ℕ) → b < order.count → (if comes order node b then 1 else 0) + slice_index new b ≡ slice_index waits b)
        → IsTaking order (set taken node true) new (list ++ node ∷ [])
    taking_more new len less = record {
      taken_len = length-set taken node true ∙ h.taken_len;
      waits_len = len;
      waits_are = λ b l.
          let e = less b l in
          let f = waiting_set (comes order) taken order.count b node within_len within can.fresh in
          let g = h.waits_are b l in
          omega arith;
      counts = λ k. count_more list taken k node within_len can.fresh (h.counts k);
      closed = closed_more;
      kept = none_ahead_push (Comes order) list node h.kept (all_from (λ b. Comes order node b → ⊥) list not_ahead);
      least = takes_push order.count (Comes order) [] list node h.least least_ready;
    }

  module _ (none : (k : ℕ) → k < order.count → CanGo taken waits k → ⊥) where
    -- among those that aren't taken one waits for none
    minimal : (m k : ℕ) → k < order.count → get_or taken k false ≡ false
        → (z : ℕ) × (z < order.count) × (get_or taken z false ≡ false) × ((a : ℕ) → a < m → Comes order a z → get_or taken a false ≡ true)
    minimal zero k l e = (k, l, e, λ a i c. absurd (omega arith))
    minimal (suc m) k l e = next m (minimal m k l e) (comes order m (minimal m k l e).0) refl (get_or taken m false) refl
      where
        next : (m : ℕ) (r : (z : ℕ) × (z < order.count) × (get_or taken z false ≡ false) × ((a : ℕ) → a < m → Comes order a z → get_or taken a false ≡ true))
            → (p : Bool) → comes order m r.0 ≡ p → (t : Bool) → get_or taken m false ≡ t
            → (z : ℕ) × (z < order.count) × (get_or taken z false ≡ false) × ((a : ℕ) → a < suc m → Comes order a z → get_or taken a false ≡ true)
        next m r true c false t = (
          m,
          (ordered.within m r.0 c).0,
          t,
          λ a i d.
              ⊎_elim (λ l. r.3 a l (ordered.transitive a m r.0 d c)) (λ l. let e : a ≡ m = omega arith in absurd (ordered.never_itself m (subst (λ (v : ℕ). Comes order v m) e d))) (cases_lt a m),
        )
        next m r true c true t =
            (r.0, r.1, r.2, λ a i d. ⊎_elim (λ l. r.3 a l d) (λ l. let e : a ≡ m = omega arith in subst (λ (v : ℕ). get_or taken v false ≡ true) (sym e) t) (cases_lt a m))
        next m r false c t u =
            (r.0, r.1, r.2, λ a i d. ⊎_elim (λ l. r.3 a l d) (λ l. let e : a ≡ m = omega arith in absurd (clash c (subst (λ (v : ℕ). Comes order v r.0) e d))) (cases_lt a m))

    -- where no node waits for none, all are taken
    all_taken : (k : ℕ) → k < order.count → get_or taken k false ≡ true
    all_taken k l = elim (get_or taken k false) as (λ t. get_or taken k false ≡ t → t ≡ true) [
      | true ↦ λ e. refl
      | false ↦ λ e.
          let z = minimal order.count k l e in
          absurd (none z.0 z.1 (record { fresh = z.2; free = h.waits_are z.0 z.1 ∙ waiting_zero (comes order) taken order.count z.0 z.3 }))
    ] refl

    -- once all are taken the list is a linear extension
    pub taken_all : IsLinearExtension order.count (Comes order) list
    taken_all = record {
      below = all_from (λ k. k < order.count) list (λ k m.
          let t = within_taken taken k (one_or_none (get_or taken k false) (let e = h.counts k in omega arith)) in
          let e = h.taken_len in
          omega arith);
      once = λ k l. h.counts k ∙ ap (λ t. cond t 1 0) (all_taken k l);
      kept = h.kept;
    }
