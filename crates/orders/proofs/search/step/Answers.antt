use Rattle.std.proofs.Common.{◌≡◌, ℕ, suc, ◌-◌, List, ◌<◌, refl, ap, sym, ◌∙◌, subst, arith, rules}
use Rattle.std.specs.Prelude.{slice_index, slice_set}
use Rattle.orders.specs.Search.{State, state_of, target, work}
use Rattle.orders.proofs.Steps.{entered_search, entered_less, finished_search, passed_search, passed_less, top_within, next_edge, next_within}
use Rattle.orders.proofs.search.step.Goals as goal

pub bounds-cursors-top : goal.bounds-cursors-top
bounds-cursors-top c =
    let a = c.args in
    let is = rw c.as_slice.ensures.value at c.top_of-top.ensures in
    let e = top_within a.n a.edges.now c.requires.ends (state_of a.search.now) c.requires.search c.requires.work c.top_of-top.result is in
    rw (c.as_slice-cursors.ensures.value, c.requires.search.cursors_len) e

pub finish-requires : goal.finish-requires
finish-requires c =
    let a = c.args in
    let is = rw c.as_slice.ensures.value at c.top_of-top.ensures in
    let e = top_within a.n a.edges.now c.requires.ends (state_of a.search.now) c.requires.search c.requires.work c.top_of-top.result is in
    rw c.requires.search.done_len e

pub returns-then-cursor-eq0-clause-ok : goal.returns-then-cursor-eq0-clause-ok
returns-then-cursor-eq0-clause-ok c =
    let a = c.args in
    let is = rw c.as_slice.ensures.value at c.top_of-top.ensures in
    let at_end = rw c.as_slice-cursors.ensures.value at c.if-cursor-eq0.true in
    rw c.finish.ensures (finished_search a.n a.edges.now c.requires.ends (state_of a.search.now) c.requires.search c.requires.work c.top_of-top.result is at_end)

pub returns-then-is_marked : goal.returns-then-is_marked
returns-then-is_marked c =
    let a = c.args in
    let top = c.top_of-top.result in
    let i = slice_index c.as_slice-cursors.result.now top - 1 in
    let is = rw c.as_slice.ensures.value at c.top_of-top.ensures in
    let v = ap (λ (xs : List ℕ). slice_index xs top) c.as_slice-cursors.ensures.value in
    let cursor : slice_index a.search.now.cursors.items top ≡ suc i = let n = c.if-cursor-eq0.false in omega arith in
    let ended = sym (rw c.as_slice-2.ensures.value at c.is_marked.ensures) ∙ c.if-is_marked.true in
    let cursors : c.pass.new.search.cursors.items ≡ slice_set a.search.now.cursors.items top (slice_index a.nexts.now i) =
    c.pass.ensures.cursors ∙ ap (λ (k : ℕ). slice_set a.search.now.cursors.items top (slice_index a.nexts.now (k - 1))) (sym v) in
    record {
      ok = rw (cursors, c.pass.ensures.entered, c.pass.ensures.done, c.pass.ensures.stack)
          (passed_search a.n a.edges.now c.requires.ends (state_of a.search.now) c.requires.search c.requires.work top is i cursor (target a.edges.now i) refl ended c.requires.links.0 a.nexts.now c.requires.links.1 c.pass.new.search.words.items
          c.pass.ensures.size c.pass.ensures.words);
      less = rw (cursors, c.pass.ensures.entered, c.pass.ensures.stack)
          (passed_less a.n a.edges.now c.requires.ends (state_of a.search.now) c.requires.search c.requires.work top is i cursor (target a.edges.now i) refl ended c.requires.links.0 a.nexts.now c.requires.links.1 c.pass.new.search.words.items
          c.pass.ensures.size c.pass.ensures.words);
      entered = search rules;
      cycle = search rules;
    }

pub returns-then-is_marked-2-clause-cycle : goal.returns-then-is_marked-2-clause-cycle
returns-then-is_marked-2-clause-cycle c =
    let a = c.args in
    let top = c.top_of-top.result in
    let i = slice_index c.as_slice-cursors.result.now top - 1 in
    let is = rw c.as_slice.ensures.value at c.top_of-top.ensures in
    let v = ap (λ (xs : List ℕ). slice_index xs top) c.as_slice-cursors.ensures.value in
    let cursor : slice_index a.search.now.cursors.items top ≡ suc i = let n = c.if-cursor-eq0.false in omega arith in
    let found = rw c.as_slice-then-is_marked-2.ensures.value at c.in_ok-cycle_of.ensures in
    found a.edges.now c.requires.search.linked (next_edge a.n a.edges.now c.requires.ends (state_of a.search.now) c.requires.search c.requires.work top is i cursor)

pub returns : goal.returns
returns c =
    let a = c.args in
    let top = c.top_of-top.result in
    let i = slice_index c.as_slice-cursors.result.now top - 1 in
    let is = rw c.as_slice.ensures.value at c.top_of-top.ensures in
    let v = ap (λ (xs : List ℕ). slice_index xs top) c.as_slice-cursors.ensures.value in
    let cursor : slice_index a.search.now.cursors.items top ≡ suc i = let n = c.if-cursor-eq0.false in omega arith in
    let fresh = sym (rw c.as_slice-3.ensures.value at c.is_marked-2.ensures) ∙ c.if-is_marked-2.false in
    let within = next_within a.n a.edges.now c.requires.ends (state_of a.search.now) c.requires.search c.requires.work top is i cursor in
    let edge = next_edge a.n a.edges.now c.requires.ends (state_of a.search.now) c.requires.search c.requires.work top is i cursor in
    let W : State → Type 0 = λ t. work t < work (state_of a.search.now) in
    record {
      ok = rw c.in_ok-enter.ensures
          (entered_search a.n a.edges.now c.requires.ends (state_of a.search.now) c.requires.search (target a.edges.now i) within fresh (λ _. edge));
      less = subst W (sym c.in_ok-enter.ensures)
          (entered_less a.n a.edges.now c.requires.ends (state_of a.search.now) c.requires.search (target a.edges.now i) within fresh (λ _. edge));
      entered = search rules;
      cycle = search rules;
    }
