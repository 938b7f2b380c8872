-- What each step of a search keeps.
use Rattle.std.proofs.Common.{◌≡◌, ◌≢◌, ℕ, suc, Bool, true, false, not, cond, ◌==◌, ◌+◌, ◌-◌, ◌*◌, ◌<◌, ◌≤◌, ◌⊎◌, inl, inr, ⊎_elim, List, [], ◌∷◌, ◌++◌, length, get_or, set, take, drop, refl, sym, ap, ◌∙◌, subst, arith, eq-eqb, ne_eqb, eqb-true}
use Rattle.std.specs.Prelude.{◌&&◌, ◌||◌, slice_index}
use Rattle.std.proofs.lemmas.Bool.{cases_lt, cases_eq, cases_Bool, and_parts, or_right, or_left, or_cases}
use Rattle.std.proofs.lemmas.List.{get_or-set_same, get_or-set_other, length-set, length-append, drop_all}
use Rattle.fs_semantics.specs.Orders.{times}
use Rattle.orders.specs.Paths.{HasEdge, EndsBelow, Path, edge, and_on}
use Rattle.orders.specs.Relation.{Comes}
use Rattle.orders.specs.Table.{width_of, cell, relation_of, IsOrderTable}
use Rattle.orders.specs.Search.{source, target, latest, AreLinks, State, AreLinked, IsFollowed, IsFresh, IsSearch, work, entering, finishing}
use Rattle.fs_semantics.proofs.Counts.{times_append, times_itself, times_other}
use Rattle.orders.proofs.Lists.{times_at, split_at}
use Rattle.orders.proofs.Waits.{count_false_set, clash}
use Rattle.orders.proofs.Taking.{within_taken}
use Rattle.orders.proofs.Tables.{comes_cell, comes_within}
use Rattle.orders.proofs.Searching.{latest_le, latest_own, latest_none, edge_at, numbered, source_within, target_within, path_within, one_at_most, in_work_both, in_work_one, done_none, unset_none, set_keeps, total_set, linked_front, linked_push}

module _ (n : ℕ) (edges : List (ℕ × ℕ)) (ends : EndsBelow n edges) (s : State) (h : IsSearch n edges s) where
  -- no node is in work twice
  pub in_work_once : (k : ℕ) → times k s.stack ≤ 1
  in_work_once k = let e = h.in_work k in let f = one_at_most (get_or s.entered k false && not (get_or s.done k false)) in omega arith

  -- ---- a new node in work
  module _ (node : ℕ) (within : node < n) (fresh : get_or s.entered node false ≡ false) (led : 0 < length s.stack → HasEdge edges (slice_index s.stack (length s.stack - 1)) node) where
    -- the node is one of the marks
    node_in : node < length s.entered
    node_in = let e = h.entered_len in omega arith

    -- a node that wasn't entered isn't done
    not_done : get_or s.done node false ≡ false
    not_done = ⊎_elim (λ t. absurd (clash fresh (h.done_entered node t))) (λ f. f) (cases_Bool (get_or s.done node false))

    -- after a node was entered those in work are as before, and that one
    entered_counts : (k : ℕ) → times k (s.stack ++ node ∷ []) ≡ cond (get_or (set s.entered node true) k false && not (get_or s.done k false)) 1 0
    entered_counts k =
        ⊎_elim
        (λ e. let P : ℕ → Type 0 = λ v. times v (s.stack ++ node ∷ []) ≡ cond (get_or (set s.entered node true) v false && not (get_or s.done v false)) 1 0 in
        let a = times_append node s.stack (node ∷ []) in
        let b = times_itself node [] in
        let c = h.in_work node ∙ unset_none (get_or s.entered node false) (get_or s.done node false) fresh in
        let d = in_work_one (get_or (set s.entered node true) node false) (get_or s.done node false) (get_or-set_same s.entered node true false node_in) not_done in
        let f : times node (s.stack ++ node ∷ []) ≡ 1 = omega arith in
        subst P (sym e) (f ∙ sym d))
        (λ ne. let a = times_append k s.stack (node ∷ []) in
        let b = times_other k node [] ne in
        let f : times k (s.stack ++ node ∷ []) ≡ times k s.stack = omega arith in
        f ∙ h.in_work k ∙ sym (ap (λ e. cond (e && not (get_or s.done k false)) 1 0) (get_or-set_other s.entered node k true false ne)))
        (cases_eq k node)

    -- to enter a node to which an edge leads from the top goes on with the search
    pub entered_search : IsSearch n edges (entering node s)
    entered_search = record {
      cursors_len = h.cursors_len;
      entered_len = length-set s.entered node true ∙ h.entered_len;
      done_len = h.done_len;
      words_len = h.words_len;
      sound = h.sound;
      cursor_within = h.cursor_within;
      cursor_own = h.cursor_own;
      followed = λ k l c. let f = h.followed k l c in record { done = f.done; found = f.found; all_found = f.all_found };
      done_at_end = h.done_at_end;
      acyclic = h.acyclic;
      in_work = entered_counts;
      linked = linked_push edges s.stack node h.linked led;
      done_entered = λ k d. set_keeps s.entered node k (h.done_entered k d);
    }

    -- and leaves less to do
    pub entered_less : work (entering node s) < work s
    entered_less =
        let e = count_false_set s.entered node node_in fresh in
        let f = length-append s.stack (node ∷ []) in
        omega arith

  -- ---- the node on top
  module _ (busy : 0 < length s.stack) (top : ℕ) (is : slice_index s.stack (length s.stack - 1) ≡ top) where
    -- the node on top is in work
    top_there : 1 ≤ times top s.stack
    top_there = subst (λ (v : ℕ). 1 ≤ times v s.stack) is (times_at s.stack (length s.stack - 1) (omega arith))

    -- the node on top was entered and isn't done
    top_both : (get_or s.entered top false ≡ true) × (get_or s.done top false ≡ false)
    top_both = in_work_both (get_or s.entered top false) (get_or s.done top false) (let e = h.in_work top in let f = top_there in omega arith)

    -- the node on top is a node
    pub top_within : top < n
    top_within = let e = within_taken s.entered top top_both.0 in let f = h.entered_len in omega arith

    -- the nodes in work are those below the top, and the top
    stack_is : s.stack ≡ take (length s.stack - 1) s.stack ++ top ∷ []
    stack_is =
        split_at s.stack (length s.stack - 1) (omega arith)
        ∙ ap (λ v. take (length s.stack - 1) s.stack ++ v ∷ drop (length s.stack - 1 + 1) s.stack) is
        ∙ ap (λ (ys : List ℕ). take (length s.stack - 1) s.stack ++ top ∷ ys) (drop_all (length s.stack - 1 + 1) s.stack (omega arith))

    -- what is done stays so along a path
    closed : (b x : ℕ) → get_or s.done b false ≡ true → Path edges b x → get_or s.done x false ≡ true
    closed b x d (edge e) =
        let k = numbered edges b x e in
        let f = h.followed k.0 k.1 (let c = h.done_at_end b d in let g = ap (slice_index s.cursors) k.2 in omega arith) in
        subst (λ (v : ℕ). get_or s.done v false ≡ true) k.3 f.done
    closed b x d (and_on {b = c} e p) =
        let k = numbered edges b c e in
        let f = h.followed k.0 k.1 (let c = h.done_at_end b d in let g = ap (slice_index s.cursors) k.2 in omega arith) in
        closed c x (subst (λ (v : ℕ). get_or s.done v false ≡ true) k.3 f.done) p

    -- ---- all its edges have been followed
    module _ (at_end : slice_index s.cursors top ≡ 0) where
      -- where all edges of the top are followed, all nodes that they lead to are done
      next_done : (b : ℕ) → HasEdge edges top b → get_or s.done b false ≡ true
      next_done b e =
          let k = numbered edges top b e in
          let f = h.followed k.0 k.1 (let g = ap (slice_index s.cursors) k.2 in omega arith) in
          subst (λ (v : ℕ). get_or s.done v false ≡ true) k.3 f.done

      -- no path leads from the top back to it then
      no_circle : Path edges top top → ⊥
      no_circle (edge e) = clash top_both.1 (next_done top e)
      no_circle (and_on {b = c} e p) = clash top_both.1 (closed c top (next_done c e) p)

      -- after the top was finished those in work are as before without it
      finished_counts : (k : ℕ) → times k (take (length s.stack - 1) s.stack) ≡ cond (get_or s.entered k false && not (get_or (set s.done top true) k false)) 1 0
      finished_counts k =
          let a = ap (times k) stack_is in
          let b = times_append k (take (length s.stack - 1) s.stack) (top ∷ []) in
          ⊎_elim
          (λ e. let c = in_work_once k in
          let d = subst (λ (v : ℕ). 1 ≤ times v s.stack) (sym e) top_there in
          let f : times k (top ∷ []) ≡ 1 = subst (λ (v : ℕ). times v (top ∷ []) ≡ 1) (sym e) (times_itself top []) in
          let g : times k (take (length s.stack - 1) s.stack) ≡ 0 = omega arith in
          let i = get_or-set_same s.done top true false (let l = h.done_len in let m = top_within in omega arith) in
          g ∙ sym (done_none (get_or s.entered k false) (get_or (set s.done top true) k false) (subst (λ (v : ℕ). get_or (set s.done top true) v false ≡ true) (sym e) i)))
          (λ ne. let c = times_other k top [] ne in
          let g : times k (take (length s.stack - 1) s.stack) ≡ times k s.stack = omega arith in
          g ∙ h.in_work k ∙ sym (ap (λ d. cond (get_or s.entered k false && not d) 1 0) (get_or-set_other s.done top k true false ne)))
          (cases_eq k top)

      -- what is done now was done, or is the node on top
      was_done : (a : ℕ) → get_or (set s.done top true) a false ≡ true → (a ≡ top) ⊎ (get_or s.done a false ≡ true)
      was_done a d = ⊎_elim inl (λ ne. inr (sym (get_or-set_other s.done top a true false ne) ∙ d)) (cases_eq a top)

      -- to finish the node on top goes on with the search
      pub finished_search : IsSearch n edges (finishing top s)
      finished_search = record {
        cursors_len = h.cursors_len;
        entered_len = h.entered_len;
        done_len = length-set s.done top true ∙ h.done_len;
        words_len = h.words_len;
        sound = h.sound;
        cursor_within = h.cursor_within;
        cursor_own = h.cursor_own;
        followed = λ k l c. let f = h.followed k l c in record { done = set_keeps s.done top (target edges k) f.done; found = f.found; all_found = f.all_found };
        done_at_end = λ a d. ⊎_elim (λ e. ap (slice_index s.cursors) e ∙ at_end) (h.done_at_end a) (was_done a d);
        acyclic = λ a d p. ⊎_elim (λ e. no_circle (subst (λ (v : ℕ). Path edges v v) e p)) (λ f. h.acyclic a f p) (was_done a d);
        in_work = finished_counts;
        linked = linked_front edges (take (length s.stack - 1) s.stack) (top ∷ []) (subst (AreLinked edges) stack_is h.linked);
        done_entered = λ k d. ⊎_elim (λ e. subst (λ (v : ℕ). get_or s.entered v false ≡ true) (sym e) top_both.0) (h.done_entered k) (was_done k d);
      }

    -- ---- its next edge
    module _ (i : ℕ) (cursor : slice_index s.cursors top ≡ suc i) where
      -- the next edge of the top has a number
      next_numbered : i < length edges
      next_numbered = let e = h.cursor_within top top_within in omega arith

      -- the next edge leads to a node
      pub next_within : target edges i < n
      next_within = target_within n edges ends i next_numbered

      -- it leads there from the top
      pub next_edge : HasEdge edges (slice_index s.stack (length s.stack - 1)) (target edges i)
      next_edge = subst (λ (v : ℕ). HasEdge edges v (target edges i)) (h.cursor_own top i top_within cursor ∙ sym is) (edge_at edges i next_numbered)

    -- ---- its next edge leads to a node that is done
    module _ (i : ℕ) (cursor : slice_index s.cursors top ≡ suc i) (node : ℕ) (node_is : target edges i ≡ node) (ended : get_or s.done node false ≡ true)
        (heads nexts : List ℕ) (links : AreLinks n edges heads nexts) (words : List ℕ) (size : length words ≡ n * width_of n)
        (put : (x y : ℕ) → x < n → y < n → cell (width_of n) words x y ≡ (((x == top) && ((y == node) || cell (width_of n) s.words node y)) || cell (width_of n) s.words x y)) where
      -- the edge of the top behind this one
      abbrev next : ℕ
      next = slice_index nexts i

      -- the state with this edge passed, and the bits of its end added to the top's
      abbrev passed : State
      passed = record s { cursors = set s.cursors top next; words = words }

      -- the edge has a number
      pub edge_within : i < length edges
      edge_within = let e = h.cursor_within top top_within in omega arith

      -- the edge begins at the top
      own : source edges i ≡ top
      own = h.cursor_own top i top_within cursor

      -- the top has a cursor
      top_in : top < length s.cursors
      top_in = let e = h.cursors_len in let f = top_within in omega arith

      -- the next cursor is the latest edge of the top ahead of this one
      next_is : next ≡ latest edges top i
      next_is = links.nexts_are i edge_within ∙ ap (λ a. latest edges a i) own

      -- the edge leads to a node
      node_within : node < n
      node_within = subst (λ (v : ℕ). v < n) node_is (target_within n edges ends i edge_within)

      -- a node that is done isn't on top
      not_top : (a : ℕ) → get_or s.done a false ≡ true → a ≢ top
      not_top a d e = clash top_both.1 (subst (λ (v : ℕ). get_or s.done v false ≡ true) e d)

      -- the cursor of the top moved
      cursor_top : slice_index (set s.cursors top next) top ≡ next
      cursor_top = get_or-set_same s.cursors top next 0 top_in

      -- all other cursors stay
      cursor_other : (a : ℕ) → a ≢ top → slice_index (set s.cursors top next) a ≡ slice_index s.cursors a
      cursor_other a ne = get_or-set_other s.cursors top a next 0 ne

      -- what was found stays found, and in other rows nothing is new
      stays : (x y : ℕ) → x < n → y < n → cell (width_of n) s.words x y ≡ true → cell (width_of n) words x y ≡ true
      stays x y hx hy c = put x y hx hy ∙ or_right ((x == top) && ((y == node) || cell (width_of n) s.words node y)) (cell (width_of n) s.words x y) c

      -- all other rows stay
      same_row : (x y : ℕ) → x < n → y < n → x ≢ top → cell (width_of n) words x y ≡ cell (width_of n) s.words x y
      same_row x y hx hy ne = put x y hx hy ∙ ap (λ t. (t && ((y == node) || cell (width_of n) s.words node y)) || cell (width_of n) s.words x y) (ne_eqb x top ne)

      -- the top's row has the node, and all that is found there
      top_row : (y : ℕ) → y < n → ((y == node) || cell (width_of n) s.words node y) ≡ true → cell (width_of n) words top y ≡ true
      top_row y hy c =
          put top y top_within hy
          ∙ ap (λ t. (t && ((y == node) || cell (width_of n) s.words node y)) || cell (width_of n) s.words top y) (eq-eqb top top refl)
          ∙ or_left ((y == node) || cell (width_of n) s.words node y) (cell (width_of n) s.words top y) c

      -- a path leads from the top to the node
      way : Path edges top node
      way = edge (subst (λ (v : ℕ). HasEdge edges v node) own (subst (λ (v : ℕ). HasEdge edges (source edges i) v) node_is (edge_at edges i edge_within)))

      -- and on to all that is reached from there
      way_on : (y : ℕ) → Path edges node y → Path edges top y
      way_on y p = and_on (subst (λ (v : ℕ). HasEdge edges v node) own (subst (λ (v : ℕ). HasEdge edges (source edges i) v) node_is (edge_at edges i edge_within))) p

      -- a bit is set only where a path leads
      sound : (x y : ℕ) → x < n → y < n → cell (width_of n) words x y ≡ true → Path edges x y
      sound x y hx hy c =
          ⊎_elim
          (λ new.
          let parts = and_parts (x == top) ((y == node) || cell (width_of n) s.words node y) new in
          subst (λ (v : ℕ). Path edges v y) (sym (eqb-true x top parts.0))
          (⊎_elim (λ e. subst (λ (v : ℕ). Path edges top v) (sym (eqb-true y node e)) way) (λ e. way_on y (h.sound node y node_within hy e)) (or_cases (y == node) (cell (width_of n) s.words node y) parts.1)))
          (λ old. h.sound x y hx hy old)
          (or_cases ((x == top) && ((y == node) || cell (width_of n) s.words node y)) (cell (width_of n) s.words x y) (sym (put x y hx hy) ∙ c))

      -- an edge that had been followed still is
      followed_still : (k : ℕ) → k < length edges → IsFollowed n edges s k → IsFollowed n edges passed k
      followed_still k l f = record {
        done = f.done;
        found = stays (source edges k) (target edges k) (source_within n edges ends k l) (target_within n edges ends k l) f.found;
        all_found = λ x hx c.
            stays (source edges k) x (source_within n edges ends k l) hx
            (f.all_found x hx (sym (same_row (target edges k) x (target_within n edges ends k l) hx (not_top (target edges k) f.done)) ∙ c));
      }

      -- and this one is now
      followed_now : IsFollowed n edges passed i
      followed_now = record {
        done = subst (λ (v : ℕ). get_or s.done v false ≡ true) (sym node_is) ended;
        found = subst (λ (v : ℕ). cell (width_of n) words v (target edges i) ≡ true) (sym own)
            (subst (λ (v : ℕ). cell (width_of n) words top v ≡ true) (sym node_is)
            (top_row node node_within (or_left (node == node) (cell (width_of n) s.words node node) (eq-eqb node node refl))));
        all_found = λ x hx c.
            subst (λ (v : ℕ). cell (width_of n) words v x ≡ true) (sym own)
            (top_row x hx (or_right (x == node) (cell (width_of n) s.words node x)
            (sym (same_row node x node_within hx (not_top node ended)) ∙ subst (λ (v : ℕ). cell (width_of n) words v x ≡ true) node_is c)));
      }

      -- the edges behind the cursors are followed, this one too
      followed : (k : ℕ) → k < length edges → slice_index (set s.cursors top next) (source edges k) ≤ k → IsFollowed n edges passed k
      followed k l c =
          ⊎_elim
          (λ e.
          let from : next ≤ k = let a = cursor_top in let b = ap (slice_index (set s.cursors top next)) e in omega arith in
          ⊎_elim
          (λ m. absurd (latest_none edges top i k (let a = next_is in omega arith) m e))
          (λ m. ⊎_elim
          (λ same. subst (λ (v : ℕ). IsFollowed n edges passed v) (sym same) followed_now)
          (λ ne. followed_still k l (h.followed k l (let a = ap (slice_index s.cursors) e in omega arith))) (cases_eq k i)) (cases_lt k i))
          (λ ne. followed_still k l (h.followed k l (let a = cursor_other (source edges k) ne in omega arith)))
          (cases_eq (source edges k) top)

      -- to pass an edge whose end is done goes on with the search
      pub passed_search : IsSearch n edges passed
      passed_search = record {
        cursors_len = length-set s.cursors top next ∙ h.cursors_len;
        entered_len = h.entered_len;
        done_len = h.done_len;
        words_len = size;
        sound = sound;
        cursor_within = λ a l.
            ⊎_elim (λ e. let b = ap (slice_index (set s.cursors top next)) e in let c = cursor_top in let d = next_is in let f = latest_le edges top i in let g = edge_within in omega arith)
            (λ ne. let b = cursor_other a ne in let c = h.cursor_within a l in omega arith) (cases_eq a top);
        cursor_own = λ a j l e.
            ⊎_elim
            (λ same. latest_own edges top i j (sym next_is ∙ sym cursor_top ∙ ap (slice_index (set s.cursors top next)) (sym same) ∙ e) ∙ sym same)
            (λ ne. h.cursor_own a j l (sym (cursor_other a ne) ∙ e)) (cases_eq a top);
        followed = followed;
        done_at_end = λ a d. cursor_other a (not_top a d) ∙ h.done_at_end a d;
        acyclic = h.acyclic;
        in_work = h.in_work;
        linked = h.linked;
        done_entered = h.done_entered;
      }

      -- and leaves less to do
      pub passed_less : work passed < work s
      passed_less =
          let e = total_set s.cursors top next top_in in
          let f = next_is in
          let g = latest_le edges top i in
          omega arith

-- what holds while all that is reached from a root is followed
pub record IsExploring (n : ℕ) (edges : List (ℕ × ℕ)) (root : ℕ) (before : List Bool) (s : State) : Type 0 where
  pub search : IsSearch n edges s
  pub entered_root : get_or s.entered root false ≡ true
  pub entered : (k : ℕ) → get_or before k false ≡ true → get_or s.entered k false ≡ true

-- ---- the first state
-- a search begins with nothing entered and nothing found
pub fresh_search : (n : ℕ) (edges : List (ℕ × ℕ)) → EndsBelow n edges → (heads nexts : List ℕ) → AreLinks n edges heads nexts → (s : State) → IsFresh n heads s → IsSearch n edges s
fresh_search n edges ends heads nexts links s f =
    let cursor : (a : ℕ) → a < n → slice_index s.cursors a ≡ latest edges a (length edges) = λ a l. ap (λ (xs : List ℕ). slice_index xs a) f.cursors ∙ links.heads_are a l in
    record {
      cursors_len = ap (λ (xs : List ℕ). length xs) f.cursors ∙ links.heads_len;
      entered_len = f.entered_len;
      done_len = f.done_len;
      words_len = f.words_len;
      sound = λ a b ha hb c. absurd (clash (f.words a b) c);
      cursor_within = λ a l. let e = cursor a l in let g = latest_le edges a (length edges) in omega arith;
      cursor_own = λ a i l e. latest_own edges a (length edges) i (sym (cursor a l) ∙ e);
      followed = λ k l c. absurd (latest_none edges (source edges k) (length edges) k (let e = cursor (source edges k) (source_within n edges ends k l) in omega arith) l refl);
      done_at_end = λ a d. absurd (clash (f.done a) d);
      acyclic = λ a d p. clash (f.done a) d;
      in_work = λ k. ap (times k) f.stack ∙ sym (unset_none (get_or s.entered k false) (get_or s.done k false) (f.entered k));
      linked = subst (AreLinked edges) (sym f.stack) tt;
      done_entered = λ k d. absurd (clash (f.done k) d);
    }

-- ---- the last state: all nodes have been entered, and none is in work
module _ (n : ℕ) (edges : List (ℕ × ℕ)) (ends : EndsBelow n edges) (s : State) (h : IsSearch n edges s) (idle : s.stack ≡ []) (all : (k : ℕ) → k < n → get_or s.entered k false ≡ true) where
  -- at the end all nodes are done
  all_done : (k : ℕ) → k < n → get_or s.done k false ≡ true
  all_done k l =
      ⊎_elim (λ t. t)
      (λ f. let e = in_work_one (get_or s.entered k false) (get_or s.done k false) (all k l) f in
      let g = h.in_work k in
      let i = ap (times k) idle in
      absurd (omega arith)) (cases_Bool (get_or s.done k false))

  -- and all edges are followed
  all_followed : (k : ℕ) → k < length edges → IsFollowed n edges s k
  all_followed k l = h.followed k l (let e = h.done_at_end (source edges k) (all_done (source edges k) (source_within n edges ends k l)) in omega arith)

  -- at the end the bits tell of all paths
  pub reached : (a b : ℕ) → Path edges a b → cell (width_of n) s.words a b ≡ true
  reached a b (edge e) =
      let k = numbered edges a b e in
      subst (λ (v : ℕ). cell (width_of n) s.words v b ≡ true) k.2 (subst (λ (v : ℕ). cell (width_of n) s.words (source edges k.0) v ≡ true) k.3 (all_followed k.0 k.1).found)
  reached a b (and_on {b = c} e p) =
      let k = numbered edges a c e in
      subst (λ (v : ℕ). cell (width_of n) s.words v b ≡ true) k.2
      ((all_followed k.0 k.1).all_found b (path_within n edges ends p).1 (subst (λ (v : ℕ). cell (width_of n) s.words v b ≡ true) (sym k.3) (reached c b p)))

  -- and no path leads from a node back to it
  pub none_circles : (a : ℕ) → Path edges a a → ⊥
  none_circles a p = h.acyclic a (all_done a (path_within n edges ends p).0) p

-- ---- root by root
-- the search is idle, and all nodes below a root were entered
pub record IsRooted (n : ℕ) (edges : List (ℕ × ℕ)) (root : ℕ) (s : State) : Type 0 where
  pub search : IsSearch n edges s
  pub idle : s.stack ≡ []
  pub entered : (k : ℕ) → k < root → get_or s.entered k false ≡ true

-- at first no root was gone to
pub rooted_begun : (n : ℕ) (edges : List (ℕ × ℕ)) → EndsBelow n edges → (heads nexts : List ℕ) → AreLinks n edges heads nexts → (s : State) → IsFresh n heads s → IsRooted n edges 0 s
rooted_begun n edges ends heads nexts links s f = record {
  search = fresh_search n edges ends heads nexts links s f;
  idle = f.stack;
  entered = λ k l. absurd (omega arith);
}

-- with all that is reached from a root entered, the search is idle at the next root
pub rooted_more : (n : ℕ) (edges : List (ℕ × ℕ)) (root : ℕ) (s t : State) → ((k : ℕ) → k < root → get_or s.entered k false ≡ true) → IsSearch n edges t → t.stack ≡ [] → get_or t.entered root false ≡ true
    → ((k : ℕ) → get_or s.entered k false ≡ true → get_or t.entered k false ≡ true) → IsRooted n edges (root + 1) t
rooted_more n edges root s t before search idle now keeps = record {
  search = search;
  idle = idle;
  entered = λ k l. ⊎_elim (λ m. keeps k (before k m)) (λ m. let e : root ≡ k = omega arith in subst (λ (v : ℕ). get_or t.entered v false ≡ true) e now) (cases_lt k root);
}

-- the relation that the bits stand for
module _ (n : ℕ) (edges : List (ℕ × ℕ)) (ends : EndsBelow n edges) (root : ℕ) (all : n ≤ root) (s : State) (h : IsRooted n edges root s) where
  -- at the end one node comes before another exactly where a path leads
  pub comes_is : (a b : ℕ) → (Comes (relation_of n s.words) a b → Path edges a b) × (Path edges a b → Comes (relation_of n s.words) a b)
  comes_is a b = (
    λ c. let w = comes_within n s.words a b c in h.search.sound a b w.0 w.1 (sym (comes_cell n s.words a b w.0 w.1) ∙ c),
    λ p. let w = path_within n edges ends p in comes_cell n s.words a b w.0 w.1 ∙ reached n edges ends s h.search h.idle (λ k l. h.entered k (omega arith)) a b p,
  )

  -- and no path leads from a node back to it
  pub no_circles : (a : ℕ) → Path edges a a → ⊥
  no_circles = none_circles n edges ends s h.search h.idle (λ k l. h.entered k (omega arith))

  -- two paths, one behind the other, are a path
  path_joined : {a b c : ℕ} → Path edges a b → Path edges b c → Path edges a c
  path_joined (edge e) q = and_on e q
  path_joined (and_on e p) q = and_on e (path_joined p q)

  -- at the end the bits stand for a strict order
  pub ordered : IsOrderTable n s.words
  ordered = record {
    size = h.search.words_len;
    strict = record {
      within = comes_within n s.words;
      never_itself = λ a c. no_circles a ((comes_is a a).0 c);
      transitive = λ a b c d e. (comes_is a c).1 (path_joined ((comes_is a b).0 d) ((comes_is b c).0 e));
    };
  }
