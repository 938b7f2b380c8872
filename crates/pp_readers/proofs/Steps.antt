-- One turn of a loop, as the code takes it.
use Rattle.std.proofs.Common.{◌≡◌, ℕ, suc, ◌+◌, ◌-◌, ◌<◌, Bool, true, false, ◌||◌, List, [], ◌∷◌, ◌++◌, Option, Some, None, refl, sym, ap, ◌∙◌, arith, append_assoc, cond, subst}
use Rattle.std.specs.Prelude.{Result, Ok, Err}
use Rattle.std.specs.Result.{IsErrAnd}
use Rattle.std.specs.Option.{option_map}
use Rattle.pp_syntax.specs.declared.tree.Expr.{Expr}
use Rattle.pp_syntax.specs.declared.tree.Op.{Op}
use Rattle.pp_syntax.specs.declared.token.Kind.TheVariants as kind
use Rattle.pp_syntax.specs.Tokens.{Lexeme}
use Rattle.std.specs.Prelude.{codes}
use Rattle.pp_readers.specs.Marks.{Found, front_of, mark, prefix_of, prefix_at, infix_at, begins_suffix}
use Rattle.rh_base.specs.Reading.{◌>>=◌}
use Rattle.pp_readers.specs.Parsed.{Fails, Gives}
use Rattle.pp_readers.specs.Expressions.{with_first, with_front, operations, operations_or_end, prefixes, prefixes_or_end, items, separator, more_items, suffixes, suffix_with, members, member_with, member_of, member_by, with_member, with_members, end_or_member, index_with, enclosed_with, part_with, reference_with, reference_of, refer_by, titles_with}
use Rattle.std.proofs.lemmas.List.{append-nil}
use Rattle.pp_syntax.specs.declared.tree.Form.TheVariants as form
use Rattle.pp_readers.specs.declared.misread.Misread.{Misread}
use Rattle.pp_readers.specs.declared.misread.Misread.TheVariants as misread

-- one more behind the front is one less of the rest
pub first_more : {X : Type 0} (front : List X) (x : X) (r : Found (List X)) → with_front front (with_first x r) ≡ with_front (front ++ x ∷ []) r
first_more front x None = refl
first_more front x (Some r) = ap (λ xs. Some (xs, r.1)) (sym (append_assoc front (x ∷ []) r.0))

-- where a prefix is found, the prefixes are it and those behind it
prefix_some : (t : Lexeme) (ts more : List Lexeme) (o : Op) (r : Option Op) → option_map {U = Op × List Lexeme} (λ (p : Op). (p, ts)) r ≡ Some (o, more) → prefixes_or_end r (prefixes ts) (t ∷ ts) ≡ (o ∷ (prefixes more).0, (prefixes more).1)
prefix_some t ts more o None h = cc
prefix_some t ts more o (Some p) h =
    let same : ◌≡◌ {A = Op × List Lexeme} (p, ts) (o, more) = cc in
    ap (λ (q : Op × List Lexeme). (q.0 ∷ (prefixes q.1).0, (prefixes q.1).1)) same

-- where none is found, there are none
prefix_none : (t : Lexeme) (ts : List Lexeme) (r : Option Op) → option_map {U = Op × List Lexeme} (λ (p : Op). (p, ts)) r ≡ None → prefixes_or_end r (prefixes ts) (t ∷ ts) ≡ ([], t ∷ ts)
prefix_none t ts None h = refl
prefix_none t ts (Some p) h = cc

-- a turn that finds a prefix goes on behind it
pub prefix_goes_on : (ts more : List Lexeme) (o : Op) → prefix_at ts ≡ Some (o, more) → prefixes ts ≡ (o ∷ (prefixes more).0, (prefixes more).1)
prefix_goes_on [] more o h = cc
prefix_goes_on (t ∷ ts) more o h = prefix_some t ts more o (prefix_of t.kind t.text) h

-- a turn that finds none ends
pub prefix_ends : (ts : List Lexeme) → prefix_at ts ≡ None → prefixes ts ≡ ([], ts)
prefix_ends [] h = refl
prefix_ends (t ∷ ts) h = prefix_none t ts (prefix_of t.kind t.text) h

-- a turn that finds an operator and its operand puts them behind those in front
pub operation_goes_on : (level : ℕ) (u : List Lexeme → Found Expr) (front : List (Op × Expr)) (n i : ℕ) (ts behind more : List Lexeme) (o : Op) (x : Expr) → i < n → infix_at level ts ≡ Some (o, behind) → u behind ≡ Some (x, more)
    → with_front front (operations level u (n - i) ts) ≡ with_front (front ++ (o, x) ∷ []) (operations level u (n - (i + 1)) more)
operation_goes_on level u front n i ts behind more o x h p some =
    let e : n - i ≡ suc (n - (i + 1)) = omega arith in
    ap (with_front front) (ap (λ k. operations level u k ts) e ∙ ap (λ r. operations_or_end u (operations level u (n - (i + 1))) r ts) p ∙ ap (λ r. r >>= λ y. with_first (o, y.0) (operations level u (n - (i + 1)) y.1)) some)
    ∙ first_more front (o, x) (operations level u (n - (i + 1)) more)

-- a turn that finds no operator ends with those in front
pub operation_ends : (level : ℕ) (u : List Lexeme → Found Expr) (front : List (Op × Expr)) (n i : ℕ) (ts : List Lexeme) → i < n → infix_at level ts ≡ None → with_front front (operations level u (n - i) ts) ≡ Some (front, ts)
operation_ends level u front n i ts h p =
    let e : n - i ≡ suc (n - (i + 1)) = omega arith in
    ap (with_front front) (ap (λ k. operations level u k ts) e ∙ ap (λ r. operations_or_end u (operations level u (n - (i + 1))) r ts) p) ∙ ap (λ xs. Some (xs, ts)) (append-nil front)

-- a turn that finds an item and that the list goes on puts it behind those in front
pub item_goes_on : {X : Type 0} (close : List ℕ) (item : List Lexeme → Found X) (front : List X) (n i : ℕ) (ts behind more : List Lexeme) (x : X) → i < n → item ts ≡ Some (x, behind) → separator close behind ≡ Some (false, more)
    → with_front front (items close item (n - i) ts) ≡ with_front (front ++ x ∷ []) (items close item (n - (i + 1)) more)
item_goes_on close item front n i ts behind more x h p s =
    let e : n - i ≡ suc (n - (i + 1)) = omega arith in
    ap (with_front front) (ap (λ k. items close item k ts) e
    ∙ ap (λ r. r >>= λ x. separator close x.1 >>= λ s. with_first x.0 (more_items s.0 (items close item (n - (i + 1))) s.1)) p
    ∙ ap (λ r. r >>= λ s. with_first x (more_items s.0 (items close item (n - (i + 1))) s.1)) s)
    ∙ first_more front x (items close item (n - (i + 1)) more)

-- a turn that finds an item and the end of the list ends with it
pub item_ends : {X : Type 0} (close : List ℕ) (item : List Lexeme → Found X) (front : List X) (n i : ℕ) (ts behind more : List Lexeme) (x : X) → i < n → item ts ≡ Some (x, behind) → separator close behind ≡ Some (true, more)
    → with_front front (items close item (n - i) ts) ≡ Some (front ++ x ∷ [], more)
item_ends close item front n i ts behind more x h p s =
    let e : n - i ≡ suc (n - (i + 1)) = omega arith in
    ap (with_front front) (ap (λ k. items close item k ts) e
    ∙ ap (λ r. r >>= λ x. separator close x.1 >>= λ s. with_first x.0 (more_items s.0 (items close item (n - (i + 1))) s.1)) p
    ∙ ap (λ r. r >>= λ s. with_first x (more_items s.0 (items close item (n - (i + 1))) s.1)) s)

-- a turn that finds neither an end nor a comma behind its item finds nothing
pub separator_stops : {X : Type 0} (close : List ℕ) (item : List Lexeme → Found X) (front : List X) (n i : ℕ) (ts behind : List Lexeme) (x : X) → i < n → item ts ≡ Some (x, behind) → separator close behind ≡ None
    → with_front front (items close item (n - i) ts) ≡ None
separator_stops close item front n i ts behind x h p s =
    let e : n - i ≡ suc (n - (i + 1)) = omega arith in
    ap (with_front front) (ap (λ k. items close item k ts) e
    ∙ ap (λ r. r >>= λ x. separator close x.1 >>= λ s. with_first x.0 (more_items s.0 (items close item (n - (i + 1))) s.1)) p
    ∙ ap (λ r. r >>= λ s. with_first x (more_items s.0 (items close item (n - (i + 1))) s.1)) s)

-- a turn that finds an index or a selection goes on behind it
pub suffix_goes_on : (e : List Lexeme → Found Expr) (at n i : ℕ) (x y : Expr) (ts more : List Lexeme) → i < n → begins_suffix ts ≡ true → suffix_with e at x ts ≡ Some (y, more)
    → suffixes e at (n - i) x ts ≡ suffixes e at (n - (i + 1)) y more
suffix_goes_on e at n i x y ts more h b s =
    let k : n - i ≡ suc (n - (i + 1)) = omega arith in
    ap (λ k. suffixes e at k x ts) k ∙ ap (λ v. cond v (suffix_with e at x ts >>= λ z. suffixes e at (n - (i + 1)) z.0 z.1) (Some (x, ts))) b
    ∙ ap (λ r. r >>= λ z. suffixes e at (n - (i + 1)) z.0 z.1) s

-- one more member behind those in front is one less of the rest
pub member_more : (front : List Expr) (part : Bool) (m : Expr × Bool) (r : Found (List Expr × Bool)) → with_members front part (with_member m r) ≡ with_members (front ++ m.0 ∷ []) (part || m.1) r
member_more front part m None = refl
member_more front true m (Some r) = ap (λ xs. Some ((xs, true), r.1)) (sym (append_assoc front (m.0 ∷ []) r.0.0))
member_more front false m (Some r) = ap (λ xs. Some ((xs, m.1 || r.0.1), r.1)) (sym (append_assoc front (m.0 ∷ []) r.0.0))

-- a turn that finds a member and no closing quote puts it behind those in front
pub member_goes_on : (e : List Lexeme → Found Expr) (front : List Expr) (part : Bool) (n i : ℕ) (ts more : List Lexeme) (m : Expr × Bool) → i < n → mark kind.DqClose (codes "\"") ts ≡ None → member_with e ts ≡ Some (m, more)
    → with_members front part (members e (n - i) ts) ≡ with_members (front ++ m.0 ∷ []) (part || m.1) (members e (n - (i + 1)) more)
member_goes_on e front part n i ts more m h c s =
    let k : n - i ≡ suc (n - (i + 1)) = omega arith in
    ap (with_members front part) (ap (λ k. members e k ts) k ∙ ap (λ r. end_or_member e (members e (n - (i + 1))) r ts) c ∙ ap (λ r. r >>= λ m. with_member m.0 (members e (n - (i + 1)) m.1)) s)
    ∙ member_more front part m (members e (n - (i + 1)) more)

-- a bracket, an expression and the closing bracket are an index
pub index_step : (e : List Lexeme → Found Expr) (at : ℕ) (x : Expr) (ts : List Lexeme) (o : ℕ × List Lexeme) (k : Expr × List Lexeme) → mark kind.Tight (codes "[") ts ≡ Some o → enclosed_with e (codes "]") o.1 ≡ Some k
    → index_with e at x ts ≡ Some (record { at = at; form = form.Index x k.0 }, k.1)
unfolding index_with
index_step e at x ts o k p q =
    ap (λ r. r >>= λ o. enclosed_with e (codes "]") o.1 >>= λ key. Some (record { at = at; form = form.Index x key.0 }, key.1)) p
    ∙ ap (λ r. r >>= λ key. Some (record { at = at; form = form.Index x key.0 }, key.1)) q

-- an expression in `${` is a member
pub member_hole : (e : List Lexeme → Found Expr) (ts : List Lexeme) (t : Lexeme × List Lexeme) (x : Expr × List Lexeme) → front_of ts ≡ Some t → t.0.kind ≡ kind.Hole → part_with e ts ≡ Some x → member_with e ts ≡ Some ((x.0, true), x.1)
member_hole e ts t x p q s = ap (λ r. member_of e r ts) p ∙ ap (λ k. member_by e k t.0 t.1 ts) q ∙ ap (λ r. r >>= λ x. Some ((x.0, true), x.1)) s

-- a type's name and titles are a reference
pub reference_ref : (e : List Lexeme → Found Expr) (ts : List Lexeme) (t : Lexeme × List Lexeme) (x : List Expr × List Lexeme) → front_of ts ≡ Some t → t.0.kind ≡ kind.Ref → titles_with e t.1 ≡ Some x
    → reference_with e ts ≡ Some (record { at = t.0.at; form = form.Refer t.0.text x.0 }, x.1)
reference_ref e ts t x p q s = ap (λ r. reference_of e r) p ∙ ap (λ k. refer_by e k t.0 t.1) q ∙ ap (λ r. r >>= λ x. Some (record { at = t.0.at; form = form.Refer t.0.text x.0 }, x.1)) s

-- what stopped one step stops the whole
pub fails_through : {X Y : Type 0} (e : Misread) (r : Option X) (s : Option Y) → Fails e r → (r ≡ None → s ≡ None) → Fails e s
fails_through (misread.Form index) r s h f = f h
fails_through (misread.Memory m) r s h f = tt

-- an error that stops one step is answered where the reader finds nothing
pub gives_err : {X Y Z : Type 0} (view : X → Y) (r : Result X Misread) (e : Misread) (a : Option Z) (read : Option Y) → IsErrAnd r (λ d. d ≡ e) → Fails e a → (a ≡ None → read ≡ None) → Gives view r read
gives_err view (Ok x) e a read h f k = absurd h
gives_err view (Err d) e a read h f k = subst (λ (m : Misread). Fails m read) (sym h) (fails_through e a read f k)
