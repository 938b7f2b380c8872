-- The wish of each form of a search, by those of the searches in it.
use Rattle.std.proofs.Common.{◌≡◌, ℕ, List, [], ◌∷◌, ◌++◌, map, refl, sym, ap, ◌∙◌, append_assoc}
use Rattle.std.specs.Prelude.{Result, Ok, Err}
use Rattle.rh_base.specs.declared.fault.Refusal.{Refusal}
use Rattle.pp_syntax.specs.declared.tree.Expr.{Expr}
use Rattle.pp_syntax.specs.declared.tree.Search.{Search, Search-F, fold-roll-Search, roll-Search, map-Search}
use Rattle.pp_syntax.specs.declared.tree.Search.TheOpen as plain
use Rattle.pp_syntax.specs.declared.tree.Search.TheVariants as search
use Rattle.pp_syntax.specs.declared.tree.Search.TheVariants.{rolls-Or, rolls-And, rolls-Equal, rolls-Differ}
use Rattle.pp_eval.specs.Evaluating.{◌>>=◌}
use Rattle.pp_eval.specs.Scoping.{Scoped}
use Rattle.catalog_semantics.specs.declared.state.Wish.{Wish}
use Rattle.catalog_semantics.specs.declared.state.Wish.TheVariants as wish
use Rattle.catalog_semantics.specs.Collecting.{comparable, all_of, wish_by, wish_in}

-- the wish of a search is that of its first step
rolled : (s : Scoped) (d : Search-F Search) → wish_in s (roll-Search d) ≡ wish_by s (map-Search Search (Result Wish Refusal) (wish_in s) d)
unfolding wish_in
rolled s d = fold-roll-Search (Result Wish Refusal) (wish_by s) d

-- so it is of a search that is one
of : (s : Scoped) (x : Search) (d : Search-F Search) → roll-Search d ≡ x → wish_in s x ≡ wish_by s (map-Search Search (Result Wish Refusal) (wish_in s) d)
of s x d is = sym (ap (wish_in s) is) ∙ rolled s d

-- the wish of `or`
pub wish_or : (s : Scoped) (all : List Search) → wish_in s (search.Or all) ≡ (all_of (map (wish_in s) all) >>= λ wishes. Ok (wish.Or wishes))
wish_or s all = of s (search.Or all) (plain.Or all) (rolls-Or all)

-- the wish of `and`
pub wish_and : (s : Scoped) (all : List Search) → wish_in s (search.And all) ≡ (all_of (map (wish_in s) all) >>= λ wishes. Ok (wish.And wishes))
wish_and s all = of s (search.And all) (plain.And all) (rolls-And all)

-- the wish of `==`
pub wish_equal : (s : Scoped) (name : List ℕ) (value : Expr) → wish_in s (search.Equal name value) ≡ (comparable s value >>= λ x. Ok (wish.Equal name x))
wish_equal s name value = of s (search.Equal name value) (plain.Equal name value) (rolls-Equal name value)

-- the wish of `!=`
pub wish_differ : (s : Scoped) (name : List ℕ) (value : Expr) → wish_in s (search.Differ name value) ≡ (comparable s value >>= λ x. Ok (wish.Differ name x))
wish_differ s name value = of s (search.Differ name value) (plain.Differ name value) (rolls-Differ name value)

-- ---- from the left

-- the wishes that are found, behind these
abbrev pub behind : List Wish → Result (List Wish) Refusal → Result (List Wish) Refusal
behind before r = r >>= λ xs. Ok (before ++ xs)

-- behind none they are as they are found
pub nothing_before : (r : Result (List Wish) Refusal) → behind [] r ≡ r
nothing_before (Ok xs) = refl
nothing_before (Err e) = refl

-- one more wish in front is one less to find
pub next_wish : (before : List Wish) (x : Wish) (r : Result (List Wish) Refusal) → behind before (r >>= λ xs. Ok (x ∷ xs)) ≡ behind (before ++ x ∷ []) r
next_wish before x (Ok xs) = ap (λ (ys : List Wish). Ok ys) (sym (append_assoc before (x ∷ []) xs))
next_wish before x (Err e) = refl
