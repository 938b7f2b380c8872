-- Which levels apply, and which of them counts.
use Rattle.std.proofs.Common.{◌≡◌, ◌≢◌, ◌↔◌, ℕ, Bool, true, false, true≢false, cond, ◌&&◌, List, [], ◌∷◌, ◌++◌, filter, Option, Some, None, Result, Ok, Err, refl, ap, sym, ◌∙◌, subst}
use Rattle.std.specs.Option.{option_or, option_and_then}
use Rattle.std.specs.List.{list_all, AllByRecursion}
use Rattle.pp_value.specs.declared.fault.Misfit.{Misfit}
use Rattle.pp_value.specs.declared.value.Value.{Value}
use Rattle.pp_value.specs.declared.value.Value.TheVariants as v
use Rattle.pp_value.specs.Table.{equal_table}
use Rattle.pp_value.specs.Values.{Pair, value_at, passes, is_undef}
use Rattle.pp_data.specs.declared.data.Level.{Level}
use Rattle.pp_data.specs.Lookup.{gives_true, is_met, applies, unless_undef, value_in, first_value, lookup, IsMet, Applies, Gives, NoneGives, IsFirst, IsProperLevel}
use Rattle.pp_value.specs.Proper.{IsProper}
use Rattle.std.specs.Str.{bytes_eq}
use Rattle.std.proofs.lemmas.Bool.{and_parts}
use Rattle.std.proofs.lemmas.Option.{none-some}

-- ---- what applies

-- what is told to give true does
is_true : (r : Result Bool Misfit) → gives_true r ≡ true → r ≡ Ok true
is_true (Ok b) h = ap Ok h
is_true (Err m) h = absurd (true≢false (sym h))

-- a fact that is told to be met is
met : (facts : List Pair) (wanted : Pair) → is_met facts wanted ≡ true → IsMet facts wanted
met facts wanted h = at (value_at wanted.0 facts) refl h
  where
    at : (found : Option Value) → value_at wanted.0 facts ≡ found → passes (λ x. gives_true (equal_table x wanted.1)) found ≡ true → IsMet facts wanted
    at None e h = absurd (true≢false (sym h))
    at (Some x) e h = record { value = x; stands = e; same = is_true (equal_table x wanted.1) h }

-- and one that is met is told to be
is_met_by : (facts : List Pair) (wanted : Pair) → IsMet facts wanted → is_met facts wanted ≡ true
is_met_by facts wanted m = ap (passes (λ x. gives_true (equal_table x wanted.1))) m.stands ∙ ap gives_true m.same

-- facts that are told to be met are
all_met : (facts wants : List Pair) → list_all (is_met facts) wants ≡ true → AllByRecursion (IsMet facts) wants
all_met facts [] h = tt
all_met facts (w ∷ wants) h = let parts = and_parts (is_met facts w) (list_all (is_met facts) wants) h in (met facts w parts.0, all_met facts wants parts.1)

-- and those that are met are told to be
all_met_by : (facts wants : List Pair) → AllByRecursion (IsMet facts) wants → list_all (is_met facts) wants ≡ true
all_met_by facts [] h = refl
all_met_by facts (w ∷ wants) h = ap (λ t. t && list_all (is_met facts) wants) (is_met_by facts w h.0) ∙ all_met_by facts wants h.1

-- a level is told to apply exactly where each fact that it asks for is met
pub applies_where : (facts : List Pair) (level : Level) → (applies facts level ≡ true) ↔ Applies facts level
applies_where facts level = (all_met facts level.when, all_met_by facts level.when)

-- where one isn't met, not all are
one_unmet : (facts before behind : List Pair) (wanted : Pair) → is_met facts wanted ≡ false → list_all (is_met facts) (before ++ wanted ∷ behind) ≡ false
one_unmet facts [] behind wanted h = ap (λ t. t && list_all (is_met facts) behind) h
one_unmet facts (w ∷ before) behind wanted h = either (is_met facts w) (one_unmet facts before behind wanted h)
  where
    either : (a : Bool) {b : Bool} → b ≡ false → (a && b) ≡ false
    either true h = h
    either false h = refl

-- a level that asks for a fact which isn't met doesn't apply
kept_out : (facts : List Pair) (level : Level) (before behind : List Pair) (wanted : Pair) → level.when ≡ before ++ wanted ∷ behind → is_met facts wanted ≡ false → applies facts level ≡ false
kept_out facts level before behind wanted whole h = ap (list_all (is_met facts)) whole ∙ one_unmet facts before behind wanted h

-- nor does one that asks for a fact which isn't there
pub missing_out : (facts : List Pair) (level : Level) (before behind : List Pair) (wanted : Pair) → level.when ≡ before ++ wanted ∷ behind → value_at wanted.0 facts ≡ None → applies facts level ≡ false
missing_out facts level before behind wanted whole h = kept_out facts level before behind wanted whole (ap (passes (λ x. gives_true (equal_table x wanted.1))) h)

-- nor does one whose value can't be compared with the fact's
pub no_result_out : (facts : List Pair) (level : Level) (before behind : List Pair) (wanted : Pair) (x : Value) (m : Misfit) → level.when ≡ before ++ wanted ∷ behind → value_at wanted.0 facts ≡ Some x → equal_table x wanted.1 ≡ Err m → applies facts level ≡ false
no_result_out facts level before behind wanted x m whole stands none =
    kept_out facts level before behind wanted whole (ap (passes (λ x. gives_true (equal_table x wanted.1))) stands ∙ ap gives_true none)

-- ---- what one level gives

-- what is told to be undef is
undef_only : (x : Value) → is_undef x ≡ true → x ≡ v.Undef
undef_only v.Undef h = refl
undef_only (v.Bool b) h = absurd (true≢false (sym h))
undef_only (v.Int n) h = absurd (true≢false (sym h))
undef_only (v.Str text) h = absurd (true≢false (sym h))
undef_only (v.List' shape row) h = absurd (true≢false (sym h))
undef_only (v.Map' shape row) h = absurd (true≢false (sym h))
undef_only (v.Refer r) h = absurd (true≢false (sym h))
undef_only v.Opaque h = absurd (true≢false (sym h))

-- what stays without undef is the value, and is none
not_undef : (y x : Value) → unless_undef y ≡ Some x → (y ≡ x) × (x ≢ v.Undef)
not_undef y x h = at (is_undef y) refl h
  where
    at : (t : Bool) → is_undef y ≡ t → cond t None (Some y) ≡ Some x → (y ≡ x) × (x ≢ v.Undef)
    at true e h = absurd (none-some x h)
    at false e h = let same : y ≡ x = cc in (same, λ u. true≢false (sym (ap is_undef (same ∙ u)) ∙ e))

-- a value other than undef stays
is_kept : (x : Value) → x ≢ v.Undef → unless_undef x ≡ Some x
is_kept x other = at (is_undef x) refl
  where
    at : (t : Bool) → is_undef x ≡ t → cond t None (Some x) ≡ Some x
    at true e = absurd (other (undef_only x e))
    at false e = refl

-- what a level is told to have for a key stands there, and isn't undef
has_value : (key : List ℕ) (level : Level) (x : Value) → value_in key level ≡ Some x → (value_at key level.values ≡ Some x) × (x ≢ v.Undef)
has_value key level x h = at (value_at key level.values) refl h
  where
    at : (found : Option Value) → value_at key level.values ≡ found → option_and_then unless_undef found ≡ Some x → (value_at key level.values ≡ Some x) × (x ≢ v.Undef)
    at None e h = absurd (none-some x h)
    at (Some y) e h = let parts = not_undef y x h in (e ∙ ap Some parts.0, parts.1)

-- what a level gives: its value where it applies
abbrev pub given : List Pair → List ℕ → Level → Option Value
given facts key level = cond (applies facts level) (value_in key level) None

-- what a level is told to give it gives
gives : (facts : List Pair) (key : List ℕ) (level : Level) (x : Value) → given facts key level ≡ Some x → Gives facts key level x
gives facts key level x h = at (applies facts level) refl h
  where
    at : (t : Bool) → applies facts level ≡ t → cond t (value_in key level) None ≡ Some x → Gives facts key level x
    at true e h = let parts = has_value key level x h in record { applies = (applies_where facts level).0 e; stands = parts.0; other = parts.1 }
    at false e h = absurd (none-some x h)

-- and what it gives it is told to
is_given : (facts : List Pair) (key : List ℕ) (level : Level) (x : Value) → Gives facts key level x → given facts key level ≡ Some x
is_given facts key level x g = ap (λ t. cond t (value_in key level) None) ((applies_where facts level).1 g.applies) ∙ (ap (option_and_then unless_undef) g.stands ∙ is_kept x g.other)

-- where it is told to give nothing, it gives none
gives_none : (facts : List Pair) (key : List ℕ) (level : Level) → given facts key level ≡ None → (x : Value) → Gives facts key level x → ⊥
gives_none facts key level h x g = none-some x (sym h ∙ is_given facts key level x g)

-- and where it gives none, it is told so
none_given : (facts : List Pair) (key : List ℕ) (level : Level) → ((x : Value) → Gives facts key level x → ⊥) → given facts key level ≡ None
none_given facts key level h = at (given facts key level) refl
  where
    at : (o : Option Value) → given facts key level ≡ o → o ≡ None
    at None e = refl
    at (Some x) e = absurd (h x (gives facts key level x e))

-- ---- the first level

-- the first level is asked before the others
pub next_level : (level : Level) (levels : List Level) (facts : List Pair) (key : List ℕ) → lookup (level ∷ levels) facts key ≡ option_or (cond (applies facts level) (value_in key level) None) (lookup levels facts key)
next_level level levels facts key = at (applies facts level)
  where
    at : (t : Bool) → first_value key (cond t (level ∷ filter (applies facts) levels) (filter (applies facts) levels)) ≡ option_or (cond t (value_in key level) None) (first_value key (filter (applies facts) levels))
    at true = refl
    at false = refl

-- what is looked up is given by the first level that gives one
is_first : (levels : List Level) (facts : List Pair) (key : List ℕ) (x : Value) → lookup levels facts key ≡ Some x → IsFirst levels facts key x
is_first [] facts key x h = absurd (none-some x h)
is_first (level ∷ levels) facts key x h = at (given facts key level) refl (sym (next_level level levels facts key) ∙ h) (is_first levels facts key x)
  where
    at : (o : Option Value) → given facts key level ≡ o → option_or o (lookup levels facts key) ≡ Some x → (lookup levels facts key ≡ Some x → IsFirst levels facts key x) → IsFirst (level ∷ levels) facts key x
    at None e h later =
        let r = later h in
        record { before = level ∷ r.before; level = r.level; behind = r.behind; whole = ap (λ more. level ∷ more) r.whole; none_before = (gives_none facts key level e, r.none_before); gives = r.gives }
    at (Some y) e h later = record { before = []; level = level; behind = levels; whole = refl; none_before = tt; gives = gives facts key level x (e ∙ h) }

-- and what the first such level gives is looked up
first_found : (before : List Level) (level : Level) (behind : List Level) (facts : List Pair) (key : List ℕ) (x : Value) → NoneGives facts key before → Gives facts key level x → lookup (before ++ level ∷ behind) facts key ≡ Some x
first_found [] level behind facts key x n g = next_level level behind facts key ∙ ap (λ o. option_or o (lookup behind facts key)) (is_given facts key level x g)
first_found (b ∷ before) level behind facts key x n g =
    next_level b (before ++ level ∷ behind) facts key
    ∙ (ap (λ o. option_or o (lookup (before ++ level ∷ behind) facts key)) (none_given facts key b n.0) ∙ first_found before level behind facts key x n.1 g)

-- a value is looked up exactly where it is given by the first level that gives one
pub found_first : (levels : List Level) (facts : List Pair) (key : List ℕ) (x : Value) → (lookup levels facts key ≡ Some x) ↔ IsFirst levels facts key x
found_first levels facts key x = (
  is_first levels facts key x,
  λ f. ap (λ ls. lookup ls facts key) f.whole ∙ first_found f.before f.level f.behind facts key x f.none_before f.gives,
)

-- where nothing is looked up, no level gives a value
none_gives : (levels : List Level) (facts : List Pair) (key : List ℕ) → lookup levels facts key ≡ None → NoneGives facts key levels
none_gives [] facts key h = tt
none_gives (level ∷ levels) facts key h = at (given facts key level) refl (sym (next_level level levels facts key) ∙ h) (none_gives levels facts key)
  where
    at : (o : Option Value) → given facts key level ≡ o → option_or o (lookup levels facts key) ≡ None → (lookup levels facts key ≡ None → NoneGives facts key levels) → NoneGives facts key (level ∷ levels)
    at None e h later = (gives_none facts key level e, later h)
    at (Some y) e h later = absurd (none-some y (sym h))

-- and where none gives one, nothing is looked up
none_found : (levels : List Level) (facts : List Pair) (key : List ℕ) → NoneGives facts key levels → lookup levels facts key ≡ None
none_found [] facts key n = refl
none_found (level ∷ levels) facts key n =
    next_level level levels facts key ∙ (ap (λ o. option_or o (lookup levels facts key)) (none_given facts key level n.0) ∙ none_found levels facts key n.1)

-- nothing is looked up exactly where no level gives a value
pub found_none : (levels : List Level) (facts : List Pair) (key : List ℕ) → (lookup levels facts key ≡ None) ↔ NoneGives facts key levels
found_none levels facts key = (none_gives levels facts key, none_found levels facts key)

-- a level that doesn't apply may be left out
pub silent : (before behind : List Level) (level : Level) (facts : List Pair) (key : List ℕ) → applies facts level ≡ false → lookup (before ++ level ∷ behind) facts key ≡ lookup (before ++ behind) facts key
silent [] behind level facts key h = next_level level behind facts key ∙ ap (λ t. option_or (cond t (value_in key level) None) (lookup behind facts key)) h
silent (b ∷ before) behind level facts key h =
    next_level b (before ++ level ∷ behind) facts key ∙ (ap (option_or (given facts key b)) (silent before behind level facts key h) ∙ sym (next_level b (before ++ behind) facts key))

-- ---- what is found is proper

-- the value of a key is proper where all values are
key_proper : (key : List ℕ) (pairs : List Pair) (x : Value) → AllByRecursion (λ p. IsProper p.1) pairs → value_at key pairs ≡ Some x → IsProper x
key_proper key [] x h e = absurd (none-some x e)
key_proper key (p ∷ pairs) x h e = at (bytes_eq p.0 key) (key_proper key pairs x h.1) e
  where
    same : (a b : Value) → IsProper a → ◌≡◌ {A = Option Value} (Some a) (Some b) → IsProper b
    same a b k f = let is : a ≡ b = cc in subst IsProper is k

    at : (t : Bool) → (value_at key pairs ≡ Some x → IsProper x) → cond t (Some p.1) (value_at key pairs) ≡ Some x → IsProper x
    at true f k = same p.1 x h.0 k
    at false f k = f k

-- so it is without undef
in_proper : (o : Option Value) (x : Value) → ((y : Value) → o ≡ Some y → IsProper y) → option_and_then unless_undef o ≡ Some x → IsProper x
in_proper None x h e = absurd (none-some x e)
in_proper (Some y) x h e = at (is_undef y) e
  where
    same : (a b : Value) → IsProper a → ◌≡◌ {A = Option Value} (Some a) (Some b) → IsProper b
    same a b k f = let is : a ≡ b = cc in subst IsProper is k

    at : (t : Bool) → cond t None (Some y) ≡ Some x → IsProper x
    at true k = absurd (none-some x k)
    at false k = same y x (h y refl) k

-- so is one of two that are
either_proper : (o r : Option Value) (x : Value) → (o ≡ Some x → IsProper x) → (r ≡ Some x → IsProper x) → option_or o r ≡ Some x → IsProper x
either_proper None r x f g e = g e
either_proper (Some y) r x f g e = f e

-- what a proper level has for a key is proper
level_proper : (key : List ℕ) (level : Level) (x : Value) → IsProperLevel level → value_in key level ≡ Some x → IsProper x
level_proper key level x h e = in_proper (value_at key level.values) x (λ y k. key_proper key level.values y h.1.1 k) e

-- what is looked up in proper levels is proper
pub found_proper : (levels : List Level) (facts : List Pair) (key : List ℕ) (x : Value) → AllByRecursion IsProperLevel levels → lookup levels facts key ≡ Some x → IsProper x
found_proper [] facts key x h e = absurd (none-some x e)
found_proper (level ∷ levels) facts key x h e = at (applies facts level) (found_proper levels facts key x h.1) e
  where
    at : (t : Bool) → (first_value key (filter (applies facts) levels) ≡ Some x → IsProper x) → first_value key (cond t (level ∷ filter (applies facts) levels) (filter (applies facts) levels)) ≡ Some x → IsProper x
    at true f k = either_proper (value_in key level) (first_value key (filter (applies facts) levels)) x (level_proper key level x h.0) f k
    at false f k = f k

-- proper levels behind proper levels are proper
all_append : (levels more : List Level) → AllByRecursion IsProperLevel levels → AllByRecursion IsProperLevel more → AllByRecursion IsProperLevel (levels ++ more)
all_append [] more h k = k
all_append (level ∷ levels) more h k = (h.0, all_append levels more h.1 k)

-- so are they with one more
pub all_pushed : (levels new : List Level) (level : Level) → new ≡ levels ++ level ∷ [] → AllByRecursion IsProperLevel levels → IsProperLevel level → AllByRecursion IsProperLevel new
all_pushed levels new level e h k = subst (λ (ls : List Level). AllByRecursion IsProperLevel ls) (sym e) (all_append levels (level ∷ []) h (k, tt))
