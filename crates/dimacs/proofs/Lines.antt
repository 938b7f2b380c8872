-- The lines of values, one after the other.
use Rattle.std.proofs.Common.{◌≡◌, ℕ, ◌+◌, ◌<◌, ◌≤◌, Bool, List, ◌++◌, length, drop, get_or, sym, ap, ◌∙◌, append_assoc}
use Rattle.std.specs.Prelude.{codes}
use Rattle.std.proofs.lemmas.List.{drop_more, at_drop_all}
use Rattle.dimacs.specs.Dimacs.{value_line, value_lines}

-- the lines of the values from one on are its line and those of the others
pub values_more : (out : List ℕ) (values : List Bool) (i : ℕ) (d : Bool) → i < length values
    → (out ++ value_line (i + 1) (get_or values i d)) ++ value_lines (i + 1 + 1) (drop (i + 1) values) ≡ out ++ value_lines (i + 1) (drop i values)
values_more out values i d h =
    append_assoc out (value_line (i + 1) (get_or values i d)) (value_lines (i + 1 + 1) (drop (i + 1) values))
    ∙ ap (λ (t : List ℕ). out ++ t) (ap (value_lines (i + 1)) (sym (drop_more values i d h)))

-- behind the last value stands the last line
pub values_end : (out : List ℕ) (values : List Bool) (i : ℕ) → length values ≤ i → out ++ value_lines (i + 1) (drop i values) ≡ out ++ codes "v 0\n"
values_end out values i h = ap (λ (t : List ℕ). out ++ t) (at_drop_all (value_lines (i + 1)) values i h)
