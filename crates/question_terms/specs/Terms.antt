-- The terms of a question.
use Rattle.std.specs.Prelude.{ℕ, ◌-◌, ◌^◌, ◌==◌, if◌then◌else◌, Option, Some, None}

-- Without a limit the budget is the greatest u64, which stands for none; a budget of 0 counts as 1.
abbrev pub budget_of : Option ℕ → ℕ
budget_of None = 2 ^ 64 - 1
budget_of (Some conflicts) = if conflicts == 0 then 1 else conflicts
