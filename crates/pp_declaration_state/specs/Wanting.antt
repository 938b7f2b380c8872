-- References that are to be realized.
use Rattle.std.specs.Prelude.{ℕ}
use Rattle.pp_value.specs.declared.value.Ref.{Ref}
use Rattle.catalog_semantics.specs.declared.state.Pending.{Pending}

-- a reference that is to be realized, by what stands at a place
abbrev pub wanted_at : ℕ → Ref → Pending
wanted_at at ref = record { target = ref; at = at }
