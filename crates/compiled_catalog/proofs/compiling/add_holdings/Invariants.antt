use Rattle.std.proofs.Common.{◌≡◌, ◌++◌, drop, filter, map}
use Rattle.compiled_text.specs.Compiled.{is_class_at}
use Rattle.compiled_catalog.specs.Catalogs.{holdings_of, holding_of}
use Rattle.compiled_catalog.proofs.compiling.add_holdings.Given as goal

-- the holdings so far, with those of the edges that are left
abbrev pub invariant-loop-e : goal.invariant-loop-e
invariant-loop-e l =
    record l.catalog { holdings = l.catalog.holdings ++ map holding_of (filter (λ e. is_class_at l.compiled.resources e.inner) (drop l.e-index l.compiled.edges)) }
    ≡ record l.fn.catalog { holdings = l.fn.catalog.holdings ++ holdings_of l.compiled }
